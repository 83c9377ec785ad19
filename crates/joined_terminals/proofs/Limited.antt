-- What a step of an answerer with limits is: silence, or a step of its own, or one as if it had been busy before.
use Rattle.std.proofs.Common.{◌≡◌, Bool, true, false, cond, Some, None, refl, ap, sym, ◌∙◌}
use Rattle.std.specs.Prelude.{◌&&◌, ◌||◌}
use Rattle.signals.specs.Signals.{dcn}
use Rattle.stations.specs.AnswererStep.{Answerer, AnswererAnswer, answerer_silent, answerer_step, answerer_table, leaves, unless_answerer_ended}
use Rattle.stations.specs.Inputs.{AnswererInput, is_busy, listens}
use Rattle.stations.specs.Limiting.{BusyBefore, IsNoBusy, busy_answer, busy_while, filled, is_full, is_kept_out, limited_step}
use Rattle.stations.specs.declared.limiting.Limits.{Limits}
use Rattle.stations.specs.declared.turn.AnswererState.{AnswererState}
use Rattle.stations.specs.declared.turn.AnswererState.TheVariants.{PhaseB, WaitTraining, Message}
use Rattle.stations.specs.declared.turn.End.{End}
use Rattle.stations.specs.declared.turn.Turn.TheVariants.{Silent}

-- the three kinds of step with limits
pub data LimitedIs (s : Answerer) (input : AnswererInput) (answer : AnswererAnswer) : Type 0 where
  out : answer ≡ answerer_silent s → LimitedIs s input answer
  own : (full : Bool) → answer ≡ answerer_step s (busy_while full input) → LimitedIs s input answer
  busied : answer ≡ answerer_step (record s { busy = true }) (busy_while false input) → LimitedIs s input answer

-- an answerer that runs is told whether it is busy
told_in : (s : Answerer) (busy : Bool) (state : AnswererState) →
    answerer_table state (is_busy busy) s ≡ record { next = record s { busy = busy }; turn = Silent }
told_in s busy PhaseB = refl
told_in s busy WaitTraining = refl
told_in s busy Message = refl

pub told : (s : Answerer) (busy : Bool) → s.ending ≡ None →
    answerer_step s (is_busy busy) ≡ record { next = record s { busy = busy }; turn = Silent }
told s busy runs = ap (λ e. unless_answerer_ended e (is_busy busy) s) runs ∙ told_in s busy s.state

-- an answerer that has ended is silent
pub ended : (s : Answerer) (why : End) (input : AnswererInput) → s.ending ≡ Some why → answerer_step s input ≡ answerer_silent s
ended s why input over = ap (λ e. unless_answerer_ended e input s) over

-- what fills an answerer isn't whether it is busy
quiet :
    (limits : Limits) (s : Answerer) (input : AnswererInput) → s.ending ≡ None → is_full limits s.pages ≡ false →
    is_full limits (answerer_step s (busy_while false input)).next.pages ≡ true → IsNoBusy (busy_while false input)
quiet limits s (is_busy busy) runs before after =
    let same : is_full limits (answerer_step s (is_busy (busy || false))).next.pages ≡ is_full limits s.pages =
    ap (λ (a : AnswererAnswer). is_full limits a.next.pages) (told s (busy || false) runs) in
    let no : true ≡ false = sym after ∙ (same ∙ before) in cc
quiet limits s _ runs before after = tt

pub limited_is : BusyBefore → (limits : Limits) (s : Answerer) (input : AnswererInput) → s.ending ≡ None →
    LimitedIs s input (limited_step limits s input)
limited_is busy_before limits s input runs = at (is_full limits s.pages) refl (is_kept_out s input)
  where
    fills : (t : Bool) → is_full limits s.pages ≡ false → is_full limits (answerer_step s (busy_while false input)).next.pages ≡ t →
        LimitedIs s input (cond t (busy_answer (answerer_step s (busy_while false input))) (answerer_step s (busy_while false input)))
    fills true before after = busied (sym (busy_before s (busy_while false input) (quiet limits s input runs before after)))
    fills false before after = own false refl

    at : (full : Bool) → is_full limits s.pages ≡ full → (kept : Bool) →
        LimitedIs s input (cond (full && kept) (answerer_silent s)
        (filled full (is_full limits (answerer_step s (busy_while full input)).next.pages) (answerer_step s (busy_while full input))))
    at true e true = out refl
    at true e false = own true refl
    at false e kept = fills (is_full limits (answerer_step s (busy_while false input)).next.pages) e refl

-- an answerer with limits that has ended is silent
pub limited_ended : (limits : Limits) (s : Answerer) (why : End) (input : AnswererInput) → s.ending ≡ Some why →
    limited_step limits s input ≡ answerer_silent s
limited_ended limits s why input over = at (is_full limits s.pages) refl (is_kept_out s input)
  where
    same : (t : Bool) → t ≡ false → (answer : AnswererAnswer) → answer ≡ answerer_silent s → cond t (busy_answer answer) answer ≡ answerer_silent s
    same true e answer is = cc
    same false e answer is = is

    at : (full : Bool) → is_full limits s.pages ≡ full → (kept : Bool) →
        cond (full && kept) (answerer_silent s)
        (filled full (is_full limits (answerer_step s (busy_while full input)).next.pages) (answerer_step s (busy_while full input))) ≡
        answerer_silent s
    at true e true = refl
    at true e false = ended s why (busy_while true input) over
    at false e kept =
        same (is_full limits (answerer_step s (busy_while false input)).next.pages)
        (ap (λ (a : AnswererAnswer). is_full limits a.next.pages) (ended s why (busy_while false input) over) ∙ e)
        (answerer_step s (busy_while false input)) (ended s why (busy_while false input) over)

-- an answerer that runs leaves at a DCN
dcn_in : (s : Answerer) (state : AnswererState) →
    answerer_table state (listens dcn) s ≡ record { next = record s { ending = Some (leaves s.accepted) }; turn = Silent }
dcn_in s PhaseB = refl
dcn_in s WaitTraining = refl
dcn_in s Message = refl

abbrev leaving : Answerer → AnswererAnswer
leaving s = record { next = record s { ending = Some (leaves s.accepted) }; turn = Silent }

hears_dcn : (s : Answerer) → s.ending ≡ None → answerer_step s (listens dcn) ≡ leaving s
hears_dcn s runs = ap (λ e. unless_answerer_ended e (listens dcn) s) runs ∙ dcn_in s s.state

pub limited_leaves : (limits : Limits) (s : Answerer) → s.ending ≡ None →
    limited_step limits s (listens dcn) ≡ record { next = record s { ending = Some (leaves s.accepted) }; turn = Silent }
limited_leaves limits s runs = at (is_full limits s.pages) refl
  where
    same : (t : Bool) → t ≡ false → (answer : AnswererAnswer) → answer ≡ leaving s → cond t (busy_answer answer) answer ≡ leaving s
    same true e answer is = cc
    same false e answer is = is

    at : (full : Bool) → is_full limits s.pages ≡ full →
        cond (full && false) (answerer_silent s)
        (filled full (is_full limits (answerer_step s (listens dcn)).next.pages) (answerer_step s (listens dcn))) ≡
        leaving s
    at true e = hears_dcn s runs
    at false e =
        same (is_full limits (answerer_step s (listens dcn)).next.pages)
        (ap (λ (a : AnswererAnswer). is_full limits a.next.pages) (hears_dcn s runs) ∙ e) (answerer_step s (listens dcn)) (hears_dcn s runs)
