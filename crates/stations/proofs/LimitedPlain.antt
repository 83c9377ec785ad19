-- An answerer with limits, by the inputs of one without.
use Rattle.std.proofs.Common.{◌≡◌, Bool, true, false, not, cond, None, [], ◌∷◌, refl, sym, ap, ◌∙◌}
use Rattle.std.specs.Prelude.{◌&&◌, ◌||◌}
use Rattle.stations.specs.AnswererStep.{Answerer, AnswererAnswer, answerer_silent, answerer_step, answerer_table, unless_answerer_ended}
use Rattle.stations.specs.Inputs.{AnswererInput, is_busy}
use Rattle.stations.specs.LimitedRuns.{LimitedIsPlain}
use Rattle.stations.specs.Limiting.{is_full, is_kept_out, busy_while, filled, busy_answer, IsNoBusy}
use Rattle.stations.specs.Runs.{answerer_after}
use Rattle.stations.specs.declared.limiting.Limits.{Limits}
use Rattle.stations.specs.declared.turn.AnswererState.{AnswererState}
use Rattle.stations.specs.declared.turn.AnswererState.TheVariants.{PhaseB, WaitTraining, Message}
use Rattle.stations.specs.declared.turn.Turn.TheVariants.{Silent}
use Rattle.stations.proofs.BusyBefore.{busy_before}

pub told_in : (s : Answerer) (busy : Bool) (state : AnswererState) →
    answerer_table state (is_busy busy) s ≡ record { next = record s { busy = busy }; turn = Silent }
told_in s busy PhaseB = refl
told_in s busy WaitTraining = refl
told_in s busy Message = refl

-- one that runs is as busy as it is told
told : (s : Answerer) (busy : Bool) → s.ending ≡ None → answerer_step s (is_busy busy) ≡ record { next = record s { busy = busy }; turn = Silent }
told s busy runs = ap (λ e. unless_answerer_ended e (is_busy busy) s) runs ∙ told_in s busy s.state

-- what fills an answerer isn't whether it is busy
quiet :
    (limits : Limits) (s : Answerer) (input : AnswererInput) → s.ending ≡ None → is_full limits s.pages ≡ false →
    is_full limits (answerer_step s (busy_while false input)).next.pages ≡ true → IsNoBusy (busy_while false input)
quiet limits s (is_busy busy) runs before after =
    let same : is_full limits (answerer_step s (is_busy (busy || false))).next.pages ≡ is_full limits s.pages =
    ap (λ (a : AnswererAnswer). is_full limits a.next.pages) (told s (busy || false) runs) in
    let no : true ≡ false = sym after ∙ (same ∙ before) in cc
quiet limits s _ runs before after = tt

fills :
    (limits : Limits) (s : Answerer) (input : AnswererInput) (t : Bool) → s.ending ≡ None → is_full limits s.pages ≡ false →
    is_full limits (answerer_step s (busy_while false input)).next.pages ≡ t →
    (cond t (busy_answer (answerer_step s (busy_while false input))) (answerer_step s (busy_while false input))).next ≡
    answerer_after (cond t (is_busy true ∷ busy_while false input ∷ []) (busy_while false input ∷ [])) s
fills limits s input true runs before after =
    sym (ap (λ (a : AnswererAnswer). (answerer_step a.next (busy_while false input)).next) (told s true runs) ∙
    ap (λ (a : AnswererAnswer). a.next) (busy_before s (busy_while false input) (quiet limits s input runs before after)))
fills limits s input false runs before after = refl

pub limited_is_plain : LimitedIsPlain
limited_is_plain limits s input runs = at (is_full limits s.pages) refl (is_kept_out s input)
  where
    at : (full : Bool) → is_full limits s.pages ≡ full → (kept : Bool) →
        (cond (full && kept) (answerer_silent s)
        (filled full (is_full limits (answerer_step s (busy_while full input)).next.pages) (answerer_step s (busy_while full input)))).next ≡
        answerer_after (cond (full && kept) []
        (cond (not full && is_full limits (answerer_step s (busy_while full input)).next.pages)
        (is_busy true ∷ busy_while full input ∷ []) (busy_while full input ∷ []))) s
    at true e true = refl
    at true e false = refl
    at false e kept = fills limits s input (is_full limits (answerer_step s (busy_while false input)).next.pages) runs e refl
