-- What an answerer answers: each turn, always, and nothing else.
use Rattle.std.proofs.Common.{◌≡◌, ◌≢◌, ℕ, zero, suc, ◌≤◌, ◌++◌, inl, inr, Bool, true, false, cond, not, Option, Some, None, List, [], ◌∷◌}
use Rattle.std.proofs.Common.{refl, sym, subst, ap, ◌∙◌, arith, Contains, length, IsSome}
use Rattle.std.specs.Prelude.{nat_le, is_some, ◌⊎◌}
use Rattle.std.specs.List.{list_all}
use Rattle.std.proofs.lemmas.Bool.{and_left, and_right, leb-true, false_from_ne_true}
use Rattle.raster.specs.Pages.{PagePixels}
use Rattle.signals.specs.Agreement.{allowed}
use Rattle.signals.specs.Signals.{dcs, fcd, pps, rr, dcn}
use Rattle.signals.specs.declared.params.Params.{Params}
use Rattle.signals.specs.declared.signal.PageEnd.{PageEnd}
use Rattle.signals.specs.declared.signal.PageEnd.TheVariants.{Null, Mps, Eom, Eop}
use Rattle.partial_page.specs.Frames.{frame_size}
use Rattle.partial_page.specs.Store.{has_frame}
use Rattle.stations.specs.Layers.{within_page_limit, is_good_training}
use Rattle.partial_page.specs.Assembling.{within_frame_size}
use Rattle.stations.specs.Inputs.{AnswererInput, listens, trains, t2, t1, is_busy}
use Rattle.stations.specs.AnswererStep.{Answerer, AnswererAnswer, answerer_table, unless_answerer_ended, answerer_step}
use Rattle.partial_page.specs.Assembling.{Frames}
use Rattle.stations.specs.AnswererStep.{answerer_silent}
use Rattle.stations.specs.AnswererStep.{is_clear, is_repeated, takes_block, stores, answers_pps}
use Rattle.partial_page.specs.Assembling.{all_there, last_counted}
use Rattle.stations.specs.AnswererStep.{accepts, confirms, answers_rr, answers_repeated}
use Rattle.stations.specs.EndsMean.{IsAccepted}
use Rattle.stations.specs.TurnsMean.{listens_in, HasOpen, IsIgnored, AnswerersHearNothingElse, Confirms}
use Rattle.partial_page.specs.Assembling.{IsTooLong}
use Rattle.stations.specs.TurnsMean.{AnswerersAlwaysAnswer, AfterBlock, AnswererSends, AnswerersTurnsMean}
use Rattle.signals.specs.declared.mark.Mark.{Mark}
use Rattle.stations.specs.declared.mark.Accepted.{Accepted}
use Rattle.stations.specs.declared.turn.AnswererState.{AnswererState}
use Rattle.stations.specs.declared.turn.AnswererState.TheVariants.{PhaseB, WaitTraining, Message}
use Rattle.stations.specs.declared.turn.End.{End}
use Rattle.stations.specs.declared.turn.Turn.TheVariants.{Silent, Dis as SendDis, Cfr as SendCfr, Ftt as SendFtt, Mcf as SendMcf}
use Rattle.stations.specs.declared.turn.Turn.TheVariants.{Rnr as SendRnr}
use Rattle.stations.proofs.Lists.{found}
use Rattle.stations.proofs.AnswerersEnds.{table_step, repeated_is, is_repeated_by}

either : {A : Type 0} (P : A → Type 0) (b : Bool) (x y : A) → (b ≡ true → P x) → (b ≡ false → P y) → P (cond b x y)
either P true x y f g = f refl
either P false x y f g = g refl

-- states are the same
abbrev pub same_state : AnswererState → AnswererState → Bool
same_state PhaseB PhaseB = true
same_state WaitTraining WaitTraining = true
same_state Message Message = true
same_state _ _ = false

same_refl : (state : AnswererState) → same_state state state ≡ true
same_refl PhaseB = refl
same_refl WaitTraining = refl
same_refl Message = refl

abbrev Unnamed : AnswererState → AnswererInput → Answerer → Type 0
Unnamed state input s = (¬ Contains (listens_in input) state) × (answerer_table state input s ≡ answerer_silent s)

rows : (state : AnswererState) (input : AnswererInput) (s : Answerer) → Contains (listens_in input) state ⊎ Unnamed state input s
rows PhaseB (listens (dcs params)) s = inl (0, omega arith, refl)
rows WaitTraining (listens (dcs params)) s = inl (1, omega arith, refl)
rows Message (listens (dcs params)) s = inl (2, omega arith, refl)
rows Message (listens (fcd number octets)) s = inl (0, omega arith, refl)
rows PhaseB (listens (pps ends page block last)) s = inl (0, omega arith, refl)
rows WaitTraining (listens (pps ends page block last)) s = inl (1, omega arith, refl)
rows Message (listens (pps ends page block last)) s = inl (2, omega arith, refl)
rows PhaseB (listens rr) s = inl (0, omega arith, refl)
rows WaitTraining (listens rr) s = inl (1, omega arith, refl)
rows Message (listens rr) s = inl (2, omega arith, refl)
rows PhaseB (listens dcn) s = inl (0, omega arith, refl)
rows WaitTraining (listens dcn) s = inl (1, omega arith, refl)
rows Message (listens dcn) s = inl (2, omega arith, refl)
rows WaitTraining (trains octets) s = inl (0, omega arith, refl)
rows PhaseB t2 s = inl (0, omega arith, refl)
rows WaitTraining t2 s = inl (1, omega arith, refl)
rows PhaseB t1 s = inl (0, omega arith, refl)
rows WaitTraining t1 s = inl (1, omega arith, refl)
rows Message t1 s = inl (2, omega arith, refl)
rows PhaseB (is_busy busy) s = inl (0, omega arith, refl)
rows WaitTraining (is_busy busy) s = inl (1, omega arith, refl)
rows Message (is_busy busy) s = inl (2, omega arith, refl)
rows state input s = inr ((λ n. let e : false ≡ true = found same_state same_refl (listens_in input) state n in cc), refl)

-- no frame is open, by each number
none_open : (frames : Frames) (number : ℕ) → list_all (λ frame. not (is_some frame)) frames ≡ true → has_frame frames number ≡ true → ⊥
none_open [] number e some = cc
none_open (Some octets ∷ frames) zero e some = cc
none_open (None ∷ frames) zero e some = cc
none_open (Some octets ∷ frames) (suc number) e some = cc
none_open (None ∷ frames) (suc number) e some = none_open frames number e some

clear_by_each : (frames : Frames) → ((number : ℕ) → has_frame frames number ≡ true → ⊥) →
    list_all (λ frame. not (is_some frame)) frames ≡ true
clear_by_each [] none = refl
clear_by_each (Some octets ∷ frames) none = absurd (none 0 refl)
clear_by_each (None ∷ frames) none = clear_by_each frames (λ n. none (suc n))

not_clear : (s : Answerer) → HasOpen s → is_clear s.frames ≡ false
unfolding is_clear
not_clear s some = false_from_ne_true (is_clear s.frames) (λ e. none_open s.frames some.0 e some.1)

clear : (s : Answerer) → (¬ HasOpen s) → is_clear s.frames ≡ true
unfolding is_clear
clear s none = clear_by_each s.frames (λ n e. none (n, e))

pub too_long : (params : Params) (octets : List ℕ) → IsTooLong params octets → within_frame_size params octets ≡ false
unfolding within_frame_size
too_long params octets h = false_from_ne_true (nat_le (length octets) (frame_size params.small))
    (λ e. longer (leb-true (length octets) (frame_size params.small) e) h)
  where
    longer : length octets ≤ frame_size params.small → IsTooLong params octets → ⊥
    longer few (inl small) = omega (arith, subst (λ b. length octets ≤ frame_size b) small.0 few, small.1)
    longer few (inr great) = omega (arith, subst (λ b. length octets ≤ frame_size b) great.0 few, great.1)

unrepeated : (s : Answerer) (page block : ℕ) → (¬ IsAccepted s page block) →
    answers_repeated s (record { page = page; block = block }) ≡ answerer_silent s
unrepeated s page block none =
    let mark : Mark = record { page = page; block = block } in
    let e : is_repeated s.accepted mark ≡ false =
    false_from_ne_true (is_repeated s.accepted mark) (λ e. none (repeated_is s page block s.accepted refl e)) in
    rw e refl

unanswered : (s : Answerer) → (s.accepted ≡ None) ⊎ HasOpen s → answers_rr s ≡ answerer_silent s
unanswered s (inl none) = rw (and_left (is_some s.accepted) (is_clear s.frames) (ap is_some none)) refl
unanswered s (inr some) = rw (and_right (is_some s.accepted) (is_clear s.frames) (not_clear s some)) refl

-- what is ignored is silent, in each state
ignored : (state : AnswererState) (input : AnswererInput) (s : Answerer) → s.state ≡ state → IsIgnored s input →
    answerer_table state input s ≡ answerer_silent s
ignored PhaseB (listens (dcs params)) s is h = rw h refl
ignored WaitTraining (listens (dcs params)) s is h = rw h refl
ignored Message (listens (dcs params)) s is h = rw h refl
ignored PhaseB (listens (fcd number octets)) s is h = refl
ignored WaitTraining (listens (fcd number octets)) s is h = refl
ignored Message (listens (fcd number octets)) s is h = rw (too_long s.params octets h) refl
ignored PhaseB (listens (pps ends page block last)) s is h = unrepeated s page block h.1
ignored WaitTraining (listens (pps ends page block last)) s is h = unrepeated s page block h.1
ignored Message (listens (pps ends page block last)) s is h = absurd (h.0 is)
ignored PhaseB (listens rr) s is h = unanswered s h
ignored WaitTraining (listens rr) s is h = unanswered s h
ignored Message (listens rr) s is h = unanswered s h
ignored state input s is h = absurd h

pub answerers_hear_nothing_else : AnswerersHearNothingElse
answerers_hear_nothing_else s input h = by_end s.ending
  where
    by_end : (ending : Option End) → unless_answerer_ended ending input s ≡ answerer_silent s
    by_end (Some why) = refl
    by_end None =
        elim h [
          | inr i ↦ ignored s.state input s refl i
          | inl none ↦ elim (rows s.state input s) [ inl named ↦ absurd (none named) | inr other ↦ other.1 ]
        ]

-- what confirms by the table confirms
confirmed : (s : Answerer) (input : AnswererInput) → s.ending ≡ None →
    answerer_table s.state input s ≡ record { next = s; turn = confirms s } →
    Confirms s (answerer_step s input)
confirmed s input runs e =
    subst (Confirms s) (sym (table_step s s.state input input runs refl refl ∙ e))
    (record { same = refl; free = λ f. ap (λ b. cond b SendRnr SendMcf) f; busy = λ b. ap (λ b. cond b SendRnr SendMcf) b })

repeats : (s : Answerer) (state : AnswererState) (ends : PageEnd) (page block last : ℕ) → IsAccepted s page block →
    answerer_table state (listens (pps ends page block last)) s ≡ record { next = s; turn = confirms s }
repeats s PhaseB ends page block last h = rw (is_repeated_by s page block h) refl
repeats s WaitTraining ends page block last h = rw (is_repeated_by s page block h) refl
repeats s Message ends page block last h = rw (is_repeated_by s page block h) refl

some_is : (accepted : Option Accepted) → IsSome accepted → is_some accepted ≡ true
some_is None h = cc
some_is (Some accepted) h = refl

asks : (s : Answerer) (state : AnswererState) → IsSome s.accepted → (¬ HasOpen s) →
    answerer_table state (listens rr) s ≡ record { next = s; turn = confirms s }
asks s PhaseB some none = rw (some_is s.accepted some, clear s none) refl
asks s WaitTraining some none = rw (some_is s.accepted some, clear s none) refl
asks s Message some none = rw (some_is s.accepted some, clear s none) refl

waits : (s : Answerer) (state : AnswererState) → state ≢ Message → (answerer_table state t2 s).turn ≡ SendDis
waits s PhaseB other = refl
waits s WaitTraining other = refl
waits s Message other = absurd (other refl)

mcf_or_rnr : (busy : Bool) → cond busy SendRnr SendMcf ≢ Silent
mcf_or_rnr true e = cc
mcf_or_rnr false e = cc

-- a block that is all there is answered
abbrev Answered : AnswererAnswer → Type 0
Answered answer = answer.turn ≢ Silent

stores_answered : (s : Answerer) (ends : PageEnd) (mark : Mark) (read : Option PagePixels) → Answered (stores s ends mark read)
stores_answered s ends mark None e = cc
stores_answered s ends mark (Some page) e = mcf_or_rnr s.busy e

takes_answered : (s : Answerer) (ends : PageEnd) (mark : Mark) (octets : List ℕ) → Answered (takes_block s ends mark octets)
takes_answered s Null mark octets = either Answered (within_page_limit octets) _ _ (λ e. mcf_or_rnr s.busy) (λ e f. cc)
takes_answered s Mps mark octets = stores_answered s Mps mark _
takes_answered s Eom mark octets = stores_answered s Eom mark _
takes_answered s Eop mark octets = stores_answered s Eop mark _

pps_answered : (s : Answerer) (ends : PageEnd) (mark : Mark) (last : ℕ) → Answered (answers_pps s ends mark last)
pps_answered s ends mark last =
    either Answered (is_repeated s.accepted mark) _ _ (λ e. mcf_or_rnr s.busy)
    (λ e. either Answered (all_there s.frames (last_counted s.asked mark last)) _ _ (λ f. takes_answered s ends mark _) (λ f g. cc))

-- what a training check is answered by
abbrev judged : Answerer → Bool → AnswererAnswer
judged s good =
    cond good (record { next = record s { state = Message }; turn = SendCfr })
    (record { next = record s { state = PhaseB }; turn = SendFtt })

pub answerers_always_answer : AnswerersAlwaysAnswer
answerers_always_answer s runs = record {
  repeated = λ ends page block last h. confirmed s (listens (pps ends page block last)) runs (repeats s s.state ends page block last h);
  asked = λ some none. confirmed s (listens rr) runs (asks s s.state some none);
  waited = λ other. ap (λ (a : AnswererAnswer). a.turn) (table_step s s.state t2 t2 runs refl refl) ∙ waits s s.state other;
  trained = λ octets is good.
      ap (λ (a : AnswererAnswer). a.turn) (table_step s WaitTraining (trains octets) (trains octets) runs is refl)
      ∙ ap (λ b. (judged s b).turn) good;
  failed = λ octets is bad.
      ap (λ (a : AnswererAnswer). a.turn) (table_step s WaitTraining (trains octets) (trains octets) runs is refl)
      ∙ ap (λ b. (judged s b).turn) bad;
  block = λ ends page block last is.
      subst Answered (sym (table_step s Message (listens (pps ends page block last)) (listens (pps ends page block last)) runs is refl))
      (pps_answered s ends (record { page = page; block = block }) last);
}

-- an answer says its turn
abbrev Says : Answerer → AnswererAnswer → Type 0
Says s answer = AnswererSends s answer.next answer.turn

-- a confirmation says its turn
confirms_so : (s next : Answerer) (busy : Bool) → s.busy ≡ busy → next.ending ≡ None → AfterBlock s next →
    AnswererSends s next (cond busy SendRnr SendMcf)
confirms_so s next true is runs after = (is, runs, after)
confirms_so s next false is runs after = (is, runs, after)

again_so : (s : Answerer) → s.ending ≡ None → Says s (record { next = s; turn = confirms s })
again_so s runs = confirms_so s s s.busy refl runs (inl refl)

accepts_so : (s : Answerer) (ends : PageEnd) (mark : Mark) (octets : List ℕ) (pages : List PagePixels) → s.ending ≡ None →
    Says s (accepts s ends mark octets pages)
accepts_so s ends mark octets pages runs =
    confirms_so s (accepts s ends mark octets pages).next s.busy refl runs
    (inr (record { mark = mark; ends = ends }, refl, eom ends, other ends))
  where
    eom : (e : PageEnd) → e ≡ Eom → (accepts s e mark octets pages).next.state ≡ PhaseB
    eom Null e = cc
    eom Mps e = cc
    eom Eom e = refl
    eom Eop e = cc

    other : (e : PageEnd) → e ≢ Eom → (accepts s e mark octets pages).next.state ≡ Message
    other Null e = refl
    other Mps e = refl
    other Eom e = absurd (e refl)
    other Eop e = refl

stores_so : (s : Answerer) (ends : PageEnd) (mark : Mark) (read : Option PagePixels) → s.ending ≡ None → Says s (stores s ends mark read)
stores_so s ends mark None runs = refl
stores_so s ends mark (Some page) runs = accepts_so s ends mark [] (s.pages ++ page ∷ []) runs

takes_so : (s : Answerer) (ends : PageEnd) (mark : Mark) (octets : List ℕ) → s.ending ≡ None → Says s (takes_block s ends mark octets)
takes_so s Null mark octets runs =
    either (Says s) (within_page_limit octets) _ _ (λ e. accepts_so s Null mark octets s.pages runs) (λ e. refl)
takes_so s Mps mark octets runs = stores_so s Mps mark _ runs
takes_so s Eom mark octets runs = stores_so s Eom mark _ runs
takes_so s Eop mark octets runs = stores_so s Eop mark _ runs

pps_so : (s : Answerer) (ends : PageEnd) (mark : Mark) (last : ℕ) → s.state ≡ Message → s.ending ≡ None →
    Says s (answers_pps s ends mark last)
pps_so s ends mark last is runs =
    either (Says s) (is_repeated s.accepted mark) _ _ (λ e. again_so s runs)
    (λ e. either (Says s) (all_there s.frames (last_counted s.asked mark last)) _ _ (λ f. takes_so s ends mark _ runs)
    (λ f. (is, runs, refl)))

again_or_silent : (s : Answerer) (b : Bool) → s.ending ≡ None → Says s (cond b (record { next = s; turn = confirms s }) (answerer_silent s))
again_or_silent s b runs = either (Says s) b _ _ (λ e. again_so s runs) (λ e. tt)

table_so : (state : AnswererState) (input : AnswererInput) (s : Answerer) → s.state ≡ state → s.ending ≡ None →
    Says s (answerer_table state input s)
table_so PhaseB (listens (dcs params)) s is runs = either (Says s) (allowed s.caps params) _ _ (λ e. tt) (λ e. tt)
table_so PhaseB t2 s is runs = (refl, runs)
table_so WaitTraining t2 s is runs = (refl, runs)
table_so WaitTraining (trains octets) s is runs =
    either (Says s) (is_good_training octets s.params) _ _ (λ e. (refl, runs)) (λ e. (refl, runs))
table_so WaitTraining (listens (dcs params)) s is runs = either (Says s) (allowed s.caps params) _ _ (λ e. tt) (λ e. tt)
table_so Message (listens (dcs params)) s is runs = either (Says s) (allowed s.caps params) _ _ (λ e. tt) (λ e. tt)
table_so Message (listens (fcd number octets)) s is runs = either (Says s) (within_frame_size s.params octets) _ _ (λ e. tt) (λ e. tt)
table_so Message (listens (pps ends page block last)) s is runs = pps_so s ends (record { page = page; block = block }) last is runs
table_so Message (listens rr) s is runs = again_or_silent s _ runs
table_so PhaseB (listens (pps ends page block last)) s is runs = again_or_silent s _ runs
table_so WaitTraining (listens (pps ends page block last)) s is runs = again_or_silent s _ runs
table_so PhaseB (listens rr) s is runs = again_or_silent s _ runs
table_so WaitTraining (listens rr) s is runs = again_or_silent s _ runs
table_so _ t1 s is runs = tt
table_so _ (listens dcn) s is runs = tt
table_so _ (is_busy busy) s is runs = tt
table_so _ _ s is runs = tt

pub answerers_turns_mean : AnswerersTurnsMean
answerers_turns_mean s input runs =
    subst (Says s) (sym (table_step s s.state input input runs refl refl)) (table_so s.state input s refl runs)
