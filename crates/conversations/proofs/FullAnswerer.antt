-- A full answerer stays busy, and doesn't say MCF.
use Rattle.std.proofs.Common.{◌≡◌, ◌≢◌, ◌∙◌, ◌∷◌, ℕ, suc, Bool, true, false, List, length, ap, arith, refl, subst, sym}
use Rattle.std.proofs.lemmas.Bool.{false≢true}
use Rattle.std.proofs.lemmas.Bool.Decides.{nat_tests}
use Rattle.std.specs.Prelude.{Option, Some, None, cond, nat_le, ◌&&◌, ◌||◌}
use Rattle.conversations.specs.Holding.{HeldIsNotConfirmed}
use Rattle.raster.specs.Pages.{PagePixels}
use Rattle.stations.specs.AnswererStep.{Answerer, AnswererAnswer, answerer_silent, answerer_step, unless_answerer_ended}
use Rattle.stations.specs.Inputs.{AnswererInput, listens, trains, t1, t2, is_busy}
use Rattle.stations.specs.Limiting.{BusyBefore, busy_answer, busy_while, filled, is_full, is_kept_out, not_ready, octets_of_pages}
use Rattle.stations.specs.declared.limiting.Limits.{Limits}
use Rattle.stations.specs.declared.turn.AnswererState.{AnswererState}
use Rattle.stations.specs.declared.turn.AnswererState.TheVariants.{PhaseB, WaitTraining, Message}
use Rattle.stations.specs.declared.turn.End.{End}
use Rattle.stations.specs.declared.turn.Turn.{Turn}
use Rattle.stations.specs.declared.turn.Turn.TheVariants.{Silent, Dis, Training, Cfr, Ftt, Burst, Pps, Mcf, Ppr, Rnr, Rr, Dcn}

-- an answer that confirms nothing, of a station that is busy then
record Holds (answer : AnswererAnswer) : Type 0 where
  busy : answer.next.busy ≡ true
  silent : answer.turn ≢ Mcf

no_mcf : (turn : Turn) → not_ready turn ≢ Mcf
no_mcf Silent e = cc e
no_mcf Dis e = cc e
no_mcf Training e = cc e
no_mcf Cfr e = cc e
no_mcf Ftt e = cc e
no_mcf (Burst map) e = cc e
no_mcf Pps e = cc e
no_mcf Mcf e = cc e
no_mcf (Ppr map) e = cc e
no_mcf Rnr e = cc e
no_mcf Rr e = cc e
no_mcf Dcn e = cc e

silent_is_no_mcf : Silent ≢ Mcf
silent_is_no_mcf e = cc e

busied : (answer : AnswererAnswer) → Holds (busy_answer answer)
busied answer = record { busy = refl; silent = no_mcf answer.turn }

-- a busy station is the station that was made busy
is_busied : (s : Answerer) → s.busy ≡ true → record s { busy = true } ≡ s
is_busied s e = ap (λ (b : Bool). record s { busy = b }) (sym e)

-- at an input that isn't whether it is busy
stays_busy : BusyBefore → (s : Answerer) (input : AnswererInput) → s.busy ≡ true →
    answerer_step (record s { busy = true }) input ≡ busy_answer (answerer_step s input) → Holds (answerer_step s input)
stays_busy law s input busy is =
    subst Holds (sym is ∙ ap (λ (t : Answerer). answerer_step t input) (is_busied s busy)) (busied (answerer_step s input))

-- at the input that it is busy
told_busy : (ending : Option End) (state : AnswererState) (s : Answerer) → s.busy ≡ true → s.state ≡ state →
    Holds (unless_answerer_ended ending (is_busy true) s)
told_busy (Some why) state s busy is = record { busy = busy; silent = silent_is_no_mcf }
told_busy None PhaseB s busy is = rw is (record { busy = refl; silent = silent_is_no_mcf })
told_busy None WaitTraining s busy is = rw is (record { busy = refl; silent = silent_is_no_mcf })
told_busy None Message s busy is = rw is (record { busy = refl; silent = silent_is_no_mcf })

or_true : (b : Bool) → (b || true) ≡ true
or_true true = refl
or_true false = refl

full_step : BusyBefore → (s : Answerer) (input : AnswererInput) → s.busy ≡ true → Holds (answerer_step s (busy_while true input))
full_step law s (listens signal) busy = stays_busy law s (listens signal) busy (law s (listens signal) tt)
full_step law s (trains octets) busy = stays_busy law s (trains octets) busy (law s (trains octets) tt)
full_step law s t1 busy = stays_busy law s t1 busy (law s t1 tt)
full_step law s t2 busy = stays_busy law s t2 busy (law s t2 tt)
full_step law s (is_busy b) busy =
    subst (λ c. Holds (answerer_step s (is_busy c))) (sym (or_true b)) (told_busy s.ending s.state s busy refl)

-- the step, by whether the station is full
abbrev by_full : Limits → Answerer → AnswererInput → Bool → AnswererAnswer
by_full limits s input full =
    cond (full && is_kept_out s input)
    (answerer_silent s)
    (filled full (is_full limits (answerer_step s (busy_while full input)).next.pages) (answerer_step s (busy_while full input)))

kept_out : (kept : Bool) (silent step : AnswererAnswer) → Holds silent → Holds step → Holds (cond kept silent step)
kept_out true silent step h k = h
kept_out false silent step h k = k

becomes_full : (limits : Limits) (full : Bool) (step : AnswererAnswer) → is_full limits step.next.pages ≡ full →
    is_full limits (filled false full step).next.pages ≡ true → Holds (filled false full step)
becomes_full limits true step is h = busied step
becomes_full limits false step is h = absurd (false≢true (sym is ∙ h))

holds_by : BusyBefore → (limits : Limits) (s : Answerer) (input : AnswererInput) (full : Bool) → (full ≡ true → s.busy ≡ true) →
    is_full limits (by_full limits s input full).next.pages ≡ true → Holds (by_full limits s input full)
holds_by law limits s input true busy h =
    kept_out (is_kept_out s input) _ _ (record { busy = busy refl; silent = silent_is_no_mcf }) (full_step law s input (busy refl))
holds_by law limits s input false busy h =
    becomes_full limits (is_full limits (answerer_step s (busy_while false input)).next.pages) (answerer_step s (busy_while false input)) refl h

at_least : (most few : Bool) → most ≡ true → (most || few) ≡ true
at_least true few e = refl
at_least false few e = absurd (false≢true e)

some_is_one : (n : ℕ) → nat_le 1 (suc n) ≡ true
some_is_one n = grind (arith, nat_tests)

one_is_full : (limits : Limits) (page : PagePixels) (pages : List PagePixels) → limits.pages ≡ 1 → is_full limits (page ∷ pages) ≡ true
unfolding is_full
one_is_full limits page pages e =
    at_least (nat_le limits.pages (length (page ∷ pages))) (nat_le limits.octets (octets_of_pages (page ∷ pages)))
    (ap (λ n. nat_le n (length (page ∷ pages))) e ∙ some_is_one (length pages))

pub held_is_not_confirmed : BusyBefore → HeldIsNotConfirmed
held_is_not_confirmed law = record {
  one = one_is_full;
  busy = λ limits s input busy h. (holds_by law limits s input (is_full limits s.pages) busy h).busy;
  silent = λ limits s input busy h. (holds_by law limits s input (is_full limits s.pages) busy h).silent;
}
