-- What a station takes of an input.
use Rattle.std.proofs.Common.{◌≡◌, ◌∙◌, ℕ, Bool, List, refl, sym, inl, inr}
use Rattle.std.specs.Prelude.{Option, Some, None}
use Rattle.stations.specs.AnswererStep.{Answerer, AnswererAnswer, answerer_silent, answerer_step, answerer_table, unless_answerer_ended}
use Rattle.stations.specs.CallerStep.{Caller, CallerAnswer, caller_silent, caller_step, caller_table, unless_caller_ended}
use Rattle.stations.specs.Inputs.{AnswererInput, CallerInput, t1, t2, t5, timeout}
use Rattle.stations.specs.Waits.{AnswererRuns, IsOneOf, answerer_longer_wait, answerer_wait, caller_longer_wait, caller_wait, unless_over}
use Rattle.stations.specs.declared.turn.AnswererState.{AnswererState}
use Rattle.stations.specs.declared.turn.AnswererState.TheVariants.{PhaseB, WaitTraining, Message}
use Rattle.stations.specs.declared.turn.CallerState.{CallerState}
use Rattle.stations.specs.declared.turn.CallerState.TheVariants.{WaitDis, WaitCfr, WaitBlock, WaitReady}
use Rattle.stations.specs.declared.turn.End.{End}
use Rattle.stations.specs.declared.waiting.Wait.{Wait}
use Rattle.stations.specs.declared.waiting.Wait.TheVariants.{T1, T2, T4, T5}
use Rattle.terminals.specs.Hearing.{busy, check, over}
use Rattle.terminals.specs.Stations.{answerer_given, caller_answers, caller_given, caller_takes}
use Rattle.terminals.specs.InputsTaken.{AnswerersTake, CallersTake}

-- a caller's step, its end and its state apart
abbrev stepped : Option End → CallerState → CallerInput → Caller → CallerAnswer
stepped (Some why) state input t = caller_silent t
stepped None state input t = caller_table state input t

is_stepped : (t : Caller) (input : CallerInput) → caller_step t input ≡ stepped t.ending t.state input t
is_stepped t input = at t.ending
  where
    at : (ending : Option End) → unless_caller_ended ending input t ≡ stepped ending t.state input t
    at None = refl
    at (Some why) = refl

-- what a caller makes of the end of a wait, its end and its state apart
abbrev taken : Option End → CallerState → Option CallerInput → Caller → CallerAnswer
taken ending state None t = caller_silent t
taken ending state (Some input) t = stepped ending state input t

abbrev given : Option End → CallerState → Wait → Caller → CallerAnswer
given ending state wait t = taken ending state (caller_takes (unless_over ending (Some (caller_wait state))) (over wait)) t

is_given : (t : Caller) (wait : Wait) → caller_given t (over wait) ≡ given t.ending t.state wait t
is_given t wait = at (caller_takes (unless_over t.ending (Some (caller_wait t.state))) (over wait))
  where
    at : (input : Option CallerInput) → caller_answers t input ≡ taken t.ending t.state input t
    at None = refl
    at (Some input) = is_stepped t input

-- a wait runs, a caller's end and its state apart
abbrev Runs : Option End → CallerState → Wait → Type 0
Runs ending state w = IsOneOf (unless_over ending (Some (caller_wait state))) (unless_over ending (caller_longer_wait state)) w

ends_t1 : (ending : Option End) (state : CallerState) (t : Caller) → Runs ending state T1 →
    given ending state T1 t ≡ stepped ending state timeout t
ends_t1 (Some why) state t r = refl
ends_t1 None WaitDis t r = refl
ends_t1 None WaitCfr t r = elim r [ inl e ↦ cc | inr e ↦ cc ]
ends_t1 None WaitBlock t r = elim r [ inl e ↦ cc | inr e ↦ cc ]
ends_t1 None WaitReady t r = elim r [ inl e ↦ cc | inr e ↦ cc ]

ends_t4 : (ending : Option End) (state : CallerState) (t : Caller) → Runs ending state T4 →
    given ending state T4 t ≡ stepped ending state timeout t
ends_t4 (Some why) state t r = refl
ends_t4 None WaitDis t r = elim r [ inl e ↦ cc | inr e ↦ cc ]
ends_t4 None WaitCfr t r = refl
ends_t4 None WaitBlock t r = refl
ends_t4 None WaitReady t r = refl

ends_t5 : (ending : Option End) (state : CallerState) (t : Caller) → given ending state T5 t ≡ stepped ending state t5 t
ends_t5 (Some why) state t = refl
ends_t5 None WaitDis t = refl
ends_t5 None WaitCfr t = refl
ends_t5 None WaitBlock t = refl
ends_t5 None WaitReady t = refl

no_wait : (ending : Option End) (state : CallerState) (wait : Wait) (t : Caller) → (¬ Runs ending state wait) →
    given ending state wait t ≡ caller_silent t
no_wait (Some why) state T1 t r = refl
no_wait (Some why) state T2 t r = refl
no_wait (Some why) state T4 t r = refl
no_wait (Some why) state T5 t r = refl
no_wait None WaitDis T1 t r = absurd (r (inl refl))
no_wait None WaitDis T2 t r = refl
no_wait None WaitDis T4 t r = refl
no_wait None WaitDis T5 t r = refl
no_wait None WaitCfr T1 t r = refl
no_wait None WaitCfr T2 t r = refl
no_wait None WaitCfr T4 t r = absurd (r (inl refl))
no_wait None WaitCfr T5 t r = refl
no_wait None WaitBlock T1 t r = refl
no_wait None WaitBlock T2 t r = refl
no_wait None WaitBlock T4 t r = absurd (r (inl refl))
no_wait None WaitBlock T5 t r = refl
no_wait None WaitReady T1 t r = refl
no_wait None WaitReady T2 t r = refl
no_wait None WaitReady T4 t r = absurd (r (inl refl))
no_wait None WaitReady T5 t r = absurd (r (inr refl))

pub callers_take : CallersTake
callers_take t = record {
  heard = λ signal. refl;
  t1 = λ r. is_given t T1 ∙ (ends_t1 t.ending t.state t r ∙ sym (is_stepped t timeout));
  t4 = λ r. is_given t T4 ∙ (ends_t4 t.ending t.state t r ∙ sym (is_stepped t timeout));
  t5 = λ r. is_given t T5 ∙ (ends_t5 t.ending t.state t ∙ sym (is_stepped t t5));
  no_wait = λ wait r. is_given t wait ∙ no_wait t.ending t.state wait t r;
  no_check = λ octets. nothing (unless_over t.ending (Some (caller_wait t.state))) octets;
  no_busy = λ is. idle (unless_over t.ending (Some (caller_wait t.state))) is;
}
  where
    nothing : (wait : Option Wait) (octets : List ℕ) → caller_answers t (caller_takes wait (check octets)) ≡ caller_silent t
    nothing None octets = refl
    nothing (Some T1) octets = refl
    nothing (Some T2) octets = refl
    nothing (Some T4) octets = refl
    nothing (Some T5) octets = refl

    idle : (wait : Option Wait) (is : Bool) → caller_answers t (caller_takes wait (busy is)) ≡ caller_silent t
    idle None is = refl
    idle (Some T1) is = refl
    idle (Some T2) is = refl
    idle (Some T4) is = refl
    idle (Some T5) is = refl

-- ---- an answerer

abbrev answered : Option End → AnswererState → AnswererInput → Answerer → AnswererAnswer
answered (Some why) state input s = answerer_silent s
answered None state input s = answerer_table state input s

is_answered : (s : Answerer) (input : AnswererInput) → answerer_step s input ≡ answered s.ending s.state input s
is_answered s input = at s.ending
  where
    at : (ending : Option End) → unless_answerer_ended ending input s ≡ answered ending s.state input s
    at None = refl
    at (Some why) = refl

abbrev AnswererRunsIn : Option End → AnswererState → Wait → Type 0
AnswererRunsIn ending state w =
    IsOneOf (unless_over ending (Some (answerer_wait state))) (unless_over ending (answerer_longer_wait state)) w

no_t1 : (ending : Option End) (state : AnswererState) (s : Answerer) → (¬ AnswererRunsIn ending state T1) →
    answered ending state t1 s ≡ answerer_silent s
no_t1 (Some why) state s r = refl
no_t1 None PhaseB s r = absurd (r (inr refl))
no_t1 None WaitTraining s r = absurd (r (inr refl))
no_t1 None Message s r = absurd (r (inl refl))

no_t2 : (ending : Option End) (state : AnswererState) (s : Answerer) → (¬ AnswererRunsIn ending state T2) →
    answered ending state t2 s ≡ answerer_silent s
no_t2 (Some why) state s r = refl
no_t2 None PhaseB s r = absurd (r (inl refl))
no_t2 None WaitTraining s r = absurd (r (inl refl))
no_t2 None Message s r = refl

pub answerers_take : AnswerersTake
answerers_take s = record {
  heard = λ signal. refl;
  checked = λ octets. refl;
  told = λ is. refl;
  t1 = λ r. refl;
  t2 = λ r. refl;
  no_wait = waits;
}
  where
    waits : (wait : Wait) → (¬ AnswererRuns s wait) → answerer_given s (over wait) ≡ answerer_silent s
    waits T1 r = is_answered s t1 ∙ no_t1 s.ending s.state s r
    waits T2 r = is_answered s t2 ∙ no_t2 s.ending s.state s r
    waits T4 r = refl
    waits T5 r = refl
