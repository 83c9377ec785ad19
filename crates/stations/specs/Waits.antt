-- Which of the waits of T.30 run in each state of a station, and what their ends do (T.30, 5.4.3).
use Rattle.std.specs.Prelude.{◌≡◌, ◌≢◌, ◌↔◌, ◌⊎◌, Option, Some, None}
use Rattle.stations.specs.AnswererStep.{Answerer, answerer_step}
use Rattle.stations.specs.CallerStep.{Caller, caller_step}
use Rattle.stations.specs.Inputs.{timeout, t5, t2, t1}
use Rattle.stations.specs.declared.turn.AnswererState.{AnswererState}
use Rattle.stations.specs.declared.turn.AnswererState.TheVariants.{PhaseB, WaitTraining, Message}
use Rattle.stations.specs.declared.turn.CallerState.{CallerState}
use Rattle.stations.specs.declared.turn.CallerState.TheVariants.{WaitDis, WaitCfr, WaitBlock, WaitReady}
use Rattle.stations.specs.declared.turn.End.{End}
use Rattle.stations.specs.declared.turn.End.TheVariants.{NoAnswer, StillBusy}
use Rattle.stations.specs.declared.turn.Turn.TheVariants.{Dis as SendDis}
use Rattle.stations.specs.declared.waiting.Wait.{Wait}
use Rattle.stations.specs.declared.waiting.Wait.TheVariants.{T1, T2, T4, T5}

-- the wait of T.30 that runs in each state of a caller
abbrev pub caller_wait : CallerState → Wait
caller_wait WaitDis = T1
caller_wait WaitCfr = T4
caller_wait WaitBlock = T4
caller_wait WaitReady = T4

-- the longer wait beside it, if there is one: T5 while the answerer is busy
abbrev pub caller_longer_wait : CallerState → Option Wait
caller_longer_wait WaitDis = None
caller_longer_wait WaitCfr = None
caller_longer_wait WaitBlock = None
caller_longer_wait WaitReady = Some T5

-- the wait of T.30 that runs in each state of an answerer
abbrev pub answerer_wait : AnswererState → Wait
answerer_wait PhaseB = T2
answerer_wait WaitTraining = T2
answerer_wait Message = T1

-- the longer wait beside it, if there is one: T1, which runs alone in the message
abbrev pub answerer_longer_wait : AnswererState → Option Wait
answerer_longer_wait PhaseB = Some T1
answerer_longer_wait WaitTraining = Some T1
answerer_longer_wait Message = None

-- no wait runs after the end
abbrev pub unless_over : Option End → Option Wait → Option Wait
unless_over None wait = wait
unless_over (Some why) wait = None

-- a wait is one of the two that run
abbrev pub IsOneOf : Option Wait → Option Wait → Wait → Type 0
IsOneOf wait longer w = (wait ≡ Some w) ⊎ (longer ≡ Some w)

-- a wait runs in a caller
abbrev pub CallerRuns : Caller → Wait → Type 0
CallerRuns c w = IsOneOf (unless_over c.ending (Some (caller_wait c.state))) (unless_over c.ending (caller_longer_wait c.state)) w

-- a wait runs in an answerer
abbrev pub AnswererRuns : Answerer → Wait → Type 0
AnswererRuns s w = IsOneOf (unless_over s.ending (Some (answerer_wait s.state))) (unless_over s.ending (answerer_longer_wait s.state)) w

-- which waits run in a caller, by what their ends do: T1 if the call ends with `NoAnswer`, T4 if the caller tries once more or has tried
-- often enough, T5 if the call ends with `StillBusy`; T2 never
pub record CallerWaits (c : Caller) : Type 0 where
  pub t1 : CallerRuns c T1 ↔ ((c.ending ≡ None) × ((caller_step c timeout).next.ending ≡ Some NoAnswer))
  pub t2 : ¬ CallerRuns c T2
  pub t4 : CallerRuns c T4 ↔ ((c.ending ≡ None) × ((caller_step c timeout).next.ending ≢ Some NoAnswer))
  pub t5 : CallerRuns c T5 ↔ ((c.ending ≡ None) × ((caller_step c t5).next.ending ≡ Some StillBusy))

-- which waits run in an answerer, by what their ends do: T1 if the call ends with `NoAnswer`, T2 if DIS is sent again; T4 and T5 never
pub record AnswererWaits (s : Answerer) : Type 0 where
  pub t1 : AnswererRuns s T1 ↔ ((s.ending ≡ None) × ((answerer_step s t1).next.ending ≡ Some NoAnswer))
  pub t2 : AnswererRuns s T2 ↔ ((s.ending ≡ None) × ((answerer_step s t2).turn ≡ SendDis))
  pub t4 : ¬ AnswererRuns s T4
  pub t5 : ¬ AnswererRuns s T5

-- law: exactly these waits run in each caller
abbrev pub CallersWait : Type 0
CallersWait = (c : Caller) → CallerWaits c

-- law: exactly these waits run in each answerer
abbrev pub AnswerersWait : Type 0
AnswerersWait = (s : Answerer) → AnswererWaits s
