-- Laws of what a station takes of an input, by the waits that it shows.
use Rattle.std.specs.Prelude.{ℕ, ◌≡◌, Bool, List}
use Rattle.signals.specs.Signals.{PlainSignal}
use Rattle.stations.specs.AnswererStep.{Answerer, answerer_silent, answerer_step}
use Rattle.stations.specs.CallerStep.{Caller, caller_silent, caller_step}
use Rattle.stations.specs.Inputs.{hears, is_busy, listens, t1, t2, t5, timeout, trains}
use Rattle.stations.specs.Waits.{AnswererRuns, CallerRuns}
use Rattle.stations.specs.declared.waiting.Wait.{Wait}
use Rattle.stations.specs.declared.waiting.Wait.TheVariants.{T1, T2, T4, T5}
use Rattle.terminals.specs.Hearing.{busy, check, over, said}
use Rattle.terminals.specs.Stations.{answerer_given, caller_given}

-- what a caller makes of each input: a signal is heard; the end of T1 or T4, if it runs, is its timeout, and that of T5 is T5's; the end of
-- a wait that doesn't run, a training check, and whether it is busy, change nothing
pub record CallerTakes (t : Caller) : Type 0 where
  pub heard : (signal : PlainSignal) → caller_given t (said signal) ≡ caller_step t (hears signal)
  pub t1 : CallerRuns t T1 → caller_given t (over T1) ≡ caller_step t timeout
  pub t4 : CallerRuns t T4 → caller_given t (over T4) ≡ caller_step t timeout
  pub t5 : CallerRuns t T5 → caller_given t (over T5) ≡ caller_step t t5
  pub no_wait : (wait : Wait) → ¬ CallerRuns t wait → caller_given t (over wait) ≡ caller_silent t
  pub no_check : (octets : List ℕ) → caller_given t (check octets) ≡ caller_silent t
  pub no_busy : (is : Bool) → caller_given t (busy is) ≡ caller_silent t

-- what an answerer makes of each input: a signal and a training check are heard; the end of T1 or T2, if it runs, is T1's or T2's; the end
-- of a wait that doesn't run changes nothing; and it is told whether it is busy
pub record AnswererTakes (s : Answerer) : Type 0 where
  pub heard : (signal : PlainSignal) → answerer_given s (said signal) ≡ answerer_step s (listens signal)
  pub checked : (octets : List ℕ) → answerer_given s (check octets) ≡ answerer_step s (trains octets)
  pub told : (is : Bool) → answerer_given s (busy is) ≡ answerer_step s (is_busy is)
  pub t1 : AnswererRuns s T1 → answerer_given s (over T1) ≡ answerer_step s t1
  pub t2 : AnswererRuns s T2 → answerer_given s (over T2) ≡ answerer_step s t2
  pub no_wait : (wait : Wait) → ¬ AnswererRuns s wait → answerer_given s (over wait) ≡ answerer_silent s

-- law: what each caller makes of each input
abbrev pub CallersTake : Type 0
CallersTake = (t : Caller) → CallerTakes t

-- law: what each answerer makes of each input
abbrev pub AnswerersTake : Type 0
AnswerersTake = (s : Answerer) → AnswererTakes s
