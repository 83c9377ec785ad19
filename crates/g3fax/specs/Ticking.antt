-- What a call answers that tells a terminal the time, or asks what is next.
use Rattle.std.specs.Prelude.{ℕ, ◌≡◌, ◌≢◌, ◌<◌, ◌≤◌, ◌⊎◌, ◌*◌, false, IfSome, nat_eq, if◌then◌else◌}
use Rattle.std.specs.declared.option.Option.{Option}
use Rattle.std.specs.declared.option.Option.TheVariants.{None, Some}
use Rattle.stations.specs.declared.waiting.Wait.TheVariants.{T1, T2, T4, T5}
use Rattle.terminals.specs.Timed.{IsDue, IsNext, PassesUnlessSending, TimedFields}
use Rattle.terminals.specs.Timing.{wait_millis}
use Rattle.terminals.specs.declared.clock.Durations.{Durations}
use Rattle.terminals.specs.declared.clock.LineState.{LineState}
use Rattle.terminals.specs.declared.clock.LineState.TheVariants.{Quiet, Carrier, Ended}
use Rattle.terminals.specs.declared.timed.Next.{Next}
use Rattle.terminals.specs.declared.timed.Next.TheVariants.{Send, At, Nothing}
use Rattle.terminals.specs.declared.timeout.Limit.{Limit}
use Rattle.terminals.specs.declared.timeout.Timeout.{Timeout}
use Rattle.g3fax.specs.Codes.{Tells}
use Rattle.g3fax.specs.Stations.{Behaviour}
use Rattle.g3fax.specs.Statuses.{ok, no_memory, bad_choice, nothing_there}

-- what the line is, by its number: 1 for a quiet line, 2 for one on which a carrier of the other station is on, 3 for one on which it has just
-- ended
abbrev pub line_of : ℕ → Option LineState
line_of number =
    if nat_eq number 1 then Some Quiet else (if nat_eq number 2 then Some Carrier else (if nat_eq number 3 then Some Ended else None))

-- how long the waits of terminals run
abbrev pub of_t30 : Durations
of_t30 = record { t1 = wait_millis T1; t2 = wait_millis T2; t4 = wait_millis T4; t5 = wait_millis T5 }

-- the milliseconds that a call has at most, by its seconds; 0 for no limit
abbrev pub most_millis : ℕ → Option ℕ
most_millis seconds = if nat_eq seconds 0 then None else Some (seconds * 1000)

-- the limit of a call that has so many seconds at most: it is given up 10 s later if its line doesn't fall quiet
abbrev pub limit_of : ℕ → Limit
limit_of seconds = record { most = most_millis seconds; more = 10000 }

-- A call has so many seconds at most from now on; nothing else changes.
pub record LimitsCall (S : Type 0) (old : TimedFields S) (seconds : ℕ) (new : TimedFields S) (status : ℕ) : Type 0 where
  pub done : status ≡ ok
  pub limited : new ≡ record old { limit = limit_of seconds }

-- A terminal has been told the time, and what the line is, as `PassesUnlessSending` of `terminals` says.
pub record Ticks (S : Type 0) (b : Behaviour S) (line : LineState) (now : ℕ) (old new : TimedFields S) : Type 0 where
  pub did : Option Timeout
  pub passes : PassesUnlessSending S b.side b.lends b.steps b.cut_off b.stop_says b.shows
      (record { at = now; line = line; brought = old.brought }) old.durations old.limit old.terminal old.clock new.terminal new.clock did
  pub rest : new ≡ record old { terminal = new.terminal; clock = new.clock; line = line; brought = false }

-- A terminal has been told the time; 104 exactly if the number is no line's, or the time is before that of the last tick; else 0, or 9. By
-- any status above 0 nothing changes.
pub record AnswersTick (S : Type 0) (b : Behaviour S) (line : Option LineState) (now : ℕ) (old new : TimedFields S) (status : ℕ) :
    Type 0 where
  pub done : status ≡ ok → IfSome line (λ line. Ticks S b line now old new)
  pub kept : status ≢ ok → new ≡ old
  pub no_line : line ≡ None → status ≡ bad_choice
  pub early : now < old.clock.now → status ≡ bad_choice
  pub only : line ≢ None → old.clock.now ≤ now → (status ≡ ok) ⊎ (status ≡ no_memory)

-- a time is told; 106 if there is none, and nothing changes
abbrev pub TellsTime : Option ℕ → ℕ → ℕ → ℕ → Type 0
TellsTime None old new status = (status ≡ nothing_there) × (new ≡ old)
TellsTime (Some at) old new status = (status ≡ ok) × Tells at new

-- the time is told at which something is to be done, if the line stays as it is and nothing comes; 106 if nothing ever is
pub record TellsDue (S : Type 0) (b : Behaviour S) (timed : TimedFields S) (old new status : ℕ) : Type 0 where
  pub due : Option ℕ
  pub is_due : IsDue S b.side b.lends b.shows timed due
  pub told : TellsTime due old new status

-- what a program does next is told: 1, to send the burst that waits, 2, to wait for a time, which is told, or 0, to wait for what comes
abbrev pub TellsNextBy : Next → ℕ → ℕ → ℕ → Type 0
TellsNextBy Nothing old new next = (next ≡ 0) × (new ≡ old)
TellsNextBy Send old new next = (next ≡ 1) × (new ≡ old)
TellsNextBy (At at) old new next = (next ≡ 2) × Tells at new

-- what a program does next with a terminal is told
pub record TellsNext (S : Type 0) (b : Behaviour S) (timed : TimedFields S) (old new next status : ℕ) : Type 0 where
  pub done : status ≡ ok
  pub is : Next
  pub is_next : IsNext S b.side b.lends b.shows timed is
  pub told : TellsNextBy is old new next
