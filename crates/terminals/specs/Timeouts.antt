-- What is to be done at a time of a call, and when: a wait is over, or the call has lasted as long as it may.
use Rattle.std.specs.Prelude.{ℕ, ◌≡◌, ◌≢◌, ◌↔◌, ◌+◌, ◌≤◌, Bool, true, false, cond, Option, Some, None}
use Rattle.signals.specs.declared.signal.Side.{Side}
use Rattle.stations.specs.declared.stopping.CallEnd.{CallEnd}
use Rattle.stations.specs.declared.waiting.Wait.{Wait}
use Rattle.terminals.specs.Clocks.{due, earlier, is_past, wait_due, wait_over}
use Rattle.terminals.specs.declared.clock.Clock.{Clock}
use Rattle.terminals.specs.declared.clock.Durations.{Durations}
use Rattle.terminals.specs.declared.clock.LineState.{LineState}
use Rattle.terminals.specs.declared.clock.LineState.TheVariants.{Quiet, Carrier, Ended, Unsaid}
use Rattle.terminals.specs.declared.stopping.Shown.{Shown}
use Rattle.terminals.specs.declared.timeout.Limit.{Limit}
use Rattle.terminals.specs.declared.timeout.Timeout.{Timeout}
use Rattle.terminals.specs.declared.timeout.Timeout.TheVariants.{Over, Stop, GiveUp}

-- where DCN can be said, on a quiet line or when the other side's carrier has ended: the call is stopped if it has lasted as long as it may,
-- and else a wait that is over ends
abbrev pub stop_or_over : Bool → Option Wait → Option Timeout
stop_or_over true over = Some Stop
stop_or_over false None = None
stop_or_over false (Some wait) = Some (Over wait)

-- what is to be done on a quiet line, at the clock's time
abbrev pub quiet_timeout : Side → Shown → Clock → Durations → Limit → Option Timeout
quiet_timeout side shown c d limit = stop_or_over (is_past c.now limit.most 0) (wait_over side shown c d)

-- what is to be done on any other line: no wait ends, and DCN can't be said, so the call is given up in the end
abbrev pub busy_timeout : Limit → ℕ → Option Timeout
busy_timeout limit now = cond (is_past now limit.most limit.more) (Some GiveUp) None

-- what is to be done, by the line: nothing after the end of the call
abbrev pub timeout_if : Option CallEnd → LineState → Side → Shown → Clock → Durations → Limit → Option Timeout
timeout_if (Some end) line side shown c d limit = None
timeout_if None Quiet side shown c d limit = quiet_timeout side shown c d limit
timeout_if None Ended side shown c d limit = stop_or_over (is_past c.now limit.most 0) None
timeout_if None Carrier side shown c d limit = busy_timeout limit c.now
timeout_if None Unsaid side shown c d limit = busy_timeout limit c.now

-- what is to be done at the clock's time
abbrev pub timeout : LineState → Side → Shown → Clock → Durations → Limit → Option Timeout
timeout line side shown c d limit = timeout_if shown.end line side shown c d limit

-- when something is to be done, by the line
abbrev pub due_if : Option CallEnd → LineState → Side → Shown → Clock → Durations → Limit → Option ℕ
due_if (Some end) line side shown c d limit = None
due_if None Quiet side shown c d limit = earlier (due limit.most 0) (wait_due side shown c d)
due_if None Ended side shown c d limit = due limit.most 0
due_if None Carrier side shown c d limit = due limit.most limit.more
due_if None Unsaid side shown c d limit = due limit.most limit.more

-- when something is to be done, if the line stays as it is and nothing comes
abbrev pub timeout_due : LineState → Side → Shown → Clock → Durations → Limit → Option ℕ
timeout_due line side shown c d limit = due_if shown.end line side shown c d limit

-- The law: something is to be done at a time exactly if the time at which it is due is named, and isn't later. So a time that is due and
-- has passed is never one at which nothing is done.
abbrev pub TimeoutsAreDue : Type 0
TimeoutsAreDue =
    (line : LineState) (side : Side) (shown : Shown) (c : Clock) (d : Durations) (limit : Limit) (now : ℕ) →
    (timeout line side shown (record c { now = now }) d limit ≢ None) ↔
    ((at : ℕ) × (timeout_due line side shown c d limit ≡ Some at) × (at ≤ now))

-- a call that goes on and has a limit, at a clock: it is stopped where DCN can be said once it has lasted so long, and given up elsewhere
pub record LimitHolds (side : Side) (shown : Shown) (c : Clock) (d : Durations) (limit : Limit) (most : ℕ) : Type 0 where
  pub quiet : most ≤ c.now → timeout Quiet side shown c d limit ≡ Some Stop
  pub ended : most ≤ c.now → timeout Ended side shown c d limit ≡ Some Stop
  pub carrier : most + limit.more ≤ c.now → timeout Carrier side shown c d limit ≡ Some GiveUp
  pub unsaid : most + limit.more ≤ c.now → timeout Unsaid side shown c d limit ≡ Some GiveUp

-- The law: a limit holds whatever the line is.
abbrev pub LimitsHold : Type 0
LimitsHold =
    (side : Side) (shown : Shown) (c : Clock) (d : Durations) (limit : Limit) (most : ℕ) → shown.end ≡ None → limit.most ≡ Some most →
    LimitHolds side shown c d limit most
