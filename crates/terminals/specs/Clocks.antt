-- The times that the waits of a station run from, and the wait that is over at a quiet line (T.30, 5.4.3.1).
use Rattle.std.specs.Prelude.{ℕ, ◌≡◌, ◌≢◌, ◌⊎◌, ◌↔◌, ◌+◌, ◌≤◌, Bool, false, cond, max, nat_le, Option, Some, None}
use Rattle.terminals.specs.declared.clock.Clock.{Clock}
use Rattle.terminals.specs.declared.clock.Durations.{Durations}
use Rattle.terminals.specs.declared.clock.LineState.{LineState}
use Rattle.terminals.specs.declared.clock.LineState.TheVariants.{Quiet, Carrier, Ended, Unsaid}
use Rattle.signals.specs.declared.signal.Side.{Side}
use Rattle.signals.specs.declared.signal.Side.TheVariants.{Caller, Answerer}
use Rattle.stations.specs.declared.waiting.Wait.{Wait}
use Rattle.stations.specs.declared.waiting.Wait.TheVariants.{T1, T2, T4, T5}
use Rattle.terminals.specs.declared.stopping.Shown.{Shown}

-- how long each wait runs, in milliseconds, of the durations given
abbrev pub duration : Durations → Wait → ℕ
duration d T1 = d.t1
duration d T2 = d.t2
duration d T4 = d.t4
duration d T5 = d.t5

-- the clock of a new call: at 0 ms, not calm, and nothing heard
abbrev pub new_clock : Clock
new_clock = record { now = 0; calm = None; heard = 0; asked = None }

-- the time that is kept, or this one if none is
abbrev pub since_or : Option ℕ → ℕ → Option ℕ
since_or None at = Some at
since_or (Some since) at = Some since

-- since when a line is calm: from the first quiet line on, and not while a carrier is on or has just ended
abbrev pub calm_at : Option ℕ → LineState → ℕ → Option ℕ
calm_at calm Quiet at = since_or calm at
calm_at calm Carrier at = None
calm_at calm Ended at = None
calm_at calm Unsaid at = calm

-- the clock at a line: the line is calm from the first quiet line after a carrier
abbrev pub clock_at : Clock → LineState → ℕ → Clock
clock_at c line at = record c { now = at; calm = calm_at c.calm line at }

-- How much later than the line before it a line can be, in milliseconds. A line that was quiet and is quiet is said so again before T1 is
-- over, or 35 s if that is more: a clock that jumps further has stood still, or tells the time of day. A carrier in between may be a block
-- at 2,400 bit/s, of 275 s: ten minutes are enough
abbrev pub most_step : Option ℕ → LineState → Durations → ℕ
most_step (Some since) Quiet d = max d.t1 35000
most_step calm line d = max d.t1 600000

-- the clock after a line that brought a good frame or the awaited training check, or neither
abbrev pub heard_now : Bool → Clock → Clock
heard_now brought c = cond brought (record c { heard = c.now }) c

-- Since when T5 runs: from the line after which the station first shows it as its longer wait, until a line after which it doesn't.
abbrev pub asked_by : Option Wait → Option ℕ → ℕ → Option ℕ
asked_by (Some T5) asked now = since_or asked now
asked_by (Some T1) asked now = None
asked_by (Some T2) asked now = None
asked_by (Some T4) asked now = None
asked_by None asked now = None

-- the clock after a line, with the time that T5 runs from, by the longer wait that the station shows afterwards
abbrev pub asked_since : Option Wait → Clock → Clock
asked_since longer c = record c { asked = asked_by longer c.asked c.now }

-- the clock after a burst is sent, which ends the calm
abbrev pub after_burst : Clock → Clock
after_burst c = record c { calm = None }

-- Since when the wait that a station shows runs. A caller's T1 runs from what was heard last; an answerer's T1, which it shows while it
-- takes blocks, runs from the calm on, as T2 and T4 do.
abbrev pub runs_from : Side → Clock → Wait → Option ℕ
runs_from Caller c T1 = Some c.heard
runs_from Answerer c T1 = c.calm
runs_from side c T2 = c.calm
runs_from side c T4 = c.calm
runs_from side c T5 = c.asked

-- since when the longer wait runs: an answerer's T1 from what was heard last, T5 from the first RNR of a block
abbrev pub longer_runs_from : Clock → Wait → Option ℕ
longer_runs_from c T1 = Some c.heard
longer_runs_from c T2 = c.calm
longer_runs_from c T4 = c.calm
longer_runs_from c T5 = c.asked

-- a duration has passed since a time
abbrev pub is_past : ℕ → Option ℕ → ℕ → Bool
is_past now None passed = false
is_past now (Some since) passed = nat_le (since + passed) now

-- the wait that a station shows, if it is over
abbrev pub running_over : Side → Option Wait → Clock → Durations → Option Wait
running_over side None c d = None
running_over side (Some wait) c d = cond (is_past c.now (runs_from side c wait) (duration d wait)) (Some wait) None

-- the longer wait that a station shows, if it is over
abbrev pub longer_over : Option Wait → Clock → Durations → Option Wait
longer_over None c d = None
longer_over (Some wait) c d = cond (is_past c.now (longer_runs_from c wait) (duration d wait)) (Some wait) None

-- the first of two waits, or the second if there is no first
abbrev pub first_of : Option Wait → Option Wait → Option Wait
first_of (Some wait) next = Some wait
first_of None next = next

-- the wait that is over, of those that a station shows: the longer one comes first
abbrev pub wait_over : Side → Shown → Clock → Durations → Option Wait
wait_over side shown c d = first_of (longer_over shown.longer c d) (running_over side shown.running c d)

-- a duration has passed since a time that is known
abbrev pub HasPassed : ℕ → Option ℕ → ℕ → Type 0
HasPassed now since passed = (from : ℕ) × (since ≡ Some from) × (from + passed ≤ now)

-- The law: a wait is over only if the station shows it and its duration has passed since the time that it runs from.
abbrev pub WaitsPass : Type 0
WaitsPass =
    (side : Side) (shown : Shown) (c : Clock) (d : Durations) (wait : Wait) → wait_over side shown c d ≡ Some wait →
    ((shown.longer ≡ Some wait) × HasPassed c.now (longer_runs_from c wait) (duration d wait)) ⊎
    ((shown.running ≡ Some wait) × HasPassed c.now (runs_from side c wait) (duration d wait))

-- The law: T2 and T4 are never over while a carrier is on.
abbrev pub CarriersHold : Type 0
CarriersHold =
    (side : Side) (shown : Shown) (c : Clock) (d : Durations) → c.calm ≡ None →
    (wait_over side shown c d ≢ Some T2) × (wait_over side shown c d ≢ Some T4)

-- The law: a line on which a carrier is on or has just ended, and a burst that was sent end the calm; the first quiet line after them
-- begins it.
abbrev pub CalmIsQuiet : Type 0
CalmIsQuiet =
    (c : Clock) (at : ℕ) (later : ℕ) → ((clock_at c Carrier at).calm ≡ None) × ((after_burst c).calm ≡ None) ×
    ((clock_at (clock_at c Carrier at) Quiet later).calm ≡ Some later) × ((clock_at (after_burst c) Quiet later).calm ≡ Some later)

-- when a duration since a time has passed
abbrev pub due : Option ℕ → ℕ → Option ℕ
due None passed = None
due (Some since) passed = Some (since + passed)

-- when the wait that a station shows is over, if nothing comes before
abbrev pub running_due : Side → Option Wait → Clock → Durations → Option ℕ
running_due side None c d = None
running_due side (Some wait) c d = due (runs_from side c wait) (duration d wait)

-- when the longer wait is over, if nothing comes before
abbrev pub longer_due : Option Wait → Clock → Durations → Option ℕ
longer_due None c d = None
longer_due (Some wait) c d = due (longer_runs_from c wait) (duration d wait)

-- the earlier one of two times, of which each may be missing
abbrev pub earlier : Option ℕ → Option ℕ → Option ℕ
earlier None other = other
earlier (Some one) None = Some one
earlier (Some one) (Some other) = Some (cond (nat_le one other) one other)

-- when the first of the waits that a station shows is over, if nothing comes before
abbrev pub wait_due : Side → Shown → Clock → Durations → Option ℕ
wait_due side shown c d = earlier (longer_due shown.longer c d) (running_due side shown.running c d)

-- The law: at this clock a wait is over at a time exactly if the time at which the first one is over is named, and isn't later.
abbrev pub WaitsAreNamed : Type 0
WaitsAreNamed =
    (side : Side) (shown : Shown) (c : Clock) (d : Durations) (now : ℕ) →
    (wait_over side shown (record c { now = now }) d ≢ None) ↔ ((at : ℕ) × (wait_due side shown c d ≡ Some at) × (at ≤ now))
