-- Laws of the waits that are over, of the times that they run from, and of the durations of T.30 (5.3.1, 5.4.3.1 and Annex A).
use Rattle.std.specs.Prelude.{ℕ, ◌≡◌, ◌≢◌, ◌⊎◌, ◌+◌, ◌*◌, ◌<◌, ◌≤◌, Bool, true, false, Option, Some, None}
use Rattle.signals.specs.Training.{bits_a_second}
use Rattle.signals.specs.declared.params.Speed.{Speed}
use Rattle.signals.specs.declared.signal.Side.{Side}
use Rattle.signals.specs.declared.signal.Side.TheVariants.{Caller, Answerer}
use Rattle.stations.specs.declared.carrier.Carrier.TheVariants.{V21, Training, Page}
use Rattle.stations.specs.declared.waiting.Wait.{Wait}
use Rattle.stations.specs.declared.waiting.Wait.TheVariants.{T1, T2, T4, T5}
use Rattle.terminals.specs.Clocks.{HasPassed, after_burst, asked_since, clock_at, heard_now, wait_over}
use Rattle.terminals.specs.Timing.{flags_after, flags_before, wait_millis}
use Rattle.terminals.specs.declared.clock.Clock.{Clock}
use Rattle.terminals.specs.declared.clock.Durations.{Durations}
use Rattle.terminals.specs.declared.clock.LineState.{LineState}
use Rattle.terminals.specs.declared.stopping.Shown.{Shown}

-- this wait is over, or the longer one that is shown beside it
abbrev pub IsOverOrLonger : Side → Shown → Clock → Durations → Wait → Type 0
IsOverOrLonger side shown c d wait =
    (wait_over side shown c d ≡ Some wait) ⊎
    ((longer : Wait) × (shown.longer ≡ Some longer) × (wait_over side shown c d ≡ Some longer))

-- The law: a wait that is shown is over at each line by which its duration has passed: T5 since the line after which it was first shown, T1
-- since what was heard last, T2 and T4 since the line is quiet. T1 of an answerer that takes a message, which has no longer wait beside it,
-- runs since the line is quiet too. If two are over, the longer one is.
pub record PassedAreOver (shown : Shown) (c : Clock) (d : Durations) : Type 0 where
  pub t5 : (side : Side) (since : ℕ) → shown.longer ≡ Some T5 → c.asked ≡ Some since → since + d.t5 ≤ c.now →
      wait_over side shown c d ≡ Some T5
  pub t1 : (side : Side) → shown.longer ≡ Some T1 → c.heard + d.t1 ≤ c.now → wait_over side shown c d ≡ Some T1
  pub caller_t1 : shown.running ≡ Some T1 → c.heard + d.t1 ≤ c.now → IsOverOrLonger Caller shown c d T1
  pub t2 : (side : Side) (since : ℕ) → shown.running ≡ Some T2 → c.calm ≡ Some since → since + d.t2 ≤ c.now →
      IsOverOrLonger side shown c d T2
  pub t4 : (side : Side) (since : ℕ) → shown.running ≡ Some T4 → c.calm ≡ Some since → since + d.t4 ≤ c.now →
      IsOverOrLonger side shown c d T4

-- the same, of all that a station can show, at each clock
abbrev pub PassedAreOverAlways : Type 0
PassedAreOverAlways = (shown : Shown) (c : Clock) (d : Durations) → PassedAreOver shown c d

-- The law: a wait that is over is shown, and its duration has passed by now since the time that it runs from.
pub record OverHavePassed (shown : Shown) (c : Clock) (d : Durations) : Type 0 where
  pub t5 : (side : Side) → wait_over side shown c d ≡ Some T5 → HasPassed c.now c.asked d.t5
  pub t1 : (side : Side) → wait_over side shown c d ≡ Some T1 → shown.running ≢ Some T1 → c.heard + d.t1 ≤ c.now
  pub caller_t1 : wait_over Caller shown c d ≡ Some T1 → c.heard + d.t1 ≤ c.now
  pub answerer_t1 : wait_over Answerer shown c d ≡ Some T1 → shown.longer ≡ None → HasPassed c.now c.calm d.t1
  pub t2 : (side : Side) → wait_over side shown c d ≡ Some T2 → HasPassed c.now c.calm d.t2
  pub t4 : (side : Side) → wait_over side shown c d ≡ Some T4 → HasPassed c.now c.calm d.t4

-- the same, of all that a station can show, at each clock
abbrev pub OverHavePassedAlways : Type 0
OverHavePassedAlways = (shown : Shown) (c : Clock) (d : Durations) → OverHavePassed shown c d

-- The law: T5 runs from the line after which it is first shown, until a line after which it isn't; what is heard or sent meanwhile doesn't
-- change that.
pub record T5RunsFromFirst (c : Clock) : Type 0 where
  pub first : c.asked ≡ None → (asked_since (Some T5) c).asked ≡ Some c.now
  pub later : (since : ℕ) → c.asked ≡ Some since → (asked_since (Some T5) c).asked ≡ Some since
  pub no_more : (longer : Option Wait) → longer ≢ Some T5 → (asked_since longer c).asked ≡ None
  pub at_a_line : (line : LineState) (at : ℕ) → (clock_at c line at).asked ≡ c.asked
  pub at_a_frame : (brought : Bool) → (heard_now brought c).asked ≡ c.asked
  pub at_a_burst : (after_burst c).asked ≡ c.asked

-- the same, of each clock
abbrev pub T5RunsFromFirstAlways : Type 0
T5RunsFromFirstAlways = (c : Clock) → T5RunsFromFirst c

-- The law: T1 runs from the last line that brought a good frame or the awaited training check, whatever else comes or is sent.
pub record T1RunsFromHeard (c : Clock) : Type 0 where
  pub brought : (heard_now true c).heard ≡ c.now
  pub nothing : (heard_now false c).heard ≡ c.heard
  pub at_a_line : (line : LineState) (at : ℕ) → ((clock_at c line at).heard ≡ c.heard) × ((clock_at c line at).now ≡ at)
  pub at_a_burst : (after_burst c).heard ≡ c.heard
  pub at_a_wait : (longer : Option Wait) → (asked_since longer c).heard ≡ c.heard

-- the same, of each clock
abbrev pub T1RunsFromHeardAlways : Type 0
T1RunsFromHeardAlways = (c : Clock) → T1RunsFromHeard c

-- The law: the waits are within the limits of T.30, 5.4.3.1 and Annex A: T1 35 s ± 5 s, T2 6 s ± 1 s, T4 3 s ± 15 %, T5 60 s ± 5 s. T2
-- lasts longer than two T4 of a caller.
pub record WaitsLast : Type 0 where
  pub t1 : (30000 ≤ wait_millis T1) × (wait_millis T1 ≤ 40000)
  pub t2 : (5000 ≤ wait_millis T2) × (wait_millis T2 ≤ 7000)
  pub t4 : (2550 ≤ wait_millis T4) × (wait_millis T4 ≤ 3450)
  pub t5 : (55000 ≤ wait_millis T5) × (wait_millis T5 ≤ 65000)
  pub twice : 2 * wait_millis T4 < wait_millis T2

-- The law: the flags before a page have eight bits each, in all a fifth of the carrier's bits a second, which is 200 ms. Those by V.21, with
-- the one that the first frame begins with, last 1 s ± 15 % at 300 bit/s. A training check has none, before or after; after frames there
-- are two.
pub record FlagsLast : Type 0 where
  pub page : (speed : Speed) → 5 * (8 * flags_before (Page speed)) ≡ bits_a_second speed
  pub v21 : (85 * 300 ≤ 100 * (8 * (flags_before V21 + 1))) × (100 * (8 * (flags_before V21 + 1)) ≤ 115 * 300)
  pub check : (speed : Speed) → (flags_before (Training speed) ≡ 0) × (flags_after (Training speed) ≡ 0)
  pub after : (speed : Speed) → (flags_after (Page speed) ≡ 2) × (flags_after V21 ≡ 2)
