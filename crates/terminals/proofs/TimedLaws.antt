-- When something is to be done of a terminal that was told the time.
use Rattle.std.proofs.Common.{◌≡◌, ◌≢◌, ◌+◌, ◌≤◌, ◌∙◌, ℕ, Bool, true, false, ap, refl, subst, sym, arith}
use Rattle.std.specs.Prelude.{◌↔◌, Option, Some, None, max}
use Rattle.signals.specs.declared.signal.Side.{Side}
use Rattle.stations.specs.declared.waiting.Wait.{Wait}
use Rattle.stations.specs.declared.waiting.Wait.TheVariants.{T1, T2, T4, T5}
use Rattle.terminals.proofs.Clocks.{IsDue}
use Rattle.terminals.proofs.Timeouts.{limits_hold, timeouts_are_due}
use Rattle.terminals.specs.Clocks.{asked_by, asked_since, calm_at, clock_at, heard_now}
use Rattle.terminals.specs.Passing.{clock_told}
use Rattle.terminals.specs.Timed.{TimedAreDue, TimedLimitsHold, calm_moment, clock_after, done_at, due_at, told_clock, unless_sending}
use Rattle.terminals.specs.Timeouts.{LimitHolds, timeout}
use Rattle.terminals.specs.declared.clock.Clock.{Clock}
use Rattle.terminals.specs.declared.clock.Durations.{Durations}
use Rattle.terminals.specs.declared.clock.LineState.{LineState}
use Rattle.terminals.specs.declared.clock.LineState.TheVariants.{Quiet, Carrier, Ended, Unsaid}
use Rattle.terminals.specs.declared.passing.Moment.{Moment}
use Rattle.terminals.specs.declared.stopping.Shown.{Shown}
use Rattle.terminals.specs.declared.timeout.Limit.{Limit}

-- ---- what is told twice is told once

calm_again : (calm : Option ℕ) (line : LineState) (at now : ℕ) → calm_at (calm_at calm line at) line now ≡ calm_at calm line at
calm_again None Quiet at now = refl
calm_again (Some since) Quiet at now = refl
calm_again calm Carrier at now = refl
calm_again calm Ended at now = refl
calm_again calm Unsaid at now = refl

asked_again : (longer : Option Wait) (asked : Option ℕ) (at now : ℕ) → asked_by longer (asked_by longer asked at) now ≡ asked_by longer asked at
asked_again None asked at now = refl
asked_again (Some T1) asked at now = refl
asked_again (Some T2) asked at now = refl
asked_again (Some T4) asked at now = refl
asked_again (Some T5) None at now = refl
asked_again (Some T5) (Some since) at now = refl

heard_calm : (brought : Bool) (c : Clock) → (heard_now brought c).calm ≡ c.calm
heard_calm true c = refl
heard_calm false c = refl

heard_time : (brought : Bool) (c : Clock) → (heard_now brought c).now ≡ c.now
heard_time true c = refl
heard_time false c = refl

-- the clock of a calm moment, if what it says of the line and of T5 was said before
told_same : (longer : Option Wait) (line : LineState) (c : Clock) (at now : ℕ) → at ≡ now → calm_at c.calm line now ≡ c.calm →
    asked_by longer c.asked now ≡ c.asked → asked_since longer (heard_now false (clock_at c line at)) ≡ record c { now = now }
told_same longer line c at now same calm asked = rw (same, calm, asked) refl

is_max : (a b : ℕ) → b ≤ a → max a b ≡ a
is_max a b few = omega (arith, few)

at_most_max : (a b : ℕ) → a ≤ max a b
at_most_max a b = omega (arith)

-- ---- the laws

pub timed_are_due : TimedAreDue
timed_are_due side shown later was is moment d limit sending now after few =
    subst (λ (c : Clock). (timeout moment.line side (unless_sending sending later) c d limit ≢ None)
    ↔ IsDue (due_at moment.line side sending later is d limit) now) (sym told)
    (timeouts_are_due moment.line side (unless_sending sending later) is d limit now)
  where
    calm : is.calm ≡ calm_at was.calm moment.line (max moment.at was.now)
    calm = ap (λ (c : Clock). c.calm) after ∙ heard_calm moment.brought (clock_at was moment.line (max moment.at was.now))

    still : calm_at is.calm moment.line now ≡ is.calm
    still = rw calm (calm_again was.calm moment.line (max moment.at was.now) now)

    asks : is.asked ≡ asked_by later.longer (told_clock shown was moment).asked (told_clock shown was moment).now
    asks = ap (λ (c : Clock). c.asked) after

    asked : asked_by later.longer is.asked now ≡ is.asked
    asked = rw asks (asked_again later.longer (told_clock shown was moment).asked (told_clock shown was moment).now now)

    told : told_clock later is (calm_moment moment.line now) ≡ record is { now = now }
    told = told_same later.longer moment.line is (max now is.now) now (is_max now is.now few) still asked

-- the end of a call is shown while a burst waits, too
end_shown : (sending : Bool) (shown : Shown) → shown.end ≡ None → (unless_sending sending shown).end ≡ None
end_shown true shown e = e
end_shown false shown e = e

-- a clock that was told a time isn't before it
at_least : (shown : Shown) (was : Clock) (moment : Moment) → moment.at ≤ (told_clock shown was moment).now
at_least shown was moment =
    subst (λ (n : ℕ). moment.at ≤ n) (sym (heard_time moment.brought (clock_at was moment.line (max moment.at was.now))))
    (at_most_max moment.at was.now)

not_before : (few at now : ℕ) → few ≤ at → at ≤ now → few ≤ now
not_before few at now p q = omega (arith, p, q)

-- the law of limits, at the clock that is told
limit_held : (side : Side) (sending : Bool) (shown : Shown) (was : Clock) (moment : Moment) (d : Durations) (limit : Limit) (most : ℕ) →
    shown.end ≡ None → limit.most ≡ Some most →
    LimitHolds side (unless_sending sending shown) (told_clock shown was moment) d limit most
limit_held side sending shown was moment d limit most on is =
    limits_hold side (unless_sending sending shown) (told_clock shown was moment) d limit most (end_shown sending shown on) is

-- a moment of a line
abbrev said : LineState → ℕ → Bool → Moment
said line at brought = record { at = at; line = line; brought = brought }

pub timed_limits_hold : TimedLimitsHold
timed_limits_hold side sending shown was d limit most at brought on is = record {
  quiet = λ few.
      (limit_held side sending shown was (said Quiet at brought) d limit most on is).quiet
      (not_before most at _ few (at_least shown was (said Quiet at brought)));
  ended = λ few.
      (limit_held side sending shown was (said Ended at brought) d limit most on is).ended
      (not_before most at _ few (at_least shown was (said Ended at brought)));
  carrier = λ few.
      (limit_held side sending shown was (said Carrier at brought) d limit most on is).carrier
      (not_before (most + limit.more) at _ few (at_least shown was (said Carrier at brought)));
  unsaid = λ few.
      (limit_held side sending shown was (said Unsaid at brought) d limit most on is).unsaid
      (not_before (most + limit.more) at _ few (at_least shown was (said Unsaid at brought)));
}
