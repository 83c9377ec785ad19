-- The step in time of a call: what is to be done at the time that a terminal is told is done.
use Rattle.std.specs.Prelude.{ℕ, ◌≡◌, [], ◌∷◌, Bool, true, false, List, Option, Some, None, max}
use Rattle.signals.specs.declared.signal.Side.{Side}
use Rattle.stations.specs.declared.listening.Listening.{Listening}
use Rattle.stations.specs.declared.listening.Listening.TheVariants.{V21, Training, V21OrPage, V21ThenPage}
use Rattle.stations.specs.declared.stopping.Cut.{Cut}
use Rattle.stations.specs.declared.turn.Turn.{Turn}
use Rattle.terminals.specs.Clocks.{asked_since, clock_at, heard_now}
use Rattle.terminals.specs.Hearing.{over}
use Rattle.terminals.specs.Runs.{TerminalFields}
use Rattle.terminals.specs.Speaking.{StepOf, Takes}
use Rattle.terminals.specs.Stopping.{silenced, stopped}
use Rattle.terminals.specs.Timeouts.{timeout}
use Rattle.terminals.specs.declared.clock.Clock.{Clock}
use Rattle.terminals.specs.declared.clock.Durations.{Durations}
use Rattle.terminals.specs.declared.passing.Moment.{Moment}
use Rattle.terminals.specs.declared.stopping.Shown.{Shown}
use Rattle.terminals.specs.declared.timeout.Limit.{Limit}
use Rattle.terminals.specs.declared.timeout.Timeout.{Timeout}
use Rattle.terminals.specs.declared.timeout.Timeout.TheVariants.{Over, Stop, GiveUp}

-- a training check has an octet or more
abbrev pub is_some_check : List ℕ → Bool
is_some_check [] = false
is_some_check (octet ∷ octets) = true

-- octets are a training check that is listened for
abbrev pub is_awaited : Listening → List ℕ → Bool
is_awaited V21 octets = false
is_awaited (Training speed) octets = is_some_check octets
is_awaited (V21OrPage speed) octets = false
is_awaited (V21ThenPage speed) octets = false

-- what is to be done was done: a wait that is over was ended, the call was stopped, or given up; nothing changed if nothing is to be done
abbrev pub Acts :
    (S : Type 0) → StepOf S → (Cut → S → S) → (S → Turn) → Option Timeout → TerminalFields S → TerminalFields S → Type 0
Acts S steps cut_off stop_says None old new = new ≡ old
Acts S steps cut_off stop_says (Some (Over wait)) old new =
    Takes S steps old.speaking (over wait) new.speaking × (new.framing ≡ old.framing)
Acts S steps cut_off stop_says (Some Stop) old new =
    (new.speaking ≡ stopped cut_off stop_says old.speaking) × (new.framing ≡ old.framing)
Acts S steps cut_off stop_says (Some GiveUp) old new = (new.speaking ≡ silenced cut_off old.speaking) × (new.framing ≡ old.framing)

-- the clock at a time, one before the last time counting as that: the line is so, and what has come is heard
abbrev pub clock_told : Clock → Moment → Clock
clock_told was moment = heard_now moment.brought (clock_at was moment.line (max moment.at was.now))

-- A terminal was told the time. What is to be done then was done, and T5 runs from then on if it is new.
pub record Passes (S : Type 0) (side : Side) (steps : StepOf S) (cut_off : Cut → S → S) (stop_says : S → Turn) (shows : S → Shown → Type 0)
    (moment : Moment) (d : Durations) (limit : Limit) (old : TerminalFields S) (was : Clock) (new : TerminalFields S) (is : Clock)
    (done : Option Timeout) : Type 0 where
  pub shown : Shown
  pub later : Shown
  pub shows_first : shows old.speaking.station shown
  pub done_is : done ≡ timeout moment.line side shown (asked_since shown.longer (clock_told was moment)) d limit
  pub acts : Acts S steps cut_off stop_says done old new
  pub shows_later : shows new.speaking.station later
  pub clock : is ≡ asked_since later.longer (asked_since shown.longer (clock_told was moment))
