-- What the frames of a log say, and which rule each of them breaks.
use Rattle.std.specs.Prelude.{ℕ, ◌+◌, ◌-◌, ◌++◌, ◌∷◌, [], Bool, false, List, Option, Some, None, Result, Ok, Err, cond, length, map, not, reverse}
use Rattle.signals.specs.Reading.{read_content}
use Rattle.signals.specs.Signals.{PlainSignal, plain}
use Rattle.signals.specs.declared.fault.SignalFault.{SignalFault}
use Rattle.referee.specs.History.{PlainSaid}
use Rattle.referee.specs.Rules.{verdicts}
use Rattle.referee.specs.declared.rule.Rule.{Rule}
use Rattle.call_logs.specs.Logs.{PlainFrame, plain_frame}
use Rattle.call_logs.specs.RuleWords.{is_reading}
use Rattle.call_logs.specs.declared.tally.Tally.{Tally}
use Rattle.call_logs.specs.declared.verdicts.Told.{Told}

-- a frame that is a signal: its number, counted from 1, and what it says
pub record PlainTold : Type 0 where
  pub number : ℕ
  pub frame : PlainFrame
  pub signal : PlainSignal

-- what the code has of it, as plain values
abbrev pub plain_told : Told → PlainTold
plain_told told = record { number = told.number; frame = plain_frame told.frame.now; signal = plain told.signal }

-- the frame of this number, if it is a signal
abbrev pub told_of : ℕ → PlainFrame → Result PlainSignal SignalFault → List PlainTold
told_of number frame (Ok signal) = record { number = number; frame = frame; signal = signal } ∷ []
told_of number frame (Err fault) = []

-- those of frames that are signals, where the first one has this number; a frame that is no signal has a number too
abbrev pub told_in : ℕ → List PlainFrame → List PlainTold
told_in number [] = []
told_in number (frame ∷ frames) = told_of number frame (read_content frame.content) ++ told_in (number + 1) frames

-- a frame as the referee takes it
abbrev pub said_in : PlainTold → PlainSaid
said_in told = record { by = told.frame.by; signal = told.signal }

-- of each frame that is a signal, in order, the first rule that it breaks; the referee takes and gives the latest first
abbrev pub judged : List PlainTold → List (Option Rule)
judged told = reverse (verdicts (reverse (map said_in told)))

-- a rule is broken
abbrev pub is_broken : Option Rule → Bool
is_broken None = false
is_broken (Some rule) = not (is_reading rule)

-- a rule is broken that can be read otherwise
abbrev pub is_read : Option Rule → Bool
is_read None = false
is_read (Some rule) = is_reading rule

-- how many rules are broken
abbrev pub broken_among : List (Option Rule) → ℕ
broken_among [] = 0
broken_among (rule ∷ rules) = cond (is_broken rule) 1 0 + broken_among rules

-- how many are broken that can be read otherwise
abbrev pub read_among : List (Option Rule) → ℕ
read_among [] = 0
read_among (rule ∷ rules) = cond (is_read rule) 1 0 + read_among rules

-- the counts of frames: all, those that break a rule, those that break one that can be read otherwise, and those that are no signal
abbrev pub tally_of : List PlainFrame → List PlainTold → List (Option Rule) → Tally
tally_of frames told found = record {
  frames = length frames;
  broken = broken_among found;
  readings = read_among found;
  unread = length frames - length told;
}
