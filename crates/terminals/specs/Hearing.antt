-- What is heard of the octets of a line: the signals of its good frames, in order.
use Rattle.std.specs.Prelude.{ℕ, ◌≡◌, ◌-◌, ◌^◌, Bool, List, [], ◌∷◌, ◌++◌, length, drop, min, Result, Ok, Err}
use Rattle.raster.specs.Packed.{bits_of}
use Rattle.raster.specs.declared.packed.Order.TheVariants.{LsbFirst}
use Rattle.hdlc.specs.DeframerState.{DeframerState, IsAfter}
use Rattle.hdlc.specs.Gaps.{good}
use Rattle.signals.specs.Reading.{read_content}
use Rattle.signals.specs.Signals.{PlainSignal, plain}
use Rattle.signals.specs.declared.fault.SignalFault.{SignalFault}
use Rattle.stations.specs.declared.waiting.Wait.{Wait}
use Rattle.terminals.specs.declared.input.Input.{Input}
use Rattle.terminals.specs.declared.input.Input.TheVariants.{Heard, Training, Over, Busy}

-- what a station is given: a signal that was heard, the octets of a training check, a wait that is over, or whether it is busy
pub data PlainInput : Type 0 where
  said : PlainSignal → PlainInput
  check : List ℕ → PlainInput
  over : Wait → PlainInput
  busy : Bool → PlainInput

-- the plain value of an input
abbrev pub plain_input : Input → PlainInput
plain_input (Heard signal) = said (plain signal)
plain_input (Training octets) = check octets.now
plain_input (Over wait) = over wait
plain_input (Busy is) = busy is

-- the contents of the good frames in octets of the line, which sends the least significant bit of each first
unfoldable pub contents : List ℕ → List (List ℕ)
contents octets = good (bits_of LsbFirst octets)

-- the contents that become good by octets which come after those before
unfoldable pub new_contents : List ℕ → List ℕ → List (List ℕ)
new_contents before octets = drop (length (contents before)) (contents (before ++ octets))

-- a signal that was read is heard; a content that is refused is not
abbrev pub heard_if : Result PlainSignal SignalFault → List PlainInput
heard_if (Ok signal) = said signal ∷ []
heard_if (Err fault) = []

-- the signals that contents say are heard in order
abbrev pub heard : List (List ℕ) → List PlainInput
heard [] = []
heard (content ∷ contents) = heard_if (read_content content) ++ heard contents

-- what is heard of octets that come after others: the signals of the good frames that they complete, in order; a content that says no
-- signal is left out
abbrev pub heard_of : List ℕ → List ℕ → List PlainInput
heard_of before octets = heard (new_contents before octets)

-- a deframer has taken octets of the line, and has handed out each good content
abbrev pub HasHeard : DeframerState → List ℕ → Type 0
HasHeard framing octets = IsAfter framing (bits_of LsbFirst octets) (length (contents octets))

-- law: octets that come in two pieces are heard as the same octets in one piece
abbrev pub CutsChangeNothing : Type 0
CutsChangeNothing =
    (before front rest : List ℕ) → heard_of before (front ++ rest) ≡ heard_of before front ++ heard_of (before ++ front) rest

-- how many good frames octets of the line have; the count stops at 2^64 - 1
abbrev pub good_frames : List ℕ → ℕ
good_frames octets = min (2 ^ 64 - 1) (length (contents octets))
