-- How many bits a burst has at most.
use Rattle.std.specs.Prelude.{ℕ, ◌≡◌, ◌≤◌, ◌+◌, ◌*◌, Bool, List, ◌∷◌, drop, length}
use Rattle.hdlc.specs.Frames.{IsFrame}
use Rattle.signals.specs.declared.signal.Side.{Side}
use Rattle.signals.specs.declared.signal.Side.TheVariants.{Caller as CallerSide, Answerer as AnswererSide}
use Rattle.stations.specs.AnswererStep.{Answerer}
use Rattle.stations.specs.Bursts.{PlainBurst}
use Rattle.stations.specs.CallerFields.{CallerFields, Represents}
use Rattle.stations.specs.CallerStep.{Caller}
use Rattle.stations.specs.declared.turn.Turn.{Turn}
use Rattle.terminals.specs.Sending.{IsSent}
use Rattle.terminals.specs.Stations.{AnswererLends, CallerLends}
use Rattle.terminals.specs.Writable.{HasWholeMap}
use Rattle.terminals.specs.declared.sending.SentBurst.{SentBurst}

-- law: how many bits a frame has at most: two flags, and between them six bits for each five of its content and its two octets of check
-- sequence, since at most one 0 bit is stuffed for each five bits
abbrev pub FramesAreShort : Type 0
FramesAreShort = (content : List ℕ) (bits : List Bool) → IsFrame content bits → 5 * length bits ≤ 48 * (length content + 2) + 80

-- each burst of these, as it is sent, has at most this many bits
abbrev pub HaveAtMost : ℕ → Side → List PlainBurst → Type 0
HaveAtMost most side bursts =
    (taken : ℕ) (burst : PlainBurst) (later : List PlainBurst) (sent : SentBurst) → drop taken bursts ≡ burst ∷ later →
    IsSent side burst later sent → sent.bits ≤ most

-- law: a burst of a caller has at most 800,000 bits
abbrev pub CallersBurstsAreShort : Type 0
CallersBurstsAreShort =
    (v : CallerFields) (t : Caller) (turn : Turn) (bursts : List PlainBurst) → Represents v t → CallerLends v turn bursts →
    HaveAtMost 800000 CallerSide bursts

-- law: a burst of an answerer has at most 6,000 bits, if the map of a PPR has 32 octets
abbrev pub AnswerersBurstsAreShort : Type 0
AnswerersBurstsAreShort =
    (s : Answerer) (turn : Turn) (bursts : List PlainBurst) → HasWholeMap turn → AnswererLends s turn bursts →
    HaveAtMost 6000 AnswererSide bursts
