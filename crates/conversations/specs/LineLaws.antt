-- Laws of one line: two carriers and two kinds differ in their names, a line says one thing, and a burst is read as it was sent.
use Rattle.std.specs.Prelude.{◌≡◌, ◌≤◌, ◌∷◌, [], ℕ, List, codes, drop, length}
use Rattle.raster.specs.Octets.{AreOctets}
use Rattle.signals.specs.declared.signal.Side.{Side}
use Rattle.signals.specs.declared.signal.Side.TheVariants.{Caller as CallerSide, Answerer as AnswererSide}
use Rattle.stations.specs.AnswererStep.{Answerer}
use Rattle.stations.specs.Bursts.{PlainBurst}
use Rattle.stations.specs.CallerFields.{CallerFields, Represents}
use Rattle.stations.specs.CallerStep.{Caller}
use Rattle.stations.specs.declared.turn.Turn.{Turn}
use Rattle.terminals.specs.Sending.{IsSent}
use Rattle.terminals.specs.Stations.{AnswererLends, CallerLends}
use Rattle.terminals.specs.Writable.{HasWholeMap}
use Rattle.terminals.specs.declared.sending.SentBurst.{SentBurst}
use Rattle.conversations.specs.Lines.{IsNumber, Says, channel_name, kind_name, octets_for, spaced}
use Rattle.conversations.specs.Writing.{burst_words, channel_of, kind_of}
use Rattle.conversations.specs.declared.carrier.Channel.{Channel}
use Rattle.conversations.specs.declared.carrier.Kind.{Kind}
use Rattle.conversations.specs.declared.line.Fate.{Fate}
use Rattle.conversations.specs.declared.line.Said.{Said}
use Rattle.conversations.specs.declared.line.Said.TheVariants.{Quiet, Busy, Received, NotReady, Ready, Missed, Told, Stop, End}
use Rattle.conversations.specs.declared.line.TimedLine.{TimedLine}

-- The law: two carriers have two names.
abbrev pub ChannelsHaveNames : Type 0
ChannelsHaveNames = (one other : Channel) → channel_name one ≡ channel_name other → one ≡ other

-- The law: the two kinds of bits have two names.
abbrev pub KindsHaveNames : Type 0
KindsHaveNames = (one other : Kind) → kind_name one ≡ kind_name other → one ≡ other

-- what a line says, with octets as a list
pub data PlainSaid : Type 0 where
  quiet busy not_ready ready missed stop ended : PlainSaid
  received : Channel → Kind → ℕ → List ℕ → PlainSaid
  told : Fate → List ℕ → PlainSaid

-- the plain value of what a line says
abbrev pub plain_said : Said → PlainSaid
plain_said Quiet = quiet
plain_said Busy = busy
plain_said (Received channel kind bits octets) = received channel kind bits octets.items
plain_said NotReady = not_ready
plain_said Ready = ready
plain_said Missed = missed
plain_said (Told fate file) = told fate file.items
plain_said Stop = stop
plain_said End = ended

-- The law: a line says at most one thing, at one time.
abbrev pub SaysOneThing : Type 0
SaysOneThing =
    (line : List ℕ) (one other : TimedLine) → Says line one → Says line other →
    (one.at ≡ other.at) × (plain_said one.said ≡ plain_said other.said)

-- A burst fits a line, whatever the time: it has at most 1,599,824 bits, in as many octets as they need.
pub record FitsALine (burst : SentBurst) : Type 0 where
  pub few : burst.bits ≤ 1599824
  pub size : length burst.octets.items ≡ octets_for burst.bits
  pub octets : AreOctets burst.octets.items

-- The law: a burst that a terminal sends fits a line if it has at most 1,599,824 bits.
abbrev pub SentFitsALine : Type 0
SentFitsALine =
    (side : Side) (plain : PlainBurst) (later : List PlainBurst) (burst : SentBurst) → IsSent side plain later burst →
    AreOctets burst.octets.items → burst.bits ≤ 1599824 → FitsALine burst

-- each of these bursts, as it is sent, fits a line
abbrev pub FitLines : Side → List PlainBurst → Type 0
FitLines side bursts =
    (taken : ℕ) (burst : PlainBurst) (later : List PlainBurst) (sent : SentBurst) → drop taken bursts ≡ burst ∷ later →
    IsSent side burst later sent → AreOctets sent.octets.items → FitsALine sent

-- The law: each burst that a caller has for a turn fits a line.
abbrev pub CallersFitLines : Type 0
CallersFitLines =
    (v : CallerFields) (t : Caller) (turn : Turn) (bursts : List PlainBurst) → Represents v t → CallerLends v turn bursts →
    FitLines CallerSide bursts

-- The law: each burst that an answerer has for a turn fits a line, if a PPR's map is whole.
abbrev pub AnswerersFitLines : Type 0
AnswerersFitLines =
    (s : Answerer) (turn : Turn) (bursts : List PlainBurst) → HasWholeMap turn → AnswererLends s turn bursts → FitLines AnswererSide bursts

-- the line that says that a burst has come, in the words in which it is sent
abbrev pub rx_line : List ℕ → SentBurst → List ℕ
rx_line time burst = spaced (codes "rx" ∷ time ∷ burst_words burst ∷ [])

-- a burst has come, and when
abbrev pub come_at : ℕ → SentBurst → TimedLine
come_at at burst =
    record { at = at; said = Received (channel_of burst.carrier) (kind_of burst.carrier) burst.bits burst.octets }

-- The law: the words in which a burst is sent, after `rx` and a time, are a line that says at the other station the burst's carrier, kind,
-- number of bits and octets.
abbrev pub ReadsWhatIsSent : Type 0
ReadsWhatIsSent =
    (burst : SentBurst) (time : List ℕ) (at : ℕ) → FitsALine burst → IsNumber 15 time at → Says (rx_line time burst) (come_at at burst)
