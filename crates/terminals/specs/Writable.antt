-- What a station says can be written: each item of its turns has a frame, or is a training check.
use Rattle.std.specs.Prelude.{ℕ, ◌≡◌, ◌*◌, ◌++◌, Bool, false, List, [], ◌∷◌, length, drop, replicate}
use Rattle.signals.specs.Writing.{IsWritable}
use Rattle.signals.specs.declared.signal.Side.{Side}
use Rattle.signals.specs.declared.signal.Side.TheVariants.{Caller as CallerSide, Answerer as AnswererSide}
use Rattle.stations.specs.AnswererStep.{Answerer, answerer_items}
use Rattle.stations.specs.Bursts.{PlainBurst, items_of}
use Rattle.stations.specs.CallerFields.{CallerFields, Represents}
use Rattle.stations.specs.CallerStep.{Caller, caller_items}
use Rattle.stations.specs.Inputs.{PlainItem, framed, checked}
use Rattle.stations.specs.Laws.{Each}
use Rattle.stations.specs.Lending.{has_no_frame}
use Rattle.stations.specs.Limiting.{LimitedFields}
use Rattle.stations.specs.declared.turn.Turn.{Turn}
use Rattle.stations.specs.declared.turn.Turn.TheVariants.{Ppr}
use Rattle.terminals.specs.Hearing.{PlainInput}
use Rattle.terminals.specs.Runs.{TakesAll}
use Rattle.terminals.specs.Saying.{limited_lends}
use Rattle.terminals.specs.Sending.{IsFrameOf, IsSent}
use Rattle.terminals.specs.Speaking.{Speaking}
use Rattle.terminals.specs.Stations.{AnswererLends, AnswererSteps, CallerLends}
use Rattle.terminals.specs.Stopping.{LimitedStepsUnlessCut}
use Rattle.terminals.specs.declared.sending.SentBurst.{SentBurst}

-- an item can be written: a signal that has a frame, or a training check
abbrev pub CanBeWritten : PlainItem → Type 0
CanBeWritten (framed signal) = IsWritable signal
CanBeWritten (checked octets) = Unit {0}

-- the map of a PPR has 32 octets
abbrev pub HasWholeMap : Turn → Type 0
HasWholeMap (Ppr map) = length map ≡ 32
HasWholeMap _ = Unit {0}

-- law: each item of a turn of a caller can be written, whatever its state and the turn
abbrev pub CallersCanBeWritten : Type 0
CallersCanBeWritten = (t : Caller) (turn : Turn) → Each CanBeWritten (caller_items t turn)

-- law: each item of a turn of an answerer can be written, if the map of a PPR has 32 octets
abbrev pub AnswerersCanBeWritten : Type 0
AnswerersCanBeWritten = (s : Answerer) (turn : Turn) → HasWholeMap turn → Each CanBeWritten (answerer_items s turn)

-- law: the map of each PPR that an answerer's step answers has 32 octets, with limits and without
pub record MapsAreWhole : Type 0 where
  pub plain : (old new : Answerer) (input : PlainInput) (turn : Turn) → AnswererSteps old input new turn → HasWholeMap turn
  pub limited :
      (old new : LimitedFields) (input : PlainInput) (turn : Turn) → LimitedStepsUnlessCut old.cut old input new turn → HasWholeMap turn

-- law: the map of the turn that is kept after inputs has 32 octets, if it had before them
pub record KeptMapsAreWhole : Type 0 where
  pub plain :
      (old new : Speaking Answerer) (inputs : List PlainInput) → TakesAll AnswererSteps AnswererLends old inputs new → HasWholeMap old.turn →
      HasWholeMap new.turn
  pub limited :
      (old new : Speaking LimitedFields) (inputs : List PlainInput) →
      TakesAll (λ was input is turn. LimitedStepsUnlessCut was.cut was input is turn) limited_lends old inputs new → HasWholeMap old.turn →
      HasWholeMap new.turn

-- the bits of an item, which items follow in the turn, with no other case: its frame, or 0 bits
abbrev pub AreFrameOf : Side → PlainItem → List PlainItem → List Bool → Type 0
AreFrameOf side (framed signal) following bits = IsFrameOf side (has_no_frame following) signal bits
AreFrameOf side (checked octets) following bits = bits ≡ replicate (8 * length octets) false

-- the bits of items, which others follow in the turn, each with its frame, or 0 bits for a training check
abbrev pub AreFrames : Side → List PlainItem → List PlainItem → List Bool → Type 0
AreFrames side [] later bits = bits ≡ []
AreFrames side (item ∷ items) later bits =
    (front : List Bool) × (rest : List Bool) × AreFrameOf side item (items ++ later) front × AreFrames side items later rest ×
    (bits ≡ front ++ rest)

-- each burst of these, as it is sent, has the frame of each of its items, and nothing is left out
abbrev pub AreSentWhole : Side → List PlainBurst → Type 0
AreSentWhole side bursts =
    (taken : ℕ) (burst : PlainBurst) (later : List PlainBurst) (sent : SentBurst) → drop taken bursts ≡ burst ∷ later →
    (is : IsSent side burst later sent) → AreFrames side burst.items (items_of later) is.bits

-- law: each burst of a caller's turn is sent with the frame of each of its items
abbrev pub CallersSendWhole : Type 0
CallersSendWhole =
    (v : CallerFields) (t : Caller) (turn : Turn) (bursts : List PlainBurst) → Represents v t → CallerLends v turn bursts →
    AreSentWhole CallerSide bursts

-- law: each burst of an answerer's turn is sent with the frame of each of its items, if the map of a PPR has 32 octets
abbrev pub AnswerersSendWhole : Type 0
AnswerersSendWhole =
    (s : Answerer) (turn : Turn) (bursts : List PlainBurst) → HasWholeMap turn → AnswererLends s turn bursts →
    AreSentWhole AnswererSide bursts
