-- What is sent comes: the premise of the laws of joined terminals, that octets bring a piece of the line, can be met, and is by each burst.
use Rattle.std.specs.Prelude.{◌≡◌, ◌≢◌, ◌++◌, ◌∷◌, ℕ, List, [], drop, map}
use Rattle.signals.specs.declared.params.Speed.{Speed}
use Rattle.signals.specs.declared.signal.Side.TheVariants.{Caller as CallerSide, Answerer as AnswererSide}
use Rattle.stations.specs.AnswererStep.{Answerer}
use Rattle.stations.specs.Bursts.{PlainBurst}
use Rattle.stations.specs.CallerFields.{CallerFields, Represents}
use Rattle.stations.specs.CallerStep.{Caller}
use Rattle.stations.specs.Inputs.{PlainItem, framed}
use Rattle.stations.specs.Laws.{Each}
use Rattle.stations.specs.declared.carrier.Carrier.TheVariants.{Training}
use Rattle.stations.specs.declared.turn.Turn.{Turn}
use Rattle.terminals.specs.Hearing.{heard_of}
use Rattle.terminals.specs.Sending.{IsSent}
use Rattle.terminals.specs.Stations.{AnswererLends, CallerLends}
use Rattle.terminals.specs.Writable.{HasWholeMap}
use Rattle.terminals.specs.declared.sending.SentBurst.{SentBurst}
use Rattle.joined_terminals.specs.Octets.{IsFramed, NoneOpen, PieceComes}
use Rattle.joined_terminals.specs.Steps.{IsOneAtMost}

-- The law: each burst of frames, as a terminal gives it, is a piece that comes whole wherever no frame is open, and none is open after it;
-- and one of an answerer's is one frame. No frame is open where nothing was heard.
pub record SentBurstsCome : Type 0 where
  pub begins : NoneOpen []
  pub caller :
      (v : CallerFields) (t : Caller) (turn : Turn) (bursts later : List PlainBurst) (taken : ℕ) (burst : PlainBurst) (sent : SentBurst)
      (before : List ℕ) (others : List PlainItem) → Represents v t → CallerLends v turn bursts → drop taken bursts ≡ burst ∷ later →
      IsSent CallerSide burst later sent → ((speed : Speed) → burst.carrier ≢ Training speed) → Each IsFramed burst.items → NoneOpen before →
      PieceComes (burst.items ++ others) (heard_of before sent.octets.items) others × NoneOpen (before ++ sent.octets.items)
  pub answerer :
      (s : Answerer) (turn : Turn) (bursts later : List PlainBurst) (taken : ℕ) (burst : PlainBurst) (sent : SentBurst)
      (before : List ℕ) (others : List PlainItem) → HasWholeMap turn → AnswererLends s turn bursts → drop taken bursts ≡ burst ∷ later →
      IsSent AnswererSide burst later sent → NoneOpen before →
      (comes : PieceComes (burst.items ++ others) (heard_of before sent.octets.items) others) × IsOneAtMost comes.signals ×
      (burst.items ≡ map framed comes.signals) × NoneOpen (before ++ sent.octets.items)

-- The law: a burst that is cut comes too. Of the frames that come by all its octets its first octets bring the first ones; the others are
-- lost.
abbrev pub CutPiecesCome : Type 0
CutPiecesCome =
    (items others : List PlainItem) (before front rest : List ℕ) → PieceComes items (heard_of before (front ++ rest)) others →
    PieceComes items (heard_of before front) others
