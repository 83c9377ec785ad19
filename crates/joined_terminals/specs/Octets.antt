-- Two joined terminals that hear the octets of the line.
use Rattle.std.specs.Prelude.{◌≡◌, ◌≢◌, ◌⊎◌, ◌++◌, ◌&&◌, Bool, true, ℕ, List, [], ◌∷◌, map, Some, Result, Ok, Err}
use Rattle.std.specs.declared.alloc.AllocError.{AllocError}
use Rattle.raster.specs.Packed.{bits_of}
use Rattle.raster.specs.declared.packed.Order.TheVariants.{LsbFirst}
use Rattle.hdlc.specs.DeframerState.{DeframerState}
use Rattle.hdlc.specs.Flags.{flag}
use Rattle.hdlc.specs.Gaps.{good}
use Rattle.signals.specs.Signals.{PlainSignal, fcd, rcp}
use Rattle.signals.specs.declared.params.Speed.{Speed}
use Rattle.signals.specs.declared.signal.Side.{Side}
use Rattle.signals.specs.declared.signal.Side.TheVariants.{Caller as CallerSide, Answerer as AnswererSide}
use Rattle.stations.specs.AnswererStep.{Answerer, answerer_items}
use Rattle.stations.specs.Bursts.{PlainBurst, bursts_of, items_of}
use Rattle.stations.specs.CallerStep.{Caller, caller_items}
use Rattle.stations.specs.Inputs.{PlainItem, framed, checked}
use Rattle.stations.specs.Laws.{Each}
use Rattle.stations.specs.Limiting.{LimitedFields}
use Rattle.stations.specs.Stopping.{StoppableCallerFields}
use Rattle.stations.specs.declared.carrier.Carrier.TheVariants.{Training}
use Rattle.stations.specs.declared.turn.Turn.{Turn}
use Rattle.terminals.specs.Hearing.{HasHeard, PlainInput, contents, heard_of, said}
use Rattle.terminals.specs.Runs.{Hears, TerminalFields}
use Rattle.terminals.specs.Saying.{limited_lends, stoppable_lends}
use Rattle.terminals.specs.Sending.{IsSent, Sends}
use Rattle.terminals.specs.Speaking.{BurstsOf, Speaking, StepOf, Takes, is_silent}
use Rattle.terminals.specs.Stations.{AnswererLends, CallerLends}
use Rattle.terminals.specs.Writable.{AreFrames}
use Rattle.terminals.specs.declared.fault.HearFault.{HearFault}
use Rattle.terminals.specs.declared.fault.HearFault.TheVariants.{NothingTaken, FrameLost}
use Rattle.terminals.specs.declared.sending.SentBurst.{SentBurst}
use Rattle.joined_terminals.specs.Happening.{AreLeft, Happening, Makes}
use Rattle.joined_terminals.specs.Joining.{AnswererMakes, AnswererSends, CallerMakes, CallerSends, Joined, answerer_begins}
use Rattle.joined_terminals.specs.Joining.{caller_begins}

-- the signals of items, as they are heard; a training check says none
abbrev pub said_of : List PlainItem → List PlainInput
said_of [] = []
said_of (framed signal ∷ items) = said signal ∷ said_of items
said_of (checked octets ∷ items) = said_of items

-- in octets of the line no frame is open: a flag after them completes none
abbrev pub NoneOpen : List ℕ → Type 0
NoneOpen octets = good (bits_of LsbFirst octets ++ flag) ≡ contents octets

-- an item is a frame
abbrev pub IsFramed : PlainItem → Type 0
IsFramed (framed signal) = Unit {0}
IsFramed (checked octets) = ⊥

-- The law: of a burst of frames as it is sent, after octets in which no frame is open, each frame is heard, in order, and nothing else; and
-- no frame is open after it. By `turns_are_sent_whole` the bits of a turn's burst are these frames.
abbrev pub BurstsAreHeard : Type 0
BurstsAreHeard =
    (side : Side) (burst : PlainBurst) (later : List PlainBurst) (sent : SentBurst) (is : IsSent side burst later sent) (before : List ℕ) →
    ((speed : Speed) → burst.carrier ≢ Training speed) → Each IsFramed burst.items → AreFrames side burst.items (items_of later) is.bits →
    NoneOpen before →
    (heard_of before sent.octets.items ≡ said_of burst.items) × NoneOpen (before ++ sent.octets.items)

-- two joined terminals, with what the deframer of each keeps of the line
pub record Terminals : Type 0 where
  pub joined : Joined
  pub caller_framing : DeframerState
  pub answerer_framing : DeframerState

-- a frame of page data or its end
abbrev pub IsOfPage : PlainSignal → Type 0
IsOfPage (fcd number octets) = Unit {0}
IsOfPage rcp = Unit {0}
IsOfPage _ = ⊥

-- Frames that may come in one piece of the line: frames of a page, and one other at the end. No burst has others (law `bursts_are_pieces`),
-- and between bursts the carrier changes.
abbrev pub IsPiece : List PlainSignal → Type 0
IsPiece [] = Unit {0}
IsPiece (signal ∷ []) = Unit {0}
IsPiece (signal ∷ next ∷ more) = IsOfPage signal × IsPiece (next ∷ more)

-- the items of a burst are a piece, or a training check
abbrev pub IsPieceOrCheck : PlainBurst → Type 0
IsPieceOrCheck burst =
    ((signals : List PlainSignal) × (burst.items ≡ map framed signals) × IsPiece signals) ⊎
    ((octets : List ℕ) × (burst.items ≡ checked octets ∷ []))

-- The law: each burst of a caller's turn is a piece or a training check, and one of an answerer's is one frame.
pub record BurstsArePieces : Type 0 where
  pub caller : (t : Caller) (turn : Turn) → Each IsPieceOrCheck (bursts_of t.params.speed (caller_items t turn))
  pub answerer :
      (s : Answerer) (turn : Turn) →
      Each (λ burst. (signal : PlainSignal) × (burst.items ≡ framed signal ∷ [])) (bursts_of s.params.speed (answerer_items s turn))

-- A piece of the line comes: what is heard of its octets are the frames of the first items on their way, in order, of which some may be
-- lost; the others are still on their way. So the good frames are frames that were sent.
pub record PieceComes (items : List PlainItem) (heard : List PlainInput) (others : List PlainItem) : Type 0 where
  pub signals : List PlainSignal
  pub piece : IsPiece signals
  pub front : List PlainItem
  pub first : items ≡ front ++ others
  pub left : AreLeft (map framed signals) front
  pub are : heard ≡ map said signals

-- inputs that a terminal gave its station while it heard octets: none if memory was refused before they were taken
abbrev pub given_by : Result (Unit {0}) HearFault → List PlainInput → List PlainInput
given_by (Ok done) inputs = inputs
given_by (Err FrameLost) inputs = inputs
given_by (Err NothingTaken) inputs = []

-- Inputs were taken one after the other, but some may have been lost; and whether all turns were silence.
abbrev pub TakesSo : {S : Type 0} → StepOf S → Speaking S → List PlainInput → Speaking S → Bool → Type 0
TakesSo steps old [] new silent = (new ≡ old) × (silent ≡ true)
TakesSo {S} steps old (input ∷ inputs) new silent =
    (mid : Speaking S) × (later : Bool) ×
    (((takes : Takes S steps old input mid) × (silent ≡ (is_silent takes.turn && later))) ⊎ ((mid ≡ old) × (silent ≡ later))) ×
    TakesSo steps mid inputs new later

-- The answerer's terminal hears octets by the contract of `hear`, after those before, a piece of the line. Where a turn isn't silence the
-- answerer begins to send.
pub record AnswererHears (old new : Terminals) : Type 0 where
  pub octets : List ℕ
  pub before : List ℕ
  pub heard_before : HasHeard old.answerer_framing before
  pub answerer : TerminalFields LimitedFields
  pub result : Result (Unit {0}) HearFault
  pub hears : Hears AnswererMakes limited_lends (record { framing = old.answerer_framing; speaking = old.joined.answerer }) octets answerer result
  pub others : List PlainItem
  pub comes : PieceComes old.joined.to_answerer (given_by result (heard_of before octets)) others
  pub silent : Bool
  pub taken : TakesSo AnswererMakes old.joined.answerer (given_by result (heard_of before octets)) answerer.speaking silent
  pub is :
      new ≡
      record old {
        joined =
            answerer_begins silent
            (record old.joined { answerer = answerer.speaking; to_answerer = others });
        answerer_framing = answerer.framing;
      }

-- the caller's terminal hears octets, of one frame at most: an answerer's turn has no more
pub record CallerHears (old new : Terminals) : Type 0 where
  pub octets : List ℕ
  pub before : List ℕ
  pub heard_before : HasHeard old.caller_framing before
  pub caller : TerminalFields StoppableCallerFields
  pub result : Result (Unit {0}) HearFault
  pub hears : Hears CallerMakes stoppable_lends (record { framing = old.caller_framing; speaking = old.joined.caller }) octets caller result
  pub others : List PlainItem
  pub comes : PieceComes old.joined.to_caller (given_by result (heard_of before octets)) others
  pub one : (first next : PlainSignal) (more : List PlainSignal) → comes.signals ≢ first ∷ next ∷ more
  pub silent : Bool
  pub taken : TakesSo CallerMakes old.joined.caller (given_by result (heard_of before octets)) caller.speaking silent
  pub is :
      new ≡
      record old {
        joined =
            caller_begins silent
            (record old.joined { caller = caller.speaking; to_caller = others });
        caller_framing = caller.framing;
      }

-- something that happens to two terminals: octets are heard, or anything that leaves the deframers
pub data LineHappening : Type 0 where
  caller_hears answerer_hears : LineHappening
  other : Happening → LineHappening

-- what it makes of them
abbrev pub TerminalsMake : LineHappening → Terminals → Terminals → Type 0
TerminalsMake caller_hears old new = CallerHears old new
TerminalsMake answerer_hears old new = AnswererHears old new
TerminalsMake (other happening) old new =
    Makes happening old.joined new.joined × (new.caller_framing ≡ old.caller_framing) × (new.answerer_framing ≡ old.answerer_framing)

-- what happens leads from one state of both terminals to another, one after the other
abbrev pub LeadsTerminals : List LineHappening → Terminals → Terminals → Type 0
LeadsTerminals [] old new = new ≡ old
LeadsTerminals (happening ∷ more) old new = (mid : Terminals) × TerminalsMake happening old mid × LeadsTerminals more mid new

-- while a terminal hears octets the inputs that it gives its station are taken one after the other, or lost: a signal that is passed over
-- is as one that is lost
abbrev pub HearingTakesBy : {S : Type 0} → StepOf S → BurstsOf S → Type 0
HearingTakesBy {S} steps lends =
    (old new : TerminalFields S) (octets before : List ℕ) (result : Result (Unit {0}) HearFault) →
    Hears steps lends old octets new result → HasHeard old.framing before →
    (silent : Bool) × TakesSo steps old.speaking (given_by result (heard_of before octets)) new.speaking silent

-- The law: what a terminal takes while it hears octets is what two joined terminals can take.
pub record HearingTakes : Type 0 where
  pub caller : HearingTakesBy CallerMakes stoppable_lends
  pub answerer : HearingTakesBy AnswererMakes limited_lends

-- The law: what `next_burst` gives is a burst that goes onto the line, and the octets are that burst's.
pub record SendingSends : Type 0 where
  pub caller :
      (j : Joined) (speaking : Speaking StoppableCallerFields) (sent : SentBurst) →
      Sends {E = AllocError} CallerSide (λ v turn bursts. CallerLends v.station turn bursts) j.caller speaking (Ok (Some sent)) →
      (new : Joined) × (sends : CallerSends j new) × (new.caller ≡ speaking) × IsSent CallerSide sends.burst sends.later sent
  pub answerer :
      (j : Joined) (speaking : Speaking LimitedFields) (sent : SentBurst) →
      Sends {E = AllocError} AnswererSide (λ v turn bursts. AnswererLends v.station turn bursts) j.answerer speaking (Ok (Some sent)) →
      (new : Joined) × (sends : AnswererSends j new) × (new.answerer ≡ speaking) × IsSent AnswererSide sends.burst sends.later sent
