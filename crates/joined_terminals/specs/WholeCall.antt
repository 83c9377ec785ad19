-- A whole call of two joined terminals, from its DIS to its DCN: what the laws of joined terminals ask for is met by a call that goes well.
use Rattle.std.specs.Prelude.{◌≡◌, ◌⊎◌, ◌++◌, Bool, true, ℕ, List, [], drop, Some, Ok}
use Rattle.signals.specs.declared.params.Caps.{Caps}
use Rattle.signals.specs.declared.params.Wish.{Wish}
use Rattle.stations.specs.AnswererStep.{Answerer, answerer_items}
use Rattle.stations.specs.Bursts.{bursts_of}
use Rattle.stations.specs.CallerFields.{Represents}
use Rattle.stations.specs.CallerStep.{Caller, caller_items}
use Rattle.stations.specs.Laws.{Each}
use Rattle.stations.specs.Layers.{Document, IsFullPage}
use Rattle.stations.specs.Limiting.{LimitedFields}
use Rattle.stations.specs.Stopping.{StoppableCallerFields}
use Rattle.stations.specs.declared.carrier.Carrier.{Carrier}
use Rattle.stations.specs.declared.carrier.Carrier.TheVariants.{V21, Training, Page}
use Rattle.stations.specs.declared.limiting.Limits.{Limits}
use Rattle.stations.specs.declared.turn.End.TheVariants.{Normal}
use Rattle.stations.specs.declared.turn.Turn.{Turn}
use Rattle.terminals.specs.Hearing.{HasHeard, check}
use Rattle.terminals.specs.Runs.{Hears, TerminalFields}
use Rattle.terminals.specs.Saying.{limited_lends}
use Rattle.terminals.specs.Speaking.{Takes}
use Rattle.terminals.specs.Writable.{HasWholeMap}
use Rattle.joined_terminals.specs.Joining.{AnswererMakes, Begins}
use Rattle.joined_terminals.specs.Octets.{LeadsTerminals, LineHappening, NoneOpen, Terminals}

-- a caller's turn has no burst after those that were taken
abbrev pub CallerHasNone : Caller → Turn → ℕ → Type 0
CallerHasNone t turn taken = drop taken (bursts_of t.params.speed (caller_items t turn)) ≡ []

-- an answerer's turn has no burst after those that were taken
abbrev pub AnswererHasNone : Answerer → Turn → ℕ → Type 0
AnswererHasNone s turn taken = drop taken (bursts_of s.params.speed (answerer_items s turn)) ≡ []

-- both terminals with nothing on their way and no page taken out
abbrev pub with_free_line : TerminalFields StoppableCallerFields → TerminalFields LimitedFields → Bool → Bool → Terminals
with_free_line caller answerer caller_clear answerer_clear =
    record {
      joined =
          record {
            caller = caller.speaking;
            answerer = answerer.speaking;
            to_answerer = [];
            to_caller = [];
            caller_clear = caller_clear;
            answerer_clear = answerer_clear;
            pages = [];
          };
      caller_framing = caller.framing;
      answerer_framing = answerer.framing;
    }

-- a terminal has heard octets in which no frame is open
abbrev pub HasHeardWhole : {S : Type 0} → TerminalFields S → Type 0
HasHeardWhole terminal = (octets : List ℕ) × HasHeard terminal.framing octets × NoneOpen octets

-- A call so far: what has happened leads from its beginning to these two terminals. Each burst that was given has come whole, and those that
-- a turn has left still get onto the line.
pub record IsSoFar (document : Document) (wish : Wish) (caps : Caps) (limits : Limits) (caller : TerminalFields StoppableCallerFields)
    (answerer : TerminalFields LimitedFields) : Type 0 where
  pub happens : List LineHappening
  pub first : Terminals
  pub begins : Begins document wish caps limits first.joined
  pub caller_clear : Bool
  pub answerer_clear : Bool
  pub leads : LeadsTerminals happens first (with_free_line caller answerer caller_clear answerer_clear)
  pub caller_heard : HasHeardWhole caller
  pub answerer_heard : HasHeardWhole answerer
  pub tuple : Caller
  pub represents : Represents caller.speaking.station.station tuple
  pub map : HasWholeMap answerer.speaking.turn
  pub caller_sends : (caller_clear ≡ true) ⊎ CallerHasNone tuple caller.speaking.turn caller.speaking.taken
  pub answerer_sends :
      (answerer_clear ≡ true) ⊎ AnswererHasNone answerer.speaking.station.station answerer.speaking.turn answerer.speaking.taken

-- a call that was so far at two terminals is so far at these two
abbrev pub GoesOn :
    TerminalFields StoppableCallerFields → TerminalFields LimitedFields → TerminalFields StoppableCallerFields → TerminalFields LimitedFields →
    Type 0
GoesOn caller answerer new_caller new_answerer =
    (document : Document) (wish : Wish) (caps : Caps) (limits : Limits) → IsSoFar document wish caps limits caller answerer →
    IsSoFar document wish caps limits new_caller new_answerer

-- A whole call: from its beginning what happens leads to where both stations have ended normally; and so all pages are stored.
pub record CallComes (document : Document) (wish : Wish) (caps : Caps) (limits : Limits) : Type 0 where
  pub happens : List LineHappening
  pub first : Terminals
  pub begins : Begins document wish caps limits first.joined
  pub last : Terminals
  pub leads : LeadsTerminals happens first last
  pub caller_end : last.joined.caller.station.station.ending ≡ Some Normal
  pub answerer_end : last.joined.answerer.station.station.ending ≡ Some Normal
  pub stored : Each IsFullPage document → last.joined.pages ++ last.joined.answerer.station.station.pages ≡ document

-- An answerer hears a burst of a caller's as it was sent: the octets of a training check, or those of frames.
abbrev pub HearsBy : Carrier → TerminalFields LimitedFields → List ℕ → TerminalFields LimitedFields → Type 0
HearsBy (Training speed) old octets new =
    Takes LimitedFields AnswererMakes old.speaking (check octets) new.speaking × (new.framing ≡ old.framing)
HearsBy V21 old octets new = Hears AnswererMakes limited_lends old octets new (Ok tt)
HearsBy (Page speed) old octets new = Hears AnswererMakes limited_lends old octets new (Ok tt)
