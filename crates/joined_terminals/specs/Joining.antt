-- Two terminals joined by a half-duplex line: a caller whose call can be stopped, and an answerer with limits, as a program runs them.
use Rattle.std.specs.Prelude.{◌≡◌, Bool, true, false, cond, ◌++◌, ◌+◌, List, [], ◌∷◌, drop, None}
use Rattle.raster.specs.Pages.{PagePixels}
use Rattle.signals.specs.declared.params.Caps.{Caps}
use Rattle.signals.specs.declared.params.Wish.{Wish}
use Rattle.stations.specs.AnswererStep.{new_answerer}
use Rattle.stations.specs.Bursts.{PlainBurst}
use Rattle.stations.specs.CallerFields.{CallerFields, Represents}
use Rattle.stations.specs.CallerStep.{new_caller, no_caps, no_params}
use Rattle.stations.specs.Inputs.{PlainItem}
use Rattle.stations.specs.Layers.{Document}
use Rattle.stations.specs.Limiting.{LimitedFields}
use Rattle.stations.specs.Stopping.{StoppableCallerFields}
use Rattle.stations.specs.declared.limiting.Limits.{Limits}
use Rattle.stations.specs.declared.turn.Turn.TheVariants.{Silent, Dis}
use Rattle.terminals.specs.Hearing.{PlainInput}
use Rattle.terminals.specs.Speaking.{Speaking, StepOf, Takes, is_silent}
use Rattle.terminals.specs.Stations.{AnswererLends, CallerLends}
use Rattle.terminals.specs.Stopping.{CallerStepsUnlessCut, LimitedStepsUnlessCut}

-- Both terminals, and the line between them. The line carries items: a frame's signal, or the octets of a training check.
pub record Joined : Type 0 where
  pub caller : Speaking StoppableCallerFields
  pub answerer : Speaking LimitedFields
  -- the items on their way to each, in the order in which they were sent
  pub to_answerer : List PlainItem
  pub to_caller : List PlainItem
  -- whether bursts of the turn that a station keeps still get onto the line: the other station hasn't begun to send since that turn
  pub caller_clear : Bool
  pub answerer_clear : Bool
  -- the pages that the program has taken out of the answerer, in order
  pub pages : List PagePixels

-- the step of a caller in a terminal: that of `Terminal<StoppableCaller>`
abbrev pub CallerMakes : StepOf StoppableCallerFields
CallerMakes old input new turn = CallerStepsUnlessCut old.cut old input new turn

-- the step of an answerer in a terminal: that of `Terminal<LimitedAnswerer>`
abbrev pub AnswererMakes : StepOf LimitedFields
AnswererMakes old input new turn = LimitedStepsUnlessCut old.cut old input new turn

-- What the caller's turn does to the line, by whether it is silence. A turn that isn't begins to be sent at once, since a program asks for
-- bursts after each input, before it gives another one. So what is on its way to the caller is lost, and so is what the answerer's turn has
-- left; the bursts of the caller's own turn get onto the line.
abbrev pub caller_begins : Bool → Joined → Joined
caller_begins true j = j
caller_begins false j = record j { to_caller = []; caller_clear = true; answerer_clear = false }

-- What the answerer's turn does to the line, by whether it is silence: one that isn't loses what is on its way to the answerer, and what
-- the caller's turn has left.
abbrev pub answerer_begins : Bool → Joined → Joined
answerer_begins true j = j
answerer_begins false j = record j { to_answerer = []; answerer_clear = true; caller_clear = false }

-- the caller's terminal takes an input, by the contract of its calls; where its turn isn't silence the caller begins to send
pub record CallerTakes (input : PlainInput) (old new : Joined) : Type 0 where
  pub caller : Speaking StoppableCallerFields
  pub takes : Takes StoppableCallerFields CallerMakes old.caller input caller
  pub is : new ≡ caller_begins (is_silent takes.turn) (record old { caller = caller })

-- the answerer's terminal takes an input, by the contract of its calls; where its turn isn't silence the answerer begins to send
pub record AnswererTakes (input : PlainInput) (old new : Joined) : Type 0 where
  pub answerer : Speaking LimitedFields
  pub takes : Takes LimitedFields AnswererMakes old.answerer input answerer
  pub is : new ≡ answerer_begins (is_silent takes.turn) (record old { answerer = answerer })

-- the items of a burst that get onto the line: all, or none where the other station has begun to send since the turn
abbrev pub if_clear : Bool → List PlainItem → List PlainItem
if_clear clear items = cond clear items []

-- the caller's next burst is taken, by the contract of `next_burst`, and goes onto the line
pub record CallerSends (old new : Joined) : Type 0 where
  pub bursts : List PlainBurst
  pub lent : CallerLends old.caller.station.station old.caller.turn bursts
  pub burst : PlainBurst
  pub later : List PlainBurst
  pub next : drop old.caller.taken bursts ≡ burst ∷ later
  pub is :
      new ≡
      record old {
        caller = record old.caller { taken = old.caller.taken + 1 };
        to_answerer = old.to_answerer ++ if_clear old.caller_clear burst.items;
      }

-- the answerer's next burst is taken, by the contract of `next_burst`, and goes onto the line
pub record AnswererSends (old new : Joined) : Type 0 where
  pub bursts : List PlainBurst
  pub lent : AnswererLends old.answerer.station.station old.answerer.turn bursts
  pub burst : PlainBurst
  pub later : List PlainBurst
  pub next : drop old.answerer.taken bursts ≡ burst ∷ later
  pub is :
      new ≡
      record old {
        answerer = record old.answerer { taken = old.answerer.taken + 1 };
        to_caller = old.to_caller ++ if_clear old.answerer_clear burst.items;
      }

-- Two new terminals: the caller's is silent, the answerer's has its DIS to send, and nothing is on the line.
pub record Begins (document : Document) (wish : Wish) (caps : Caps) (limits : Limits) (j : Joined) : Type 0 where
  pub fields : CallerFields
  pub caller : Represents fields (new_caller document wish no_caps no_params)
  pub is :
      j ≡
      record {
        caller = record { station = record { station = fields; cut = None }; turn = Silent; taken = 0 };
        answerer =
            record {
              station = record { station = new_answerer caps no_params; limits = limits; told = false; said = Dis; cut = None };
              turn = Dis;
              taken = 0;
            };
        to_answerer = [];
        to_caller = [];
        caller_clear = true;
        answerer_clear = true;
        pages = [];
      }
