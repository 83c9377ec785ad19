-- What holds of the fields of every world, and of an event that delivers a block's PPS.
use Rattle.std.specs.Prelude.{◌≡◌, ◌≢◌, ◌↔◌, List, ◌∷◌, length, Some, None, slice_get}
use Rattle.signals.specs.declared.params.Caps.{Caps}
use Rattle.signals.specs.declared.params.Wish.{Wish}
use Rattle.stations.specs.Blocks.{Block}
use Rattle.stations.specs.CallerStep.{blocks_of, pps_of}
use Rattle.stations.specs.Inputs.{PlainItem}
use Rattle.stations.specs.Layers.{Document}
use Rattle.stations.specs.declared.turn.AnswererState.TheVariants.{Message}
use Rattle.line_sim.specs.Entries.{entries}
use Rattle.line_sim.specs.Headline.{IsSafe}
use Rattle.line_sim.specs.InStep.{InStep}
use Rattle.line_sim.specs.Line.{World, Outcome, new_world, run}
use Rattle.line_sim.specs.LineFacts.{accepted_of, HoldsAll, LineFacts}
use Rattle.line_sim.specs.PageMachine.{Moves, first_state, IsBeginning}
use Rattle.line_sim.specs.Represents.{Shows, WorldFields, fields_state}
use Rattle.line_sim.specs.declared.event.Event.{Event}
use Rattle.line_sim.specs.declared.event.Event.TheVariants.{DeliverToAnswerer}

-- events lead from a new world of the fields' document to a world that the fields represent, and the entries are those of the events
pub record LedTo (v : WorldFields) (w : World) : Type 0 where
  pub wish : Wish
  pub caps : Caps
  pub steps : List (Event × Outcome)
  pub is : w ≡ run steps (new_world v.call.caller.document wish caps)
  pub shows : Shows v.call w
  pub noted : v.entries ≡ entries steps (new_world v.call.caller.document wish caps)

-- What holds of the fields of every world: events lead to a world that they show; in each such world the facts of the line hold and both
-- stations are in step; moves of the page machine lead to what the fields show; and that is safe. The fields may represent several worlds,
-- since the parameters of the groups that are through are kept nowhere.
pub record Holds (v : WorldFields) : Type 0 where
  -- there is a world that events lead to and that the fields represent
  pub world : World
  pub led : LedTo v world
  -- in each such world the facts of the line hold, and both stations are in step
  pub facts : (w : World) → LedTo v w → LineFacts w
  pub in_step : (w : World) → LedTo v w → InStep w
  -- moves of the page machine lead from its first state to what the fields show
  pub moves : Moves (length v.call.caller.document) first_state (fields_state v.call)
  -- the sender and the owner of the store can rely on it
  pub safe :
      IsSafe v.call.caller.document v.call.answerer.pages v.call.caller.page v.call.caller.ending
      v.call.answerer.ending

-- the fields of a new world: they show the page machine's first state, and no event has happened yet
pub record Begins (document : Document) (wish : Wish) (caps : Caps) (v : WorldFields) : Type 0 where
  pub document_is : v.call.caller.document ≡ document
  pub first : fields_state v.call ≡ first_state
  pub led : LedTo v (new_world document wish caps)
  pub holds : Holds v

-- an event delivers the PPS of the caller's present block, which isn't accepted yet, to an answerer in Message that hasn't ended: the block
-- is accepted exactly if each of its frames is open, in however many rounds they came, and the pages stored then are the first of the
-- document
abbrev pub TakesWholeBlock : WorldFields → WorldFields → Event → Type 0
TakesWholeBlock old new DeliverToAnswerer =
    (w : World) → LedTo old w → (block : Block) (items : List PlainItem) → slice_get (blocks_of w.caller) w.caller.place ≡ Some block →
    old.call.to_answerer ≡ pps_of block ∷ items → old.call.answerer.accepted ≢ Some (accepted_of block) →
    old.call.answerer.state ≡ Message → old.call.answerer.ending ≡ None →
    ((new.call.answerer.accepted ≡ Some (accepted_of block)) ↔ HoldsAll old.call.answerer.frames block.frames) ×
    IsBeginning new.call.answerer.pages old.call.caller.document
TakesWholeBlock old new _ = Unit {0}
