-- The headline: on a half-duplex line that keeps order, delivers only what was sent and drops what still comes towards a station that
-- transmits, over every list of losses, spoiled training checks, time-outs, receiver waits and refused growths, the answerer's pages
-- are a beginning of the caller's, pixel for pixel, each page that the caller counts confirmed is stored once, and a station's normal
-- end means that all are stored.
use Rattle.std.specs.Prelude.{◌≡◌, ◌≢◌, ◌↔◌, ℕ, suc, ◌≤◌, List, Option, ◌∷◌, length, Some, None, slice_get}
use Rattle.raster.specs.Pages.{PagePixels}
use Rattle.signals.specs.declared.params.Caps.{Caps}
use Rattle.signals.specs.declared.params.Wish.{Wish}
use Rattle.stations.specs.Layers.{Document, IsFullPage}
use Rattle.stations.specs.Blocks.{Block}
use Rattle.signals.specs.Writing.{IsWritable}
use Rattle.stations.specs.Inputs.{PlainItem, framed, checked}
use Rattle.stations.specs.Laws.{Each, LayersHold, SignalsHold}
use Rattle.stations.specs.CallerStep.{blocks_of, confirmed, pps_of}
use Rattle.stations.specs.declared.turn.AnswererState.TheVariants.{Message}
use Rattle.stations.specs.declared.turn.End.{End}
use Rattle.stations.specs.declared.turn.End.TheVariants.{Normal}
use Rattle.line_sim.specs.declared.event.Event.{Event}
use Rattle.line_sim.specs.Line.{World, Outcome, happens, new_world, run}
use Rattle.line_sim.specs.declared.event.Event.TheVariants.{DeliverToAnswerer}
use Rattle.line_sim.specs.Line.Outcome.{Done}
use Rattle.line_sim.specs.LineFacts.{accepted_of, HoldsAll, LineFacts}
use Rattle.line_sim.specs.InStep.{InStep}
use Rattle.line_sim.specs.PageMachine.{first_state, Moves, AtMostTwo, shown, IsBeginning}

-- what the layers below promise
abbrev pub Promised : Type 0
Promised = LayersHold × SignalsHold

-- What the sender, who deletes confirmed pages, and the owner of the store can rely on: a document, the pages stored of it, how many are
-- confirmed, and how both stations ended. The headline says it of every run.
pub record IsSafe (document : Document) (pages : List PagePixels) (confirms : ℕ) (caller_end answerer_end : Option End) : Type 0 where
  -- the stored pages are the first of the document, with equal width, fineness and pixels
  pub beginning : IsBeginning pages document
  -- each confirmed page is stored, and at most one page more
  pub confirmed_is_stored : confirms ≤ length pages
  pub stored_once : length pages ≤ suc confirms
  -- a normal end of either station means that all pages are stored, of the caller that all are confirmed too
  pub caller_normal : caller_end ≡ Some Normal → (pages ≡ document) × (confirms ≡ length document)
  pub answerer_normal : answerer_end ≡ Some Normal → pages ≡ document

-- a world is safe: its stored pages, its confirmed pages and its two ends are
abbrev pub IsSafeWorld : Document → World → Type 0
IsSafeWorld document w = IsSafe document w.answerer.pages (confirmed w.caller) w.caller.ending w.answerer.ending

-- The law: the facts of the line hold of every world that events lead to, whatever the outcome of each event.
abbrev pub LineHolds : Type 0
LineHolds =
    (document : Document) (wish : Wish) (caps : Caps) (steps : List (Event × Outcome)) → Each IsFullPage document →
    LineFacts (run steps (new_world document wish caps))

-- The law: in every world that events lead to both stations are in step.
abbrev pub StationsInStep : Type 0
StationsInStep =
    (document : Document) (wish : Wish) (caps : Caps) (steps : List (Event × Outcome)) → Each IsFullPage document →
    InStep (run steps (new_world document wish caps))

-- The law: from a world that events lead to, an event makes at most two moves of the page machine, whatever its outcome.
abbrev pub EventsMove : Type 0
EventsMove =
    (document : Document) (wish : Wish) (caps : Caps) (steps : List (Event × Outcome)) → Each IsFullPage document →
    let w = run steps (new_world document wish caps) in
    (event : Event) (outcome : Outcome) → AtMostTwo (length document) (shown w) (shown (happens w event outcome))

-- The law: moves of the page machine lead from its first state to the state that a run's world shows.
abbrev pub RunsMove : Type 0
RunsMove =
    (document : Document) (wish : Wish) (caps : Caps) (steps : List (Event × Outcome)) → Each IsFullPage document →
    Moves (length document) first_state (shown (run steps (new_world document wish caps)))

-- the headline itself: every run leads to a safe world
abbrev pub RunsAreSafe : Type 0
RunsAreSafe =
    (document : Document) (wish : Wish) (caps : Caps) (steps : List (Event × Outcome)) → Each IsFullPage document →
    IsSafeWorld document (run steps (new_world document wish caps))

-- the PPS of a block comes: the block is accepted exactly if each of its frames is open, and the pages stored then are the first of the
-- document
pub record WholeBlockAccepted (w : World) (block : Block) : Type 0 where
  pub exactly : ((happens w DeliverToAnswerer Done).answerer.accepted ≡ Some (accepted_of block)) ↔ HoldsAll w.answerer.frames block.frames
  pub pages : IsBeginning (happens w DeliverToAnswerer Done).answerer.pages w.caller.document

-- The law: a PPS that comes for a block not yet accepted has the block accepted exactly if each of its frames is open, in however many
-- rounds the frames came.
abbrev pub WholeBlocksAccepted : Type 0
WholeBlocksAccepted =
    (document : Document) (wish : Wish) (caps : Caps) (steps : List (Event × Outcome)) → Each IsFullPage document →
    let w = run steps (new_world document wish caps) in
    -- the PPS under way is that of the caller's present block, which isn't accepted yet, and the answerer is in Message and hasn't
    -- ended
    (block : Block) (items : List PlainItem) → slice_get (blocks_of w.caller) w.caller.place ≡ Some block →
    w.answerer.accepted ≢ Some (accepted_of block) →
    w.to_answerer ≡ pps_of block ∷ items → w.answerer.state ≡ Message → w.answerer.ending ≡ None →
    WholeBlockAccepted w block

-- what travels can be written: of a signal, that it has a content
abbrev pub CanBeWritten : PlainItem → Type 0
CanBeWritten (framed signal) = IsWritable signal
CanBeWritten (checked octets) = Unit {0}

-- The law: each signal under way, in every world that events lead to, has a content.
abbrev pub LinesCanBeWritten : Type 0
LinesCanBeWritten =
    (document : Document) (wish : Wish) (caps : Caps) (steps : List (Event × Outcome)) → Each IsFullPage document →
    let w = run steps (new_world document wish caps) in
    Each CanBeWritten w.to_answerer × Each CanBeWritten w.to_caller
