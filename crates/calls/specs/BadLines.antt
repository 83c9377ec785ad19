-- What the command that runs a call over a bad line does with images.
use Rattle.std.specs.Prelude.{◌≡◌, ◌≤◌, ◌<◌, ◌⊎◌, ℕ, zero, suc, Bool, true, false, cond, ◌&&◌, nat_lt, List, [], ◌∷◌, ◌++◌, drop, length}
use Rattle.std.specs.Prelude.{Option}
use Rattle.std.specs.Prelude.{Some, None, Err}
use Rattle.std.specs.Io.KnownBytes.{Appends}
use Rattle.raster.specs.Faults.{number_of}
use Rattle.raster.specs.Pages.{PagePixels}
use Rattle.raster.specs.Pbm.{AreImages, read_images}
use Rattle.raster.specs.declared.fault.RasterFault.{RasterFault}
use Rattle.rand_pcg.specs.Lcg.{Lcg}
use Rattle.rand_pcg.specs.Pcg.{pcg32}
use Rattle.signals.specs.declared.params.Caps.{Caps}
use Rattle.signals.specs.declared.params.Wish.{Wish}
use Rattle.signals.specs.declared.signal.Side.{Side}
use Rattle.stations.specs.CallerFields.{AreCallable}
use Rattle.stations.specs.Inputs.{PlainItem}
use Rattle.stations.specs.Layers.{Document}
use Rattle.line_sim.specs.BusyCalls.{setting_events, sets}
use Rattle.line_sim.specs.Driving.{Driven, Patience, is_over, most_steps, new_driven}
use Rattle.line_sim.specs.Entries.{entries, head_kind}
use Rattle.line_sim.specs.Fates.{DrivenFields, ShowsDriven, Steps, asks_ready, events_of, is_fate_due, next_of}
use Rattle.line_sim.specs.Headline.{IsSafe}
use Rattle.line_sim.specs.Report.{all_done}
use Rattle.line_sim.specs.declared.drive.Step.{Step}
use Rattle.line_sim.specs.declared.event.Entry.{Entry}
use Rattle.line_sim.specs.declared.event.Event.{Event}
use Rattle.line_sim.specs.declared.live.Ending.{Ending}
use Rattle.calls.specs.Calls.{EndsAs, answerer_caps, call_world, caller_wish}
use Rattle.faults.specs.Faults.{IsOutside}
use Rattle.calls.specs.Losses.{fate_of, generator_of, is_busy_word}
use Rattle.calls.specs.SentBits.{WritesItems, Written, on_way_to}
use Rattle.calls.specs.Transcripts.{call_text, entry_lines}
use Rattle.faults.specs.declared.fault.ToolFault.{ToolFault}
use Rattle.faults.specs.declared.fault.ToolFault.TheVariants.{No}
use Rattle.calls.specs.declared.losses.BadLine.{BadLine}
use Rattle.calls.specs.declared.options.CallOptions.{CallOptions}

-- how many DIS are sent in one wait, and how many RNRs may come for a block: T5, 60 s, is over after 20 exchanges of RNR and RR of some 3 s
abbrev pub patience_of : BadLine → Patience
patience_of line = record { calls = line.calls; busy = 20 }

-- ---- one step

-- a call over a bad line on its way: a driven call, and the generator whose next words say what becomes of it
pub record Going : Type 0 where
  pub call : Driven
  pub generator : Lcg

-- the generator after a word, if one is drawn
abbrev pub drawn_if : Bool → Lcg → Lcg
drawn_if drawn generator = cond drawn (pcg32 generator).1 generator

-- The answerer's being busy is drawn only if it ever is, and when it matters: a PPS or an RR is first under way to it.
abbrev pub is_set : BadLine → Driven → Bool
is_set line d = nat_lt 0 line.busy && asks_ready (head_kind d.world.to_answerer)

-- what the next word sets the answerer to before a step, if it is drawn
abbrev pub setting_of : BadLine → Going → Option Bool
setting_of line g = cond (is_set line g.call) (Some (is_busy_word line (pcg32 g.generator).0)) None

-- the call when it is set
abbrev pub set_in : BadLine → Going → Going
set_in line g = record { call = sets (setting_of line g) g.call; generator = drawn_if (is_set line g.call) g.generator }

-- a fate is due
abbrev pub is_due : BadLine → Driven → Bool
is_due line d = is_fate_due (nat_lt d.rnrs (patience_of line).busy) d.world.to_answerer d.world.to_caller

-- the driven call with the fate that the next word says, if one is due
abbrev pub fated : BadLine → Going → Driven
fated line g = record {
  world = g.call.world;
  dis = g.call.dis;
  rnrs = g.call.rnrs;
  fates = cond (is_due line g.call) (fate_of line (pcg32 g.generator).0 ∷ []) [];
}

-- the step of a call that is set
abbrev pub stepped : BadLine → Going → Going
stepped line g = record { call = next_of (patience_of line) (fated line g); generator = drawn_if (is_due line g.call) g.generator }

-- One step. If a PPS or an RR is first under way and the answerer may be busy, the next word sets it; if a fate is due, the next word says
-- it; and the driven call makes its step.
abbrev pub next_going : BadLine → Going → Going
next_going line g = stepped line (set_in line g)

-- the events of one step
abbrev pub going_events : BadLine → Going → List Event
going_events line g = setting_events (setting_of line g) ++ events_of (patience_of line) (fated line (set_in line g))

-- ---- all steps

-- a call over a bad line after this number of steps
abbrev pub gone : ℕ → BadLine → Going → Going
gone zero line g = g
gone (suc made) line g = next_going line (gone made line g)

-- the events of one step of a call over a bad line: those that its words say, or of the wait that is over
pub record AreOfStep (line : BadLine) (g : Going) (events : List Event) : Type 0 where
  pub goes_on : is_over g.call ≡ false
  pub are : events ≡ going_events line g

-- the events of this number of first steps, one step after the other
abbrev pub AreOfSteps : ℕ → BadLine → Going → List Event → Type 0
AreOfSteps zero line g events = events ≡ []
AreOfSteps (suc made) line g events =
    (firsts : List Event) × (last : List Event) × AreOfSteps made line g firsts × AreOfStep line (gone made line g) last ×
    (events ≡ firsts ++ last)

-- what a step has put under way to a station: the items there that come after as many as there were before it
abbrev pub put_by_step : Side → BadLine → Going → List PlainItem
put_by_step to line g = drop (length (on_way_to to g.call.world)) (on_way_to to (next_going line g).call.world)

-- the items that this number of first steps has put under way to a station: of each step those behind as many as there were before it
abbrev pub put_by_steps : Side → ℕ → BadLine → Going → List PlainItem
put_by_steps to zero line g = []
put_by_steps to (suc made) line g = put_by_steps to made line g ++ put_by_step to line (gone made line g)

-- a call at its start
abbrev pub going : Document → Wish → Caps → Lcg → Going
going document wish caps generator = record { call = new_driven document wish caps []; generator = generator }

-- the call of a number, of a document, at its start
abbrev pub bad_call : CallOptions → BadLine → ℕ → Document → Going
bad_call options line number document =
    going document (caller_wish options) (answerer_caps options.modems) (generator_of line number)

-- The law: a call over a bad line is over after more steps than `most_steps` of `line_sim` bounds its document by, whatever its generator
-- draws.
abbrev pub BadCallsEnd : Type 0
BadCallsEnd =
    (line : BadLine) (document : Document) (wish : Wish) (caps : Caps) (generator : Lcg) (made : ℕ) → 1 ≤ line.calls →
    most_steps (patience_of line) document < made → is_over (gone made line (going document wish caps generator)).call ≡ true

-- ---- the code's call

-- the fields and the generator are those of a call on its way
pub record Stands (v : DrivenFields) (line : BadLine) (generator : Lcg) (g : Going) : Type 0 where
  pub shows : ShowsDriven v (patience_of line) g.call
  pub drawn : g.generator ≡ generator

-- an entry, if there is one
abbrev pub entry_if : Option Entry → List Entry
entry_if None = []
entry_if (Some entry) = entry ∷ []

-- a growth was refused in it
abbrev pub is_marked : Option Entry → Bool
is_marked None = false
is_marked (Some entry) = entry.refused

-- the answerer was set, if that was drawn, and the entry is the setting's
pub record WasSet (line : BadLine) (g : Going) (new : DrivenFields) (generator : Lcg) (set : Option Entry) : Type 0 where
  pub stands : Stands new line generator (set_in line g)
  pub noted : entry_if set ≡ entries (all_done (setting_events (setting_of line g))) g.call.world

-- the answerer was set, unless a growth was refused
abbrev pub IsSet : BadLine → Going → DrivenFields → Lcg → Option Entry → Type 0
IsSet line g new generator set = is_marked set ≡ false → WasSet line g new generator set

-- a step of a call that is set was made, or the call is over; a word was drawn if a fate was due
pub record Draws (line : BadLine) (g : Going) (old new : DrivenFields) (generator : Lcg) (step : Option Step) : Type 0 where
  pub steps : Steps (patience_of line) old new (fated line g) step
  pub drawn : generator ≡ (stepped line g).generator

-- The call at its start was driven until it was over, and the line of each event was written, numbered from 1; and the octets of what each
-- step has put under way.
pub record TellsAll (line : BadLine) (first : Going) (new : DrivenFields) (before after : Written) : Type 0 where
  pub made : ℕ
  pub events : List Event
  pub are : AreOfSteps made line first events
  pub over : is_over (gone made line first).call ≡ true
  pub shows : ShowsDriven new (patience_of line) (gone made line first).call
  pub written : Appends before.lines after.lines (entry_lines 1 (entries (all_done events) first.call.world))
  pub sent : (to : Side) → WritesItems to (put_by_steps to made line first) before after

-- A call of a document over a bad line: a new call makes steps, as the words of its generator say, until it is over. What is written is the
-- line of each event and then what the call leaves; and the octets of what was put under way to each station, first of the DIS with which a
-- call begins. The pages stored are returned, and are safe: they are a beginning of the document, each confirmed page is stored once, and a
-- normal end means that all are stored.
pub record TellsDriven (options : CallOptions) (line : BadLine) (number : ℕ) (document : Document) (before after : Written)
    (pages : List PagePixels) : Type 0 where
  pub callable : AreCallable document
  pub made : ℕ
  pub events : List Event
  pub are : AreOfSteps made line (bad_call options line number document) events
  pub over : is_over (gone made line (bad_call options line number document)).call ≡ true
  pub ending : Ending
  pub ends : EndsAs ending (gone made line (bad_call options line number document)).call.world
  pub written : Appends before.lines after.lines (call_text (entries (all_done events) (call_world options document)) ending)
  pub sent : (to : Side) →
      WritesItems to (on_way_to to (call_world options document) ++ put_by_steps to made line (bad_call options line number document))
      before after
  pub answered : pages ≡ ending.pages.items
  pub safe : IsSafe document ending.pages.items ending.confirmed ending.caller_end ending.answerer_end

-- a call of a document over a bad line, and what it leaves is returned
abbrev pub LeavesAfter : CallOptions → BadLine → ℕ → Document → Written → Written → Ending → Type 0
LeavesAfter options line number document before after ending =
    (told : TellsDriven options line number document before after ending.pages.items) × (told.ending ≡ ending)

-- The images are a document's, its call over a bad line made steps by its fates until it was over, the lines of their events and of what it
-- leaves were written, and the pages stored are returned.
pub record DrivesCall (options : CallOptions) (line : BadLine) (number : ℕ) (images : List ℕ) (before after : Written)
    (pages : List PagePixels) : Type 0 where
  pub document : Document
  pub read : AreImages options.fine images document
  pub told : TellsDriven options line number document before after pages

-- a call of images over a bad line was driven, and what it leaves is returned
abbrev pub LeavesDriven : CallOptions → BadLine → ℕ → List ℕ → Written → Written → Ending → Type 0
LeavesDriven options line number images before after ending =
    (run : DrivesCall options line number images before after ending.pages.items) × (run.told.ending ≡ ending)

-- why no call was run to its end: memory, a reader or a writer (8, 9); the images' first fault; or a width that no call can have (26)
abbrev pub RefusesDriven : Bool → List ℕ → ToolFault → Type 0
RefusesDriven fine images fault =
    IsOutside fault ⊎ (((first : RasterFault) × (read_images fine images ≡ Err first) × (fault ≡ No (number_of first))) ⊎
    ((document : Document) × AreImages fine images document × ¬ AreCallable document × (fault ≡ No 26)))
