-- What the command that runs a call does with a script and images.
use Rattle.std.specs.Prelude.{◌≡◌, ◌≢◌, ◌<◌, ◌+◌, ◌⊎◌, ℕ, Bool, true, false, List, [], ◌∷◌, ◌++◌, length, map, replicate, All, Err}
use Rattle.std.specs.Prelude.{Option}
use Rattle.std.specs.Io.KnownBytes.{Appends}
use Rattle.raster.specs.Faults.{number_of}
use Rattle.raster.specs.Pages.{PagePixels}
use Rattle.raster.specs.Pbm.{AreImages, read_images}
use Rattle.raster.specs.declared.fault.RasterFault.{RasterFault}
use Rattle.signals.specs.declared.params.Caps.{Caps}
use Rattle.signals.specs.declared.params.Modems.{Modems}
use Rattle.signals.specs.declared.params.PageWidth.TheVariants.{W2432}
use Rattle.signals.specs.declared.params.Wish.{Wish}
use Rattle.signals.specs.declared.signal.Side.{Side}
use Rattle.stations.specs.CallerFields.{AreCallable}
use Rattle.stations.specs.CallerStep.{confirmed}
use Rattle.stations.specs.Layers.{Document}
use Rattle.line_sim.specs.Entries.{entries, is_refused}
use Rattle.line_sim.specs.Headline.{IsSafe}
use Rattle.line_sim.specs.Line.{World, Outcome, Done, new_world, run}
use Rattle.line_sim.specs.Polite.{next_steps, polite_steps}
use Rattle.line_sim.specs.Represents.{Shows}
use Rattle.line_sim.specs.declared.call.Call.{Call}
use Rattle.line_sim.specs.declared.event.Event.{Event}
use Rattle.line_sim.specs.declared.live.Ending.{Ending}
use Rattle.faults.specs.Faults.{IsOutside}
use Rattle.calls.specs.Scripts.{IsFirstBadLine, IsLineOf, IsScript, said_before}
use Rattle.calls.specs.SentBits.{WritesCall, WritesSent, Written}
use Rattle.calls.specs.Transcripts.{call_text, entry_lines}
use Rattle.faults.specs.declared.fault.ToolFault.{ToolFault}
use Rattle.faults.specs.declared.fault.ToolFault.TheVariants.{No, AtLine}
use Rattle.calls.specs.declared.options.CallOptions.{CallOptions}
use Rattle.calls.specs.declared.script.Command.{Command}
use Rattle.calls.specs.declared.script.Command.TheVariants.{Events, Polite}

-- the answerer of a call: with these modems, it takes pages of each width, of fine lines too, in each code, with error correction
abbrev pub answerer_caps : Modems → Caps
answerer_caps modems = record { receiver = true; modems = modems; fine = true; widest = W2432; t6 = true; ecm = true }

-- what the caller wants
abbrev pub caller_wish : CallOptions → Wish
caller_wish options = record { modems = options.modems; coding = options.coding; small = options.small }

-- the world at the start of a call with these options
abbrev pub call_world : CallOptions → Document → World
call_world options document = new_world document (caller_wish options) (answerer_caps options.modems)

-- events, each with what became of it
abbrev pub Steps : Type 0
Steps = List (Event × Outcome)

-- the steps of a polite run before a refused event were made, and then that event with what became of it
pub record StopsPolite (polite steps : Steps) : Type 0 where
  pub before : Steps
  pub event : Event
  pub following : Steps
  pub outcome : Outcome
  pub refused : outcome ≢ Done
  pub polite_is : polite ≡ before ++ (event, Done) ∷ following
  pub steps_are : steps ≡ before ++ (event, outcome) ∷ []

-- The steps that a command makes of a world: an event as often as its count says, whatever became of each; or a polite run of a number
-- of deliveries at most, up to its first refused event.
abbrev pub Makes : Command → World → Steps → Type 0
Makes (Events event count) w steps = map (λ step. step.0) steps ≡ replicate count event
Makes (Polite most) w steps = (steps ≡ polite_steps most w) ⊎ StopsPolite (polite_steps most w) steps

-- the steps that commands make, each in turn from the world that those before it lead to
abbrev pub MakeAll : List Command → World → Steps → Type 0
MakeAll [] w steps = steps ≡ []
MakeAll (command ∷ commands) w steps =
    (first : Steps) × (rest : Steps) × (steps ≡ first ++ rest) × Makes command w first × MakeAll commands (run first w) rest

-- A call that showed a world was given steps. It shows the world that they lead to; each step has its entry, and the entries' lines were
-- written, numbered from `first`; `next` is the number after them. The octets of what the steps send to each station were written too.
pub record TellsSteps (steps : Steps) (w : World) (new : Call) (first next : ℕ) (before after : Written) : Type 0 where
  pub shows : Shows new (run steps w)
  pub each : length (entries steps w) ≡ length steps
  pub written : Appends before.lines after.lines (entry_lines first (entries steps w))
  pub number : next ≡ first + length steps
  pub sent : (to : Side) → WritesSent to steps w before after

-- an event with some outcome was one such step, and a growth was refused in it or not
abbrev pub TellsEvent : Event → World → Call → ℕ → ℕ → Written → Written → Bool → Type 0
TellsEvent event w new first next before after refused =
    (outcome : Outcome) × (is_refused outcome ≡ refused) × TellsSteps ((event, outcome) ∷ []) w new first next before after

-- all steps of the next delivery were made, and there are some; or there are none; or they were made up to a refused event
abbrev pub MakesNext : Steps → Steps → Bool → Type 0
MakesNext coming steps true = (coming ≢ []) × (steps ≡ coming)
MakesNext coming steps false = ((coming ≡ []) × (steps ≡ [])) ⊎ StopsPolite coming steps

-- a call that showed a world made the steps of the next delivery, and their lines were written
abbrev pub TellsNext : World → Call → ℕ → ℕ → Written → Written → Bool → Type 0
TellsNext w new first next before after whole =
    (steps : Steps) × MakesNext (next_steps w w.to_answerer w.to_caller) steps whole × TellsSteps steps w new first next before after

-- a call that showed a world made the steps of a command, and their lines were written
abbrev pub TellsCommand : Command → World → Call → ℕ → ℕ → Written → Written → Type 0
TellsCommand command w new first next before after =
    (steps : Steps) × Makes command w steps × TellsSteps steps w new first next before after

-- a call that showed a world made the steps of commands, and their lines were written
abbrev pub TellsCommands : List Command → World → Call → ℕ → ℕ → Written → Written → Type 0
TellsCommands commands w new first next before after =
    (steps : Steps) × MakeAll commands w steps × TellsSteps steps w new first next before after

-- a line is one of a script, and a call made the steps of its command, if it says one
abbrev pub TellsLine : List ℕ → Call → Call → ℕ → ℕ → Written → Written → Type 0
TellsLine line old new first next before after = (said : Option Command) × IsLineOf line said ×
    ((w : World) → Shows old w → TellsCommands (said_before said []) w new first next before after)

-- a text is a script, and a call made the steps of its commands
abbrev pub TellsScript : List ℕ → Call → Call → ℕ → ℕ → Written → Written → Type 0
TellsScript text old new first next before after = (commands : List Command) × IsScript text commands ×
    ((w : World) → Shows old w → TellsCommands commands w new first next before after)

-- what a call leaves is what its world has come to
pub record EndsAs (ending : Ending) (w : World) : Type 0 where
  pub pages : ending.pages.items ≡ w.answerer.pages
  pub confirmed : ending.confirmed ≡ confirmed w.caller
  pub caller_end : ending.caller_end ≡ w.caller.ending
  pub answerer_end : ending.answerer_end ≡ w.answerer.ending

-- A call of a document by commands. A new world makes their steps, and each event has its entry. What is written is the line of each entry
-- and then what the call leaves; and the octets of what was sent to each station, first of the DIS with which a call begins. The pages
-- stored are returned, and are safe: they are a beginning of the document, each confirmed page is stored once, and a normal end means that
-- all are stored.
pub record TellsCall (options : CallOptions) (document : Document) (commands : List Command) (before after : Written)
    (pages : List PagePixels) : Type 0 where
  pub callable : AreCallable document
  pub steps : Steps
  pub made : MakeAll commands (call_world options document) steps
  pub each : length (entries steps (call_world options document)) ≡ length steps
  pub ending : Ending
  pub ends : EndsAs ending (run steps (call_world options document))
  pub written : Appends before.lines after.lines (call_text (entries steps (call_world options document)) ending)
  pub sent : (to : Side) → WritesCall to steps (call_world options document) before after
  pub answered : pages ≡ ending.pages.items
  pub safe : IsSafe document ending.pages.items ending.confirmed ending.caller_end ending.answerer_end

-- a call of a document by commands, and what it leaves is returned
abbrev pub LeavesTold : CallOptions → Document → List Command → Written → Written → Ending → Type 0
LeavesTold options document commands before after ending =
    (told : TellsCall options document commands before after ending.pages.items) × (told.ending ≡ ending)

-- a text is a script, and a call of a document by its commands left this ending
abbrev pub LeavesScript : CallOptions → Document → List ℕ → Written → Written → Ending → Type 0
LeavesScript options document text before after ending =
    (commands : List Command) × IsScript text commands × LeavesTold options document commands before after ending

-- each page has a row or more
abbrev pub HaveRows : List PagePixels → Type 0
HaveRows pages = All (λ page. 0 < length page.rows) pages

-- The script says commands, the images are a document's, the lines of its call by the commands were written, and the pages stored are
-- returned.
pub record RunsCall (options : CallOptions) (script images : List ℕ) (before after : Written) (pages : List PagePixels) : Type 0 where
  pub commands : List Command
  pub said : IsScript script commands
  pub document : Document
  pub read : AreImages options.fine images document
  pub told : TellsCall options document commands before after pages

-- a call by a script was run, and what it leaves, which the last lines say, is returned
abbrev pub LeavesCall : CallOptions → List ℕ → List ℕ → Written → Written → Ending → Type 0
LeavesCall options script images before after ending =
    (run : RunsCall options script images before after ending.pages.items) × (run.told.ending ≡ ending)

-- the script is refused at its first line that isn't one
abbrev pub IsBadScript : List ℕ → ToolFault → Type 0
IsBadScript script fault = (line : ℕ) × (fault ≡ AtLine line) × IsFirstBadLine script line

-- the script says commands, but no images were read: the fault is their first one
abbrev pub AreBadImages : Bool → List ℕ → List ℕ → ToolFault → Type 0
AreBadImages fine script images fault =
    ((commands : List Command) × IsScript script commands) × (first : RasterFault) × (read_images fine images ≡ Err first) ×
    (fault ≡ No (number_of first))

-- the script says commands and the images are a document's, but no call can have the width of one of its pages (fault 26)
abbrev pub AreNotCallable : Bool → List ℕ → List ℕ → ToolFault → Type 0
AreNotCallable fine script images fault =
    ((commands : List Command) × IsScript script commands) ×
    (document : Document) × AreImages fine images document × ¬ AreCallable document × (fault ≡ No 26)

-- why no call was run to its end: memory, a reader or a writer (8, 9); the script's first bad line; the images' first fault; or a width
-- that no call can have (26)
abbrev pub RefusesCall : Bool → List ℕ → List ℕ → ToolFault → Type 0
RefusesCall fine script images fault =
    IsOutside fault ⊎ (IsBadScript script fault ⊎ (AreBadImages fine script images fault ⊎ AreNotCallable fine script images fault))

-- The fault is at a line of the script: it comes before any image is read and before anything is written.
abbrev pub IsAtLine : ToolFault → Type 0
IsAtLine (AtLine line) = Unit {0}
IsAtLine _ = ⊥
