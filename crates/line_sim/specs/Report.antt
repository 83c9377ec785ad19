-- What a report says of a call.
use Rattle.std.specs.Prelude.{ℕ, ◌≡◌, List, map, length, Result, Ok, Err}
use Rattle.signals.specs.declared.params.Caps.{Caps}
use Rattle.signals.specs.declared.params.Wish.{Wish}
use Rattle.stations.specs.CallerStep.{confirmed}
use Rattle.stations.specs.CallerFields.{AreCallable}
use Rattle.stations.specs.Layers.{Document}
use Rattle.line_sim.specs.Counted.{IsCounted, groups_begun}
use Rattle.line_sim.specs.Entries.{entries, marks}
use Rattle.line_sim.specs.Headline.{IsSafe}
use Rattle.line_sim.specs.InStep.{InStep}
use Rattle.line_sim.specs.Line.{World, Outcome, Done, new_world, run}
use Rattle.line_sim.specs.LineFacts.{LineFacts}
use Rattle.line_sim.specs.PageMachine.{Moves, first_state, page_state}
use Rattle.line_sim.specs.Represents.{IsWorldFault}
use Rattle.line_sim.specs.declared.event.Entry.{Entry}
use Rattle.line_sim.specs.declared.event.Event.{Event}
use Rattle.line_sim.specs.declared.fault.WorldFault.{WorldFault}
use Rattle.line_sim.specs.declared.fault.WorldFault.TheVariants.{NoMemory, WidthNotCallable}
use Rattle.line_sim.specs.declared.report.Report.{Report}

-- the number of each fault: 9 for refused memory, 26 for a width that no call can have
abbrev pub number_of : WorldFault → ℕ
number_of NoMemory = 9
number_of WidthNotCallable = 26

-- the report says what a world and its entries are: pages, confirmed pages, both ends, the number of marks and the transcript
pub record Tells (report : Report) (w : World) (entries : List Entry) : Type 0 where
  pub pages : report.pages.items ≡ w.answerer.pages
  pub confirmed : report.confirmed ≡ confirmed w.caller
  pub caller_end : report.caller_end ≡ w.caller.ending
  pub answerer_end : report.answerer_end ≡ w.answerer.ending
  pub refused : report.refused ≡ marks entries
  pub transcript : report.transcript.items ≡ entries

-- the report says what a run of these events, each with some outcome, leads to
pub record TellsRun (document : Document) (wish : Wish) (caps : Caps) (events : List Event) (report : Report) : Type 0 where
  pub steps : List (Event × Outcome)
  pub given : map (λ step. step.0) steps ≡ events
  pub tells : Tells report (run steps (new_world document wish caps)) (entries steps (new_world document wish caps))

-- the report of a run, unless memory is refused or a page's width isn't callable
abbrev pub RunsTo : Document → Wish → Caps → List Event → Result Report WorldFault → Type 0
RunsTo document wish caps events (Ok report) = AreCallable document × TellsRun document wish caps events report
RunsTo document wish caps events (Err fault) = IsWorldFault document fault

-- events, each of which has done all that it is
abbrev pub all_done : List Event → List (Event × Outcome)
all_done events = map (λ event. (event, Done)) events

-- A report of a run that counts no event as left out and none as refused says what the events lead to when all of each is done: each has
-- its entry, and no part of any was lost.
abbrev pub TellsWhole : Document → Wish → Caps → List Event → Report → Type 0
TellsWhole document wish caps events report =
    report.left_out ≡ 0 → report.refused ≡ 0 →
    Tells report (run (all_done events) (new_world document wish caps)) (entries (all_done events) (new_world document wish caps))

-- What holds of a report of steps of a call. It says what they lead to; in that world the facts of the line hold and both stations are in
-- step; the sender and the owner of the store can rely on it; moves of the page machine lead to what it shows; and its transcript's turns
-- are counted by the groups that the caller has begun.
pub record KeepsSteps (document : Document) (wish : Wish) (caps : Caps) (steps : List (Event × Outcome)) (report : Report) : Type 0 where
  pub tells : Tells report (run steps (new_world document wish caps)) (entries steps (new_world document wish caps))
  pub facts : LineFacts (run steps (new_world document wish caps))
  pub in_step : InStep (run steps (new_world document wish caps))
  pub safe : IsSafe document report.pages.items report.confirmed report.caller_end report.answerer_end
  pub moves :
      Moves (length document) first_state
      (page_state report.pages.items report.confirmed report.caller_end report.answerer_end)
  pub counted : IsCounted (groups_begun (run steps (new_world document wish caps))) report.transcript.items

-- what holds of every report of a call of a document: it is the report of some steps of a call with some wish and some capabilities
pub record Keeps (document : Document) (report : Report) : Type 0 where
  pub wish : Wish
  pub caps : Caps
  pub steps : List (Event × Outcome)
  pub keeps : KeepsSteps document wish caps steps report

-- what holds of the report of a run of these events, with this wish and these capabilities
pub record KeepsRun (document : Document) (wish : Wish) (caps : Caps) (events : List Event) (report : Report) : Type 0 where
  pub steps : List (Event × Outcome)
  pub given : map (λ step. step.0) steps ≡ events
  pub keeps : KeepsSteps document wish caps steps report
