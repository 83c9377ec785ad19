-- What holds over every schedule, of a world's fields and of what is told of them.
use Rattle.std.proofs.Common.{◌≡◌, List, length, Result, Ok, Err, OnOk, OnErr, ap, sym, subst, ◌∙◌}
use Rattle.signals.specs.declared.params.Caps.{Caps}
use Rattle.signals.specs.declared.params.Wish.{Wish}
use Rattle.stations.specs.CallerStep.{confirmed}
use Rattle.stations.specs.Laws.{Each}
use Rattle.stations.specs.Layers.{Document, IsFullPage}
use Rattle.line_sim.specs.Counted.{IsCounted, RunsAreCounted, groups_begun}
use Rattle.line_sim.specs.Entries.{entries}
use Rattle.line_sim.specs.Headline.{Promised, EventsMove, LineHolds, StationsInStep, RunsMove, RunsAreSafe}
use Rattle.line_sim.specs.Line.{World, Outcome, happens, new_world, run}
use Rattle.line_sim.specs.Line.Outcome.{Done}
use Rattle.line_sim.specs.PageMachine.{AtMostTwo, page_state, shown}
use Rattle.line_sim.specs.Report.{Tells, TellsRun, KeepsSteps, Keeps, KeepsRun}
use Rattle.line_sim.specs.Represents.{Shows, WorldFields, IsReached, Becomes, BecomesSome, fields_state}
use Rattle.line_sim.specs.declared.call.Call.{Call}
use Rattle.line_sim.specs.declared.event.Event.{Event}
use Rattle.line_sim.specs.declared.report.Report.{Report}
use Rattle.line_sim.proofs.LineKeeps.{new_world_facts}
use Rattle.line_sim.proofs.Told.{safe_told, moves_told}
use Rattle.line_sim.proofs.WholeRuns.{run_same}

-- the caller's document is the one that the world began with
pub document_kept : Promised → (v : WorldFields) (r : IsReached v) → r.document ≡ v.call.caller.document
document_kept laws v r =
    sym (run_same laws r.steps (new_world r.document r.wish r.caps) (new_world_facts r.document r.wish r.caps r.full)) ∙
    r.shows.caller.document

-- the fields show what the world shows
pub state_shown : (v : Call) (w : World) → Shows v w → shown w ≡ fields_state v
state_shown v w shows =
    ap (λ s. page_state s.pages (confirmed w.caller) w.caller.ending s.ending) shows.answerer ∙
    (ap (λ n. page_state v.answerer.pages n w.caller.ending v.answerer.ending) shows.caller.confirms ∙
    ap (λ e. page_state v.answerer.pages v.caller.page e v.answerer.ending) shows.caller.ending)

pub two_moves_by : Promised → EventsMove → (old new : WorldFields) (event : Event) (outcome : Outcome) → IsReached old →
    Becomes old new event outcome → AtMostTwo (length old.call.caller.document) (fields_state old.call) (fields_state new.call)
two_moves_by laws moves old new event outcome r becomes =
    let w : World = run r.steps (new_world r.document r.wish r.caps) in
    let after : Shows new.call (happens w event outcome) = (becomes w r.shows).0 in
    subst (λ d. AtMostTwo (length d) (fields_state old.call) (fields_state new.call)) (document_kept laws old r)
    (subst (λ s. AtMostTwo (length r.document) s (fields_state new.call)) (state_shown old.call w r.shows)
    (subst (λ s. AtMostTwo (length r.document) (shown w) s) (state_shown new.call (happens w event outcome) after)
    (moves r.document r.wish r.caps r.steps r.full event outcome)))

pub event_moves : {E : Type 0} → Promised → EventsMove → (old new : WorldFields) (event : Event) (result : Result (Unit {0}) E) →
    IsReached old → OnOk result (Becomes old new event Done) → OnErr result (BecomesSome old new event) →
    AtMostTwo (length old.call.caller.document) (fields_state old.call) (fields_state new.call)
event_moves laws moves old new event (Ok done) r ok err = two_moves_by laws moves old new event Done r ok
event_moves laws moves old new event (Err refusal) r ok err = two_moves_by laws moves old new event err.0 r err.2

-- the laws that a report's clauses come from
abbrev pub RunLaws : Type 0
RunLaws = LineHolds × StationsInStep × RunsMove × RunsAreSafe × RunsAreCounted

-- what is told of a run keeps the laws of runs
told_keeps : RunLaws →
    (document : Document) (wish : Wish) (caps : Caps) (steps : List (Event × Outcome)) (report : Report) → Each IsFullPage document →
    Tells report (run steps (new_world document wish caps)) (entries steps (new_world document wish caps)) →
    KeepsSteps document wish caps steps report
told_keeps laws document wish caps steps report full tells =
    let w : World = run steps (new_world document wish caps) in
    record {
      tells = tells;
      facts = laws.0 document wish caps steps full;
      in_step = laws.1 document wish caps steps full;
      safe = safe_told document w report.pages.items report.confirmed report.caller_end report.answerer_end tells.pages tells.confirmed
          tells.caller_end tells.answerer_end (laws.3 document wish caps steps full);
      moves = moves_told document w report.pages.items report.confirmed report.caller_end report.answerer_end tells.pages tells.confirmed
          tells.caller_end tells.answerer_end (laws.2 document wish caps steps full);
      counted = subst (IsCounted (groups_begun w)) (sym tells.transcript) (laws.4 document wish caps steps);
    }

pub report_keeps : Promised → RunLaws → (v : WorldFields) (report : Report) → IsReached v →
    ((w : World) → Shows v.call w → Tells report w v.entries) → Keeps v.call.caller.document report
report_keeps promised laws v report r tells =
    subst (λ d. Keeps d report) (document_kept promised v r)
    (record {
      wish = r.wish;
      caps = r.caps;
      steps = r.steps;
      keeps = told_keeps laws r.document r.wish r.caps r.steps report r.full
          (subst (Tells report (run r.steps (new_world r.document r.wish r.caps))) r.noted
          (tells (run r.steps (new_world r.document r.wish r.caps)) r.shows));
    })

pub run_keeps_laws : RunLaws →
    (document : Document) (wish : Wish) (caps : Caps) (events : List Event) (report : Report) → Each IsFullPage document →
    TellsRun document wish caps events report → KeepsRun document wish caps events report
run_keeps_laws laws document wish caps events report full told =
    record { steps = told.steps; given = told.given; keeps = told_keeps laws document wish caps told.steps report full told.tells }
