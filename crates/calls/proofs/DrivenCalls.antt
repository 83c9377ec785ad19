-- How a call over a bad line ends.
use Rattle.std.proofs.Common.{◌≡◌, ◌⊎◌, ℕ, Bool, List, Option, Some, None, inl, inr, refl, sym, subst, ◌++◌}
use Rattle.std.specs.Prelude.{IfSome}
use Rattle.std.specs.Io.KnownBytes.{Appends}
use Rattle.std.proofs.KnownBytes.{Appends-trans}
use Rattle.raster.specs.Pages.{PagePixels, IsDocument}
use Rattle.raster.specs.Pbm.{AreImages}
use Rattle.stations.specs.CallerFields.{AreCallable}
use Rattle.stations.specs.Inputs.{PlainItem}
use Rattle.stations.specs.Layers.{Document}
use Rattle.line_sim.specs.Entries.{entries}
use Rattle.line_sim.specs.Fates.{DrivenFields}
use Rattle.line_sim.specs.Headline.{IsSafeWorld, RunsAreSafe}
use Rattle.line_sim.specs.Line.{World}
use Rattle.line_sim.specs.Report.{all_done}
use Rattle.line_sim.specs.Represents.{Shows}
use Rattle.line_sim.specs.declared.call.Call.{Call}
use Rattle.line_sim.specs.declared.live.Ending.{Ending}
use Rattle.calls.specs.BadLines.{Going, LeavesAfter, LeavesDriven, RefusesDriven, TellsAll, TellsDriven, bad_call, gone}
use Rattle.calls.specs.BadLines.{put_by_steps}
use Rattle.calls.specs.Calls.{EndsAs, HaveRows, answerer_caps, call_world, caller_wish}
use Rattle.faults.specs.Faults.{IsOutside}
use Rattle.calls.specs.SentBits.{WritesAfter, WritesLines, Written, on_way_to}
use Rattle.calls.specs.Transcripts.{ending_text, entry_lines}
use Rattle.faults.specs.declared.fault.ToolFault.{ToolFault}
use Rattle.faults.specs.declared.fault.ToolFault.TheVariants.{No}
use Rattle.calls.specs.declared.losses.BadLine.{BadLine}
use Rattle.calls.specs.declared.options.CallOptions.{CallOptions}
use Rattle.calls.proofs.DrivenSteps.{steps_lead}
use Rattle.calls.proofs.CallSteps.{beginning_rows, full_pages, safe_told}
use Rattle.calls.proofs.SentItems.{before_lines, no_counts, start_sent, writes_on}

-- what the steps of a call over a bad line lead to is safe: they are a run of events
pub tells_driven : RunsAreSafe → (options : CallOptions) (line : BadLine) (number : ℕ) (document : Document) (new : DrivenFields)
    (start : Call) (ending : Ending) (before begun at after : Written) → IsDocument document → AreCallable document →
    Shows start (call_world options document) → WritesAfter no_counts start before begun →
    TellsAll line (bad_call options line number document) new begun at →
    ((w : World) → Shows new.live w → EndsAs ending w) → WritesLines at after (ending_text ending) →
    LeavesAfter options line number document before after ending
tells_driven law options line number document new start ending before begun at after is callable shows begins told ends text =
    let first : Going = bad_call options line number document in
    let w : World = (gone told.made line first).call.world in
    let ended : EndsAs ending w = ends w told.shows.world in (
      record {
        callable = callable;
        made = told.made;
        events = told.events;
        are = told.are;
        over = told.over;
        ending = ending;
        ends = ended;
        written = Appends-trans before.lines at.lines after.lines
            (entry_lines 1 (entries (all_done told.events) (call_world options document))) (ending_text ending)
            (subst (λ o. Appends o at.lines (entry_lines 1 (entries (all_done told.events) (call_world options document)))) begins.lines
            told.written) text.lines;
        sent = λ to.
            let items : List PlainItem = put_by_steps to told.made line first in
            before_lines to (on_way_to to (call_world options document) ++ items) before at after (ending_text ending)
            (writes_on to (on_way_to to (call_world options document)) items before begun at
            (start_sent to start (call_world options document) before begun shows begins) (told.sent to)) text;
        answered = refl;
        safe = safe_told document ending w ended
            (subst (IsSafeWorld document) (steps_lead told.made line first told.events told.are)
            (law document (caller_wish options) (answerer_caps options.modems) (all_done told.events)
            (full_pages document is.valid is.rows)));
      },
      refl,
    )

pub driven_rows : (options : CallOptions) (line : BadLine) (number : ℕ) (document : Document) (before after : Written)
    (pages : List PagePixels) → TellsDriven options line number document before after pages → HaveRows document → HaveRows pages
driven_rows options line number document before after pages told some =
    subst HaveRows (sym told.answered) (beginning_rows told.ending.pages.items document told.safe.beginning some)

pub leaves_driven : (options : CallOptions) (line : BadLine) (number : ℕ) (images : Option (List ℕ)) (before after : Written)
    (document : Document) (ending : Ending) → IfSome images (λ octets. AreImages options.fine octets document) →
    LeavesAfter options line number document before after ending →
    IfSome images (λ octets. LeavesDriven options line number octets before after ending)
leaves_driven options line number None before after document ending read told = tt
leaves_driven options line number (Some images) before after document ending read (told, left) =
    (record { document = document; read = read; told = told }, left)

pub refused_driven : (fine : Bool) (images : Option (List ℕ)) (document : Document) (fault : ToolFault) →
    IfSome images (λ octets. AreImages fine octets document) → IsOutside fault ⊎ (¬ AreCallable document × (fault ≡ No 26)) →
    IfSome images (λ octets. RefusesDriven fine octets fault)
refused_driven fine None document fault read why = tt
refused_driven fine (Some images) document fault read (inl outside) = inl outside
refused_driven fine (Some images) document fault read (inr wide) = inr (inr (document, read, wide.0, wide.1))
