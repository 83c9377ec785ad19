-- What the command that runs many calls over a bad line does with images.
use Rattle.std.specs.Prelude.{◌≡◌, ◌<◌, ℕ, ◌+◌, Bool, true, false, cond, nat_eq, nat_lt, List, [], ◌∷◌, ◌++◌, Option}
use Rattle.std.specs.Prelude.{◌↔◌, IsTrue, Some, None, codes, length, slice_index}
use Rattle.std.specs.Fmt.{decimal}
use Rattle.std.specs.List.{flat_map}
use Rattle.std.specs.Io.KnownBytes.{Appends}
use Rattle.raster.specs.Pbm.{AreImages}
use Rattle.stations.specs.CallerFields.{AreCallable}
use Rattle.stations.specs.CallerStep.{confirmed}
use Rattle.stations.specs.Layers.{Document}
use Rattle.stations.specs.declared.turn.End.{End}
use Rattle.stations.specs.declared.turn.End.TheVariants as end
use Rattle.line_sim.specs.Driving.{is_over}
use Rattle.line_sim.specs.Entries.{entries}
use Rattle.line_sim.specs.Fates.{DrivenFields, ShowsDriven}
use Rattle.line_sim.specs.Line.{World}
use Rattle.line_sim.specs.Report.{all_done}
use Rattle.line_sim.specs.declared.event.Entry.{Entry}
use Rattle.line_sim.specs.declared.event.Event.{Event}
use Rattle.line_sim.specs.declared.event.Event.TheVariants as event
use Rattle.line_sim.specs.declared.event.Kind.{Kind}
use Rattle.line_sim.specs.declared.event.Kind.TheVariants.{Ppr}
use Rattle.calls.specs.BadLines.{AreOfSteps, Going, bad_call, gone, patience_of}
use Rattle.calls.specs.Calls.{call_world}
use Rattle.captures.specs.Frames.{line}
use Rattle.captures.specs.Texts.{spaced}
use Rattle.call_tallies.specs.FewTries.{FewTriesGone, HasFewTries}
use Rattle.call_tallies.specs.LineTimes.{RunsSteps, seconds_in, waited_in}
use Rattle.call_tallies.specs.Seconds.{AreShares, Shares, seconds_row}
use Rattle.call_tallies.specs.Totals.{one_if, total}
use Rattle.calls.specs.Transcripts.{end_text}
use Rattle.call_tallies.specs.declared.line_time.Clocks.{Clocks}
use Rattle.calls.specs.declared.losses.BadLine.{BadLine}
use Rattle.call_tallies.specs.declared.many_calls.CallCounts.{CallCounts}
use Rattle.call_tallies.specs.declared.many_calls.Counted.{Counted}
use Rattle.call_tallies.specs.declared.many_calls.OneCall.{OneCall}
use Rattle.calls.specs.declared.options.CallOptions.{CallOptions}
use Rattle.call_tallies.specs.declared.tallies.Tally.{Tally}

-- ---- what is counted of a call

-- an item comes: this is a delivery
abbrev pub is_delivery : Event → Bool
is_delivery event.DeliverToAnswerer = true
is_delivery event.DeliverToCaller = true
is_delivery _ = false

-- an item is lost
abbrev pub is_loss : Event → Bool
is_loss event.LoseToAnswerer = true
is_loss event.LoseToCaller = true
is_loss _ = false

-- a training check is spoiled
abbrev pub is_spoiling : Event → Bool
is_spoiling event.Spoil = true
is_spoiling _ = false

-- The FCDs that are sent again: those of a burst that answers a PPR. A PPR names the frames of a block that came with an error, and the
-- caller sends these alone again (T.30, Annex A).
abbrev pub frames_again : Option Kind → ℕ → ℕ
frames_again (Some Ppr) fcds = fcds
frames_again _ fcds = 0

-- how many items came and were lost, how many training checks were spoiled, how many FCDs were sent again, and for how many milliseconds
-- somebody waited until the wait was over
abbrev pub counts_in : List Entry → CallCounts
counts_in noted = record {
  deliveries = total (λ entry. one_if (is_delivery entry.event)) noted;
  lost = total (λ entry. one_if (is_loss entry.event)) noted;
  spoiled = total (λ entry. one_if (is_spoiling entry.event)) noted;
  again = total (λ entry. frames_again entry.item entry.fcds) noted;
  waited = total (λ entry. waited_in entry.event) noted;
}

-- two counts together
abbrev pub counts_with : CallCounts → CallCounts → CallCounts
counts_with a b = record {
  deliveries = a.deliveries + b.deliveries;
  lost = a.lost + b.lost;
  spoiled = a.spoiled + b.spoiled;
  again = a.again + b.again;
  waited = a.waited + b.waited;
}

-- The call at its start was driven by its generator's words until it was over. Counted are its events, how long what it sent lasts, and if
-- each phase had few bad tries and each group no more than `spare` spoiled checks.
pub record CountsAll (bad : BadLine) (spare : ℕ) (first : Going) (new : DrivenFields) (counted : Counted) : Type 0 where
  pub made : ℕ
  pub events : List Event
  pub are : AreOfSteps made bad first events
  pub over : is_over (gone made bad first).call ≡ true
  pub shows : ShowsDriven new (patience_of bad) (gone made bad first).call
  pub counts : counted.counts ≡ counts_in (entries (all_done events) first.call.world)
  pub sent : RunsSteps bad first made counted.clocks
  pub few : IsTrue counted.few ↔ FewTriesGone made spare bad first

-- what a call has come to, with its number and what was counted of it
pub record EndsSo (call : OneCall) (number : ℕ) (w : World) (counts : CallCounts) : Type 0 where
  pub number_is : call.number ≡ number
  pub caller_end : call.caller_end ≡ w.caller.ending
  pub confirmed : call.confirmed ≡ confirmed w.caller
  pub answerer_end : call.answerer_end ≡ w.answerer.ending
  pub pages : call.pages ≡ length w.answerer.pages
  pub counted : call.counts ≡ counts

-- The call of a number, of a document. It makes the same steps as if it ran alone, until it is over. Its result is how it ended, what is
-- counted of its events, for how many seconds it had the line, and that each phase had few bad tries, or not.
pub record IsCallOf (options : CallOptions) (bad : BadLine) (number : ℕ) (document : Document) (call : OneCall) : Type 0 where
  pub callable : AreCallable document
  pub made : ℕ
  pub events : List Event
  pub are : AreOfSteps made bad (bad_call options bad number document) events
  pub over : is_over (gone made bad (bad_call options bad number document)).call ≡ true
  pub ends :
      EndsSo call number (gone made bad (bad_call options bad number document)).call.world
      (counts_in (entries (all_done events) (call_world options document)))
  pub clocks : Clocks
  pub sent : RunsSteps bad (bad_call options bad number document) made clocks
  pub seconds : call.seconds ≡ seconds_in clocks call.counts.waited call.caller_end
  pub few : IsTrue call.few ↔ HasFewTries options bad number document made

-- calls of a document, of the numbers from a first one on
abbrev pub AreCallsOf : CallOptions → BadLine → ℕ → Document → List OneCall → Type 0
AreCallsOf options bad first document [] = Unit {0}
AreCallsOf options bad first document (call ∷ calls) =
    IsCallOf options bad first document call × AreCallsOf options bad (first + 1) document calls

-- ---- what is written

-- a call's number, and how it ended for the caller, with the pages confirmed, and for the answerer, with the pages stored
abbrev pub ends_words : OneCall → List ℕ
ends_words call = spaced (codes "call" ∷ decimal call.number ∷ codes "caller" ∷ end_text call.caller_end ∷ codes "confirmed"
    ∷ decimal call.confirmed ∷ codes "answerer" ∷ end_text call.answerer_end ∷ codes "pages" ∷ decimal call.pages ∷ [])

-- what was counted of a call, after a space, to the end of its line
abbrev pub counts_words : CallCounts → List ℕ
counts_words counts = codes " deliveries " ++ (decimal counts.deliveries ++ (codes " lost " ++ (decimal counts.lost
    ++ (codes " spoiled " ++ (decimal counts.spoiled ++ (codes " again " ++ (decimal counts.again ++ 10 ∷ [])))))))

-- the line of a call: its number, how it ended for both stations, with the pages confirmed and stored, and what was counted
abbrev pub one_line : OneCall → List ℕ
one_line call = ends_words call ++ counts_words call.counts

-- the ends that a call can have for a station, in the order of the table
abbrev pub all_ends : List End
all_ends = end.Normal ∷ end.NoAnswer ∷ end.NotCompatible ∷ end.Training ∷ end.NoReply ∷ end.Unreadable ∷ end.StillBusy
    ∷ end.PeerLeft ∷ end.BadPage ∷ end.PageTooLong ∷ []

-- the place of an end there, and 10 of a call that goes on
abbrev pub place_of : Option End → ℕ
place_of (Some end.Normal) = 0
place_of (Some end.NoAnswer) = 1
place_of (Some end.NotCompatible) = 2
place_of (Some end.Training) = 3
place_of (Some end.NoReply) = 4
place_of (Some end.Unreadable) = 5
place_of (Some end.StillBusy) = 6
place_of (Some end.PeerLeft) = 7
place_of (Some end.BadPage) = 8
place_of (Some end.PageTooLong) = 9
place_of None = 10

-- how many calls ended for the caller as the place says
abbrev pub ended_at : ℕ → List OneCall → ℕ
ended_at place calls = total (λ call. one_if (nat_eq (place_of call.caller_end) place)) calls

-- the row of an end, with how many calls ended so for the caller; no row if there is none
abbrev pub row_of : End → ℕ → List ℕ
row_of why count = cond (nat_eq count 0) [] (line (codes "caller" ∷ end_text (Some why) ∷ decimal count ∷ []))

-- the row of an end in the table of calls
abbrev pub end_row : List OneCall → End → List ℕ
end_row calls why = row_of why (ended_at (place_of (Some why)) calls)

-- a call with at most two items lost or training checks spoiled
abbrev pub is_mild : CallCounts → Bool
is_mild counts = nat_lt (counts.lost + counts.spoiled) 3

-- 1 for a call with at most two losses
abbrev pub mild_in : OneCall → ℕ
mild_in call = one_if (is_mild call.counts)

-- 1 for a call with at most two losses that ended normally for the caller
abbrev pub borne_in : OneCall → ℕ
borne_in call = cond (nat_eq (place_of call.caller_end) 0) (mild_in call) 0

-- 1 for a call that has few bad tries in each phase
abbrev pub few_in : OneCall → ℕ
few_in call = one_if call.few

-- 1 for a call with few bad tries in each phase that ended normally for the caller
abbrev pub through_in : OneCall → ℕ
through_in call = cond (nat_eq (place_of call.caller_end) 0) (few_in call) 0

-- a row of the table: a word and a number
abbrev pub sum_row : List ℕ → ℕ → List ℕ
sum_row word count = line (word ∷ decimal count ∷ [])

-- the row of calls that lost little: how many they are, and how many of them ended normally for the caller
abbrev pub mild_row : ℕ → ℕ → List ℕ
mild_row mild borne = codes "at-most-two-bad " ++ (decimal mild ++ (codes " normal " ++ (decimal borne ++ 10 ∷ [])))

-- the row of calls that have few bad tries in each phase: how many they are, and how many of them ended normally for the caller
abbrev pub few_row : ℕ → ℕ → List ℕ
few_row few through = codes "few-bad-tries " ++ (decimal few ++ (codes " normal " ++ (decimal through ++ 10 ∷ [])))

-- The table of calls: how many there are; how many ended how for the caller, with no row for an end of none; how many had at most two
-- losses, and how many of these ended normally; how many had few bad tries in each phase, and how many of these ended normally; and the
-- sums of deliveries and of frames sent again.
abbrev pub table_text : List OneCall → List ℕ
table_text calls = sum_row (codes "calls") (length calls) ++ (flat_map (end_row calls) all_ends
    ++ (mild_row (total mild_in calls) (total borne_in calls) ++ (few_row (total few_in calls) (total through_in calls)
    ++ (sum_row (codes "deliveries") (total (λ call. call.counts.deliveries) calls)
    ++ sum_row (codes "again") (total (λ call. call.counts.again) calls)))))

-- the numbers of the tally are those of these calls
pub record Tallies (tally : Tally) (calls : List OneCall) : Type 0 where
  pub count : tally.calls ≡ length calls
  pub places : length tally.ended ≡ 11
  pub ended : (place : ℕ) → place < 11 → slice_index tally.ended place ≡ ended_at place calls
  pub mild : tally.mild ≡ total mild_in calls
  pub borne : tally.borne ≡ total borne_in calls
  pub few : tally.few ≡ total few_in calls
  pub through : tally.through ≡ total through_in calls
  pub deliveries : tally.deliveries ≡ total (λ call. call.counts.deliveries) calls
  pub again : tally.again ≡ total (λ call. call.counts.again) calls

-- a line for each call, and the table, with the row of seconds at its end
abbrev pub many_text : List OneCall → Shares → List ℕ
many_text calls shares = flat_map one_line calls ++ (table_text calls ++ seconds_row shares)

-- This number of calls of a document over a bad line were driven, numbered from 0, and what was written is the line of each and the table.
pub record TellsCalls (options : CallOptions) (bad : BadLine) (times : ℕ) (document : Document) (before after : Option (List ℕ))
    : Type 0 where
  pub calls : List OneCall
  pub many : length calls ≡ times
  pub are : AreCallsOf options bad 0 document calls
  pub shares : Shares
  pub are_shares : AreShares shares calls
  pub written : Appends before after (many_text calls shares)

-- the images are a document's, and its calls were driven and told
pub record TellsMany (options : CallOptions) (bad : BadLine) (times : ℕ) (images : List ℕ) (before after : Option (List ℕ)) : Type 0 where
  pub document : Document
  pub read : AreImages options.fine images document
  pub told : TellsCalls options bad times document before after
