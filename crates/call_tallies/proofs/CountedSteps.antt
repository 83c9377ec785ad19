-- The steps of a call over a bad line, of which events are counted.
use Rattle.std.proofs.Common.{◌≡◌, ℕ, suc, ◌+◌, Bool, false, List, [], ◌∷◌, ◌++◌, Option, Some, None, refl, ap, sym}
use Rattle.std.proofs.Common.{subst, ◌∙◌, arith, add_assoc}
use Rattle.rand_pcg.specs.Lcg.{Lcg}
use Rattle.line_sim.specs.BusyCalls.{setting_events}
use Rattle.line_sim.specs.Entries.{entries}
use Rattle.line_sim.specs.Fates.{DrivenFields, entries_of}
use Rattle.line_sim.specs.Line.{World}
use Rattle.line_sim.specs.Octets.{sender_to}
use Rattle.line_sim.specs.Report.{all_done}
use Rattle.line_sim.specs.declared.call.Call.{Call}
use Rattle.line_sim.specs.declared.drive.Step.{Step}
use Rattle.line_sim.specs.declared.event.Entry.{Entry}
use Rattle.line_sim.specs.declared.event.Event.{Event}
use Rattle.line_sim.proofs.Transcripts.{entries_both}
use Rattle.calls.specs.BadLines.{AreOfSteps, Going, Stands, WasSet, entry_if, going_events, gone, is_marked, setting_of}
use Rattle.call_tallies.specs.LineTimes.{Runs, RunsAfter, RunsSteps, clock_to, new_clocks}
use Rattle.call_tallies.specs.ManyCalls.{CountsAll, counts_in, counts_with}
use Rattle.call_tallies.specs.Totals.{total}
use Rattle.call_tallies.specs.TriesCounted.{Follows}
use Rattle.calls.specs.declared.counts.Counts.{Counts}
use Rattle.call_tallies.specs.declared.line_time.Clocks.{Clocks}
use Rattle.calls.specs.declared.losses.BadLine.{BadLine}
use Rattle.call_tallies.specs.declared.many_calls.CallCounts.{CallCounts}
use Rattle.call_tallies.specs.declared.tries.TryCounts.{TryCounts}
use Rattle.calls.proofs.DrivenSteps.{MaySet, MayStep, WasMade, done_both, over_now, put_counted, step_made, steps_lead}
use Rattle.call_tallies.proofs.LineTimes.{at_start, runs_step}
use Rattle.calls.proofs.SentItems.{AreCounted, no_counts}

-- ---- totals

pub total_both : {A : Type 0} (of : A → ℕ) (xs ys : List A) → total of (xs ++ ys) ≡ total of xs + total of ys
total_both of [] ys = let e : total of ys ≡ 0 + total of ys = omega arith in e
total_both of (x ∷ xs) ys = ap (λ n. of x + n) (total_both of xs ys) ∙ sym (add_assoc (of x) (total of xs) (total of ys))

same_counts : (a b c d e f g h i j : ℕ) → a ≡ f → b ≡ g → c ≡ h → d ≡ i → e ≡ j →
    ◌≡◌ {A = CallCounts} (record { deliveries = a; lost = b; spoiled = c; again = d; waited = e })
    (record { deliveries = f; lost = g; spoiled = h; again = i; waited = j })
same_counts a b c d e f g h i j one two three four five = rw (one, two, three, four, five) refl

pub counts_both : (xs ys : List Entry) → counts_in (xs ++ ys) ≡ counts_with (counts_in xs) (counts_in ys)
counts_both xs ys =
    same_counts _ _ _ _ _ _ _ _ _ _ (total_both _ xs ys) (total_both _ xs ys) (total_both _ xs ys) (total_both _ xs ys) (total_both _ xs ys)

-- what a setting counts for: nothing
abbrev no_events : CallCounts
no_events = record { deliveries = 0; lost = 0; spoiled = 0; again = 0; waited = 0 }

setting_counts : (setting : Option Bool) (w : World) → counts_in (entries (all_done (setting_events setting)) w) ≡ no_events
setting_counts None w = refl
setting_counts (Some busy) w = refl

none_with : (counts : CallCounts) → counts_with no_events counts ≡ counts
none_with counts =
    same_counts _ _ _ _ _ _ _ _ _ _ (more counts.deliveries) (more counts.lost) (more counts.spoiled) (more counts.again)
    (more counts.waited)
  where
    more : (n : ℕ) → 0 + n ≡ n
    more n = omega arith

-- ---- steps

-- some steps of a call were made, and their events were counted
pub record Went (bad : BadLine) (first : Going) (made : ℕ) (now : DrivenFields) (generator : Lcg) (counts : CallCounts) (clocks : Clocks)
    : Type 0 where
  pub stands : Stands now bad generator (gone made bad first)
  pub events : List Event
  pub are : AreOfSteps made bad first events
  pub counted : counts ≡ counts_in (entries (all_done events) first.call.world)
  pub sent : RunsSteps bad first made clocks

pub none_went : (bad : BadLine) (first : Going) (now : DrivenFields) (generator : Lcg) (counts : CallCounts) (fresh clocks : Clocks) →
    counts ≡ counts_in [] → fresh ≡ new_clocks → RunsAfter no_counts now.live fresh clocks → Stands now bad generator first →
    Went bad first 0 now generator counts clocks
none_went bad first now generator counts fresh clocks none new_is runs stands = record {
  stands = stands;
  events = [];
  are = refl;
  counted = none;
  sent = λ to. at_start to bad first now.live clocks stands.shows.world (subst (λ c. RunsAfter no_counts now.live c clocks) new_is runs);
}

-- what a step makes of the clocks
pub record StepRuns (now new : Call) (before after : Clocks) : Type 0 where
  pub counts : Counts
  pub counted : AreCounted counts now
  pub runs : RunsAfter counts new before after

pub one_went : (bad : BadLine) (first : Going) (made : ℕ) (now mid new : DrivenFields) (generator drawn later : Lcg)
    (counts more : CallCounts) (clocks after : Clocks) (set : Option Entry) (step : Step) →
    Went bad first made now generator counts clocks → MaySet bad now mid generator drawn set → is_marked set ≡ false →
    MayStep bad mid new drawn later (Some step) →
    step.entry.refused ≡ false → more ≡ counts_with counts (counts_in (entries_of step)) → StepRuns now.live new.live clocks after →
    Went bad first (made + 1) new later more after
one_went bad first made now mid new generator drawn later counts more clocks after set step r may_set unmarked may whole is did =
    let g : Going = gone made bad first in
    let w : World = first.call.world in
    let was : WasMade bad g new later (entry_if set ++ entries_of step) =
    step_made bad g now mid new generator drawn later set step r.stands may_set unmarked may whole in
    let setting : WasSet bad g mid drawn set = may_set g r.stands unmarked in
    let last : List Event = going_events bad g in
    let old : List Entry = entries (all_done r.events) w in
    let lines : List Entry = entry_if set ++ entries_of step in
    let both : entries (all_done (r.events ++ last)) w ≡ old ++ lines =
    ap (λ l. entries l w) (done_both r.events last) ∙ (entries_both (all_done r.events) (all_done last) w ∙
    (ap (λ v. old ++ entries (all_done last) v) (steps_lead made bad first r.events r.are) ∙ ap (λ l. old ++ l) was.noted_are)) in
    let alone : counts_in lines ≡ counts_in (entries_of step) =
    counts_both (entry_if set) (entries_of step) ∙
    (ap (λ c. counts_with c (counts_in (entries_of step)))
    (ap counts_in setting.noted ∙ setting_counts (setting_of bad g) g.call.world) ∙ none_with (counts_in (entries_of step))) in
    let n : suc made ≡ made + 1 = omega arith in
    subst (λ k. Went bad first k new later more after) n
    (record {
      stands = was.stands;
      events = r.events ++ last;
      are = (r.events, last, r.are, record { goes_on = was.runs; are = refl }, refl);
      counted = is ∙ (ap (λ c. counts_with c (counts_in (entries_of step))) r.counted ∙
          (ap (λ c. counts_with (counts_in old) c) (sym alone) ∙ (sym (counts_both old lines) ∙ ap counts_in (sym both))));
      sent = λ to. runs_step to bad first made clocks after (r.sent to)
          (subst (λ l. Runs (sender_to to) l (clock_to to clocks) (clock_to to after))
          (put_counted to bad g now.live new.live did.counts r.stands.shows.world was.stands.shows.world did.counted) (did.runs to));
    })

pub all_counted : (bad : BadLine) (spare : ℕ) (first : Going) (made : ℕ) (now mid new : DrivenFields) (generator drawn later : Lcg)
    (counts : CallCounts) (clocks : Clocks) (tries : TryCounts) (set : Option Entry) → Went bad first made now generator counts clocks →
    Follows made spare bad first tries → MaySet bad now mid generator drawn set → is_marked set ≡ false →
    MayStep bad mid new drawn later None → CountsAll bad spare first new (record { counts = counts; clocks = clocks; few = tries.few })
all_counted bad spare first made now mid new generator drawn later counts clocks tries set r follows may_set unmarked may =
    let over = over_now bad (gone made bad first) now mid new generator drawn later set r.stands may_set unmarked may in
    record {
      made = made;
      events = r.events;
      are = r.are;
      over = over.over;
      shows = over.shows;
      counts = r.counted;
      sent = r.sent;
      few = follows.few;
    }
