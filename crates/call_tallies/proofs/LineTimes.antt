-- How long what is sent lasts: items, and then others.
use Rattle.std.proofs.Common.{◌≡◌, ℕ, suc, ◌+◌, List, [], ◌∷◌, ◌++◌, drop, length, Some, refl, sym, subst, ◌∙◌, append_assoc}
use Rattle.std.proofs.lemmas.List.{append-nil}
use Rattle.signals.specs.declared.signal.Side.{Side}
use Rattle.signals.specs.declared.signal.Side.TheVariants.{Answerer, Caller}
use Rattle.stations.specs.Inputs.{PlainItem}
use Rattle.line_sim.specs.Octets.{IsFirstLent, IsLentAt, form_of, sender_to, under_way_to}
use Rattle.line_sim.specs.Represents.{Shows}
use Rattle.line_sim.specs.declared.call.Call.{Call}
use Rattle.line_sim.specs.declared.event.LineItem.{LineItem}
use Rattle.calls.specs.BadLines.{Going, gone, put_by_step, put_by_steps}
use Rattle.call_tallies.specs.LineTimes.{Runs, RunsAfter, after_item, clock_to, new_clock, new_clocks}
use Rattle.calls.specs.SentBits.{on_way_to}
use Rattle.calls.specs.declared.counts.Counts.{Counts}
use Rattle.call_tallies.specs.declared.line_time.Clock.{Clock}
use Rattle.call_tallies.specs.declared.line_time.Clocks.{Clocks}
use Rattle.calls.specs.declared.losses.BadLine.{BadLine}
use Rattle.calls.proofs.SentItems.{left_of, no_counts, shown_to}

-- ---- items and then others

pub runs_on : (side : Side) (items others : List PlainItem) (before at after : Clock) → Runs side items before at →
    Runs side others at after → Runs side (items ++ others) before after
runs_on side [] others before at after none more = subst (λ c. Runs side others c after) none more
runs_on side (item ∷ items) others before at after (kind, octets, is, are, rest) more =
    (kind, octets, is, are, runs_on side items others _ at after rest more)

-- ---- the items from a place on

-- whatever the items from a place on make of a clock, those from the first one on do
abbrev pub Through : Side → List PlainItem → ℕ → ℕ → Clock → Clock → Type 0
Through side items first place before now =
    (after : Clock) → Runs side (drop place items) now after → Runs side (drop first items) before after

pub one_through : (side : Side) (items : List PlainItem) (first place : ℕ) (before now next : Clock) (lent : LineItem) →
    Through side items first place before now → IsLentAt side place (Some lent) items →
    next ≡ after_item (form_of lent.kind) (length lent.octets.now) now → Through side items first (place + 1) before next
one_through side items first place before now next lent so_far lends next_is after runs =
    so_far after (at (drop place items) refl lends)
  where
    at : (tail : List PlainItem) → drop place items ≡ tail → IsFirstLent side (Some lent) tail → Runs side (drop place items) now after
    at [] e lends = absurd lends
    at (item ∷ tail) e lends = subst (λ l. Runs side l now after) (sym e) (
      lent.kind,
      lent.octets.now,
      lends.0,
      lends.1,
      subst (λ c. Runs side tail c after) next_is (subst (λ l. Runs side l next after) (left_of place items item tail e) runs),
    )

pub all_through : (side : Side) (items : List PlainItem) (first place : ℕ) (before now : Clock) →
    Through side items first place before now → drop place items ≡ [] → Runs side (drop first items) before now
all_through side items first place before now so_far none = so_far now (subst (λ l. Runs side l now now) (sym none) refl)

-- ---- both directions

pub both_run : (counts : Counts) (call : Call) (before after : Clocks) →
    Runs Caller (drop counts.to_answerer (under_way_to Answerer call)) before.to_answerer after.to_answerer →
    Runs Answerer (drop counts.to_caller (under_way_to Caller call)) before.to_caller after.to_caller → RunsAfter counts call before after
both_run counts call before after one other Answerer = one
both_run counts call before after one other Caller = other

-- ---- steps

new_clock_to : (to : Side) → clock_to to new_clocks ≡ new_clock
new_clock_to Answerer = refl
new_clock_to Caller = refl

-- what is under way at the start of a call
pub at_start : (to : Side) (bad : BadLine) (first : Going) (start : Call) (clocks : Clocks) → Shows start first.call.world →
    RunsAfter no_counts start new_clocks clocks →
    Runs (sender_to to) (on_way_to to first.call.world ++ put_by_steps to 0 bad first) new_clock (clock_to to clocks)
at_start to bad first start clocks shows runs =
    subst (λ l. Runs (sender_to to) l new_clock (clock_to to clocks))
    (sym (shown_to to start first.call.world shows) ∙ sym (append-nil (on_way_to to first.call.world)))
    (subst (λ c. Runs (sender_to to) (under_way_to to start) c (clock_to to clocks)) (new_clock_to to) (all_of to runs))
  where
    all_of : (to : Side) → RunsAfter no_counts start new_clocks clocks →
        Runs (sender_to to) (under_way_to to start) (clock_to to new_clocks) (clock_to to clocks)
    all_of Answerer runs = runs Answerer
    all_of Caller runs = runs Caller

-- a step more
pub runs_step : (to : Side) (bad : BadLine) (first : Going) (made : ℕ) (clocks after : Clocks) →
    Runs (sender_to to) (on_way_to to first.call.world ++ put_by_steps to made bad first) new_clock (clock_to to clocks) →
    Runs (sender_to to) (put_by_step to bad (gone made bad first)) (clock_to to clocks) (clock_to to after) →
    Runs (sender_to to) (on_way_to to first.call.world ++ put_by_steps to (suc made) bad first) new_clock (clock_to to after)
runs_step to bad first made clocks after so_far more =
    let start : List PlainItem = on_way_to to first.call.world in
    let items : List PlainItem = put_by_steps to made bad first in
    let last : List PlainItem = put_by_step to bad (gone made bad first) in
    subst (λ l. Runs (sender_to to) l new_clock (clock_to to after)) (append_assoc start items last)
    (runs_on (sender_to to) (start ++ items) last new_clock (clock_to to clocks) (clock_to to after) so_far more)
