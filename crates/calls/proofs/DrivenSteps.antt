-- The steps of a call over a bad line, one after the other, with the lines of each.
use Rattle.std.proofs.Common.{◌≡◌, ◌≢◌, ℕ, zero, suc, ◌+◌, Bool, true, false, cond, List, [], ◌∷◌, ◌++◌, drop, length, Option, Some}
use Rattle.std.proofs.Common.{◌<◌, None, refl, ap, sym, subst, ◌∙◌, arith}
use Rattle.std.specs.Prelude.{◌&&◌, nat_lt}
use Rattle.std.specs.Io.KnownBytes.{Appends}
use Rattle.std.proofs.KnownBytes.{Appends-trans, Appends-nil}
use Rattle.std.proofs.lemmas.Bool.{lt-ltb}
use Rattle.std.proofs.lemmas.List.{append-nil, length-append}
use Rattle.rand_pcg.specs.Lcg.{Lcg}
use Rattle.rand_pcg.specs.Pcg.{pcg32}
use Rattle.signals.specs.declared.signal.Side.{Side}
use Rattle.stations.specs.Inputs.{PlainItem}
use Rattle.stations.specs.declared.turn.End.{End}
use Rattle.line_sim.specs.BusyCalls.{setting_events, sets}
use Rattle.line_sim.specs.Driving.{Driven, Patience, first_fate, is_over, is_over_at}
use Rattle.line_sim.specs.Entries.{entries, head_kind}
use Rattle.line_sim.specs.Fates.{DrivenFields, MakesStep, SetsBusy, ShowsDriven, Steps, asks_ready, entries_of, events_of, is_fate_due}
use Rattle.line_sim.specs.Fates.{plain_fate}
use Rattle.line_sim.specs.Line.{Done, run}
use Rattle.line_sim.specs.Octets.{under_way_to}
use Rattle.line_sim.specs.Report.{all_done}
use Rattle.line_sim.specs.Represents.{Shows}
use Rattle.line_sim.specs.declared.call.Call.{Call}
use Rattle.line_sim.specs.declared.drive.Fate.{Fate as CallFate}
use Rattle.line_sim.specs.declared.drive.Fate.TheVariants.{Comes}
use Rattle.line_sim.specs.declared.drive.Step.{Step}
use Rattle.line_sim.specs.declared.event.Entry.{Entry}
use Rattle.line_sim.specs.declared.event.Event.{Event}
use Rattle.line_sim.specs.declared.event.Event.TheVariants.{Busy}
use Rattle.line_sim.proofs.BusyCalls.{over_set}
use Rattle.line_sim.proofs.DrivenRuns.{driven_steps_are_events}
use Rattle.line_sim.proofs.Fates.{due_shown}
use Rattle.line_sim.proofs.Transcripts.{run_both, entries_both}
use Rattle.calls.specs.BadLines.{AreOfSteps, Draws, Going, IsSet, Stands, TellsAll, WasSet, drawn_if, entry_if, fated, next_going}
use Rattle.calls.specs.BadLines.{going_events, gone, is_due, is_marked, is_set, patience_of, put_by_step, put_by_steps, set_in, setting_of}
use Rattle.calls.specs.Losses.{fate_of, is_busy_word}
use Rattle.calls.specs.SentBits.{WritesAfter, WritesItems, WritesLines, Written, count_to, on_way_to}
use Rattle.calls.specs.Transcripts.{entry_lines}
use Rattle.calls.specs.declared.counts.Counts.{Counts}
use Rattle.calls.specs.declared.losses.BadLine.{BadLine}
use Rattle.calls.proofs.EntryLines.{lines_both}
use Rattle.calls.proofs.SentItems.{AreCounted, StepWrites, after_lines, before_lines, counted_to, lines_on, shown_to, step_lines}
use Rattle.calls.proofs.SentItems.{writes_none, writes_on}

pub done_both : (xs ys : List Event) → all_done (xs ++ ys) ≡ all_done xs ++ all_done ys
done_both [] ys = refl
done_both (x ∷ xs) ys = ap (λ l. (x, Done) ∷ l) (done_both xs ys)

-- ---- the answerer is set

and_none : (b : Bool) → (b && false) ≡ false
and_none true = refl
and_none false = refl

-- it never is
pub none_set : (line : BadLine) (d : Driven) → line.busy ≡ 0 → is_set line d ≡ false
none_set line d none = ap (λ n. nat_lt 0 n && asks_ready (head_kind d.world.to_answerer)) none

asked : (line : BadLine) (v : DrivenFields) (d : Driven) (asks : Bool) → ShowsDriven v (patience_of line) d →
    asks ≡ asks_ready (head_kind v.live.to_answerer) → asks_ready (head_kind d.world.to_answerer) ≡ asks
asked line v d asks shows asks_is = ap (λ l. asks_ready (head_kind l)) shows.world.to_answerer ∙ sym asks_is

-- nothing asks it
pub not_asked : (line : BadLine) (v : DrivenFields) (d : Driven) (asks : Bool) → ShowsDriven v (patience_of line) d →
    asks ≡ asks_ready (head_kind v.live.to_answerer) → asks ≡ false → is_set line d ≡ false
not_asked line v d asks shows asks_is none =
    ap (λ b. nat_lt 0 line.busy && b) (asked line v d asks shows asks_is ∙ none) ∙ and_none (nat_lt 0 line.busy)

-- something does
pub is_asked : (line : BadLine) (v : DrivenFields) (d : Driven) (asks : Bool) → ShowsDriven v (patience_of line) d →
    asks ≡ asks_ready (head_kind v.live.to_answerer) → line.busy ≢ 0 → asks ≡ true → is_set line d ≡ true
is_asked line v d asks shows asks_is some holds =
    ap (λ b. nat_lt 0 line.busy && b) (asked line v d asks shows asks_is ∙ holds) ∙
    ap (λ b. b && true) (lt-ltb 0 line.busy (above line.busy some))
  where
    above : (n : ℕ) → n ≢ 0 → 0 < n
    above zero some = absurd (some refl)
    above (suc n) some = omega arith

-- the setting, where one is drawn or not
abbrev given : BadLine → Going → Bool → Option Bool
given line g b = cond b (Some (is_busy_word line (pcg32 g.generator).0)) None

-- and the call that is set so
abbrev set_so : BadLine → Going → Bool → Going
set_so line g b = record { call = sets (given line g b) g.call; generator = drawn_if b g.generator }

pub not_set : (line : BadLine) (g : Going) (v : DrivenFields) (generator : Lcg) → is_set line g.call ≡ false → Stands v line generator g →
    IsSet line g v generator None
not_set line g v generator is stands whole = record {
  stands = subst (λ b. Stands v line generator (set_so line g b)) (sym is) (record { shows = stands.shows; drawn = stands.drawn });
  noted = ap (λ b. entries (all_done (setting_events (given line g b))) g.call.world) (sym is);
}

pub was_set : (line : BadLine) (g : Going) (old new : DrivenFields) (generator next : Lcg) (busy : Bool) (entry : Entry) →
    is_set line g.call ≡ true → Stands old line generator g → busy ≡ is_busy_word line (pcg32 generator).0 → next ≡ (pcg32 generator).1 →
    SetsBusy (patience_of line) busy new g.call entry → IsSet line g new next (Some entry)
was_set line g old new generator next busy entry is stands busy_is next_is did whole =
    let same : busy ≡ is_busy_word line (pcg32 g.generator).0 =
    busy_is ∙ ap (λ l. is_busy_word line (pcg32 l).0) (sym stands.drawn) in
    let done = did.done whole in
    record {
      stands = subst (λ b. Stands new line next (set_so line g b)) (sym is) (record {
        shows = subst (λ b. ShowsDriven new (patience_of line) (sets (Some b) g.call)) same done.1;
        drawn = ap (λ l. (pcg32 l).1) stands.drawn ∙ sym next_is;
      });
      noted = did.noted ∙ (ap (λ o. entries ((Busy busy, o) ∷ []) g.call.world) done.0 ∙
          (ap (λ b. entries ((Busy b, Done) ∷ []) g.call.world) same ∙
          ap (λ b. entries (all_done (setting_events (given line g b))) g.call.world) (sym is)));
    }

-- ---- a step with its fate

-- a step that may be made with a fate
abbrev pub MayMake : DrivenFields → DrivenFields → CallFate → Option Step → Type 0
MayMake old new fate step =
    (p : Patience) (d : Driven) → ShowsDriven old p d → first_fate d.fates ≡ plain_fate fate → Steps p old new d step

fated_shown : (line : BadLine) (g : Going) (v : DrivenFields) → ShowsDriven v (patience_of line) g.call →
    ShowsDriven v (patience_of line) (fated line g)
fated_shown line g v shows = record { world = shows.world; dis = shows.dis; rnrs = shows.rnrs; patience = shows.patience }

-- a fate was due
pub drew : (line : BadLine) (g : Going) (old new : DrivenFields) (generator next : Lcg) (due : Bool) (fate : CallFate)
    (step : Option Step) → Stands old line generator g →
    due ≡ is_fate_due (nat_lt old.rnrs old.patience.busy) old.live.to_answerer old.live.to_caller →
    due ≡ true → plain_fate fate ≡ fate_of line (pcg32 generator).0 → next ≡ (pcg32 generator).1 → MayMake old new fate step →
    Draws line g old new next step
drew line g old new generator next due fate step stands due_is holds fate_is next_is may =
    let is : is_due line g.call ≡ true = due_shown (patience_of line) old g.call due stands.shows due_is ∙ holds in
    record {
      steps = may (patience_of line) (fated line g) (fated_shown line g old stands.shows)
          (ap (λ b. first_fate (cond b (fate_of line (pcg32 g.generator).0 ∷ []) [])) is ∙
          (ap (λ l. fate_of line (pcg32 l).0) stands.drawn ∙ sym fate_is));
      drawn = next_is ∙ (ap (λ l. (pcg32 l).1) (sym stands.drawn) ∙ ap (λ b. drawn_if b g.generator) (sym is));
    }

-- none was due
pub kept_word : (line : BadLine) (g : Going) (old new : DrivenFields) (generator : Lcg) (due : Bool) (step : Option Step) →
    Stands old line generator g → due ≡ is_fate_due (nat_lt old.rnrs old.patience.busy) old.live.to_answerer old.live.to_caller →
    due ≡ false → MayMake old new Comes step → Draws line g old new generator step
kept_word line g old new generator due step stands due_is fails may =
    let is : is_due line g.call ≡ false = due_shown (patience_of line) old g.call due stands.shows due_is ∙ fails in
    record {
      steps = may (patience_of line) (fated line g) (fated_shown line g old stands.shows)
          (ap (λ b. first_fate (cond b (fate_of line (pcg32 g.generator).0 ∷ []) [])) is);
      drawn = sym stands.drawn ∙ ap (λ b. drawn_if b g.generator) (sym is);
    }

-- ---- what a step leads to

set_lead : (setting : Option Bool) (d : Driven) → run (all_done (setting_events setting)) d.world ≡ (sets setting d).world
set_lead None d = refl
set_lead (Some busy) d = refl

going_lead : (line : BadLine) (g : Going) → run (all_done (going_events line g)) g.call.world ≡ (next_going line g).call.world
going_lead line g =
    let firsts : List Event = setting_events (setting_of line g) in
    let f : Driven = fated line (set_in line g) in
    let lasts : List Event = events_of (patience_of line) f in
    ap (λ l. run l g.call.world) (done_both firsts lasts) ∙ (run_both (all_done firsts) (all_done lasts) g.call.world ∙
    (ap (λ w. run (all_done lasts) w) (set_lead (setting_of line g) g.call) ∙ driven_steps_are_events (patience_of line) f))

pub steps_lead : (made : ℕ) (line : BadLine) (first : Going) (events : List Event) → AreOfSteps made line first events →
    run (all_done events) first.call.world ≡ (gone made line first).call.world
steps_lead zero line first events none = ap (λ l. run (all_done l) first.call.world) none
steps_lead (suc made) line first events (firsts, last, are, one, all) =
    let w = first.call.world in
    ap (λ l. run (all_done l) w) all ∙ (ap (λ l. run l w) (done_both firsts last) ∙ (run_both (all_done firsts) (all_done last) w ∙
    (ap (λ v. run (all_done last) v) (steps_lead made line first firsts are) ∙
    (ap (λ l. run (all_done l) (gone made line first).call.world) one.are ∙ going_lead line (gone made line first)))))

-- a step that may be made, after a setting
abbrev pub MaySet : BadLine → DrivenFields → DrivenFields → Lcg → Lcg → Option Entry → Type 0
MaySet line now mid generator drawn set = (g : Going) → Stands now line generator g → IsSet line g mid drawn set

abbrev pub MayStep : BadLine → DrivenFields → DrivenFields → Lcg → Lcg → Option Step → Type 0
MayStep line mid new drawn later step = (g : Going) → Stands mid line drawn g → Draws line g mid new later step

-- a step was made: the call stands after it, and its entries are these
pub record WasMade (line : BadLine) (g : Going) (new : DrivenFields) (later : Lcg) (noted : List Entry) : Type 0 where
  pub runs : is_over g.call ≡ false
  pub stands : Stands new line later (next_going line g)
  pub noted_are : entries (all_done (going_events line g)) g.call.world ≡ noted

pub step_made : (line : BadLine) (g : Going) (now mid new : DrivenFields) (generator drawn later : Lcg) (set : Option Entry) (step : Step) →
    Stands now line generator g → MaySet line now mid generator drawn set → is_marked set ≡ false →
    MayStep line mid new drawn later (Some step) → step.entry.refused ≡ false →
    WasMade line g new later (entry_if set ++ entries_of step)
step_made line g now mid new generator drawn later set step stands may_set unmarked may whole =
    let p : Patience = patience_of line in
    let was : WasSet line g mid drawn set = may_set g stands unmarked in
    let f : Driven = fated line (set_in line g) in
    let draws : Draws line (set_in line g) mid new later (Some step) = may (set_in line g) was.stands in
    let makes : MakesStep p new f step = draws.steps in
    let done = makes.done whole in
    let firsts : List Event = setting_events (setting_of line g) in
    let lasts : List Event = events_of p f in
    let noted : entries_of step ≡ entries (all_done lasts) f.world =
    makes.noted ∙ (ap (λ o. entries (all_done makes.before ++ (makes.event, o) ∷ []) f.world) done.0 ∙
    (ap (λ l. entries l f.world) (sym (done_both makes.before (makes.event ∷ [])))
    ∙ ap (λ l. entries (all_done l) f.world) makes.events)) in
    record {
      runs = sym (over_set (setting_of line g) g.call) ∙ makes.goes_on;
      stands = record { shows = done.1; drawn = sym draws.drawn };
      noted_are = ap (λ l. entries l g.call.world) (done_both firsts lasts) ∙
          (entries_both (all_done firsts) (all_done lasts) g.call.world ∙
          (ap (λ w. entries (all_done firsts) g.call.world ++ entries (all_done lasts) w) (set_lead (setting_of line g) g.call) ∙
          (ap (λ l. l ++ entries (all_done lasts) f.world) (sym was.noted) ∙ ap (λ l. entry_if set ++ l) (sym noted))));
    }

-- no step may be made: the call is over, and nothing was set
pub record IsOver (line : BadLine) (g : Going) (new : DrivenFields) (set : Option Entry) : Type 0 where
  pub over : is_over g.call ≡ true
  pub shows : ShowsDriven new (patience_of line) g.call
  pub none : entry_if set ≡ []

idle : (line : BadLine) (d : Driven) → is_over d ≡ true → is_set line d ≡ false
idle line d over = at d.world.to_answerer d.world.to_caller d.world.caller.ending d.world.answerer.ending over
  where
    at : (items others : List PlainItem) (one other : Option End) → is_over_at items others one other ≡ true →
        (nat_lt 0 line.busy && asks_ready (head_kind items)) ≡ false
    at (item ∷ items) others one other over = absurd (cc)
    at [] others one other over = and_none (nat_lt 0 line.busy)

pub over_now : (line : BadLine) (g : Going) (now mid new : DrivenFields) (generator drawn later : Lcg) (set : Option Entry) →
    Stands now line generator g → MaySet line now mid generator drawn set → is_marked set ≡ false →
    MayStep line mid new drawn later None → IsOver line g new set
over_now line g now mid new generator drawn later set stands may_set unmarked may =
    let was : WasSet line g mid drawn set = may_set g stands unmarked in
    let draws : Draws line (set_in line g) mid new later None = may (set_in line g) was.stands in
    let over : is_over g.call ≡ true = sym (over_set (setting_of line g) g.call) ∙ draws.steps.0 in
    let none : is_set line g.call ≡ false = idle line g.call over in
    let left : Stands mid line drawn (set_so line g false) = subst (λ b. Stands mid line drawn (set_so line g b)) none was.stands in
    record {
      over = over;
      shows = subst (λ v. ShowsDriven v (patience_of line) g.call) (sym draws.steps.1) left.shows;
      none = was.noted ∙ ap (λ b. entries (all_done (setting_events (given line g b))) g.call.world) none;
    }

-- ---- the octets of a step

-- what a step has put under way are the items after those that were counted before it
pub put_counted : (to : Side) (line : BadLine) (g : Going) (now new : Call) (counts : Counts) → Shows now g.call.world →
    Shows new (next_going line g).call.world → AreCounted counts now →
    drop (count_to to counts) (under_way_to to new) ≡ put_by_step to line g
put_counted to line g now new counts shown shows are =
    let size : count_to to counts ≡ length (on_way_to to g.call.world) =
    counted_to to counts now are ∙ ap (λ (l : List PlainItem). length l) (sym (shown_to to now g.call.world shown)) in
    ap (λ n. drop n (under_way_to to new)) size ∙
    ap (λ l. drop (length (on_way_to to g.call.world)) l) (sym (shown_to to new (next_going line g).call.world shows))

step_sent : (to : Side) (line : BadLine) (g : Going) (now new : Call) (counts : Counts) (at after : Written) → Shows now g.call.world →
    Shows new (next_going line g).call.world → AreCounted counts now → WritesAfter counts new at after →
    WritesItems to (put_by_step to line g) at after
step_sent to line g now new counts at after shown shows are wrote =
    subst (λ l. WritesItems to l at after) (put_counted to line g now new counts shown shows are) (wrote.sent to)

steps_sent : (to : Side) (line : BadLine) (made : ℕ) (first : Going) (now new : Call) (before at after : Written) (text : List ℕ) →
    Shows now (gone made line first).call.world → Shows new (gone (suc made) line first).call.world →
    StepWrites now new at after text → WritesItems to (put_by_steps to made line first) before at →
    WritesItems to (put_by_steps to (suc made) line first) before after
steps_sent to line made first now new before at after text shown shows did so_far =
    let g : Going = gone made line first in
    writes_on to (put_by_steps to made line first) (put_by_step to line g) before at after so_far
    (after_lines to (put_by_step to line g) at did.mid after text did.lines
    (step_sent to line g now new did.counts did.mid after shown shows did.counted did.wrote))

-- ---- some steps

-- some steps of a call were made, and their lines were written
pub record Reached (line : BadLine) (first : Going) (made : ℕ) (now : DrivenFields) (generator : Lcg) (number : ℕ) (before at : Written)
    : Type 0 where
  pub stands : Stands now line generator (gone made line first)
  pub events : List Event
  pub are : AreOfSteps made line first events
  pub each : number ≡ 1 + length (entries (all_done events) first.call.world)
  pub written : Appends before.lines at.lines (entry_lines 1 (entries (all_done events) first.call.world))
  pub sent : (to : Side) → WritesItems to (put_by_steps to made line first) before at

pub none_made : (line : BadLine) (first : Going) (now : DrivenFields) (generator : Lcg) (at : Written) → Stands now line generator first →
    Reached line first 0 now generator 1 at at
none_made line first now generator at stands = record {
  stands = stands;
  events = [];
  are = refl;
  each = refl;
  written = Appends-nil at.lines;
  sent = λ to. writes_none to at;
}

-- the lines of a setting, and those of the step
pub set_lines : (number second : ℕ) (at between mid : Written) (xs ys : List Entry) → WritesLines at between (entry_lines number xs) →
    second ≡ number + length xs → WritesLines between mid (entry_lines second ys) → WritesLines at mid (entry_lines number (xs ++ ys))
set_lines number second at between mid xs ys one second_is more =
    subst (WritesLines at mid) (ap (λ n. entry_lines number xs ++ entry_lines n ys) second_is ∙ sym (lines_both number xs ys))
    (lines_on at between mid (entry_lines number xs) (entry_lines second ys) one more)

pub one_made : (line : BadLine) (first : Going) (made : ℕ) (now mid new : DrivenFields) (generator drawn later : Lcg)
    (number second next : ℕ) (before at after : Written) (set : Option Entry) (step : Step) →
    Reached line first made now generator number before at → MaySet line now mid generator drawn set → is_marked set ≡ false →
    MayStep line mid new drawn later (Some step) →
    step.entry.refused ≡ false → StepWrites now.live new.live at after (entry_lines number (entry_if set ++ entries_of step)) →
    second ≡ number + length (entry_if set) → next ≡ second + length (entries_of step) →
    Reached line first (made + 1) new later next before after
one_made line first made now mid new generator drawn later number second next before at after set step r may_set unmarked may whole wrote
    second_is more =
    let g : Going = gone made line first in
    let w = first.call.world in
    let was : WasMade line g new later (entry_if set ++ entries_of step) =
    step_made line g now mid new generator drawn later set step r.stands may_set unmarked may whole in
    let last : List Event = going_events line g in
    let old : List Entry = entries (all_done r.events) w in
    let lines : List Entry = entry_if set ++ entries_of step in
    let both : entries (all_done (r.events ++ last)) w ≡ old ++ lines =
    ap (λ l. entries l w) (done_both r.events last) ∙ (entries_both (all_done r.events) (all_done last) w ∙
    (ap (λ v. old ++ entries (all_done last) v) (steps_lead made line first r.events r.are) ∙ ap (λ l. old ++ l) was.noted_are)) in
    let sizes : length (old ++ lines) ≡ length old + length lines = length-append old lines in
    let two : length lines ≡ length (entry_if set) + length (entries_of step) = length-append (entry_if set) (entries_of step) in
    let n : suc made ≡ made + 1 = omega arith in
    subst (λ k. Reached line first k new later next before after) n
    (record {
      stands = was.stands;
      events = r.events ++ last;
      are = (r.events, last, r.are, record { goes_on = was.runs; are = refl }, refl);
      each = (let a = r.each in let b = ap length both in omega (arith, a, b, sizes, two, second_is, more));
      written = subst (Appends before.lines after.lines) (sym (ap (entry_lines 1) both ∙ (lines_both 1 old lines ∙
          ap (λ k. entry_lines 1 old ++ entry_lines k lines) (sym r.each))))
          (Appends-trans before.lines at.lines after.lines (entry_lines 1 old) (entry_lines number lines) r.written
          (step_lines now.live new.live at after (entry_lines number lines) wrote));
      sent = λ to. steps_sent to line made first now.live new.live before at after (entry_lines number lines) r.stands.shows.world
          was.stands.shows.world wrote (r.sent to);
    })

-- the call is over after them
pub is_told : (line : BadLine) (first : Going) (made : ℕ) (now mid new : DrivenFields) (generator drawn later : Lcg) (number : ℕ)
    (before at after : Written) (set : Option Entry) → Reached line first made now generator number before at →
    MaySet line now mid generator drawn set → is_marked set ≡ false → MayStep line mid new drawn later None →
    WritesLines at after (entry_lines number (entry_if set)) → TellsAll line first new before after
is_told line first made now mid new generator drawn later number before at after set r may_set unmarked may lines =
    let over = over_now line (gone made line first) now mid new generator drawn later set r.stands may_set unmarked may in
    let some : List ℕ = entry_lines 1 (entries (all_done r.events) first.call.world) in
    let nothing : WritesLines at after [] = subst (λ l. WritesLines at after (entry_lines number l)) over.none lines in
    record {
      made = made;
      events = r.events;
      are = r.are;
      over = over.over;
      shows = over.shows;
      written = subst (Appends before.lines after.lines) (append-nil some)
          (Appends-trans before.lines at.lines after.lines some [] r.written nothing.lines);
      sent = λ to. before_lines to (put_by_steps to made line first) before at after [] (r.sent to) nothing;
    }
