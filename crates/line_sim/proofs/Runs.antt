-- A run that gives a world its events one after the other.
use Rattle.std.proofs.Common.{◌≡◌, ◌≢◌, ℕ, zero, suc, ◌+◌, ◌<◌, ◌≤◌, List, [], ◌∷◌, ◌++◌, map, take, length, get_or, Option, Some, None, Result}
use Rattle.std.proofs.Common.{Ok, Err, OnOk, OnErr, refl, ap, sym, subst, ◌∙◌, arith, length-append}
use Rattle.std.proofs.lemmas.List.{length-map}
use Rattle.signals.specs.declared.params.Caps.{Caps}
use Rattle.signals.specs.declared.params.Wish.{Wish}
use Rattle.stations.specs.Layers.{Document}
use Rattle.line_sim.specs.Entries.{entries, entry_of, and_entries, marks}
use Rattle.line_sim.specs.Line.{World, Outcome, Done, Nothing, InputLost, Cut, happens, new_world, run}
use Rattle.line_sim.specs.Report.{Tells, TellsRun, TellsWhole, all_done}
use Rattle.line_sim.specs.Represents.{Shows, WorldFields, Becomes, BecomesSome}
use Rattle.line_sim.specs.declared.event.Entry.{Entry}
use Rattle.line_sim.specs.declared.event.Event.{Event}
use Rattle.line_sim.specs.declared.report.Report.{Report}
use Rattle.line_sim.proofs.Lists.{append_nil}
use Rattle.line_sim.proofs.Transcripts.{run_one_more, entries_one_more}

-- the world after these events, each with some outcome
pub record Given (document : Document) (wish : Wish) (caps : Caps) (events : List Event) (v : WorldFields) : Type 0 where
  pub steps : List (Event × Outcome)
  pub given : map (λ step. step.0) steps ≡ events
  pub shows : Shows v.call (run steps (new_world document wish caps))
  pub noted : v.entries ≡ entries steps (new_world document wish caps)

pub none_given : (document : Document) (wish : Wish) (caps : Caps) (v : WorldFields) → Shows v.call (new_world document wish caps) →
    v.entries ≡ [] → Given document wish caps [] v
none_given document wish caps v shows none = record { steps = []; given = refl; shows = shows; noted = none }

map_more : (steps : List (Event × Outcome)) (step : Event × Outcome) →
    map (λ x. x.0) (steps ++ step ∷ []) ≡ map (λ x. x.0) steps ++ step.0 ∷ []
map_more [] step = refl
map_more (first ∷ steps) step = ap (λ l. first.0 ∷ l) (map_more steps step)

given_with : (document : Document) (wish : Wish) (caps : Caps) (events : List Event) (old new : WorldFields) (event : Event)
    (outcome : Outcome) → Given document wish caps events old → Becomes old new event outcome →
    Given document wish caps (events ++ event ∷ []) new
given_with document wish caps events old new event outcome g becomes =
    let start : World = new_world document wish caps in
    let h = becomes (run g.steps start) g.shows in
    record {
      steps = g.steps ++ (event, outcome) ∷ [];
      given = map_more g.steps (event, outcome) ∙ ap (λ l. l ++ event ∷ []) g.given;
      shows = subst (Shows new.call) (sym (run_one_more g.steps event outcome start)) h.0;
      noted = h.1 ∙ (ap (λ l. l ++ and_entries (entry_of (run g.steps start) event outcome) []) g.noted ∙
          sym (entries_one_more g.steps event outcome start));
    }

-- one event more, and whether it has its entry
pub one_given : (document : Document) (wish : Wish) (caps : Caps) (events : List Event) (old new : WorldFields) (event : Event) →
    Given document wish caps events old → (outcome : Outcome) × Becomes old new event outcome →
    Given document wish caps (events ++ event ∷ []) new
one_given document wish caps events old new event g did = given_with document wish caps events old new event did.0 g did.1

-- whatever an event answers, it has an outcome
pub some_outcome : {T E : Type 0} (old new : WorldFields) (event : Event) (result : Result T E) →
    OnOk result (Becomes old new event Done) → OnErr result (BecomesSome old new event) → (outcome : Outcome) × Becomes old new event outcome
some_outcome old new event (Ok done) ok err = (Done, ok)
some_outcome old new event (Err refusal) ok err = (err.0, err.2)

one_or_none : (entry : Option Entry) (xs : List Entry) (n : ℕ) → n ≡ length (xs ++ and_entries entry []) → n ≢ length xs → n ≡ length xs + 1
one_or_none None xs n is other = absurd (other (is ∙ ap length (append_nil xs)))
one_or_none (Some entry) xs n is other = is ∙ length-append xs (entry ∷ [])

-- an event whose entries are more has one
pub one_noted : (old new : WorldFields) (w : World) (event : Event) (did : (outcome : Outcome) × Becomes old new event outcome) →
    Shows old.call w → length new.entries ≢ length old.entries → length new.entries ≡ length old.entries + 1
one_noted old new w event did shows other =
    one_or_none (entry_of w event did.0) old.entries (length new.entries) (ap length (did.1 w shows).1) other

-- a count of events left out changes nothing else that a report tells
pub tells_with : (n : ℕ) (report : Report) (w : World) (noted : List Entry) → Tells report w noted →
    Tells (record report { left_out = n }) w noted
tells_with n report w noted t =
    record {
      pages = t.pages;
      confirmed = t.confirmed;
      caller_end = t.caller_end;
      answerer_end = t.answerer_end;
      refused = t.refused;
      transcript = t.transcript;
    }

pub tells_run : (document : Document) (wish : Wish) (caps : Caps) (events : List Event) (v : WorldFields) (report : Report) →
    Given document wish caps events v → ((w : World) → Shows v.call w → Tells report w v.entries) →
    TellsRun document wish caps events report
tells_run document wish caps events v report g tells =
    record {
      steps = g.steps;
      given = g.given;
      tells = subst (Tells report (run g.steps (new_world document wish caps))) g.noted
          (tells (run g.steps (new_world document wish caps)) g.shows);
    }

-- a run has at most an entry for each step
one_entry_more : (entry : Option Entry) (rest : List Entry) → length (and_entries entry rest) ≤ suc (length rest)
one_entry_more None rest = omega arith
one_entry_more (Some entry) rest = omega arith

entries_few : (steps : List (Event × Outcome)) (w : World) → length (entries steps w) ≤ length steps
entries_few [] w = omega arith
entries_few (step ∷ steps) w =
    let one = one_entry_more (entry_of w step.0 step.1) (entries steps (happens w step.0 step.1)) in
    let few = entries_few steps (happens w step.0 step.1) in
    omega arith

-- a step has its entry, which isn't marked, and so have those after it: it has done all that it is
first_done : (event : Event) (outcome : Outcome) (steps : List (Event × Outcome)) (w : World) →
    length (and_entries (entry_of w event outcome) (entries steps (happens w event outcome))) ≡ suc (length steps) →
    marks (and_entries (entry_of w event outcome) (entries steps (happens w event outcome))) ≡ 0 →
    (outcome ≡ Done) × (length (entries steps (happens w event outcome)) ≡ length steps) ×
    (marks (entries steps (happens w event outcome)) ≡ 0)
first_done event Done steps w same none = (refl, omega arith, none)
first_done event Nothing steps w same none = let few = entries_few steps w in absurd (omega arith)
first_done event InputLost steps w same none = absurd (omega arith)
first_done event (Cut made) steps w same none = absurd (omega arith)

each_done : (steps : List (Event × Outcome)) (w : World) → length (entries steps w) ≡ length steps → marks (entries steps w) ≡ 0 →
    steps ≡ all_done (map (λ step. step.0) steps)
each_done [] w same none = refl
each_done (step ∷ steps) w same none =
    let first = first_done step.0 step.1 steps w same none in
    ap (λ outcome. (step.0, outcome) ∷ steps) first.0 ∙
    ap (λ l. (step.0, Done) ∷ l) (each_done steps (happens w step.0 step.1) first.1 first.2)

-- where each event has its entry, and none is marked, the report tells what the whole events lead to
pub tells_whole : (document : Document) (wish : Wish) (caps : Caps) (events : List Event) (report : Report) →
    TellsRun document wish caps events report → length report.transcript.items + report.left_out ≡ length events →
    TellsWhole document wish caps events report
tells_whole document wish caps events report told each_noted left none =
    let same : length report.transcript.items ≡ length events = omega (arith, each_noted, left) in
    let start : World = new_world document wish caps in
    let each : length (entries told.steps start) ≡ length told.steps =
    ap length (sym told.tells.transcript) ∙ (same ∙ (ap length (sym told.given) ∙ length-map told.steps (λ step. step.0))) in
    let is : told.steps ≡ all_done events =
    each_done told.steps start each (sym told.tells.refused ∙ none) ∙ ap all_done told.given in
    subst (λ steps. Tells report (run steps start) (entries steps start)) is told.tells

pub take_next : (xs : List Event) (i : ℕ) (d : Event) → i < length xs → take (i + 1) xs ≡ take i xs ++ get_or xs i d ∷ []
take_next [] i d within = absurd (omega arith)
take_next (x ∷ xs) zero d within = refl
take_next (x ∷ xs) (suc i) d within =
    let e : suc i + 1 ≡ suc (i + 1) = omega arith in
    ap (λ n. take n (x ∷ xs)) e ∙ ap (λ l. x ∷ l) (take_next xs i d (omega arith))
