-- Runs of steps, one after the other, and their entries.
use Rattle.std.proofs.Common.{◌≡◌, ◌≢◌, List, [], ◌∷◌, ◌++◌, Option, Some, None, refl, ap, ◌∙◌}
use Rattle.line_sim.specs.declared.event.Entry.{Entry}
use Rattle.line_sim.specs.declared.event.Event.{Event}
use Rattle.line_sim.specs.Line.{World, Outcome, happens, run}
use Rattle.line_sim.specs.Entries.{entry_of, and_entries, entries}

-- a run of some steps and others
pub run_both : (steps more : List (Event × Outcome)) (w : World) → run (steps ++ more) w ≡ run more (run steps w)
run_both [] more w = refl
run_both (step ∷ steps) more w = run_both steps more (happens w step.0 step.1)

entries_before : (entry : Option Entry) (xs ys : List Entry) → and_entries entry (xs ++ ys) ≡ and_entries entry xs ++ ys
entries_before None xs ys = refl
entries_before (Some entry) xs ys = refl

pub entries_both :
    (steps more : List (Event × Outcome)) (w : World) → entries (steps ++ more) w ≡ entries steps w ++ entries more (run steps w)
entries_both [] more w = refl
entries_both (step ∷ steps) more w =
    ap (and_entries (entry_of w step.0 step.1)) (entries_both steps more (happens w step.0 step.1))
    ∙ entries_before (entry_of w step.0 step.1) (entries steps (happens w step.0 step.1))
    (entries more (run steps (happens w step.0 step.1)))

-- one step more
pub run_one_more :
    (steps : List (Event × Outcome)) (event : Event) (outcome : Outcome) (w : World) →
    run (steps ++ (event, outcome) ∷ []) w ≡ happens (run steps w) event outcome
run_one_more steps event outcome w = run_both steps ((event, outcome) ∷ []) w

pub entries_one_more :
    (steps : List (Event × Outcome)) (event : Event) (outcome : Outcome) (w : World) →
    entries (steps ++ (event, outcome) ∷ []) w ≡ entries steps w ++ and_entries (entry_of (run steps w) event outcome) []
entries_one_more steps event outcome w = entries_both steps ((event, outcome) ∷ []) w

-- entries that are some list and others: there are steps that make the list, and steps after them that make the others
pub record SplitsInto (w : World) (before rest : List Entry) : Type 0 where
  pub first : List (Event × Outcome)
  pub second : List (Event × Outcome)
  pub first_is : entries first w ≡ before
  pub rest_is : entries second (run first w) ≡ rest

step_splits :
    (w : World) (event : Event) (outcome : Outcome) (steps : List (Event × Outcome)) (x : Entry) (before rest : List Entry)
    (entry : Option Entry) → entry_of w event outcome ≡ entry →
    and_entries entry (entries steps (happens w event outcome)) ≡ x ∷ (before ++ rest) →
    ((front : List Entry) → entries steps (happens w event outcome) ≡ front ++ rest → SplitsInto (happens w event outcome) front rest) →
    SplitsInto w (x ∷ before) rest
step_splits w event outcome steps x before rest None is e deeper =
    let more = deeper (x ∷ before) e in
    record {
      first = (event, outcome) ∷ more.first;
      second = more.second;
      first_is = ap (λ o. and_entries o (entries more.first (happens w event outcome))) is ∙ more.first_is;
      rest_is = more.rest_is;
    }
step_splits w event outcome steps x before rest (Some y) is e deeper =
    let same : y ≡ x = cc in
    let others : entries steps (happens w event outcome) ≡ before ++ rest = cc in
    let more = deeper before others in
    record {
      first = (event, outcome) ∷ more.first;
      second = more.second;
      first_is = ap (λ o. and_entries o (entries more.first (happens w event outcome))) is
          ∙ (ap (λ z. z ∷ entries more.first (happens w event outcome)) same ∙ ap (λ es. x ∷ es) more.first_is);
      rest_is = more.rest_is;
    }

pub entries_split : (steps : List (Event × Outcome)) (w : World) (before rest : List Entry) → entries steps w ≡ before ++ rest →
    SplitsInto w before rest
entries_split steps w [] rest e = record { first = []; second = steps; first_is = refl; rest_is = e }
entries_split [] w (x ∷ before) rest e = let none : [] ≢ x ∷ (before ++ rest) = λ h. cc in absurd (none e)
entries_split (step ∷ steps) w (x ∷ before) rest e =
    step_splits w step.0 step.1 steps x before rest (entry_of w step.0 step.1) refl e
    (λ front h. entries_split steps (happens w step.0 step.1) front rest h)
