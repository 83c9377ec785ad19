-- A polite run makes deliveries and T2 alone.
use Rattle.std.proofs.Common.{◌≡◌, zero, suc, Bool, true, false, cond, List, [], ◌∷◌, refl}
use Rattle.stations.specs.Inputs.{PlainItem}
use Rattle.stations.specs.Laws.{Each}
use Rattle.line_sim.specs.declared.event.Event.{Event}
use Rattle.line_sim.specs.declared.event.Event.TheVariants.{DeliverToCaller, AnswererT2}
use Rattle.line_sim.specs.Line.{World, Outcome, run}
use Rattle.line_sim.specs.Line.Outcome.{Done}
use Rattle.line_sim.specs.Polite.{is_between_groups, next_steps, and_on, polite_steps, IsPoliteEvent, PoliteEvents}
use Rattle.line_sim.proofs.Lists.{each_append}

abbrev IsPoliteStep : Event × Outcome → Type 0
IsPoliteStep step = IsPoliteEvent step.0 × (step.1 ≡ Done)

between_are : (b : Bool) → Each IsPoliteStep (cond b ((AnswererT2, Done) ∷ (DeliverToCaller, Done) ∷ []) [])
between_are true = ((tt, refl), ((tt, refl), tt))
between_are false = tt

next_are : (w : World) (xs ys : List PlainItem) → Each IsPoliteStep (next_steps w xs ys)
next_are w [] [] = between_are (is_between_groups w)
next_are w [] (item ∷ items) = ((tt, refl), tt)
next_are w (item ∷ items) others = ((tt, refl), tt)

and_more : (steps : List (Event × Outcome)) (rest : World → List (Event × Outcome)) (w : World) → Each IsPoliteStep steps →
    ((v : World) → Each IsPoliteStep (rest v)) →
    Each IsPoliteStep (and_on steps rest w)
and_more [] rest w h more = tt
and_more (step ∷ steps) rest w h more =
    each_append IsPoliteStep (step ∷ steps) (rest (run (step ∷ steps) w)) h (more (run (step ∷ steps) w))

pub polite_events : PoliteEvents
polite_events zero w = tt
polite_events (suc most) w =
    and_more (next_steps w w.to_answerer w.to_caller) (polite_steps most) w (next_are w w.to_answerer w.to_caller)
    (λ v. polite_events most v)
