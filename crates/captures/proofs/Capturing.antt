-- What is found while signals come.
use Rattle.std.proofs.Common.{◌++◌, List, ap, ◌∙◌}
use Rattle.std.proofs.lemmas.List.{append_assoc}
use Rattle.captures.specs.Captured.{Capture, Step, Takes, ◌>>>◌}
use Rattle.captures.specs.declared.captured.Captured.{Captured}

-- a step after a step, where both were taken
pub takes_first : (step : Step) (f : Capture → Step) (now new : Capture) (before out all : List Captured) → Takes step now before out
    → Takes (f now) new out all → Takes (step >>> f) new before all
takes_first step f now new before out all a b = record {
  is = b.is ∙ ap (λ (s : Capture). (f s).then) a.is;
  found = b.found ∙ (ap (λ (xs : List Captured). xs ++ (f now).found) a.found
      ∙ (append_assoc before step.found (f now).found
      ∙ ap (λ (s : Capture). before ++ (step.found ++ (f s).found)) a.is));
}
