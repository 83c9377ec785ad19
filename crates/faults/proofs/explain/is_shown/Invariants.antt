-- What holds in the loop of `is_shown`.
use Rattle.std.proofs.Common.{◌≡◌, drop}
use Rattle.faults.specs.Explanations.{are_shown}
use Rattle.faults.proofs.explain.is_shown.Given as goal

abbrev pub invariant-loop-octet : goal.invariant-loop-octet
invariant-loop-octet l = are_shown l.before (drop l.octet-index l.octet-items) ≡ are_shown 0 l.text
