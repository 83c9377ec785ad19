-- What holds in the loop of `is_blank`.
use Rattle.std.proofs.Common.{◌≡◌, drop}
use Rattle.terminals.specs.Figures.{is_blank}
use Rattle.terminals.proofs.figures.is_blank.Given as goal

abbrev pub invariant-loop-octet : goal.invariant-loop-octet
invariant-loop-octet l = is_blank (drop l.octet-index l.octets) ≡ is_blank l.octets
