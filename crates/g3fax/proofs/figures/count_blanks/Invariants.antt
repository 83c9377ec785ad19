-- What holds in the loop of `count_blanks`.
use Rattle.std.proofs.Common.{◌≡◌, drop}
use Rattle.g3fax.specs.Figures.{without_blanks}
use Rattle.g3fax.proofs.figures.count_blanks.Given as goal

abbrev pub invariant-loop-octet : goal.invariant-loop-octet
invariant-loop-octet l = (l.count ≡ l.octet-index) × (without_blanks (drop l.octet-index l.octets) ≡ without_blanks l.octets)
