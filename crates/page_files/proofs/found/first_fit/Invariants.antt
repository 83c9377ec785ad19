-- What holds in the loop of `first_fit`.
use Rattle.std.proofs.Common.{◌≡◌, drop, find}
use Rattle.page_files.specs.Identified.{fits_one}
use Rattle.page_files.proofs.found.first_fit.Given as goal

abbrev pub invariant-loop-one : goal.invariant-loop-one
invariant-loop-one l = find (fits_one l.fit l.octets) (drop l.one-index l.tried) ≡ find (fits_one l.fit l.octets) l.tried
