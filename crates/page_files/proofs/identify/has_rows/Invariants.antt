-- What holds in the loop of `has_rows`.
use Rattle.std.proofs.Common.{◌≡◌, drop}
use Rattle.page_files.specs.Identified.{has_rows}
use Rattle.page_files.proofs.identify.has_rows.Given as goal

abbrev pub invariant-loop-one : goal.invariant-loop-one
invariant-loop-one l = has_rows l.order l.least (drop l.one-index l.tried) ≡ has_rows l.order l.least l.tried
