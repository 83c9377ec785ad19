-- What holds in the loop of `is_among`.
use Rattle.std.proofs.Common.{◌≡◌, drop}
use Rattle.page_files.specs.Identified.{is_among}
use Rattle.page_files.proofs.identify.is_among.Given as goal

abbrev pub invariant-loop-other : goal.invariant-loop-other
invariant-loop-other l = is_among l.width (drop l.other-index l.widths) ≡ is_among l.width l.widths
