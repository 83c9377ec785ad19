-- What holds in the loop of `row_start`.
use Rattle.std.proofs.Common.{◌≤◌}
use Rattle.page_files.proofs.refused.row_start.Given as goal

abbrev pub invariant-loop-at : goal.invariant-loop-at
invariant-loop-at l = l.start ≤ l.place
