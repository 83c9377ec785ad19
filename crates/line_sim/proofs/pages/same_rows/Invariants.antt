-- What holds in the loop of `same_rows`.
use Rattle.std.proofs.Common.{◌≡◌, take}
use Rattle.line_sim.proofs.pages.same_rows.Given as goal

abbrev pub invariant-loop-at : goal.invariant-loop-at
invariant-loop-at l = take l.at l.rows ≡ take l.at l.others
