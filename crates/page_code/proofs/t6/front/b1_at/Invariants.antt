use Rattle.std.proofs.Common.{◌≡◌, ◌<◌, ◌-◌, ◌%◌, length}
use Rattle.page_code.specs.TwoDimensions.Lines.{IsSoughtFrom}
use Rattle.page_code.proofs.t6.front.b1_at.Given as goal

abbrev pub invariant-loop-at : goal.invariant-loop-at
invariant-loop-at l = record {
  index : l.at < length l.held;
  sought : IsSoughtFrom l.held l.from l.at;
  even : l.at % 2 ≡ l.start % 2;
}

abbrev pub decreases-loop-at : goal.decreases-loop-at
decreases-loop-at l = length l.held - l.at
