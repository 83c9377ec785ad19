-- What holds in the loop of `overlay`.
use Rattle.std.proofs.Common.{◌≡◌}
use Rattle.captures.proofs.CapturedSteps.{LaidBelow}
use Rattle.captures.proofs.captured.again.overlay.Given as goal

abbrev pub invariant-loop-number : goal.invariant-loop-number
invariant-loop-number l = record {
  small : l.frames.small ≡ l.initial.frames.small;
  laid : LaidBelow l.initial.frames.frames l.later.frames l.number l.frames.frames;
}
