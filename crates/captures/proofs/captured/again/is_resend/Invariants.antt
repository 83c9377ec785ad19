-- What holds in the loop of `is_resend`.
use Rattle.std.proofs.Common.{◌≡◌, true}
use Rattle.captures.specs.Captured.{are_same_below}
use Rattle.captures.proofs.captured.again.is_resend.Given as goal

abbrev pub invariant-loop-number : goal.invariant-loop-number
invariant-loop-number l = are_same_below l.had.frames l.coming.frames l.number ≡ true
