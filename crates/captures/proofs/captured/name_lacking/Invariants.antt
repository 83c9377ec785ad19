-- What holds in the loop of `name_lacking`.
use Rattle.std.proofs.Common.{◌≡◌, ◌++◌}
use Rattle.captures.proofs.CapturedSteps.{lacks_below}
use Rattle.captures.proofs.captured.name_lacking.Given as goal

abbrev pub invariant-loop-number : goal.invariant-loop-number
invariant-loop-number l = l.out.items ≡ l.initial.out.items ++ lacks_below l.waiting.mark l.frames.frames l.number
