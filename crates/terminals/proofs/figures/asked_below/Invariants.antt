-- What holds in the loop of `asked_below`.
use Rattle.std.proofs.Common.{◌≡◌, ◌≤◌}
use Rattle.terminals.specs.Figures.{asked_below}
use Rattle.terminals.proofs.figures.asked_below.Given as goal

abbrev pub invariant-loop-number : goal.invariant-loop-number
invariant-loop-number l = (l.asked ≡ asked_below l.map l.number) × (l.asked ≤ l.number)
