use Rattle.std.proofs.Common.{length}
use Rattle.terminals.proofs.Sent.{ItemsLeft}
use Rattle.terminals.proofs.sending.write_items.Given as goal

abbrev pub invariant-loop-item : goal.invariant-loop-item
invariant-loop-item l = ItemsLeft l.side l.initial.left l.left l.initial.writer l.writer

abbrev pub decreases-loop-item : goal.decreases-loop-item
decreases-loop-item l = length l.left.burst
