-- What holds in the loop of `see_items`.
use Rattle.std.proofs.Common.{length}
use Rattle.terminals.proofs.Sent.{SeenLeft}
use Rattle.terminals.proofs.sending.see_items.Given as goal

abbrev pub invariant-loop-item : goal.invariant-loop-item
invariant-loop-item g l = SeenLeft g.W.Watch.saw_said l.side l.initial.left l.left l.initial.watch l.watch

abbrev pub decreases-loop-item : goal.decreases-loop-item
decreases-loop-item g l = length l.left.burst
