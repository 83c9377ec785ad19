use Rattle.std.proofs.Common.{length}
use Rattle.line_sim.proofs.StreamSteps.{HearsLeft}
use Rattle.line_sim.proofs.stream.hear_waiting.Given as goal

abbrev pub invariant-loop-content : goal.invariant-loop-content
invariant-loop-content l = HearsLeft l.initial.deframer l.deframer l.initial.answerer l.answerer l.initial.turns.items l.turns.items

abbrev pub decreases-loop-content : goal.decreases-loop-content
decreases-loop-content l = length l.deframer.queue
