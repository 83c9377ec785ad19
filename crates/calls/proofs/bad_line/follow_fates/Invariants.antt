-- What holds in the loop of `follow_fates`.
use Rattle.calls.specs.BadLines.{Going, Stands}
use Rattle.calls.proofs.DrivenSteps.{Reached}
use Rattle.calls.proofs.bad_line.follow_fates.Given as goal

abbrev pub invariant-loop-made : goal.invariant-loop-made
invariant-loop-made g l =
    (first : Going) → Stands l.fn.call l.line l.fn.generator first →
    Reached l.line first l._made l.call l.generator l.number (g.T.CallWriter.written l.fn.writer) (g.T.CallWriter.written l.writer)
