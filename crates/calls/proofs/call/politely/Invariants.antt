-- What holds in the loop of `politely`.
use Rattle.std.proofs.Common.{◌≤◌}
use Rattle.line_sim.specs.Line.{World}
use Rattle.line_sim.specs.Represents.{Shows}
use Rattle.calls.proofs.CallSteps.{Along}
use Rattle.calls.proofs.call.politely.Given as goal

abbrev pub invariant-loop-delivery : goal.invariant-loop-delivery
invariant-loop-delivery g l = (l._delivery ≤ l.most) × ((w : World) → Shows l.fn.live w →
    Along l._delivery w l.live l.fn.number l.number (g.T.CallWriter.written l.fn.writer) (g.T.CallWriter.written l.writer))
