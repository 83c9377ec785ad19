-- What holds in the loop of `deliver`.
use Rattle.std.proofs.Common.{◌-◌}
use Rattle.line_sim.specs.Line.{World}
use Rattle.line_sim.specs.Represents.{Shows}
use Rattle.line_sim.proofs.Politely.{Along}
use Rattle.line_sim.proofs.world.World.deliver.Given as goal

abbrev pub invariant-loop-delivered : goal.invariant-loop-delivered
invariant-loop-delivered l = (w : World) → Shows l.fn.self.call w → Along l.fn.self l.self w l.most l.delivered

abbrev pub decreases-loop-delivered : goal.decreases-loop-delivered
decreases-loop-delivered l = l.most - l.delivered
