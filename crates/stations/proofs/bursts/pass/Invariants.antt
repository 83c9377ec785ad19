use Rattle.std.proofs.Common.{◌≡◌, length}
use Rattle.stations.specs.Bursts.{rest_by}
use Rattle.stations.proofs.bursts.pass.Given as goal

abbrev pub invariant-loop-item : goal.invariant-loop-item
invariant-loop-item l = rest_by l.speed l.carrier l.items ≡ rest_by l.speed l.carrier l.fn.items

abbrev pub decreases-loop-item : goal.decreases-loop-item
decreases-loop-item l = length l.items
