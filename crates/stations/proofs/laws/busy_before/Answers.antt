use Rattle.stations.proofs.BusyBefore.{busy_before}
use Rattle.stations.proofs.laws.busy_before.Goals as goal

pub returns : goal.returns
returns c = busy_before
