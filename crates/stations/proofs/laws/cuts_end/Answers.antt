use Rattle.stations.proofs.CutsEnd.{cuts_end}
use Rattle.stations.proofs.laws.cuts_end.Goals as goal

pub returns : goal.returns
returns c = cuts_end
