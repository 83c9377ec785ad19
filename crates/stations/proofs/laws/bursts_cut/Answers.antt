use Rattle.stations.proofs.CarrierCuts.{cut_by_carrier, turns_cut}
use Rattle.stations.proofs.laws.bursts_cut.Goals as goal

pub returns-clause-items : goal.returns-clause-items
returns-clause-items c = cut_by_carrier

pub returns-clause-turns : goal.returns-clause-turns
returns-clause-turns c = turns_cut
