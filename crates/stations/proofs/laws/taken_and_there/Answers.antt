use Rattle.stations.proofs.TakenOut.{front_stays, taken_and_there}
use Rattle.stations.proofs.laws.taken_and_there.Goals as goal

pub returns-clause-steps : goal.returns-clause-steps
returns-clause-steps c = front_stays

pub returns-clause-runs : goal.returns-clause-runs
returns-clause-runs c = taken_and_there
