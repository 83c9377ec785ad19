use Rattle.stations.proofs.RunLaws.{kept_is_ready, stays_ready}
use Rattle.stations.proofs.laws.stays_ready.Goals as goal

pub returns-clause-kept : goal.returns-clause-kept
returns-clause-kept c = kept_is_ready

pub returns-clause-stays : goal.returns-clause-stays
returns-clause-stays c = stays_ready
