use Rattle.stations.proofs.RunLaws.{ended_caller_stays, ended_answerer_stays}
use Rattle.stations.proofs.laws.ended_stays.Goals as goal

pub returns-clause-caller : goal.returns-clause-caller
returns-clause-caller c = ended_caller_stays

pub returns-clause-answerer : goal.returns-clause-answerer
returns-clause-answerer c = ended_answerer_stays
