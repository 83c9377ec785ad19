use Rattle.stations.proofs.Rows.{answerers_know, callers_know}
use Rattle.stations.proofs.laws.stations_know.Goals as goal

pub returns-clause-caller : goal.returns-clause-caller
returns-clause-caller c = callers_know

pub returns-clause-answerer : goal.returns-clause-answerer
returns-clause-answerer c = answerers_know
