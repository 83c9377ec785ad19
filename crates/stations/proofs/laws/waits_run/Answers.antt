use Rattle.stations.proofs.Waits.{callers_wait, answerers_wait}
use Rattle.stations.proofs.laws.waits_run.Goals as goal

pub returns-clause-caller : goal.returns-clause-caller
returns-clause-caller c = callers_wait

pub returns-clause-answerer : goal.returns-clause-answerer
returns-clause-answerer c = answerers_wait
