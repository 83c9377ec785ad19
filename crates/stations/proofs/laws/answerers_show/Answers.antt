use Rattle.stations.proofs.TurnsShow.{answerers_show}
use Rattle.stations.proofs.laws.answerers_show.Goals as goal

pub returns : goal.returns
returns c = answerers_show
