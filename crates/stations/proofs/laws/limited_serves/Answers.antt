use Rattle.stations.proofs.LimitedServing.{limited_serves}
use Rattle.stations.proofs.laws.limited_serves.Goals as goal

pub returns : goal.returns
returns c = limited_serves c.stored_is_read.ensures.steps c.answerers_keep.ensures.keep
