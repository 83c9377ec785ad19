use Rattle.stations.proofs.LimitedPlain.{limited_is_plain}
use Rattle.stations.proofs.laws.limited_is_plain.Goals as goal

pub returns : goal.returns
returns c = limited_is_plain
