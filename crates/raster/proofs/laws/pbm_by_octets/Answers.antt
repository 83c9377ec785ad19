use Rattle.raster.proofs.NumberLemmas.{pbm_by_octets}
use Rattle.raster.proofs.laws.pbm_by_octets.Goals as goal

pub returns : goal.returns
returns c = pbm_by_octets
