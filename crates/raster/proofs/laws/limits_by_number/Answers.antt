use Rattle.raster.proofs.NumberLemmas.{limits_by_number}
use Rattle.raster.proofs.laws.limits_by_number.Goals as goal

pub returns : goal.returns
returns c = limits_by_number
