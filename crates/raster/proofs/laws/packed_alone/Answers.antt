use Rattle.raster.proofs.OctetLemmas.{packed_is as law}
use Rattle.raster.proofs.laws.packed_alone.Goals as goal

pub returns : goal.returns
returns c = law
