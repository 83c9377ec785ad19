use Rattle.raster.proofs.OctetLemmas.{bits_of-append as law}
use Rattle.raster.proofs.laws.bits_join.Goals as goal

pub returns : goal.returns
returns c = law
