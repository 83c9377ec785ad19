use Rattle.raster.proofs.OctetLemmas.{packed_hold as law}
use Rattle.raster.proofs.laws.packed_hold.Goals as goal

pub returns : goal.returns
returns c = law
