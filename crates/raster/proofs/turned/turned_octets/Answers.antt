use Rattle.std.proofs.Common.{refl}
use Rattle.std.specs.Int.{reverse_bits_onto}
use Rattle.raster.proofs.turned.turned_octets.Goals as goal

pub returns : goal.returns
unfolding reverse_bits_onto
returns c = refl
