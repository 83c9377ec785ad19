use Rattle.std.proofs.Common.{arith}
use Rattle.raster.proofs.OctetLemmas.{are_octets, packed_is}
use Rattle.stations.proofs.coded.are_packed.Goals as goal

pub returns : goal.returns
returns c = λ bits fills. packed_is bits c.args.octets.now fills (are_octets c.args.octets.now (λ k. omega (arith, c.type_inv.octets k)))
