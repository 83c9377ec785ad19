-- The octets of a map of missing frames are the definition's.
use Rattle.std.proofs.Common.{arith}
use Rattle.raster.proofs.OctetLemmas.{are_octets}
use Rattle.partial_page.proofs.WholeBlocks.{missing_map_is}
use Rattle.partial_page.proofs.assembler.is_missing_map.Goals as goal

pub returns : goal.returns
returns c = λ frames last is. missing_map_is frames last c.args.octets.now
    (are_octets c.args.octets.now (λ k. omega (arith, c.type_inv.octets k))) is
