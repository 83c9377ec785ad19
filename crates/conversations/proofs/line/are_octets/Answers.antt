use Rattle.std.proofs.Common.{arith}
use Rattle.raster.proofs.OctetLemmas.{are_octets}
use Rattle.conversations.proofs.line.are_octets.Goals as goal

pub returns : goal.returns
returns c = are_octets c.args.octets.now (λ k. omega (arith, c.type_inv.octets k))
