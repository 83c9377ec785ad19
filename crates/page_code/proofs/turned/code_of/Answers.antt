use Rattle.std.proofs.Common.{◌∙◌, ap, arith}
use Rattle.raster.specs.Packed.{bits_of}
use Rattle.raster.specs.declared.packed.Order.TheVariants.{MsbFirst}
use Rattle.page_code.proofs.TurnedOctets.{turned_all}
use Rattle.page_code.proofs.turned.code_of.Goals as goal

pub returns-else-octets-gt-MOST_TURNED : goal.returns-else-octets-gt-MOST_TURNED
returns-else-octets-gt-MOST_TURNED c =
    rw c.in-LsbFirst.is (ap (bits_of MsbFirst) ((rw c.in-LsbFirst.is at c.requires).0 (omega (arith, c.if-octets-gt-MOST_TURNED.false)))
    ∙ turned_all c.args.octets.now)
