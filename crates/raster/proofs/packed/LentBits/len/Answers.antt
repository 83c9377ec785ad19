use Rattle.std.proofs.Common.{sym}
use Rattle.raster.specs.declared.packed.Order.TheVariants.{MsbFirst}
use Rattle.raster.proofs.AlikeLemmas.{length-kept_bits}
use Rattle.raster.proofs.packed.LentBits.len.Goals as goal

pub returns : goal.returns
returns c =
    rw (← c.self.view_is)
    (sym (length-kept_bits c.self.inside.alike MsbFirst c.self.inside.octets.now c.self.inside.count))
