use Rattle.raster.specs.declared.packed.Order.TheVariants.{MsbFirst}
use Rattle.raster.proofs.PackedLemmas.{fills_octets}
use Rattle.raster.proofs.AlikeLemmas.{fills_alike}
use Rattle.raster.proofs.packed.LentBits.octets.Goals as goal

pub returns-in-Some : goal.returns-in-Some
returns-in-Some c =
    rw (← c.self.view_is, c.octets_alike.ensures, c.octets_for.ensures, c.in-Some.is)
    (fills_alike MsbFirst c.self.inside.count c.in-Some.bit (rw c.in-Some.is at c.self.invariant))

pub returns-in-None : goal.returns-in-None
returns-in-None c =
    rw (← c.self.view_is, c.octets_for-in-None.ensures, c.in-None.is)
    (fills_octets MsbFirst c.self.inside.octets.now c.self.inside.count (rw c.in-None.is at c.self.invariant))
