use Rattle.std.proofs.Common.{◌≡◌}
use Rattle.raster.specs.Packed.{bits_in}
use Rattle.raster.specs.declared.packed.Order.TheVariants.{MsbFirst}
use Rattle.raster.proofs.StoredLemmas.{append_kept}
use Rattle.raster.proofs.packed.LentBits.append_to.Goals as goal

pub returns-in_ok-extend_from_slice-in-None-clause-ok : goal.returns-in_ok-extend_from_slice-in-None-clause-ok
returns-in_ok-extend_from_slice-in-None-clause-ok c =
    let is : bits_in MsbFirst c.self.inside.octets.now c.self.inside.count ≡ c.args.self.now = rw c.in-None.is at c.self.view_is in
    append_kept c.args.self.now c.self.inside.octets.now c.args.octets.now.items c.extend_from_slice.new.self.items c.self.inside.count
    c.octets_for.result is (rw c.in-None.is at c.self.invariant) c.octets_for.ensures c.requires.small
    c.in_ok-extend_from_slice-in-None.ensures.items
