use Rattle.raster.specs.Stored.{row_octets}
use Rattle.raster.specs.declared.packed.Order.TheVariants.{MsbFirst}
use Rattle.raster.proofs.AlikeLemmas.{length-kept_bits}
use Rattle.raster.proofs.StoredLemmas.{stored_row-is-colors}
use Rattle.raster.proofs.page.row_of.Goals as goal

pub of_bits-requires : goal.of_bits-requires
of_bits-requires c =
    rw (c.of_kept.ensures, length-kept_bits c.args.at.alike MsbFirst (row_octets c.args.octets.now c.args.at) c.args.width) c.requires.wide

pub returns : goal.returns
returns c = rw (c.of_bits.ensures, c.of_kept.ensures) (stored_row-is-colors c.args.width c.args.octets.now c.args.at)
