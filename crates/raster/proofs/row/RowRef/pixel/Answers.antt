use Rattle.raster.proofs.RowLemmas.{slice_get-colors}
use Rattle.raster.proofs.row.RowRef.pixel.Goals as goal

pub returns : goal.returns
returns c = rw (← c.self.view_is, c.of_bit.ensures) (slice_get-colors c.self.inside.pixels c.args.at c.bit.result c.bit.ensures)
