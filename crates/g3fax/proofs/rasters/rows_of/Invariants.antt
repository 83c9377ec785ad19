use Rattle.std.proofs.Common.{◌≡◌}
use Rattle.g3fax.specs.Pages.{is_set}
use Rattle.g3fax.specs.Rasters.{raster_rows}
use Rattle.g3fax.proofs.rasters.rows_of.Given as goal

abbrev pub invariant-loop-number : goal.invariant-loop-number
invariant-loop-number l = l.page ≡ record {
  width = l.raster.width;
  fine = is_set l.raster.fine;
  rows = raster_rows l.raster.width l.raster.stride l.octets l.number;
}
