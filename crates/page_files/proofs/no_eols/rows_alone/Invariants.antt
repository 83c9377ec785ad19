-- What holds in the loop of `rows_alone`.
use Rattle.std.proofs.Common.{◌-◌, ◌*◌, ◌≤◌, length}
use Rattle.page_files.specs.NoEols.{AreRowsTo}
use Rattle.raster.specs.Packed.{bits_of}
use Rattle.raster.specs.Pages.{max_rows}
use Rattle.page_files.proofs.no_eols.rows_alone.Given as goal

abbrev pub invariant-loop-place : goal.invariant-loop-place
invariant-loop-place l = record {
  to : AreRowsTo l.width (bits_of l.order l.octets) l.rows l.place;
  within : l.place ≤ 8 * length l.octets;
  few : l.rows ≤ max_rows;
}

abbrev pub decreases-loop-place : goal.decreases-loop-place
decreases-loop-place l = max_rows - l.rows
