use Rattle.std.proofs.Common.{◌≡◌, ◌≤◌, ◌-◌, length}
use Rattle.raster.specs.Packed.{bits_of}
use Rattle.raster.specs.declared.coding.Coding.TheVariants.{OneDim}
use Rattle.page_code.specs.RowsSoFar.{IsReadTo}
use Rattle.page_code.proofs.one_dim.white_rows.white_rows.Given as goal

abbrev pub invariant-loop-reader : goal.invariant-loop-reader
invariant-loop-reader l = record {
  width : l.to.page.width ≡ l.fn.to.page.width;
  fine : l.to.page.fine ≡ l.fn.to.page.fine;
  bits : l.reader.bits ≡ bits_of l.fn.order l.octets;
  more : length l.fn.to.page.rows ≤ length l.to.page.rows;
  read : IsReadTo OneDim l.to.page.width l.reader.bits l.to.page.rows l.reader.place;
}

abbrev pub decreases-loop-reader : goal.decreases-loop-reader
decreases-loop-reader l = 20000 - length l.to.page.rows
