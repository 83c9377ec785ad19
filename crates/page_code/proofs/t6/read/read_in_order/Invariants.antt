use Rattle.std.proofs.Common.{◌≡◌, ◌-◌, length}
use Rattle.raster.specs.Packed.{bits_of}
use Rattle.raster.specs.declared.coding.Coding.TheVariants.{T6}
use Rattle.page_code.specs.RowsSoFar.{IsReadTo}
use Rattle.page_code.specs.TwoDimensions.Positions.{white_line}
use Rattle.page_code.specs.TwoDimensions.Writing.{reference_at}
use Rattle.page_code.proofs.t6.read.read_in_order.Given as goal

abbrev pub invariant-loop-lines : goal.invariant-loop-lines
invariant-loop-lines l = record {
  width : l.to.page.width ≡ l.fn.to.page.width;
  fine : l.to.page.fine ≡ l.fn.to.page.fine;
  read : IsReadTo T6 l.to.page.width (bits_of l.fn.order l.octets) l.to.page.rows l.to.place;
  reader : l.reader ≡ record { bits = bits_of l.fn.order l.octets; place = l.to.place };
  reference : l.lines.reference ≡ reference_at (white_line l.to.page.width) l.to.page.rows (length l.to.page.rows);
}

abbrev pub decreases-loop-lines : goal.decreases-loop-lines
decreases-loop-lines l = 20000 - length l.to.page.rows
