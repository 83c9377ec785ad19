use Rattle.std.proofs.Common.{◌≡◌, ◌≤◌, ◌+◌, ◌-◌, ◌*◌, length}
use Rattle.raster.specs.Packed.{bits_of}
use Rattle.raster.specs.declared.coding.Coding.TheVariants.{OneDim}
use Rattle.page_code.specs.RowsSoFar.{IsReadTo}
use Rattle.page_code.proofs.one_dim.read_in_order.Given as goal

abbrev pub invariant-loop-place : goal.invariant-loop-place
invariant-loop-place l = record {
  width : l.to.page.width ≡ l.fn.to.page.width;
  fine : l.to.page.fine ≡ l.fn.to.page.fine;
  read : IsReadTo OneDim l.to.page.width (bits_of l.order l.octets) l.to.page.rows l.to.place;
  painter : l.painter.width ≡ l.to.page.width;
  room : l.painter.width + 64 ≤ 8 * length l.painter.octets.items;
}

abbrev pub decreases-loop-place : goal.decreases-loop-place
decreases-loop-place l = 20000 - length l.to.page.rows
