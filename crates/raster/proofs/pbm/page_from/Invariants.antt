use Rattle.std.proofs.Common.{◌≡◌, length}
use Rattle.raster.specs.Pbm.{Took, stride}
use Rattle.raster.proofs.PbmPieces.{RowsSoFar}
use Rattle.raster.proofs.pbm.page_from.Given as goal

abbrev pub invariant-loop : goal.invariant-loop
invariant-loop g l = record {
  rows : Took (g.R.Read.remaining l.fn.reader) (g.R.Read.remaining l.reader) (RowsSoFar l.page.rows l.header.width l.header.height l.counter);
  width : l.page.width ≡ l.header.width;
  fine : l.page.fine ≡ l.fine;
  count : length l.page.rows ≡ l.counter;
  long : length l.line ≡ stride l.header.width;
}
