use Rattle.std.proofs.Common.{◌≡◌, length}
use Rattle.raster.specs.Pbm.{Took}
use Rattle.raster.proofs.PbmPieces.{ImagesSoFar}
use Rattle.raster.proofs.pbm.read_following.Given as goal

abbrev pub invariant-loop-count : goal.invariant-loop-count
invariant-loop-count g l = record {
  taken : Took (g.R.Read.remaining l.fn.reader) (g.R.Read.remaining l.reader) (ImagesSoFar l.all l.fine l.fn.first l.document l.count);
  long : length l.head ≡ 1024;
}
