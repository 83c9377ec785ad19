use Rattle.std.proofs.Common.{length}
use Rattle.raster.proofs.PbmPieces.{Filled}
use Rattle.raster.proofs.pbm.next_header.Given as goal

abbrev pub invariant-loop-count : goal.invariant-loop-count
invariant-loop-count g l = Filled (g.R.Read.remaining l.fn.reader) (g.R.Read.remaining l.reader) (length l.fn.head) l.head l.count
