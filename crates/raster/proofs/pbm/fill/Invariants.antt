use Rattle.std.proofs.Common.{length}
use Rattle.raster.proofs.PbmPieces.{Filled}
use Rattle.raster.proofs.pbm.fill.Given as goal

abbrev pub invariant-loop : goal.invariant-loop
invariant-loop g l = Filled (g.R.Read.remaining l.fn.reader) (g.R.Read.remaining l.reader) (length l.fn.octets) l.octets l.count
