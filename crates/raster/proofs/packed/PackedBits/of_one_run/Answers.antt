use Rattle.std.proofs.Common.{arith}
use Rattle.raster.proofs.AlikeLemmas.{black_run, white_run}
use Rattle.raster.proofs.packed.PackedBits.of_one_run.Goals as goal

pub returns-then-runs-le-MAX_WIDTH-clause-colors : goal.returns-then-runs-le-MAX_WIDTH-clause-colors
returns-then-runs-le-MAX_WIDTH-clause-colors c = rw c.of_one.ensures (white_run c.args.runs.now (omega arith))

pub returns-then-runs-eq0-2-clause-colors : goal.returns-then-runs-eq0-2-clause-colors
returns-then-runs-eq0-2-clause-colors c =
    rw c.of_one-then-runs-eq0-2.ensures (black_run c.args.runs.now (omega arith) (omega arith))
