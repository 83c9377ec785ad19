use Rattle.std.proofs.Common.{◌-◌, length}
use Rattle.raster.specs.Pixels.{other}
use Rattle.raster.proofs.RowLemmas.{RunsTo}
use Rattle.raster.proofs.row.RowRef.collected_runs.Given as goal

abbrev pub invariant-loop-at : goal.invariant-loop-at
invariant-loop-at l = RunsTo l.self l.runs.items l.at (other l.color)

abbrev pub decreases-loop-at : goal.decreases-loop-at
decreases-loop-at l = length l.self - l.at
