use Rattle.std.proofs.Common.{arith}
use Rattle.raster.specs.Pixels.{other}
use Rattle.raster.specs.Words.{EndsRun}
use Rattle.raster.proofs.RowLemmas.{runs_first, runs_more}
use Rattle.raster.proofs.row.RowRef.collected_runs.Goals as goal

pub loop-at-init : goal.loop-at-init
loop-at-init c = rw (c.in_ok-push.ensures.items, c.new-runs.ensures.items) (runs_first c.args.self.now c.end_of_run-at.result
    c.end_of_run-at.ensures)

pub loop-at-preserved : goal.loop-at-preserved
loop-at-preserved c =
    let ends : EndsRun c.args.self.now c.loop-at.at (other c.loop-at.color) c.end_of_run-end.result = rw (← c.other-color.ensures)
    c.end_of_run-end.ensures in
    rw (c.in_ok-push-2.ensures.items, c.other-color.ensures) (runs_more c.args.self.now c.loop-at.runs.items c.loop-at.at
    c.end_of_run-end.result (other c.loop-at.color) c.loop-at.invariant (omega arith) ends)
