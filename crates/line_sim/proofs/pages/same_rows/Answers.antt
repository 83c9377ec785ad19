use Rattle.std.proofs.Common.{arith}
use Rattle.line_sim.proofs.SamePages.{take_both}
use Rattle.line_sim.proofs.pages.same_rows.Goals as goal

pub loop-at-preserved : goal.loop-at-preserved
loop-at-preserved c =
    take_both c.args.rows.now c.args.others.now c.loop-at.at c.row.result c.row-in-loop-at.result (omega arith) (omega arith) c.row.ensures
    c.row-in-loop-at.ensures (c.same_row.ensures.same c.if-not-same_row.false) c.loop-at.invariant
