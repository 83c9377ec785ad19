-- What the check asks of `write_repaired`.
use Rattle.std.proofs.Common.{◌<◌, length}
use Rattle.page_files.proofs.RepairedLines.{row_more, some_rows, whole_text}
use Rattle.page_files.proofs.repair.write_repaired.Goals as goal

pub loop-row-preserved : goal.loop-row-preserved
loop-row-preserved g c =
    row_more _ _ _ c.args.rows.now c.loop-row.row-index _ c.loop-row-test.true c.loop-row.invariant c.in_ok-write_row.ensures.line

pub returns-clause-lines : goal.returns-clause-lines
returns-clause-lines g c =
    let some : 0 < length c.args.rows.now = some_rows c.args.rows.now c.is_empty.result c.is_empty.ensures c.if-is_empty.false in
    whole_text (g.L.Write.contents c.args.lines.now) (g.L.Write.contents c.loop-row.lines) (g.L.Write.contents c.write_count.new.lines)
    c.args.rows.now c.loop-row.row-index some c.loop-row-test.false c.loop-row.invariant c.in_ok-write_count.ensures.line
