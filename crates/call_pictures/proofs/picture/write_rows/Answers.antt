-- What the check asks of `write_rows`.
use Rattle.call_pictures.proofs.Pictures.{no_row_yet, one_row}
use Rattle.call_pictures.proofs.picture.write_rows.Goals as goal

pub loop-row-init : goal.loop-row-init
loop-row-init g c = no_row_yet (g.W.Write.contents c.args.writer.now) c.args.y c.args.number c.args.rows.now

pub loop-row-preserved : goal.loop-row-preserved
loop-row-preserved g c =
    one_row (g.W.Write.contents c.args.writer.now) (g.W.Write.contents c.loop-row.writer) (g.W.Write.contents c.write_row.new.writer)
    c.args.y c.args.number c.loop-row.at c.loop-row.next c.in_ok-at.at c.in_ok-next.next c.args.rows.now c.args.rows.now
    c.loop-row.row-index _ c.loop-row.invariant c.loop-row-test.true c.in_ok-next.ensures.text c.in_ok-at.ensures.sum
    c.in_ok-next.ensures.next
