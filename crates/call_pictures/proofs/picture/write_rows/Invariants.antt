-- What holds in the loop of `write_rows`.
use Rattle.std.proofs.Common.{drop}
use Rattle.call_pictures.proofs.Pictures.{RowsLeft}
use Rattle.call_pictures.proofs.picture.write_rows.Given as goal

abbrev pub invariant-loop-row : goal.invariant-loop-row
invariant-loop-row g l =
    RowsLeft (g.W.Write.contents l.fn.writer) (g.W.Write.contents l.writer) l.fn.y l.fn.number l.at l.next l.rows (drop l.row-index l.rows)
