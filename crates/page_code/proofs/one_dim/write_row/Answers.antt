use Rattle.std.proofs.lemmas.Result.{on_ok_weaker}
use Rattle.page_code.proofs.OneDimension.RowsWords.{row_after_eol}
use Rattle.page_code.proofs.one_dim.write_row.Goals as goal

pub returns-clause-ok : goal.returns-clause-ok
returns-clause-ok c =
    on_ok_weaker c.write_row_1d_in.result
    (λ wrote.
    row_after_eol c.args.bits.now c.write_eol.new.self c.write_row_1d_in.new.self c.args.row.now c.requires c.in_ok-write_eol.ensures.ok
    wrote) c.write_row_1d_in.ensures.ok
