use Rattle.std.proofs.Common.{◌∙◌, arith, sym, take}
use Rattle.page_code.proofs.RowCoders.{one_more, when_done}
use Rattle.page_code.proofs.row_coder.RowCoder.push_row.Goals as goal

pub returns : goal.returns
returns c =
    let done = sym c.is_err.ensures.value ∙ c.if-is_err.false in
    let held = take c.self.inside.lines.known c.self.inside.lines.reference.items in
    let held' = take c.write_row.new.lines.known c.write_row.new.lines.reference.items in
    rw (← c.self.view_is) (
      omega (arith, c.width.ensures.width, c.if-width-self.false),
      omega (arith, c.if-self-ge-MAX_ROWS.false),
      one_more c.self.inside.coding c.self.inside.width c.self.inside.rows held held' c.self.inside.pending c.write_row.new.writer
          c.args.row.now (omega (arith, c.width.ensures.width, c.if-width-self.false)) c.write_row.ensures.keeps
          (when_done _ c.write_row.result done c.write_row.ensures.code) (when_done _ c.write_row.result done c.write_row.ensures.held),
    )
