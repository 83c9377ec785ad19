use Rattle.std.proofs.Common.{arith, take}
use Rattle.page_code.proofs.RowCoders.{page_ends}
use Rattle.page_code.proofs.row_coder.RowCoder.finish.Goals as goal

pub returns : goal.returns
returns c =
    let out = rw c.deref.ensures.value at c.in_ok-extend_from_slice.ensures.items in
    rw (← c.self.view_is, out) (
      omega (arith, c.if-rows-eq0.false),
      page_ends c.self.inside.coding c.self.inside.width c.self.inside.rows
          (take c.self.inside.lines.known c.self.inside.lines.reference.items) c.self.inside.pending c.write_end.new.writer
          c.args.out.now.items c.into_octets-octets.result.items c.in_ok-write_end.ensures.ends c.into_octets-octets.ensures,
    )
