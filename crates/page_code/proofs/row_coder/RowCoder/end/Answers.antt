use Rattle.std.proofs.Common.{[], ◌∙◌, subst, sym, take}
use Rattle.raster.specs.Packed.{Bits, FillsOctets}
use Rattle.page_code.proofs.RowCoders.{page_ends, when_done}
use Rattle.page_code.proofs.row_coder.RowCoder.end.Goals as goal

pub returns-clause-ends : goal.returns-clause-ends
returns-clause-ends c =
    let done = sym c.is_err.ensures.value ∙ c.if-is_err.false in
    rw (← c.self.view_is) (page_ends c.self.inside.coding c.self.inside.width c.self.inside.rows
    (take c.self.inside.lines.known c.self.inside.lines.reference.items) c.self.inside.pending c.write_end.new.writer []
    c.into_octets.result.items (when_done _ c.write_end.result done c.write_end.ensures.ends)
    (subst (λ (w : Bits). FillsOctets w.order w.bits c.into_octets.result.items) c.replace-pending.ensures.value c.into_octets.ensures))
