use Rattle.std.proofs.Common.{take}
use Rattle.std.proofs.lemmas.Result.{on_ok_weaker}
use Rattle.page_code.proofs.RowCoders.{handed_out}
use Rattle.page_code.proofs.row_coder.RowCoder.move_octets.Goals as goal

pub returns-clause-ok : goal.returns-clause-ok
returns-clause-ok c =
    rw (← c.self.view_is) (on_ok_weaker c.move_octets.result
    (λ moves.
    handed_out c.self.inside.coding c.self.inside.width c.self.inside.rows
    (take c.self.inside.lines.known c.self.inside.lines.reference.items) c.self.inside.pending c.move_octets.new.self
    c.args.out.now.items c.move_octets.new.out.items moves) c.move_octets.ensures.ok)
