use Rattle.std.proofs.Common.{ap, take, refl}
use Rattle.raster.specs.Packed.{Bits}
use Rattle.page_code.proofs.RowCoders.{stands_empty}
use Rattle.page_code.proofs.row_coder.RowCoder.new.Goals as goal

pub returns : goal.returns
returns c = record {
  coding_is = refl;
  order_is = ap (λ (w : Bits). w.order) c.new.ensures;
  width_is = refl;
  none = stands_empty c.args.coding c.args.width
      (take c.in_ok-first_lines.field-0.known c.in_ok-first_lines.field-0.reference.items) c.new.result
      c.in_ok-first_lines.ensures.held (ap (λ (w : Bits). w.bits) c.new.ensures);
}
