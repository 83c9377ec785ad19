-- What the check asks of `give_lines`.
use Rattle.std.proofs.Common.{◌*◌, ap, arith, inr, length, sym, ◌∙◌}
use Rattle.raster.specs.Packed.{bits_of}
use Rattle.raster.proofs.PackedLemmas.{length-bits_in}
use Rattle.page_code.proofs.OneDimension.Repairs.{lines_on, more_lines}
use Rattle.page_code.proofs.one_dim.repair.give_lines.Goals as goal

pub returns-then-len-eq-MAX_ROWS : goal.returns-then-len-eq-MAX_ROWS
returns-then-len-eq-MAX_ROWS c =
    inr (more_lines c.args.width (bits_of c.args.order c.args.octets.now) c.loop-alloc.to.page.rows c.loop-alloc.to.repaired.items
    c.loop-alloc.to.place c.new-then-len-eq-MAX_ROWS.result c.loop-alloc.invariant.given_to (c.line_begins.ensures.begins
    c.loop-alloc-test.true) (sym (c.len.ensures.length ∙ ap length c.rows.ensures.rows) ∙
    c.if-len-eq-MAX_ROWS.true) c.new-then-len-eq-MAX_ROWS.ensures)

pub loop-alloc-preserved : goal.loop-alloc-preserved
loop-alloc-preserved c =
    let next = lines_on c.args.width c.args.fine (bits_of c.args.order c.args.octets.now) c.loop-alloc.to c.give_line.new.to
    c.loop-alloc.invariant.width c.loop-alloc.invariant.fine c.loop-alloc.invariant.given_to c.in_ok-give_line.ensures in
    record {
      width = next.0;
      fine = next.1;
      within = omega (
        arith,
        c.in_ok-give_line.ensures.within,
        length-bits_in c.args.order c.args.octets.now (8 * length c.args.octets.now),
      );
      few = omega (arith, next.2, c.loop-alloc.invariant.few, c.len.ensures.length, ap length c.rows.ensures.rows, c.if-len-eq-MAX_ROWS.false);
      given_to = next.3;
    }
