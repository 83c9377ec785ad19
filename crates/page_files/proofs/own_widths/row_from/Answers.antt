-- What the check asks of `row_from`.
use Rattle.std.proofs.Common.{arith, sym, subst, ◌+◌}
use Rattle.raster.specs.declared.row.Color.{Color}
use Rattle.raster.specs.Packed.{bits_of}
use Rattle.page_files.proofs.OwnWidths.{AreRead, has_read}
use Rattle.page_files.proofs.own_widths.row_from.Goals as goal

pub overflow_add-pixels : goal.overflow_add-pixels
overflow_add-pixels c =
    let after = has_read c.args.order c.args.octets.now c.args.start c.loop-run.color c.loop-run.pixels c.in-Ok.run' c.loop-run.reader
    c.read_run.new.self c.loop-run.invariant.bits c.in-Ok.ensures c.loop-run.invariant.read in
    omega (arith, after.most, c.loop-run.invariant.read.few, c.loop-run.invariant.within)

pub loop-run-smaller : goal.loop-run-smaller
loop-run-smaller c =
    let after = has_read c.args.order c.args.octets.now c.args.start c.loop-run.color c.loop-run.pixels c.in-Ok.run' c.loop-run.reader
    c.read_run.new.self c.loop-run.invariant.bits c.in-Ok.ensures c.loop-run.invariant.read in
    omega (arith, after.further, after.within)

pub loop-run-preserved : goal.loop-run-preserved
loop-run-preserved c =
    let after = has_read c.args.order c.args.octets.now c.args.start c.loop-run.color c.loop-run.pixels c.in-Ok.run' c.loop-run.reader
    c.read_run.new.self c.loop-run.invariant.bits c.in-Ok.ensures c.loop-run.invariant.read in
    record {
      bits = after.same;
      within = after.within;
      read = subst (λ (color : Color). AreRead (bits_of c.args.order c.args.octets.now) c.args.start c.read_run.new.self.place color
          (c.loop-run.pixels + c.in-Ok.run')) (sym c.other-color.ensures) after.read;
    }
