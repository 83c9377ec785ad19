use Rattle.std.proofs.Common.{arith, length, refl}
use Rattle.run_tables.specs.Reading.{rest_of}
use Rattle.page_code.specs.TwoDimensions.Fronts.{mode_ended}
use Rattle.page_code.proofs.TwoDimensions.QuickModes.{along_more, along_twice}
use Rattle.page_code.proofs.TwoDimensions.RowReading.{goes_none}
use Rattle.page_code.proofs.t6.read.read_modes.Goals as goal

pub loop-reader-init : goal.loop-reader-init
loop-reader-init c = record {
  same = refl;
  along = (
    refl,
    omega arith,
    omega (arith, c.place-start.ensures.place, c.place-start.ensures.within),
    c.width-width.ensures.fits,
    λ page is. goes_none (length c.args.lines.now.reference) (mode_ended (length c.args.lines.now.reference) page c.args.lines.now.line)
        c.args.reader.now.place (rest_of c.args.reader.now),
  );
}

pub loop-reader-preserved-in-Continue-1 : goal.loop-reader-preserved-in-Continue-1
loop-reader-preserved-in-Continue-1 c =
    let kept = c.if-not-done.ensures.none in
    let same = c.loop-reader.invariant.same in record {
      same = rw (c.in_ok-read_mode.ensures.same, c.quick_part-done.ensures.same) same;
      along = along_more c.args.lines.now.reference c.args.reader.now c.loop-reader.reader c.read_mode.new.reader c.args.lines.now.line
          c.loop-reader.lines.line c.read_mode.new.lines.line c.loop-reader.invariant.along (rw same at c.loop-reader-test.ensures.yes)
          (rw (kept.0, kept.1, c.quick_part-done.ensures.same, same) at c.in_ok-read_mode.ensures.steps);
    }

pub loop-reader-preserved : goal.loop-reader-preserved
loop-reader-preserved c =
    let same = c.loop-reader.invariant.same in record {
      same = rw c.quick_part-done.ensures.same same;
      along = along_twice c.args.lines.now.reference c.args.reader.now c.loop-reader.reader c.quick_part-done.new.reader
          c.args.lines.now.line c.loop-reader.lines.line c.quick_part-done.new.lines.line c.loop-reader.invariant.along
          (rw same at c.quick_part-done.ensures.along);
    }
