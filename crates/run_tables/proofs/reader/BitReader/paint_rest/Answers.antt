use Rattle.std.proofs.Common.{◌-◌, ◌∙◌, ap, arith, subst, sym}
use Rattle.raster.specs.declared.row.Color.TheVariants.{White, Black}
use Rattle.run_tables.specs.CodeReading.{ReadsTwoRuns}
use Rattle.run_tables.specs.declared.fault.CodeFaultKind.TheVariants.{RunTooLong}
use Rattle.run_tables.specs.Reading.{Reading}
use Rattle.run_tables.specs.RowReading.{PaintsRuns}
use Rattle.run_tables.specs.Windows.{passed}
use Rattle.run_tables.proofs.PaintedRows.{painted_all, painted_more, painted_two}
use Rattle.run_tables.proofs.reader.BitReader.paint_rest.Goals as goal

-- ---- a pair

pub loop-room-smaller-in-Some : goal.loop-room-smaller-in-Some
loop-room-smaller-in-Some c =
    let reads : ReadsTwoRuns White c.loop-room.room RunTooLong (passed c.loop-room.window.reader c.loop-room.window.used)
    (passed c.pair.new.self.reader c.pair.new.self.used) c.white-white.result c.black-black.result =
    rw (c.white-white.ensures.is, c.black-black.ensures.is) (c.in-Some.ensures.reads RunTooLong) in
    let more = painted_two c.args.painter.now.width c.args.self.now (passed c.loop-room.window.reader c.loop-room.window.used)
    (passed c.pair.new.self.reader c.pair.new.self.used) c.loop-room.painter c.push_run.new.self c.push_run-in-Some.new.self
    c.loop-room.room c.white-white.result c.black-black.result (omega (arith, c.white-white.ensures.is, c.in-Some.ensures.some, c.in-Some.ensures.most))
    c.loop-room.invariant.row c.push_run.ensures.paints c.push_run-in-Some.ensures.paints reads in
    rw (more.0.2.bits, c.loop-room.invariant.row.2.bits) (omega (arith, more.1, more.2))

pub loop-room-preserved-in-Some : goal.loop-room-preserved-in-Some
loop-room-preserved-in-Some c =
    let reads : ReadsTwoRuns White c.loop-room.room RunTooLong (passed c.loop-room.window.reader c.loop-room.window.used)
    (passed c.pair.new.self.reader c.pair.new.self.used) c.white-white.result c.black-black.result =
    rw (c.white-white.ensures.is, c.black-black.ensures.is) (c.in-Some.ensures.reads RunTooLong) in
    let more = painted_two c.args.painter.now.width c.args.self.now (passed c.loop-room.window.reader c.loop-room.window.used)
    (passed c.pair.new.self.reader c.pair.new.self.used) c.loop-room.painter c.push_run.new.self c.push_run-in-Some.new.self
    c.loop-room.room c.white-white.result c.black-black.result (omega (arith, c.white-white.ensures.is, c.in-Some.ensures.some, c.in-Some.ensures.most))
    c.loop-room.invariant.row c.push_run.ensures.paints c.push_run-in-Some.ensures.paints reads in
    record {
      window = c.in-Some.ensures.window;
      fits = c.push_run-in-Some.ensures.fits;
      wide = c.push_run-in-Some.ensures.width ∙ (c.push_run.ensures.width ∙ c.loop-room.invariant.wide);
      left = omega (
        arith,
        c.push_run-in-Some.ensures.place,
        c.push_run.ensures.place,
        c.loop-room.invariant.left,
        c.in-Some.ensures.most,
        c.white-white.ensures.is,
        c.black-black.ensures.is,
      );
      row = more.0;
    }

-- ---- one run after the other

pub returns-then-room-eq0-clause-row : goal.returns-then-room-eq0-clause-row
returns-then-room-eq0-clause-row c =
    let begun = subst (λ (mid : Reading). PaintsRuns c.args.painter.now.width c.args.self.now mid c.loop-room.painter White c.loop-room.room)
    (sym c.in_default.ensures.none) c.loop-room.invariant.row in
    let first = painted_more c.args.painter.now.width c.args.self.now (passed c.pair.new.self.reader c.pair.new.self.used)
    (passed c.run.new.self.reader c.run.new.self.used) c.loop-room.painter c.push_run-in-loop-room.new.self White
    c.loop-room.room c.in-Some-run.white c.loop-room-test.true begun c.push_run-in-loop-room.ensures.paints
    (c.in-Some-run.ensures.some RunTooLong) in
    painted_all c.args.painter.now.width c.args.self.now _ c.push_run-in-loop-room.new.self Black
    (c.loop-room.room - c.in-Some-run.white) first.0 c.if-room-eq0.true

pub loop-room-smaller : goal.loop-room-smaller
loop-room-smaller c =
    let begun = subst (λ (mid : Reading). PaintsRuns c.args.painter.now.width c.args.self.now mid c.loop-room.painter White c.loop-room.room)
    (sym c.in_default.ensures.none) c.loop-room.invariant.row in
    let first = painted_more c.args.painter.now.width c.args.self.now (passed c.pair.new.self.reader c.pair.new.self.used)
    (passed c.run.new.self.reader c.run.new.self.used) c.loop-room.painter c.push_run-in-loop-room.new.self White
    c.loop-room.room c.in-Some-run.white c.loop-room-test.true begun c.push_run-in-loop-room.ensures.paints
    (c.in-Some-run.ensures.some RunTooLong) in
    let second = painted_more c.args.painter.now.width c.args.self.now (passed c.run.new.self.reader c.run.new.self.used)
    (passed c.run-in-loop-room.new.self.reader c.run-in-loop-room.new.self.used) c.push_run-in-loop-room.new.self
    c.push_run-in-loop-room-2.new.self Black (c.loop-room.room - c.in-Some-run.white) c.in-Some-run-2.black (omega (
      arith,
      c.if-room-eq0.false,
    )) first.0 c.push_run-in-loop-room-2.ensures.paints (c.in-Some-run-2.ensures.some RunTooLong) in
    rw (second.0.2.bits, c.loop-room.invariant.row.2.bits) (omega (
      arith,
      ap (λ (r : Reading). r.place) c.in_default.ensures.none,
      first.1,
      second.1,
      second.2,
    ))

pub loop-room-preserved : goal.loop-room-preserved
loop-room-preserved c =
    let begun = subst (λ (mid : Reading). PaintsRuns c.args.painter.now.width c.args.self.now mid c.loop-room.painter White c.loop-room.room)
    (sym c.in_default.ensures.none) c.loop-room.invariant.row in
    let first = painted_more c.args.painter.now.width c.args.self.now (passed c.pair.new.self.reader c.pair.new.self.used)
    (passed c.run.new.self.reader c.run.new.self.used) c.loop-room.painter c.push_run-in-loop-room.new.self White
    c.loop-room.room c.in-Some-run.white c.loop-room-test.true begun c.push_run-in-loop-room.ensures.paints
    (c.in-Some-run.ensures.some RunTooLong) in
    let second = painted_more c.args.painter.now.width c.args.self.now (passed c.run.new.self.reader c.run.new.self.used)
    (passed c.run-in-loop-room.new.self.reader c.run-in-loop-room.new.self.used) c.push_run-in-loop-room.new.self
    c.push_run-in-loop-room-2.new.self Black (c.loop-room.room - c.in-Some-run.white) c.in-Some-run-2.black (omega (
      arith,
      c.if-room-eq0.false,
    )) first.0 c.push_run-in-loop-room-2.ensures.paints (c.in-Some-run-2.ensures.some RunTooLong) in
    record {
      window = c.in-Some-run-2.ensures.window;
      fits = c.push_run-in-loop-room-2.ensures.fits;
      wide = c.push_run-in-loop-room-2.ensures.width ∙ (c.push_run-in-loop-room.ensures.width ∙ c.loop-room.invariant.wide);
      left = omega (
        arith,
        c.push_run-in-loop-room-2.ensures.place,
        c.push_run-in-loop-room.ensures.place,
        c.loop-room.invariant.left,
        c.in-Some-run.ensures.most,
        c.in-Some-run-2.ensures.most,
      );
      row = second.0;
    }

-- ---- the end

pub returns-clause-row : goal.returns-clause-row
returns-clause-row c =
    painted_all c.args.painter.now.width c.args.self.now _ c.loop-room.painter White c.loop-room.room
    c.loop-room.invariant.row (omega (arith, c.loop-room-test.false))
