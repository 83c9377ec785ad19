use Rattle.std.proofs.Common.{◌≡◌, ◌++◌, ◌∷◌, [], ◌-◌, refl, arith}
use Rattle.std.proofs.lemmas.Grind.{common_steps}
use Rattle.raster.specs.declared.row.Color.TheVariants.{White, Black}
use Rattle.run_tables.specs.declared.fault.CodeFaultKind.TheVariants.{RunTooLong}
use Rattle.run_tables.specs.Windows.{passed}
use Rattle.run_tables.proofs.RowSteps.{in_row_more}
use Rattle.run_tables.proofs.reader.BitReader.quick_runs.Goals as goal
use Rattle.run_tables.proofs.reader.BitReader.quick_runs.Goals.{else-loop-room-test, then-loop-room-test+in_default-run}
use Rattle.run_tables.proofs.reader.BitReader.quick_runs.Goals.{then-loop-room-test+in-Some-run+in_ok-push+then-room-eq0}
use Rattle.run_tables.proofs.reader.BitReader.quick_runs.Goals.{then-loop-room-test+in-Some-run+in_ok-push+else-room-eq0+in_default-run-2}

pub overflow_sub-room : goal.overflow_sub-room
overflow_sub-room c =
    let more = in_row_more c.args.width c.args.self.now (passed c.loop-room.window.reader c.loop-room.window.used)
    (passed c.run.new.self.reader c.run.new.self.used) c.loop-room.runs.items White c.loop-room.room c.in-Some-run.white
    c.loop-room-test.true (rw c.loop-room.invariant.white at c.loop-room.invariant.row)
    (c.in-Some-run.ensures.some RunTooLong) in
    more.2

pub overflow_sub-room-in-loop-room : goal.overflow_sub-room-in-loop-room
overflow_sub-room-in-loop-room c =
    let first = in_row_more c.args.width c.args.self.now (passed c.loop-room.window.reader c.loop-room.window.used)
    (passed c.run.new.self.reader c.run.new.self.used) c.loop-room.runs.items White c.loop-room.room c.in-Some-run.white
    c.loop-room-test.true (rw c.loop-room.invariant.white at c.loop-room.invariant.row)
    (c.in-Some-run.ensures.some RunTooLong) in
    let second = in_row_more c.args.width c.args.self.now (passed c.run.new.self.reader c.run.new.self.used)
    (passed c.run-in-loop-room.new.self.reader c.run-in-loop-room.new.self.used) (c.loop-room.runs.items ++ c.in-Some-run.white ∷ []) Black
    (c.loop-room.room - c.in-Some-run.white) c.in-Some-run-2.black (omega (arith, c.if-room-eq0.false))
    first.0 (c.in-Some-run-2.ensures.some RunTooLong) in
    second.2

pub loop-room-smaller : goal.loop-room-smaller
loop-room-smaller c =
    let first = in_row_more c.args.width c.args.self.now (passed c.loop-room.window.reader c.loop-room.window.used)
    (passed c.run.new.self.reader c.run.new.self.used) c.loop-room.runs.items White c.loop-room.room c.in-Some-run.white
    c.loop-room-test.true (rw c.loop-room.invariant.white at c.loop-room.invariant.row)
    (c.in-Some-run.ensures.some RunTooLong) in
    let second = in_row_more c.args.width c.args.self.now (passed c.run.new.self.reader c.run.new.self.used)
    (passed c.run-in-loop-room.new.self.reader c.run-in-loop-room.new.self.used) (c.loop-room.runs.items ++ c.in-Some-run.white ∷ []) Black
    (c.loop-room.room - c.in-Some-run.white) c.in-Some-run-2.black (omega (arith, c.if-room-eq0.false))
    first.0 (c.in-Some-run-2.ensures.some RunTooLong) in
    rw (second.0.bits, c.loop-room.invariant.row.bits) (omega (arith, first.1, second.1, rw second.0.bits at second.0.within))

pub loop-room-preserved : goal.loop-room-preserved
loop-room-preserved c =
    let first = in_row_more c.args.width c.args.self.now (passed c.loop-room.window.reader c.loop-room.window.used)
    (passed c.run.new.self.reader c.run.new.self.used) c.loop-room.runs.items White c.loop-room.room c.in-Some-run.white
    c.loop-room-test.true (rw c.loop-room.invariant.white at c.loop-room.invariant.row)
    (c.in-Some-run.ensures.some RunTooLong) in
    let second = in_row_more c.args.width c.args.self.now (passed c.run.new.self.reader c.run.new.self.used)
    (passed c.run-in-loop-room.new.self.reader c.run-in-loop-room.new.self.used) (c.loop-room.runs.items ++ c.in-Some-run.white ∷ []) Black
    (c.loop-room.room - c.in-Some-run.white) c.in-Some-run-2.black (omega (arith, c.if-room-eq0.false))
    first.0 (c.in-Some-run-2.ensures.some RunTooLong) in
    let pushed : c.push.new.self.items ≡ c.loop-room.runs.items ++ c.in-Some-run.white ∷ [] = grind (arith, common_steps) in
    let pushed_too : c.push-in-loop-room.new.self.items ≡ c.push.new.self.items ++ c.in-Some-run-2.black ∷ [] = grind (
      arith,
      common_steps,
    ) in
    record { window = c.in-Some-run-2.ensures.window; row = rw (pushed_too, pushed) second.0; white = refl }

pub returns : goal.returns
returns c = elim c.loop-room-test.branch [
  | else-loop-room-test w ↦ rw (c.into_reader.ensures, w.window-is, w.runs-is, w.color-is, w.room-is) c.loop-room.invariant.row
  | then-loop-room-test+in_default-run w ↦
      rw (c.into_reader.ensures, w.window-is, w.runs-is, w.color-is, w.room-is, w.in_default-run.ensures.none) c.loop-room.invariant.row
  | then-loop-room-test+in-Some-run+in_ok-push+then-room-eq0 w ↦
      let first = in_row_more c.args.width c.args.self.now (passed c.loop-room.window.reader c.loop-room.window.used)
      (passed w.run.new.self.reader w.run.new.self.used) c.loop-room.runs.items White c.loop-room.room w.in-Some-run.white
      w.loop-room-test.true (rw c.loop-room.invariant.white at c.loop-room.invariant.row)
      (w.in-Some-run.ensures.some RunTooLong) in
      let pushed : w.push.new.self.items ≡ c.loop-room.runs.items ++ w.in-Some-run.white ∷ [] = grind (arith, common_steps) in
      rw (c.into_reader.ensures, w.window-is, w.runs-is, w.color-is, w.room-is, pushed) first.0
  | then-loop-room-test+in-Some-run+in_ok-push+else-room-eq0+in_default-run-2 w ↦
      let first = in_row_more c.args.width c.args.self.now (passed c.loop-room.window.reader c.loop-room.window.used)
      (passed w.run.new.self.reader w.run.new.self.used) c.loop-room.runs.items White c.loop-room.room w.in-Some-run.white
      w.loop-room-test.true (rw c.loop-room.invariant.white at c.loop-room.invariant.row)
      (w.in-Some-run.ensures.some RunTooLong) in
      let pushed : w.push.new.self.items ≡ c.loop-room.runs.items ++ w.in-Some-run.white ∷ [] = grind (arith, common_steps) in
      rw (c.into_reader.ensures, w.window-is, w.runs-is, w.color-is, w.room-is, w.in_default-run-2.ensures.none, pushed) first.0
]
