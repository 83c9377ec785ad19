use Rattle.std.proofs.Common.{◌≡◌, ◌∷◌, [], ◌-◌, ◌∙◌, ap, sym, arith, subst, ℕ}
use Rattle.raster.specs.declared.row.Color.TheVariants.{White, Black}
use Rattle.raster.specs.Runs.{colored}
use Rattle.run_tables.specs.declared.fault.CodeFaultKind.TheVariants.{RunTooLong}
use Rattle.run_tables.specs.Reading.{Reading}
use Rattle.run_tables.specs.RowReading.{IsInRow, PaintsRuns}
use Rattle.run_tables.specs.Windows.{passed}
use Rattle.run_tables.proofs.PaintedRows.{painted_more, painted_row, row_begun}
use Rattle.run_tables.proofs.RowSteps.{in_row_more, row_ended}
use Rattle.run_tables.proofs.reader.BitReader.quick_row.Goals as goal

pub returns-then-first-width : goal.returns-then-first-width
returns-then-first-width c =
    let begun : passed c.in-Some.window.reader c.in-Some.window.used ≡ c.args.self.now = c.in-Some.ensures.place ∙ c.look_ahead.ensures in
    let at_begin : IsInRow c.args.width c.args.self.now (passed c.in-Some.window.reader c.in-Some.window.used) [] White c.args.width =
    subst (λ (m : Reading). IsInRow c.args.width c.args.self.now m [] White c.args.width) (sym begun) (row_begun c.args.width
    c.args.self.now c.requires (omega (arith, c.place-place.ensures.within))) in
    let more = in_row_more c.args.width c.args.self.now (passed c.in-Some.window.reader c.in-Some.window.used) (passed
    c.run.new.self.reader c.run.new.self.used) [] White c.args.width c.in-Some-run.first (omega (arith, c.requires.0)) at_begin
    (c.in-Some-run.ensures.some RunTooLong) in (
      c.in-Some-run.first ∷ [],
      rw c.into_reader.ensures (row_ended c.args.width c.args.self.now (passed c.run.new.self.reader c.run.new.self.used)
          (c.in-Some-run.first ∷ []) Black (c.args.width - c.in-Some-run.first) (omega (arith, c.if-first-width.true)) more.0),
      c.in_ok-row.ensures ∙ ap (λ (n : ℕ). colored White (n ∷ [])) (sym c.if-first-width.true),
    )

pub returns-then-second-width : goal.returns-then-second-width
returns-then-second-width c =
    let begun : passed c.in-Some.window.reader c.in-Some.window.used ≡ c.args.self.now = c.in-Some.ensures.place ∙ c.look_ahead.ensures in
    let at_begin : IsInRow c.args.width c.args.self.now (passed c.in-Some.window.reader c.in-Some.window.used) [] White c.args.width =
    subst (λ (m : Reading). IsInRow c.args.width c.args.self.now m [] White c.args.width) (sym begun) (row_begun c.args.width
    c.args.self.now c.requires (omega (arith, c.place-place.ensures.within))) in
    let one = in_row_more c.args.width c.args.self.now (passed c.in-Some.window.reader c.in-Some.window.used) (passed
    c.run.new.self.reader c.run.new.self.used) [] White c.args.width c.in-Some-run.first (omega (arith, c.requires.0)) at_begin
    (c.in-Some-run.ensures.some RunTooLong) in
    let two = in_row_more c.args.width c.args.self.now (passed c.run.new.self.reader c.run.new.self.used) (passed
    c.run-2.new.self.reader c.run-2.new.self.used) (c.in-Some-run.first ∷ []) Black (c.args.width - c.in-Some-run.first)
    c.in-Some-run-2.second (omega (arith, c.if-second-width.true, c.in-Some-run-2.ensures.most, c.requires.0)) one.0
    (c.in-Some-run-2.ensures.some RunTooLong) in (
      c.in-Some-run.first ∷ c.in-Some-run-2.second ∷ [],
      rw c.into_reader-then-second-width.ensures (row_ended c.args.width c.args.self.now (passed c.run-2.new.self.reader
          c.run-2.new.self.used) (c.in-Some-run.first ∷ c.in-Some-run-2.second ∷ []) White (c.args.width - c.in-Some-run.first
          - c.in-Some-run-2.second) (omega (arith, c.if-second-width.true)) two.0),
      c.in_ok-row-2.ensures,
    )

pub paint_rest-all-requires-clause-left : goal.paint_rest-all-requires-clause-left
paint_rest-all-requires-clause-left c =
    omega (
      arith,
      c.push_run-2.ensures.place,
      c.push_run.ensures.place,
      c.push_run-2.ensures.width,
      c.push_run.ensures.width,
      c.in_ok-painter.ensures.width,
      c.in_ok-painter.ensures.paints.total,
      c.in-Some-run.ensures.most,
      c.in-Some-run-2.ensures.most,
    )

pub paint_rest-all-requires-clause-row : goal.paint_rest-all-requires-clause-row
paint_rest-all-requires-clause-row c =
    let begun : passed c.in-Some.window.reader c.in-Some.window.used ≡ c.args.self.now = c.in-Some.ensures.place ∙ c.look_ahead.ensures in
    let at_begin : IsInRow c.args.width c.args.self.now (passed c.in-Some.window.reader c.in-Some.window.used) [] White c.args.width =
    subst (λ (m : Reading). IsInRow c.args.width c.args.self.now m [] White c.args.width) (sym begun) (row_begun c.args.width
    c.args.self.now c.requires (omega (arith, c.place-place.ensures.within))) in
    let one = painted_more c.args.width c.args.self.now (passed c.in-Some.window.reader c.in-Some.window.used) (passed
    c.run.new.self.reader c.run.new.self.used) c.in_ok-painter.painter c.push_run.new.self White c.args.width c.in-Some-run.first
    (omega (arith, c.requires.0)) ([], c.in_ok-painter.ensures.paints, at_begin) c.push_run.ensures.paints
    (c.in-Some-run.ensures.some RunTooLong) in
    let two = painted_more c.args.width c.args.self.now (passed c.run.new.self.reader c.run.new.self.used) (passed
    c.run-2.new.self.reader c.run-2.new.self.used) c.push_run.new.self c.push_run-2.new.self Black (c.args.width - c.in-Some-run.first)
    c.in-Some-run-2.second (omega (arith, c.if-first-width.false, c.in-Some-run.ensures.most)) one.0 c.push_run-2.ensures.paints
    (c.in-Some-run-2.ensures.some RunTooLong) in
    let wide : c.push_run-2.new.self.width ≡ c.args.width =
    c.push_run-2.ensures.width ∙ (c.push_run.ensures.width ∙ c.in_ok-painter.ensures.width) in
    subst (λ (n : ℕ). PaintsRuns n c.args.self.now (passed c.run-2.new.self.reader c.run-2.new.self.used) c.push_run-2.new.self White
    (c.args.width - c.in-Some-run.first - c.in-Some-run-2.second)) (sym wide) two.0

pub returns : goal.returns
returns c =
    let wide : c.push_run-2.new.self.width ≡ c.args.width =
    c.push_run-2.ensures.width ∙ (c.push_run.ensures.width ∙ c.in_ok-painter.ensures.width) in
    rw c.into_reader-2.ensures (painted_row c.args.width c.args.self.now _ c.paint_rest-all.new.painter c.of_painter.result
    (rw wide at c.if-not-all.ensures.row) c.of_painter.ensures)
