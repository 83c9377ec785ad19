use Rattle.std.proofs.Common.{◌≡◌, ◌∷◌, [], ◌-◌, ◌∙◌, ap, sym, arith, subst, ℕ}
use Rattle.std.specs.Prelude.{Ok}
use Rattle.raster.specs.declared.row.Color.TheVariants.{White, Black}
use Rattle.raster.specs.Changes.{turning}
use Rattle.raster.specs.Pixels.{IsWidth}
use Rattle.raster.specs.Runs.{colored}
use Rattle.run_tables.specs.declared.fault.CodeFaultKind.TheVariants.{RunTooLong}
use Rattle.run_tables.specs.Reading.{Reading}
use Rattle.run_tables.specs.RowReading.{IsInRow, PaintsRuns, RowRuns}
use Rattle.run_tables.specs.Windows.{passed}
use Rattle.run_tables.proofs.PaintedRows.{black_run, painted_more, painted_onto, row_begun, runs_onto, white_run}
use Rattle.run_tables.proofs.RowSteps.{in_row_more, row_ended}
use Rattle.run_tables.proofs.reader.BitReader.quick_row_onto.Goals as goal

pub returns-then-first-width-clause-row : goal.returns-then-first-width-clause-row
returns-then-first-width-clause-row c =
    let begun : passed c.in-Some.window.reader c.in-Some.window.used ≡ c.args.self = c.in-Some.ensures.place ∙ c.look_ahead.ensures in
    let wide : IsWidth c.width-width.result = subst IsWidth (sym c.width-width.ensures) c.requires.width in
    let at_begin : IsInRow c.width-width.result c.args.self (passed c.in-Some.window.reader c.in-Some.window.used) [] White c.width-width.result =
    subst (λ (m : Reading). IsInRow c.width-width.result c.args.self m [] White c.width-width.result) (sym begun) (row_begun c.width-width.result
    c.args.self wide (omega (arith, c.place-place.ensures.within))) in
    let more = in_row_more c.width-width.result c.args.self (passed c.in-Some.window.reader c.in-Some.window.used) (passed
    c.run.new.self.reader c.run.new.self.used) [] White c.width-width.result c.in-Some-run.first (omega (arith, wide.0)) at_begin
    (c.in-Some-run.ensures.some RunTooLong) in
    let read = row_ended c.width-width.result c.args.self (passed c.run.new.self.reader c.run.new.self.used)
    (c.in-Some-run.first ∷ []) Black (c.width-width.result - c.in-Some-run.first) (omega (arith, c.if-first-width.true)) more.0 in
    let first : c.args.page.now.width ≡ c.in-Some-run.first = sym (c.if-first-width.true ∙ c.width-width.ensures) in
    rw c.into_reader.ensures (runs_onto c.args.page.now c.push_changes.new.self c.args.self _ (c.in-Some-run.first ∷ [])
    (turning White 0 [] c.args.page.now.width) c.requires.width
    (subst (λ (n : ℕ). RowRuns n c.args.self (passed c.run.new.self.reader c.run.new.self.used) (c.in-Some-run.first ∷ []) (Ok tt))
    c.width-width.ensures read)
    (white_run c.args.page.now.width ∙ ap (λ (n : ℕ). colored White (n ∷ [])) first) c.in_ok-push_changes.ensures.ok)

pub returns-then-second-width-clause-row : goal.returns-then-second-width-clause-row
returns-then-second-width-clause-row c =
    let begun : passed c.in-Some.window.reader c.in-Some.window.used ≡ c.args.self = c.in-Some.ensures.place ∙ c.look_ahead.ensures in
    let wide : IsWidth c.width-width.result = subst IsWidth (sym c.width-width.ensures) c.requires.width in
    let at_begin : IsInRow c.width-width.result c.args.self (passed c.in-Some.window.reader c.in-Some.window.used) [] White c.width-width.result =
    subst (λ (m : Reading). IsInRow c.width-width.result c.args.self m [] White c.width-width.result) (sym begun) (row_begun c.width-width.result
    c.args.self wide (omega (arith, c.place-place.ensures.within))) in
    let one = in_row_more c.width-width.result c.args.self (passed c.in-Some.window.reader c.in-Some.window.used) (passed
    c.run.new.self.reader c.run.new.self.used) [] White c.width-width.result c.in-Some-run.first (omega (arith, wide.0)) at_begin
    (c.in-Some-run.ensures.some RunTooLong) in
    let two = in_row_more c.width-width.result c.args.self (passed c.run.new.self.reader c.run.new.self.used) (passed
    c.run-2.new.self.reader c.run-2.new.self.used) (c.in-Some-run.first ∷ []) Black (c.width-width.result - c.in-Some-run.first)
    c.in-Some-run-2.second (omega (arith, c.if-second-width.true, c.in-Some-run-2.ensures.most, wide.0)) one.0
    (c.in-Some-run-2.ensures.some RunTooLong) in
    let read = row_ended c.width-width.result c.args.self (passed c.run-2.new.self.reader
    c.run-2.new.self.used) (c.in-Some-run.first ∷ c.in-Some-run-2.second ∷ []) White (c.width-width.result - c.in-Some-run.first
    - c.in-Some-run-2.second) (omega (arith, c.if-second-width.true)) two.0 in
    let none : 0 ≡ c.in-Some-run.first = omega (arith, c.if-second-width.true, c.in-Some-run-2.ensures.most, c.in-Some-run.ensures.most, wide.0) in
    let second : c.args.page.now.width ≡ c.in-Some-run-2.second = sym (c.if-second-width.true ∙ c.width-width.ensures) in
    rw c.into_reader-then-second-width.ensures (runs_onto c.args.page.now c.push_changes-then-second-width.new.self c.args.self _
    (c.in-Some-run.first ∷ c.in-Some-run-2.second ∷ []) (turning White 0 (0 ∷ []) c.args.page.now.width) c.requires.width
    (subst (λ (n : ℕ). RowRuns n c.args.self (passed c.run-2.new.self.reader c.run-2.new.self.used) (c.in-Some-run.first ∷
    c.in-Some-run-2.second ∷ []) (Ok tt)) c.width-width.ensures read)
    (black_run c.args.page.now.width ∙ (ap (λ (n : ℕ). colored White (n ∷ c.args.page.now.width ∷ [])) none ∙
    ap (λ (n : ℕ). colored White (c.in-Some-run.first ∷ n ∷ [])) second)) c.in_ok-push_changes-2.ensures.ok)

pub paint_rest-all-requires-clause-left : goal.paint_rest-all-requires-clause-left
paint_rest-all-requires-clause-left c =
    omega (
      arith,
      c.push_run-2.ensures.place,
      c.push_run.ensures.place,
      c.restart.ensures.place,
      c.push_run-2.ensures.width,
      c.push_run.ensures.width,
      c.restart.ensures.width,
      c.requires.wide,
      c.width-width.ensures,
      c.in-Some-run.ensures.most,
      c.in-Some-run-2.ensures.most,
    )

pub paint_rest-all-requires-clause-row : goal.paint_rest-all-requires-clause-row
paint_rest-all-requires-clause-row c =
    let begun : passed c.in-Some.window.reader c.in-Some.window.used ≡ c.args.self = c.in-Some.ensures.place ∙ c.look_ahead.ensures in
    let wide : IsWidth c.width-width.result = subst IsWidth (sym c.width-width.ensures) c.requires.width in
    let at_begin : IsInRow c.width-width.result c.args.self (passed c.in-Some.window.reader c.in-Some.window.used) [] White c.width-width.result =
    subst (λ (m : Reading). IsInRow c.width-width.result c.args.self m [] White c.width-width.result) (sym begun) (row_begun c.width-width.result
    c.args.self wide (omega (arith, c.place-place.ensures.within))) in
    let one = painted_more c.width-width.result c.args.self (passed c.in-Some.window.reader c.in-Some.window.used) (passed
    c.run.new.self.reader c.run.new.self.used) c.restart.new.self c.push_run.new.self White c.width-width.result c.in-Some-run.first
    (omega (arith, wide.0)) ([], c.restart.ensures.paints, at_begin) c.push_run.ensures.paints
    (c.in-Some-run.ensures.some RunTooLong) in
    let two = painted_more c.width-width.result c.args.self (passed c.run.new.self.reader c.run.new.self.used) (passed
    c.run-2.new.self.reader c.run-2.new.self.used) c.push_run.new.self c.push_run-2.new.self Black (c.width-width.result - c.in-Some-run.first)
    c.in-Some-run-2.second (omega (arith, c.if-first-width.false, c.in-Some-run.ensures.most)) one.0 c.push_run-2.ensures.paints
    (c.in-Some-run-2.ensures.some RunTooLong) in
    let same : c.push_run-2.new.self.width ≡ c.width-width.result =
    c.push_run-2.ensures.width ∙ (c.push_run.ensures.width ∙ (c.restart.ensures.width ∙ (c.requires.wide ∙ sym c.width-width.ensures))) in
    subst (λ (n : ℕ). PaintsRuns n c.args.self (passed c.run-2.new.self.reader c.run-2.new.self.used) c.push_run-2.new.self White
    (c.width-width.result - c.in-Some-run.first - c.in-Some-run-2.second)) (sym same) two.0

pub returns-clause-row : goal.returns-clause-row
returns-clause-row c =
    let same : c.push_run-2.new.self.width ≡ c.args.page.now.width =
    c.push_run-2.ensures.width ∙ (c.push_run.ensures.width ∙ (c.restart.ensures.width ∙ c.requires.wide)) in
    rw c.into_reader-2.ensures (painted_onto c.args.page.now c.push_painted.new.self c.args.self _ c.paint_rest-all.new.painter
    c.requires.width (rw same at c.if-not-all.ensures.row) c.in_ok-push_painted.ensures.ok)
