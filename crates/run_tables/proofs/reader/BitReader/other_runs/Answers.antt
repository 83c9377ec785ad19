use Rattle.std.proofs.Common.{◌≡◌, ◌++◌, ◌∷◌, [], arith, ◌∙◌, inr}
use Rattle.std.specs.Prelude.{Err, Ok}
use Rattle.std.proofs.lemmas.Result.{err_from_is_err_and}
use Rattle.std.proofs.lemmas.Grind.{common_steps}
use Rattle.raster.specs.declared.row.Color.TheVariants.{White}
use Rattle.raster.specs.Runs.{colored}
use Rattle.run_tables.proofs.RowReads.{within_row, run_refused}
use Rattle.run_tables.proofs.RowSteps.{in_row_more, row_ended}
use Rattle.run_tables.proofs.reader.BitReader.other_runs.Goals as goal

pub returns-in_err-run : goal.returns-in_err-run
returns-in_err-run c width start before =
    let p = err_from_is_err_and c.from_residual.result c.from_residual.ensures.1 in
    let row = c.loop-room.invariant width start before in
    let within = within_row c.loop-room.color c.loop-room.room c.loop-room.self c.read_run_by_codes.new.self (Err
    c.in_err-run.field-0.0) c.in_err-run.ensures in
    rw (p.1, p.2) (inr (row.reads ∙ run_refused width (colored White c.loop-room.runs.items) c.loop-room.room c.loop-room.color
    c.loop-room.self c.read_run_by_codes.new.self c.in_err-run.field-0.0 row.left c.loop-room-test.true within))

pub overflow_sub-room : goal.overflow_sub-room
overflow_sub-room c =
    let within = within_row c.loop-room.color c.loop-room.room c.loop-room.self c.read_run_by_codes.new.self (Ok c.in_ok-run.run')
    c.in_ok-run.ensures in
    within.0

pub loop-room-smaller : goal.loop-room-smaller
loop-room-smaller c =
    let within = within_row c.loop-room.color c.loop-room.room c.loop-room.self c.read_run_by_codes.new.self (Ok c.in_ok-run.run')
    c.in_ok-run.ensures in
    rw within.1 (omega (arith, within.2, rw within.1 at within.3))

pub loop-room-preserved : goal.loop-room-preserved
loop-room-preserved c width start before =
    let more = in_row_more width start c.loop-room.self c.read_run_by_codes.new.self c.loop-room.runs.items
    c.loop-room.color c.loop-room.room c.in_ok-run.run' c.loop-room-test.true (c.loop-room.invariant width start before)
    c.in_ok-run.ensures in
    let pushed : c.push.new.self.items ≡ c.loop-room.runs.items ++ c.in_ok-run.run' ∷ [] = grind (arith, common_steps) in
    rw (pushed, c.other-color.ensures) more.0

pub returns : goal.returns
returns c width start before = row_ended width start c.loop-room.self c.loop-room.runs.items c.loop-room.color
    c.loop-room.room (omega arith) (c.loop-room.invariant width start before)
