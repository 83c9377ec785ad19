use Rattle.std.proofs.Common.{ap, ◌∙◌}
use Rattle.std.proofs.lemmas.Result.{err_from_is_err_and}
use Rattle.raster.specs.declared.row.Color.TheVariants.{White}
use Rattle.raster.specs.Runs.{colored}
use Rattle.run_tables.proofs.RowReads.{runs_read, runs_refused}
use Rattle.run_tables.proofs.reader.BitReader.row_by_runs.Goals as goal

pub returns-in_err-row_runs : goal.returns-in_err-row_runs
returns-in_err-row_runs c =
    let p = err_from_is_err_and c.from_residual.result c.from_residual.ensures.1 in
    rw (p.1, p.2) (runs_refused c.args.width c.args.self.now c.row_runs.new.self c.row_runs.new.runs.items
    c.in_err-row_runs.field-0.0 c.requires c.in_err-row_runs.ensures)

pub returns : goal.returns
returns c =
    runs_read c.args.width c.args.self.now c.row_runs.new.self c.row_runs.new.runs.items c.in_ok-from_valid_runs.field-0 c.requires
    c.in_ok-row_runs.ensures (c.in_ok-from_valid_runs.ensures ∙ ap (colored White) c.deref.ensures.value)
