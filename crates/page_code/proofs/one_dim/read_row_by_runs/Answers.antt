use Rattle.std.proofs.Common.{ℕ, ◌≡◌, ◌+◌, ap, refl, subst, ◌∙◌}
use Rattle.std.proofs.lemmas.Result.{err_from_is_err_and}
use Rattle.raster.specs.Pages.{PagePixels}
use Rattle.run_tables.specs.Reading.{Reading}
use Rattle.run_tables.specs.RowReading.{ReadsRow}
use Rattle.page_code.specs.declared.page.Progress.{Progress}
use Rattle.page_code.proofs.GivesPage.{memory_or}
use Rattle.page_code.proofs.OneDimension.RowsOn.{row_refusal}
use Rattle.page_code.proofs.one_dim.read_row_by_runs.Goals as goal

pub returns-in_err-row : goal.returns-in_err-row
returns-in_err-row c =
    let p = err_from_is_err_and c.from_residual.result c.from_residual.ensures.1 in
    rw (p.1, p.2) (memory_or c.in_err-row.field-0.0.kind _ (λ other.
    let refused = row_refusal c.args.reader.bits c.args.reader.place c.args.to.now.page.width c.args.reader
    c.in_err-row.field-0.0 refl (rw c.width.ensures at (c.in_err-row.ensures.refuses other)) in
    (refl, refused.0, refused.1, refused.2)))

pub returns-in-Ok : goal.returns-in-Ok
returns-in-Ok c =
    let read = subst (λ width. ReadsRow width c.args.reader c.read_row_1d_in.new.self c.in_ok-row.row) c.width.ensures
    c.in_ok-row.ensures.reads in
    let end : c.place-to.result ≡ c.args.reader.place + read.used = c.place-to.ensures.place ∙ ap (λ (r : Reading). r.place) read.after in
    let at : ℕ → Progress = λ place. record { page = c.push_row.new.self; place = place } in
    let onto : PagePixels → Progress = λ page. record { page = page; place = c.args.reader.place + read.used } in
    (c.in_ok-row.row, read.used, read.reads, ap at end ∙ ap onto c.in-Ok.ensures.2)
