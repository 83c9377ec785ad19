use Rattle.std.proofs.Common.{ℕ, ◌≡◌, ◌+◌, ap, subst, ◌∙◌}
use Rattle.raster.specs.Packed.{bits_of}
use Rattle.raster.specs.Pages.{PagePixels}
use Rattle.run_tables.specs.Reading.{Reading}
use Rattle.run_tables.specs.RowReading.{IsQuickRowOnto, ReadsRowOnto}
use Rattle.page_code.specs.OneDimension.Reading.{ReadsRowOfPage}
use Rattle.page_code.specs.declared.page.Progress.{Progress}
use Rattle.page_code.proofs.one_dim.read_row.Goals as goal

pub returns-in-Some-clause-row : goal.returns-in-Some-clause-row
returns-in-Some-clause-row c =
    let quick : ReadsRowOnto c.args.to.now.page c.quick_row_onto.new.page c.reader-quick.result c.in-Some.after =
    subst (IsQuickRowOnto c.args.to.now.page c.quick_row_onto.new.page c.reader-quick.result) c.in-Some.is c.in_ok-after.ensures.row in
    let read = subst (λ (old : Reading). ReadsRowOnto c.args.to.now.page c.quick_row_onto.new.page old c.in-Some.after)
    c.reader-quick.ensures quick in
    let end : c.place-to.result ≡ c.args.at.place + read.1.used = c.place-to.ensures.place ∙ ap (λ (r : Reading). r.place) read.1.after in
    let at : ℕ → Progress = λ place. record { page = c.quick_row_onto.new.page; place = place } in
    let onto : PagePixels → Progress = λ page. record { page = page; place = c.args.at.place + read.1.used } in
    (read.0, read.1.used, read.1.reads, ap at end ∙ ap onto read.2)

pub returns-clause-row : goal.returns-clause-row
returns-clause-row c =
    let same : c.quick_row_onto.new.page ≡ c.args.to.now.page =
    subst (IsQuickRowOnto c.args.to.now.page c.quick_row_onto.new.page c.reader-quick.result) c.in_default.is c.in_ok-after.ensures.row in
    let read = subst (λ (r : Reading). ReadsRowOfPage r.bits r.place (record { page = c.quick_row_onto.new.page; place = c.args.to.now.place })
    c.read_row_by_runs.new.to c.read_row_by_runs.result) c.reader.ensures c.read_row_by_runs.ensures in
    subst (λ (page : PagePixels). ReadsRowOfPage (bits_of c.args.at.order c.args.at.octets.now) c.args.at.place
    (record { page = page; place = c.args.to.now.place }) c.read_row_by_runs.new.to c.read_row_by_runs.result) same read
