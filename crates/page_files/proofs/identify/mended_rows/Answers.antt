-- What the check asks of `mended_rows`.
use Rattle.std.proofs.Common.{◌<◌, length, rules}
use Rattle.std.specs.Prelude.{◌≢◌}
use Rattle.raster.specs.Packed.{bits_of}
use Rattle.run_tables.specs.declared.fault.CodeFaultKind.TheVariants.{NoMemory}
use Rattle.page_files.proofs.Mended.{copied, no_page, refused}
use Rattle.page_files.proofs.identify.mended_rows.Goals as goal

pub returns-then-not-branch-clause-rows : goal.returns-then-not-branch-clause-rows
returns-then-not-branch-clause-rows c page is =
    no_page c.args.form.width (bits_of c.args.form.order c.args.octets.now) page (search rules) is

pub returns-in-Ok-clause-rows : goal.returns-in-Ok-clause-rows
returns-in-Ok-clause-rows c page is =
    let some : 0 < length c.in-Ok.field-0.repaired.items = search rules in
    copied c.args.form.width (bits_of c.args.form.order c.args.octets.now) c.in-Ok.field-0.page.rows page c.in-Ok.field-0.repaired.items c.requires
    c.in-Ok.ensures.rows some is

pub returns-clause-rows : goal.returns-clause-rows
returns-clause-rows c page is =
    let fault = c.in-Err-2._fault in
    let other : fault.kind ≢ NoMemory = search rules in
    refused c.args.form.width (bits_of c.args.form.order c.args.octets.now) fault page c.requires (c.in-Err-2.ensures.refuses other) is
