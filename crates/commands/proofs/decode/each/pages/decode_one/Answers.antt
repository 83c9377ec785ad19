-- What the check asks of `decode_one`.
use Rattle.commands.proofs.PageReports.{report_named}
use Rattle.commands.proofs.decode.each.pages.decode_one.Goals as goal

pub returns-in-Ok-write_page-clause-report : goal.returns-in-Ok-write_page-clause-report
returns-in-Ok-write_page-clause-report c =
    report_named c.args.of.options c.args.left.now.form c.args.left.now.octets c.in-Ok.read.1 c.in-Ok-write_page.out c.in-Ok.ensures
