-- What the check asks of `drive_times`.
use Rattle.std.proofs.Common.{◌≡◌, Err, rules}
use Rattle.commands.proofs.Given.{undriven}
use Rattle.commands.proofs.call.drives.DriveCommand.drive_times.Goals as goal

pub returns-in_err-driven-clause-refused : goal.returns-in_err-driven-clause-refused
returns-in_err-driven-clause-refused c =
    let is : c.from_residual-in_err-driven.result ≡ Err c.in_err-driven.field-0.0 = search rules in
    rw is (undriven c.args.self.now _ _ c.in_ok-document.ensures.found
    (rw c.in_err-driven.was at c.drive_document_often-driven.ensures.refused))
