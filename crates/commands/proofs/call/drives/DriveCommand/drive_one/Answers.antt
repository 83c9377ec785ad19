-- What the check asks of `drive_one`.
use Rattle.std.proofs.Common.{◌≡◌, Err, rules}
use Rattle.commands.proofs.Given.{driven, undriven}
use Rattle.commands.proofs.call.drives.DriveCommand.drive_one.Goals as goal

pub returns-in_err-ending-clause-refused : goal.returns-in_err-ending-clause-refused
returns-in_err-ending-clause-refused c =
    let is : c.from_residual-in_err-ending.result ≡ Err c.in_err-ending.field-0.0 = search rules in
    rw is (undriven c.args.self.now _ _ c.in_ok-document.ensures.found
    (rw c.in_err-ending.was at c.drive_document-driven.ensures.refused))

pub returns-clause-called : goal.returns-clause-called
returns-clause-called c =
    driven c.args.self.now _ _ _ _ c.in_ok-document.ensures.found (rw c.in_ok-ending.was at c.drive_document-driven.ensures.told)
