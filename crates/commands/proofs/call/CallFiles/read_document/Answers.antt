-- What the check asks of `read_document`.
use Rattle.std.proofs.Common.{subst}
use Rattle.std.proofs.lemmas.Result.{err_from_is_err_and}
use Rattle.command_files.specs.Told.{IsFirstNotCallable}
use Rattle.commands.proofs.Given.{no_images, not_carried}
use Rattle.commands.proofs.call.CallFiles.read_document.Goals as goal

pub returns-in_err-document-clause-refused : goal.returns-in_err-document-clause-refused
returns-in_err-document-clause-refused c =
    let p = err_from_is_err_and c.from_residual.result c.from_residual.ensures.1 in
    rw (p.1, p.2) (no_images c.args.fine _ c.in_err-document.ensures.fault)

pub returns-in-Some-clause-refused : goal.returns-in-Some-clause-refused
returns-in-Some-clause-refused c =
    not_carried c.args.fine c.in_ok-document.document c.in-Some.cause c.in_ok-document.ensures.found
    (subst (λ pages. IsFirstNotCallable pages 0 c.in-Some.cause) c.pages.ensures.pages c.in-Some.ensures)
