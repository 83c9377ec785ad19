-- What the check asks of `drive_many`.
use Rattle.std.proofs.lemmas.Result.{err_from_is_err_and}
use Rattle.call_tallies.proofs.ManyCalls.{images_refused}
use Rattle.call_tallies.proofs.many_calls.drive_many.Goals as goal

pub returns-in_err-drive_document_often-clause-refused : goal.returns-in_err-drive_document_often-clause-refused
returns-in_err-drive_document_often-clause-refused g c =
    let p = err_from_is_err_and c.from_residual-in_err-drive_document_often.result c.from_residual-in_err-drive_document_often.ensures.1 in
    rw (p.1, p.2)
    (images_refused c.args.options.now.fine c.args.images.now c.in_ok-document.document c.in_err-drive_document_often.field-0.0
    c.in_ok-document.ensures.found c.in_err-drive_document_often.ensures.refused)
