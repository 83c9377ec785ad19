-- What the check asks of `read_document`.
use Rattle.std.proofs.lemmas.Result.{err_from_is_err_and}
use Rattle.command_files.proofs.DocumentLemmas.{none_read}
use Rattle.command_files.proofs.files.input.read_document.Goals as goal

pub returns-in_err-read-clause-fault : goal.returns-in_err-read-clause-fault
returns-in_err-read-clause-fault c =
    let p = err_from_is_err_and c.from_residual-in_err-read.result c.from_residual-in_err-read.ensures.1 in
    rw (p.1, p.2) (none_read c.args.fine c.in_err-read.field-0.0 c.in_err-read.ensures.some_fault)
