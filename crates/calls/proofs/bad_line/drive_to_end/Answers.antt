-- What the check asks of `drive_to_end`.
use Rattle.std.proofs.lemmas.Result.{err_from_is_err_and}
use Rattle.calls.proofs.DrivenCalls.{leaves_driven, refused_driven}
use Rattle.calls.proofs.bad_line.drive_to_end.Goals as goal

pub returns-in_err-ending-clause-refused : goal.returns-in_err-ending-clause-refused
returns-in_err-ending-clause-refused g c =
    let p = err_from_is_err_and c.from_residual-in_err-ending.result c.from_residual-in_err-ending.ensures.1 in
    rw (p.1, p.2)
    (refused_driven c.args.options.now.fine (g.R.Read.remaining c.args.input.now) c.in_ok-document.document c.in_err-ending.field-0.0
    c.in_ok-document.ensures.found c.in_err-ending.ensures.refused)

pub returns-clause-called : goal.returns-clause-called
returns-clause-called g c =
    leaves_driven c.args.options.now c.args.line.now c.args.number (g.R.Read.remaining c.args.input.now)
    (g.T.CallWriter.written c.args.writer.now) (g.T.CallWriter.written c.drive_document.new.writer) c.in_ok-document.document
    c.in_ok-ending.ending c.in_ok-document.ensures.found c.in_ok-ending.ensures.told
