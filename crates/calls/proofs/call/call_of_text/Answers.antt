-- What the check asks of `call_of_text`.
use Rattle.std.proofs.lemmas.Result.{err_from_is_err_and}
use Rattle.calls.proofs.CallEnds.{bad_call, leaves_call, not_at_line, refused_call, unless_bad}
use Rattle.calls.proofs.call.call_of_text.Goals as goal

pub returns-in_err-check_script-clause-refused : goal.returns-in_err-check_script-clause-refused
returns-in_err-check_script-clause-refused g c =
    let p = err_from_is_err_and c.from_residual.result c.from_residual.ensures.1 in
    rw (p.1, p.2)
    (bad_call c.args.options.now.fine c.args.script.now (g.R.Read.remaining c.args.input.now) c.in_err-check_script.field-0.0
    c.in_err-check_script.ensures.says)

pub returns-in_err-ending-clause-refused : goal.returns-in_err-ending-clause-refused
returns-in_err-ending-clause-refused g c =
    let p = err_from_is_err_and c.from_residual-in_err-ending.result c.from_residual-in_err-ending.ensures.1 in
    rw (p.1, p.2)
    (refused_call c.args.options.now.fine c.args.script.now (g.R.Read.remaining c.args.input.now) c.in_ok-document.document
    c.in_err-ending.field-0.0 c.in_ok-check_script.ensures.says c.in_ok-document.ensures.found c.in_err-ending.ensures.refused)

pub returns-in_err-ending-clause-early : goal.returns-in_err-ending-clause-early
returns-in_err-ending-clause-early g c =
    let p = err_from_is_err_and c.from_residual-in_err-ending.result c.from_residual-in_err-ending.ensures.1 in
    rw (p.1, p.2)
    (not_at_line c.args.script.now c.in_ok-document.document c.in_err-ending.field-0.0 c.in_ok-check_script.ensures.says
    c.in_err-ending.ensures.refused)

pub returns-in_err-ending-clause-unwritten : goal.returns-in_err-ending-clause-unwritten
returns-in_err-ending-clause-unwritten g c =
    let p = err_from_is_err_and c.from_residual-in_err-ending.result c.from_residual-in_err-ending.ensures.1 in
    rw (p.1, p.2)
    (unless_bad c.args.script.now c.in_err-ending.field-0.0 c.in_ok-check_script.ensures.says c.in_err-ending.ensures.unwritten)

pub returns-clause-called : goal.returns-clause-called
returns-clause-called g c =
    leaves_call c.args.options.now c.args.script.now (g.R.Read.remaining c.args.input.now) (g.T.CallWriter.written c.args.writer.now)
    (g.T.CallWriter.written c.call_of_document.new.writer) c.in_ok-document.document c.in_ok-ending.ending c.in_ok-document.ensures.found
    c.in_ok-ending.ensures.told
