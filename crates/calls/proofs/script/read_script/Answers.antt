-- What the check asks of `read_script`.
use Rattle.std.proofs.Common.{refl}
use Rattle.std.proofs.lemmas.Result.{err_from_is_err_and}
use Rattle.calls.proofs.OneScript.{one_script, refused_for_memory}
use Rattle.calls.proofs.ScriptLines.{all_read, last_refused, line_refused, next_read}
use Rattle.calls.proofs.script.read_script.Goals as goal

pub loop-line-preserved : goal.loop-line-preserved
loop-line-preserved c =
    next_read _ _ c.in-Some.line.now c.in-Some.after.now _ _ _ _ c.loop-line.invariant c.in-Some.ensures.0 c.in-Some.ensures.1
    c.in_ok-add_line.ensures refl

pub returns-in_err-add_line-clause-only : goal.returns-in_err-add_line-clause-only
returns-in_err-add_line-clause-only c =
    let p = err_from_is_err_and c.from_residual.result c.from_residual.ensures.1 in
    rw (p.1, p.2)
    (refused_for_memory c.args.text.now c.in_err-add_line.field-0.0
    (line_refused _ _ c.in-Some.line.now c.in-Some.after.now _ _ _ c.loop-line.invariant c.in-Some.ensures.0 c.in-Some.ensures.1
    c.in_err-add_line.ensures))

pub returns-in_err-add_line-2-clause-says : goal.returns-in_err-add_line-2-clause-says
returns-in_err-add_line-2-clause-says c =
    let p = err_from_is_err_and c.from_residual-in_err-add_line-2.result c.from_residual-in_err-add_line-2.ensures.1 in
    rw (p.1, p.2)
    (last_refused _ _ _ _ c.in_err-add_line-2.field-0.0 c.loop-line.invariant c.in_default.ensures c.in_err-add_line-2.ensures)

pub returns-in_err-add_line-2-clause-only : goal.returns-in_err-add_line-2-clause-only
returns-in_err-add_line-2-clause-only c =
    let p = err_from_is_err_and c.from_residual-in_err-add_line-2.result c.from_residual-in_err-add_line-2.ensures.1 in
    rw (p.1, p.2)
    (refused_for_memory c.args.text.now c.in_err-add_line-2.field-0.0
    (last_refused _ _ _ _ c.in_err-add_line-2.field-0.0 c.loop-line.invariant c.in_default.ensures c.in_err-add_line-2.ensures))

pub returns-clause-says : goal.returns-clause-says
returns-clause-says c = all_read _ _ _ _ _ c.loop-line.invariant c.in_default.ensures c.in_ok-add_line-2.ensures

pub returns-clause-only : goal.returns-clause-only
returns-clause-only c = λ script is. one_script _ _ script
    (all_read _ _ _ _ _ c.loop-line.invariant c.in_default.ensures c.in_ok-add_line-2.ensures) is
