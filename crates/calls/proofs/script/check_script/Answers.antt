-- What the check asks of `check_script`.
use Rattle.std.proofs.Common.{refl}
use Rattle.std.proofs.lemmas.Result.{err_from_is_err_and}
use Rattle.calls.proofs.FollowedScripts.{all_checked, bad_is_none, next_checked, none_checked, script_bad_last, script_bad_next}
use Rattle.calls.proofs.script.check_script.Goals as goal

pub loop-line-init : goal.loop-line-init
loop-line-init c = none_checked c.args.text.now

pub loop-line-preserved : goal.loop-line-preserved
loop-line-preserved c =
    next_checked _ _ c.in-Some.line.now c.in-Some.after.now _ _ _ c.loop-line.invariant c.in-Some.ensures.0 c.in-Some.ensures.1
    c.in_ok-_said.ensures refl

pub returns-in_err-_said-clause-says : goal.returns-in_err-_said-clause-says
returns-in_err-_said-clause-says c =
    let p = err_from_is_err_and c.from_residual.result c.from_residual.ensures.1 in
    rw (p.1, p.2)
    (script_bad_next _ _ c.in-Some.line.now c.in-Some.after.now _ _ _ c.loop-line.invariant.1 c.in-Some.ensures.0 c.in-Some.ensures.1
    c.in_err-_said.ensures)

pub returns-in_err-_said-clause-only : goal.returns-in_err-_said-clause-only
returns-in_err-_said-clause-only c = λ script is.
    bad_is_none c.args.text.now _ script
    (script_bad_next _ _ c.in-Some.line.now c.in-Some.after.now _ _ _ c.loop-line.invariant.1 c.in-Some.ensures.0 c.in-Some.ensures.1
    c.in_err-_said.ensures) is

pub returns-in_err-_said-2-clause-says : goal.returns-in_err-_said-2-clause-says
returns-in_err-_said-2-clause-says c =
    let p = err_from_is_err_and c.from_residual-in_err-_said-2.result c.from_residual-in_err-_said-2.ensures.1 in
    rw (p.1, p.2)
    (script_bad_last _ _ _ _ _ c.loop-line.invariant.1 c.in_default.ensures c.in_err-_said-2.ensures)

pub returns-in_err-_said-2-clause-only : goal.returns-in_err-_said-2-clause-only
returns-in_err-_said-2-clause-only c = λ script is.
    bad_is_none c.args.text.now _ script
    (script_bad_last _ _ _ _ _ c.loop-line.invariant.1 c.in_default.ensures c.in_err-_said-2.ensures) is

pub returns-clause-says : goal.returns-clause-says
returns-clause-says c = all_checked _ _ _ _ c.loop-line.invariant c.in_default.ensures c.in_ok-_said-2.ensures
