-- What the check asks of `call`.
use Rattle.std.proofs.Common.{◌≡◌, Err, rules}
use Rattle.commands.proofs.Given.{no_document, refused_script, scripted, unscripted}
use Rattle.commands.proofs.call.ScriptCommand.call.Goals as goal

pub returns-in_err-check_script-clause-refused : goal.returns-in_err-check_script-clause-refused
returns-in_err-check_script-clause-refused c =
    let is : c.from_residual-in_err-check_script.result ≡ Err c.in_err-check_script.field-0.0 = search rules in
    rw is (refused_script c.args.self.now _ _ c.in_err-check_script.ensures.says)

pub returns-in_err-document-clause-refused : goal.returns-in_err-document-clause-refused
returns-in_err-document-clause-refused c =
    let is : c.from_residual-in_err-document.result ≡ Err c.in_err-document.field-0.0 = search rules in
    rw is (no_document c.args.self.now _ _ c.in_ok-check_script.ensures.says c.in_err-document.ensures.refused)

pub returns-in_err-ending-clause-refused : goal.returns-in_err-ending-clause-refused
returns-in_err-ending-clause-refused c =
    let is : c.from_residual-in_err-ending.result ≡ Err c.in_err-ending.field-0.0 = search rules in
    rw is (unscripted c.args.self.now _ _ _ _ c.in_ok-check_script.ensures.says c.in_ok-document.ensures.found
    (rw c.in_err-ending.was at c.call_of_document-called.ensures.refused))

pub returns-clause-called : goal.returns-clause-called
returns-clause-called c =
    scripted c.args.self.now _ _ _ _ _ c.in_ok-document.ensures.found (rw c.in_ok-ending.was at c.call_of_document-called.ensures.told)
