-- What the check asks of `first_line`.
use Rattle.std.proofs.Common.{◌∙◌, arith}
use Rattle.commands.proofs.FirstLines.{line_before, no_line, whole_line}
use Rattle.commands.proofs.identify.several.first_line.Goals as goal

pub returns-in_default : goal.returns-in_default
returns-in_default c = no_line c.args.text.now c.in_default.ensures.cases.0

pub returns-in-Some : goal.returns-in-Some
returns-in-Some c =
    let all = c.in-Ok.ensures.cases in
    line_before c.args.text.now c.in-Some.first.now all.1
    (rw all.0 at (c.in-Some.ensures.byte (omega arith) (λ text place found. found)).0)

pub returns-in-None : goal.returns-in-None
returns-in-None c =
    let all = c.in-Ok.ensures.cases in
    all.0 ∙ whole_line c.args.text.now all.1 (rw all.0 at (c.in-None.ensures.byte (omega arith) (λ text place found. found)))
