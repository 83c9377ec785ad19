-- What the check asks of `next_step`.
use Rattle.calls.proofs.DrivenSteps.{drew, kept_word}
use Rattle.calls.proofs.bad_line.next_step.Goals as goal

pub returns-then-is_fate_due-clause-draws : goal.returns-then-is_fate_due-clause-draws
returns-then-is_fate_due-clause-draws c g stands =
    drew c.args.line.now g c.args.call.now c.step.new.self c.args.generator.now c.draw-fate.new.generator c.is_fate_due.result
    c.draw-fate.result c.step.result stands c.is_fate_due.ensures c.if-is_fate_due.true c.draw-fate.ensures.fate c.draw-fate.ensures.next
    c.step.ensures.steps

pub returns-clause-draws : goal.returns-clause-draws
returns-clause-draws c g stands =
    kept_word c.args.line.now g c.args.call.now c.step-2.new.self c.args.generator.now c.is_fate_due.result c.step-2.result stands
    c.is_fate_due.ensures c.if-is_fate_due.false c.step-2.ensures.steps
