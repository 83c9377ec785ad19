-- What the check asks of `line_fault_at`.
use Rattle.std.proofs.Common.{refl, subst}
use Rattle.calls.specs.Scripts.{IsLineAt}
use Rattle.calls.proofs.ScriptLines.{last_there, one_before}
use Rattle.calls.proofs.line_fault.line_fault_at.Goals as goal

pub loop-line-preserved : goal.loop-line-preserved
loop-line-preserved c =
    one_before _ _ c.in-Some.line.now c.in-Some.after.now _ _ c.loop-line.invariant c.in-Some.ensures.0 c.in-Some.ensures.1 refl

pub returns-then-at-number-2 : goal.returns-then-at-number-2
returns-then-at-number-2 c = (
  c.loop-line.rest.now,
  subst (λ number. IsLineAt c.args.text.now number c.loop-line.rest.now) c.if-at-number-2.true
      (last_there _ _ _ c.loop-line.invariant c.in_default.ensures),
  c.line_fault-then-at-number-2.ensures,
)
