use Rattle.std.proofs.Common.{arith, refl}
use Rattle.page_code.specs.TwoDimensions.Lines.{beside}
use Rattle.page_code.specs.declared.t6.mode.ModeCode.TheVariants.{Pass, Vertical}
use Rattle.page_code.specs.declared.t6.mode.Shift.TheVariants.{V0}
use Rattle.page_code.proofs.TwoDimensions.ModeTable.{found_seen, mode_some}
use Rattle.page_code.proofs.TwoDimensions.QuickModes.{beside_count, beside_seen, v0_seen}
use Rattle.page_code.proofs.t6.read.quick_step.Goals as goal

pub returns-then-word-eq1-clause-steps : goal.returns-then-word-eq1-clause-steps
returns-then-word-eq1-clause-steps c = record {
  code = Vertical V0;
  begun = λ x first long. v0_seen c.args.word x c.if-word-eq1.true first long;
  count_is = refl;
  leads = c.under_b1.ensures.leads;
}

pub returns-in-Pass-clause-steps : goal.returns-in-Pass-clause-steps
returns-in-Pass-clause-steps c = record {
  code = Pass;
  begun = λ x first long. found_seen x c.args.word c.mode_of-mode.result.0 Pass first c.mode_of-mode.ensures.code
      (rw c.in-Pass.is at c.in_ok-mode.was) (omega (arith, (mode_some Pass).1, long));
  count_is = let was = rw c.in-Pass.is at c.in_ok-mode.was in rw was at c.mode_of-mode.ensures.length;
  leads = c.under_b2.ensures.leads;
}

pub returns-then-word-eq1-2-clause-steps : goal.returns-then-word-eq1-2-clause-steps
returns-then-word-eq1-2-clause-steps c = record {
  code = Vertical (beside c.args.word);
  begun = beside_seen c.args.word c.if-word-eq1-2.true;
  count_is = beside_count c.args.word;
  leads = c.in_ok-next.ensures.leads;
}

pub returns-in-Ok-clause-steps : goal.returns-in-Ok-clause-steps
returns-in-Ok-clause-steps c = record {
  code = Vertical c.in-Vertical.shift;
  begun = λ x first long. found_seen x c.args.word c.mode_of-mode.result.0 (Vertical c.in-Vertical.shift) first
      c.mode_of-mode.ensures.code (rw c.in-Vertical.is at c.in_ok-mode.was)
      (omega (arith, (mode_some (Vertical c.in-Vertical.shift)).1, long));
  count_is = let was = rw c.in-Vertical.is at c.in_ok-mode.was in rw was at c.mode_of-mode.ensures.length;
  leads = c.in-Ok.ensures.leads;
}
