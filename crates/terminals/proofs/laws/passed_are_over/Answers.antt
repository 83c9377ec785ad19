use Rattle.terminals.proofs.ClockLaws.{over_have_passed, passed_are_over, t1_runs_from_heard, t5_runs_from_first}
use Rattle.terminals.proofs.laws.passed_are_over.Goals as goal

pub returns-clause-over : goal.returns-clause-over
returns-clause-over c = passed_are_over

pub returns-clause-only : goal.returns-clause-only
returns-clause-only c = over_have_passed

pub returns-clause-t5 : goal.returns-clause-t5
returns-clause-t5 c = t5_runs_from_first

pub returns-clause-t1 : goal.returns-clause-t1
returns-clause-t1 c = t1_runs_from_heard
