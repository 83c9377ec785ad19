use Rattle.terminals.proofs.TimedLaws.{timed_are_due, timed_limits_hold}
use Rattle.terminals.proofs.laws.timed_are_due.Goals as goal

pub returns-clause-due : goal.returns-clause-due
returns-clause-due c = timed_are_due

pub returns-clause-limits : goal.returns-clause-limits
returns-clause-limits c = timed_limits_hold
