use Rattle.terminals.proofs.Timeouts.{limits_hold, timeouts_are_due}
use Rattle.terminals.proofs.laws.timeouts_are_due.Goals as goal

pub returns-clause-due : goal.returns-clause-due
returns-clause-due c = timeouts_are_due

pub returns-clause-limits : goal.returns-clause-limits
returns-clause-limits c = limits_hold
