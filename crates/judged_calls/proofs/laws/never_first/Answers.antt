use Rattle.judged_calls.proofs.AnyCaller.{are_not_first, said_fairly}
use Rattle.judged_calls.proofs.laws.never_first.Goals as goal

pub returns-clause-law : goal.returns-clause-law
returns-clause-law c = are_not_first

pub returns-clause-callers : goal.returns-clause-callers
returns-clause-callers c = said_fairly
