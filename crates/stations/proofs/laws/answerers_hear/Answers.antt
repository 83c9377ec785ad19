use Rattle.stations.proofs.Hearing.{answerers_hear, replies_leave_ears}
use Rattle.stations.proofs.laws.answerers_hear.Goals as goal

pub returns-clause-hear : goal.returns-clause-hear
returns-clause-hear c = answerers_hear

pub returns-clause-after : goal.returns-clause-after
returns-clause-after c = replies_leave_ears
