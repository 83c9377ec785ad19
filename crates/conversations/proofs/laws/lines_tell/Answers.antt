use Rattle.conversations.proofs.LineEffects.{lines_tell}
use Rattle.conversations.proofs.laws.lines_tell.Goals as goal

pub returns-clause-caller : goal.returns-clause-caller
returns-clause-caller c = lines_tell _ _

pub returns-clause-answerer : goal.returns-clause-answerer
returns-clause-answerer c = lines_tell _ _
