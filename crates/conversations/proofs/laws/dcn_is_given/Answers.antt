use Rattle.conversations.proofs.GivenLines.{answerers_hang_up, callers_hang_up}
use Rattle.conversations.proofs.laws.dcn_is_given.Goals as goal

pub returns-clause-caller : goal.returns-clause-caller
returns-clause-caller c = callers_hang_up

pub returns-clause-answerer : goal.returns-clause-answerer
returns-clause-answerer c = answerers_hang_up
