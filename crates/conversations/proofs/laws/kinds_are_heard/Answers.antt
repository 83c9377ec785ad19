use Rattle.conversations.proofs.GivenLines.{kinds_are_heard, speeds_are_told}
use Rattle.conversations.proofs.laws.kinds_are_heard.Goals as goal

pub returns-clause-kinds : goal.returns-clause-kinds
returns-clause-kinds c = kinds_are_heard

pub returns-clause-speeds : goal.returns-clause-speeds
returns-clause-speeds c = speeds_are_told
