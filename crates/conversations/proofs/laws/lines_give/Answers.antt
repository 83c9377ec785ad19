use Rattle.conversations.proofs.GivenLines.{begins_at, lines_give}
use Rattle.conversations.proofs.laws.lines_give.Goals as goal

pub returns-clause-gives : goal.returns-clause-gives
returns-clause-gives c = lines_give

pub returns-clause-begins : goal.returns-clause-begins
returns-clause-begins c = begins_at
