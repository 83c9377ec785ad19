use Rattle.judged_calls.proofs.Answered.{answers_commands}
use Rattle.judged_calls.proofs.laws.answers_have_commands.Goals as goal

pub returns-clause-training : goal.returns-clause-training
returns-clause-training c = (answers_commands c.headline.ensures.facts).0

pub returns-clause-blocks : goal.returns-clause-blocks
returns-clause-blocks c = (answers_commands c.headline.ensures.facts).1
