use Rattle.judged_calls.proofs.BlockSaid.{counts_what_was_sent}
use Rattle.judged_calls.proofs.laws.blocks_are_counted.Goals as goal

pub returns-clause-unsent : goal.returns-clause-unsent
returns-clause-unsent c = (counts_what_was_sent c.answerers_keep.ensures.keep c.headline.ensures.facts).0

pub returns-clause-all : goal.returns-clause-all
returns-clause-all c = (counts_what_was_sent c.answerers_keep.ensures.keep c.headline.ensures.facts).1

pub returns-clause-again : goal.returns-clause-again
returns-clause-again c = (counts_what_was_sent c.answerers_keep.ensures.keep c.headline.ensures.facts).2
