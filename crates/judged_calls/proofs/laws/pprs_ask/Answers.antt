use Rattle.judged_calls.proofs.PprsAsk.{asks_something, maps_are_good}
use Rattle.judged_calls.proofs.laws.pprs_ask.Goals as goal

pub returns-clause-something : goal.returns-clause-something
returns-clause-something c = asks_something c.headline.ensures.facts

pub returns-clause-beyond : goal.returns-clause-beyond
returns-clause-beyond c = maps_are_good c.headline.ensures.facts
