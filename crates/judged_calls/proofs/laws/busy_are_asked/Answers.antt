use Rattle.judged_calls.proofs.AskedReady.{asks_the_busy}
use Rattle.judged_calls.proofs.laws.busy_are_asked.Goals as goal

pub returns : goal.returns
returns c = asks_the_busy c.headline.ensures.facts
