use Rattle.judged_calls.proofs.Bursts.{bursts_are_let}
use Rattle.judged_calls.proofs.laws.bursts_are_let.Goals as goal

pub returns-clause-begin : goal.returns-clause-begin
returns-clause-begin c = (bursts_are_let c.always_answered.ensures.caller c.headline.ensures.facts).0

pub returns-clause-order : goal.returns-clause-order
returns-clause-order c = (bursts_are_let c.always_answered.ensures.caller c.headline.ensures.facts).1
