use Rattle.judged_calls.proofs.BurstSaid.{bursts_are_said}
use Rattle.judged_calls.proofs.laws.bursts_are_whole.Goals as goal

pub returns-clause-frames : goal.returns-clause-frames
returns-clause-frames c = (bursts_are_said c.headline.ensures.facts).0

pub returns-clause-rcps : goal.returns-clause-rcps
returns-clause-rcps c = (bursts_are_said c.headline.ensures.facts).1
