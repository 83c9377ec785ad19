-- What the check asks of the law of pages that are held.
use Rattle.conversations.proofs.FullAnswerer.{held_is_not_confirmed}
use Rattle.conversations.proofs.laws.held_is_not_confirmed.Goals as goal

pub returns : goal.returns
returns c = held_is_not_confirmed c.busy_before.ensures
