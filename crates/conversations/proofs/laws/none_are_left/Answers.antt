use Rattle.conversations.proofs.Stored.{none_are_left}
use Rattle.conversations.proofs.laws.none_are_left.Goals as goal

pub returns : goal.returns
returns c = none_are_left
