use Rattle.joined_terminals.proofs.HeldSafe.{held_are_driven, held_are_stored}
use Rattle.joined_terminals.proofs.laws.held_are_stored.Goals as goal

pub returns-clause-stored : goal.returns-clause-stored
returns-clause-stored c = held_are_stored c.answerers_keep.ensures.keep c.conversations_are_safe.ensures

pub returns-clause-driven : goal.returns-clause-driven
returns-clause-driven c = held_are_driven
