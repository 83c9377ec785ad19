use Rattle.joined_terminals.proofs.KeptSafe.{confirmed_are_stored, kept_are_driven}
use Rattle.joined_terminals.proofs.laws.confirmed_are_stored.Goals as goal

pub returns-clause-stored : goal.returns-clause-stored
returns-clause-stored c = confirmed_are_stored c.held_are_stored.ensures.driven c.held_are_stored.ensures.stored

pub returns-clause-driven : goal.returns-clause-driven
returns-clause-driven c = kept_are_driven c.held_are_stored.ensures.driven
