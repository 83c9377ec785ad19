use Rattle.joined_terminals.proofs.Pieces.{hearing_takes, terminals_are_safe}
use Rattle.joined_terminals.proofs.laws.terminals_are_safe.Goals as goal

pub returns-clause-takes : goal.returns-clause-takes
returns-clause-takes c = hearing_takes

pub returns-clause-safe : goal.returns-clause-safe
returns-clause-safe c = terminals_are_safe c.joined_terminals_are_safe.ensures
