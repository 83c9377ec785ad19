use Rattle.terminals.proofs.After.{answerer_is_after, caller_is_after}
use Rattle.terminals.proofs.laws.stations_are_after.Goals as goal

pub returns-clause-caller : goal.returns-clause-caller
returns-clause-caller c = caller_is_after

pub returns-clause-answerer : goal.returns-clause-answerer
returns-clause-answerer c = answerer_is_after
