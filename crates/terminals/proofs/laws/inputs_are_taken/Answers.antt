use Rattle.terminals.proofs.InputsTaken.{answerers_take, callers_take}
use Rattle.terminals.proofs.laws.inputs_are_taken.Goals as goal

pub returns-clause-caller : goal.returns-clause-caller
returns-clause-caller c = callers_take

pub returns-clause-answerer : goal.returns-clause-answerer
returns-clause-answerer c = answerers_take
