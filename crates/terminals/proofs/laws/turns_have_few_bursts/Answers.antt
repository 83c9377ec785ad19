use Rattle.terminals.proofs.Few.{answerers_send_one, callers_send_two}
use Rattle.terminals.proofs.laws.turns_have_few_bursts.Goals as goal

pub returns-clause-caller : goal.returns-clause-caller
returns-clause-caller c = callers_send_two c.bursts_cut.ensures.turns

pub returns-clause-answerer : goal.returns-clause-answerer
returns-clause-answerer c = answerers_send_one
