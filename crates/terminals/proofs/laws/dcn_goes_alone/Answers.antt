use Rattle.terminals.proofs.CutOff.{answerers_send_dcn, callers_send_dcn}
use Rattle.terminals.proofs.laws.dcn_goes_alone.Goals as goal

pub returns-clause-caller : goal.returns-clause-caller
returns-clause-caller c = callers_send_dcn

pub returns-clause-answerer : goal.returns-clause-answerer
returns-clause-answerer c = answerers_send_dcn
