use Rattle.terminals.proofs.Saying.{answerers_hang_up, answerers_lose, answerers_stop, callers_hang_up, callers_lose, callers_stop}
use Rattle.terminals.proofs.laws.dcn_is_left.Goals as goal

pub returns-clause-caller_hangs_up : goal.returns-clause-caller_hangs_up
returns-clause-caller_hangs_up c = callers_hang_up

pub returns-clause-answerer_hangs_up : goal.returns-clause-answerer_hangs_up
returns-clause-answerer_hangs_up c = answerers_hang_up

pub returns-clause-caller_stops : goal.returns-clause-caller_stops
returns-clause-caller_stops c = callers_stop

pub returns-clause-answerer_stops : goal.returns-clause-answerer_stops
returns-clause-answerer_stops c = answerers_stop

pub returns-clause-caller_loses : goal.returns-clause-caller_loses
returns-clause-caller_loses c = callers_lose

pub returns-clause-answerer_loses : goal.returns-clause-answerer_loses
returns-clause-answerer_loses c = answerers_lose
