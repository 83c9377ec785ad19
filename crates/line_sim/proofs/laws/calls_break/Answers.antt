use Rattle.line_sim.proofs.Breaking.{lost_dcs, lost_dis, spoiled_check}
use Rattle.line_sim.proofs.laws.calls_break.Goals as goal

pub returns-clause-dis : goal.returns-clause-dis
returns-clause-dis c = lost_dis

pub returns-clause-dcs : goal.returns-clause-dcs
returns-clause-dcs c = lost_dcs

pub returns-clause-check : goal.returns-clause-check
returns-clause-check c = spoiled_check
