use Rattle.line_sim.proofs.RnrAsked.{asks_by_kind, rnr_is_asked}
use Rattle.line_sim.proofs.laws.rnr_is_asked.Goals as goal

pub returns-clause-kinds : goal.returns-clause-kinds
returns-clause-kinds c = asks_by_kind

pub returns-clause-asked : goal.returns-clause-asked
returns-clause-asked c = rnr_is_asked
