use Rattle.line_sim.proofs.Redialling.{calls_go_on}
use Rattle.line_sim.proofs.laws.calls_go_on.Goals as goal

pub returns : goal.returns
returns c = calls_go_on
