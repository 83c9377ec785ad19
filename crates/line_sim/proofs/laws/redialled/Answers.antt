use Rattle.line_sim.proofs.Redialling.{calls_are_redialled}
use Rattle.line_sim.proofs.laws.redialled.Goals as goal

pub returns : goal.returns
returns c = calls_are_redialled (c.layers_hold.ensures, c.signals_hold.ensures) c.headline.ensures.safe
