use Rattle.line_sim.proofs.EventsMean.{events_touch, events_make, events_refuse}
use Rattle.line_sim.proofs.laws.events_mean.Goals as goal

pub returns-clause-touch : goal.returns-clause-touch
returns-clause-touch c = events_touch

pub returns-clause-make : goal.returns-clause-make
returns-clause-make c = events_make

pub returns-clause-refuse : goal.returns-clause-refuse
returns-clause-refuse c = events_refuse
