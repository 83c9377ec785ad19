-- What each step spends adds up.
use Rattle.line_sim.proofs.Counting.{runs_are_counted, dcs_between_groups}
use Rattle.line_sim.proofs.laws.counted.Goals as goal

pub returns-clause-runs : goal.returns-clause-runs
returns-clause-runs c = runs_are_counted c.steps_spend.ensures

pub returns-clause-groups : goal.returns-clause-groups
returns-clause-groups c = dcs_between_groups c.steps_spend.ensures
