use Rattle.page_code.proofs.OneDimension.OwnRuns.{own_runs_own}
use Rattle.page_code.proofs.laws.one_dim.own_runs_own.Goals as goal

pub returns : goal.returns
returns c = own_runs_own
