use Rattle.page_code.proofs.OneDimension.OwnRuns.{own_runs_only}
use Rattle.page_code.proofs.laws.one_dim.own_runs_only.Goals as goal

pub returns : goal.returns
returns c = own_runs_only
