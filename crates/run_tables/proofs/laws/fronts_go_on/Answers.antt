use Rattle.run_tables.proofs.RowsGoOn.{fronts_go_on}
use Rattle.run_tables.proofs.laws.fronts_go_on.Goals as goal

pub returns : goal.returns
returns c = fronts_go_on
