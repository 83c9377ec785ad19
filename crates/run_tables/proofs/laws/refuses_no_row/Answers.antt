use Rattle.run_tables.proofs.RowReadings.{refuses_no_row}
use Rattle.run_tables.proofs.laws.refuses_no_row.Goals as goal

pub returns : goal.returns
returns c = refuses_no_row
