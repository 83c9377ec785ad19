use Rattle.run_tables.proofs.RowRefusals.{refuses_rows_exactly}
use Rattle.run_tables.proofs.laws.refuses_rows_exactly.Goals as goal

pub returns : goal.returns
returns c = refuses_rows_exactly
