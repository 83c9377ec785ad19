use Rattle.run_tables.proofs.RowReadings.{reads_rows_exactly}
use Rattle.run_tables.proofs.laws.reads_exactly.Goals as goal

pub returns : goal.returns
returns c = reads_rows_exactly
