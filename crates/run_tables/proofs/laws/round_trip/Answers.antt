use Rattle.run_tables.proofs.RowReadings.{reads_own_runs}
use Rattle.run_tables.proofs.laws.round_trip.Goals as goal

pub returns : goal.returns
returns c = reads_own_runs
