use Rattle.run_tables.proofs.RowReadings.{one_front}
use Rattle.run_tables.proofs.laws.one_front.Goals as goal

pub returns : goal.returns
returns c = one_front
