use Rattle.run_tables.proofs.RowReadings.{refuses_at_longest}
use Rattle.run_tables.proofs.laws.refuses_at_longest.Goals as goal

pub returns : goal.returns
returns c = refuses_at_longest
