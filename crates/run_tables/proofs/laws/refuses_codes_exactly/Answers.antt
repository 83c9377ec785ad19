use Rattle.run_tables.proofs.RowRefusals.{refuses_codes_exactly}
use Rattle.run_tables.proofs.laws.refuses_codes_exactly.Goals as goal

pub returns : goal.returns
returns c = refuses_codes_exactly
