use Rattle.run_tables.proofs.CodeLaws.{one_code}
use Rattle.run_tables.proofs.laws.one_code.Goals as goal

pub returns : goal.returns
returns c = one_code
