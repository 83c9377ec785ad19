use Rattle.run_tables.proofs.RowRefusals.{one_kind}
use Rattle.run_tables.proofs.laws.one_kind.Goals as goal

pub returns : goal.returns
returns c = one_kind
