use Rattle.page_code.proofs.OneDimension.RepairLaws.{one_repair}
use Rattle.page_code.proofs.laws.one_dim.one_repair.Goals as goal

pub returns : goal.returns
returns c = one_repair
