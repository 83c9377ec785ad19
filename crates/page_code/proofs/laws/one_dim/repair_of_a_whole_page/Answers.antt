use Rattle.page_code.proofs.OneDimension.RepairLaws.{repairs_nothing}
use Rattle.page_code.proofs.laws.one_dim.repair_of_a_whole_page.Goals as goal

pub returns : goal.returns
returns c = repairs_nothing
