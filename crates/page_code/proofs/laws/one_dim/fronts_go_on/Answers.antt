use Rattle.page_code.proofs.OneDimension.PagesGoOn.{fronts_go_on}
use Rattle.page_code.proofs.laws.one_dim.fronts_go_on.Goals as goal

pub returns : goal.returns
returns c = fronts_go_on
