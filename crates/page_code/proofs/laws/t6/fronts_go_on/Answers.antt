use Rattle.page_code.proofs.TwoDimensions.KindLaws.{fronts_go_on}
use Rattle.page_code.proofs.laws.t6.fronts_go_on.Goals as goal

pub returns : goal.returns
returns c = fronts_go_on
