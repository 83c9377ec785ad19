use Rattle.page_code.proofs.TwoDimensions.Laws.{pass_leads_on}
use Rattle.page_code.proofs.laws.t6.pass_leads_on.Goals as goal

pub returns : goal.returns
returns c = pass_leads_on
