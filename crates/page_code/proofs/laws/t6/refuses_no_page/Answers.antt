use Rattle.page_code.proofs.TwoDimensions.Laws.{refuses_no_page}
use Rattle.page_code.proofs.laws.t6.refuses_no_page.Goals as goal

pub returns : goal.returns
returns c = refuses_no_page
