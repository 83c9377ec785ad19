use Rattle.page_code.proofs.OneDimension.Laws.{refuses_no_page}
use Rattle.page_code.proofs.laws.one_dim.refuses_no_page.Goals as goal

pub returns : goal.returns
returns c = refuses_no_page
