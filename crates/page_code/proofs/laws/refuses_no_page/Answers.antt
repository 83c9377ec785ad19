use Rattle.page_code.proofs.CodingLaws.{refuses_no_page}
use Rattle.page_code.proofs.laws.refuses_no_page.Goals as goal

pub returns : goal.returns
returns c = refuses_no_page
