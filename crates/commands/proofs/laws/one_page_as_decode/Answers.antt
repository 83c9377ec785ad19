use Rattle.commands.proofs.PageReports.{one_page}
use Rattle.commands.proofs.laws.one_page_as_decode.Goals as goal

pub returns : goal.returns
returns c = one_page
