use Rattle.page_code.proofs.CodingLaws.{refuses_at_longest}
use Rattle.page_code.proofs.laws.refuses_at_longest.Goals as goal

pub returns : goal.returns
returns c = refuses_at_longest
