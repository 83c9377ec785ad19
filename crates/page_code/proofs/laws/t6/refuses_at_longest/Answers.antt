use Rattle.page_code.proofs.TwoDimensions.Laws.{refuses_at_longest}
use Rattle.page_code.proofs.laws.t6.refuses_at_longest.Goals as goal

pub returns : goal.returns
returns c = refuses_at_longest
