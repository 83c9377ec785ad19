use Rattle.page_code.proofs.OneDimension.Laws.{refuses_at_longest}
use Rattle.page_code.proofs.laws.one_dim.refuses_at_longest.Goals as goal

pub returns : goal.returns
returns c = refuses_at_longest
