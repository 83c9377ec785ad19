use Rattle.page_code.proofs.OneDimension.Laws.{one_front}
use Rattle.page_code.proofs.laws.one_dim.one_front.Goals as goal

pub returns : goal.returns
returns c = one_front
