use Rattle.page_code.proofs.TwoDimensions.Laws.{one_front}
use Rattle.page_code.proofs.laws.t6.one_front.Goals as goal

pub returns : goal.returns
returns c = one_front
