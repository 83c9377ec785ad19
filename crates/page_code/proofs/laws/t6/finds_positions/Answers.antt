use Rattle.page_code.proofs.TwoDimensions.Laws.{finds_positions}
use Rattle.page_code.proofs.laws.t6.finds_positions.Goals as goal

pub returns : goal.returns
returns c = finds_positions
