use Rattle.partial_page.proofs.NumberLemmas.{puts-by-places}
use Rattle.partial_page.proofs.laws.frame_keeps_others.Goals as goal

pub returns : goal.returns
returns c = puts-by-places
