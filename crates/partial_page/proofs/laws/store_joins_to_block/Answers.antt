use Rattle.partial_page.proofs.StoreLemmas.{store_joins}
use Rattle.partial_page.proofs.laws.store_joins_to_block.Goals as goal

pub returns : goal.returns
returns c = store_joins
