use Rattle.partial_page.proofs.BlockLemmas.{joined_by_blocks}
use Rattle.partial_page.proofs.laws.page_joins_by_blocks.Goals as goal

pub returns : goal.returns
returns c = joined_by_blocks
