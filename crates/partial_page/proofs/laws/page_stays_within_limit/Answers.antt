use Rattle.partial_page.proofs.BlockLemmas.{joined_within_limit}
use Rattle.partial_page.proofs.laws.page_stays_within_limit.Goals as goal

pub returns : goal.returns
returns c = joined_within_limit
