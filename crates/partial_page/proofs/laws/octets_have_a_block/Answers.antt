use Rattle.partial_page.proofs.BlockLemmas.{octets_have_block}
use Rattle.partial_page.proofs.laws.octets_have_a_block.Goals as goal

pub returns : goal.returns
returns c = octets_have_block
