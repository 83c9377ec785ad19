-- A block is whole exactly where the definition has all its frames there.
use Rattle.partial_page.proofs.WholeBlocks.{whole_tells}
use Rattle.partial_page.proofs.assembler.BlockAssembler.is_whole.Goals as goal

pub returns : goal.returns
returns c = whole_tells c.args.self.now.frames.frames c.args.last c.whole.result c.whole.ensures.whole
