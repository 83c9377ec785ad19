-- The frames that are appended are all there.
use Rattle.partial_page.proofs.WholeBlocks.{all_there_is}
use Rattle.partial_page.proofs.assembler.BlockAssembler.append_to.Goals as goal

pub append_joined-requires : goal.append_joined-requires
append_joined-requires c = all_there_is c.args.self.now.frames.frames c.args.last c.requires.whole
