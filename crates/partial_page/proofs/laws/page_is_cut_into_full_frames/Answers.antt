use Rattle.partial_page.proofs.BlockLemmas.{cut_is_full_frames}
use Rattle.partial_page.proofs.laws.page_is_cut_into_full_frames.Goals as goal

pub returns : goal.returns
returns c = cut_is_full_frames
