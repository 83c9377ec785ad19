use Rattle.page_code.proofs.TwoDimensions.Laws.{reads_pages_exactly}
use Rattle.page_code.proofs.laws.t6.reads_exactly.Goals as goal

pub returns : goal.returns
returns c = reads_pages_exactly
