use Rattle.page_code.proofs.OneDimension.Laws.{reads_pages_exactly}
use Rattle.page_code.proofs.laws.one_dim.reads_exactly.Goals as goal

pub returns : goal.returns
returns c = reads_pages_exactly
