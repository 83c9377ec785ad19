use Rattle.page_code.proofs.CodingLaws.{reads_exactly}
use Rattle.page_code.proofs.laws.reads_exactly.Goals as goal

pub returns : goal.returns
returns c = reads_exactly
