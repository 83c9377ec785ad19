use Rattle.page_code.proofs.CodingLaws.{refuses_exactly}
use Rattle.page_code.proofs.laws.refuses_exactly.Goals as goal

pub returns : goal.returns
returns c = refuses_exactly
