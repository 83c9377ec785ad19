use Rattle.page_code.proofs.TwoDimensions.KindLaws.{refuses_pages_exactly}
use Rattle.page_code.proofs.laws.t6.refuses_pages_exactly.Goals as goal

pub returns : goal.returns
returns c = refuses_pages_exactly
