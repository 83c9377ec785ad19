use Rattle.page_code.proofs.OneDimension.PageRefusals.{refuses_pages_exactly}
use Rattle.page_code.proofs.laws.one_dim.refuses_pages_exactly.Goals as goal

pub returns : goal.returns
returns c = refuses_pages_exactly
