use Rattle.page_code.proofs.PageReaders.{rows_stay}
use Rattle.page_code.proofs.laws.rows_stay.Goals as goal

pub returns : goal.returns
returns c = rows_stay
