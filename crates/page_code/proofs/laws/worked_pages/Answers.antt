use Rattle.page_code.proofs.HandCoded.{one_dim_pages, open_rows, t6_pages}
use Rattle.page_code.proofs.laws.worked_pages.Goals as goal

pub returns : goal.returns
returns c = record { one_dim = one_dim_pages; open_rows = open_rows; t6 = t6_pages }
