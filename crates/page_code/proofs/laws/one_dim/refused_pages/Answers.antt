use Rattle.page_code.proofs.OneDimension.WorkedPages.{refused_pages}
use Rattle.page_code.proofs.laws.one_dim.refused_pages.Goals as goal

pub returns : goal.returns
returns c = refused_pages
