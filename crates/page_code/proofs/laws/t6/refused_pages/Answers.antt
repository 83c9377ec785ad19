use Rattle.page_code.proofs.TwoDimensions.WorkedPages.{refused_pages}
use Rattle.page_code.proofs.laws.t6.refused_pages.Goals as goal

pub returns : goal.returns
returns c = refused_pages
