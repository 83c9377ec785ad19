use Rattle.page_code.proofs.TwoDimensions.PageEnds.{page_ends_mean}
use Rattle.page_code.proofs.laws.t6.page_ends_mean.Goals as goal

pub returns : goal.returns
returns c = page_ends_mean
