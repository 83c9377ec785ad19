use Rattle.page_code.proofs.TwoDimensions.KindLaws.{one_kind}
use Rattle.page_code.proofs.laws.t6.one_kind.Goals as goal

pub returns : goal.returns
returns c = one_kind
