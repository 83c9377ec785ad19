use Rattle.page_code.proofs.OneDimension.PageRefusals.{one_kind}
use Rattle.page_code.proofs.laws.one_dim.one_kind.Goals as goal

pub returns : goal.returns
returns c = one_kind
