use Rattle.page_code.proofs.TwoDimensions.KindLaws.{fronts_are_parts}
use Rattle.page_code.proofs.laws.t6.fronts_are_parts.Goals as goal

pub returns : goal.returns
returns c = fronts_are_parts
