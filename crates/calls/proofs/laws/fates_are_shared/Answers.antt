use Rattle.calls.proofs.Fates.{fates_are_shared}
use Rattle.calls.proofs.laws.fates_are_shared.Goals as goal

pub returns : goal.returns
returns c = fates_are_shared
