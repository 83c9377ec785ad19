use Rattle.terminals.proofs.Saying.{waits_are_shown}
use Rattle.terminals.proofs.laws.waits_are_shown.Goals as goal

pub returns : goal.returns
returns c = waits_are_shown
