use Rattle.terminals.proofs.Clocks.{waits_are_named}
use Rattle.terminals.proofs.laws.waits_are_named.Goals as goal

pub returns : goal.returns
returns c = waits_are_named
