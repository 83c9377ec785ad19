use Rattle.terminals.proofs.Clocks.{waits_pass}
use Rattle.terminals.proofs.laws.waits_pass.Goals as goal

pub returns : goal.returns
returns c = waits_pass
