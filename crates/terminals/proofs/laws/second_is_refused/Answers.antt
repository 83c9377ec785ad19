use Rattle.terminals.proofs.Seen.{second_is_refused}
use Rattle.terminals.proofs.laws.second_is_refused.Goals as goal

pub returns : goal.returns
returns c = second_is_refused
