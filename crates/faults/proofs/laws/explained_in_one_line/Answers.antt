use Rattle.faults.proofs.OneLine.{explained_line}
use Rattle.faults.proofs.laws.explained_in_one_line.Goals as goal

pub returns : goal.returns
returns c = explained_line
