use Rattle.commands.proofs.EachRows.{lines_by_end, lines_below}
use Rattle.commands.proofs.laws.each_by_lines.Goals as goal

pub returns-clause-ends : goal.returns-clause-ends
returns-clause-ends c = lines_by_end

pub returns-clause-below : goal.returns-clause-below
returns-clause-below c = lines_below
