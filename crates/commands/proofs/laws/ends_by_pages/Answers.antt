use Rattle.commands.proofs.EachRows.{ends_by_page, rows_are_enough}
use Rattle.commands.proofs.laws.ends_by_pages.Goals as goal

pub returns-clause-ends : goal.returns-clause-ends
returns-clause-ends c = ends_by_page

pub returns-clause-rows : goal.returns-clause-rows
returns-clause-rows c = rows_are_enough
