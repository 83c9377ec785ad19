use Rattle.commands.proofs.EachRows.{pages_by_records}
use Rattle.commands.proofs.laws.pages_by_records.Goals as goal

pub returns : goal.returns
returns c = pages_by_records
