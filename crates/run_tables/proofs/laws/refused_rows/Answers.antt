use Rattle.run_tables.proofs.RowWorkedRows.{refused_rows}
use Rattle.run_tables.proofs.laws.refused_rows.Goals as goal

pub returns : goal.returns
returns c = refused_rows
