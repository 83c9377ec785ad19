use Rattle.run_tables.proofs.RowReadings.{table_words}
use Rattle.run_tables.proofs.laws.table_words.Goals as goal

pub returns : goal.returns
returns c = table_words
