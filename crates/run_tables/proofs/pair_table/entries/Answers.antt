use Rattle.std.proofs.Common.{refl}
use Rattle.run_tables.specs.Numbers.{number_text}
use Rattle.run_tables.specs.ReadTables.{entry_of, pair_of, pairs}
use Rattle.run_tables.proofs.pair_table.entries.Goals as goal

pub returns : goal.returns
unfolding pairs pair_of entry_of number_text
returns c = refl
