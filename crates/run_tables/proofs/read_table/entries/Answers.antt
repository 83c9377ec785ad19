use Rattle.std.proofs.Common.{refl}
use Rattle.run_tables.specs.Numbers.{number_text}
use Rattle.run_tables.specs.ReadTables.{entries, entry_of, packed}
use Rattle.run_tables.proofs.read_table.entries.Goals as goal

pub returns-in-White : goal.returns-in-White
unfolding entries entry_of number_text packed
returns-in-White c = rw c.in-White.is refl

pub returns-in-Black : goal.returns-in-Black
unfolding entries entry_of number_text packed
returns-in-Black c = rw c.in-Black.is refl
