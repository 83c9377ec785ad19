use Rattle.std.proofs.Common.{refl}
use Rattle.run_tables.specs.Numbers.{number_text}
use Rattle.run_tables.proofs.write_table.words.Goals as goal

pub returns-in-White : goal.returns-in-White
unfolding number_text
returns-in-White c = rw c.in-White.is (record { words = refl; small = refl })

pub returns-in-Black : goal.returns-in-Black
unfolding number_text
returns-in-Black c = rw c.in-Black.is (record { words = refl; small = refl })
