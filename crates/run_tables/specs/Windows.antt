-- Beside the code: the next bits of a reader, held in a word.
use Rattle.std.specs.Prelude.{ℕ, ◌+◌, ◌-◌, ◌≤◌, length}
use Rattle.run_tables.specs.Numbers.{AreFirst}
use Rattle.run_tables.specs.Reading.{Reading, rest_of}

-- the reader after `used` bits more
abbrev pub passed : Reading → ℕ → Reading
passed reader used = record reader { place = reader.place + used }

-- `used` of a reader's next 57 bits are used, and the others are the first bits of a word
pub record IsWindow (reader : Reading) (used word : ℕ) : Type 0 where
  pub enough : 57 ≤ length (rest_of reader)
  pub few : used ≤ 57
  pub held : AreFirst (57 - used) (rest_of (passed reader used)) word
