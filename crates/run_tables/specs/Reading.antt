-- Bits that are read one after the other.
use Rattle.std.specs.Prelude.{ℕ, ◌+◌, Bool, List, drop, length}

-- all bits, and the place of the next one to be read
pub record Reading : Type 0 where
  pub bits : List Bool
  pub place : ℕ

-- the bits that are left
abbrev pub rest_of : Reading → List Bool
rest_of reader = drop reader.place reader.bits

-- the reader after a code word that begins at its place
abbrev pub after : List Bool → Reading → Reading
after word reader = record reader { place = reader.place + length word }
