-- What is written of repaired rows, and when a line of a page ends, said by written-out lines and by one wrong bit.
use Rattle.std.specs.Prelude.{ℕ, ◌≡◌, ◌<◌, Bool, true, false, List, [], ◌∷◌, codes, slice_set, slice_index_or}
use Rattle.page_code.specs.OneDimension.Repairs.{EolOf, TornEolOf}
use Rattle.page_files.specs.Repairs.{repaired_text}

-- law: the lines written for none, one and two repaired rows. Rows are counted from 1 and bits from 0.
pub record RowsAreListed : Type 0 where
  pub none : repaired_text [] ≡ []
  pub one : repaired_text (record { row = 17; bit = 1234 } ∷ []) ≡ codes "row 17 repaired at bit 1234\nrepaired rows: 1\n"
  pub two : repaired_text (record { row = 1; bit = 0 } ∷ record { row = 2; bit = 24 } ∷ []) ≡
      codes "row 1 repaired at bit 0\nrow 2 repaired at bit 24\nrepaired rows: 2\n"

-- an EOL with one wrong bit: one of its first eleven bits is a 1, and with a 0 in its place an EOL of this length is there
pub record IsOneBitOff (x : List Bool) (used : ℕ) : Type 0 where
  pub place : ℕ
  pub early : place < 11
  pub wrong : slice_index_or x place false ≡ true
  pub right : EolOf (slice_set x place false) used

-- law: each torn EOL is an EOL with one wrong bit: one of its first eleven bits is a 1 that should be 0
abbrev pub TornIsOneBitOff : Type 0
TornIsOneBitOff = (x : List Bool) (used : ℕ) → TornEolOf x used → IsOneBitOff x used
