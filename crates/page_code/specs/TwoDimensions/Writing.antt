-- Writing a row of T.6 mode by mode (ITU-T T.6, 2.2.3).
use Rattle.std.specs.Prelude.{ℕ, ◌≡◌, ◌<◌, ◌≤◌, List, [], ◌∷◌, length, take, slice_index_or}
use Rattle.raster.specs.declared.row.Color.{Color}
use Rattle.raster.specs.Packed.{Bits}
use Rattle.raster.specs.Changes.{color_before}
use Rattle.run_tables.specs.Written.{Appends}
use Rattle.page_code.specs.declared.t6.a0.A0.{A0}
use Rattle.page_code.specs.TwoDimensions.Positions.{CodingLine, right_of_a0}
use Rattle.page_code.specs.TwoDimensions.Modes.{mode_words}
use Rattle.page_code.specs.TwoDimensions.Code.{prescribed, moved}

-- the line is the row's beginning, and a0's color is that of the pixel before the next place
pub record IsUpTo (row : List Color) (line : CodingLine) : Type 0 where
  pub taken : line.pixels ≡ take (length line.pixels) row
  pub within : length line.pixels ≤ length row
  pub before : length line.pixels < length row → color_before row (right_of_a0 line) ≡ line.color

-- the coding line of a row that was coded up to a0
abbrev pub line_to : List Color → A0 → CodingLine
line_to row to = record { pixels = take to.place row; begun = to.begun; color = to.color }

-- the row was coded up to one of its places
pub record IsCodedTo (row : List Color) (to : A0) : Type 0 where
  pub within : to.place ≤ length row
  pub stands : IsUpTo row (line_to row to)

-- the prescribed mode was written, and a0 was moved by it
pub record WritesMode (reference row : List Color) (old new : A0) (before after : Bits) : Type 0 where
  pub writes : Appends (mode_words old.color (prescribed reference row (line_to row old))) before after
  pub moves : line_to row new ≡ moved reference row (line_to row old) (prescribed reference row (line_to row old))
  pub within : new.place ≤ length row

-- the row at an index
abbrev pub row_at : List (List Color) → ℕ → List Color
row_at rows at = slice_index_or rows at []

-- the reference line of the row at an index: the row before it, or the white line
abbrev pub reference_at : List Color → List (List Color) → ℕ → List Color
reference_at white rows at = row_at (white ∷ rows) at
