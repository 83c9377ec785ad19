-- The row after the whole rows of a page in the one-dimensional code, as far as its bits have come (ITU-T T.4, 4.1).
use Rattle.std.specs.Prelude.{ℕ, ◌≡◌, ◌+◌, Bool, false, List, ◌++◌, length, drop, replicate, None}
use Rattle.raster.specs.declared.row.Color.{Color}
use Rattle.run_tables.specs.RowFronts.{row_begin}
use Rattle.run_tables.specs.RowFronts.{item_word as code_bits, Step as RowStep}
use Rattle.run_tables.specs.RowFronts.RowState.{inside}
use Rattle.page_code.specs.declared.one_dim.Start.TheVariants.{Row}
use Rattle.page_code.specs.declared.one_dim.open_row.OpenRow.{OpenRow}
use Rattle.page_code.specs.declared.one_dim.open_row.OpenRow.TheVariants.{Zeros, Runs}
use Rattle.page_code.specs.declared.one_dim.open_row.RunsBefore.{RunsBefore}
use Rattle.page_code.specs.OneDimension.Reading.{FindsRow}
use Rattle.page_code.specs.RowsSoFar.{LeadsTo}

-- so many 0 bits come at a place
abbrev pub AreZerosBefore : List Bool → ℕ → ℕ → Type 0
AreZerosBefore bits place count = (rest : List Bool) × (drop place bits ≡ replicate count false ++ rest)

-- A row begins after these rows, and whole runs of it come before the bit `at`: the next run has the color, and `left` pixels of the row's
-- width are left.
pub record AreRunsBefore (width : ℕ) (bits : List Bool) (rows : List (List Color)) (place : ℕ) (passed : RunsBefore) : Type 0 where
  pub start : ℕ
  pub pixels : List Color
  pub used : ℕ
  pub begins : FindsRow bits width rows place (Row start)
  pub leads : LeadsTo code_bits (RowStep width) row_begin (inside pixels passed.color None) (drop start bits) used
  pub at_is : passed.at ≡ start + used
  pub left_is : length pixels + passed.left ≡ width

-- what was passed of the row after these rows comes there
abbrev pub IsOpenRow : ℕ → List Bool → List (List Color) → ℕ → OpenRow → Type 0
IsOpenRow width bits rows place (Zeros count) = AreZerosBefore bits place count
IsOpenRow width bits rows place (Runs passed) = AreRunsBefore width bits rows place passed
