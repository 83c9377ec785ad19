-- What a reader of rows passed of the row after those that it gave (ITU-T T.4, 4.1).
use Rattle.std.specs.Prelude.{ℕ, zero, suc, ◌≡◌, ◌≤◌, ◌+◌, Bool, List, length, drop, IfSome, None}
use Rattle.raster.specs.declared.row.Color.{Color}
use Rattle.run_tables.specs.RowFronts.{row_begin}
use Rattle.run_tables.specs.RowFronts.{item_word as code_bits, Step as RowStep}
use Rattle.run_tables.specs.RowFronts.RowState.{inside}
use Rattle.page_code.specs.declared.one_dim.Start.TheVariants.{Row}
use Rattle.page_code.specs.declared.one_dim.eol.Eol.TheVariants.{Present}
use Rattle.page_code.specs.declared.one_dim.open_row.RunsBefore.{RunsBefore}
use Rattle.page_code.specs.declared.passed_row.EolsBefore.{EolsBefore}
use Rattle.page_code.specs.declared.passed_row.PassedRow.{PassedRow}
use Rattle.page_code.specs.OneDimension.OpenRows.{AreZerosBefore}
use Rattle.page_code.specs.OneDimension.Reading.{SeesEol}
use Rattle.page_code.specs.RowReaders.{FindsStart, IsStartWithin}
use Rattle.page_code.specs.RowsSoFar.{LeadsTo}

-- A row of this width begins in these bits after so many rows, and whole runs of it come before the bit `at`: the next run has the color,
-- and `left` pixels are left.
pub record AreRunsPassed (width count : ℕ) (bits : List Bool) (passed : RunsBefore) : Type 0 where
  pub start : ℕ
  pub pixels : List Color
  pub used : ℕ
  pub begins : FindsStart bits 0 count (Row start)
  pub within : IsStartWithin 0 (length bits) count (Row start)
  pub leads : LeadsTo code_bits (RowStep width) row_begin (inside pixels passed.color None) (drop start bits) used
  pub at_is : passed.at ≡ start + used
  pub left_is : length pixels + passed.left ≡ width

-- this number of EOLs come, one after the other, from one place to another
abbrev pub AreEols : ℕ → List Bool → ℕ → ℕ → Type 0
AreEols zero bits from to = to ≡ from
AreEols (suc count) bits from to = (first : ℕ) × SeesEol (drop from bits) (Present first) × AreEols count bits (from + first) to

-- the EOLs come in these bits, and then the 0 bits
pub record AreEolsPassed (bits : List Bool) (passed : EolsBefore) : Type 0 where
  pub few : passed.count ≤ 5
  pub eols : AreEols passed.count bits 0 passed.at
  pub zeros : AreZerosBefore bits passed.at passed.zeros

-- what was passed of the row after so many rows comes in these bits, which begin after the rows
pub record IsPassedRow (width count : ℕ) (bits : List Bool) (passed : PassedRow) : Type 0 where
  pub zeros : AreZerosBefore bits 0 passed.zeros
  pub eols : AreEolsPassed (drop (passed.zeros + 1) bits) passed.eols
  pub runs : IfSome passed.runs (AreRunsPassed width count bits)
