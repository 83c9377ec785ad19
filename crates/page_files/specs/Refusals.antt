-- Where in a coded page a refused bit lies, and what was expected there.
use Rattle.std.specs.Prelude.{ℕ, ◌≡◌, ◌≤◌, ◌+◌, Bool, List, Some, drop, length}
use Rattle.raster.specs.declared.row.Color.{Color}
use Rattle.page_code.specs.RowsSoFar.{AreWholeRows}
use Rattle.page_code.specs.OneDimension.Pages.{EolBegins}
use Rattle.page_code.specs.declared.Coding.{Coding}
use Rattle.run_tables.specs.CodeReading.{RefusesRun}
use Rattle.run_tables.specs.RowLaws.{ReadsAsRow}
use Rattle.run_tables.specs.declared.fault.CodeFault.{CodeFault}
use Rattle.page_files.specs.OwnWidths.{RowSays}
use Rattle.faults.specs.declared.expected.Expected.{Expected}
use Rattle.faults.specs.declared.expected.Expected.TheVariants.{RunOf, Eol}

-- the row after all whole rows of the coded bits, counted from 1
abbrev pub IsRefusedRow : Coding → ℕ → List Bool → ℕ → Type 0
IsRefusedRow coding width bits row =
    (rows : List (List Color)) × AreWholeRows coding width bits rows × (row ≡ length rows + 1)

-- from some bit on, the bits are refused as no run of the color, at the place
abbrev pub IsRefusedRun : List Bool → ℕ → Color → Type 0
IsRefusedRun bits place color = (start : ℕ) × (fault : CodeFault) × (fault.place ≡ place)
    × RefusesRun color (record { bits = bits; place = start }) fault

-- from some bit on, the bits are a whole row of the width up to the place, and no EOL begins there
pub record HasNoEol (width : ℕ) (bits : List Bool) (place : ℕ) : Type 0 where
  pub start : ℕ
  pub row : List Color
  pub used : ℕ
  pub reads : ReadsAsRow width (drop start bits) row used
  pub ends : start + used ≡ place
  pub none : ¬ EolBegins (drop place bits)

-- what is expected at the bit where bits are refused: a run of the color, or an EOL
abbrev pub IsExpected : ℕ → List Bool → ℕ → Expected → Type 0
IsExpected width bits place (RunOf color) = IsRefusedRun bits place color
IsExpected width bits place Eol = HasNoEol width bits place

-- from a bit up to the place on, the bits are the code words of runs, as many as there are, which are a row of the width; and an EOL comes
-- after them, or nothing but 0 bits
abbrev pub EndsInEmptyRuns : ℕ → List Bool → ℕ → Type 0
EndsInEmptyRuns width bits place = (start : ℕ) × (start ≤ place) × RowSays bits start (Some width)
