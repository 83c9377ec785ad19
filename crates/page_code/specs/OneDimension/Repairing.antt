-- The results of the parts of a page's repair.
use Rattle.std.specs.Prelude.{ℕ, ◌≡◌, ◌+◌, ◌≤◌, ◌⊎◌, Bool, List, [], ◌∷◌, ◌++◌, length, drop, Option, None, Some, Result, Ok, Err}
use Rattle.raster.specs.declared.row.Color.{Color}
use Rattle.raster.specs.Pages.{PagePixels}
use Rattle.run_tables.specs.declared.fault.CodeFault.{CodeFault}
use Rattle.run_tables.specs.declared.fault.CodeFaultKind.TheVariants.{NoMemory}
use Rattle.page_code.specs.declared.one_dim.repair.Found.{Found}
use Rattle.page_code.specs.declared.one_dim.repair.Found.TheVariants.{Read, Broken}
use Rattle.page_code.specs.declared.one_dim.repair.Lines.{Lines}
use Rattle.page_code.specs.declared.one_dim.repair.RepairedPage.{RepairedPage}
use Rattle.page_code.specs.OneDimension.Repairs.{EndsLine, EndsRow, HasMoreLines, IsLine, IsReadFor, IsRepair, Line, given, last_row}
use Rattle.page_code.specs.OneDimension.Repairs.{listed}
use Rattle.page_code.specs.OneDimension.Repairs.Line.{spelled}

-- the place after a line's end at a place, if a line ends there
abbrev pub FindsEnd : List Bool → ℕ → Option ℕ → Type 0
FindsEnd bits place (Some next) = (more : ℕ) × EndsLine (drop place bits) more × (next ≡ place + more) × (next ≤ length bits)
FindsEnd bits place None = (used : ℕ) → ¬ EndsLine (drop place bits) used

-- the place after a line's end at a place after this row, if a line ends there
abbrev pub FindsRowEnd : List Color → List Bool → ℕ → Option ℕ → Type 0
FindsRowEnd row bits place (Some next) =
    (more : ℕ) × EndsRow row (drop place bits) more × (next ≡ place + more) × (next ≤ length bits)
FindsRowEnd row bits place None = (used : ℕ) → ¬ EndsRow row (drop place bits) used

-- what was found of the line at a place
abbrev pub FindsLine : ℕ → List Bool → ℕ → Found → Type 0
FindsLine width bits place (Read row next) = IsLine width bits place (spelled row) next × (next ≤ length bits)
FindsLine width bits place (Broken bit) = (count : ℕ) × IsReadFor width (drop place bits) count × (bit ≡ place + count)

-- the last row of a page, or a white one before the first, was given once more
abbrev pub GivesLast : PagePixels → PagePixels → Type 0
GivesLast old new = new ≡ record old { rows = old.rows ++ last_row old.width old.rows ∷ [] }

-- a row was given for one line more
pub record GivesLine (bits : List Bool) (old new : Lines) : Type 0 where
  pub line : Line
  pub there : IsLine old.page.width bits old.place line new.place
  pub within : new.place ≤ length bits
  pub page_is : new.page ≡ record old.page { rows = old.page.rows ++ given (last_row old.page.width old.page.rows) line ∷ [] }
  pub repaired_is : new.repaired.items ≡ old.repaired.items ++ listed (length old.page.rows + 1) line

-- the result of a repair: the page that the bits give, with these rows repaired; or too many lines; or memory was refused
abbrev pub RepairsLines : ℕ → Bool → List Bool → Result RepairedPage CodeFault → Type 0
RepairsLines width fine bits (Ok answer) =
    (answer.page.width ≡ width) × (answer.page.fine ≡ fine) × IsRepair width bits answer.page.rows answer.repaired.items
RepairsLines width fine bits (Err fault) = (fault.kind ≡ NoMemory) ⊎ HasMoreLines width bits fault
