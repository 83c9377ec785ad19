-- What the command that repairs a coded page does with what it reads.
use Rattle.std.specs.Prelude.{ℕ, ◌≡◌, ◌≢◌, ◌<◌, ◌⊎◌, Bool, List, [], ◌∷◌, ◌++◌, Option, codes, flat_map, length}
use Rattle.std.specs.Fmt.{decimal}
use Rattle.std.specs.Io.KnownBytes.{Appends}
use Rattle.raster.specs.declared.packed.Order.{Order}
use Rattle.raster.specs.Packed.{bits_of}
use Rattle.raster.specs.Pages.{PagePixels}
use Rattle.raster.specs.PbmText.{AppendsSome, ArePagesText}
use Rattle.run_tables.specs.declared.fault.CodeFault.{CodeFault}
use Rattle.run_tables.specs.declared.fault.CodeFaultKind.TheVariants.{NoMemory}
use Rattle.run_tables.specs.Faults.{number_of as kind_number}
use Rattle.page_code.specs.declared.one_dim.repair.RepairedRow.{RepairedRow}
use Rattle.page_code.specs.OneDimension.Repairs.{HasMoreLines, HasNoRow, IsRepair}
use Rattle.faults.specs.Faults.{IsOutside}
use Rattle.faults.specs.declared.fault.ToolFault.{ToolFault}
use Rattle.faults.specs.declared.fault.ToolFault.TheVariants.{AtBit}
use Rattle.page_files.specs.declared.repair.Repair.{Repair}

-- the line of a repaired row, `row 17 repaired at bit 1234`: rows are counted from 1, bits from 0
abbrev pub repaired_line : RepairedRow → List ℕ
repaired_line row = codes "row " ++ (decimal row.row ++ (codes " repaired at bit " ++ (decimal row.bit ++ codes "\n")))

-- the line with the number of repaired rows, `repaired rows: 2`
abbrev pub count_line : ℕ → List ℕ
count_line count = codes "repaired rows: " ++ (decimal count ++ codes "\n")

-- a line for each repaired row, and one with their number; nothing if there is none
abbrev pub repaired_text : List RepairedRow → List ℕ
repaired_text [] = []
repaired_text (row ∷ rows) = flat_map repaired_line (row ∷ rows) ++ count_line (length (row ∷ rows))

-- The octets read begin with lines that give this page, of which at least one row is read. Its image is written, and a line for each
-- repaired row, and one with their number if there is any.
pub record RepairsPage (order : Order) (width : ℕ) (fine : Bool) (before after lines_before lines_after : Option (List ℕ))
    (repair : Repair) (octets : List ℕ) : Type 0 where
  pub page : PagePixels
  pub repaired : List RepairedRow
  pub width_is : page.width ≡ width
  pub fine_is : page.fine ≡ fine
  pub gives : IsRepair width (bits_of order octets) page.rows repaired
  pub some : length repaired < length page.rows
  pub rows_are : repair.rows ≡ length page.rows
  pub repaired_are : repair.repaired ≡ length repaired
  pub written : AppendsSome (ArePagesText (page ∷ [])) before after
  pub listed : Appends lines_before lines_after (repaired_text repaired)

-- no row of the octets read can be read, or they have a 20,001st line: the refusal's number, at its bit
pub record RefusesLines (order : Order) (width : ℕ) (octets : List ℕ) (fault : ToolFault) : Type 0 where
  pub code_fault : CodeFault
  pub refuses : HasNoRow width (bits_of order octets) code_fault ⊎ HasMoreLines width (bits_of order octets) code_fault
  pub other : code_fault.kind ≢ NoMemory
  pub is : fault ≡ AtBit (kind_number code_fault.kind) code_fault.place

-- why no page was given: a failed reader or writer, refused memory, no row that can be read, or a 20,001st line
abbrev pub RefusesRepair : Order → ℕ → List ℕ → ToolFault → Type 0
RefusesRepair order width octets fault = IsOutside fault ⊎ RefusesLines order width octets fault
