-- Laws of refused codes and rows (ITU-T T.4, 4.1.1): where a row goes no further, and why.
use Rattle.std.specs.Prelude.{ℕ, ◌≡◌, ◌+◌, ◌<◌, ◌≤◌, ◌⊎◌, ◌↔◌, Bool, List, [], ◌++◌, length, Result, Err, codes}
use Rattle.raster.specs.declared.row.Color.{Color}
use Rattle.raster.specs.Pixels.{IsWidth}
use Rattle.run_tables.specs.declared.fault.CodeFault.{CodeFault}
use Rattle.run_tables.specs.declared.fault.CodeFaultKind.{CodeFaultKind}
use Rattle.run_tables.specs.declared.fault.CodeFaultKind.TheVariants.{BadCode, Truncated, RunTooLong}
use Rattle.run_tables.specs.declared.reader.Among.{Among}
use Rattle.run_tables.specs.declared.reader.Among.TheVariants.{AllCodes}
use Rattle.run_tables.specs.declared.reader.RunCode.{RunCode}
use Rattle.run_tables.specs.Codes.{text}
use Rattle.run_tables.specs.CodeReading.{ReadsCode, ReadsRunCode, ReadsRun}
use Rattle.run_tables.specs.Kinds.{MayCome, CodeKind, RowKind, IsRowPart, IsRefusedRow, IsRefusedCode, IsRefusedRun}
use Rattle.run_tables.specs.Reading.{Reading}
use Rattle.run_tables.specs.RowFronts.{read_row}
use Rattle.run_tables.specs.RowLaws.{ReadsAsRow}
use Rattle.run_tables.specs.RunWords.{SpellsRow}

-- law: one place has one kind of refusal
pub record OneKind : Type 0 where
  pub codes : (color : Color) (among : Among) (x : List Bool) (a b : CodeFaultKind) → CodeKind color among x a → CodeKind color among x b
      → a ≡ b
  pub rows : (width so_far : ℕ) (color : Color) (among : Among) (x : List Bool) (a b : CodeFaultKind)
      → RowKind width so_far color among x a → RowKind width so_far color among x b → a ≡ b

-- law: reading a code or a run is refused exactly if no code is there, at its place and for the reason of the bits there
pub record RefusesCodesExactly : Type 0 where
  pub codes : (color : Color) (among : Among) (old new : Reading) (result : Result ℕ CodeFault) (fault : CodeFault)
      → ReadsCode color among old new result → (result ≡ Err fault) ↔ IsRefusedCode color among old fault
  pub run_codes : (color : Color) (old new : Reading) (result : Result RunCode CodeFault) (fault : CodeFault)
      → ReadsRunCode color old new result → (result ≡ Err fault) ↔ IsRefusedCode color AllCodes old fault
  pub runs : (color : Color) (old new : Reading) (result : Result ℕ CodeFault) (fault : CodeFault) → ReadsRun color old new result
      → (result ≡ Err fault) ↔ IsRefusedRun color old fault

-- law of the refusals of rows: exactly where a row goes no further, and why
pub record RefusesRowsExactly : Type 0 where
  -- reading is refused exactly where the row goes no further after whole codes, and for that reason
  pub named : (width : ℕ) (x : List Bool) (place : ℕ) (kind : CodeFaultKind) → IsWidth width
      → (read_row width x ≡ Err (place, kind)) ↔ IsRefusedRow width x place kind
  -- bits begin with a row, or have a refusal
  pub some : (width : ℕ) (x : List Bool) → IsWidth width → ((row : List Color) × (used : ℕ) × ReadsAsRow width x row used)
      ⊎ ((place : ℕ) × (kind : CodeFaultKind) × IsRefusedRow width x place kind)
  -- bits that begin with a row have no refusal
  pub none : (width : ℕ) (x : List Bool) (row : List Color) (used place : ℕ) (kind : CodeFaultKind) → IsWidth width
      → ReadsAsRow width x row used → ¬ IsRefusedRow width x place kind
  -- bits don't have two refusals
  pub one : (width : ℕ) (x : List Bool) (p q : ℕ) (a b : CodeFaultKind) → IsWidth width → IsRefusedRow width x p a
      → IsRefusedRow width x q b → (p ≡ q) × (a ≡ b)
  -- no more bits are whole codes of a row
  pub longest : (width : ℕ) (x : List Bool) (place : ℕ) (kind : CodeFaultKind) (front rest : List Bool) (so_far : ℕ) (color : Color) (among
      : Among) → IsWidth width → IsRefusedRow width x place kind → IsRowPart width front so_far color among → x ≡ front ++ rest
      → length front ≤ place

-- law: whole codes of a row can go on, and what is refused can't
pub record FrontsGoOn : Type 0 where
  -- after whole codes are bits with which they spell a row of the width
  pub goes_on : (width : ℕ) (front : List Bool) (so_far : ℕ) (color : Color) (among : Among) → IsWidth width
      → IsRowPart width front so_far color among → (row : List Color) × (more : List Bool) × SpellsRow row (front ++ more)
      × (length row ≡ width)
  -- if a code that passes the width comes after them, the bits begin with no row, whatever follows
  pub too_long : (width : ℕ) (front : List Bool) (so_far : ℕ) (color : Color) (among : Among) (run : ℕ) (word : List Bool) → IsWidth width
      → IsRowPart width front so_far color among → MayCome color among run word → width < so_far + run → (more : List Bool) (row
      : List Color) (used : ℕ) → ¬ ReadsAsRow width (front ++ (word ++ more)) row used
  -- bits that are refused as BadCode begin with no row, whatever follows
  pub no_code : (width : ℕ) (x : List Bool) (place : ℕ) → IsWidth width → IsRefusedRow width x place BadCode → (more : List Bool) (row
      : List Color) (used : ℕ) → ¬ ReadsAsRow width (x ++ more) row used

-- refused rows that were coded by hand from the tables
pub record AreRefusedRows : Type 0 where
  -- no bit; seven 0 bits, with which make-up codes begin; eight, with which no code does
  pub nothing : IsRefusedRow 8 [] 0 Truncated
  pub seven_zeros : IsRefusedRow 8 (text (codes "0000000")) 0 Truncated
  pub eight_zeros : IsRefusedRow 8 (text (codes "00000000")) 0 BadCode
  -- a code that is cut, of runs that are longer than the row
  pub cut_past_the_width : IsRefusedRow 8 (text (codes "001101010000001")) 8 Truncated
  -- after a make-up code: no bit; seven 0 bits, with which no terminating code begins; another make-up code
  pub nothing_after_makeup : IsRefusedRow 128 (text (codes "11011")) 5 Truncated
  pub seven_zeros_after_makeup : IsRefusedRow 128 (text (codes "110110000000")) 5 BadCode
  pub makeup_after_makeup : IsRefusedRow 192 (text (codes "1101111011")) 5 BadCode
  -- a make-up code past the width, whatever follows it; a terminating code past it, alone and after a make-up code
  pub makeup_too_long : IsRefusedRow 63 (text (codes "1101100000000")) 0 RunTooLong
  pub too_long : IsRefusedRow 8 (text (codes "10100")) 0 RunTooLong
  pub rest_too_long : IsRefusedRow 65 (text (codes "110110111")) 5 RunTooLong
