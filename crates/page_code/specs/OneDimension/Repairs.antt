-- A page in the one-dimensional code with rows that can't be read (ITU-T T.4, 4.1): which rows are given for its lines, and which of
-- them are repaired.
use Rattle.std.specs.Prelude.{ℕ, ◌≡◌, ◌+◌, ◌-◌, ◌<◌, ◌≤◌, ◌⊎◌, Bool, List, [], ◌∷◌, ◌++◌, Some, length, drop, replicate, slice_get}
use Rattle.raster.specs.declared.row.Color.{Color}
use Rattle.raster.specs.declared.row.Color.TheVariants.{White, Black}
use Rattle.raster.specs.Pages.{max_rows}
use Rattle.raster.specs.Pixels.{IsWidth}
use Rattle.run_tables.specs.declared.fault.CodeFault.{CodeFault}
use Rattle.run_tables.specs.declared.fault.CodeFaultKind.{CodeFaultKind}
use Rattle.run_tables.specs.declared.fault.CodeFaultKind.TheVariants.{TooManyCodedRows}
use Rattle.run_tables.specs.Codes.{run_words}
use Rattle.run_tables.specs.Fronts.{Walk}
use Rattle.run_tables.specs.RowLaws.{IsLongestFront, ReadsAsRow}
use Rattle.page_code.specs.declared.one_dim.repair.RepairedRow.{RepairedRow}
use Rattle.page_code.specs.PageCodes.{RefusesPage}
use Rattle.page_code.specs.OneDimension.Laws.{IsLongestFront as IsLongestPage}
use Rattle.page_code.specs.OneDimension.Pages.{AreZeros, EolBegins, ReadsAs, eol_word}

-- Lines

-- a line of a page: the row that it spells, or the bit at which its row can't be read
pub data Line : Type 0 where
  spelled : List Color → Line
  broken : ℕ → Line

-- an EOL of `used` bits, its fill among them, is there
abbrev pub EolOf : List Bool → ℕ → Type 0
EolOf x used = (count : ℕ) × (rest : List Bool) × (11 ≤ count) × (x ≡ eol_word count ++ rest) × (used ≡ count + 1)

-- an EOL of `used` bits is there, with a single wrong bit: one of its first eleven 0 bits is a 1
abbrev pub TornEolOf : List Bool → ℕ → Type 0
TornEolOf x used =
    (zeros : ℕ) × (more : ℕ) × (rest : List Bool) × (zeros < 11) × (10 ≤ zeros + more) × (x ≡ eol_word zeros ++ (eol_word more ++ rest))
    × (used ≡ zeros + more + 2)

-- a line ends after its row, with `used` bits: before only 0 bits or nothing, by an EOL, or by an EOL with a wrong bit
abbrev pub EndsLine : List Bool → ℕ → Type 0
EndsLine x used = (AreZeros x × (used ≡ 0)) ⊎ (EolOf x used ⊎ TornEolOf x used)

-- the last pixel of a row is black
abbrev pub EndsInBlack : List Color → Type 0
EndsInBlack row = slice_get row (length row - 1) ≡ Some Black

-- a line ends after the code of a white run of 0 pixels, with `used` bits in all
abbrev pub EndsAfterWhite : List Bool → ℕ → Type 0
EndsAfterWhite x used =
    (rest : List Bool) × (more : ℕ) × (x ≡ run_words White 0 ++ rest) × EndsLine rest more × (used ≡ 8 + more)

-- a line ends after this row, with `used` bits: at once; or, as some programs write it after a row that ends in black, after a white run
-- of 0 pixels
abbrev pub EndsRow : List Color → List Bool → ℕ → Type 0
EndsRow row x used = EndsLine x used ⊎ (EndsInBlack row × EndsAfterWhite x used)

-- no line begins: only 0 bits are left, or a second EOL follows
abbrev pub EndsPage : List Bool → Type 0
EndsPage x = AreZeros x ⊎ EolBegins x

-- a line that can't be read is right for its first `count` bits: the longest front of a row's run codes, if it begins with no row; or its
-- row, if the line doesn't end after it
abbrev pub IsReadFor : ℕ → List Bool → ℕ → Type 0
IsReadFor width x count =
    ((kind : CodeFaultKind) × IsLongestFront width x count kind × ((row : List Color) (used : ℕ) → ¬ ReadsAsRow width x row used)) ⊎
    ((row : List Color) × ReadsAsRow width x row count × ((used : ℕ) → ¬ EndsRow row (drop count x) used))

-- an EOL ends after `count` bits
abbrev pub EolEndsAfter : List Bool → ℕ → Type 0
EolEndsAfter x count =
    (front : List Bool) × (rest : List Bool) × (x ≡ front ++ (eol_word 11 ++ rest)) × (count ≡ length front + 12)

-- the first `count` bits are the ones up to the end of the first EOL, or all bits if there is no EOL
abbrev pub IsSkipped : List Bool → ℕ → Type 0
IsSkipped x count =
    (EolEndsAfter x count × ((other : ℕ) → EolEndsAfter x other → count ≤ other)) ⊎
    (((other : ℕ) → ¬ EolEndsAfter x other) × (count ≡ length x))

-- The line at a place in the bits, and the place of the next one: a row of the width and the line's end; or a line whose row can't be
-- read, up to the end of the next EOL.
abbrev pub IsLine : ℕ → List Bool → ℕ → Line → ℕ → Type 0
IsLine width bits place (spelled row) next =
    (used : ℕ) × (more : ℕ) × ReadsAsRow width (drop place bits) row used × EndsRow row (drop (place + used) bits) more
    × (next ≡ place + used + more)
IsLine width bits place (broken bit) next =
    (count : ℕ) × (more : ℕ) × (¬ EndsPage (drop place bits)) × IsReadFor width (drop place bits) count
    × IsSkipped (drop place bits) more × (bit ≡ place + count) × (next ≡ place + more)

-- the place of the first line: after an EOL at the beginning, or the beginning
abbrev pub IsFirstLine : List Bool → ℕ → Type 0
IsFirstLine bits place = EolOf bits place ⊎ ((¬ EolBegins bits) × (place ≡ 0))

-- What is given for lines

-- the row given for a line: its own, or else the row before it
abbrev pub given : List Color → Line → List Color
given before (spelled row) = row
given before (broken bit) = before

-- the rows given for lines, after the row before them
abbrev pub rows_given : List Color → List Line → List (List Color)
rows_given before [] = []
rows_given before (line ∷ lines) = given before line ∷ rows_given (given before line) lines

-- the white row that counts as the one before the first
abbrev pub white_row : ℕ → List Color
white_row width = replicate width White

-- the last of rows, or the one before them
abbrev pub last_of : List Color → List (List Color) → List Color
last_of before [] = before
last_of before (row ∷ rows) = last_of row rows

-- the row before the next one of a page
abbrev pub last_row : ℕ → List (List Color) → List Color
last_row width rows = last_of (white_row width) rows

-- the number of a line's row and the bit where it can't be read, if it is repaired
abbrev pub listed : ℕ → Line → List RepairedRow
listed number (spelled row) = []
listed number (broken bit) = record { row = number; bit = bit } ∷ []

-- the repaired rows of lines, the first with this number
abbrev pub repaired_in : ℕ → List Line → List RepairedRow
repaired_in number [] = []
repaired_in number (line ∷ lines) = listed number line ++ repaired_in (number + 1) lines

-- these rows are given for the lines from the first one to a place; the repaired ones among them are these
pub record AreGivenTo (width : ℕ) (bits : List Bool) (rows : List (List Color)) (repaired : List RepairedRow) (place : ℕ) : Type 0 where
  pub start : ℕ
  pub lines : List Line
  pub first : IsFirstLine bits start
  pub walk : Walk (IsLine width bits) start lines place
  pub rows_are : rows ≡ rows_given (white_row width) lines
  pub repaired_are : repaired ≡ repaired_in 1 lines

-- The rows that bits give if some can't be read: one for each line, 20,000 at most, up to the page's end. A line is given as the row that
-- it spells, if its end follows; else as the row before it, white for the first, and its number and the bit where it can't be read are
-- listed.
pub record IsRepair (width : ℕ) (bits : List Bool) (rows : List (List Color)) (repaired : List RepairedRow) : Type 0 where
  pub place : ℕ
  pub given_to : AreGivenTo width bits rows repaired place
  pub ends : EndsPage (drop place bits)
  pub few : length rows ≤ max_rows

-- a 20,001st line begins at the fault's bit
pub record HasMoreLines (width : ℕ) (bits : List Bool) (fault : CodeFault) : Type 0 where
  pub rows : List (List Color)
  pub repaired : List RepairedRow
  pub given_to : AreGivenTo width bits rows repaired fault.place
  pub begins : ¬ EndsPage (drop fault.place bits)
  pub full : length rows ≡ max_rows
  pub kind_is : fault.kind ≡ TooManyCodedRows

-- not one row of the bits can be read, if there are lines at all; the fault is that of reading the page
pub record HasNoRow (width : ℕ) (bits : List Bool) (fault : CodeFault) : Type 0 where
  pub rows : List (List Color)
  pub repaired : List RepairedRow
  pub gives : IsRepair width bits rows repaired
  pub all : length repaired ≡ length rows
  pub refuses : RefusesPage ReadsAs IsLongestPage width bits fault

-- Laws

-- law: a page that can be read gives its own rows, and no row is repaired
abbrev pub RepairsNothing : Type 0
RepairsNothing = (width : ℕ) (bits : List Bool) (rows : List (List Color)) (used : ℕ) → IsWidth width
    → ReadsAs width bits rows used → IsRepair width bits rows []

-- law: bits give one page, with the same rows repaired
abbrev pub OneRepair : Type 0
OneRepair =
    (width : ℕ) (bits : List Bool) (rows others : List (List Color)) (repaired repaired_too : List RepairedRow) → IsWidth width
    → IsRepair width bits rows repaired → IsRepair width bits others repaired_too → (rows ≡ others) × (repaired ≡ repaired_too)
