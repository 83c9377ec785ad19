-- A reader of a page that comes in pieces, as clauses see it, and what octets are read as.
use Rattle.std.specs.Prelude.{ℕ, ◌≡◌, ◌≢◌, Bool, List, [], length, ◌++◌, Ok, Err}
use Rattle.raster.specs.declared.packed.Order.{Order}
use Rattle.raster.specs.declared.row.Color.{Color}
use Rattle.raster.specs.Packed.{bits_of}
use Rattle.raster.specs.Pages.{PagePixels}
use Rattle.run_tables.specs.declared.fault.CodeFaultKind.TheVariants.{NoMemory}
use Rattle.raster.specs.declared.coding.Coding.{Coding}
use Rattle.raster.specs.declared.coding.Coding.TheVariants.{OneDim, T6}
use Rattle.page_code.specs.declared.one_dim.open_row.OpenRow.{OpenRow}
use Rattle.page_code.specs.declared.one_dim.open_row.OpenRow.TheVariants.{Zeros}
use Rattle.page_code.specs.OneDimension.OpenRows.{IsOpenRow}
use Rattle.page_code.specs.declared.page_reader.PageRead.{PageRead}
use Rattle.page_code.specs.declared.page_reader.PageRead.TheVariants.{Page, Refused}
use Rattle.page_code.specs.declared.page_reader.RefusedCode.{RefusedCode}
use Rattle.page_code.specs.Codings.{IsLongestIn, ReadsIn, read_rows}
use Rattle.page_code.specs.PageCodes.{ReadsPage, RefusesPage}
use Rattle.page_code.specs.RowsSoFar.{AreRowsSoFar, AreWholeRows, IsReadTo}
use Rattle.page_code.specs.TurnedCodes.{AreTurned}

-- A reader of a page that comes in pieces: the code, the order of bits, the page read so far, the place in the bits after its rows, what
-- was passed of the next row, the number of whole rows found, and the octets that are kept turned.
pub record PageReading : Type 0 where
  pub coding : Coding
  pub order : Order
  pub page : PagePixels
  pub place : ℕ
  pub passed : OpenRow
  pub count : ℕ
  pub turned : List ℕ

-- what was passed of the row after these rows comes there; in T.6 nothing is passed
abbrev pub IsPassed : Coding → ℕ → List Bool → List (List Color) → ℕ → OpenRow → Type 0
IsPassed OneDim width bits rows place row = IsOpenRow width bits rows place row
IsPassed T6 width bits rows place row = row ≡ Zeros 0

-- The reader has read these octets: their bits begin with the rows that it keeps, and what it passed of the next row comes after them; they
-- spell the number of whole rows that it found; the octets that it keeps turned are the first of them.
pub record StandsFor (reader : PageReading) (octets : List ℕ) : Type 0 where
  pub kept : IsReadTo reader.coding reader.page.width (bits_of reader.order octets) reader.page.rows reader.place
  pub passed : IsPassed reader.coding reader.page.width (bits_of reader.order octets) reader.page.rows reader.place reader.passed
  pub counted : AreRowsSoFar reader.coding reader.page.width (bits_of reader.order octets) reader.count
  pub turned : AreTurned reader.turned octets

-- the octets begin with the ones that the reader has read
pub record GoesOnTo (reader : PageReading) (all : List ℕ) : Type 0 where
  pub octets : List ℕ
  pub more : List ℕ
  pub stands : StandsFor reader octets
  pub begins : all ≡ octets ++ more

-- the new reader reads pages of the same code, order, width and lines as the old one
pub record IsLike (old new : PageReading) : Type 0 where
  pub coding : new.coding ≡ old.coding
  pub order : new.order ≡ old.order
  pub width : new.page.width ≡ old.page.width
  pub fine : new.page.fine ≡ old.page.fine

-- the new reader has read the octets that the old one had read
abbrev pub StandsAsBefore : PageReading → PageReading → Type 0
StandsAsBefore old new = IsLike old new × ((octets : List ℕ) → StandsFor old octets → StandsFor new octets)

-- the bits read as this page and as no other, with `used` of them used, and reading gives it
pub record IsPageRead (coding : Coding) (width : ℕ) (fine : Bool) (bits : List Bool) (page : PagePixels) (used : ℕ) : Type 0 where
  pub reads : ReadsPage (ReadsIn coding) width fine bits page used
  pub only : (rows : List (List Color)) (n : ℕ) → ReadsIn coding width bits rows n → (page.rows ≡ rows) × (used ≡ n)
  pub gives : read_rows coding width bits ≡ Ok (page.rows, used)

-- The bits read as no page, and reading gives this refusal, never NoMemory; before it the bits spell this number of whole rows, which
-- were read up to the bit `row_start`.
pub record IsPageRefused (coding : Coding) (width : ℕ) (bits : List Bool) (refused : RefusedCode) : Type 0 where
  pub refuses : RefusesPage (ReadsIn coding) (IsLongestIn coding) width bits refused.fault
  pub gives : read_rows coding width bits ≡ Err (refused.fault.place, refused.fault.kind)
  pub memory : refused.fault.kind ≢ NoMemory
  pub counted : AreRowsSoFar coding width bits refused.rows
  pub row_start : (rows : List (List Color)) × (length rows ≡ refused.rows) × IsReadTo coding width bits rows refused.row_start

-- The page has the width, the lines and all whole rows that the bits spell from the beginning, one after the other: as many as the
-- refusal counts, read up to the bit that it says.
pub record HasRowsBefore (coding : Coding) (width : ℕ) (fine : Bool) (bits : List Bool) (refused : RefusedCode) (page : PagePixels)
    : Type 0 where
  pub width_is : page.width ≡ width
  pub fine_is : page.fine ≡ fine
  pub whole : AreWholeRows coding width bits page.rows
  pub counted : length page.rows ≡ refused.rows
  pub row_start : IsReadTo coding width bits page.rows refused.row_start

-- the result of reading bits: a page, or a refusal with the whole rows before it
abbrev pub IsRead : Coding → ℕ → Bool → List Bool → PageRead → Type 0
IsRead coding width fine bits (Page page used) = IsPageRead coding width fine bits page used
IsRead coding width fine bits (Refused refused rows) = IsPageRefused coding width bits refused
    × HasRowsBefore coding width fine bits refused rows

-- after a page the reader has read no octets, and after a refusal the ones that it had read before
abbrev pub StandsAfter : PageReading → PageReading → PageRead → Type 0
StandsAfter old new (Page page used) = StandsFor new []
StandsAfter old new (Refused refused rows) = StandsAsBefore old new
