-- What the commands that code, show and decode pages do with what they read.
use Rattle.std.specs.Prelude.{ℕ, ◌≡◌, ◌≢◌, ◌≤◌, ◌<◌, ◌⊎◌, Bool, false, List, [], ◌∷◌, ◌++◌, Option, length, Err, MatchResult}
use Rattle.std.specs.Io.KnownBytes.{Appends}
use Rattle.raster.specs.declared.packed.Order.{Order}
use Rattle.raster.specs.declared.row.Color.{Color}
use Rattle.raster.specs.Faults.{number_of}
use Rattle.raster.specs.Packed.{bits_of, FillsOctets}
use Rattle.raster.specs.Pages.{PagePixels}
use Rattle.raster.specs.Pbm.{AreImages, read_images}
use Rattle.raster.specs.PbmText.{AppendsSome, ArePagesText}
use Rattle.raster.specs.Text.{page_text}
use Rattle.raster.specs.declared.fault.RasterFault.{RasterFault}
use Rattle.run_tables.specs.declared.fault.CodeFault.{CodeFault}
use Rattle.run_tables.specs.declared.fault.CodeFaultKind.TheVariants.{NoMemory}
use Rattle.run_tables.specs.Faults.{number_of as kind_number}
use Rattle.page_code.specs.declared.Coding.{Coding}
use Rattle.page_code.specs.Codings.{IsLongestIn, ReadsIn, code_of}
use Rattle.page_code.specs.PageCodes.{ReadsPage, RefusesPage}
use Rattle.page_code.specs.RowCoders.{CodesRows, RowCoding}
use Rattle.page_code.specs.RowsSoFar.{AreWholeRows}
use Rattle.faults.specs.Faults.{IsOutside}
use Rattle.faults.specs.declared.fault.ToolFault.{ToolFault}
use Rattle.page_files.specs.declared.pages.Salvage.{Salvage}
use Rattle.faults.specs.declared.fault.ToolFault.TheVariants.{No, AtBit}

-- the octets read are exactly one PBM image, and its code is written, filled with 0 bits to a whole octet
pub record CodesImage (coding : Coding) (order : Order) (before after : Option (List ℕ)) (octets : List ℕ) : Type 0 where
  pub page : PagePixels
  pub image : AreImages false octets (page ∷ [])
  pub code : List ℕ
  pub coded : FillsOctets order (code_of coding page.width page.rows) code
  pub written : Appends before after code

-- the code of a page's rows, in this coding and bit order and filled with 0 bits to a whole octet, is written
abbrev pub AppendsCode : Coding → Order → ℕ → List (List Color) → Option (List ℕ) → Option (List ℕ) → Type 0
AppendsCode coding order width rows before after = AppendsSome (FillsOctets order (code_of coding width rows)) before after

-- of the octets that a coder handed out for these rows, the first are written and the others are still held
abbrev pub HoldsCode : RowCoding → List (List Color) → List ℕ → Option (List ℕ) → Option (List ℕ) → Type 0
HoldsCode coder rows held before after = AppendsSome (λ octets. CodesRows coder rows (octets ++ held)) before after

-- the octets are two images or more: `SeveralPages` (27)
abbrev pub AreSeveral : List ℕ → ToolFault → Type 0
AreSeveral octets fault = (pages : List PagePixels) × AreImages false octets pages × (2 ≤ length pages) × (fault ≡ No 27)

-- the octets are not a list of images: the fault is the first one in them
abbrev pub AreNoImages : List ℕ → ToolFault → Type 0
AreNoImages octets fault = (first : RasterFault) × (read_images false octets ≡ Err first) × (fault ≡ No (number_of first))

-- Why no code was written: the first fault of octets that are not a list of images, or `SeveralPages` (27). A reader, a writer or memory
-- may fail too.
abbrev pub RefusesImage : List ℕ → ToolFault → Type 0
RefusesImage octets fault = IsOutside fault ⊎ (AreNoImages octets fault ⊎ AreSeveral octets fault)

-- the octets read begin with a page's code, and the page's text is written
pub record ShowsPage (coding : Coding) (order : Order) (width : ℕ) (before after : Option (List ℕ)) (octets : List ℕ) : Type 0 where
  pub rows : List (List Color)
  pub used : ℕ
  pub reads : ReadsIn coding width (bits_of order octets) rows used
  pub written : Appends before after (page_text rows)

-- The octets read begin with the code of a page, `used` bits long. The image of the page, which has `rows` rows, is written.
pub record DecodesPage (coding : Coding) (order : Order) (width : ℕ) (fine : Bool) (before after : Option (List ℕ)) (rows used : ℕ)
    (octets : List ℕ) : Type 0 where
  pub page : PagePixels
  pub read : ReadsPage (ReadsIn coding) width fine (bits_of order octets) page used
  pub rows_are : rows ≡ length page.rows
  pub written : AppendsSome (ArePagesText (page ∷ [])) before after

-- the image of a page is written; a page without a row writes nothing
abbrev pub WritesPage : PagePixels → Option (List ℕ) → Option (List ℕ) → Type 0
WritesPage page before after = (0 < length page.rows → AppendsSome (ArePagesText (page ∷ [])) before after)
    × (length page.rows ≡ 0 → after ≡ before)

-- the octets read begin with no page's code: the refusal's number, at its bit
pub record RefusesCode (coding : Coding) (order : Order) (width : ℕ) (octets : List ℕ) (fault : ToolFault) : Type 0 where
  pub code_fault : CodeFault
  pub refuses : RefusesPage (ReadsIn coding) (IsLongestIn coding) width (bits_of order octets) code_fault
  pub other : code_fault.kind ≢ NoMemory
  pub is : fault ≡ AtBit (kind_number code_fault.kind) code_fault.place

-- Why no page was shown or decoded: the octets begin with no page's code, and the fault has the kind of the refusal and its bit. A reader,
-- a writer or memory may fail too.
abbrev pub RefusesShow : Coding → Order → ℕ → List ℕ → ToolFault → Type 0
RefusesShow coding order width octets fault = IsOutside fault ⊎ RefusesCode coding order width octets fault

-- The octets read begin with no page's code. All whole rows before the refused bit are written as an image of this width; without a whole
-- row nothing is written.
pub record SalvagesRows (coding : Coding) (order : Order) (width : ℕ) (fine : Bool) (before after : Option (List ℕ)) (rows : ℕ)
    (fault : ToolFault) (octets : List ℕ) : Type 0 where
  pub refused : RefusesCode coding order width octets fault
  pub page : PagePixels
  pub width_is : page.width ≡ width
  pub fine_is : page.fine ≡ fine
  pub whole : AreWholeRows coding width (bits_of order octets) page.rows
  pub rows_are : rows ≡ length page.rows
  pub written : 0 < rows → AppendsSome (ArePagesText (page ∷ [])) before after
  pub not_written : rows ≡ 0 → after ≡ before

-- The page is written as `decode` writes it. If the octets begin with no page's code, the fault is returned, and all whole rows before the
-- refused bit are written as an image of this width; without a whole row nothing is written.
abbrev pub SalvagesPage : Coding → Order → ℕ → Bool → Option (List ℕ) → Option (List ℕ) → Salvage → List ℕ → Type 0
SalvagesPage coding order width fine before after salvage octets = MatchResult salvage.end
    (λ bits. DecodesPage coding order width fine before after salvage.rows bits octets)
    (λ fault. SalvagesRows coding order width fine before after salvage.rows fault octets)
