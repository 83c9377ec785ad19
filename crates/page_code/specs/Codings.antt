-- Pages in either code: the code of a page, what bits read as, and which bits read as a page.
use Rattle.std.specs.Prelude.{ℕ, ◌≡◌, ◌<◌, ◌≤◌, ◌↔◌, ◌⊎◌, ◌++◌, Bool, List, length, All, Result, Ok, Err}
use Rattle.raster.specs.declared.row.Color.{Color}
use Rattle.raster.specs.Pixels.{IsWidth}
use Rattle.raster.specs.Pages.{max_rows}
use Rattle.run_tables.specs.declared.fault.CodeFaultKind.{CodeFaultKind}
use Rattle.raster.specs.declared.coding.Coding.{Coding}
use Rattle.raster.specs.declared.coding.Coding.TheVariants.{OneDim, T6}
use Rattle.page_code.specs.PageCodes.{ReadsItsCode}
use Rattle.page_code.specs.OneDimension.Pages.{ReadsAs, page_words}
use Rattle.page_code.specs.OneDimension.Fronts.{read_page as read_one_dim}
use Rattle.page_code.specs.OneDimension.Kinds.{IsRefusedPage as IsRefusedOneDim}
use Rattle.page_code.specs.OneDimension.Laws.{IsLongestFront as IsLongestOneDim}
use Rattle.page_code.specs.TwoDimensions.Code.{page_code}
use Rattle.page_code.specs.TwoDimensions.Modes.{ReadsAsPage}
use Rattle.page_code.specs.TwoDimensions.Fronts.{read_page as read_t6}
use Rattle.page_code.specs.TwoDimensions.Kinds.{IsRefusedPage as IsRefusedT6}
use Rattle.page_code.specs.TwoDimensions.Laws.{IsLongestFront as IsLongestT6}

-- the prescribed code of rows of a width, by the name of a code
unfoldable pub code_of : Coding → ℕ → List (List Color) → List Bool
code_of OneDim width rows = page_words rows
code_of T6 width rows = page_code width rows

-- the bits read as rows of this width, with `used` of them used, in the code of this name
unfoldable pub ReadsIn : Coding → ℕ → List Bool → List (List Color) → ℕ → Type 0
ReadsIn OneDim width bits rows used = ReadsAs width bits rows used
ReadsIn T6 width bits rows used = ReadsAsPage width bits rows used

-- the result of reading bits in the code of this name: the rows and the bits used, or the place and the kind of a refusal
unfoldable pub read_rows : Coding → ℕ → List Bool → Result (List (List Color) × ℕ) (ℕ × CodeFaultKind)
read_rows OneDim width bits = read_one_dim width bits
read_rows T6 width bits = read_t6 width bits

-- no front of the bits is longer, in the code of this name, and this kind of refusal is seen after it
unfoldable pub IsLongestIn : Coding → ℕ → List Bool → ℕ → CodeFaultKind → Type 0
IsLongestIn OneDim width bits place kind = IsLongestOneDim width bits place kind
IsLongestIn T6 width bits place kind = IsLongestT6 width bits place kind

-- the refusal of a page in the code of this name: whole items of a page, `place` bits, begin the bits, and for this reason the page goes
-- no further
unfoldable pub IsRefusedIn : Coding → ℕ → List Bool → ℕ → CodeFaultKind → Type 0
IsRefusedIn OneDim width bits place kind = IsRefusedOneDim width bits place kind
IsRefusedIn T6 width bits place kind = IsRefusedT6 width bits place kind

-- Laws of pages in either code

-- law: a page is read exactly if the bits read as it
abbrev pub ReadsExactly : Type 0
ReadsExactly = (coding : Coding) (width : ℕ) (bits : List Bool) (rows : List (List Color)) (used : ℕ) → IsWidth width
    → (read_rows coding width bits ≡ Ok (rows, used)) ↔ ReadsIn coding width bits rows used

-- law: bits that are refused read as no page
abbrev pub RefusesNoPage : Type 0
RefusesNoPage =
    (coding : Coding) (width : ℕ) (bits : List Bool) (place : ℕ) (kind : CodeFaultKind) (rows : List (List Color)) (used : ℕ)
    → IsWidth width → read_rows coding width bits ≡ Err (place, kind) → ¬ ReadsIn coding width bits rows used

-- law: the place of a refusal is the length of the longest front, and its kind is what is seen in the bits after it
abbrev pub RefusesAtLongest : Type 0
RefusesAtLongest = (coding : Coding) (width : ℕ) (bits : List Bool) (place : ℕ) (kind : CodeFaultKind)
    → read_rows coding width bits ≡ Err (place, kind) → IsLongestIn coding width bits place kind

-- law of the refusals of pages, in either code: exactly where a page goes no further, and why
pub record RefusesExactly : Type 0 where
  -- reading is refused exactly where the page goes no further after whole items, and for that reason
  pub named : (coding : Coding) (width : ℕ) (bits : List Bool) (place : ℕ) (kind : CodeFaultKind) → IsWidth width
      → (read_rows coding width bits ≡ Err (place, kind)) ↔ IsRefusedIn coding width bits place kind
  -- bits read as a page, or have a refusal
  pub some : (coding : Coding) (width : ℕ) (bits : List Bool) → IsWidth width
      → ((rows : List (List Color)) × (used : ℕ) × ReadsIn coding width bits rows used)
      ⊎ ((place : ℕ) × (kind : CodeFaultKind) × IsRefusedIn coding width bits place kind)
  -- bits that read as a page have no refusal
  pub none : (coding : Coding) (width : ℕ) (bits : List Bool) (rows : List (List Color)) (used place : ℕ) (kind : CodeFaultKind)
      → IsWidth width → ReadsIn coding width bits rows used → ¬ IsRefusedIn coding width bits place kind
  -- bits don't have two refusals
  pub one : (coding : Coding) (width : ℕ) (bits : List Bool) (p q : ℕ) (a b : CodeFaultKind) → IsWidth width
      → IsRefusedIn coding width bits p a → IsRefusedIn coding width bits q b → (p ≡ q) × (a ≡ b)

-- law: the code of a page, followed by any bits, reads as the page with the code's length
abbrev pub ReadsCode : Type 0
ReadsCode = (coding : Coding) → ReadsItsCode (code_of coding) (ReadsIn coding)

-- law: reading the code of a page, followed by any bits, gives the page and the code's length
abbrev pub GivesCodedRows : Type 0
GivesCodedRows =
    (coding : Coding) (width : ℕ) (rows : List (List Color)) (rest : List Bool) → IsWidth width
    → 0 < length rows → length rows ≤ max_rows → All (λ row. length row ≡ width) rows
    → read_rows coding width (code_of coding width rows ++ rest) ≡ Ok (rows, length (code_of coding width rows))
