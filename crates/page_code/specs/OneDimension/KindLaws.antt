-- Laws of refused pages in the one-dimensional code (ITU-T T.4, 4.1): where a page goes no further, and why.
use Rattle.std.specs.Prelude.{ℕ, ◌≡◌, ◌+◌, ◌<◌, ◌≤◌, ◌⊎◌, ◌↔◌, Bool, List, [], ◌++◌, length, Err, codes}
use Rattle.raster.specs.declared.row.Color.{Color}
use Rattle.raster.specs.Pixels.{IsWidth}
use Rattle.run_tables.specs.declared.fault.CodeFaultKind.{CodeFaultKind}
use Rattle.run_tables.specs.declared.fault.CodeFaultKind.TheVariants.{NoRows, BadCode, Truncated, RunTooLong, TooManyCodedRows}
use Rattle.run_tables.specs.declared.reader.Among.{Among}
use Rattle.run_tables.specs.Codes.{text}
use Rattle.run_tables.specs.Kinds.{MayCome}
use Rattle.page_code.specs.OneDimension.Fronts.{read_page}
use Rattle.page_code.specs.OneDimension.Kinds.{PagePlace, IsPagePart, IsBeforeCode, PageKind, IsRefusedPage}
use Rattle.page_code.specs.OneDimension.Kinds.PagePlace.{line_begin}
use Rattle.page_code.specs.OneDimension.Pages.{eol_word, ReadsAs}

-- law of the refusals of pages: exactly where a page goes no further, and why
pub record RefusesPagesExactly : Type 0 where
  -- reading is refused exactly where the page goes no further after whole items, and for that reason
  pub named : (width : ℕ) (x : List Bool) (place : ℕ) (kind : CodeFaultKind) → IsWidth width
      → (read_page width x ≡ Err (place, kind)) ↔ IsRefusedPage width x place kind
  -- bits read as a page, or have a refusal
  pub some : (width : ℕ) (x : List Bool) → IsWidth width → ((page : List (List Color)) × (used : ℕ) × ReadsAs width x page used)
      ⊎ ((place : ℕ) × (kind : CodeFaultKind) × IsRefusedPage width x place kind)
  -- bits that read as a page have no refusal
  pub none : (width : ℕ) (x : List Bool) (page : List (List Color)) (used place : ℕ) (kind : CodeFaultKind) → IsWidth width
      → ReadsAs width x page used → ¬ IsRefusedPage width x place kind
  -- bits don't have two refusals
  pub one : (width : ℕ) (x : List Bool) (p q : ℕ) (a b : CodeFaultKind) → IsWidth width → IsRefusedPage width x p a
      → IsRefusedPage width x q b → (p ≡ q) × (a ≡ b)
  -- no more bits are whole items of a page
  pub longest : (width : ℕ) (x : List Bool) (place : ℕ) (kind : CodeFaultKind) (front rest : List Bool) (at : PagePlace) → IsWidth width
      → IsRefusedPage width x place kind → IsPagePart width front at → x ≡ front ++ rest → length front ≤ place

-- law: one place of a page has one kind of refusal
abbrev pub OneKind : Type 0
OneKind = (width : ℕ) (at : PagePlace) (x : List Bool) (a b : CodeFaultKind) → PageKind width at x a → PageKind width at x b → a ≡ b

-- law: whole items of a page can go on, and what is refused after them can't
pub record FrontsGoOn : Type 0 where
  -- after whole items are bits with which they read as a page
  pub goes_on : (width : ℕ) (front : List Bool) (at : PagePlace) → IsWidth width → IsPagePart width front at
      → (page : List (List Color)) × (more : List Bool) × (used : ℕ) × ReadsAs width (front ++ more) page used
  -- if a run code that passes the width comes after them, the bits read as no page, whatever follows
  pub too_long : (width : ℕ) (front : List Bool) (at : PagePlace) (so_far : ℕ) (color : Color) (among : Among) (run : ℕ) (word : List Bool)
      → IsWidth width → IsPagePart width front at → IsBeforeCode at so_far color among → MayCome color among run word
      → width < so_far + run → (more : List Bool) (page : List (List Color)) (used : ℕ)
      → ¬ ReadsAs width (front ++ (word ++ more)) page used
  -- if a second EOL comes after the first, before any row, the bits read as no page
  pub second_eol : (width : ℕ) (front : List Bool) (count : ℕ) → IsWidth width → IsPagePart width front (line_begin 0) → 11 ≤ count
      → (more : List Bool) (page : List (List Color)) (used : ℕ) → ¬ ReadsAs width (front ++ (eol_word count ++ more)) page used
  -- bits that are refused as BadCode, or before a 20,001st row, read as no page, whatever follows
  pub no_item : (width : ℕ) (x : List Bool) (place : ℕ) (kind : CodeFaultKind) → IsWidth width
      → (kind ≡ BadCode) ⊎ (kind ≡ TooManyCodedRows) → IsRefusedPage width x place kind → (more : List Bool) (page : List (List Color))
      (used : ℕ) → ¬ ReadsAs width (x ++ more) page used

-- refused pages that were coded by hand from the tables
pub record AreRefusedPages : Type 0 where
  -- no bit; only 0 bits; an EOL and only 0 bits; two EOLs
  pub nothing : IsRefusedPage 8 [] 0 NoRows
  pub zeros : IsRefusedPage 8 (text (codes "00000000")) 0 NoRows
  pub eol_and_zeros : IsRefusedPage 8 (text (codes "000000000001000000000000")) 12 NoRows
  pub two_eols : IsRefusedPage 8 (text (codes "000000000001000000000001")) 12 NoRows
  -- after an EOL eight 0 bits and a 1, with which no code begins; a white make-up code of 64
  pub no_code : IsRefusedPage 8 (text (codes "000000000001000000001000")) 12 BadCode
  pub too_long : IsRefusedPage 8 (text (codes "000000000001101000000000")) 12 RunTooLong
  -- after an EOL and white 3 of 8: no bit; seven 0 bits, with which make-up codes begin; nine, with which none does
  pub inside_a_row : IsRefusedPage 8 (text (codes "0000000000011000")) 16 Truncated
  pub seven_zeros : IsRefusedPage 8 (text (codes "00000000000110000000000")) 16 Truncated
  pub nine_zeros : IsRefusedPage 8 (text (codes "0000000000011000000000000")) 16 BadCode
  -- after a make-up code: seven 0 bits; six; another make-up code; a terminating code past the width
  pub seven_zeros_after_makeup : IsRefusedPage 128 (text (codes "110110000000")) 5 BadCode
  pub six_zeros_after_makeup : IsRefusedPage 128 (text (codes "11011000000")) 5 Truncated
  pub makeup_after_makeup : IsRefusedPage 2432 (text (codes "1101111011")) 5 BadCode
  pub rest_too_long : IsRefusedPage 65 (text (codes "110110111000")) 5 RunTooLong
  -- after a row neither an EOL nor only 0 bits
  pub no_eol : IsRefusedPage 8 (text (codes "1001100001")) 5 BadCode
