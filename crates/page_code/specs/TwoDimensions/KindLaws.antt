-- Laws of refused T.6 pages (ITU-T T.6, 2.2 and 2.4): where a page goes no further, and why.
use Rattle.std.specs.Prelude.{ℕ, ◌≡◌, ◌≤◌, ◌⊎◌, ◌↔◌, Bool, List, [], ◌++◌, length, codes, Err}
use Rattle.raster.specs.declared.row.Color.{Color}
use Rattle.raster.specs.Pixels.{IsWidth}
use Rattle.run_tables.specs.declared.fault.CodeFaultKind.{CodeFaultKind}
use Rattle.run_tables.specs.declared.fault.CodeFaultKind.TheVariants.{NoRows, BadCode, Truncated, Backwards, PastEnd, EmptyHorizontal}
use Rattle.run_tables.specs.declared.fault.CodeFaultKind.TheVariants.{Extension, MissingEofb}
use Rattle.run_tables.specs.Codes.{text}
use Rattle.run_tables.specs.Fronts.{Walk, spell}
use Rattle.page_code.specs.TwoDimensions.Modes.{ReadsAsPage}
use Rattle.page_code.specs.TwoDimensions.Fronts.{PageState, PageItem, page_item_word, PageStep, page_begin, read_page}
use Rattle.page_code.specs.TwoDimensions.Fronts.PageState.{between, inside, running}
use Rattle.page_code.specs.TwoDimensions.Kinds.{IsPagePart, BeginsWithCode, EndsInCode, IsRefusedWord, PageKind, IsRefusedPage}

-- law: one place of a page has one kind of refusal
abbrev pub OneKind : Type 0
OneKind =
    (width : ℕ) (front : List Bool) (state : PageState) (x : List Bool) (a b : CodeFaultKind) → IsWidth width
    → IsPagePart width front state → PageKind width state x a → PageKind width state x b → a ≡ b

-- law of the refusals of pages: exactly where a page goes no further, and why
pub record RefusesPagesExactly : Type 0 where
  -- reading is refused exactly where the page goes no further after whole codes, and for that reason
  pub named : (width : ℕ) (x : List Bool) (place : ℕ) (kind : CodeFaultKind) → IsWidth width
      → (read_page width x ≡ Err (place, kind)) ↔ IsRefusedPage width x place kind
  -- bits read as a page, or have a refusal
  pub some : (width : ℕ) (x : List Bool) → IsWidth width → ((rows : List (List Color)) × (used : ℕ) × ReadsAsPage width x rows used)
      ⊎ ((place : ℕ) × (kind : CodeFaultKind) × IsRefusedPage width x place kind)
  -- bits that read as a page have no refusal
  pub none : (width : ℕ) (x : List Bool) (rows : List (List Color)) (used place : ℕ) (kind : CodeFaultKind) → IsWidth width
      → ReadsAsPage width x rows used → ¬ IsRefusedPage width x place kind
  -- bits don't have two refusals
  pub one : (width : ℕ) (x : List Bool) (p q : ℕ) (a b : CodeFaultKind) → IsWidth width → IsRefusedPage width x p a
      → IsRefusedPage width x q b → (p ≡ q) × (a ≡ b)
  -- no more bits are whole codes of a page
  pub longest : (width : ℕ) (x : List Bool) (place : ℕ) (kind : CodeFaultKind) (front rest : List Bool) (state : PageState) → IsWidth width
      → IsRefusedPage width x place kind → IsPagePart width front state → x ≡ front ++ rest → length front ≤ place

-- law: the fronts that a reader goes over are whole codes of a page, and whole codes are fronts
pub record FrontsAreParts : Type 0 where
  pub parts : (width : ℕ) (items : List PageItem) (state : PageState) → IsWidth width
      → Walk (PageStep width) (page_begin width) items state → IsPagePart width (spell page_item_word items) state
  pub fronts : (width : ℕ) (front : List Bool) (state : PageState) → IsWidth width → IsPagePart width front state
      → (items : List PageItem) × Walk (PageStep width) (page_begin width) items state × (spell page_item_word items ≡ front)

-- the whole rows before a place of a page
abbrev pub rows_before : PageState → List (List Color)
rows_before (between page) = page.rows
rows_before (inside page line) = page.rows
rows_before (running page line first makeup) = page.rows

-- law: whole codes of a page can go on, and what is refused can't
pub record FrontsGoOn : Type 0 where
  -- after whole codes are bits with which they read as a page of the width, whose first rows are those before
  pub goes_on : (width : ℕ) (front : List Bool) (state : PageState) → IsWidth width → IsPagePart width front state
      → (more : List Bool) × (rows : List (List Color)) × ReadsAsPage width (front ++ more) rows (length (front ++ more))
      × ((later : List (List Color)) × (rows ≡ rows_before state ++ later))
  -- if a refused code word comes after them, the bits read as no page, whatever follows
  pub refused_word : (width : ℕ) (front : List Bool) (state : PageState) (word : List Bool) (kind : CodeFaultKind) → IsWidth width
      → IsPagePart width front state → IsRefusedWord width state word kind → (more : List Bool) (rows : List (List Color)) (used : ℕ)
      → ¬ ReadsAsPage width (front ++ (word ++ more)) rows used
  -- nor if bits come after them that neither begin with a valid code nor end in one
  pub no_code : (width : ℕ) (front : List Bool) (state : PageState) (rest : List Bool) → IsWidth width → IsPagePart width front state
      → ¬ BeginsWithCode state rest → ¬ EndsInCode state rest → (more : List Bool) (rows : List (List Color)) (used : ℕ)
      → ¬ ReadsAsPage width (front ++ (rest ++ more)) rows used

-- refused pages that were coded by hand from the tables
pub record AreRefusedPages : Type 0 where
  -- nothing; an extension, and nothing after it
  pub nothing : IsRefusedPage 8 [] 0 MissingEofb
  pub extension_first : IsRefusedPage 8 (text (codes "00000010")) 0 Extension
  pub extension_alone : IsRefusedPage 8 (text (codes "0000001")) 0 Extension
  -- after a white row: only 0 bits, a beginning of EOFB, EOFB with a wrong bit
  pub no_eofb : IsRefusedPage 8 (text (codes "10000000")) 1 MissingEofb
  pub half_eofb : IsRefusedPage 8 (text (codes "100000000000100000000000")) 1 Truncated
  pub eofb_with_other_bits : IsRefusedPage 8 (text (codes "100000000000100000001")) 1 BadCode
  -- a run code that is cut
  pub cut_run : IsRefusedPage 8 (text (codes "00100000")) 3 Truncated
  -- vertical modes past the width and back
  pub past_end : IsRefusedPage 8 (text (codes "01100000")) 0 PastEnd
  pub backwards : IsRefusedPage 8 (text (codes "001001101010101010000000")) 15 Backwards
  pub backwards_first : IsRefusedPage 8 (text (codes "001000111000110000010000")) 14 Backwards
  -- two runs of 0
  pub empty_horizontal : IsRefusedPage 8 (text (codes "001001101010000110111000")) 11 EmptyHorizontal
  -- EOFB before any row
  pub no_rows : IsRefusedPage 8 (text (codes "000000000001000000000001")) 0 NoRows
  -- a make-up code past the width, whatever follows it
  pub long_run : IsRefusedPage 8 (text (codes "00111011")) 3 PastEnd
  -- a make-up code after a make-up code
  pub two_makeups : IsRefusedPage 100 (text (codes "0011101111011")) 8 BadCode
  -- in a row: 0 bits, a cut mode code, nothing, an extension, EOFB
  pub zeros_inside : IsRefusedPage 8 (text (codes "0010111110000000")) 9 BadCode
  pub six_zeros_inside : IsRefusedPage 8 (text (codes "001011111000000")) 9 BadCode
  pub cut_inside : IsRefusedPage 8 (text (codes "001011111000001")) 9 Truncated
  pub end_inside : IsRefusedPage 8 (text (codes "001011111")) 9 Truncated
  pub extension_inside : IsRefusedPage 8 (text (codes "0010111110000001")) 9 Extension
  pub eofb_inside : IsRefusedPage 8 (text (codes "001011111000000000001000000000001")) 9 BadCode
  -- where a row may begin: a cut mode code, only 0 bits
  pub cut_first : IsRefusedPage 8 (text (codes "000001")) 0 Truncated
  pub zeros_first : IsRefusedPage 8 (text (codes "00000000")) 0 MissingEofb
