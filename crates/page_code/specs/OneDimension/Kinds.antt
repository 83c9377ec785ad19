-- Why the bits of a page in the one-dimensional code are refused (ITU-T T.4, 4.1): where whole items of a page lead, and why the page
-- goes no further there, in the grammar's words. How bits are read doesn't matter here.
use Rattle.std.specs.Prelude.{ℕ, ◌≡◌, ◌≢◌, ◌<◌, ◌≤◌, ◌⊎◌, Bool, List, [], ◌++◌, length}
use Rattle.raster.specs.declared.row.Color.{Color}
use Rattle.raster.specs.declared.row.Color.TheVariants.{White}
use Rattle.raster.specs.Pages.{max_rows}
use Rattle.run_tables.specs.declared.fault.CodeFaultKind.{CodeFaultKind}
use Rattle.run_tables.specs.declared.fault.CodeFaultKind.TheVariants.{NoRows, BadCode, TooManyCodedRows}
use Rattle.run_tables.specs.declared.reader.Among.{Among}
use Rattle.run_tables.specs.declared.reader.Among.TheVariants.{AllCodes}
use Rattle.run_tables.specs.Kinds.{RowKind, IsRowPart}
use Rattle.page_code.specs.OneDimension.Pages.{eol_word, EolBegins, AreZeros, IsLead, SpellsRows}

-- ---- places in a page

-- A place in a page: before the page; after an EOL, with the number of rows before it; inside a row, with the number of its pixels so
-- far, before a code of this color among these; after a whole row.
pub data PagePlace : Type 0 where
  page_begin : PagePlace
  line_begin : ℕ → PagePlace
  in_row : ℕ → Color → Among → PagePlace
  line_end : PagePlace

-- no EOL or one, and rows of the width, one or more, with one EOL between two
abbrev pub AreRows : ℕ → List Bool → List (List Color) → Type 0
AreRows width front rows = (lead : List Bool) × (bits : List Bool) × IsLead lead × SpellsRows width rows bits × (front ≡ lead ++ bits)

-- the beginning of a line: an EOL, the first of the page or one after rows
abbrev pub IsLineBegin : ℕ → List Bool → List (List Color) → Type 0
IsLineBegin width front rows =
    ((count : ℕ) × (11 ≤ count) × (rows ≡ []) × (front ≡ eol_word count)) ⊎
    ((before : List Bool) × (count : ℕ) × AreRows width before rows × (11 ≤ count) × (front ≡ before ++ eol_word count))

-- a row may begin after these bits: there are no bits, or they end with an EOL
abbrev pub MayBeginRow : ℕ → List Bool → List (List Color) → Type 0
MayBeginRow width front rows = ((front ≡ []) × (rows ≡ [])) ⊎ IsLineBegin width front rows

-- Whole items of a page of at most 20,000 rows lead to the place: nothing; an EOL, the first of the page or one after rows; whole codes
-- of a row, where one may begin; or rows, one or more, with one EOL between two, after no EOL or one.
abbrev pub IsPagePart : ℕ → List Bool → PagePlace → Type 0
IsPagePart width front page_begin = front ≡ []
IsPagePart width front (line_begin count) = (rows : List (List Color)) × IsLineBegin width front rows × (length rows ≤ max_rows)
    × (count ≡ length rows)
IsPagePart width front (in_row so_far color among) = (rows : List (List Color)) × (before : List Bool) × (codes : List Bool)
    × MayBeginRow width before rows × (length rows < max_rows) × IsRowPart width codes so_far color among × (codes ≢ [])
    × (front ≡ before ++ codes)
IsPagePart width front line_end = (rows : List (List Color)) × AreRows width front rows × (length rows ≤ max_rows)

-- ---- refusals

-- neither an EOL nor only 0 bits come
abbrev pub GoesOnInLine : List Bool → Type 0
GoesOnInLine x = (¬ EolBegins x) × (¬ AreZeros x)

-- why the page goes no further from the place on
abbrev pub PageKind : ℕ → PagePlace → List Bool → CodeFaultKind → Type 0
-- before the page: NoRows if only 0 bits or nothing is left; else why its first row has no first code
PageKind width page_begin x NoRows = AreZeros x
PageKind width page_begin x kind = GoesOnInLine x × RowKind width 0 White AllCodes x kind
-- after an EOL: NoRows if it is the first and only 0 bits, nothing or a second EOL comes; TooManyCodedRows if a 20,001st row would
-- begin; else why a row has no first code
PageKind width (line_begin rows) x NoRows = (rows ≡ 0) × (AreZeros x ⊎ EolBegins x)
PageKind width (line_begin rows) x TooManyCodedRows = (max_rows ≤ rows) × GoesOnInLine x
PageKind width (line_begin rows) x kind = (rows < max_rows) × GoesOnInLine x × RowKind width 0 White AllCodes x kind
-- in a row: why the row goes no further
PageKind width (in_row so_far color among) x kind = RowKind width so_far color among x kind
-- after a row: BadCode if no EOL follows, and the rest isn't only 0 bits
PageKind width line_end x BadCode = GoesOnInLine x
PageKind width line_end x kind = ⊥

-- a run code is valid at the place, after `so_far` pixels of its row
abbrev pub IsBeforeCode : PagePlace → ℕ → Color → Among → Type 0
IsBeforeCode page_begin so_far color among = (so_far ≡ 0) × (color ≡ White) × (among ≡ AllCodes)
IsBeforeCode (line_begin rows) so_far color among = (rows < max_rows) × (so_far ≡ 0) × (color ≡ White) × (among ≡ AllCodes)
IsBeforeCode (in_row pixels next these) so_far color among = (so_far ≡ pixels) × (color ≡ next) × (among ≡ these)
IsBeforeCode line_end so_far color among = ⊥

-- the refusal of a page: whole items of a page of the width, `place` bits, begin the bits, and for this reason the page goes no further
pub record IsRefusedPage (width : ℕ) (x : List Bool) (place : ℕ) (kind : CodeFaultKind) : Type 0 where
  pub front : List Bool
  pub rest : List Bool
  pub at : PagePlace
  pub split : x ≡ front ++ rest
  pub part : IsPagePart width front at
  pub place_is : place ≡ length front
  pub kind_is : PageKind width at rest kind
