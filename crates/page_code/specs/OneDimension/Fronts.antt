-- A page in the one-dimensional code, item by item (ITU-T T.4, 4.1): where a reader of it is, which items are valid there, and
-- what is seen in the bits.
use Rattle.std.specs.Prelude.{ℕ, zero, suc, ◌≡◌, ◌+◌, ◌<◌, ◌≤◌, Bool, true, false, List, [], ◌∷◌, ◌++◌, length, drop, if◌then◌else◌, nat_lt}
use Rattle.std.specs.Prelude.{Option, Some, None, Result}
use Rattle.std.specs.Option.{option_map}
use Rattle.raster.specs.declared.row.Color.{Color}
use Rattle.raster.specs.declared.row.Color.TheVariants.{White}
use Rattle.raster.specs.Pages.{max_rows}
use Rattle.run_tables.specs.declared.fault.CodeFaultKind.{CodeFaultKind}
use Rattle.run_tables.specs.declared.fault.CodeFaultKind.TheVariants.{NoRows, BadCode, TooManyCodedRows}
use Rattle.run_tables.specs.Fronts.{Look, read_from}
use Rattle.run_tables.specs.Fronts.Look.{go, stop, refuse}
use Rattle.run_tables.specs.RowFronts.{RunItem, CodeStep, look_code, RowState}
use Rattle.run_tables.specs.RowFronts.RowState.{inside, whole}
use Rattle.run_tables.specs.RowFronts.{item_word as code_bits}
use Rattle.page_code.specs.OneDimension.Pages.{eol_word}

-- an item of a page: an EOL with the number of its 0 bits, or a run code
pub data PageItem : Type 0 where
  eol : ℕ → PageItem
  coded : RunItem → PageItem

-- the code word of an item
abbrev pub item_word : PageItem → List Bool
item_word (eol count) = eol_word count
item_word (coded code) = code_bits code

-- The state of a reader of a page: before the page; after an EOL, at which a row may begin; inside a row, perhaps after a make-up code;
-- after a whole row. It has the rows so far.
pub data PageState : Type 0 where
  first : PageState
  row_start : List (List Color) → PageState
  in_row : List (List Color) → List Color → Color → Option ℕ → PageState
  row_end : List (List Color) → PageState

-- a state inside a row, after the rows before it
abbrev pub put : List (List Color) → RowState → PageState
put rows (inside pixels color makeup) = in_row rows pixels color makeup
put rows (whole row) = row_end (rows ++ row ∷ [])

-- the run code is valid in the row after these rows, and leads on to the state
abbrev pub CodeThere : ℕ → List (List Color) → List Color → Color → Option ℕ → RunItem → PageState → Type 0
CodeThere width rows pixels color makeup code state = CodeStep (λ row. put rows (whole row)) (λ more next high. put rows (inside more next
    high)) width pixels color makeup code state

-- the item is valid in the state, and leads on to the next one
abbrev pub Step : ℕ → PageState → PageItem → PageState → Type 0
Step width first (eol count) state = (11 ≤ count) × (row_start [] ≡ state)
Step width first (coded code) state = CodeThere width [] [] White None code state
Step width (row_start rows) (eol count) state = ⊥
Step width (row_start rows) (coded code) state = (length rows < max_rows) × CodeThere width rows [] White None code state
Step width (in_row rows pixels color makeup) (eol count) state = ⊥
Step width (in_row rows pixels color makeup) (coded code) state = CodeThere width rows pixels color makeup code state
Step width (row_end rows) (eol count) state = (11 ≤ count) × (row_start rows ≡ state)
Step width (row_end rows) (coded code) state = ⊥

-- the type of what is seen of a page
abbrev pub PageLook : Type 0
PageLook = Look PageState PageItem (List (List Color)) CodeFaultKind

-- the number of 0 bits before the first 1, if there is a 1
abbrev pub zeros_before : List Bool → Option ℕ
zeros_before [] = None
zeros_before (true ∷ x) = Some 0
zeros_before (false ∷ x) = option_map suc (zeros_before x)

-- what is seen at a place where an EOL may come, for each of: only 0 bits are left, an EOL is there, something else is there
abbrev pub by_eol : Option ℕ → PageLook → (ℕ → PageLook) → PageLook → PageLook
by_eol None none there other = none
by_eol (Some count) none there other = if nat_lt count 11 then other else there count

-- the bits of an EOL, if there is one, and of what is counted after it
abbrev pub eol_bits : Option ℕ → (ℕ → ℕ) → ℕ
eol_bits None after = 0
eol_bits (Some count) after = if nat_lt count 11 then 0 else after count

-- the bits of all EOLs that come, or of the first `most` of them
abbrev pub bits_of_eols : ℕ → List Bool → ℕ
bits_of_eols zero x = 0
bits_of_eols (suc most) x = eol_bits (zeros_before x) (λ count. count + 1 + bits_of_eols most (drop (count + 1) x))

-- after the EOL at a page's end, the bits of the EOLs that follow it, six in all
unfoldable pub bits_of_five : List Bool → ℕ
bits_of_five x = bits_of_eols 5 x

-- the page ends, and `more` bits belong to its end
abbrev pub ends_with : List (List Color) → ℕ → PageLook
ends_with [] more = refuse NoRows
ends_with (row ∷ rows) more = stop (row ∷ rows) more

-- what is seen at a place that needs a run code
abbrev pub look_in_row : ℕ → List (List Color) → List Color → Color → Option ℕ → List Bool → PageLook
look_in_row width rows pixels color makeup x = look_code coded (λ row. put rows (whole row)) (λ more next high. put rows (inside more next
    high)) width pixels color makeup x

-- What is seen. Before the page: an EOL or the first row; NoRows if only 0 bits or nothing is left. After an EOL: the page's end or a
-- row; NoRows after the first EOL before another or before only 0 bits; TooManyCodedRows before a 20,001st row. In a row: the kinds of a
-- row. After a row: the page's end or an EOL, else BadCode. Kinds says which pages are refused where and why, without this reader;
-- RefusesPagesExactly joins the two, so that no refusal rests on it.
abbrev pub look : ℕ → PageState → List Bool → PageLook
look width first x = by_eol (zeros_before x) (refuse NoRows) (λ count. go (eol count) (row_start [])) (look_in_row width [] [] White None x)
look width (row_start rows) x =
    by_eol (zeros_before x) (ends_with rows 0) (λ count. ends_with rows (bits_of_five x)) (if nat_lt (length rows) max_rows then look_in_row
    width rows [] White None x else refuse TooManyCodedRows)
look width (in_row rows pixels color makeup) x = look_in_row width rows pixels color makeup x
look width (row_end rows) x = by_eol (zeros_before x) (stop rows 0) (λ count. go (eol count) (row_start rows)) (refuse BadCode)

-- reading of a page from a place on, item by item: the page and the place after it, or the place and the kind of a refusal
unfoldable pub reading : ℕ → PageState → ℕ → List Bool → Result (List (List Color) × ℕ) (ℕ × CodeFaultKind)
reading width state place x = read_from item_word (look width) BadCode (suc (length x)) state place x

-- reading a page: the page and the bits used, or the place and the kind of a refusal
abbrev pub read_page : ℕ → List Bool → Result (List (List Color) × ℕ) (ℕ × CodeFaultKind)
read_page width x = reading width first 0 x

-- a row may begin in the state, after these rows
abbrev pub MayBegin : PageState → List (List Color) → Type 0
MayBegin first rows = [] ≡ rows
MayBegin (row_start before) rows = (length before < max_rows) × (before ≡ rows)
MayBegin (in_row before pixels color makeup) rows = ⊥
MayBegin (row_end before) rows = ⊥

-- neither an EOL nor only 0 bits come: a 1 after fewer than 11 bits of 0
abbrev pub CodeBegins : List Bool → Type 0
CodeBegins x = (count : ℕ) × (zeros_before x ≡ Some count) × (count < 11)
