-- Reading a T.6 page item by item: where a reader is, which items are valid there, and what is seen in the bits (ITU-T T.6, 2.2 and 2.4).
use Rattle.std.specs.Prelude.{ℕ, suc, ◌≡◌, ◌+◌, ◌-◌, ◌<◌, Bool, true, List, [], ◌∷◌, ◌++◌, length, if◌then◌else◌, nat_eq, nat_lt, Option}
use Rattle.std.specs.Prelude.{Some, None, Result, Ok, Err, Contains}
use Rattle.raster.specs.declared.row.Color.{Color}
use Rattle.raster.specs.Pixels.{other}
use Rattle.raster.specs.Pages.{max_rows}
use Rattle.run_tables.specs.declared.fault.CodeFaultKind.{CodeFaultKind}
use Rattle.run_tables.specs.declared.fault.CodeFaultKind.TheVariants.{NoRows, BadCode, Truncated, Backwards, PastEnd, EmptyHorizontal}
use Rattle.run_tables.specs.declared.fault.CodeFaultKind.TheVariants.{Extension, MissingEofb, TooManyCodedRows}
use Rattle.run_tables.specs.Texts.{begins, all_zero, pick, is_cut}
use Rattle.run_tables.specs.Fronts.{Look, read_from}
use Rattle.run_tables.specs.Fronts.Look.{stop, refuse}
use Rattle.run_tables.specs.RowFronts.{RunItem, run_of, allowed, amount, judged}
use Rattle.run_tables.specs.RowFronts.{item_word as run_item_word}
use Rattle.page_code.specs.declared.t6.mode.ModeCode.{ModeCode}
use Rattle.page_code.specs.declared.t6.mode.ModeCode.TheVariants.{Pass, Horizontal, Vertical}
use Rattle.page_code.specs.TwoDimensions.Positions.{CodingLine, line_begin, white_line, right_of_a0, filled_to, b1_of, b2_of}
use Rattle.page_code.specs.TwoDimensions.Modes.{to_right, to_left, vertical_word, pass_word, horizontal_word, extension_word, eofb}
use Rattle.page_code.specs.TwoDimensions.Modes.{runs_added}
use Rattle.page_code.specs.declared.t6.mode.Shift.TheVariants.{V0, VR1, VR2, VR3, VL1, VL2, VL3}

-- the code word of a mode code (T.6, table 1)
abbrev pub mode_word : ModeCode → List Bool
mode_word Pass = pass_word
mode_word Horizontal = horizontal_word
mode_word (Vertical shift) = vertical_word shift

-- all mode codes: pass, horizontal and the seven vertical ones
abbrev pub mode_codes : List ModeCode
mode_codes =
    Pass ∷ Horizontal ∷ Vertical V0 ∷ Vertical VR1 ∷ Vertical VR2 ∷ Vertical VR3 ∷ Vertical VL1 ∷ Vertical VL2 ∷
    Vertical VL3 ∷ []

-- an item of a page's code: a mode code, or a run code after horizontal mode's flag
pub data PageItem : Type 0 where
  mode_item : ModeCode → PageItem
  run_item : RunItem → PageItem

-- the code word of an item
abbrev pub page_item_word : PageItem → List Bool
page_item_word (mode_item code) = mode_word code
page_item_word (run_item code) = run_item_word code

-- the rows so far, and the reference line of the next row
pub record PageSoFar : Type 0 where
  pub rows : List (List Color)
  pub reference : List Color

-- The state of a reader of a T.6 page: where a row or EOFB may begin; inside a row, where a mode code is needed; or after horizontal
-- mode's flag, where a run code is needed, with the first run, if it was read, and a make-up code just read.
pub data PageState : Type 0 where
  between : PageSoFar → PageState
  inside : PageSoFar → CodingLine → PageState
  running : PageSoFar → CodingLine → Option ℕ → Option ℕ → PageState

-- the state at the beginning of a page
abbrev pub page_begin : ℕ → PageState
page_begin width = between (record { rows = []; reference = white_line width })

-- the row is added, and is the next one's reference line
abbrev pub row_added : PageSoFar → List Color → PageSoFar
row_added page row = record { rows = page.rows ++ row ∷ []; reference = row }

-- after a mode: a whole row is added to the page, else the next mode code is needed
abbrev pub mode_ended : ℕ → PageSoFar → CodingLine → PageState
mode_ended width page line = if nat_eq (length line.pixels) width then between (row_added page line.pixels) else inside page line

-- after a mode code: a vertical mode is refused as Backwards if a1 isn't to the right of a0, as PastEnd if it is past the width
unfoldable pub after_mode : ℕ → PageSoFar → CodingLine → ModeCode → Result PageState CodeFaultKind
after_mode width page line Pass =
    if nat_lt (b2_of page.reference line) (right_of_a0 line) then Err Backwards else
    if nat_lt width (b2_of page.reference line) then Err PastEnd else
    Ok (mode_ended width page (record { pixels = filled_to line (b2_of page.reference line); begun = true; color = line.color }))
after_mode width page line Horizontal = Ok (running page line None None)
after_mode width page line (Vertical shift) =
    if nat_lt (b1_of page.reference line + to_right shift) (right_of_a0 line + to_left shift) then Err Backwards else
    if nat_lt (width + to_left shift) (b1_of page.reference line + to_right shift) then Err PastEnd else
    Ok (mode_ended width page (record {
      pixels = filled_to line (b1_of page.reference line + to_right shift - to_left shift);
      begun = true;
      color = other line.color;
    }))

-- the color of the run that is needed
abbrev pub run_color : CodingLine → Option ℕ → Color
run_color line None = line.color
run_color line (Some a0a1) = other line.color

-- after a whole run: the second run of the mode is needed, or the mode is whole; two runs of 0 pixels are refused as EmptyHorizontal
abbrev pub run_ended : ℕ → PageSoFar → CodingLine → Option ℕ → ℕ → Result PageState CodeFaultKind
run_ended width page line None run = Ok (running page line (Some run) None)
run_ended width page line (Some a0a1) run = if nat_eq (a0a1 + run) 0 then Err EmptyHorizontal else Ok (mode_ended width page (runs_added
    line a0a1 run))

-- after a run code: one that passes the width is refused as PastEnd, a terminating code ends the run, a make-up code waits for one
unfoldable pub after_run : ℕ → PageSoFar → CodingLine → Option ℕ → Option ℕ → ℕ → Result PageState CodeFaultKind
after_run width page line first makeup run =
    if nat_lt width (length line.pixels + amount first + (amount makeup + run)) then Err PastEnd else
    if nat_lt run 64 then run_ended width page line first (amount makeup + run) else Ok (running page line first (Some run))

-- the mode code is valid there, and leads to the state
pub record ModeStep (width : ℕ) (page : PageSoFar) (line : CodingLine) (code : ModeCode) (state : PageState) : Type 0 where
  pub stands : Contains mode_codes code
  pub leads : after_mode width page line code ≡ Ok state

-- the run code is valid there, and leads to the state
pub record RunStep (width : ℕ) (page : PageSoFar) (line : CodingLine) (first makeup : Option ℕ) (code : RunItem) (state : PageState) : Type
    0 where
  pub stands : Contains (allowed (run_color line first) makeup) code
  pub leads : after_run width page line first makeup (run_of code) ≡ Ok state

-- the item is valid in the state, and leads to the next one; a page has at most 20,000 rows
abbrev pub PageStep : ℕ → PageState → PageItem → PageState → Type 0
PageStep width (between page) (mode_item code) state = (length page.rows < max_rows) × ModeStep width page line_begin code state
PageStep width (inside page line) (mode_item code) state = ModeStep width page line code state
PageStep width (running page line first makeup) (mode_item code) state = ⊥
PageStep width (between page) (run_item code) state = ⊥
PageStep width (inside page line) (run_item code) state = ⊥
PageStep width (running page line first makeup) (run_item code) state = RunStep width page line first makeup code state

-- the type of what is seen in the bits of a page
abbrev pub PageLook : Type 0
PageLook = Look PageState PageItem (List (List Color)) CodeFaultKind

-- what is seen if this mode code was found; without one: Extension, Truncated inside a mode code or before one, or else BadCode
abbrev pub found_mode : ℕ → PageSoFar → CodingLine → List Bool → Option ModeCode → PageLook
found_mode width page line x None = refuse (if begins extension_word x then Extension else if is_cut mode_word mode_codes x then Truncated
    else BadCode)
found_mode width page line x (Some code) = judged (mode_item code) (after_mode width page line code)

-- what is seen at a place that needs a mode code
unfoldable pub look_mode : ℕ → PageSoFar → CodingLine → List Bool → PageLook
look_mode width page line x = found_mode width page line x (pick mode_word mode_codes x)

-- what is seen if this run code was found; without one: Truncated inside a valid code or before one, else BadCode
abbrev pub found_run : ℕ → PageSoFar → CodingLine → Option ℕ → Option ℕ → List Bool → Option RunItem → PageLook
found_run width page line first makeup x None = refuse (if is_cut run_item_word (allowed (run_color line first) makeup) x then Truncated
    else BadCode)
found_run width page line first makeup x (Some code) = judged (run_item code) (after_run width page line first makeup (run_of code))

-- what is seen at a place that needs a run code
unfoldable pub look_run : ℕ → PageSoFar → CodingLine → Option ℕ → Option ℕ → List Bool → PageLook
look_run width page line first makeup x = found_run width page line first makeup x (pick run_item_word (allowed (run_color line first)
    makeup) x)

-- EOFB ends a page that has a row; before any row it is NoRows
abbrev pub page_end : List (List Color) → PageLook
page_end [] = refuse NoRows
page_end (row ∷ rows) = stop (row ∷ rows) (length eofb)

-- What is seen in the bits. Between rows, in this order: EOFB ends the page; only 0 bits or nothing are MissingEofb; a beginning of EOFB
-- is Truncated; else a row begins, TooManyCodedRows if it is the 20,001st. Kinds says which pages are refused where and why, without this
-- reader; RefusesPagesExactly joins the two, so that no refusal rests on it.
abbrev pub page_look : ℕ → PageState → List Bool → PageLook
page_look width (between page) x =
    if begins eofb x then page_end page.rows else
    if all_zero x then refuse MissingEofb else
    if begins x eofb then refuse Truncated else
    if nat_lt (length page.rows) max_rows then look_mode width page line_begin x else refuse TooManyCodedRows
page_look width (inside page line) x = look_mode width page line x
page_look width (running page line first makeup) x = look_run width page line first makeup x

-- reading a page from a place on, item by item: its rows and the place after EOFB, or the place and the kind of a refusal
unfoldable pub reading : ℕ → PageState → ℕ → List Bool → Result (List (List Color) × ℕ) (ℕ × CodeFaultKind)
reading width state place x = read_from page_item_word (page_look width) BadCode (suc (length x)) state place x

-- reading a page at the beginning of bits: its rows and the bits used, or the place and the kind of a refusal
abbrev pub read_page : ℕ → List Bool → Result (List (List Color) × ℕ) (ℕ × CodeFaultKind)
read_page width x = reading width (page_begin width) 0 x
