-- The results of the parts of a T.6 page's reader (ITU-T T.6, 2.2).
use Rattle.std.specs.Prelude.{ℕ, suc, ◌≡◌, ◌+◌, ◌<◌, ◌≤◌, ◌⊎◌, Bool, true, false, List, [], ◌∷◌, ◌++◌, length, if◌then◌else◌, Option, None}
use Rattle.std.specs.Prelude.{Some, Result, Ok, Err, ◌-◌, replicate}
use Rattle.raster.specs.declared.row.Color.{Color}
use Rattle.raster.specs.declared.row.Color.TheVariants.{White}
use Rattle.raster.specs.Runs.{colored}
use Rattle.raster.specs.Pages.{max_rows}
use Rattle.raster.specs.Pixels.{other}
use Rattle.run_tables.specs.declared.fault.CodeFault.{CodeFault}
use Rattle.run_tables.specs.declared.fault.CodeFaultKind.{CodeFaultKind}
use Rattle.run_tables.specs.declared.fault.CodeFaultKind.TheVariants.{NoMemory, EmptyHorizontal, Extension, Truncated, BadCode}
use Rattle.run_tables.specs.Reading.{Reading, rest_of, after}
use Rattle.run_tables.specs.RowFronts.{amount}
use Rattle.run_tables.specs.Texts.{begins, all_zero, is_cut}
use Rattle.run_tables.specs.Fronts.{read_from, spell, Walk}
use Rattle.run_tables.specs.Fronts.Look.{stop, refuse}
use Rattle.page_code.specs.declared.t6.mode.ModeCode.{ModeCode}
use Rattle.page_code.specs.declared.t6.mode.ModeCode.TheVariants.{Vertical}
use Rattle.page_code.specs.declared.t6.mode.Shift.{Shift}
use Rattle.page_code.specs.declared.t6.read.Start.{Start}
use Rattle.page_code.specs.declared.t6.read.Start.TheVariants.{Row, End, Refused}
use Rattle.page_code.specs.TwoDimensions.Positions.{CodingLine, line_begin}
use Rattle.page_code.specs.TwoDimensions.Modes.{eofb, extension_word}
use Rattle.page_code.specs.TwoDimensions.Fronts.{mode_word, mode_codes, PageItem, page_item_word, PageSoFar, PageState}
use Rattle.page_code.specs.TwoDimensions.Fronts.{mode_ended, after_mode, run_color, run_ended, PageStep, PageLook, look_mode, look_run}
use Rattle.page_code.specs.TwoDimensions.Fronts.{page_look}
use Rattle.page_code.specs.TwoDimensions.Fronts.PageState.{between, inside, running}

-- what is seen in the bits of a row: what is seen in a page's, until the row is whole
abbrev pub row_look : ℕ → PageState → List Bool → PageLook
row_look width (between page) x = stop page.rows 0
row_look width (inside page line) x = look_mode width page line x
row_look width (running page line first makeup) x = look_run width page line first makeup x

-- the item is valid in a row, and leads to the state
abbrev pub RowStep : ℕ → PageState → PageItem → PageState → Type 0
RowStep width (between page) item state = ⊥
RowStep width (inside page line) item state = PageStep width (inside page line) item state
RowStep width (running page line first makeup) item state = PageStep width (running page line first makeup) item state

-- reading a row of a page, item by item, from a place on: the page's rows with it and the place after it, or the place and the kind of a
-- refusal
unfoldable pub row_reading : ℕ → PageState → ℕ → List Bool → Result (List (List Color) × ℕ) (ℕ × CodeFaultKind)
row_reading width state place x = read_from page_item_word (row_look width) BadCode (suc (length x)) state place x

-- whole items of a row lead from a state at a place, with these bits left, to a state at a later place, with those bits left
pub record GoesTo (width : ℕ) (from : PageState) (place : ℕ) (x : List Bool) (to : PageState) (later : ℕ) (rest : List
    Bool) : Type 0 where
  pub items : List PageItem
  pub walk : Walk (RowStep width) from items to
  pub spelled : x ≡ spell page_item_word items ++ rest
  pub later_is : later ≡ place + length (spell page_item_word items)

-- whatever runs follow, the first of them has this color
abbrev pub GoesOnWith : List ℕ → Color → Type 0
GoesOnWith runs color = (tail : List ℕ) → colored White (runs ++ tail) ≡ colored White runs ++ colored color tail

-- why no mode code is there
abbrev pub missing_mode : List Bool → CodeFaultKind
missing_mode x = if begins extension_word x then Extension else if is_cut mode_word mode_codes x then Truncated else BadCode

-- a mode code was read, or no mode code begins the bits that are left
abbrev pub ReadsMode : Reading → Reading → Result ModeCode CodeFault → Type 0
ReadsMode old new (Ok code) = (begins (mode_word code) (rest_of old) ≡ true) × (new ≡ after (mode_word code) old)
ReadsMode old new (Err fault) = (fault ≡ record { place = old.place; kind = missing_mode (rest_of old) }) × ((code : ModeCode)
    → begins (mode_word code) (rest_of old) ≡ false)

-- a mode code was read; or no mode code begins the bits that are left, and the reader didn't move
abbrev pub FindsMode : Reading → Reading → Option ModeCode → Type 0
FindsMode old new (Some code) = (begins (mode_word code) (rest_of old) ≡ true) × (new ≡ after (mode_word code) old)
FindsMode old new None = (new ≡ old) × ((code : ModeCode) → begins (mode_word code) (rest_of old) ≡ false)

-- a run of this color is needed, with room for `room` pixels
abbrev pub HasRoom : ℕ → CodingLine → Option ℕ → Color → ℕ → Type 0
HasRoom width line first color room = (run_color line first ≡ color) × (length line.pixels + amount first + room ≡ width)

-- one run of horizontal mode was read, at most `room` pixels; or it is refused where reading the page is refused
abbrev pub ReadsRun : Color → ℕ → Reading → Reading → Result ℕ CodeFault → Type 0
ReadsRun color room old new (Ok run) =
    (run ≤ room) × (new.bits ≡ old.bits) × (old.place < new.place) × (new.place ≤ length new.bits) ×
    ((width : ℕ) (page : PageSoFar) (line : CodingLine) (first : Option ℕ) (state : PageState) → HasRoom width line first color room
    → run_ended width page line first run ≡ Ok state
    → GoesTo width (running page line first None) old.place (rest_of old) state new.place (rest_of new)) ×
    ((width : ℕ) (page : PageSoFar) (line : CodingLine) → HasRoom width line (Some 0) color room → run ≡ 0
    → row_reading width (running page line (Some 0) None) old.place (rest_of old) ≡ Err (old.place, EmptyHorizontal))
ReadsRun color room old new (Err fault) =
    (width : ℕ) (page : PageSoFar) (line : CodingLine) (first : Option ℕ) → HasRoom width line first color room
    → row_reading width (running page line first None) old.place (rest_of old) ≡ Err (fault.place, fault.kind)

-- the mode code leads on to the next line
abbrev pub LeadsOn : List Color → CodingLine → CodingLine → ModeCode → Type 0
LeadsOn reference line next code =
    (length next.pixels ≤ length reference) × ((page : PageSoFar) → page.reference ≡ reference
    → after_mode (length reference) page line code ≡ Ok (mode_ended (length reference) page next))

-- a1 of a vertical mode, which the line leads to; or the mode is refused
abbrev pub FindsA1 : List Color → CodingLine → Shift → Result ℕ CodeFaultKind → Type 0
FindsA1 reference line shift (Ok a1) = (length line.pixels ≤ a1) × (a1 ≤ length reference) × ((next : CodingLine)
    → next ≡ record { pixels = line.pixels ++ replicate (a1 - length line.pixels) line.color; begun = true; color = other line.color }
    → LeadsOn reference line next (Vertical shift))
FindsA1 reference line shift (Err kind) = (page : PageSoFar) → page.reference ≡ reference
    → after_mode (length reference) page line (Vertical shift) ≡ Err kind

-- the mode code at a place leads on, or is refused there, or memory was refused
abbrev pub MovesTo : List Color → ℕ → CodingLine → CodingLine → ModeCode → Result (Unit {0}) CodeFault → Type 0
MovesTo reference place line next code (Ok done) = LeadsOn reference line next code
MovesTo reference place line next code (Err fault) =
    (fault.kind ≡ NoMemory) ⊎ ((fault.place ≡ place) × ((page : PageSoFar) → page.reference ≡ reference
    → after_mode (length reference) page line code ≡ Err fault.kind))

-- the two runs of horizontal mode were read; or one is refused, or memory was refused
abbrev pub ReadsHorizontal : ℕ → Reading → Reading → CodingLine → CodingLine → Result (Unit {0}) CodeFault → Type 0
ReadsHorizontal width old new line next (Ok done) =
    (new.bits ≡ old.bits) × (old.place < new.place) × (new.place ≤ length new.bits) × (length next.pixels ≤ width) ×
    ((page : PageSoFar) → GoesTo width (running page line None None) old.place (rest_of old) (mode_ended width page next) new.place
    (rest_of new))
ReadsHorizontal width old new line next (Err fault) =
    (fault.kind ≡ NoMemory) ⊎ ((page : PageSoFar)
    → row_reading width (running page line None None) old.place (rest_of old) ≡ Err (fault.place, fault.kind))

-- one mode was read; or it is refused there, and so is the row, or memory was refused
abbrev pub StepsOn : List Color → Reading → Reading → CodingLine → CodingLine → Result (Unit {0}) CodeFault → Type 0
StepsOn reference old new line next (Ok done) =
    (new.bits ≡ old.bits) × (old.place < new.place) × (new.place ≤ length new.bits) × (length next.pixels ≤ length reference) ×
    ((page : PageSoFar) → page.reference ≡ reference
    → GoesTo (length reference) (inside page line) old.place (rest_of old) (mode_ended (length reference) page next) new.place
    (rest_of new))
StepsOn reference old new line next (Err fault) =
    (fault.kind ≡ NoMemory) ⊎ ((page : PageSoFar) → page.reference ≡ reference
    → row_reading (length reference) (inside page line) old.place (rest_of old) ≡ Err (fault.place, fault.kind))

-- modes were read, perhaps none
abbrev pub StepsAlong : List Color → Reading → Reading → CodingLine → CodingLine → Type 0
StepsAlong reference old new line next =
    (new.bits ≡ old.bits) × (old.place ≤ new.place) × (new.place ≤ length new.bits) × (length next.pixels ≤ length reference) ×
    ((page : PageSoFar) → page.reference ≡ reference
    → GoesTo (length reference) (mode_ended (length reference) page line) old.place (rest_of old) (mode_ended (length reference) page next)
    new.place (rest_of new))

-- one mode was read, or nothing changed
abbrev pub StepsQuickly : List Color → Reading → Reading → CodingLine → CodingLine → Bool → Type 0
StepsQuickly reference old new line next true = StepsOn reference old new line next (Ok tt)
StepsQuickly reference old new line next false = (new ≡ old) × (next ≡ line)

-- one row was read, or it is refused, or memory was refused
abbrev pub ReadsRow : List Color → Reading → Reading → Result (List Color) CodeFault → Type 0
ReadsRow reference old new (Ok row) =
    (length row ≡ length reference) × (new.bits ≡ old.bits) × (new.place ≤ length new.bits) ×
    ((page : PageSoFar) → page.reference ≡ reference
    → row_reading (length reference) (inside page line_begin) old.place (rest_of old) ≡ Ok (page.rows ++ row ∷ [], new.place))
ReadsRow reference old new (Err fault) =
    (fault.kind ≡ NoMemory) ⊎ ((page : PageSoFar) → page.reference ≡ reference
    → row_reading (length reference) (inside page line_begin) old.place (rest_of old) ≡ Err (fault.place, fault.kind))

-- what is found at a place where a row may begin, after `count` rows
abbrev pub SeesStart : List Bool → ℕ → Start → Type 0
SeesStart x count Row = (begins eofb x ≡ false) × (all_zero x ≡ false) × (begins x eofb ≡ false) × (count < max_rows)
SeesStart x count End = (begins eofb x ≡ true) × (0 < count)
SeesStart x count (Refused kind) = (width : ℕ) (page : PageSoFar) → length page.rows ≡ count
    → page_look width (between page) x ≡ refuse kind
