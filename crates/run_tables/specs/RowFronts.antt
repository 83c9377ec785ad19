-- A one-dimensional row, run code by run code (ITU-T T.4, 4.1.1): where a reader of it is, which codes are valid there, and
-- what is seen in the bits.
use Rattle.std.specs.Prelude.{ℕ, suc, ◌≡◌, ◌+◌, Bool, List, [], ◌++◌, length, map, replicate, if◌then◌else◌, nat_eq, nat_lt, Option, Some}
use Rattle.std.specs.Prelude.{None, Result, Ok, Err, Contains}
use Rattle.std.specs.List.{range_with_len}
use Rattle.raster.specs.declared.row.Color.{Color}
use Rattle.raster.specs.declared.row.Color.TheVariants.{White}
use Rattle.raster.specs.Pixels.{other}
use Rattle.run_tables.specs.declared.fault.CodeFaultKind.{CodeFaultKind}
use Rattle.run_tables.specs.declared.fault.CodeFaultKind.TheVariants.{BadCode, Truncated, RunTooLong}
use Rattle.run_tables.specs.Codes.{run_at, code_word}
use Rattle.run_tables.specs.Texts.{pick, is_cut}
use Rattle.run_tables.specs.Fronts.{Look, read_from}
use Rattle.run_tables.specs.Fronts.Look.{go, stop, refuse}

-- a run code of a color: a terminating code below 64, else a make-up code
pub data RunItem : Type 0 where
  run_item : Color → ℕ → RunItem

-- the run of a code
abbrev pub run_of : RunItem → ℕ
run_of (run_item color run) = run

-- the code word of a code
abbrev pub item_word : RunItem → List Bool
item_word (run_item color run) = code_word color run

-- the first `count` codes of a color, in the table's order: the 64 terminating codes, then the 40 make-up codes
unfoldable pub run_items : Color → ℕ → List RunItem
run_items color count = map (λ place. run_item color (run_at place)) (range_with_len 0 count)

-- how many codes of the table are valid: all 104, or after a make-up code the 64 terminating ones
abbrev pub codes_after : Option ℕ → ℕ
codes_after None = 104
codes_after (Some makeup) = 64

-- the valid codes at the beginning of a run of this color, or after its make-up code
abbrev pub allowed : Color → Option ℕ → List RunItem
allowed color makeup = run_items color (codes_after makeup)

-- the pixels of a make-up code, if one was read
abbrev pub amount : Option ℕ → ℕ
amount None = 0
amount (Some makeup) = makeup

-- after a run: the row is full, or its next run begins
abbrev pub run_ended : {State : Type 0} → (List Color → State) → (List Color → Color → Option ℕ → State) → ℕ → List Color → Color → State
run_ended full next width pixels color = if nat_eq (length pixels) width then full pixels else next pixels color None

-- after a run code: a run past the width is too long, a terminating code ends the run, a make-up code waits for one
unfoldable pub after_code : {State : Type 0} → (List Color → State) → (List Color → Color → Option ℕ → State) → ℕ → List Color → Color
    → Option ℕ → ℕ → Result State CodeFaultKind
after_code full next width pixels color makeup run =
    if nat_lt width (length pixels + (amount makeup + run)) then Err RunTooLong else
    if nat_lt run 64 then Ok (run_ended full next width (pixels ++ replicate (amount makeup + run) color) (other color)) else Ok (next
    pixels color (Some run))

-- the code is valid there, and leads to the state
pub record CodeStep {State : Type 0} (full : List Color → State) (next : List Color → Color → Option ℕ
    → State) (width : ℕ) (pixels : List Color) (color : Color) (makeup : Option ℕ) (code : RunItem) (state : State) : Type 0 where
  pub stands : Contains (allowed color makeup) code
  pub leads : after_code full next width pixels color makeup (run_of code) ≡ Ok state

-- an item that is there leads on to a state, or is refused
abbrev pub judged : {State Item Answer : Type 0} → Item → Result State CodeFaultKind → Look State Item Answer CodeFaultKind
judged item (Ok state) = go item state
judged item (Err kind) = refuse kind

-- what is seen if this code was found; if no code was, Truncated inside a valid code or before one, else BadCode
abbrev pub found_code : {State Item Answer : Type 0} → (RunItem → Item) → (List Color → State) → (List Color → Color → Option ℕ → State)
    → ℕ → List Color → Color → Option ℕ → List Bool → Option RunItem → Look State Item Answer CodeFaultKind
found_code item full next width pixels color makeup x None = refuse (if is_cut item_word (allowed color makeup) x then Truncated else
    BadCode)
found_code item full next width pixels color makeup x (Some code) = judged (item code) (after_code full next width pixels color makeup
    (run_of code))

-- what is seen at a place that needs a run code
unfoldable pub look_code : {State Item Answer : Type 0} → (RunItem → Item) → (List Color → State) → (List Color → Color → Option ℕ
    → State) → ℕ → List Color → Color → Option ℕ → List Bool → Look State Item Answer CodeFaultKind
look_code item full next width pixels color makeup x = found_code item full next width pixels color makeup x (pick item_word (allowed color
    makeup) x)

-- the state of a reader of a row: inside it, with its pixels so far, the color of the run that is there, and a make-up code of it just
-- read; or after the whole row
pub data RowState : Type 0 where
  inside : List Color → Color → Option ℕ → RowState
  whole : List Color → RowState

-- the state at the beginning of a row: no pixels, a white run next
abbrev pub row_begin : RowState
row_begin = inside [] White None

-- the code is valid in the row, and leads on
abbrev pub Step : ℕ → RowState → RunItem → RowState → Type 0
Step width (inside pixels color makeup) code state = CodeStep whole inside width pixels color makeup code state
Step width (whole row) code state = ⊥

-- What is seen in a row: a run code, until the row is whole. Kinds says which rows are refused where and why, without this reader;
-- RefusesRowsExactly joins the two, so that no refusal rests on it.
abbrev pub look : ℕ → RowState → List Bool → Look RowState RunItem (List Color) CodeFaultKind
look width (inside pixels color makeup) x = look_code (λ code. code) whole inside width pixels color makeup x
look width (whole row) x = stop row 0

-- reading in a row from a place on, code by code: the row and the place after it, or the place and the kind of a refusal
unfoldable pub reading : ℕ → RowState → ℕ → List Bool → Result (List Color × ℕ) (ℕ × CodeFaultKind)
reading width state place x = read_from item_word (look width) BadCode (suc (length x)) state place x

-- a result or refusal whose place is counted from `far` bits before
abbrev pub moved : {Answer Kind : Type 0} → ℕ → Result (Answer × ℕ) (ℕ × Kind) → Result (Answer × ℕ) (ℕ × Kind)
moved far (Ok read) = Ok (read.0, far + read.1)
moved far (Err refused) = Err (far + refused.0, refused.1)

-- reading a row at the beginning of bits: the row and the bits used, or the place and the kind of a refusal
abbrev pub read_row : ℕ → List Bool → Result (List Color × ℕ) (ℕ × CodeFaultKind)
read_row width x = reading width row_begin 0 x
