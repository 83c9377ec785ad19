-- A coder of pages row by row, as clauses see it.
use Rattle.std.specs.Prelude.{ℕ, ◌≡◌, ◌≢◌, ◌<◌, ◌≤◌, ◌++◌, ◌∷◌, [], Bool, List, length, All, Result, Ok, Err, ⊤}
use Rattle.raster.specs.declared.fault.RasterFault.{RasterFault}
use Rattle.raster.specs.declared.fault.RasterFault.TheVariants.{WrongRowWidth, TooManyRows, NoRows, NoMemory}
use Rattle.raster.specs.declared.packed.Order.{Order}
use Rattle.raster.specs.declared.row.Color.{Color}
use Rattle.raster.specs.Packed.{Bits, FillsOctets, bits_of}
use Rattle.raster.specs.Pages.{max_rows}
use Rattle.raster.specs.declared.coding.Coding.{Coding}
use Rattle.raster.specs.declared.coding.Coding.TheVariants.{OneDim, T6}
use Rattle.page_code.specs.Codings.{code_of}
use Rattle.page_code.specs.OneDimension.Pages.{eol_word, eol_words, row_words, rows_words, rtc}
use Rattle.page_code.specs.OneDimension.Repairs.{last_of}
use Rattle.page_code.specs.TwoDimensions.Changes.{AreHeld}
use Rattle.page_code.specs.TwoDimensions.Code.{row_code, rows_code}
use Rattle.page_code.specs.TwoDimensions.Coding.{FitsLines}
use Rattle.page_code.specs.TwoDimensions.Modes.{eofb}
use Rattle.page_code.specs.TwoDimensions.Positions.{white_line}

-- A coder of a page row by row: the code, the width in pixels, the number of rows so far, the changing elements of the row before the
-- next one (T.6 alone needs them), and the bits that were not moved out yet.
pub record RowCoding : Type 0 where
  pub coding : Coding
  pub width : ℕ
  pub count : ℕ
  pub before : List ℕ
  pub pending : Bits

-- the code of a page's first rows, without the page's end
abbrev pub rows_of : Coding → ℕ → List (List Color) → List Bool
rows_of OneDim width rows = rows_words rows
rows_of T6 width rows = rows_code (white_line width) rows

-- the code of a row after the one before it
abbrev pub row_of : Coding → List Color → List Color → List Bool
row_of OneDim before row = eol_word 11 ++ row_words row
row_of T6 before row = row_code before row

-- the end of a page: RTC in one dimension, EOFB in T.6
abbrev pub end_of : Coding → List Bool
end_of OneDim = eol_words rtc
end_of T6 = eofb

-- in T.6 the changing elements are the row's
abbrev pub HoldsBefore : Coding → List Color → List ℕ → Type 0
HoldsBefore OneDim row held = ⊤
HoldsBefore T6 row held = AreHeld row held

-- in T.6 the lists have room for rows of a width, and the first list has a line's changing elements
abbrev pub HasLists : Coding → ℕ → List ℕ → List ℕ → ℕ → Type 0
HasLists OneDim width reference row known = ⊤
HasLists T6 width reference row known = FitsLines width reference row known

-- the coder has coded these rows and handed out these octets: the octets' bits and the pending bits are the rows' code
pub record CodesRows (coder : RowCoding) (rows : List (List Color)) (octets : List ℕ) : Type 0 where
  pub counted : coder.count ≡ length rows
  pub wide : All (λ row. length row ≡ coder.width) rows
  pub held : HoldsBefore coder.coding (last_of (white_line coder.width) rows) coder.before
  pub coded : bits_of coder.pending.order octets ++ coder.pending.bits ≡ rows_of coder.coding coder.width rows

-- the new coder codes pages of the same code, order and width as the old one
pub record IsSameCoder (old new : RowCoding) : Type 0 where
  pub coding : new.coding ≡ old.coding
  pub order : new.pending.order ≡ old.pending.order
  pub width : new.width ≡ old.width

-- the coder is new: it has coded no rows and handed out no octets
pub record BeginsCode (coding : Coding) (order : Order) (width : ℕ) (coder : RowCoding) : Type 0 where
  pub coding_is : coder.coding ≡ coding
  pub order_is : coder.pending.order ≡ order
  pub width_is : coder.width ≡ width
  pub none : CodesRows coder [] []

-- the coder has coded this row after its other rows
pub record CodesOneMore (old : RowCoding) (row : List Color) (new : RowCoding) : Type 0 where
  pub same : IsSameCoder old new
  pub one_more : (rows : List (List Color)) (octets : List ℕ) → CodesRows old rows octets → CodesRows new (rows ++ row ∷ []) octets

-- The result of pushing a row, and the coder after it: WrongRowWidth for a row of another width, else TooManyRows for a 20,001st row,
-- else perhaps NoMemory; a refusal changes nothing.
abbrev pub PushesRow : RowCoding → List Color → RowCoding → Result (Unit {0}) RasterFault → Type 0
PushesRow old row new (Ok done) = (length row ≡ old.width) × (old.count < max_rows) × CodesOneMore old row new
PushesRow old row new (Err WrongRowWidth) = (length row ≢ old.width) × (new ≡ old)
PushesRow old row new (Err TooManyRows) = (length row ≡ old.width) × (max_rows ≤ old.count) × (new ≡ old)
PushesRow old row new (Err NoMemory) = (length row ≡ old.width) × (old.count < max_rows) × (new ≡ old)
PushesRow old row new (Err fault) = ⊥

-- the whole octets are handed out at the end of a list, and fewer than eight bits are pending
pub record HandsOut (old : RowCoding) (before after : List ℕ) (new : RowCoding) : Type 0 where
  pub octets : List ℕ
  pub joined : after ≡ before ++ octets
  pub few : length new.pending.bits < 8
  pub same : IsSameCoder old new
  pub stands : (rows : List (List Color)) (first : List ℕ) → CodesRows old rows first → CodesRows new rows (first ++ octets)

-- the last octets are handed out: with the octets before they are the code of the page, filled with 0 bits
pub record EndsPage (coder : RowCoding) (before after : List ℕ) : Type 0 where
  pub octets : List ℕ
  pub joined : after ≡ before ++ octets
  pub page : (rows : List (List Color)) (first : List ℕ) → CodesRows coder rows first
      → FillsOctets coder.pending.order (code_of coder.coding coder.width rows) (first ++ octets)

-- the result of ending a page, and the list after it: NoRows for a page without a row, else perhaps NoMemory; a refusal leaves the list
-- as it was
abbrev pub FinishesPage : RowCoding → List ℕ → List ℕ → Result (Unit {0}) RasterFault → Type 0
FinishesPage coder before after (Ok done) = (0 < coder.count) × EndsPage coder before after
FinishesPage coder before after (Err NoRows) = (coder.count ≡ 0) × (after ≡ before)
FinishesPage coder before after (Err NoMemory) = (0 < coder.count) × (after ≡ before)
FinishesPage coder before after (Err fault) = ⊥

-- why the end of a page is refused: it has no row (NoRows), or memory was refused (NoMemory)
abbrev pub IsEndRefused : RowCoding → RasterFault → Type 0
IsEndRefused coder NoRows = coder.count ≡ 0
IsEndRefused coder NoMemory = 0 < coder.count
IsEndRefused coder fault = ⊥
