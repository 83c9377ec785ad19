-- A reader of pages row by row, as clauses see it, and what is found where a row is looked for.
use Rattle.std.specs.Prelude.{ℕ, ◌≡◌, ◌≢◌, ◌<◌, ◌≤◌, ◌+◌, ◌*◌, ◌++◌, ◌∷◌, [], Bool, List, length, take, drop, Result, Ok, Err, ⊤}
use Rattle.raster.specs.declared.packed.Order.{Order}
use Rattle.raster.specs.declared.row.Color.{Color}
use Rattle.raster.specs.Packed.{bits_of}
use Rattle.raster.specs.Pages.{max_rows}
use Rattle.run_tables.specs.declared.fault.CodeFault.{CodeFault}
use Rattle.run_tables.specs.declared.fault.CodeFaultKind.TheVariants.{NoMemory}
use Rattle.run_tables.specs.RowLaws.{ReadsAsRow}
use Rattle.run_tables.specs.RowLaws.{IsLongestFront as IsLongestRow}
use Rattle.raster.specs.declared.coding.Coding.{Coding}
use Rattle.raster.specs.declared.coding.Coding.TheVariants.{OneDim, T6}
use Rattle.page_code.specs.declared.one_dim.Start.{Start}
use Rattle.page_code.specs.declared.one_dim.Start.TheVariants as start
use Rattle.page_code.specs.declared.page_rows.NextRow.{NextRow}
use Rattle.page_code.specs.declared.page_rows.NextRow.TheVariants.{Row, End, Refused}
use Rattle.page_code.specs.declared.page_rows.RowPlace.{RowPlace}
use Rattle.page_code.specs.Codings.{read_rows}
use Rattle.page_code.specs.OneDimension.Reading.{FindsRow}
use Rattle.page_code.specs.RowsSoFar.{IsReadTo}
use Rattle.page_code.specs.TwoDimensions.Positions.{white_line}
use Rattle.page_code.specs.TwoDimensions.Writing.{reference_at}

-- the most octets that a reader holds: 65,536
abbrev pub max_held : ℕ
max_held = 65536

-- A reader of a page row by row: the code, the order of bits, the width in pixels, the number of rows given, the row before the next one
-- (T.6 alone needs it), the number of bits of the octets that it gave up, the octets that it holds, and the place in their bits.
pub record RowReading : Type 0 where
  pub coding : Coding
  pub order : Order
  pub width : ℕ
  pub count : ℕ
  pub before : List Color
  pub start : ℕ
  pub held : List ℕ
  pub at : ℕ

-- in T.6 this is the row before the next one, or the white line
abbrev pub IsBefore : Coding → ℕ → List (List Color) → List Color → Type 0
IsBefore OneDim width rows before = ⊤
IsBefore T6 width rows before = (length before ≡ width) × (before ≡ reference_at (white_line width) rows (length rows))

-- The reader took these octets, of which it gave up some and holds the others, and gave these rows: the first ones that the octets' bits
-- spell, up to its place.
pub record ReadsRows (reader : RowReading) (rows : List (List Color)) (octets : List ℕ) : Type 0 where
  pub counted : reader.count ≡ length rows
  pub up : List ℕ
  pub joined : octets ≡ up ++ reader.held
  pub start_is : reader.start ≡ 8 * length up
  pub read : IsReadTo reader.coding reader.width (bits_of reader.order octets) rows (reader.start + reader.at)
  pub before : IsBefore reader.coding reader.width rows reader.before

-- the new reader reads pages of the same code, order and width as the old one
pub record IsSameReader (old new : RowReading) : Type 0 where
  pub coding : new.coding ≡ old.coding
  pub order : new.order ≡ old.order
  pub width : new.width ≡ old.width

-- the reader is new: it took no octets and gave no rows
pub record BeginsReading (coding : Coding) (order : Order) (width : ℕ) (reader : RowReading) : Type 0 where
  pub coding_is : reader.coding ≡ coding
  pub order_is : reader.order ≡ order
  pub width_is : reader.width ≡ width
  pub none : ReadsRows reader [] []

-- the first of these octets are taken: all of them, or as many as there is room for
pub record TakesOctets (old : RowReading) (octets : List ℕ) (count : ℕ) (new : RowReading) : Type 0 where
  pub same : IsSameReader old new
  pub within : count ≤ length octets
  pub most : count < length octets → length new.held ≡ max_held
  pub few : length new.held ≤ max_held
  pub stands : (rows : List (List Color)) (first : List ℕ) → ReadsRows old rows first → ReadsRows new rows (first ++ take count octets)

-- The next row is given; or reading all octets so far gives the rows that were given and the page's end, or a refusal at this bit and for
-- this reason. An error changes nothing.
abbrev pub ReadsNext : {E : Type 0} → RowReading → RowReading → Result NextRow E → Type 0
ReadsNext old new (Ok (Row row)) = IsSameReader old new × ((rows : List (List Color)) (octets : List ℕ) → ReadsRows old rows octets
    → ReadsRows new (rows ++ row ∷ []) octets)
ReadsNext old new (Ok (End used)) = (new ≡ old) × ((rows : List (List Color)) (octets : List ℕ) → ReadsRows old rows octets
    → read_rows old.coding old.width (bits_of old.order octets) ≡ Ok (rows, used))
ReadsNext old new (Ok (Refused fault)) = (new ≡ old) × ((rows : List (List Color)) (octets : List ℕ) → ReadsRows old rows octets
    → read_rows old.coding old.width (bits_of old.order octets) ≡ Err (fault.place, fault.kind))
ReadsNext old new (Err error) = new ≡ old

-- ---- parts of the reader

-- these rows were read from the beginning of bits whose last part is at hand, after `far` bits that were given up; the next row is looked
-- for at this place
pub record GoesOnIn (coding : Coding) (to : RowPlace) (before : List Color) (held : List Bool) (rows : List (List Color)) (bits : List
    Bool) (far : ℕ) : Type 0 where
  pub counted : to.rows ≡ length rows
  pub left : drop (far + to.at) bits ≡ drop to.at held
  pub read : IsReadTo coding to.width bits rows (far + to.at)
  pub before_is : IsBefore coding to.width rows before

-- what is found at a row's place, with places in the bits at hand
abbrev pub FindsNext : {E : Type 0} → Coding → List Bool → RowPlace → RowPlace → List Color → List Color → Result NextRow E → Type 0
FindsNext coding held old new before next (Ok (Row row)) =
    (old.rows < max_rows) × (new.width ≡ old.width) × (new.rows ≡ old.rows + 1) × (new.at ≤ length held)
    × ((rows : List (List Color)) (bits : List Bool) (far : ℕ) → GoesOnIn coding old before held rows bits far
    → IsReadTo coding old.width bits (rows ++ row ∷ []) (far + new.at) × IsBefore coding old.width (rows ++ row ∷ []) next)
FindsNext coding held old new before next (Ok (End used)) =
    (new ≡ old) × (next ≡ before) × (used ≤ length held)
    × ((rows : List (List Color)) (bits : List Bool) (far : ℕ) → GoesOnIn coding old before held rows bits far
    → read_rows coding old.width bits ≡ Ok (rows, far + used))
FindsNext coding held old new before next (Ok (Refused fault)) =
    (new ≡ old) × (next ≡ before) × (fault.place ≤ length held)
    × ((rows : List (List Color)) (bits : List Bool) (far : ℕ) → GoesOnIn coding old before held rows bits far
    → read_rows coding old.width bits ≡ Err (far + fault.place, fault.kind))
FindsNext coding held old new before next (Err error) = (new ≡ old) × (next ≡ before)

-- in one dimension, a refusal is found at a row's place, with its own place in the bits at hand
abbrev pub IsFoundRefused : List Bool → RowPlace → CodeFault → Type 0
IsFoundRefused held to fault = (fault.place ≤ length held)
    × ((before : List Color) (rows : List (List Color)) (bits : List Bool) (far : ℕ) → GoesOnIn OneDim to before held rows bits far
    → read_rows OneDim to.width bits ≡ Err (far + fault.place, fault.kind))

-- a refusal other than NoMemory, or memory was refused
abbrev pub IsRefusal : {E : Type 0} → CodeFault → Result NextRow E → Type 0
IsRefusal fault (Ok (Row row)) = ⊥
IsRefusal fault (Ok (End used)) = ⊥
IsRefusal fault (Ok (Refused same)) = (same ≡ fault) × (fault.kind ≢ NoMemory)
IsRefusal fault (Err error) = ⊤

-- what is found in one dimension, with its place `far` bits further on
abbrev pub moved_start : ℕ → Start → Start
moved_start far (start.Row at) = start.Row (far + at)
moved_start far (start.End used) = start.End (far + used)
moved_start far (start.Refused fault) = start.Refused (record { place = far + fault.place; kind = fault.kind })

-- what is found at a place after this number of rows, whatever the rows are and whatever bits come before
abbrev pub FindsStart : List Bool → ℕ → ℕ → Start → Type 0
FindsStart held place count found =
    (width : ℕ) (rows : List (List Color)) (bits : List Bool) (far : ℕ) → count ≡ length rows
    → drop (far + place) bits ≡ drop place held → far + place ≤ length bits
    → FindsRow bits width rows (far + place) (moved_start far found)

-- what is found is within the bits; a row is found at that place or after it, and only if there is room for it
abbrev pub IsStartWithin : ℕ → ℕ → ℕ → Start → Type 0
IsStartWithin place limit count (start.Row at) = (place ≤ at) × (at ≤ limit) × (count < max_rows)
IsStartWithin place limit count (start.End used) = used ≤ limit
IsStartWithin place limit count (start.Refused fault) = fault.place ≤ limit

-- the row whose first code is at a place was read, or it is refused, or memory is
abbrev pub ReadsRowThere : {E : Type 0} → List Bool → ℕ → RowPlace → RowPlace → Result NextRow E → Type 0
ReadsRowThere held place old new (Ok (Row row)) = (used : ℕ) × ReadsAsRow old.width (drop place held) row used
    × (new ≡ record { width = old.width; rows = old.rows + 1; at = place + used })
ReadsRowThere held place old new (Ok (End used)) = ⊥
ReadsRowThere held place old new (Ok (Refused fault)) = (new ≡ old) × ((front : ℕ) × (fault.place ≡ place + front)
    × IsLongestRow old.width (drop place held) front fault.kind)
ReadsRowThere held place old new (Err error) = new ≡ old
