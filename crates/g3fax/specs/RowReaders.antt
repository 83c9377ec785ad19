-- What calls answer that read a page row by row.
use Rattle.std.specs.Prelude.{ℕ, ◌≡◌, ◌≢◌, ◌<◌, ◌≤◌, ◌+◌, ◌*◌, ◌⊎◌, List, IfSome, length, Result, Ok, Err}
use Rattle.std.specs.declared.option.Option.{Option}
use Rattle.std.specs.declared.option.Option.TheVariants.{None}
use Rattle.raster.specs.PbmText.{HoldsRow}
use Rattle.raster.specs.Pixels.{IsWidth}
use Rattle.run_tables.specs.Faults.{number_of}
use Rattle.page_code.specs.RowReaders.{BeginsReading, ReadsNext, RowReading, TakesOctets}
use Rattle.page_code.specs.declared.page_rows.NextRow.{NextRow}
use Rattle.page_code.specs.declared.page_rows.NextRow.TheVariants.{Row, End, Refused}
use Rattle.g3fax.specs.Codes.{Tells, coding_of, order_of}
use Rattle.g3fax.specs.Handles.{Copies, Fills, HasRowReader}
use Rattle.g3fax.specs.Pages.{bad_width}
use Rattle.g3fax.specs.Statuses.{ok, no_memory, bad_choice, no_room, nothing_there}
use Rattle.g3fax.specs.declared.codes.G3Code.{G3Code}
use Rattle.g3fax.specs.declared.handle.Kept.{Kept}

-- a reader of a page in this form, that took no octets so far
abbrev pub ReadsIn : G3Code → RowReading → Type 0
ReadsIn code reader = IfSome (coding_of code.coding) (λ coding. IfSome (order_of code.order) (λ order.
    BeginsReading coding order code.width reader))

-- an empty handle is filled with a reader of no octets; the statuses are those of `MakesCoder`
pub record MakesReader (code : G3Code) (old : Option Kept) (status : ℕ) (new : Option Kept) : Type 0 where
  pub fills : Fills (HasRowReader (ReadsIn code)) old status new
  pub no_coding : old ≡ None → coding_of code.coding ≡ None → status ≡ bad_choice
  pub no_order : old ≡ None → order_of code.order ≡ None → status ≡ bad_choice
  pub no_width : old ≡ None → coding_of code.coding ≢ None → order_of code.order ≢ None → ¬ IsWidth code.width → status ≡ bad_width
  pub only : old ≡ None → coding_of code.coding ≢ None → order_of code.order ≢ None → IsWidth code.width
      → (status ≡ ok) ⊎ (status ≡ no_memory)

-- A reader has taken the first of some octets: all, or as many as it had room for; how many is told. If memory is refused, it stays.
pub record FeedsRows (octets : List ℕ) (old new : RowReading) (taken status : ℕ) : Type 0 where
  pub done : status ≡ ok → TakesOctets old octets taken new
  pub kept : status ≢ ok → new ≡ old
  pub only : (status ≡ ok) ⊎ (status ≡ no_memory)

-- the octets of a row
abbrev pub IsRowLength : ℕ → ℕ → Type 0
IsRowLength width count = (width ≤ 8 * count) × (8 * count < width + 8)

-- the row is copied; or the end is told; or the refusal, by its number and bit
abbrev pub TellsRow : {E : Type 0} → Result NextRow E → List ℕ → List ℕ → ℕ → ℕ → ℕ → Type 0
TellsRow (Ok (Row row)) before after count place status = (octets : List ℕ) × HoldsRow row octets × Copies octets before after count status
TellsRow (Ok (End used)) before after count place status = (status ≡ nothing_there) × (after ≡ before) × Tells used place
TellsRow (Ok (Refused fault)) before after count place status = (status ≡ number_of fault.kind) × (after ≡ before) × Tells fault.place place
TellsRow (Err error) before after count place status = (status ≡ no_memory) × (after ≡ before)

-- The next row is given, and its octets are copied. If all octets so far are the rows that were given and the page's end: 106, with the
-- bits used. If they are refused: the number of the refusal, with its bit. 103 exactly if the buffer is too small for a row, and nothing is
-- given.
pub record GivesRow (old new : RowReading) (before after : List ℕ) (count place status : ℕ) : Type 0 where
  pub small : 8 * length before < old.width → (status ≡ no_room) × (new ≡ old) × (after ≡ before) × IsRowLength old.width count
  pub fits : old.width ≤ 8 * length before → (answer : Result NextRow (Unit {0})) × ReadsNext old new answer
      × TellsRow answer before after count place status
