-- What calls answer that code pages and read coded pages.
use Rattle.std.specs.Prelude.{ℕ, ◌≡◌, ◌≢◌, ◌<◌, ◌^◌, ◌⊎◌, [], Bool, List, Result, Ok, Err, IfSome, length, if◌then◌else◌, nat_eq}
use Rattle.std.specs.declared.option.Option.{Option}
use Rattle.std.specs.declared.option.Option.TheVariants.{None, Some}
use Rattle.raster.specs.Packed.{bits_of}
use Rattle.raster.specs.Pages.{PagePixels}
use Rattle.raster.specs.Pixels.{IsWidth}
use Rattle.raster.specs.declared.packed.Order.{Order}
use Rattle.raster.specs.declared.packed.Order.TheVariants.{LsbFirst, MsbFirst}
use Rattle.raster.specs.declared.row.Color.{Color}
use Rattle.run_tables.specs.Faults.{number_of}
use Rattle.run_tables.specs.declared.fault.CodeFaultKind.{CodeFaultKind}
use Rattle.page_code.specs.Codings.{code_of, read_rows}
use Rattle.page_code.specs.PageCodes.{AppendsCode}
use Rattle.page_code.specs.RowsSoFar.{AreWholeRows}
use Rattle.raster.specs.declared.coding.Coding.{Coding}
use Rattle.raster.specs.declared.coding.Coding.TheVariants.{OneDim, T6}
use Rattle.g3fax.specs.Handles.{Fills, HasOctets, HasPage}
use Rattle.g3fax.specs.Pages.{bad_width, is_set}
use Rattle.g3fax.specs.Statuses.{ok, no_memory, bad_choice}
use Rattle.g3fax.specs.declared.codes.G3Code.{G3Code}
use Rattle.g3fax.specs.declared.codes.G3End.{G3End}
use Rattle.g3fax.specs.declared.handle.Kept.{Kept}

-- the codes by their numbers: 1 is T.4 in one dimension, 2 is T.6
abbrev pub coding_of : ℕ → Option Coding
coding_of number = if nat_eq number 1 then Some OneDim else (if nat_eq number 2 then Some T6 else None)

-- the orders of bits in octets by their numbers: 0 most significant first, 1 least significant first
abbrev pub order_of : ℕ → Option Order
order_of number = if nat_eq number 0 then Some MsbFirst else (if nat_eq number 1 then Some LsbFirst else None)

-- a number of bits is told, if it fits 64 bits
abbrev pub Tells : ℕ → ℕ → Type 0
Tells bits told = bits < 2 ^ 64 → told ≡ bits

-- An empty handle is filled with the octets of the page's prescribed code. 104 exactly if the number of the code or of the order is
-- unknown; else 4 exactly if the page has no rows; else 0, or 9.
pub record CodesPage (coding : Option Coding) (order : Option Order) (page : PagePixels) (old : Option Kept) (status : ℕ) (new : Option Kept) : Type 0 where
  pub fills : Fills (HasOctets (λ octets. IfSome coding (λ c. IfSome order (λ o.
      AppendsCode o (code_of c page.width page.rows) [] octets)))) old status new
  pub no_coding : old ≡ None → coding ≡ None → status ≡ bad_choice
  pub no_order : old ≡ None → order ≡ None → status ≡ bad_choice
  pub no_rows : old ≡ None → coding ≢ None → order ≢ None → length page.rows ≡ 0 → status ≡ 4
  pub only : old ≡ None → coding ≢ None → order ≢ None → 0 < length page.rows → (status ≡ ok) ⊎ (status ≡ no_memory)

-- What reading gives: the page fills the handle, and the number of bits used is told; or the status is the number of the refusal, and its
-- bit is told.
abbrev pub GivesRead : ℕ → Bool → Result (List (List Color) × ℕ) (ℕ × CodeFaultKind) → ℕ → ℕ → Option Kept → Type 0
GivesRead width fine (Ok read) status place new = (status ≡ ok) × Tells read.1 place
    × HasPage (λ page. (page.width ≡ width) × (page.fine ≡ fine) × (page.rows ≡ read.0)) new
GivesRead width fine (Err refused) status place new = (status ≡ number_of refused.1) × Tells refused.0 place

-- what holds for octets that are read as a page, if the handle is empty, the form is valid and memory isn't refused
abbrev pub Answers : G3Code → (Coding → Order → Type 0) → Option Kept → ℕ → Type 0
Answers code Gives old status = IfSome (coding_of code.coding) (λ coding. IfSome (order_of code.order) (λ order.
    old ≡ None → IsWidth code.width → status ≢ no_memory → Gives coding order))

-- An empty handle is filled with a page read from octets, of the width that was asked for, its lines fine as asked for. 104 if the number
-- of the code or of the order is unknown, else 1 if the width isn't 1 to 2,432.
pub record ReadsForm (code : G3Code) (Holds : PagePixels → Type 0) (old : Option Kept) (status : ℕ) (new : Option Kept) : Type 0 where
  pub fills : Fills (HasPage (λ page. (page.width ≡ code.width) × (page.fine ≡ is_set code.fine) × Holds page)) old status new
  pub no_coding : old ≡ None → coding_of code.coding ≡ None → status ≡ bad_choice
  pub no_order : old ≡ None → order_of code.order ≡ None → status ≡ bad_choice
  pub no_width : old ≡ None → coding_of code.coding ≢ None → order_of code.order ≢ None → ¬ IsWidth code.width → status ≡ bad_width

-- how reading ends is told: 0 and the number of bits used, or the number of the refusal and its bit
abbrev pub TellsEnd : Result (List (List Color) × ℕ) (ℕ × CodeFaultKind) → G3End → Type 0
TellsEnd (Ok read) told = (told.fault ≡ ok) × Tells read.1 told.place
TellsEnd (Err refused) told = (told.fault ≡ number_of refused.1) × Tells refused.0 told.place

-- how reading octets in this form ends is told
abbrev pub EndsForm : G3Code → List ℕ → G3End → Type 0
EndsForm code octets told = IfSome (coding_of code.coding) (λ coding. IfSome (order_of code.order) (λ order.
    TellsEnd (read_rows coding code.width (bits_of order octets)) told))

-- the page has all whole rows that the octets spell from the beginning, in this form
abbrev pub HasWholeRows : G3Code → List ℕ → PagePixels → Type 0
HasWholeRows code octets page = IfSome (coding_of code.coding) (λ coding. IfSome (order_of code.order) (λ order.
    AreWholeRows coding code.width (bits_of order octets) page.rows))
