-- What calls answer that code a page row by row.
use Rattle.std.specs.Prelude.{ℕ, ◌≡◌, ◌≢◌, ◌<◌, ◌≤◌, ◌*◌, ◌⊎◌, [], List, IfSome, length}
use Rattle.std.specs.declared.option.Option.{Option}
use Rattle.std.specs.declared.option.Option.TheVariants.{None, Some}
use Rattle.raster.specs.Pages.{max_rows}
use Rattle.raster.specs.Pbm.{row_pixels}
use Rattle.raster.specs.Pixels.{IsWidth}
use Rattle.page_code.specs.RowCoders.{BeginsCode, CodesOneMore, EndsPage, HandsOut, RowCoding}
use Rattle.g3fax.specs.Codes.{coding_of, order_of}
use Rattle.g3fax.specs.Documents.{IsMoved}
use Rattle.g3fax.specs.Handles.{Fills, HasOctets, HasRowCoder}
use Rattle.g3fax.specs.Pages.{bad_width, too_many_rows}
use Rattle.g3fax.specs.Statuses.{ok, no_memory, bad_choice, bad_length, empty_handle, other_handle}
use Rattle.g3fax.specs.declared.codes.G3Code.{G3Code}
use Rattle.g3fax.specs.declared.handle.Kept.{Kept}
use Rattle.g3fax.specs.declared.handle.Kept.TheVariants.{Octets, Page, Deframer, Document, Caller, Answerer, RowCoder, RowReader}

-- a coder of a page in this form, of no rows so far
abbrev pub BeginsIn : G3Code → RowCoding → Type 0
BeginsIn code coder = IfSome (coding_of code.coding) (λ coding. IfSome (order_of code.order) (λ order.
    BeginsCode coding order code.width coder))

-- An empty handle is filled with a coder of no rows. 104 if the number of the code or of the order is unknown, else 1 if the width isn't 1
-- to 2,432; else 0, or 9.
pub record MakesCoder (code : G3Code) (old : Option Kept) (status : ℕ) (new : Option Kept) : Type 0 where
  pub fills : Fills (HasRowCoder (BeginsIn code)) old status new
  pub no_coding : old ≡ None → coding_of code.coding ≡ None → status ≡ bad_choice
  pub no_order : old ≡ None → order_of code.order ≡ None → status ≡ bad_choice
  pub no_width : old ≡ None → coding_of code.coding ≢ None → order_of code.order ≢ None → ¬ IsWidth code.width → status ≡ bad_width
  pub only : old ≡ None → coding_of code.coding ≢ None → order_of code.order ≢ None → IsWidth code.width
      → (status ≡ ok) ⊎ (status ≡ no_memory)

-- A row is coded, from the first bits of octets. 105 exactly if they have fewer bits than a row; else 3 exactly if 20,000 rows were coded;
-- else 0, or 9. By any status above 0 the coder stays.
pub record PushesCoded (octets : List ℕ) (old new : RowCoding) (status : ℕ) : Type 0 where
  pub done : status ≡ ok → CodesOneMore old (row_pixels old.width octets) new
  pub kept : status ≢ ok → new ≡ old
  pub short : 8 * length octets < old.width → status ≡ bad_length
  pub full : old.width ≤ 8 * length octets → max_rows ≤ old.count → status ≡ too_many_rows
  pub only : old.width ≤ 8 * length octets → old.count < max_rows → (status ≡ ok) ⊎ (status ≡ no_memory)

-- the octets of the code that are whole so far fill an empty handle; by any status above 0 nothing changes
pub record HandsOutRows (old new : RowCoding) (before : Option Kept) (status : ℕ) (after : Option Kept) : Type 0 where
  pub fills : Fills (HasOctets (λ octets. HandsOut old [] octets new)) before status after
  pub kept : status ≢ ok → new ≡ old
  pub only : before ≡ None → (status ≡ ok) ⊎ (status ≡ no_memory)

-- the last octets of the page's code fill an empty handle; 4 only if no row was pushed
pub record EndsRows (coder : RowCoding) (before : Option Kept) (status : ℕ) (after : Option Kept) : Type 0 where
  pub fills : Fills (HasOctets (λ octets. EndsPage coder [] octets)) before status after
  pub some : status ≡ ok → 0 < coder.count
  pub no_rows : before ≡ None → coder.count ≡ 0 → (status ≡ 4) ⊎ (status ≡ no_memory)
  pub only : before ≡ None → 0 < coder.count → (status ≡ ok) ⊎ (status ≡ no_memory)

-- the last octets of the page's code fill an empty handle, if the value is a coder; 101 if it is something else, and nothing is filled
abbrev pub EndsKept : Kept → Option Kept → ℕ → Option Kept → Type 0
EndsKept (Octets octets) before status after = (status ≡ other_handle) × (after ≡ before)
EndsKept (Page page) before status after = (status ≡ other_handle) × (after ≡ before)
EndsKept (Deframer state) before status after = (status ≡ other_handle) × (after ≡ before)
EndsKept (Document pages) before status after = (status ≡ other_handle) × (after ≡ before)
EndsKept (Caller calling) before status after = (status ≡ other_handle) × (after ≡ before)
EndsKept (Answerer answering) before status after = (status ≡ other_handle) × (after ≡ before)
EndsKept (RowReader reader) before status after = (status ≡ other_handle) × (after ≡ before)
EndsKept (RowCoder coder) before status after = EndsRows coder.value before status after

-- The last octets of the page's code fill an empty handle, and the coder leaves its own. 100 if that is empty, 101 if it has something
-- else, 4 only if no row was pushed. By any status above 0 both handles stay.
abbrev pub EndsCoder : Option Kept → Option Kept → Option Kept → ℕ → Option Kept → Type 0
EndsCoder None left before status after = (status ≡ empty_handle) × (left ≡ None) × (after ≡ before)
EndsCoder (Some value) left before status after = EndsKept value before status after × IsMoved status (Some value) left
