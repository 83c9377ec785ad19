-- What calls answer and make of documents: the pages of a call, in order.
use Rattle.std.specs.Prelude.{ℕ, ◌≡◌, ◌≢◌, ◌<◌, ◌++◌, ◌∷◌, ◌⊎◌, [], List, length}
use Rattle.std.specs.declared.option.Option.{Option}
use Rattle.std.specs.declared.option.Option.TheVariants.{None, Some}
use Rattle.raster.specs.Pages.{PagePixels}
use Rattle.raster.specs.declared.coding.Coding.{Coding}
use Rattle.g3fax.specs.Handles.{OnDocument}
use Rattle.g3fax.specs.Statuses.{ok, no_memory, bad_choice, empty_handle, nothing_there, other_handle}
use Rattle.g3fax.specs.declared.handle.Kept.{Kept}
use Rattle.g3fax.specs.declared.handle.Kept.TheVariants.{Octets, Page, Deframer, Document, Caller, Answerer, RowCoder, RowReader}

-- the pages of a document; none before the first is pushed
abbrev pub pages_of : Option (List PagePixels) → List PagePixels
pages_of None = []
pages_of (Some pages) = pages

-- a page is appended; 4 exactly if it has no rows
pub record AppendsPage (old : Option (List PagePixels)) (page : PagePixels) (new : Option (List PagePixels)) (status : ℕ) : Type 0 where
  pub done : status ≡ ok → new ≡ Some (pages_of old ++ page ∷ [])
  pub kept : status ≢ ok → new ≡ old
  pub no_rows : length page.rows ≡ 0 → status ≡ 4
  pub only : 0 < length page.rows → (status ≡ ok) ⊎ (status ≡ no_memory)

-- each page is coded, in a code that is known: 104 without one, else 106 without a page; else 0, or 9
abbrev pub CodesAll : Option Coding → Option (List PagePixels) → ℕ → Type 0
CodesAll None pages status = status ≡ bad_choice
CodesAll (Some coding) None status = status ≡ nothing_there
CodesAll (Some coding) (Some pages) status = (status ≡ ok) ⊎ (status ≡ no_memory)

-- a value leaves its handle by status 0, and by any other it stays
pub record IsMoved (status : ℕ) (old new : Option Kept) : Type 0 where
  pub done : status ≡ ok → new ≡ None
  pub kept : status ≢ ok → new ≡ old

-- The page of a handle moves to the end of a document, and its handle is empty then. 4 exactly if the page has no rows; 100 and 101 for
-- either handle, the page's first; else 0, or 9. By any status above 0 both stay.
abbrev pub MovesPage : Option Kept → Option Kept → Option Kept → Option Kept → ℕ → Type 0
MovesPage None left old new status = (status ≡ empty_handle) × (left ≡ None) × (new ≡ old)
MovesPage (Some (Octets octets)) left old new status = (status ≡ other_handle) × (left ≡ Some (Octets octets)) × (new ≡ old)
MovesPage (Some (Page page)) left old new status =
    OnDocument (λ before after. AppendsPage before page after status) old new status × IsMoved status (Some (Page page)) left
MovesPage (Some (Deframer state)) left old new status = (status ≡ other_handle) × (left ≡ Some (Deframer state)) × (new ≡ old)
MovesPage (Some (Document pages)) left old new status = (status ≡ other_handle) × (left ≡ Some (Document pages)) × (new ≡ old)
MovesPage (Some (Caller terminal)) left old new status = (status ≡ other_handle) × (left ≡ Some (Caller terminal)) × (new ≡ old)
MovesPage (Some (Answerer answering)) left old new status = (status ≡ other_handle) × (left ≡ Some (Answerer answering)) × (new ≡ old)
MovesPage (Some (RowCoder coder)) left old new status = (status ≡ other_handle) × (left ≡ Some (RowCoder coder)) × (new ≡ old)
MovesPage (Some (RowReader reader)) left old new status = (status ≡ other_handle) × (left ≡ Some (RowReader reader)) × (new ≡ old)
