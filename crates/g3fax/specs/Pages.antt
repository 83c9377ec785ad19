-- What calls answer and make of pages.
use Rattle.std.specs.Prelude.{ℕ, ◌≡◌, ◌≢◌, ◌<◌, ◌≤◌, ◌*◌, ◌++◌, ◌∷◌, ◌⊎◌, [], Bool, List, length}
use Rattle.std.specs.Prelude.{nat_eq, not}
use Rattle.std.specs.declared.option.Option.{Option}
use Rattle.std.specs.declared.option.Option.TheVariants.{None, Some}
use Rattle.raster.specs.declared.row.Color.{Color}
use Rattle.raster.specs.Pages.{PagePixels, max_rows}
use Rattle.raster.specs.Pbm.{row_pixels}
use Rattle.raster.specs.PbmText.{HoldsRow}
use Rattle.raster.specs.Pixels.{IsWidth}
use Rattle.g3fax.specs.Handles.{Copies, Fills, HasPage}
use Rattle.g3fax.specs.Statuses.{ok, no_memory, bad_length, nothing_there}
use Rattle.g3fax.specs.declared.handle.Kept.{Kept}
use Rattle.g3fax.specs.declared.pages.G3Size.{G3Size}

-- the status of a page whose width isn't 1 to 2,432
abbrev pub bad_width : ℕ
bad_width = 1

-- the status of a page that has 20,000 rows and is to have more
abbrev pub too_many_rows : ℕ
too_many_rows = 3

-- a number as a choice: 0 is no, any other is yes
abbrev pub is_set : ℕ → Bool
is_set number = not (nat_eq number 0)

-- An empty handle is filled with a page of no rows. 1 exactly if the width isn't 1 to 2,432; else 0, or 9.
pub record MakesPage (width fine : ℕ) (old : Option Kept) (status : ℕ) (new : Option Kept) : Type 0 where
  pub fills : Fills (HasPage (λ page. page ≡ record { width = width; fine = is_set fine; rows = [] })) old status new
  pub refused : old ≡ None → ¬ IsWidth width → status ≡ bad_width
  pub only : old ≡ None → IsWidth width → (status ≡ ok) ⊎ (status ≡ no_memory)

-- A row is appended, from the first bits of octets. 105 exactly if they have fewer bits than a row; else 3 exactly if the page has 20,000
-- rows; else 0, or 9 if memory is refused.
pub record PushesOctets (octets : List ℕ) (old new : PagePixels) (status : ℕ) : Type 0 where
  pub done : status ≡ ok → new ≡ record old { rows = old.rows ++ row_pixels old.width octets ∷ [] }
  pub kept : status ≢ ok → new ≡ old
  pub short : 8 * length octets < old.width → status ≡ bad_length
  pub full : old.width ≤ 8 * length octets → max_rows ≤ length old.rows → status ≡ too_many_rows
  pub only : old.width ≤ 8 * length octets → length old.rows < max_rows → (status ≡ ok) ⊎ (status ≡ no_memory)

-- the size of a page is told: its width in pixels, its number of rows, and whether its lines are fine
pub record TellsSize (page : PagePixels) (size : G3Size) (status : ℕ) : Type 0 where
  pub done : status ≡ ok
  pub width : size.width ≡ page.width
  pub rows : size.rows ≡ length page.rows
  pub fine : is_set size.fine ≡ page.fine

-- octets that hold the row are copied to a buffer; without such a row the status is 106, and nothing is written
abbrev pub CopiesRow : Option (List Color) → List ℕ → List ℕ → ℕ → ℕ → ℕ → Type 0
CopiesRow None old new before count status = (status ≡ nothing_there) × (new ≡ old) × (count ≡ before)
CopiesRow (Some row) old new before count status = (octets : List ℕ) × HoldsRow row octets × Copies octets old new count status
