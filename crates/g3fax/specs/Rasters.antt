-- What calls answer that read and write rasters: packed rows in memory, which begin some number of octets apart.
use Rattle.std.specs.Prelude.{ℕ, zero, suc, ◌≡◌, ◌<◌, ◌≤◌, ◌+◌, ◌*◌, ◌++◌, ◌∷◌, ◌⊎◌, [], List, map, length, take, drop}
use Rattle.std.specs.List.{range_with_len}
use Rattle.std.specs.declared.option.Option.{Option}
use Rattle.std.specs.declared.option.Option.TheVariants.{None}
use Rattle.raster.specs.Pages.{PagePixels, max_rows}
use Rattle.raster.specs.Pbm.{row_pixels, stride}
use Rattle.raster.specs.PbmText.{HoldsRow}
use Rattle.raster.specs.Pixels.{IsWidth}
use Rattle.raster.specs.declared.row.Color.{Color}
use Rattle.g3fax.specs.Codes.{Tells}
use Rattle.g3fax.specs.Handles.{Fills, HasPage}
use Rattle.g3fax.specs.Pages.{bad_width, is_set, too_many_rows}
use Rattle.g3fax.specs.Statuses.{ok, no_memory, no_room, bad_length}
use Rattle.g3fax.specs.declared.handle.Kept.{Kept}
use Rattle.g3fax.specs.declared.rasters.G3Raster.{G3Raster}

-- how many octets there are from the beginning of the first row to the end of the last one, for rows of `row` octets that begin `apart`
-- octets apart
abbrev pub raster_octets : ℕ → ℕ → ℕ → ℕ
raster_octets row apart zero = 0
raster_octets row apart (suc more) = apart * more + row

-- the rows in octets, of which each begins `apart` octets after the one before
unfoldable pub raster_rows : ℕ → ℕ → List ℕ → ℕ → List (List Color)
raster_rows width apart octets rows = map (λ number. row_pixels width (drop (apart * number) octets)) (range_with_len 0 rows)

-- the page of the rows in a raster
abbrev pub raster_page : G3Raster → List ℕ → PagePixels
raster_page raster octets = record {
  width = raster.width;
  fine = is_set raster.fine;
  rows = raster_rows raster.width raster.stride octets raster.rows;
}

-- how many octets a raster takes
abbrev pub raster_size : G3Raster → ℕ
raster_size raster = raster_octets (stride raster.width) raster.stride raster.rows

-- An empty handle is filled with the page of a raster. The first that holds: 1 if the width isn't 1 to 2,432; 3 if there are more than
-- 20,000 rows; 105 if rows begin closer than a row is long, or the octets end before the last row does; else 0, or 9.
pub record ReadsRaster (raster : G3Raster) (octets : List ℕ) (old : Option Kept) (status : ℕ) (new : Option Kept) : Type 0 where
  pub fills : Fills (HasPage (λ page. page ≡ raster_page raster octets)) old status new
  pub width : old ≡ None → ¬ IsWidth raster.width → status ≡ bad_width
  pub rows : old ≡ None → IsWidth raster.width → max_rows < raster.rows → status ≡ too_many_rows
  pub close : old ≡ None → IsWidth raster.width → raster.rows ≤ max_rows → raster.stride < stride raster.width → status ≡ bad_length
  pub short : old ≡ None → IsWidth raster.width → raster.rows ≤ max_rows → length octets < raster_size raster → status ≡ bad_length
  pub only : old ≡ None → IsWidth raster.width → raster.rows ≤ max_rows → stride raster.width ≤ raster.stride
      → raster_size raster ≤ length octets → (status ≡ ok) ⊎ (status ≡ no_memory)

-- Rows in a buffer from the top, each at the beginning of `apart` octets. The octets between them and after the last row stay.
abbrev pub LaysRows : ℕ → List (List Color) → List ℕ → List ℕ → Type 0
LaysRows apart [] old new = new ≡ old
LaysRows apart (row ∷ rows) old new = (octets : List ℕ) × HoldsRow row octets
    × (take apart new ≡ octets ++ drop (length octets) (take apart old)) × LaysRows apart rows (drop apart old) (drop apart new)

-- The rows of a page are written to a buffer, and how many octets they take is told, if that is a number of 64 bits. 105 if rows begin
-- closer than a row is long, else 103 if the buffer ends before the last row would; nothing is written then.
pub record WritesRaster (page : PagePixels) (apart : ℕ) (old new : List ℕ) (before count status : ℕ) : Type 0 where
  pub close : apart < stride page.width → (status ≡ bad_length) × (new ≡ old) × (count ≡ before)
  pub told : stride page.width ≤ apart → Tells (raster_octets (stride page.width) apart (length page.rows)) count
  pub done : stride page.width ≤ apart → raster_octets (stride page.width) apart (length page.rows) ≤ length old
      → (status ≡ ok) × LaysRows apart page.rows old new
  pub refused : stride page.width ≤ apart → length old < raster_octets (stride page.width) apart (length page.rows)
      → (status ≡ no_room) × (new ≡ old)
