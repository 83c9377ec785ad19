-- How a page keeps its rows: the octets of all in one list.
use Rattle.std.specs.Prelude.{ℕ, ◌≡◌, ◌≤◌, ◌-◌, ◌*◌, ◌++◌, ◌∷◌, [], All, List, length, take, drop, map, Some, slice_get}
use Rattle.raster.specs.declared.packed.Order.TheVariants.{MsbFirst}
use Rattle.raster.specs.declared.page.RowAt.{RowAt}
use Rattle.raster.specs.declared.row.Color.{Color}
use Rattle.raster.specs.Packed.{kept_bits, AreKept}
use Rattle.raster.specs.Pages.{max_rows}
use Rattle.raster.specs.Pixels.{colors, IsWidth}

-- the octets of a row, of those of a page
abbrev pub row_octets : List ℕ → RowAt → List ℕ
row_octets octets at = take (at.end - at.start) (drop at.start octets)

-- the pixels of a row of a page
unfoldable pub stored_row : ℕ → List ℕ → RowAt → List Color
stored_row width octets at = colors (kept_bits at.alike MsbFirst (row_octets octets at) width)

-- the pixels of rows of a page
unfoldable pub stored_rows : ℕ → List ℕ → List RowAt → List (List Color)
stored_rows width octets places = map (stored_row width octets) places

-- where a row may lie in a page's octets
pub record IsStored (width : ℕ) (octets : List ℕ) (at : RowAt) : Type 0 where
  pub rising : at.start ≤ at.end
  pub within : at.end ≤ length octets
  pub kept : AreKept at.alike MsbFirst (row_octets octets at) width

-- where a page's rows may lie in its octets
pub record AreStored (width : ℕ) (octets : List ℕ) (places : List RowAt) : Type 0 where
  pub wide : IsWidth width
  pub few : length places ≤ max_rows
  pub short : length octets ≤ 304 * length places
  pub each : All (IsStored width octets) places

-- the same of a part of the rows
pub record AreLent (width : ℕ) (octets : List ℕ) (places : List RowAt) : Type 0 where
  pub wide : IsWidth width
  pub few : length places ≤ max_rows
  pub each : All (IsStored width octets) places

-- what appending a row's octets and its place leaves
pub record Pushed (width : ℕ) (row : List Color) (octets new : List ℕ) (places next : List RowAt) : Type 0 where
  pub stored : AreStored width new next
  pub rows : stored_rows width new next ≡ stored_rows width octets places ++ row ∷ []

-- what appending the place of the row at a place once more leaves
abbrev pub PushedAgain : ℕ → ℕ → List ℕ → List ℕ → List RowAt → List RowAt → Type 0
PushedAgain width at octets new places next = (row : List Color) × (slice_get (stored_rows width octets places) at ≡ Some row)
    × Pushed width row octets new places next
