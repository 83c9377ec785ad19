-- Places in rising order, such as those of a row's changing elements, and the first of them from a place on (ITU-T T.6, 2.2.1).
use Rattle.std.specs.Prelude.{ℕ, zero, suc, ◌≡◌, ◌+◌, ◌-◌, ◌<◌, ◌≤◌, ◌⊎◌, ◌++◌, ◌∷◌, [], List, length, slice_index_or}
use Rattle.raster.specs.declared.row.Color.{Color}
use Rattle.raster.specs.declared.row.Color.TheVariants.{Black}
use Rattle.raster.specs.Changes.{AreChanges}
use Rattle.raster.specs.Pixels.{other}

-- the place before an index, in a list of places in rising order, is to the left of a place
abbrev pub IsLeftBefore : List ℕ → ℕ → ℕ → Type 0
IsLeftBefore places from at = 0 < at → slice_index_or places (at - 1) 0 < from

-- the index of the first of some places in rising order that isn't to the left of a place, or their number if all are
pub record IsFirstFrom (places : List ℕ) (from at : ℕ) : Type 0 where
  pub within : at ≤ length places
  pub left : IsLeftBefore places from at
  pub reached : at < length places → from ≤ slice_index_or places at 0

-- the places of a row's changing elements in rising order, followed by the row's width three times
pub record AreHeld (row : List Color) (held : List ℕ) : Type 0 where
  pub places : List ℕ
  pub changes : AreChanges row places
  pub ends : held ≡ places ++ length row ∷ length row ∷ length row ∷ []

-- the index of the first of such a list of places that isn't to the left of a place
pub record IsFirstHeld (held : List ℕ) (from at : ℕ) : Type 0 where
  pub within : at + 3 ≤ length held
  pub left : IsLeftBefore held from at
  pub reached : from ≤ slice_index_or held at 0

-- the color of a row's changing element at an index: they alternate, black first, since a row begins after white
abbrev pub turned : ℕ → Color
turned zero = Black
turned (suc index) = other (turned index)

-- the index of the first changing element of a color, at or after an index
abbrev pub IsIndexOf : Color → ℕ → ℕ → Type 0
IsIndexOf color at index = ((turned at ≡ color) × (index ≡ at)) ⊎ ((turned at ≡ other color) × (index ≡ at + 1))
