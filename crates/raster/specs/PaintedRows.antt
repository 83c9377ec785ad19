-- Rows of painters that are appended to a page.
use Rattle.std.specs.Prelude.{ℕ, ◌≡◌, List, None, length}
use Rattle.raster.specs.declared.page.RowAt.{RowAt}
use Rattle.raster.specs.declared.painting.Painter.{Painter}
use Rattle.raster.specs.declared.row.Color.{Color}
use Rattle.raster.specs.declared.row.Color.TheVariants.{White}
use Rattle.raster.specs.Appending.{AppendsRow}
use Rattle.raster.specs.Painting.{Paints}
use Rattle.raster.specs.Runs.{colored}
use Rattle.raster.specs.Stored.{Pushed}

-- the octets of a painter's row are appended, which is the row of the runs that are painted
pub record AppendsPainted (painter : Painter) (old new : List ℕ) : Type 0 where
  pub row : List Color
  pub wide : length row ≡ painter.width
  pub appended : AppendsRow row old new None
  pub are : (runs : List ℕ) → Paints runs painter → row ≡ colored White runs

-- and its place
pub record PushesPainted (painter : Painter) (octets new : List ℕ) (places next : List RowAt) : Type 0 where
  pub row : List Color
  pub pushed : Pushed painter.width row octets new places next
  pub are : (runs : List ℕ) → Paints runs painter → row ≡ colored White runs
