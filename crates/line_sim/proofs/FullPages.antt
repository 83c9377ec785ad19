-- Pages that are pages and have rows are full.
use Rattle.std.proofs.Common.{suc, ◌<◌, List, [], ◌∷◌, length, arith}
use Rattle.std.specs.Prelude.{All}
use Rattle.raster.specs.Pages.{PagePixels, IsPage}
use Rattle.stations.specs.Laws.{Each}
use Rattle.stations.specs.Layers.{IsFullPage}

pub each_full : (pages : List PagePixels) → All IsPage pages → All (λ (page : PagePixels). 0 < length page.rows) pages →
    Each IsFullPage pages
each_full [] valid some = tt
each_full (page ∷ pages) valid some = (
  record { valid = valid 0 page (omega arith); some = some 0 page (omega arith) },
  each_full pages
      (λ k d within. valid (suc k) d (omega arith)) (λ k d within. some (suc k) d (omega arith)),
)
