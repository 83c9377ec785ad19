-- A list of pages and another one after it have none.
use Rattle.std.proofs.Common.{◌≡◌, ◌++◌, List, [], ◌∷◌, length, refl}
use Rattle.raster.specs.Pages.{PagePixels}

pub none_before : (front back : List PagePixels) → front ++ back ≡ [] → length front ≡ 0
none_before [] back none = refl
none_before (page ∷ front) back none = absurd cc
