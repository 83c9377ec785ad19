-- The codes of the first pages of a document, where pages come after it, or its first ones go.
use Rattle.std.proofs.Common.{◌≡◌, ℕ, zero, suc, List, [], ◌∷◌, ◌++◌, drop, IfSome, slice_get}
use Rattle.raster.specs.Pages.{PagePixels}
use Rattle.raster.specs.declared.coding.Coding.{Coding}
use Rattle.stations.specs.CodedDocuments.{AreCodes, IsCodeAt, coded_page}

pub dropped : (coding : Coding) (document : List PagePixels) (codes : List (List ℕ)) (first : ℕ) → AreCodes coding document codes →
    AreCodes coding (drop first document) (drop first codes)
dropped coding document codes zero h = h
dropped coding document [] (suc first) h = cc
dropped coding [] (code ∷ codes) (suc first) h = cc
dropped coding (page ∷ document) (code ∷ codes) (suc first) h = dropped coding document codes first cc

pub pushed : (coding : Coding) (document : List PagePixels) (codes : List (List ℕ)) (page : PagePixels) → AreCodes coding document codes →
    AreCodes coding (document ++ page ∷ []) codes
pushed coding document [] page h = cc
pushed coding [] (code ∷ codes) page h = cc
pushed coding (first ∷ document) (code ∷ codes) page h =
    let is : code ≡ coded_page coding first = cc in
    let rest : AreCodes coding (document ++ page ∷ []) codes = pushed coding document codes page cc in
    cc

pub got : (coding : Coding) (document : List PagePixels) (codes : List (List ℕ)) (number : ℕ) → AreCodes coding document codes →
    IfSome (slice_get codes number) (IsCodeAt coding document number)
got coding document [] number h = tt
got coding [] (code ∷ codes) number h = cc
got coding (page ∷ document) (code ∷ codes) zero h = cc
got coding (page ∷ document) (code ∷ codes) (suc number) h = got coding document codes number cc
