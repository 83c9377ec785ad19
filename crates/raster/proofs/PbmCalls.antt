-- What the public calls that read PBM files say of the octets that the reader has.
use Rattle.std.proofs.Common.{◌≡◌, ℕ, Bool, true, false, List, ◌∷◌, length, Ok, Err}
use Rattle.std.specs.Prelude.{Option, Some, None, IfSome, slice_get}
use Rattle.raster.specs.declared.fault.RasterFault.{RasterFault}
use Rattle.raster.specs.Pages.{PagePixels}
use Rattle.raster.specs.Pbm.{AreImages, BeginsImages, FailsOrIo, Given, IsReadUnless, read_images, read_kept}
use Rattle.raster.specs.PbmFaults.{AnswersFirstFault, IsFirstFault}
use Rattle.raster.proofs.PbmFaults.{answers_fault, no_first_fault}
use Rattle.raster.proofs.PbmPieces.{given_known}
use Rattle.raster.proofs.PbmReading.{kept_fails, fails_only, found_first, found_images, only_first, only_images}

-- ---- a fault

pub all_of_fault : (fine : Bool) (octets : Option (List ℕ)) (fault : RasterFault)
    → IfSome octets (λ octets. FailsOrIo fault (read_images fine octets))
    → IfSome octets (λ octets. (pages : List PagePixels) → AreImages fine octets pages
    → IsReadUnless {X = List PagePixels} (Err fault) pages)
all_of_fault fine None fault h = tt
all_of_fault fine (Some octets) fault h = λ pages are. fails_only (List PagePixels) fine octets fault pages pages h are

pub first_of_fault : (fine : Bool) (octets : Option (List ℕ)) (fault : RasterFault)
    → IfSome octets (λ octets. FailsOrIo fault (read_images fine octets))
    → IfSome octets (λ octets. (page : PagePixels) (later : List PagePixels) → AreImages fine octets (page ∷ later)
    → IsReadUnless {X = PagePixels × ℕ} (Err fault) (page, length (page ∷ later)))
first_of_fault fine None fault h = tt
first_of_fault fine (Some octets) fault h =
    λ page later are. fails_only (PagePixels × ℕ) fine octets fault (page, length (page ∷ later)) (page ∷ later) h are

pub fault_is_first : (X : Type 0) (fine : Bool) (octets : Option (List ℕ)) (fault : RasterFault)
    → IfSome octets (λ octets. FailsOrIo fault (read_images fine octets))
    → IfSome octets (λ octets. AnswersFirstFault {X = X} octets (Err fault))
fault_is_first X fine None fault h = tt
fault_is_first X fine (Some octets) fault h = answers_fault X fine octets fault h

-- ---- the octets that were read

pub fault_known : (all fine : Bool) (octets : Option (List ℕ)) (fault : RasterFault)
    → Given octets (λ octets. FailsOrIo fault (read_kept all fine octets))
    → IfSome octets (λ octets. FailsOrIo fault (read_images fine octets))
fault_known all fine None fault given = tt
fault_known all fine (Some octets) fault given =
    kept_fails all fine octets fault (given_known (Some octets) (λ octets. FailsOrIo fault (read_kept all fine octets)) given)

pub kept_known : (all fine : Bool) (octets : Option (List ℕ)) (found : List PagePixels × ℕ)
    → Given octets (λ octets. read_kept all fine octets ≡ Ok found) → IfSome octets (λ octets. read_kept all fine octets ≡ Ok found)
kept_known all fine octets found given = given_known octets (λ octets. read_kept all fine octets ≡ Ok found) given

-- ---- all images

abbrev KeptAll : Bool → Option (List ℕ) → List PagePixels × ℕ → Type 0
KeptAll fine octets found = IfSome octets (λ octets. read_kept true fine octets ≡ Ok found)

pub all_found : (fine : Bool) (octets : Option (List ℕ)) (found : List PagePixels × ℕ) → KeptAll fine octets found
    → IfSome octets (λ octets. AreImages fine octets found.0)
all_found fine None found h = tt
all_found fine (Some octets) found h = found_images fine octets found h

pub all_only : (fine : Bool) (octets : Option (List ℕ)) (found : List PagePixels × ℕ) → KeptAll fine octets found
    → IfSome octets (λ octets. (pages : List PagePixels) → AreImages fine octets pages → found.0 ≡ pages)
all_only fine None found h = tt
all_only fine (Some octets) found h = only_images fine octets found h

pub all_faultless : (fine : Bool) (octets : Option (List ℕ)) (found : List PagePixels × ℕ) → KeptAll fine octets found
    → IfSome octets (λ octets. (fault : RasterFault) → ¬ IsFirstFault fault octets)
all_faultless fine None found h = tt
all_faultless fine (Some octets) found h = no_first_fault fine octets found.0 (found_images fine octets found h)

-- ---- the first image alone

abbrev KeptFirst : Bool → Option (List ℕ) → List PagePixels × ℕ → PagePixels → Type 0
KeptFirst fine octets found page =
    IfSome octets (λ octets. read_kept false fine octets ≡ Ok found) × (slice_get found.0 0 ≡ Some page)

pub first_found : (fine : Bool) (octets : Option (List ℕ)) (found : List PagePixels × ℕ) (page : PagePixels)
    → KeptFirst fine octets found page → IfSome octets (λ octets. BeginsImages fine octets page found.1)
first_found fine None found page h = tt
first_found fine (Some octets) found page h = found_first fine octets found page h.0 h.1

pub first_only : (fine : Bool) (octets : Option (List ℕ)) (found : List PagePixels × ℕ) (page : PagePixels)
    → KeptFirst fine octets found page
    → IfSome octets (λ octets. (first : PagePixels) (later : List PagePixels) → AreImages fine octets (first ∷ later)
    → ◌≡◌ {A = PagePixels × ℕ} (page, found.1) (first, length (first ∷ later)))
first_only fine None found page h = tt
first_only fine (Some octets) found page h = only_first fine octets page found.1 (found_first fine octets found page h.0 h.1)

pub first_faultless : (fine : Bool) (octets : Option (List ℕ)) (found : List PagePixels × ℕ) (page : PagePixels)
    → KeptFirst fine octets found page → IfSome octets (λ octets. (fault : RasterFault) → ¬ IsFirstFault fault octets)
first_faultless fine None found page h = tt
first_faultless fine (Some octets) found page h =
    let begins = found_first fine octets found page h.0 h.1 in
    no_first_fault fine octets (page ∷ begins.later) begins.are
