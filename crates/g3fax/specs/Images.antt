-- What calls answer that read and write images of Netpbm's raw PBM format.
use Rattle.std.specs.Prelude.{ℕ, ◌≡◌, ◌≢◌, ◌<◌, ◌∷◌, ◌⊎◌, [], List, Err, length}
use Rattle.std.specs.declared.option.Option.{Option}
use Rattle.std.specs.declared.option.Option.TheVariants.{None}
use Rattle.raster.specs.Faults.{number_of}
use Rattle.raster.specs.Pages.{PagePixels}
use Rattle.raster.specs.Pbm.{BeginsImages}
use Rattle.raster.specs.PbmFaults.{AnswersFirstFault}
use Rattle.raster.specs.PbmText.{ArePagesText}
use Rattle.raster.specs.declared.fault.RasterFault.{RasterFault}
use Rattle.g3fax.specs.Handles.{Fills, HasOctets, HasPage}
use Rattle.g3fax.specs.Pages.{is_set}
use Rattle.g3fax.specs.Statuses.{ok, no_memory}
use Rattle.g3fax.specs.declared.handle.Kept.{Kept}

-- the status is the number of the first fault of the octets, or of a fault of reading or memory
pub record RefusesImages (octets : List ℕ) (status : ℕ) : Type 0 where
  pub fault : RasterFault
  pub first : AnswersFirstFault {X = PagePixels × ℕ} octets (Err fault)
  pub number : status ≡ number_of fault

-- An empty handle is filled with the page of the first of the images that the octets are, and the number of images is told. Otherwise the
-- status is the number of the octets' first fault; 8 and 9 are none of these.
pub record ReadsImages (fine : ℕ) (octets : List ℕ) (old : Option Kept) (status count : ℕ) (new : Option Kept) : Type 0 where
  pub fills : Fills (HasPage (λ page. BeginsImages (is_set fine) octets page count)) old status new
  pub refused : old ≡ None → status ≢ ok → status ≢ no_memory → RefusesImages octets status

-- An empty handle is filled with the page as a PBM image, which is one text. 4 exactly if the page has no rows; else 0, or 9.
pub record WritesImage (page : PagePixels) (old : Option Kept) (status : ℕ) (new : Option Kept) : Type 0 where
  pub fills : Fills (HasOctets (ArePagesText (page ∷ []))) old status new
  pub no_rows : old ≡ None → length page.rows ≡ 0 → status ≡ 4
  pub only : old ≡ None → 0 < length page.rows → (status ≡ ok) ⊎ (status ≡ no_memory)
