-- The codes of a document's pages, made before a call.
use Rattle.std.specs.Prelude.{ℕ, ◌≡◌, List, length, map, slice_get, take, IfSome}
use Rattle.raster.specs.Octets.{packed}
use Rattle.raster.specs.Pages.{PagePixels}
use Rattle.raster.specs.declared.coding.Coding.{Coding}
use Rattle.page_code.specs.Codings.{code_of}
use Rattle.stations.specs.Layers.{Document}

-- the octets of a page's code, the least significant bit of each first
abbrev pub coded_page : Coding → PagePixels → List ℕ
coded_page coding page = packed (code_of coding page.width page.rows)

-- these are the octets of the codes of the first pages, in order
abbrev pub AreCodes : Coding → Document → List (List ℕ) → Type 0
AreCodes coding document codes = codes ≡ map (coded_page coding) (take (length codes) document)

-- the octets of the code of the page at this number, from 0
abbrev pub IsCodeAt : Coding → Document → ℕ → List ℕ → Type 0
IsCodeAt coding document number octets = IfSome (slice_get document number) (λ page. octets ≡ coded_page coding page)
