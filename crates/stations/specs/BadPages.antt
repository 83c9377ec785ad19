-- The page over which a call ended with BadPage: its octets, how it was sent, and why it can't be read.
use Rattle.std.specs.Prelude.{ℕ, ◌≡◌, ◌≢◌, List, [], ◌∷◌, ◌++◌, Option, Some, None, Result, Ok, Err}
use Rattle.raster.specs.Packed.{bits_of}
use Rattle.raster.specs.declared.packed.Order.TheVariants.{LsbFirst}
use Rattle.raster.specs.declared.row.Color.{Color}
use Rattle.run_tables.specs.declared.fault.CodeFault.{CodeFault}
use Rattle.run_tables.specs.declared.fault.CodeFaultKind.{CodeFaultKind}
use Rattle.page_code.specs.Codings.{read_rows}
use Rattle.signals.specs.Agreement.{pixels_of}
use Rattle.signals.specs.declared.params.Params.{Params}
use Rattle.stations.specs.AnswererStep.{Answerer}
use Rattle.partial_page.specs.Assembling.{Frames}
use Rattle.stations.specs.declared.turn.End.TheVariants.{BadPage}

-- the page over which a call ended: how it was sent, its octets, and the bit and the kind of what decoding refuses
pub record PageOctets : Type 0 where
  pub params : Params
  pub octets : List ℕ
  pub fault : Option CodeFault

-- the octets of the frames from number 0 on, up to the first that isn't there
abbrev pub front_octets : Frames → List ℕ
front_octets [] = []
front_octets (None ∷ frames) = []
front_octets (Some octets ∷ frames) = octets ++ front_octets frames

-- the octets of the open page, then those of the open frames up to the first that isn't there
abbrev pub refused_octets : List ℕ → Frames → List ℕ
refused_octets octets frames = octets ++ front_octets frames

-- the bit at which reading rows is refused, and why; None if they are read
abbrev pub IsFault : Result (List (List Color) × ℕ) (ℕ × CodeFaultKind) → Option CodeFault → Type 0
IsFault outcome None = (read : List (List Color) × ℕ) × (outcome ≡ Ok read)
IsFault outcome (Some fault) = outcome ≡ Err (fault.place, fault.kind)

-- the page of octets that were sent by these parameters, with the bit and the kind of what decoding them refuses
pub record IsRefused (params : Params) (octets : List ℕ) (page : PageOctets) : Type 0 where
  pub params_are : page.params ≡ params
  pub octets_are : page.octets ≡ octets
  pub fault_is : IsFault (read_rows params.coding (pixels_of params.width) (bits_of LsbFirst octets)) page.fault

-- the page over which an answerer ended with `BadPage`; None exactly if it hasn't ended so
abbrev pub IsBadPage : Answerer → Option PageOctets → Type 0
IsBadPage s None = s.ending ≢ Some BadPage
IsBadPage s (Some page) = (s.ending ≡ Some BadPage) × IsRefused s.params (refused_octets s.octets s.frames) page
