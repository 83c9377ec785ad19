-- How much an answerer keeps open, whatever it hears.
use Rattle.std.specs.Prelude.{ℕ, ◌≡◌, ◌≤◌, ◌+◌, List, [], ◌∷◌, length, Some, None}
use Rattle.signals.specs.declared.params.Caps.{Caps}
use Rattle.signals.specs.declared.params.Params.{Params}
use Rattle.partial_page.specs.Frames.{max_page_octets}
use Rattle.stations.specs.AnswererStep.{Answerer, answerer_step, new_answerer}
use Rattle.partial_page.specs.Assembling.{Frames}
use Rattle.stations.specs.Inputs.{AnswererInput}
use Rattle.stations.specs.Runs.{answerer_after}

-- the greatest number of octets of the open frames: 256 frames of 256 octets
abbrev pub max_open_octets : ℕ
max_open_octets = 65536

-- the octets of the open frames
abbrev pub open_octets : Frames → ℕ
open_octets [] = 0
open_octets (None ∷ frames) = open_octets frames
open_octets (Some octets ∷ frames) = length octets + open_octets frames

-- each frame has at most 256 octets
abbrev pub AreShort : Frames → Type 0
AreShort [] = Unit {0}
AreShort (None ∷ frames) = AreShort frames
AreShort (Some octets ∷ frames) = (length octets ≤ 256) × AreShort frames

-- an answerer has 256 places for frames of at most 256 octets each, and at most 8,388,608 octets of an open page
pub record IsLimited (s : Answerer) : Type 0 where
  pub places : length s.frames ≡ 256
  pub short : AreShort s.frames
  pub page : length s.octets ≤ max_page_octets

-- law: whatever an answerer hears, its open frames hold at most 65,536 octets and its open page at most 8,388,608
abbrev pub OpenIsLimited : Type 0
OpenIsLimited =
    (caps : Caps) (params : Params) (inputs : List AnswererInput) →
    (open_octets (answerer_after inputs (new_answerer caps params)).frames ≤ max_open_octets) ×
    (length (answerer_after inputs (new_answerer caps params)).octets ≤ max_page_octets)

-- law: a new answerer is within these limits
abbrev pub NewIsLimited : Type 0
NewIsLimited = (caps : Caps) (params : Params) → IsLimited (new_answerer caps params)

-- law: each step keeps an answerer within these limits
abbrev pub StepsKeepLimits : Type 0
StepsKeepLimits = (s : Answerer) (input : AnswererInput) → IsLimited s → IsLimited (answerer_step s input).next
