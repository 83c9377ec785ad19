-- The octets of a code with their bits in the other order, which are kept beside a page that is read.
use Rattle.std.specs.Prelude.{ℕ, ◌≡◌, ◌≤◌, ◌<◌, List, [], length, map, take}
use Rattle.raster.specs.declared.packed.Order.{Order}
use Rattle.raster.specs.declared.packed.Order.TheVariants.{LsbFirst, MsbFirst}
use Rattle.raster.specs.Words.{turned_octet}

-- these octets are the first of the others, each with its bits in the other order
abbrev pub AreTurned : List ℕ → List ℕ → Type 0
AreTurned turned octets = turned ≡ map turned_octet (take (length turned) octets)

-- how many octets of a code are turned at most: 4 MiB
abbrev pub most_turned : ℕ
most_turned = 4194304

-- all octets with their bits in the other order, if the least significant bit comes first and there are 4 MiB at most; else no octets
abbrev pub IsTurnedCode : Order → List ℕ → List ℕ → Type 0
IsTurnedCode MsbFirst octets code = code ≡ []
IsTurnedCode LsbFirst octets code =
    (length octets ≤ most_turned → code ≡ map turned_octet octets) × (most_turned < length octets → code ≡ [])
