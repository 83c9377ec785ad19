-- Laws of bits and octets, which the functions of `laws` prove.
use Rattle.std.specs.Prelude.{ℕ, ◌≡◌, ◌++◌, Bool, false, List, length, replicate}
use Rattle.raster.specs.declared.packed.Order.{Order}
use Rattle.raster.specs.declared.packed.Order.TheVariants.{LsbFirst}
use Rattle.raster.specs.Octets.{AreOctets, fill_of, packed}
use Rattle.raster.specs.Packed.{bits_of, FillsOctets}

-- the bits of octets followed by others are the bits of all the octets, in either order
abbrev pub BitsJoin : Type 0
BitsJoin = (order : Order) (front rest : List ℕ) → bits_of order (front ++ rest) ≡ bits_of order front ++ bits_of order rest

-- packed bits are octets, whose bits are the bits and the 0 bits that fill them
abbrev pub PackedHold : Type 0
PackedHold = (bits : List Bool) → AreOctets (packed bits)
    × (bits_of LsbFirst (packed bits) ≡ bits ++ replicate (fill_of (length bits)) false)

-- octets that are the bits and then fewer than eight 0 bits are the packed bits
abbrev pub PackedAlone : Type 0
PackedAlone = (bits : List Bool) (octets : List ℕ) → FillsOctets LsbFirst bits octets → AreOctets octets → octets ≡ packed bits
