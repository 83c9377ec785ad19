-- The check sequence bit by bit, with a register of 16 bits in place of the long division.
use Rattle.std.specs.Prelude.{ℕ, ◌+◌, ◌*◌, ◌/◌, ◌%◌, Bool, false, List, [], ◌∷◌, ◌++◌, drop, get_or, map, replicate, nat_eq, bit_xor, if◌then◌else◌}
use Rattle.std.specs.List.{fold, range_with_len}
use Rattle.raster.specs.Packed.{bits_of}
use Rattle.raster.specs.declared.packed.Order.TheVariants.{LsbFirst}
use Rattle.hdlc.specs.Fcs.{xor, add, divisor}

-- a register of 16 bits takes one more bit of the octets
abbrev pub shift_in : List Bool → Bool → List Bool
shift_in register b = if xor b (get_or register 0 false) then add (drop 1 register ++ false ∷ []) divisor else drop 1 register ++ false ∷ []

-- one more bit of the octets, with the register as a number whose least significant bit is its first
abbrev pub crc_bit : ℕ → Bool → ℕ
crc_bit register b = if xor b (nat_eq (register % 2) 1) then bit_xor (register / 2) 0x8408 else register / 2

-- the eight bits of one more octet, the least significant first
abbrev pub crc_octet : ℕ → ℕ → ℕ
crc_octet register octet = fold crc_bit register (bits_of LsbFirst (octet ∷ []))

-- a register after eight 0 bits more
abbrev pub remainder_of : ℕ → ℕ
remainder_of register = fold crc_bit register (replicate 8 false)

-- for each register whose high octet is 0, the register after eight 0 bits more; then after 16 of them, and so on up to 64
abbrev pub remainders : List ℕ
remainders = map (λ place. fold crc_bit (place % 256) (replicate (8 * (place / 256) + 8) false)) (range_with_len 0 2048)
