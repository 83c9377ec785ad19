-- The frame check sequence: generator x^16 + x^12 + x^5 + 1, preset to ones, complemented (ISO/IEC 13239, 16-bit frame
-- check sequence; ITU-T T.30, 5.3.7), as a long division on one list of bits.
use Rattle.std.specs.Prelude.{ℕ, zero, suc, Bool, true, false, not, List, [], ◌∷◌, ◌++◌, length, map, if◌then◌else◌}
use Rattle.raster.specs.Packed.{bits_of}
use Rattle.raster.specs.declared.packed.Order.TheVariants.{LsbFirst}
use Rattle.raster.specs.Octets.{octets_of, number}

-- the sum of two bits without carry
abbrev pub xor : Bool → Bool → Bool
xor x y = if x then not y else y

-- the bits at the same places added without carry; bits past the second list stay as they are
abbrev pub add : List Bool → List Bool → List Bool
add [] ys = []
add (x ∷ xs) [] = x ∷ xs
add (x ∷ xs) (y ∷ ys) = xor x y ∷ add xs ys

-- the generator after its first term: 1 at 4, 11 and 16 places after a bit
abbrev pub divisor : List Bool
divisor = false ∷ false ∷ false ∷ true ∷ false ∷ false ∷ false ∷ false ∷ false ∷ false ∷ true ∷ false ∷ false ∷ false ∷ false ∷ true ∷ []

-- Long division: from the front, each of the first `n` bits that is 1 at its turn is inverted, together with the bits 4, 11 and 16 places
-- after it; the result is the bits after these.
abbrev pub remainder : ℕ → List Bool → List Bool
remainder zero bits = bits
remainder (suc n) [] = []
remainder (suc n) (b ∷ bits) = remainder n (if b then add bits divisor else bits)

-- sixteen equal bits
abbrev pub sixteen : Bool → List Bool
sixteen b = b ∷ b ∷ b ∷ b ∷ b ∷ b ∷ b ∷ b ∷ b ∷ b ∷ b ∷ b ∷ b ∷ b ∷ b ∷ b ∷ []

-- The check sequence by long division: the bits and sixteen 0 bits, the first sixteen of all inverted, are divided up to the last
-- sixteen; what is left is complemented.
unfoldable pub check_bits : List Bool → List Bool
check_bits bits = map not (remainder (length bits) (add (bits ++ sixteen false) (sixteen true)))

-- the check sequence of octets as a number: the first bit that is sent is the least significant (ISO/IEC 13239; T.30, 5.3.7)
abbrev pub fcs_of : List ℕ → ℕ
fcs_of octets = number (check_bits (bits_of LsbFirst octets))

-- the two octets in which the check sequence is sent, the low one first
abbrev pub check_octets : List ℕ → List ℕ
check_octets octets = octets_of (check_bits (bits_of LsbFirst octets))
