-- Bits as numbers: the first bit is the most significant one.
use Rattle.std.specs.Prelude.{ℕ, ◌≡◌, ◌<◌, zero, suc, Bool, false, List, [], ◌∷◌, slice_index_or}
use Rattle.raster.specs.Words.{bit_of_word, number_bits}

-- the number is the first 64 bits, the first the most significant; past their end its bits are 0
abbrev pub IsFirst64 : List Bool → ℕ → Type 0
IsFirst64 bits word = (k : ℕ) → k < 64 → bit_of_word word k ≡ slice_index_or bits k false

-- the first `count` bits of the number are the first bits, the first the most significant; past their end its bits are 0
abbrev pub AreFirst : ℕ → List Bool → ℕ → Type 0
AreFirst count bits word = (k : ℕ) → k < count → bit_of_word word k ≡ slice_index_or bits k false

-- the text that a number writes: its lowest `count` bits, the most significant first
unfoldable pub number_text : ℕ → ℕ → List Bool
number_text count value = number_bits count value

-- the first `count` bits, filled with 0 bits
unfoldable pub first_bits : ℕ → List Bool → List Bool
first_bits zero bits = []
first_bits (suc count) [] = false ∷ first_bits count []
first_bits (suc count) (bit ∷ bits) = bit ∷ first_bits count bits
