-- Bits as numbers and octets, the least significant bit first. (The bits of octets are `bits_of LsbFirst`.)
use Rattle.std.specs.Prelude.{ℕ, ◌<◌, ◌+◌, ◌-◌, ◌*◌, ◌/◌, ◌%◌, ◌++◌, Bool, false, List, [], ◌∷◌, length, map, take, drop, cond, replicate}
use Rattle.std.specs.List.{range_with_len}

-- the number that bits write, the least significant first
abbrev pub number : List Bool → ℕ
number [] = 0
number (b ∷ bs) = cond b 1 0 + 2 * number bs

-- the octet at a place in a list of octets, eight bits each
abbrev pub octet_at : List Bool → ℕ → ℕ
octet_at bits place = number (take 8 (drop (8 * place) bits))

-- the whole octets of bits, the least significant first; up to seven bits more at the end are dropped
unfoldable pub octets_of : List Bool → List ℕ
octets_of bits = map (octet_at bits) (range_with_len 0 (length bits / 8))

-- each number is an octet, below 256
abbrev pub AreOctets : List ℕ → Type 0
AreOctets [] = Unit {0}
AreOctets (x ∷ xs) = (x < 256) × AreOctets xs

-- how many 0 bits fill `count` bits to a whole octet
abbrev pub fill_of : ℕ → ℕ
fill_of count = (8 - count % 8) % 8

-- the octets that hold bits, the least significant first, the last octet filled with 0 bits
unfoldable pub packed : List Bool → List ℕ
packed bits = octets_of (bits ++ replicate (fill_of (length bits)) false)
