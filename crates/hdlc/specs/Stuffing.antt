-- The bits of a text between two flags as they are sent, with a 0 bit after each fifth 1 bit in a row. The clauses of private
-- functions name this.
use Rattle.std.specs.Prelude.{ℕ, ◌+◌, ◌/◌, ◌%◌, ◌^◌, ◌<◌, ◌≤◌, Bool, false, not, ◌&&◌, List, [], ◌∷◌, ◌++◌}
use Rattle.std.specs.Prelude.{cond, nat_eq, nat_lt, length, map, reverse}
use Rattle.std.specs.Int.{bit_at}
use Rattle.std.specs.List.{range_with_len}
use Rattle.raster.specs.Octets.{number}
use Rattle.raster.specs.Words.{number_bits}
use Rattle.hdlc.specs.declared.bit_buffer.BitBuffer.{BitBuffer}

-- one bit as it is sent after `ones` 1 bits in a row: a 0 bit is sent after the fifth
abbrev pub stuffed_bit : ℕ → Bool → List Bool
stuffed_bit ones b = b ∷ cond (b && not (nat_lt ones 4)) (false ∷ []) []

-- how many 1 bits in a row end what was sent after that bit
abbrev pub run_sent : ℕ → Bool → ℕ
run_sent ones b = cond (b && nat_lt ones 4) (1 + ones) 0

-- bits as they are sent after `ones` 1 bits in a row
abbrev pub stuffed_from : ℕ → List Bool → List Bool
stuffed_from ones [] = []
stuffed_from ones (b ∷ bits) = stuffed_bit ones b ++ stuffed_from (run_sent ones b) bits

-- how many 1 bits in a row end what was sent after these bits
abbrev pub run_after_all : ℕ → List Bool → ℕ
run_after_all ones [] = ones
run_after_all ones (b ∷ bits) = run_after_all (run_sent ones b) bits

-- the bits of an octet as they are sent, by the 1 bits in a row before it, none to four, and the octet
abbrev pub stuffed_at : ℕ → List Bool
stuffed_at place = stuffed_from (place / 256) (map (λ bit. nat_eq (bit_at (place % 256) bit) 1) (range_with_len 0 8))

-- how many bits each entry of the table sends: five rows of 256 octets
abbrev pub stuffed_lengths : List ℕ
stuffed_lengths = map (λ place. length (stuffed_at place)) (range_with_len 0 1280)

-- the bits that each entry of the table sends, as a number, the first bit the most significant
abbrev pub stuffed_numbers : List ℕ
stuffed_numbers = map (λ place. number (reverse (stuffed_at place))) (range_with_len 0 1280)

-- the bits that wait to be written
abbrev pub waiting_bits : BitBuffer → List Bool
waiting_bits w = number_bits w.count w.value

-- at most `most` bits wait
pub record IsWaiting (most : ℕ) (w : BitBuffer) : Type 0 where
  pub fits : w.value < 2 ^ w.count
  pub few : w.count ≤ most
  pub ones : w.ones ≤ 4
