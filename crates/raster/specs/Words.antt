-- Bits as numbers, the most significant first.
use Rattle.std.specs.Prelude.{ℕ, ◌≡◌, ◌≤◌, ◌<◌, ◌+◌, ◌-◌, Bool, List, Some, length, map, nat_eq, not, slice_get}
use Rattle.std.specs.Int.{bit_at, reverse_bits_onto}
use Rattle.std.specs.List.{range_with_len}
use Rattle.raster.specs.declared.packed.Order.{Order}
use Rattle.raster.specs.declared.packed.Order.TheVariants.{MsbFirst}
use Rattle.raster.specs.declared.row.Color.{Color}
use Rattle.raster.specs.Pixels.{other}
use Rattle.raster.specs.Packed.{bit_in}

-- the bit of a number of 64 bits at a place, the most significant at place 0
abbrev pub bit_of_word : ℕ → ℕ → Bool
bit_of_word word place = nat_eq (bit_at word (63 - place)) 1

-- the number is the 64 bits of the octets from a place on, the first of them the most significant; past the octets the bits are 0
abbrev pub IsWordAt : Order → List ℕ → ℕ → ℕ → Type 0
IsWordAt order octets place word = (k : ℕ) → k < 64 → bit_of_word word k ≡ bit_in order octets (place + k)

-- the octet with its bits in the other order
abbrev pub turned_octet : ℕ → ℕ
turned_octet octet = reverse_bits_onto 8 octet 0

-- the octets 0 to 255, each with its bits in the other order
abbrev pub turned_octets : List ℕ
turned_octets = map turned_octet (range_with_len 0 256)

-- the lowest `count` bits of a number, the most significant of them first
abbrev pub number_bits : ℕ → ℕ → List Bool
number_bits count value = map (λ place. nat_eq (bit_at value (count - 1 - place)) 1) (range_with_len 0 count)

-- the first place of a number of 64 bits, at or after `from`, whose bit isn't `bit`; 64 if there is none
pub record IsFirstInWord (word from : ℕ) (bit : Bool) (place : ℕ) : Type 0 where
  pub low : from ≤ place
  pub high : place ≤ 64
  pub before : (k : ℕ) → from ≤ k → k < place → bit_of_word word k ≡ bit
  pub hit : place < 64 → bit_of_word word place ≡ not bit

-- the first place of octets, at or after `from` and before `end`, whose bit isn't `bit`; `end` if there is none
pub record IsFirstOther (octets : List ℕ) (from end : ℕ) (bit : Bool) (place : ℕ) : Type 0 where
  pub low : from ≤ place
  pub high : place ≤ end
  pub before : (k : ℕ) → from ≤ k → k < place → bit_in MsbFirst octets k ≡ bit
  pub hit : place < end → bit_in MsbFirst octets place ≡ not bit

-- the first place of a list of bits, at or after `from`, whose bit isn't `bit`; the list's length if there is none
pub record IsFirstOtherBit (bits : List Bool) (from : ℕ) (bit : Bool) (place : ℕ) : Type 0 where
  pub low : from ≤ place
  pub high : place ≤ length bits
  pub before : (k : ℕ) → from ≤ k → k < place → slice_get bits k ≡ Some bit
  pub hit : place < length bits → slice_get bits place ≡ Some (not bit)

-- the first place of a row, at or after `from`, whose pixel isn't of `color`: there the run ends; the width if there is none
pub record EndsRun (row : List Color) (from : ℕ) (color : Color) (place : ℕ) : Type 0 where
  pub low : from ≤ place
  pub high : place ≤ length row
  pub before : (k : ℕ) → from ≤ k → k < place → slice_get row k ≡ Some color
  pub hit : place < length row → slice_get row place ≡ Some (other color)
