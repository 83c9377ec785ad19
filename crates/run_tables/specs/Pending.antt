-- Bits that a writer holds: in octets, and after them the first ones of a word that waits to be stored.
use Rattle.std.specs.Prelude.{ℕ, ◌≡◌, ◌≤◌, ◌<◌, ◌+◌, ◌*◌, ◌%◌, ◌++◌, Bool, false, List, length, map}
use Rattle.std.specs.List.{range_with_len}
use Rattle.raster.specs.declared.packed.Order.{Order}
use Rattle.raster.specs.Packed.{bit_in, bits_in}
use Rattle.raster.specs.Words.{bit_of_word}

-- the first bits of a number of 64 bits
unfoldable pub word_bits : ℕ → ℕ → List Bool
word_bits count word = map (λ place. bit_of_word word place) (range_with_len 0 count)

-- the bits of the first `at` octets, and then the first `filled` bits of a word
unfoldable pub held : Order → List ℕ → ℕ → ℕ → ℕ → List Bool
held order octets at word filled = bits_in order octets (8 * at) ++ word_bits filled word

-- after its first `filled` bits the word is 0
abbrev pub IsClear : ℕ → ℕ → Type 0
IsClear filled word = (k : ℕ) → filled ≤ k → k < 64 → bit_of_word word k ≡ false

-- the bits of a word are in the octets from octet `at` on; the octets before it are unchanged
pub record IsStored (order : Order) (old new : List ℕ) (at word : ℕ) : Type 0 where
  pub same_length : length new ≡ length old
  pub before : (k : ℕ) → k < 8 * at → bit_in order new k ≡ bit_in order old k
  pub inside : (k : ℕ) → k < 64 → bit_in order new (8 * at + k) ≡ bit_of_word word k

-- the limit of the word's bits is 64 if the octets have room for it, and else 0, when there are no bits
pub record IsPending (octets : List ℕ) (at word filled limit : ℕ) : Type 0 where
  pub few : filled < 64
  pub within : filled ≤ limit
  pub most : limit ≤ 64
  pub whole : limit % 64 ≡ 0
  pub begun : limit ≡ 0 → at ≡ 0
  pub room : 8 * at + limit ≤ 8 * length octets
  pub clear : IsClear filled word
