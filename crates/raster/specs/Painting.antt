-- Rows that are painted in order, with the last bits in a word.
use Rattle.std.specs.Prelude.{ℕ, ◌≡◌, ◌<◌, ◌≤◌, ◌+◌, ◌-◌, ◌*◌, ◌%◌, ◌++◌, [], ◌∷◌, Bool, false, List, if◌then◌else◌, length, nat_lt, not, sum}
use Rattle.raster.specs.Changes.{differ}
use Rattle.raster.specs.Pixels.{IsWidth}
use Rattle.raster.specs.declared.painting.Painter.{Painter}
use Rattle.raster.specs.declared.packed.Order.TheVariants.{MsbFirst}
use Rattle.raster.specs.Packed.{bit_in}
use Rattle.raster.specs.Words.{bit_of_word}

-- the bit at a place: from one place on the bits are a word's, and after the word all are equal to its last bit
abbrev pub drawn_bit : List ℕ → ℕ → ℕ → ℕ → Bool
drawn_bit octets from word k = if nat_lt k from then bit_in MsbFirst octets k else bit_of_word word (k - from)

-- the bit at a place, if the bits are 0 at first and turn at each of the places
abbrev pub bit_of_turns : List ℕ → ℕ → Bool
bit_of_turns [] k = false
bit_of_turns (place ∷ places) k = if nat_lt k place then bit_of_turns places k else not (bit_of_turns places k)

-- the places at which runs end, if they begin at a place
abbrev pub ends_of : ℕ → List ℕ → List ℕ
ends_of from [] = []
ends_of from (run ∷ runs) = (from + run) ∷ ends_of (from + run) runs

-- the octets after a word was written over the 64 bits from a place on
pub record IsStored (old : List ℕ) (from word : ℕ) (new : List ℕ) : Type 0 where
  pub same_length : length new ≡ length old
  pub before : (k : ℕ) → k < from → bit_in MsbFirst new k ≡ bit_in MsbFirst old k
  pub inside : (k : ℕ) → k < 64 → bit_in MsbFirst new (from + k) ≡ bit_of_word word k
  pub after : (k : ℕ) → from + 64 ≤ k → bit_in MsbFirst new k ≡ bit_in MsbFirst old k

-- A painter of a row: its width is a row's width and its place is within it; its word of 64 bits begins at or before its place, and its
-- octets are 0 from that word on.
pub record FitsPainter (painter : Painter) : Type 0 where
  pub wide : IsWidth painter.width
  pub within : painter.place ≤ painter.width
  pub room : painter.width + 64 ≤ 8 * length painter.octets.items
  pub begun : 64 ≤ painter.end
  pub aligned : painter.end % 64 ≡ 0
  pub low : painter.end ≤ painter.place + 64
  pub clear : (k : ℕ) → painter.end ≤ k + 64 → bit_in MsbFirst painter.octets.items k ≡ false

-- These runs, white first, are painted: whatever runs follow, with the turns that are left the bits become those of all the runs.
pub record Paints (runs : List ℕ) (painter : Painter) : Type 0 where
  pub total : sum runs ≡ painter.place
  pub drawn : (tail : List ℕ) (k : ℕ)
      → differ (bit_of_turns (ends_of painter.place tail) k) (drawn_bit painter.octets.items (painter.end - 64) painter.word k)
      ≡ bit_of_turns (ends_of 0 (runs ++ tail)) k
