-- Octets of rows that are appended to those of others.
use Rattle.std.specs.Prelude.{ℕ, ◌≡◌, ◌≤◌, ◌<◌, ◌++◌, Bool, List, Option, length}
use Rattle.raster.specs.declared.packed.Order.TheVariants.{MsbFirst}
use Rattle.raster.specs.declared.row.Color.{Color}
use Rattle.raster.specs.Packed.{bit_in, kept_bits, AreKept, IsPacked}
use Rattle.raster.specs.Pixels.{colors}

-- new is old with octets at its end that hold the bits, where they are not kept as one
pub record AppendsKept (bits : List Bool) (count : ℕ) (old new : List ℕ) (alike : Option Bool) : Type 0 where
  pub octets : List ℕ
  pub appended : new ≡ old ++ octets
  pub few : length octets ≤ 304
  pub kept : AreKept alike MsbFirst octets count
  pub are : bits ≡ kept_bits alike MsbFirst octets count

-- the same of the pixels of a row
pub record AppendsRow (row : List Color) (old new : List ℕ) (alike : Option Bool) : Type 0 where
  pub octets : List ℕ
  pub appended : new ≡ old ++ octets
  pub few : length octets ≤ 304
  pub kept : AreKept alike MsbFirst octets (length row)
  pub are : row ≡ colors (kept_bits alike MsbFirst octets (length row))

-- new is old with the first `count` bits of octets at its end, and zero bits up to a whole octet
pub record CutsLast (count : ℕ) (old octets new : List ℕ) : Type 0 where
  pub cut : List ℕ
  pub appended : new ≡ old ++ cut
  pub long : length cut ≡ length octets
  pub packed : IsPacked MsbFirst cut count
  pub same : (k : ℕ) → k < count → bit_in MsbFirst cut k ≡ bit_in MsbFirst octets k
