-- What a bit writer appends (ITU-T T.4, 4.1.1 and 4.1.2).
use Rattle.std.specs.Prelude.{ℕ, ◌≡◌, ◌<◌, ◌++◌, Bool, true, false, List, [], ◌∷◌, length, replicate}
use Rattle.raster.specs.declared.row.Color.{Color}
use Rattle.raster.specs.declared.row.Color.TheVariants.{White}
use Rattle.raster.specs.Packed.{Bits, bits_of}
use Rattle.raster.specs.Runs.{AreOwnRuns}
use Rattle.run_tables.specs.RunWords.{runs_words}

-- an EOL, the end of a line, as it is written: eleven 0 bits and a 1 (T.4, 4.1.2)
abbrev pub eol : List Bool
eol = replicate 11 false ++ true ∷ []

-- the writer's new bits are its old ones with these bits at their end, in the same order of bits
abbrev pub Appends : List Bool → Bits → Bits → Type 0
Appends bits old new = new ≡ record old { bits = old.bits ++ bits }

-- the writer has all its old bits, and perhaps others after them
abbrev pub KeepsBits : Bits → Bits → Type 0
KeepsBits old new = (bits : List Bool) × Appends bits old new

-- the writer's new bits are its old ones with the code words of the row's own runs at their end
abbrev pub AppendsRow : List Color → Bits → Bits → Type 0
AppendsRow row old new = (runs : List ℕ) × AreOwnRuns row runs × Appends (runs_words White runs) old new

-- Whole octets were moved from the front of a writer's bits to the end of a list: the bits before are those of the octets and the bits
-- left, fewer than eight.
pub record MovesOctets (old new : List ℕ) (before after : Bits) : Type 0 where
  pub octets : List ℕ
  pub joined : new ≡ old ++ octets
  pub order : after.order ≡ before.order
  pub all : before.bits ≡ bits_of before.order octets ++ after.bits
  pub few : length after.bits < 8
