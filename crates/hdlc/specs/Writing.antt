-- What a bit writer has while the text of a frame is written.
use Rattle.std.specs.Prelude.{ℕ, ◌≡◌, ◌≤◌, Bool, false, List, [], ◌++◌, Some}
use Rattle.std.specs.List.{suffix_len}
use Rattle.raster.specs.Packed.{Bits}
use Rattle.hdlc.specs.Flags.{flag, gaps}
use Rattle.hdlc.specs.Gaps.{has_six, unstuffed}
use Rattle.hdlc.specs.OpenGap.{last_flag}

-- only the flag in front has come
pub record Alone (xs : List Bool) : Type 0 where
  pub last : last_flag xs ≡ Some 0
  pub none : gaps xs ≡ []

-- the stuffed text of some bits, with `count` 1 bits at its end
pub record Written (pre bits : List Bool) (count : ℕ) : Type 0 where
  pub alone : Alone (flag ++ pre)
  pub ends : suffix_len (λ bit. bit) pre ≡ count
  pub six : has_six pre ≡ false
  pub unstuffed : unstuffed pre ≡ bits

-- the bits of a writer: the bits that were there, a flag, and the stuffed text of some bits
pub record IsWriting (all start bits : List Bool) (count : ℕ) : Type 0 where
  pub pre : List Bool
  pub text : Written pre bits count
  pub is : all ≡ start ++ flag ++ pre
  pub few : count ≤ 4

-- the new bits begin with the old ones
pub record Extends (old new : Bits) : Type 0 where
  pub rest : List Bool
  pub is : new ≡ record old { bits = old.bits ++ rest }
