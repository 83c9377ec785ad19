-- A written frame, and bits that one may follow (ISO/IEC 13239, frame structure; ITU-T T.30, 5.3).
use Rattle.std.specs.Prelude.{ℕ, ◌≡◌, ◌≤◌, ◌⊎◌, Bool, false, List, [], ◌∷◌, ◌++◌, replicate}
use Rattle.std.specs.List.{suffix_len}
use Rattle.raster.specs.Packed.{bits_of}
use Rattle.raster.specs.declared.packed.Order.TheVariants.{LsbFirst}
use Rattle.hdlc.specs.Fcs.{check_octets}
use Rattle.hdlc.specs.Flags.{flag, gaps}
use Rattle.hdlc.specs.Gaps.{unstuffed, good}

-- The frame of a content: a flag, bits and a flag, whose only gap is good and has the content. Without the stuffed ones the bits are
-- those of the content and its check sequence; a 0 bit is stuffed also after five 1 bits at their end.
pub record IsFrame (content : List ℕ) (frame : List Bool) : Type 0 where
  pub body : List Bool
  pub is : frame ≡ flag ++ body ++ flag
  pub only : gaps frame ≡ body ∷ []
  pub holds : good frame ≡ content ∷ []
  pub sent : unstuffed body ≡ bits_of LsbFirst (content ++ check_octets content)
  pub stuffed : suffix_len (λ bit. bit) body ≤ 4

-- bits that end with a flag and at most seven 0 bits
pub record EndsIdle (bits : List Bool) : Type 0 where
  pub front : List Bool
  pub zeros : ℕ
  pub few : zeros ≤ 7
  pub is : bits ≡ front ++ flag ++ replicate zeros false

-- bits that a frame may follow: no bits, or bits that end with a flag and at most seven 0 bits
abbrev pub IsReady : List Bool → Type 0
IsReady bits = (bits ≡ []) ⊎ EndsIdle bits
