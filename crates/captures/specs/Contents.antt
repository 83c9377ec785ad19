-- The good contents of a line, one after the other, and what of them a reader of the line has given.
use Rattle.std.specs.Prelude.{ℕ, ◌≡◌, ◌-◌, ◌^◌, ◌++◌, ◌∷◌, [], Bool, true, false, List, Option, drop, length, min}
use Rattle.std.specs.Io.KnownBytes.{Consumes, IsAtEnd}
use Rattle.hdlc.specs.DeframerState.{DeframerState, IsAfter}
use Rattle.hdlc.specs.Gaps.{good}
use Rattle.raster.specs.Packed.{bits_of}
use Rattle.raster.specs.declared.packed.Order.{Order}

-- a reader of a line: the order of the bits in an octet, its deframer, the content that it gave last, and how many octets it has read
pub record ContentReading : Type 0 where
  pub order : Order
  pub deframer : DeframerState
  pub content : List ℕ
  pub octets : ℕ

-- Of the octets of a line all were read but `left`; of its good contents all were given but `coming`. The count of octets stays at 2^64 - 1.
pub record HasRead (reader : ContentReading) (line left : List ℕ) (coming : List (List ℕ)) : Type 0 where
  pub read : List ℕ
  pub split : line ≡ read ++ left
  pub given : ℕ
  pub after : IsAfter reader.deframer (bits_of reader.order read) given
  pub coming_is : coming ≡ drop given (good (bits_of reader.order line))
  pub octets_are : reader.octets ≡ min (2 ^ 64 - 1) (length read)

-- Octets are read of those that the reader below has left, where these are known; and then, whatever is left of the line after them, this
-- holds of the line, of what is left of it, and of the good contents that weren't given.
abbrev pub ReadsPiece : ContentReading → Option (List ℕ) → Option (List ℕ) → (List ℕ → List ℕ → List (List ℕ) → Type 0) → Type 0
ReadsPiece reader before after Holds = (piece : List ℕ) × Consumes before after piece
    × ((line left : List ℕ) (coming : List (List ℕ)) → HasRead reader line (piece ++ left) coming → Holds line left coming)

-- The next content of a line is given, if there is one. If there is none, and nothing is left, all of the line was read.
abbrev pub GivesNext : Bool → ContentReading → List ℕ → List ℕ → List (List ℕ) → Type 0
GivesNext true reader line left coming = (rest : List (List ℕ)) × (coming ≡ reader.content ∷ rest) × HasRead reader line left rest
GivesNext false reader line left coming = left ≡ [] → (coming ≡ []) × HasRead reader line [] []

-- all octets that a reader had left were read, and are a line of which this holds
abbrev pub ReadsAll : Option (List ℕ) → Option (List ℕ) → (List ℕ → Type 0) → Type 0
ReadsAll before after Holds = (line : List ℕ) × Consumes before after line × IsAtEnd after × Holds line
