-- What is taken from a reader, line by line.
use Rattle.std.specs.Prelude.{◌≡◌, ◌≢◌, ◌⊎◌, ◌<◌, ◌≤◌, ◌++◌, ◌∷◌, [], ℕ, Bool, true, false, List, Option, Result, Ok, Err, length, slice_index}
use Rattle.std.specs.Io.KnownBytes.{Consumes, IsAtEnd}
use Rattle.conversations.specs.declared.reading.ReadFault.{ReadFault}
use Rattle.conversations.specs.declared.reading.ReadFault.TheVariants.{NoMemory, TooLong, Failed}

-- no octet is LF, the end of a line
abbrev pub HasNoFeed : List ℕ → Type 0
HasNoFeed octets = (k : ℕ) → k < length octets → slice_index octets k ≢ 10

-- octets without an LF were taken, and come after what there is of a line, which has at most 400,000 octets then if it had before
pub record TakesPlain (old new : Option (List ℕ)) (line longer : List ℕ) : Type 0 where
  pub piece : List ℕ
  pub one : HasNoFeed piece
  pub joined : longer ≡ line ++ piece
  pub most : length line ≤ 400000 → length longer ≤ 400000
  pub taken : Consumes old new piece

-- a line of at most 400,000 octets was taken with its LF, or as the last one, which isn't empty, without
pub record TakesLine (old new : Option (List ℕ)) (line : List ℕ) : Type 0 where
  pub one : HasNoFeed line
  pub most : length line ≤ 400000
  pub taken : Consumes old new (line ++ 10 ∷ []) ⊎ ((0 < length line) × Consumes old new line × IsAtEnd new)

-- more octets than a line has were taken, one more, and no LF is among them
pub record TakesTooMany (old new : Option (List ℕ)) (line : List ℕ) : Type 0 where
  pub octet : ℕ
  pub one : HasNoFeed (line ++ octet ∷ [])
  pub all : length line ≡ 400000
  pub taken : Consumes old new (line ++ octet ∷ [])

-- a beginning of a line was taken, of at most 400,000 octets without an LF among them, and no octet more
pub record TakesPart (old new : Option (List ℕ)) (line : List ℕ) : Type 0 where
  pub one : HasNoFeed line
  pub most : length line ≤ 400000
  pub taken : Consumes old new line

-- What is taken of a reader for the next line: that line with its LF; nothing at the end; or, without an LF among them, one octet more than
-- the 400,000 that a line may have. Where the reader fails a beginning of the line was taken. Where memory is refused it was too, and maybe
-- the octet after it, for which there was no room.
abbrev pub TakesNext : Option (List ℕ) → Option (List ℕ) → List ℕ → Result Bool ReadFault → Type 0
TakesNext old new line (Ok true) = TakesLine old new line
TakesNext old new line (Ok false) = Consumes old new [] × IsAtEnd new
TakesNext old new line (Err TooLong) = TakesTooMany old new line
TakesNext old new line (Err NoMemory) = TakesPart old new line ⊎ ((octet : ℕ) × TakesPart old new (line ++ octet ∷ []))
TakesNext old new line (Err (Failed kind)) = TakesPart old new line
