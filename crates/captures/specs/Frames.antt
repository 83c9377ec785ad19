-- What the command that lists frames writes of bits.
use Rattle.std.specs.Prelude.{ℕ, ◌+◌, ◌-◌, ◌^◌, ◌++◌, ◌∷◌, [], Bool, List, Option, Some, None, codes, if◌then◌else◌, length, min}
use Rattle.std.specs.Prelude.{◌≡◌, ◌<◌, ◌↔◌, IsTrue, nat_lt, take}
use Rattle.std.specs.Fmt.{decimal}
use Rattle.std.specs.Io.KnownBytes.{Appends}
use Rattle.hex.specs.Hex.{encode_lower}
use Rattle.hdlc.specs.Gaps.{count_of, good}
use Rattle.hdlc.specs.declared.counts.Class.{Class}
use Rattle.hdlc.specs.declared.counts.Class.TheVariants.{Good, Aborted, Ragged, Short, Long, Damaged}
use Rattle.hdlc.specs.declared.counts.Counts.{Counts}
use Rattle.raster.specs.Packed.{bits_of}
use Rattle.raster.specs.declared.packed.Order.{Order}
use Rattle.raster.specs.declared.packed.Order.TheVariants.{LsbFirst}
use Rattle.captures.specs.Records.{counts_record, frame_record}
use Rattle.faults.specs.RecordLines.{record_line}
use Rattle.captures.specs.SignalWords.{content_words}
use Rattle.captures.specs.Texts.{content_text, spaced}
use Rattle.captures.specs.declared.frames.ListForm.{ListForm}
use Rattle.captures.specs.declared.frames.ListForm.TheVariants.{Plain, Explained, Records}
use Rattle.captures.specs.declared.frames.ListOptions.{ListOptions}

-- words with a space between each two, and a line feed
abbrev pub line : List (List ℕ) → List ℕ
line words = spaced words ++ 10 ∷ []

-- a content in lower-case hex: all of it, or its first `most` octets and `..`
abbrev pub shown : Option ℕ → List ℕ → List ℕ
shown None content = encode_lower content
shown (Some most) content = encode_lower (take most content) ++ (if nat_lt most (length content) then codes ".." else [])

-- the line of a good frame: its number, its content in hex, and what it says
abbrev pub plain_line : Option ℕ → ℕ → List ℕ → List ℕ
plain_line most number content = line (decimal number ∷ shown most content ∷ content_text content ∷ [])

-- what is written of a good frame in this form: its line; its line and a line of words; or its record
abbrev pub line_in : ListForm → Option ℕ → ℕ → List ℕ → List ℕ
line_in Plain most number content = plain_line most number content
line_in Explained most number content = plain_line most number content ++ content_words content
line_in Records most number content = record_line (frame_record most number content)

-- What is written of a good frame: its number, its content in lower-case hex (at most the given number of octets, and `..` if it has more),
-- and its text; if asked for, its line of words after that. As records: the frame's record.
abbrev pub frame_line : ListOptions → ℕ → List ℕ → List ℕ
frame_line how number content = line_in how.form how.most number content

-- the lines of good frames, numbered from the first one's number
abbrev pub frame_lines : ListOptions → ℕ → List (List ℕ) → List ℕ
frame_lines how first [] = []
frame_lines how first (content ∷ contents) = frame_line how first content ++ frame_lines how (first + 1) contents

-- how many gaps of bits are of a class, up to 2 ^ 64 - 1
abbrev pub counted : List Bool → Class → ℕ
counted bits class = min (2 ^ 64 - 1) (count_of class bits)

-- how many gaps of bits there are of each class
abbrev pub counts_of : List Bool → Counts
counts_of bits = record {
  good = counted bits Good;
  aborted = counted bits Aborted;
  ragged = counted bits Ragged;
  short = counted bits Short;
  long = counted bits Long;
  damaged = counted bits Damaged;
}

-- the line, or the record, of how many gaps there were of each class
abbrev pub counts_line : Counts → List ℕ
counts_line counts = line (codes "good" ∷ decimal counts.good ∷ codes "aborted" ∷ decimal counts.aborted
    ∷ codes "ragged" ∷ decimal counts.ragged ∷ codes "short" ∷ decimal counts.short
    ∷ codes "long" ∷ decimal counts.long ∷ codes "damaged" ∷ decimal counts.damaged ∷ [])

-- the last line: that of the counts, or their record
abbrev pub last_line : ListForm → Counts → List ℕ
last_line Plain counts = counts_line counts
last_line Explained counts = counts_line counts
last_line Records counts = record_line (counts_record counts)

-- A line for each good frame in the bits, numbered from 1, and the line of the counts. Each number is 2^64 - 1 at most.
abbrev pub listing : ListOptions → List Bool → List ℕ
listing how bits = frame_lines how 1 (good bits) ++ last_line how.form (counts_of bits)

-- frames are listed without words, and the least significant bit of each octet was the first on the line
abbrev pub plain_list : Option ℕ → ListOptions
plain_list most = record { most = most; order = LsbFirst; form = Plain }

-- more than 64 octets have no good frame in this bit order, so the other one is worth a try
abbrev pub IsOtherOrderWorth : Order → List ℕ → Type 0
IsOtherOrderWorth order octets = (64 < length octets) × (length (good (bits_of order octets)) ≡ 0)

-- the frames in octets were listed, and it is told whether the other order is worth a try
abbrev pub ListsFrames : ListOptions → List ℕ → Option (List ℕ) → Option (List ℕ) → Bool → Type 0
ListsFrames how octets before after worth =
    Appends before after (listing how (bits_of how.order octets)) × (IsTrue worth ↔ IsOtherOrderWorth how.order octets)
