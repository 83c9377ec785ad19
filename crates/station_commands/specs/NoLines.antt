-- What is wrong with a line of a station, and what is kept of the line that is read.
use Rattle.std.specs.Prelude.{ℕ, ◌≡◌, ◌≢◌, ◌≤◌, ◌⊎◌, ◌++◌, Bool, true, false, List, [], ◌∷◌, codes, length}
use Rattle.station_commands.specs.declared.station.no_line.Wrong.{Wrong}
use Rattle.station_commands.specs.declared.station.no_line.Wrong.TheVariants as wrong

-- the line that is read, before its next octet: a new one, if the line before has ended
abbrev pub begun_line : Bool → List ℕ → List ℕ
begun_line true line = []
begun_line false line = line

-- What is kept of a line after another octet: that too, unless it is the LF, the line has more than 400,000 octets, or memory is refused.
abbrev pub KeepsOctet : List ℕ → ℕ → List ℕ → Type 0
KeepsOctet line octet new = (new ≡ line) ⊎ ((octet ≢ 10) × (length line ≤ 400000) × (new ≡ line ++ octet ∷ []))

-- what is wrong with a line of a station
abbrev pub line_words : Wrong → List ℕ
line_words wrong.TooLong = codes "the line has more than 400000 octets"
line_words wrong.Word = codes "no line of a station begins with this word"
line_words wrong.Time = codes "a time is expected here, 1 to 15 digits"
line_words wrong.More = codes "such a line ends after its time"
line_words wrong.Carrier = codes "a carrier is expected here"
line_words wrong.Kind = codes "hdlc or raw is expected here"
line_words wrong.Bits = codes "the number of bits is expected here, 1 to 7 digits"
line_words wrong.Hex = codes "two hexadecimal digits are expected for each octet of the bits"
line_words wrong.Content = codes "a frame's content of 3 to 300 octets is expected here"
line_words wrong.File = codes "a space and the name of a file are expected after the time"
line_words wrong.NotHeld = codes "no page of this name is held, or the time can't follow"
line_words wrong.OutOfTime = codes "the time is before that of the line before, or too long after it"
