-- What a log of a call says: its lines, and the frame of each.
use Rattle.std.specs.Prelude.{ℕ, ◌+◌, ◌++◌, ◌∷◌, ◌&&◌, [], Bool, true, false, List, Option, Some, None, Result, Ok, Err, codes, cond, length}
use Rattle.std.specs.Prelude.{nat_eq, nat_lt}
use Rattle.std.specs.Str.{bytes_eq}
use Rattle.hex.specs.Hex.{decode_of}
use Rattle.hex.specs.declared.error.FromHexError.{FromHexError}
use Rattle.signals.specs.declared.signal.Side.{Side}
use Rattle.signals.specs.declared.signal.Side.TheVariants.{Caller, Answerer}
use Rattle.call_logs.specs.declared.log.LogFrame.{LogFrame}

-- ---- pieces

-- an octet before the first of some pieces
abbrev pub in_first : ℕ → List (List ℕ) → List (List ℕ)
in_first octet [] = (octet ∷ []) ∷ []
in_first octet (piece ∷ pieces) = (octet ∷ piece) ∷ pieces

-- the pieces of octets between separators: one more than there are separators, and each may be empty
unfoldable pub pieces : ℕ → List ℕ → List (List ℕ)
pieces separator [] = [] ∷ []
pieces separator (octet ∷ octets) =
    cond (nat_eq octet separator) ([] ∷ pieces separator octets) (in_first octet (pieces separator octets))

-- ---- a line

-- a good frame that a station has said: when, who, and its content without the check sequence
pub record PlainFrame : Type 0 where
  pub at : List ℕ
  pub by : Side
  pub content : List ℕ

-- what the code has of a frame, as plain values
abbrev pub plain_frame : LogFrame → PlainFrame
plain_frame frame = record { at = frame.at.now; by = frame.by; content = frame.content.items }

-- the station that a word names
abbrev pub side_named : List ℕ → Option Side
side_named word =
    cond (bytes_eq word (codes "caller")) (Some Caller) (cond (bytes_eq word (codes "answerer")) (Some Answerer) None)

-- each octet is a sign of ASCII that is seen, 21 to 7E (hex)
abbrev pub are_seen : List ℕ → Bool
are_seen [] = true
are_seen (octet ∷ octets) = (nat_lt 32 octet && nat_lt octet 127) && are_seen octets

-- a word: octets that are seen, one or more
abbrev pub word_in : List ℕ → Option (List ℕ)
word_in octets = cond (nat_lt 0 (length octets) && are_seen octets) (Some octets) None

-- the octets that were read, if they were
abbrev pub if_read : Result (List ℕ) FromHexError → Option (List ℕ)
if_read (Ok octets) = Some octets
if_read (Err error) = None

-- one octet or more, each by two hexadecimal digits, in capitals or not
abbrev pub content_in : List ℕ → Option (List ℕ)
content_in digits = cond (nat_lt 0 (length digits)) (if_read (decode_of digits)) None

-- three pieces, if there are no more and no fewer
abbrev pub three_of : List (List ℕ) → Option (List ℕ × List ℕ × List ℕ)
three_of (one ∷ two ∷ three ∷ []) = Some (one, two, three)
three_of pieces = None

-- the frame of a time, a station and a content, if all are there
abbrev pub frame_with : Option (List ℕ) → Option Side → Option (List ℕ) → Option PlainFrame
frame_with (Some at) (Some by) (Some content) = Some (record { at = at; by = by; content = content })
frame_with (Some at) (Some by) None = None
frame_with (Some at) None content = None
frame_with None by content = None

-- the frame of a line's words: a time, which is any word; `caller` or `answerer`; and a content
abbrev pub frame_of_words : Option (List ℕ × List ℕ × List ℕ) → Option PlainFrame
frame_of_words (Some (at, who, digits)) = frame_with (word_in at) (side_named who) (content_in digits)
frame_of_words None = None

-- the frame of a line, which has three words, with one space between each two
abbrev pub frame_in : List ℕ → Option PlainFrame
frame_in line = frame_of_words (three_of (pieces 32 line))

-- a line is passed over: it is empty, or a comment, which begins with #
abbrev pub is_passed : List ℕ → Bool
is_passed [] = true
is_passed (octet ∷ octets) = nat_eq octet 35

-- ---- all lines

-- frames and one more, if it is there
abbrev pub with_frame : List PlainFrame → Option PlainFrame → Option (List PlainFrame)
with_frame frames (Some frame) = Some (frames ++ frame ∷ [])
with_frame frames None = None

-- frames and that of a line, unless it is passed over; None, if the line is none of a log
abbrev pub with_line : List PlainFrame → List ℕ → Option (List PlainFrame)
with_line frames line = cond (is_passed line) (Some frames) (with_frame frames (frame_in line))

-- Frames and those of lines that follow so many other ones; or the number of the first line that is none of a log, counted with those before.
unfoldable pub with_lines : Option (List PlainFrame) → ℕ → List (List ℕ) → Result (List PlainFrame) ℕ
with_lines None before lines = Err before
with_lines (Some frames) before [] = Ok frames
with_lines (Some frames) before (line ∷ lines) = with_lines (with_line frames line) (before + 1) lines

-- The frames of a log, in order. Each line ends with LF, but the last one need not: what follows the last LF is a line too, and if that is
-- empty, it is passed over. Or the number of the first line that is none of a log, counted from 1.
abbrev pub log_in : List ℕ → Result (List PlainFrame) ℕ
log_in octets = with_lines (Some []) 0 (pieces 10 octets)

-- frames once a line was added, if it is one of a log
abbrev pub if_line : Bool → List PlainFrame → Option (List PlainFrame)
if_line true frames = Some frames
if_line false frames = None
