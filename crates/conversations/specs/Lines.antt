-- What a line of text says of the line of a call, and when.
use Rattle.std.specs.Prelude.{◌≡◌, ◌≢◌, ◌⊎◌, ◌<◌, ◌≤◌, ◌+◌, ◌/◌, ℕ, List, [], ◌∷◌, Ok, codes, length, slice_index}
use Rattle.std.specs.List.{join_with_byte}
use Rattle.std.specs.Str.Parse.{IsNumeral, digits_value}
use Rattle.hex.specs.Hex.{decode_of}
use Rattle.signals.specs.declared.params.Speed.TheVariants.{V27At2400, V27At4800, V29At7200, V29At9600, V17At7200, V17At9600}
use Rattle.signals.specs.declared.params.Speed.TheVariants.{V17At12000, V17At14400}
use Rattle.conversations.specs.declared.carrier.Channel.{Channel}
use Rattle.conversations.specs.declared.carrier.Channel.TheVariants.{V21, Message}
use Rattle.conversations.specs.declared.carrier.Kind.{Kind}
use Rattle.conversations.specs.declared.carrier.Kind.TheVariants.{Frames, Check}
use Rattle.conversations.specs.FrameLines.{IsInFrames}
use Rattle.conversations.specs.declared.line.Fate.{Fate}
use Rattle.conversations.specs.declared.line.Fate.TheVariants.{Kept, Lost}
use Rattle.conversations.specs.declared.line.Said.{Said}
use Rattle.conversations.specs.declared.line.Said.TheVariants.{Quiet, Busy, Received, NotReady, Ready, Missed, Told, Stop, End}
use Rattle.conversations.specs.declared.line.TimedLine.{TimedLine}

-- words with one space between two of them
abbrev pub spaced : List (List ℕ) → List ℕ
spaced words = join_with_byte 32 words

-- the name of a carrier in a line
abbrev pub channel_name : Channel → List ℕ
channel_name V21 = codes "v21"
channel_name (Message V27At2400) = codes "v27ter-2400"
channel_name (Message V27At4800) = codes "v27ter-4800"
channel_name (Message V29At7200) = codes "v29-7200"
channel_name (Message V29At9600) = codes "v29-9600"
channel_name (Message V17At7200) = codes "v17-7200"
channel_name (Message V17At9600) = codes "v17-9600"
channel_name (Message V17At12000) = codes "v17-12000"
channel_name (Message V17At14400) = codes "v17-14400"

-- the name in a line of what bits are: flags and frames (`hdlc`), or a training check (`raw`)
abbrev pub kind_name : Kind → List ℕ
kind_name Frames = codes "hdlc"
kind_name Check = codes "raw"

-- no octet is a space
abbrev pub HasNoSpace : List ℕ → Type 0
HasNoSpace octets = (k : ℕ) → k < length octets → slice_index octets k ≢ 32

-- one to `most` decimal digits write a number; zeros may come first
pub record IsNumber (most : ℕ) (digits : List ℕ) (number : ℕ) : Type 0 where
  pub numeral : IsNumeral 10 digits
  pub short : length digits ≤ most
  pub value : number ≡ digits_value 10 digits

-- how many octets a number of bits needs
abbrev pub octets_for : ℕ → ℕ
octets_for bits = (bits + 7) / 8

-- BITS HEX: a number of bits, and exactly as many octets as they need, each by two hexadecimal digits, in capitals or not
pub record AreBits (text : List ℕ) (bits : ℕ) (octets : List ℕ) : Type 0 where
  pub count : List ℕ
  pub hex : List ℕ
  pub text_is : text ≡ spaced (count ∷ hex ∷ [])
  pub count_is : IsNumber 7 count bits
  pub hex_is : decode_of hex ≡ Ok octets
  pub size : length octets ≡ octets_for bits

-- CARRIER KIND BITS HEX: a burst
abbrev pub IsBurst : List ℕ → Channel → Kind → ℕ → List ℕ → Type 0
IsBurst text channel kind bits octets =
    (rest : List ℕ) × (text ≡ spaced (channel_name channel ∷ kind_name kind ∷ rest ∷ [])) × AreBits rest bits octets

-- the word of a line that has nothing but the time after it
abbrev pub IsWordOf : List ℕ → Said → Type 0
IsWordOf word Quiet = word ≡ codes "quiet"
IsWordOf word Busy = word ≡ codes "busy"
IsWordOf word (Received channel kind bits octets) = ⊥
IsWordOf word NotReady = word ≡ codes "not-ready"
IsWordOf word Ready = word ≡ codes "ready"
IsWordOf word Missed = word ≡ codes "missed"
IsWordOf word (Told fate file) = ⊥
IsWordOf word Stop = word ≡ codes "stop"
IsWordOf word End = word ≡ codes "end"

-- the line is a word and the time
abbrev pub IsTimed : List ℕ → TimedLine → Type 0
IsTimed line timed = (word : List ℕ) × (time : List ℕ)
    × (line ≡ spaced (word ∷ time ∷ [])) × IsWordOf word timed.said × IsNumber 15 time timed.at

-- CARRIER KIND BITS HEX or v21 frames HEX HEX ..: a burst that has come
abbrev pub HasCome : List ℕ → Channel → Kind → ℕ → List ℕ → Type 0
HasCome text channel kind bits octets = IsBurst text channel kind bits octets ⊎ IsInFrames text channel kind bits octets

-- the line says that this burst was received
abbrev pub IsReceived : List ℕ → Said → Type 0
IsReceived burst (Received channel kind bits octets) = HasCome burst channel kind bits octets.items
IsReceived burst said = ⊥

-- what follows `rx`: the time and a burst
abbrev pub ReceivedAfter : List ℕ → TimedLine → Type 0
ReceivedAfter text timed = (time : List ℕ) × (burst : List ℕ)
    × (text ≡ spaced (time ∷ burst ∷ [])) × IsNumber 15 time timed.at × IsReceived burst timed.said

-- the word that says what became of a page that was handed over
abbrev pub fate_word : Fate → List ℕ
fate_word Kept = codes "kept"
fate_word Lost = codes "lost"

-- the line says that this became of the page in this file
abbrev pub IsTold : Fate → List ℕ → Said → Type 0
IsTold fate name (Told same file) = (same ≡ fate) × (file.items ≡ name)
IsTold fate name said = ⊥

-- what follows `kept` or `lost`: the time and the name of a file, which may have spaces
abbrev pub ToldAfter : Fate → List ℕ → TimedLine → Type 0
ToldAfter fate text timed = (time : List ℕ) × (name : List ℕ)
    × (text ≡ spaced (time ∷ name ∷ [])) × IsNumber 15 time timed.at × IsTold fate name timed.said

-- the line is `rx`, the time and a burst
abbrev pub IsReceivedLine : List ℕ → TimedLine → Type 0
IsReceivedLine line timed = (after : List ℕ) × (line ≡ spaced (codes "rx" ∷ after ∷ [])) × ReceivedAfter after timed

-- the line is `kept` or `lost`, the time and the name of a file
abbrev pub IsToldLine : List ℕ → TimedLine → Type 0
IsToldLine line timed = (fate : Fate) × (after : List ℕ) × (line ≡ spaced (fate_word fate ∷ after ∷ [])) × ToldAfter fate after timed

-- The line, which has at most 400,000 octets, says this, and when: a word and the time, or `rx`, the time and a burst; or `kept` or `lost`,
-- the time and a file.
pub record Says (line : List ℕ) (timed : TimedLine) : Type 0 where
  pub most : length line ≤ 400000
  pub words : IsTimed line timed ⊎ (IsReceivedLine line timed ⊎ IsToldLine line timed)

-- the line says nothing
abbrev pub SaysNothing : List ℕ → Type 0
SaysNothing line = (timed : TimedLine) → Says line timed → ⊥
