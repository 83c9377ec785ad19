-- What a station as a process writes: a line for each burst that is sent, and a word after them.
use Rattle.std.specs.Prelude.{◌≡◌, ◌++◌, ◌∷◌, [], ◌&&◌, ℕ, Bool, true, false, cond, List, MatchResult, Option, Result, Some, None, codes}
use Rattle.std.specs.Fmt.{decimal}
use Rattle.std.specs.Io.KnownBytes.{Appends}
use Rattle.hex.specs.Hex.{encode_upper}
use Rattle.stations.specs.declared.carrier.Carrier.{Carrier}
use Rattle.stations.specs.declared.carrier.Carrier.TheVariants.{V21, Training, Page}
use Rattle.terminals.specs.Hearing.{contents}
use Rattle.terminals.specs.declared.sending.SentBurst.{SentBurst}
use Rattle.conversations.specs.declared.carrier.Channel.{Channel}
use Rattle.conversations.specs.declared.carrier.Channel.TheVariants as channel
use Rattle.conversations.specs.declared.carrier.Kind.{Kind}
use Rattle.conversations.specs.declared.carrier.Kind.TheVariants.{Frames, Check}
use Rattle.conversations.specs.declared.hearing.Expected.{Expected}
use Rattle.conversations.specs.declared.writing.Says.{Says}
use Rattle.conversations.specs.FrameLines.{contents_text}
use Rattle.conversations.specs.Hearing.{expected_first, expected_then}
use Rattle.conversations.specs.Lines.{channel_name, kind_name, spaced}
use Rattle.stations.specs.declared.listening.Listening.{Listening}
use Rattle.stations.specs.declared.stopping.CallEnd.{CallEnd}

-- a beginning of a text was written, and nothing else
abbrev pub AppendsPart : Option (List ℕ) → Option (List ℕ) → List ℕ → Type 0
AppendsPart before after text = (part : List ℕ) × (rest : List ℕ) × (text ≡ part ++ rest) × Appends before after part

-- a text was written; or that failed, and a beginning of it was
abbrev pub WritesText : {T E : Type 0} → Option (List ℕ) → Option (List ℕ) → List ℕ → Result T E → Type 0
WritesText before after text result = MatchResult result (λ _. Appends before after text) (λ _. AppendsPart before after text)

-- the carrier that a burst goes by
abbrev pub channel_of : Carrier → Channel
channel_of V21 = channel.V21
channel_of (Training speed) = channel.Message speed
channel_of (Page speed) = channel.Message speed

-- what a burst's bits are: a training check, or flags and frames
abbrev pub kind_of : Carrier → Kind
kind_of V21 = Frames
kind_of (Training speed) = Check
kind_of (Page speed) = Frames

-- CARRIER KIND BITS HEX: a burst in words, its octets in capitals
abbrev pub burst_words : SentBurst → List ℕ
burst_words burst = spaced (channel_name (channel_of burst.carrier) ∷ kind_name (kind_of burst.carrier) ∷ decimal burst.bits
    ∷ encode_upper burst.octets.items ∷ [])

-- the line of a burst that is sent: `tx` and the burst's words
abbrev pub tx_line : SentBurst → List ℕ
tx_line burst = spaced (codes "tx" ∷ burst_words burst ∷ []) ++ 10 ∷ []

-- v21 frames HEX HEX ..: the words of a burst by V.21, as the contents of its good frames, in capitals
abbrev pub frames_words : SentBurst → List ℕ
frames_words burst = codes "v21 frames" ++ contents_text (contents burst.octets.items)

-- the line of a burst by V.21, as contents
abbrev pub frames_line : SentBurst → List ℕ
frames_line burst = spaced (codes "tx" ∷ frames_words burst ∷ []) ++ 10 ∷ []

-- the line of a burst by a carrier, in contents if they are wanted and it goes by V.21
abbrev pub line_by : Bool → Carrier → SentBurst → List ℕ
line_by false carrier burst = tx_line burst
line_by true V21 burst = frames_line burst
line_by true (Training speed) burst = tx_line burst
line_by true (Page speed) burst = tx_line burst

-- the line of a burst that is sent, in contents if they are wanted and it goes by V.21
abbrev pub burst_line : Bool → SentBurst → List ℕ
burst_line frames burst = line_by frames burst.carrier burst

-- hear CARRIER KIND: a line of what a station expects
abbrev pub hear_line : Expected → List ℕ
hear_line it = spaced (codes "hear" ∷ channel_name it.channel ∷ kind_name it.kind ∷ []) ++ 10 ∷ []

-- the line of what may be expected too, if there is anything
abbrev pub then_line : Option Expected → List ℕ
then_line None = []
then_line (Some it) = hear_line it

-- the lines of what a station that listens for this expects, what comes first in front; none if they aren't wanted
abbrev pub hear_lines : Bool → Listening → List ℕ
hear_lines false listens = []
hear_lines true listens = hear_line (expected_first listens) ++ then_line (expected_then listens)

-- the line of a call that goes on: `wait`, and the time from which a quiet line does something, if it is named
abbrev pub wait_line : Option ℕ → List ℕ
wait_line None = codes "wait" ++ 10 ∷ []
wait_line (Some at) = spaced (codes "wait" ∷ decimal at ∷ []) ++ 10 ∷ []

-- the line of a call that is over
abbrev pub done_line : List ℕ
done_line = codes "done" ++ 10 ∷ []

-- the lines after the bursts of a call that goes on: what is expected, once the station has begun, and `wait`; of both only what is wanted
abbrev pub on_lines : Says → Bool → Listening → Option ℕ → List ℕ
on_lines says begun listens at = hear_lines (says.hears && begun) listens ++ wait_line (cond says.waits at None)

-- the lines after the bursts: `done` if the call has ended
abbrev pub rest_lines : Option CallEnd → List ℕ → List ℕ
rest_lines None on = on
rest_lines (Some why) on = done_line
