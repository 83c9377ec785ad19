-- Laws of frames in a line as their contents: what such a line says is heard as these contents, and what is sent so is read as it was sent.
use Rattle.std.specs.Prelude.{◌≡◌, ◌⊎◌, ◌≤◌, ◌++◌, ◌∷◌, [], ℕ, List, codes, length}
use Rattle.hdlc.specs.Frames.{IsReady}
use Rattle.raster.specs.Packed.{bits_of}
use Rattle.raster.specs.declared.packed.Order.TheVariants.{LsbFirst}
use Rattle.signals.specs.Writing.{IsWritable, content_of}
use Rattle.signals.specs.declared.signal.Side.{Side}
use Rattle.stations.specs.Bursts.{PlainBurst, items_of}
use Rattle.stations.specs.Inputs.{PlainItem, checked, framed}
use Rattle.stations.specs.Lending.{has_no_frame}
use Rattle.stations.specs.declared.carrier.Carrier.TheVariants.{V21 as ByV21}
use Rattle.terminals.specs.Hearing.{contents, new_contents}
use Rattle.terminals.specs.Sending.{IsSent}
use Rattle.terminals.specs.declared.sending.SentBurst.{SentBurst}
use Rattle.conversations.specs.FrameLines.{AreCoded, contents_text}
use Rattle.conversations.specs.LineLaws.{plain_said, received}
use Rattle.conversations.specs.Lines.{HasCome, IsNumber, Says, spaced}
use Rattle.conversations.specs.Writing.{frames_words}
use Rattle.conversations.specs.declared.carrier.Channel.TheVariants.{V21}
use Rattle.conversations.specs.declared.carrier.Kind.TheVariants.{Frames}
use Rattle.conversations.specs.declared.line.Said.{Said}

-- The law: what a line says by contents is heard as these contents and no other, one after the other, after octets that a frame may follow.
abbrev pub ContentsAreHeard : Type 0
ContentsAreHeard =
    (before text octets : List ℕ) (count : ℕ) (h : AreCoded text count octets) → IsReady (bits_of LsbFirst before) →
    new_contents before octets ≡ h.contents

-- the line that says that a burst by V.21 has come, in the words in which it is sent as contents
abbrev pub rx_frames_line : List ℕ → SentBurst → List ℕ
rx_frames_line time burst = spaced (codes "rx" ∷ time ∷ frames_words burst ∷ [])

-- what the words of a burst by V.21, sent as contents, say at the other station: octets with the burst's good frames and no other
pub record ReadsFrames (burst : SentBurst) (time : List ℕ) (at : ℕ) : Type 0 where
  pub count : ℕ
  pub octets : List ℕ
  pub come : HasCome (frames_words burst) V21 Frames count octets
  pub same : contents octets ≡ contents burst.octets.items
  pub says : (said : Said) → plain_said said ≡ received V21 Frames count octets →
      Says (rx_frames_line time burst) (record { at = at; said = said })

-- The law: the words in which a burst is sent as contents, after `rx` and a time, are a line that says octets with the same good frames, if
-- it has at most 400,000 octets.
abbrev pub ReadsFramesSent : Type 0
ReadsFramesSent =
    (burst : SentBurst) (time : List ℕ) (at : ℕ) → IsNumber 15 time at → length (rx_frames_line time burst) ≤ 400000 →
    ReadsFrames burst time at

-- what a line of contents says of an item that goes by V.21, which items follow in the turn: the content of its frame, marked if it is the
-- turn's last one; a signal that can't be written has none
abbrev pub SaysItem : Side → PlainItem → List PlainItem → List (List ℕ) → Type 0
SaysItem side (framed signal) following list =
    (IsWritable signal × (list ≡ content_of signal side (has_no_frame following) ∷ [])) ⊎ ((¬ IsWritable signal) × (list ≡ []))
SaysItem side (checked octets) following list = ⊥

-- of items, one after the other
abbrev pub SaysItems : Side → List PlainItem → List PlainItem → List (List ℕ) → Type 0
SaysItems side [] later list = list ≡ []
SaysItems side (item ∷ items) later list =
    (front : List (List ℕ)) × (rest : List (List ℕ)) × SaysItem side item (items ++ later) front × SaysItems side items later rest ×
    (list ≡ front ++ rest)

-- The law: the good frames of a burst by V.21, as it is sent, are those of its items and no other, in order.
abbrev pub SaysItsFrames : Type 0
SaysItsFrames =
    (side : Side) (plain : PlainBurst) (later : List PlainBurst) (burst : SentBurst) → IsSent side plain later burst →
    burst.carrier ≡ ByV21 → (list : List (List ℕ)) → SaysItems side plain.items (items_of later) list →
    contents burst.octets.items ≡ list

-- The law: a frame as it stands in a line, worked by hand: MCF from an answerer, FF 13 8C, has the check sequence A2 F1 and two stuffed 0
-- bits; it is written so, and read in capitals or not.
pub record FramesByOctets : Type 0 where
  pub written : contents_text (contents (0x7E ∷ 0xDF ∷ 0x47 ∷ 0x30 ∷ 0x8A ∷ 0xC6 ∷ 0xFB ∷ 0x01 ∷ [])) ≡ codes " FF138C"
  pub read : AreCoded (codes " FF138C") 58 (0x7E ∷ 0xDF ∷ 0x47 ∷ 0x30 ∷ 0x8A ∷ 0xC6 ∷ 0xFB ∷ 0x01 ∷ [])
  pub small : AreCoded (codes " ff138c") 58 (0x7E ∷ 0xDF ∷ 0x47 ∷ 0x30 ∷ 0x8A ∷ 0xC6 ∷ 0xFB ∷ 0x01 ∷ [])
  pub none : AreCoded [] 0 []
