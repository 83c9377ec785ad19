-- Frames by V.21 in a line as their contents, in place of bits: what a modem takes and gives that adds flags and check sequences itself.
use Rattle.std.specs.Prelude.{◌≡◌, ◌⊎◌, ◌≤◌, ◌++◌, ◌∷◌, [], ℕ, Bool, List, Ok, codes, length, take}
use Rattle.hdlc.specs.Frames.{IsFrame}
use Rattle.hex.specs.Hex.{decode_of, encode_upper}
use Rattle.raster.specs.Octets.{packed}
use Rattle.raster.specs.Packed.{Bits}
use Rattle.run_tables.specs.Written.{Appends}
use Rattle.conversations.specs.declared.carrier.Channel.{Channel}
use Rattle.conversations.specs.declared.carrier.Channel.TheVariants.{V21}
use Rattle.conversations.specs.declared.carrier.Kind.{Kind}
use Rattle.conversations.specs.declared.carrier.Kind.TheVariants.{Frames}

-- HEX: a content of 3 to 300 octets, each by two hexadecimal digits, in capitals or not
pub record IsContent (word content : List ℕ) : Type 0 where
  pub hex_is : decode_of word ≡ Ok content
  pub least : 3 ≤ length content
  pub most : length content ≤ 300

-- octets after a word: none, or a space and others
abbrev pub EndsWord : List ℕ → Type 0
EndsWord after = (after ≡ []) ⊎ (take 1 after ≡ 32 ∷ [])

-- a space and a content come before octets that end the word, and these are the bits of the content's frame
pub record FrameComes (text content after : List ℕ) (frame : List Bool) : Type 0 where
  pub word : List ℕ
  pub cut : text ≡ 32 ∷ (word ++ after)
  pub ends : EndsWord after
  pub says : IsContent word content
  pub coded : IsFrame content frame

-- contents, each after a space, and the bits of their frames, one frame after the other
abbrev pub AreFrames : List (List ℕ) → List ℕ → List Bool → Type 0
AreFrames [] text bits = (text ≡ []) × (bits ≡ [])
AreFrames (content ∷ contents) text bits =
    (after : List ℕ) × (frame : List Bool) × (rest : List Bool) × FrameComes text content after frame × AreFrames contents after rest ×
    (bits ≡ frame ++ rest)

-- the frame that comes first was written
abbrev pub WritesFirst : List ℕ → List ℕ → Bits → Bits → Type 0
WritesFirst text after old new =
    (content : List ℕ) × (frame : List Bool) × FrameComes text content after frame × Appends frame old new

-- the frames of contents, each after a space, were written
abbrev pub WritesFrames : List ℕ → Bits → Bits → Type 0
WritesFrames text old new =
    (contents : List (List ℕ)) × (bits : List Bool) × AreFrames contents text bits × Appends bits old new

-- octets that begin with no frame
abbrev pub NoFrameComes : List ℕ → Type 0
NoFrameComes text = (content after : List ℕ) (frame : List Bool) → FrameComes text content after frame → ⊥

-- octets that aren't contents, each after a space
abbrev pub SaysNoFrames : List ℕ → Type 0
SaysNoFrames text = (contents : List (List ℕ)) (bits : List Bool) → AreFrames contents text bits → ⊥

-- a number of bits and octets, the bits of frames and the octets that hold them, which contents, each after a space, say
pub record AreCoded (text : List ℕ) (count : ℕ) (octets : List ℕ) : Type 0 where
  pub contents : List (List ℕ)
  pub bits : List Bool
  pub frames : AreFrames contents text bits
  pub count_is : count ≡ length bits
  pub octets_are : octets ≡ packed bits

-- v21 frames HEX HEX ..: a burst by V.21, as the contents of its frames
pub record IsInFrames (text : List ℕ) (channel : Channel) (kind : Kind) (count : ℕ) (octets : List ℕ) : Type 0 where
  pub by_v21 : channel ≡ V21
  pub as_frames : kind ≡ Frames
  pub after : List ℕ
  pub text_is : text ≡ codes "v21 frames" ++ after
  pub coded : AreCoded after count octets

-- contents as they are written, each after a space, in capitals
abbrev pub contents_text : List (List ℕ) → List ℕ
contents_text [] = []
contents_text (content ∷ contents) = 32 ∷ (encode_upper content ++ contents_text contents)
