-- The words of lines by octets, as they are on the line; worked by hand from the ASCII table.
use Rattle.std.specs.Prelude.{◌≡◌, ℕ, List, [], ◌∷◌, None, Some}
use Rattle.signals.specs.declared.params.Speed.TheVariants.{V27At2400, V27At4800, V29At7200, V29At9600, V17At7200, V17At9600}
use Rattle.signals.specs.declared.params.Speed.TheVariants.{V17At12000, V17At14400}
use Rattle.stations.specs.declared.carrier.Carrier.TheVariants.{V21, Training, Page}
use Rattle.stations.specs.declared.stopping.CallEnd.{CallEnd}
use Rattle.conversations.specs.Lines.{IsWordOf, channel_name, fate_word, kind_name}
use Rattle.conversations.specs.Writing.{channel_of, kind_of, rest_lines, wait_line}
use Rattle.conversations.specs.declared.line.Fate.TheVariants.{Kept, Lost}
use Rattle.conversations.specs.declared.line.Said.TheVariants.{Quiet, Busy, NotReady, Ready, Missed, Stop, End}

-- the word `hdlc`, by octets
abbrev pub hdlc : List ℕ
hdlc = 0x68 ∷ 0x64 ∷ 0x6C ∷ 0x63 ∷ []

-- the word `raw`, by octets
abbrev pub raw : List ℕ
raw = 0x72 ∷ 0x61 ∷ 0x77 ∷ []

-- The law: a burst's carrier and kind in a line, by the carrier that it goes by.
pub record CarriersByOctets : Type 0 where
  -- v21 hdlc
  pub v21 : channel_name (channel_of V21) ≡ 0x76 ∷ 0x32 ∷ 0x31 ∷ []
  pub v21_frames : kind_name (kind_of V21) ≡ hdlc
  -- v27ter-2400 raw, v27ter-4800 hdlc
  pub v27_2400 : channel_name (channel_of (Training V27At2400)) ≡
      0x76 ∷ 0x32 ∷ 0x37 ∷ 0x74 ∷ 0x65 ∷ 0x72 ∷ 0x2D ∷ 0x32 ∷ 0x34 ∷ 0x30 ∷ 0x30 ∷ []
  pub v27_check : kind_name (kind_of (Training V27At2400)) ≡ raw
  pub v27_4800 : channel_name (channel_of (Page V27At4800)) ≡
      0x76 ∷ 0x32 ∷ 0x37 ∷ 0x74 ∷ 0x65 ∷ 0x72 ∷ 0x2D ∷ 0x34 ∷ 0x38 ∷ 0x30 ∷ 0x30 ∷ []
  pub v27_frames : kind_name (kind_of (Page V27At4800)) ≡ hdlc
  -- v29-7200, v29-9600
  pub v29_7200 : channel_name (channel_of (Page V29At7200)) ≡ 0x76 ∷ 0x32 ∷ 0x39 ∷ 0x2D ∷ 0x37 ∷ 0x32 ∷ 0x30 ∷ 0x30 ∷ []
  pub v29_9600 : channel_name (channel_of (Training V29At9600)) ≡ 0x76 ∷ 0x32 ∷ 0x39 ∷ 0x2D ∷ 0x39 ∷ 0x36 ∷ 0x30 ∷ 0x30 ∷ []
  -- v17-7200, v17-9600, v17-12000, v17-14400
  pub v17_7200 : channel_name (channel_of (Page V17At7200)) ≡ 0x76 ∷ 0x31 ∷ 0x37 ∷ 0x2D ∷ 0x37 ∷ 0x32 ∷ 0x30 ∷ 0x30 ∷ []
  pub v17_9600 : channel_name (channel_of (Page V17At9600)) ≡ 0x76 ∷ 0x31 ∷ 0x37 ∷ 0x2D ∷ 0x39 ∷ 0x36 ∷ 0x30 ∷ 0x30 ∷ []
  pub v17_12000 : channel_name (channel_of (Training V17At12000)) ≡
      0x76 ∷ 0x31 ∷ 0x37 ∷ 0x2D ∷ 0x31 ∷ 0x32 ∷ 0x30 ∷ 0x30 ∷ 0x30 ∷ []
  pub v17_14400 : channel_name (channel_of (Page V17At14400)) ≡
      0x76 ∷ 0x31 ∷ 0x37 ∷ 0x2D ∷ 0x31 ∷ 0x34 ∷ 0x34 ∷ 0x30 ∷ 0x30 ∷ []

-- The law: the words that a line says.
pub record WordsByOctets : Type 0 where
  pub quiet : IsWordOf (0x71 ∷ 0x75 ∷ 0x69 ∷ 0x65 ∷ 0x74 ∷ []) Quiet
  pub busy : IsWordOf (0x62 ∷ 0x75 ∷ 0x73 ∷ 0x79 ∷ []) Busy
  pub not_ready : IsWordOf (0x6E ∷ 0x6F ∷ 0x74 ∷ 0x2D ∷ 0x72 ∷ 0x65 ∷ 0x61 ∷ 0x64 ∷ 0x79 ∷ []) NotReady
  pub ready : IsWordOf (0x72 ∷ 0x65 ∷ 0x61 ∷ 0x64 ∷ 0x79 ∷ []) Ready
  pub missed : IsWordOf (0x6D ∷ 0x69 ∷ 0x73 ∷ 0x73 ∷ 0x65 ∷ 0x64 ∷ []) Missed
  pub stop : IsWordOf (0x73 ∷ 0x74 ∷ 0x6F ∷ 0x70 ∷ []) Stop
  pub ended : IsWordOf (0x65 ∷ 0x6E ∷ 0x64 ∷ []) End
  pub kept : fate_word Kept ≡ 0x6B ∷ 0x65 ∷ 0x70 ∷ 0x74 ∷ []
  pub lost : fate_word Lost ≡ 0x6C ∷ 0x6F ∷ 0x73 ∷ 0x74 ∷ []

-- The law: after its bursts a call that has ended says `done`, and one that goes on says what it says beside them, and `wait`; each in a
-- line.
pub record EndsByOctets : Type 0 where
  pub ended : (why : CallEnd) (on : List ℕ) → rest_lines (Some why) on ≡ 0x64 ∷ 0x6F ∷ 0x6E ∷ 0x65 ∷ 0x0A ∷ []
  pub goes_on : (on : List ℕ) → rest_lines None on ≡ on
  pub waits : wait_line None ≡ 0x77 ∷ 0x61 ∷ 0x69 ∷ 0x74 ∷ 0x0A ∷ []
  pub until : wait_line (Some 70) ≡ 0x77 ∷ 0x61 ∷ 0x69 ∷ 0x74 ∷ 0x20 ∷ 0x37 ∷ 0x30 ∷ 0x0A ∷ []
