-- What of all bits so far still matters to a deframer. The clauses of a deframer name this; no definition of a frame does.
use Rattle.std.specs.Prelude.{ℕ, ◌%◌, Bool, true, false, List, length, min, take, nat_lt}
use Rattle.std.specs.List.{suffix_len}
use Rattle.raster.specs.Octets.{number, octets_of}
use Rattle.hdlc.specs.Gaps.{has_six, unstuffed}
use Rattle.hdlc.specs.OpenGap.{begun, held, recent, unclosed}

-- What a deframer keeps of all bits so far, which is all that decides how the next ones count.
pub record Kept : Type 0 where
  -- whether a flag has come; how many bits came after the last one, at most eight; the last eight bits as a number
  pub begun : Bool
  pub held : ℕ
  pub last : ℕ
  -- the open gap is the bits after the last flag without the last eight: how many they are, at most eight; how many 1 bits in a row
  -- end them, at most six; whether there are six 1 bits in a row (so that it is aborted)
  pub seen : ℕ
  pub ones : ℕ
  pub aborted : Bool
  -- of its unstuffed bits: the whole octets, at most 302 as in a frame; whether there are more; how many bits came after the whole
  -- octets; the last eight bits as a number
  pub octets : List ℕ
  pub long : Bool
  pub part : ℕ
  pub ending : ℕ

-- what is kept, from an open gap and its unstuffed bits
abbrev pub kept_with : Bool → ℕ → ℕ → List Bool → List Bool → Kept
kept_with begun held last gap unstuffed = record {
  begun = begun;
  held = held;
  last = last;
  seen = min 8 (length gap);
  ones = min 6 (suffix_len (λ bit. bit) gap);
  aborted = has_six gap;
  octets = take 302 (octets_of unstuffed);
  long = nat_lt 302 (length (octets_of unstuffed));
  part = length unstuffed % 8;
  ending = number (recent false unstuffed);
}

-- what a deframer keeps after these bits
unfoldable pub kept_of : List Bool → Kept
kept_of bits = kept_with (begun bits) (held bits) (number (recent true bits)) (unclosed bits) (unstuffed (unclosed bits))
