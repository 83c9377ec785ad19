-- Written-out bits, and what the definitions say of them.
use Rattle.std.specs.Prelude.{ℕ, ◌≡◌, true, List, [], ◌∷◌, codes, replicate}
use Rattle.raster.specs.Packed.{bits_of}
use Rattle.raster.specs.declared.packed.Order.TheVariants.{LsbFirst}
use Rattle.run_tables.specs.Codes.{text}
use Rattle.hdlc.specs.declared.counts.Class.TheVariants.{Aborted, Ragged, Short, Damaged}
use Rattle.hdlc.specs.Fcs.{fcs_of, check_octets}
use Rattle.hdlc.specs.Flags.{flags, gaps}
use Rattle.hdlc.specs.Gaps.{unstuffed, good, count_of}

-- the frame of a message confirmation (MCF) as octets, the least significant bit first
abbrev pub message_confirmation : List ℕ
message_confirmation = 0x7E ∷ 0xDF ∷ 0x47 ∷ 0x30 ∷ 0x8A ∷ 0xC6 ∷ 0xFB ∷ 0x01 ∷ []

-- the frame of MCF with one bit changed
abbrev pub one_bit_wrong : List ℕ
one_bit_wrong = 0x7E ∷ 0xDF ∷ 0x47 ∷ 0x31 ∷ 0x8A ∷ 0xC6 ∷ 0xFB ∷ 0x01 ∷ []

-- written-out bits and what the definitions say of them: check sequences, stuffed bits, a gap of each class but Long, fill, flags that
-- share a 0
pub record AreExamples : Type 0 where
  -- the check sequences of the text 123456789 and of two frames
  pub check_text : fcs_of (codes "123456789") ≡ 0x906E
  pub check_confirmation : check_octets (0xFF ∷ 0x13 ∷ 0x8C ∷ []) ≡ 0xA2 ∷ 0xF1 ∷ []
  pub check_ready : check_octets (0xFF ∷ 0x13 ∷ 0x84 ∷ []) ≡ 0xEA ∷ 0x7D ∷ []
  -- eight 1 bits as they are stuffed
  pub stuffed : unstuffed (text (codes "111110111")) ≡ replicate 8 true
  -- a good frame, a damaged one, an aborted one, and one that ends inside an octet
  pub good_frame : good (bits_of LsbFirst message_confirmation) ≡ (0xFF ∷ 0x13 ∷ 0x8C ∷ []) ∷ []
  pub damaged : count_of Damaged (bits_of LsbFirst one_bit_wrong) ≡ 1
  pub aborted : count_of Aborted (bits_of LsbFirst (0x7E ∷ 0xFF ∷ 0x7E ∷ [])) ≡ 1
  pub ragged : count_of Ragged (text (codes "0111111000000000001111110")) ≡ 1
  pub short : count_of Short (text (codes "011111100000000001111110")) ≡ 1
  -- seven 1 bits between two flags are fill; flags may share a 0
  pub fill : gaps (text (codes "01111110111111101111110")) ≡ []
  pub shared_zero : flags (text (codes "011111101111110")) ≡ 0 ∷ 7 ∷ []
