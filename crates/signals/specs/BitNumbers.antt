-- What is read of a DIS and a DCS, bit by bit, by the numbers that the standard's table gives the bits; and how many octets each
-- signal needs.
use Rattle.std.specs.Prelude.{ℕ, ◌≡◌, ◌≢◌, ◌≤◌, ◌<◌, ◌-◌, ◌&&◌, ◌||◌, Bool, true, false, nat_le, List, [], ◌∷◌, ◌++◌, length, map, drop}
use Rattle.std.specs.Prelude.{take, slice_index, slice_index_or, Contains, Result, Ok, Err, codes}
use Rattle.std.specs.List.{range_with_len}
use Rattle.raster.specs.Octets.{AreOctets}
use Rattle.raster.specs.Packed.{bits_of}
use Rattle.raster.specs.declared.packed.Order.TheVariants.{LsbFirst}
use Rattle.signals.specs.Reading.{read_content}
use Rattle.signals.specs.Saying.{control_text, has_text}
use Rattle.signals.specs.Sending.{digits, modems_text, speed_text, width_text, is_t6, page_end_text}
use Rattle.signals.specs.Signals.{PlainSignal, dis, dcs, cfr, ftt, fcd, rcp, pps, ppr, mcf, rnr, rr, dcn, other}
use Rattle.signals.specs.Writing.{head_of}
use Rattle.signals.specs.declared.control.Control.{Control}
use Rattle.signals.specs.declared.control.Control.TheVariants.{Dis, Dcs, Cfr, Ftt, Fcd, Rcp, Pps, Ppr, Mcf, Rnr, Rr, Dcn}
use Rattle.signals.specs.declared.fault.SignalFault.{SignalFault}
use Rattle.signals.specs.declared.fault.SignalFault.TheVariants.{ShortField}
use Rattle.signals.specs.declared.params.Caps.{Caps}
use Rattle.signals.specs.declared.params.Modems.{Modems}
use Rattle.signals.specs.declared.params.Modems.TheVariants.{Fallback}
use Rattle.signals.specs.declared.params.PageWidth.{PageWidth}
use Rattle.signals.specs.declared.params.PageWidth.TheVariants.{W1728, W2048, W2432}
use Rattle.signals.specs.declared.params.Params.{Params}
use Rattle.signals.specs.declared.signal.PageEnd.{PageEnd}

-- the bit with a number as it was sent: 1 is the first of the information field in order of sending; past its last bit each is 0
unfoldable pub sent_bit : List ℕ → ℕ → Bool
sent_bit fields number = slice_index_or (bits_of LsbFirst fields) (number - 1) false

-- the bit with a number as it is read: as it was sent, but bits 25 and up are 0 if bit 24 is 0 (T.30, 5.3.6.2)
unfoldable pub numbered : List ℕ → ℕ → Bool
numbered fields number = sent_bit fields number && (nat_le number 24 || sent_bit fields 24)

-- `count` bits from a number on
abbrev pub numbered_from : List ℕ → ℕ → ℕ → List Bool
numbered_from fields number count = map (numbered fields) (range_with_len number count)

-- bits 11 to 14 of a DIS show the modems whose text they are, and the fallback if they are the text of no others (T.30, 5.3.6.2)
abbrev pub ModemsShown : List Bool → Modems → Type 0
ModemsShown bits Fallback = (others : Modems) → others ≢ Fallback → bits ≢ digits (modems_text others)
ModemsShown bits modems = bits ≡ digits (modems_text modems)

-- bits 17 and 18 of a DIS for each widest page: 00 for 1,728 pixels, 10 for 2,048, 01 and 11 for 2,432
abbrev pub widest_texts : PageWidth → List (List Bool)
widest_texts W1728 = digits (codes "00") ∷ []
widest_texts W2048 = digits (codes "10") ∷ []
widest_texts W2432 = digits (codes "01") ∷ digits (codes "11") ∷ []

-- what the bits of a DIS show, a line for each field, under the numbers of its bits
pub record DisShows (fields : List ℕ) (caps : Caps) : Type 0 where
  pub bit_10_receiver : numbered fields 10 ≡ caps.receiver
  pub bits_11_to_14_modems : ModemsShown (numbered_from fields 11 4) caps.modems
  pub bit_15_fine : numbered fields 15 ≡ caps.fine
  pub bits_17_and_18_widest : Contains (widest_texts caps.widest) (numbered_from fields 17 2)
  pub bit_27_error_correction : numbered fields 27 ≡ caps.ecm
  pub bit_31_t6 : numbered fields 31 ≡ caps.t6

-- what the bits of a DCS show, a line for each field, under the numbers of its bits; it has error correction, and bit 16 only beside T.6
pub record DcsShows (fields : List ℕ) (params : Params) : Type 0 where
  pub bits_11_to_14_speed : numbered_from fields 11 4 ≡ digits (speed_text params.speed)
  pub bit_15_fine : numbered fields 15 ≡ params.fine
  pub bit_16_beside_t6 : numbered fields 16 ≡ true → numbered fields 31 ≡ true
  pub bits_17_and_18_width : numbered_from fields 17 2 ≡ digits (width_text params.width)
  pub bit_27_error_correction : numbered fields 27 ≡ true
  pub bit_28_small : numbered fields 28 ≡ params.small
  pub bit_31_t6 : numbered fields 31 ≡ is_t6 params.coding

-- an octet is one that either station sends for a facsimile control field
pub record IsOctetOf (control : Control) (octet : ℕ) : Type 0 where
  pub small : octet < 256
  pub text : has_text (control_text control) octet ≡ true

-- the least number of octets of the information field: 3 in a DIS and a DCS, 2 in an FCD, 4 in a PPS, 32 in a PPR, else 0
abbrev pub least_octets : Control → ℕ
least_octets Dis = 3
least_octets Dcs = 3
least_octets Fcd = 2
least_octets Pps = 4
least_octets Ppr = 32
least_octets _ = 0

-- what the information field after a facsimile control field shows; a DCS whose bits show no parameters, and a PPS whose first octet has no
-- known text, are read as `other`
abbrev pub FieldsShow : Control → ℕ → List ℕ → PlainSignal → Type 0
FieldsShow Dis octet fields (dis caps) = DisShows fields caps
FieldsShow Dcs octet fields (dcs params) = DcsShows fields params
FieldsShow Dcs octet fields (other at) = (at ≡ octet) × ((params : Params) → DcsShows fields params → ⊥)
FieldsShow Cfr octet fields cfr = Unit {0}
FieldsShow Ftt octet fields ftt = Unit {0}
FieldsShow Fcd octet fields (fcd number octets) = (number ≡ slice_index fields 0) × (octets ≡ drop 1 fields)
FieldsShow Rcp octet fields rcp = Unit {0}
FieldsShow Pps octet fields (pps ends page block last) =
    (has_text (page_end_text ends) (slice_index fields 0) ≡ true) × (page ≡ slice_index fields 1) × (block ≡ slice_index fields 2)
    × (last ≡ slice_index fields 3)
FieldsShow Pps octet fields (other at) = (at ≡ octet) × ((ends : PageEnd) → has_text (page_end_text ends) (slice_index fields 0) ≡ false)
FieldsShow Ppr octet fields (ppr map) = map ≡ take 32 fields
FieldsShow Mcf octet fields mcf = Unit {0}
FieldsShow Rnr octet fields rnr = Unit {0}
FieldsShow Rr octet fields rr = Unit {0}
FieldsShow Dcn octet fields dcn = Unit {0}
FieldsShow _ _ _ _ = ⊥

-- what is read of a facsimile control field and its information field: the signal that they show, or `ShortField` if the field is too short
abbrev pub IsReadOf : Control → ℕ → List ℕ → Result PlainSignal SignalFault → Type 0
IsReadOf control octet fields (Ok signal) = (least_octets control ≤ length fields) × FieldsShow control octet fields signal
IsReadOf control octet fields (Err fault) = (length fields < least_octets control) × (fault ≡ ShortField)

-- law: a content with a known facsimile control field is read by the numbers of its bits
abbrev pub ReadsByNumber : Type 0
ReadsByNumber =
    (control : Control) (last : Bool) (octet : ℕ) (fields : List ℕ) → IsOctetOf control octet → AreOctets fields
    → IsReadOf control octet fields (read_content (head_of last octet ++ fields))

-- the numbers of the bits of a DIS that have a meaning here
abbrev pub dis_numbers : List ℕ
dis_numbers = 10 ∷ 11 ∷ 12 ∷ 13 ∷ 14 ∷ 15 ∷ 17 ∷ 18 ∷ 27 ∷ 31 ∷ []

-- the numbers of the bits of a DCS that have a meaning here
abbrev pub dcs_numbers : List ℕ
dcs_numbers = 11 ∷ 12 ∷ 13 ∷ 14 ∷ 15 ∷ 16 ∷ 17 ∷ 18 ∷ 27 ∷ 28 ∷ 31 ∷ []

-- law: two contents with the same facsimile control field, both long enough, are read alike if they agree in the bits of these numbers: all
-- other bits are ignored
abbrev pub ReadsNoOthers : Control → List ℕ → Type 0
ReadsNoOthers control numbers =
    (last again : Bool) (octet : ℕ) (fields others : List ℕ) → IsOctetOf control octet
    → least_octets control ≤ length fields → least_octets control ≤ length others
    → map (numbered fields) numbers ≡ map (numbered others) numbers
    → read_content (head_of last octet ++ fields) ≡ read_content (head_of again octet ++ others)
