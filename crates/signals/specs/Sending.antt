-- What is sent of a signal, bit for bit, by the tables of the standard.
use Rattle.std.specs.Prelude.{ℕ, ◌≡◌, ◌≢◌, ◌<◌, ◌-◌, ◌↔◌, ◌&&◌, ◌||◌, Bool, true, false, cond, nat_eq, nat_le, List, [], ◌∷◌, ◌++◌, map}
use Rattle.std.specs.Prelude.{slice_index_or, Option, Some, None, IfSome, codes}
use Rattle.std.specs.List.{range_with_len}
use Rattle.raster.specs.declared.coding.Coding.{Coding}
use Rattle.raster.specs.declared.coding.Coding.TheVariants.{OneDim, T6}
use Rattle.raster.specs.Packed.{bits_of}
use Rattle.raster.specs.declared.packed.Order.TheVariants.{LsbFirst}
use Rattle.signals.specs.Reading.{modems_of, speed_of, width_of, page_end_of}
use Rattle.signals.specs.Saying.{control_text, has_text}
use Rattle.signals.specs.Signals.{PlainSignal, dis, dcs, cfr, ftt, fcd, rcp, pps, ppr, mcf, rnr, rr, dcn, other}
use Rattle.signals.specs.Writing.{content_of}
use Rattle.signals.specs.declared.params.Caps.{Caps}
use Rattle.signals.specs.declared.params.Modems.{Modems}
use Rattle.signals.specs.declared.params.Modems.TheVariants.{Fallback, V27, V29, V27V29, V17}
use Rattle.signals.specs.declared.params.PageWidth.{PageWidth}
use Rattle.signals.specs.declared.params.PageWidth.TheVariants.{W1728, W2048, W2432}
use Rattle.signals.specs.declared.params.Params.{Params}
use Rattle.signals.specs.declared.params.Speed.{Speed}
use Rattle.signals.specs.declared.params.Speed.TheVariants.{V27At2400, V27At4800, V29At7200, V29At9600, V17At7200, V17At9600, V17At12000}
use Rattle.signals.specs.declared.params.Speed.TheVariants.{V17At14400}
use Rattle.signals.specs.declared.control.Control.{Control}
use Rattle.signals.specs.declared.control.Control.TheVariants.{Dis, Dcs, Cfr, Ftt, Fcd, Rcp, Pps, Ppr, Mcf, Rnr, Rr, Dcn}
use Rattle.signals.specs.declared.signal.PageEnd.{PageEnd}
use Rattle.signals.specs.declared.signal.PageEnd.TheVariants.{Null, Mps, Eom, Eop}
use Rattle.signals.specs.declared.signal.Side.{Side}
use Rattle.signals.specs.declared.signal.Side.TheVariants.{Caller, Answerer}

-- the bits of a text in order of sending, with x for an X
abbrev pub text_bits : Bool → List ℕ → List Bool
text_bits x letters = map (λ letter. cond (nat_eq letter 88) x (nat_eq letter 49)) letters

-- the bits of a text that has no X
abbrev pub digits : List ℕ → List Bool
digits letters = text_bits false letters

-- the X of a station: 1 of the caller, 0 of the answerer
abbrev pub is_caller : Side → Bool
is_caller Caller = true
is_caller Answerer = false

-- bits 11 to 14 of a DIS in order of sending (T.30, 5.3.6.2)
abbrev pub modems_text : Modems → List ℕ
modems_text Fallback = codes "0000"
modems_text V27 = codes "0100"
modems_text V29 = codes "1000"
modems_text V27V29 = codes "1100"
modems_text V17 = codes "1101"

-- bits 11 to 14 of a DCS in order of sending (T.30, 5.3.6.2)
abbrev pub speed_text : Speed → List ℕ
speed_text V27At2400 = codes "0000"
speed_text V27At4800 = codes "0100"
speed_text V29At7200 = codes "1100"
speed_text V29At9600 = codes "1000"
speed_text V17At7200 = codes "1101"
speed_text V17At9600 = codes "1001"
speed_text V17At12000 = codes "0101"
speed_text V17At14400 = codes "0001"

-- bits 17 and 18 in order of sending: the widest page in a DIS, the width of the pages in a DCS
abbrev pub width_text : PageWidth → List ℕ
width_text W1728 = codes "00"
width_text W2048 = codes "10"
width_text W2432 = codes "01"

-- bit 31 of a DCS: the pages have the code of T.6
abbrev pub is_t6 : Coding → Bool
is_t6 OneDim = false
is_t6 T6 = true

-- the bits of a DIS, each row under the number of its first bit: receiver, modems, 7.7 lines, widest page, unlimited length, 0 ms, a fourth
-- octet, error correction, T.6; all other bits up to 32 are 0 (T.30, 5.3.6.2)
abbrev pub dis_table : Caps → List (ℕ × List Bool)
dis_table caps =
    (10, caps.receiver ∷ [])
    ∷ (11, digits (modems_text caps.modems))
    ∷ (15, caps.fine ∷ [])
    ∷ (17, digits (width_text caps.widest))
    ∷ (19, digits (codes "01"))
    ∷ (21, digits (codes "111"))
    ∷ (24, digits (codes "1"))
    ∷ (27, caps.ecm ∷ [])
    ∷ (31, caps.t6 ∷ [])
    ∷ []

-- the bits of a DCS, each row under the number of its first bit: receiver, speed, 7.7 lines, width, unlimited length, 0 ms, a fourth octet,
-- error correction, small frames, T.6; all other bits up to 32 are 0 (T.30, 5.3.6.2)
abbrev pub dcs_table : Params → List (ℕ × List Bool)
dcs_table params =
    (10, digits (codes "1"))
    ∷ (11, digits (speed_text params.speed))
    ∷ (15, params.fine ∷ [])
    ∷ (17, digits (width_text params.width))
    ∷ (19, digits (codes "01"))
    ∷ (21, digits (codes "111"))
    ∷ (24, digits (codes "1"))
    ∷ (27, digits (codes "1"))
    ∷ (28, params.small ∷ [])
    ∷ (31, is_t6 params.coding ∷ [])
    ∷ []

-- the bit with a number, from 1 in order of sending, in a table; 0 if no row has it
abbrev pub numbered_bit : List (ℕ × List Bool) → ℕ → Bool
numbered_bit [] number = false
numbered_bit (row ∷ rows) number = (nat_le row.0 number && slice_index_or row.1 (number - row.0) false) || numbered_bit rows number

-- bits 1 to 32 of a table
abbrev pub table_bits : List (ℕ × List Bool) → List Bool
table_bits table = map (numbered_bit table) (range_with_len 1 32)

-- the texts of the second field of a PPS in order of sending; an X is a first bit that is written as 1 and ignored when read (T.30, A.4.3)
abbrev pub page_end_text : PageEnd → List ℕ
page_end_text Null = codes "00000000"
page_end_text Mps = codes "X1110010"
page_end_text Eom = codes "X1110001"
page_end_text Eop = codes "X1110100"

-- the facsimile control field of a signal; `other` has none of these
abbrev pub control_for : PlainSignal → Option Control
control_for (dis _) = Some Dis
control_for (dcs _) = Some Dcs
control_for cfr = Some Cfr
control_for ftt = Some Ftt
control_for (fcd _ _) = Some Fcd
control_for rcp = Some Rcp
control_for (pps _ _ _ _) = Some Pps
control_for (ppr _) = Some Ppr
control_for mcf = Some Mcf
control_for rnr = Some Rnr
control_for rr = Some Rr
control_for dcn = Some Dcn
control_for (other _) = None

-- the bits of a signal's information field
abbrev pub field_bits : PlainSignal → List Bool
field_bits (dis caps) = table_bits (dis_table caps)
field_bits (dcs params) = table_bits (dcs_table params)
field_bits (fcd number octets) = bits_of LsbFirst (number ∷ octets)
field_bits (pps ends page block last) = text_bits true (page_end_text ends) ++ bits_of LsbFirst (page ∷ block ∷ last ∷ [])
field_bits (ppr map) = bits_of LsbFirst map
field_bits _ = []

-- the bits of a signal's frame in order of sending: the address 11111111; the control field 1100X000, with a 1 for the X in the last frame;
-- the text of the facsimile control field with the station's bit for its X; the information field (T.30, 5.3.4 to 5.3.6 and A.4)
abbrev pub sent_bits : Control → PlainSignal → Side → Bool → List Bool
sent_bits control signal side last =
    digits (codes "11111111") ++ text_bits last (codes "1100X000") ++ text_bits (is_caller side) (control_text control) ++ field_bits signal

-- law: the bits that are written of a signal, in order of sending, are those of the tables
abbrev pub WritesTheTables : Type 0
WritesTheTables = (signal : PlainSignal) (side : Side) (last : Bool)
    → IfSome (control_for signal) (λ control. bits_of LsbFirst (content_of signal side last) ≡ sent_bits control signal side last)

-- law: an octet is read as the page end whose text it has
abbrev pub PageEndsHaveTexts : Type 0
PageEndsHaveTexts = (octet : ℕ) (ends : PageEnd) → octet < 256 → (page_end_of octet ≡ Some ends)
    ↔ (has_text (page_end_text ends) octet ≡ true)

-- law: bits 11 to 14 of a DCS are read as the speed whose text they are
abbrev pub SpeedsHaveTexts : Type 0
SpeedsHaveTexts = (a b c d : Bool) (speed : Speed) → (speed_of a b c d ≡ Some speed) ↔ (a ∷ b ∷ c ∷ d ∷ [] ≡ digits (speed_text speed))

-- law: bits 11 to 14 of a DIS are read as the modems whose text they are, and as the fallback if they are the text of no others
abbrev pub ModemsHaveTexts : Type 0
ModemsHaveTexts = (a b c d : Bool) (modems : Modems) → modems ≢ Fallback → (modems_of a b c d ≡ modems)
    ↔ (a ∷ b ∷ c ∷ d ∷ [] ≡ digits (modems_text modems))

-- law: bits 17 and 18 of a DCS are read as the width whose text they are
abbrev pub WidthsHaveTexts : Type 0
WidthsHaveTexts = (a b : Bool) (width : PageWidth) → (width_of a b ≡ Some width) ↔ (a ∷ b ∷ [] ≡ digits (width_text width))
