-- What signals say, in words, as the command that lists frames shows them where it explains.
use Rattle.std.specs.Prelude.{ℕ, ◌+◌, ◌-◌, ◌*◌, ◌++◌, ◌∷◌, ◌&&◌, ◌||◌, [], Bool, true, false, not, List, Result, Ok, Err, codes}
use Rattle.std.specs.Prelude.{cond}
use Rattle.std.specs.Prelude.{drop, length, nat_eq, nat_lt}
use Rattle.std.specs.Fmt.{decimal}
use Rattle.captures.specs.Below.{some_below, texts_below}
use Rattle.captures.specs.OtherWords.{other_words}
use Rattle.page_code.specs.declared.Coding.{Coding}
use Rattle.page_code.specs.declared.Coding.TheVariants.{OneDim, T6}
use Rattle.raster.specs.Packed.{bit_in}
use Rattle.raster.specs.declared.packed.Order.TheVariants.{LsbFirst}
use Rattle.signals.specs.Agreement.{pixels_of}
use Rattle.signals.specs.Reading.{read_content}
use Rattle.signals.specs.Signals.{PlainSignal, dis, dcs, cfr, ftt, fcd, rcp, pps, ppr, mcf, rnr, rr, dcn, other}
use Rattle.signals.specs.declared.params.Caps.{Caps}
use Rattle.signals.specs.declared.params.Modems.{Modems}
use Rattle.signals.specs.declared.params.Modems.TheVariants.{Fallback, V27, V29, V27V29, V17}
use Rattle.signals.specs.declared.params.Params.{Params}
use Rattle.signals.specs.declared.params.Speed.{Speed}
use Rattle.signals.specs.declared.params.Speed.TheVariants.{V27At2400, V27At4800, V29At7200, V29At9600, V17At7200, V17At9600}
use Rattle.signals.specs.declared.params.Speed.TheVariants.{V17At12000, V17At14400}
use Rattle.signals.specs.declared.signal.PageEnd.{PageEnd}
use Rattle.signals.specs.declared.signal.PageEnd.TheVariants.{Null, Mps, Eom, Eop}
use Rattle.signals.specs.declared.fault.SignalFault.{SignalFault}

-- ---- DIS and DCS

-- the modems of bits 11 to 14 of a DIS
abbrev pub modems_words : Modems → List ℕ
modems_words Fallback = codes "V.27 ter at 2400 bit/s"
modems_words V27 = codes "V.27 ter"
modems_words V29 = codes "V.29"
modems_words V27V29 = codes "V.27 ter, V.29"
modems_words V17 = codes "V.27 ter, V.29, V.17"

-- the modulation and the speed of bits 11 to 14 of a DCS
abbrev pub speed_words : Speed → List ℕ
speed_words V27At2400 = codes "V.27 ter at 2400 bit/s"
speed_words V27At4800 = codes "V.27 ter at 4800 bit/s"
speed_words V29At7200 = codes "V.29 at 7200 bit/s"
speed_words V29At9600 = codes "V.29 at 9600 bit/s"
speed_words V17At7200 = codes "V.17 at 7200 bit/s"
speed_words V17At9600 = codes "V.17 at 9600 bit/s"
speed_words V17At12000 = codes "V.17 at 12000 bit/s"
speed_words V17At14400 = codes "V.17 at 14400 bit/s"

-- bit 15: 7.7 lines a millimetre or 3.85
abbrev pub lines_words : Bool → List ℕ
lines_words fine = cond fine (codes "fine lines") (codes "standard lines")

-- bit 31: T.6, or the one-dimensional code of T.4 alone
abbrev pub code_words : Bool → List ℕ
code_words t6 = cond t6 (codes "T.6") (codes "T.4 one-dimensional")

-- the words for a page's code
abbrev pub coding_words : Coding → List ℕ
coding_words OneDim = code_words false
coding_words T6 = code_words true

-- bit 10: a receiver, or a station that only sends
abbrev pub receiver_words : Bool → List ℕ
receiver_words receiver = cond receiver (codes "receives") (codes "doesn't receive")

-- bit 27: error correction or not
abbrev pub correction_words : Bool → List ℕ
correction_words ecm = cond ecm (codes "error correction") (codes "no error correction")

-- what a DIS says: bit 10 a receiver, bits 11 to 14, 15, 17 and 18, 31, and 27
abbrev pub dis_words : Caps → List ℕ
dis_words caps = codes "    " ++ (receiver_words caps.receiver ++ (codes "; "
    ++ (modems_words caps.modems ++ (codes "; " ++ (lines_words caps.fine ++ (codes "; up to "
    ++ (decimal (pixels_of caps.widest) ++ (codes " pixels; "
    ++ (code_words caps.t6 ++ (codes "; " ++ correction_words caps.ecm))))))))))

-- what a DCS says: bits 11 to 14, 15, 17 and 18, 31, and 28
abbrev pub dcs_words : Params → List ℕ
dcs_words params = codes "    " ++ (speed_words params.speed ++ (codes "; " ++ (lines_words params.fine ++ (codes "; "
    ++ (decimal (pixels_of params.width) ++ (codes " pixels; " ++ (coding_words params.coding ++ (codes "; frames of "
    ++ (cond params.small (codes "64") (codes "256") ++ codes " octets")))))))))

-- a bit of the information field that is read of a DIS, by its number from 1: 10 to 15, 17 and 18, 24, 27 and 31
abbrev pub is_read_of_dis : ℕ → Bool
is_read_of_dis number = (nat_lt 9 number && nat_lt number 16) || (nat_eq number 17 || (nat_eq number 18 || (nat_eq number 24
    || (nat_eq number 27 || nat_eq number 31))))

-- and of a DCS: 11 to 18, 24, 27 and 28, and 31
abbrev pub is_read_of_dcs : ℕ → Bool
is_read_of_dcs number = (nat_lt 10 number && nat_lt number 19) || (nat_eq number 24 || (nat_eq number 27 || (nat_eq number 28
    || nat_eq number 31)))

-- a bit of the information field is 1 and isn't read, of a DCS or of a DIS; the bit at a place has one more as its number
abbrev pub is_other : Bool → List ℕ → ℕ → Bool
is_other of_dcs fields at =
    bit_in LsbFirst fields at && not (cond of_dcs (is_read_of_dcs (at + 1)) (is_read_of_dis (at + 1)))

-- what such a bit adds to their list, after some of them or as the first
abbrev pub other_after : Bool → Bool → List ℕ → ℕ → List ℕ
other_after some of_dcs fields at =
    cond (is_other of_dcs fields at) (cond some (codes ", ") (codes "; other bits ") ++ decimal (at + 1)) []

-- what the bit at a place adds to the list, by the bits before it
abbrev pub other_text : Bool → List ℕ → ℕ → List ℕ
other_text of_dcs fields at = other_after (some_below (is_other of_dcs fields) at) of_dcs fields at

-- the bits that are 1 and not read, by their numbers
abbrev pub others_text : Bool → List ℕ → List ℕ
others_text of_dcs fields = texts_below (other_text of_dcs fields) (8 * length fields)

-- ---- PPS and PPR

-- what ends with the block of a PPS
abbrev pub page_end_words : PageEnd → List ℕ
page_end_words Null = codes "the page goes on"
page_end_words Mps = codes "the page ends, and another one follows"
page_end_words Eom = codes "the page ends, and another one follows after a new DIS"
page_end_words Eop = codes "the last page ends"

-- what a PPS says, with its page, block and last frame from 0
abbrev pub pps_words : PageEnd → ℕ → ℕ → ℕ → List ℕ
pps_words ends page block last = codes "    page " ++ (decimal page ++ (codes ", block " ++ (decimal block ++ (codes "; frames 0 to "
    ++ (decimal last ++ (codes "; " ++ (page_end_words ends ++ 10 ∷ [])))))))

-- a frame is marked in the map of a PPR
abbrev pub is_in_map : List ℕ → ℕ → Bool
is_in_map map number = nat_lt number 256 && bit_in LsbFirst map number

-- what a frame adds to the list of those that are marked, after some of them or as the first: the first of a range its number, and the
-- last of one of several `to` and its number
abbrev pub frame_after : Bool → List ℕ → ℕ → List ℕ
frame_after some map number = cond (is_in_map map number)
    (cond (nat_lt 0 number && is_in_map map (number - 1))
    (cond (is_in_map map (number + 1)) [] (codes " to " ++ decimal number))
    (cond some (codes ", ") (codes " ") ++ decimal number)) []

-- what a frame adds to the list, by the frames before it
abbrev pub frame_text : List ℕ → ℕ → List ℕ
frame_text map number = frame_after (some_below (is_in_map map) number) map number

-- what a PPR says: the frames that it marks, which are to be sent again
abbrev pub ppr_words : List ℕ → List ℕ
ppr_words map = codes "    again: frames" ++ (texts_below (frame_text map) 256 ++ 10 ∷ [])

-- ---- a content

-- the line of words of a signal that was read, and of its information field, as in `content_words`
abbrev pub words_of : List ℕ → PlainSignal → List ℕ
words_of fields (dis caps) = dis_words caps ++ (others_text false fields ++ 10 ∷ [])
words_of fields (dcs params) = dcs_words params ++ (others_text true fields ++ 10 ∷ [])
words_of fields (pps ends page block last) = pps_words ends page block last
words_of fields (ppr map) = ppr_words map
words_of fields cfr = []
words_of fields ftt = []
words_of fields (fcd number octets) = []
words_of fields rcp = []
words_of fields mcf = []
words_of fields rnr = []
words_of fields rr = []
words_of fields dcn = []
words_of fields (other octet) = other_words octet fields

-- the line of words of a signal that was read; none of a content that is refused
abbrev pub words_read : List ℕ → Result PlainSignal SignalFault → List ℕ
words_read fields (Ok signal) = words_of fields signal
words_read fields (Err fault) = []

-- The line of words of a content: what a DIS, DCS, PPS or PPR says, by the bit numbers of T.30, table 2. A DIS or DCS also lists the
-- numbers of its other bits that are 1; a PPR has its frames as ranges; a frame that is no signal of these stations has its name. Other
-- signals have none. The information field follows the address, the control and the facsimile control field.
abbrev pub content_words : List ℕ → List ℕ
content_words content = words_read (drop 3 content) (read_content content)
