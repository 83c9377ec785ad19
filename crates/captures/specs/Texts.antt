-- The texts of signals and contents, as the command that lists frames shows them.
use Rattle.std.specs.Prelude.{ℕ, ◌+◌, ◌++◌, ◌∷◌, [], Bool, List, Result, Ok, Err, codes, cond, length}
use Rattle.std.specs.Fmt.{decimal}
use Rattle.std.specs.List.{fold, join_with_byte}
use Rattle.hex.specs.Hex.{encode_lower}
use Rattle.page_code.specs.declared.Coding.{Coding}
use Rattle.page_code.specs.declared.Coding.TheVariants.{OneDim, T6}
use Rattle.raster.specs.Packed.{bits_of}
use Rattle.raster.specs.declared.packed.Order.TheVariants.{LsbFirst}
use Rattle.signals.specs.Agreement.{pixels_of}
use Rattle.signals.specs.Faults.{number_of}
use Rattle.signals.specs.Reading.{read_content}
use Rattle.signals.specs.Signals.{PlainSignal, dis, dcs, cfr, ftt, fcd, rcp, pps, ppr, mcf, rnr, rr, dcn, other}
use Rattle.signals.specs.declared.params.Caps.{Caps}
use Rattle.signals.specs.declared.params.Modems.{Modems}
use Rattle.signals.specs.declared.params.Modems.TheVariants.{Fallback, V27, V29, V27V29, V17}
use Rattle.signals.specs.declared.params.Params.{Params}
use Rattle.signals.specs.declared.params.Speed.{Speed}
use Rattle.signals.specs.declared.params.Speed.TheVariants.{V27At2400, V27At4800, V29At7200, V29At9600, V17At7200, V17At9600}
use Rattle.signals.specs.declared.params.Speed.TheVariants.{V17At12000, V17At14400}
use Rattle.signals.specs.declared.signal.PageEnd.{PageEnd}
use Rattle.signals.specs.declared.signal.PageEnd.TheVariants.{Null, Mps, Eom, Eop}
use Rattle.signals.specs.declared.fault.SignalFault.{SignalFault}
use Rattle.captures.specs.OtherWords.{other_name}
use Rattle.faults.specs.Faults.{fault_text}
use Rattle.faults.specs.declared.fault.ToolFault.TheVariants.{No}

-- the words, with a space between each two
abbrev pub spaced : List (List ℕ) → List ℕ
spaced words = join_with_byte 32 words

-- 7.7 lines a millimetre or 3.85
abbrev pub lines_text : Bool → List ℕ
lines_text fine = cond fine (codes "fine") (codes "standard")

-- the modems of a station, as a word
abbrev pub modems_text : Modems → List ℕ
modems_text Fallback = codes "fallback"
modems_text V27 = codes "v27"
modems_text V29 = codes "v29"
modems_text V27V29 = codes "v27v29"
modems_text V17 = codes "v17"

-- a modulation and its bits a second
abbrev pub speed_text : Speed → List ℕ
speed_text V27At2400 = codes "v27-2400"
speed_text V27At4800 = codes "v27-4800"
speed_text V29At7200 = codes "v29-7200"
speed_text V29At9600 = codes "v29-9600"
speed_text V17At7200 = codes "v17-7200"
speed_text V17At9600 = codes "v17-9600"
speed_text V17At12000 = codes "v17-12000"
speed_text V17At14400 = codes "v17-14400"

-- the code of the pages, as a word
abbrev pub coding_text : Coding → List ℕ
coding_text OneDim = codes "mh"
coding_text T6 = codes "t6"

-- the name of what ends with a block
abbrev pub page_end_text : PageEnd → List ℕ
page_end_text Null = codes "NULL"
page_end_text Mps = codes "MPS"
page_end_text Eom = codes "EOM"
page_end_text Eop = codes "EOP"

-- what a station can do, as words
abbrev pub caps_text : Caps → List ℕ
caps_text caps = spaced (cond caps.receiver (codes "receiver") (codes "noreceiver") ∷ modems_text caps.modems
    ∷ lines_text caps.fine ∷ decimal (pixels_of caps.widest) ∷ cond caps.t6 (codes "t6") (codes "mh")
    ∷ cond caps.ecm (codes "ecm") (codes "noecm") ∷ [])

-- how pages are sent, as words
abbrev pub params_text : Params → List ℕ
params_text params = spaced (speed_text params.speed ∷ lines_text params.fine ∷ decimal (pixels_of params.width)
    ∷ coding_text params.coding ∷ cond params.small (codes "64") (codes "256") ∷ [])

-- one more if the bit is 1
abbrev pub and_bit : ℕ → Bool → ℕ
and_bit count bit = count + cond bit 1 0

-- how many frames are marked in a map, each by one bit
abbrev pub marked_frames : List ℕ → ℕ
marked_frames map = fold and_bit 0 (bits_of LsbFirst map)

-- A signal's name and what it says, words with a space between each two. An FCD: its number and how many octets of data it has. A PPR: how
-- many frames it asks for. A signal that isn't read: its facsimile control field in hex.
abbrev pub signal_text : PlainSignal → List ℕ
signal_text (dis caps) = spaced (codes "DIS" ∷ caps_text caps ∷ [])
signal_text (dcs params) = spaced (codes "DCS" ∷ params_text params ∷ [])
signal_text cfr = codes "CFR"
signal_text ftt = codes "FTT"
signal_text (fcd number octets) = spaced (codes "FCD" ∷ decimal number ∷ decimal (length octets) ∷ [])
signal_text rcp = codes "RCP"
signal_text (pps ends page block last) = spaced (codes "PPS" ∷ page_end_text ends ∷ codes "page" ∷ decimal page
    ∷ codes "block" ∷ decimal block ∷ codes "last" ∷ decimal last ∷ [])
signal_text (ppr map) = spaced (codes "PPR" ∷ decimal (marked_frames map) ∷ [])
signal_text mcf = codes "MCF"
signal_text rnr = codes "RNR"
signal_text rr = codes "RR"
signal_text dcn = codes "DCN"
signal_text (other octet) = spaced (codes "other" ∷ encode_lower (octet ∷ []) ∷ [])

-- what was read of a content
abbrev pub read_text : Result PlainSignal SignalFault → List ℕ
read_text (Ok signal) = signal_text signal
read_text (Err fault) = fault_text (No (number_of fault))

-- what a content says; if it is no signal, `fault` and the number of its fault
abbrev pub content_text : List ℕ → List ℕ
content_text content = read_text (read_content content)

-- the name of a frame that is no signal of these stations; none if it has none, and of their signals
abbrev pub name_of : PlainSignal → List ℕ
name_of (dis caps) = []
name_of (dcs params) = []
name_of cfr = []
name_of ftt = []
name_of (fcd number octets) = []
name_of rcp = []
name_of (pps ends page block last) = []
name_of (ppr map) = []
name_of mcf = []
name_of rnr = []
name_of rr = []
name_of dcn = []
name_of (other octet) = other_name octet

-- a text, and a name after it, if there is one
abbrev pub with_name : List ℕ → List ℕ → List ℕ
with_name text [] = text
with_name text name = text ++ (codes " " ++ name)

-- what was read of a content, with its name
abbrev pub read_named : Result PlainSignal SignalFault → List ℕ
read_named (Ok signal) = with_name (signal_text signal) (name_of signal)
read_named (Err fault) = fault_text (No (number_of fault))

-- what a content says, and the name of one that is no signal of these stations
abbrev pub named_text : List ℕ → List ℕ
named_text content = read_named (read_content content)
