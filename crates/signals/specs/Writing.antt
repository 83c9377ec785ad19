-- The content of the frame that says a signal.
use Rattle.std.specs.Prelude.{ℕ, ◌≡◌, ◌≤◌, ◌+◌, Bool, cond, List, [], ◌∷◌, ◌++◌, Ok, length}
use Rattle.raster.specs.declared.coding.Coding.{Coding}
use Rattle.raster.specs.declared.coding.Coding.TheVariants.{OneDim, T6}
use Rattle.signals.specs.Controls.{octet_of}
use Rattle.signals.specs.Reading.{read_content}
use Rattle.signals.specs.Signals.{PlainSignal, dis, dcs, cfr, ftt, fcd, rcp, pps, ppr, mcf, rnr, rr, dcn, other}
use Rattle.signals.specs.declared.control.Control.TheVariants.{Dis, Dcs, Cfr, Ftt, Fcd, Rcp, Pps, Ppr, Mcf, Rnr, Rr, Dcn}
use Rattle.signals.specs.declared.params.Caps.{Caps}
use Rattle.signals.specs.declared.params.Modems.{Modems}
use Rattle.signals.specs.declared.params.Modems.TheVariants.{Fallback, V27, V29, V27V29, V17}
use Rattle.signals.specs.declared.params.PageWidth.{PageWidth}
use Rattle.signals.specs.declared.params.PageWidth.TheVariants.{W1728, W2048, W2432}
use Rattle.signals.specs.declared.params.Params.{Params}
use Rattle.signals.specs.declared.params.Speed.{Speed}
use Rattle.signals.specs.declared.params.Speed.TheVariants.{V27At2400, V27At4800, V29At7200, V29At9600, V17At7200, V17At9600, V17At12000}
use Rattle.signals.specs.declared.params.Speed.TheVariants.{V17At14400}
use Rattle.signals.specs.declared.signal.PageEnd.{PageEnd}
use Rattle.signals.specs.declared.signal.PageEnd.TheVariants.{Null, Mps, Eom, Eop}
use Rattle.signals.specs.declared.signal.Side.{Side}

-- a bit in its place
abbrev pub written_or : Bool → ℕ → ℕ
written_or bit value = cond bit value 0

-- bits 11 to 14 of a DIS, in their places
abbrev pub modems_octet : Modems → ℕ
modems_octet Fallback = 0x00
modems_octet V27 = 0x08
modems_octet V29 = 0x04
modems_octet V27V29 = 0x0C
modems_octet V17 = 0x2C

-- bits 11 to 14 of a DCS, in their places
abbrev pub speed_octet : Speed → ℕ
speed_octet V27At2400 = 0x00
speed_octet V27At4800 = 0x08
speed_octet V29At7200 = 0x0C
speed_octet V29At9600 = 0x04
speed_octet V17At7200 = 0x2C
speed_octet V17At9600 = 0x24
speed_octet V17At12000 = 0x28
speed_octet V17At14400 = 0x20

-- bits 17 to 24: a width, and 011111 as each DIS and DCS has there
abbrev pub width_octet : PageWidth → ℕ
width_octet W1728 = 0xF8
width_octet W2048 = 0xF9
width_octet W2432 = 0xFA

-- bit 31 of a DCS in its place: 1 for the code of T.6
abbrev pub coding_octet : Coding → ℕ
coding_octet OneDim = 0
coding_octet T6 = 0x40

-- the second field of PPS
abbrev pub page_end_octet : PageEnd → ℕ
page_end_octet Null = 0x00
page_end_octet Mps = 0x4F
page_end_octet Eom = 0x8F
page_end_octet Eop = 0x2F

-- the information field of a DIS
unfoldable pub dis_fields : Caps → List ℕ
dis_fields caps =
    0 ∷ (written_or caps.receiver 0x02 + modems_octet caps.modems + written_or caps.fine 0x40) ∷ width_octet caps.widest ∷
    (written_or caps.ecm 0x04 + written_or caps.t6 0x40) ∷ []

-- the information field of a DCS
unfoldable pub dcs_fields : Params → List ℕ
dcs_fields params =
    0 ∷ (0x02 + speed_octet params.speed + written_or params.fine 0x40) ∷ width_octet params.width ∷
    (0x04 + written_or params.small 0x08 + coding_octet params.coding) ∷ []

-- the octet of a signal's facsimile control field, of the station that sends
abbrev pub control_octet : PlainSignal → Side → ℕ
control_octet (dis _) side = octet_of Dis side
control_octet (dcs _) side = octet_of Dcs side
control_octet cfr side = octet_of Cfr side
control_octet ftt side = octet_of Ftt side
control_octet (fcd _ _) side = octet_of Fcd side
control_octet rcp side = octet_of Rcp side
control_octet (pps _ _ _ _) side = octet_of Pps side
control_octet (ppr _) side = octet_of Ppr side
control_octet mcf side = octet_of Mcf side
control_octet rnr side = octet_of Rnr side
control_octet rr side = octet_of Rr side
control_octet dcn side = octet_of Dcn side
control_octet (other octet) side = octet

-- the information field of a signal: the octets after its facsimile control field
abbrev pub fields_of : PlainSignal → List ℕ
fields_of (dis caps) = dis_fields caps
fields_of (dcs params) = dcs_fields params
fields_of (fcd number octets) = number ∷ octets
fields_of (pps ends page block last) = page_end_octet ends ∷ page ∷ block ∷ last ∷ []
fields_of (ppr map) = map
fields_of _ = []

-- address, control field and facsimile control field
abbrev pub head_of : Bool → ℕ → List ℕ
head_of last control = 0xFF ∷ cond last 0x13 0x03 ∷ control ∷ []

-- the content of a signal's frame, with the first bit X of the station that sends it, in the last frame of a transmission or not
unfoldable pub content_of : PlainSignal → Side → Bool → List ℕ
content_of signal side last = head_of last (control_octet signal side) ++ fields_of signal

-- a signal that can be written: all but `other`, an FCD with 1 to 256 octets of data, a PPR with 32 octets
abbrev pub IsWritable : PlainSignal → Type 0
IsWritable (fcd _ octets) = (1 ≤ length octets) × (length octets ≤ 256)
IsWritable (ppr map) = length map ≡ 32
IsWritable (other _) = ⊥
IsWritable _ = Unit {0}

-- a content has 3 to 300 octets, which is what a frame can carry
abbrev pub FitsAFrame : List ℕ → Type 0
FitsAFrame content = (3 ≤ length content) × (length content ≤ 300)

-- law: what is written of a signal, by either station, has 3 to 300 octets
abbrev pub WrittenFitsAFrame : Type 0
WrittenFitsAFrame = (signal : PlainSignal) (side : Side) (last : Bool) → IsWritable signal → FitsAFrame (content_of signal side last)

-- law: what is written of a signal, by either station, is read as the signal
abbrev pub ReadsWhatIsWritten : Type 0
ReadsWhatIsWritten = (signal : PlainSignal) (side : Side) (last : Bool) → IsWritable signal → read_content (content_of signal side last)
    ≡ Ok signal
