-- What the content of a frame says.
use Rattle.std.specs.Prelude.{ℕ, ◌+◌, ◌-◌, ◌/◌, ◌%◌, Bool, true, false, not, cond, ◌&&◌, ◌||◌, List, Option, Some, None, Result, Ok, Err}
use Rattle.std.specs.Prelude.{nat_eq, nat_lt, length, drop, take, slice_index}
use Rattle.std.specs.Int.{bit_at}
use Rattle.raster.specs.declared.coding.Coding.TheVariants.{OneDim, T6}
use Rattle.signals.specs.Controls.{control_of}
use Rattle.signals.specs.Signals.{PlainSignal, dis, dcs, cfr, ftt, fcd, rcp, pps, ppr, mcf, rnr, rr, dcn, other}
use Rattle.signals.specs.declared.fault.SignalFault.{SignalFault}
use Rattle.signals.specs.declared.fault.SignalFault.TheVariants.{BadAddress, BadControl, ShortField}
use Rattle.signals.specs.declared.params.Caps.{Caps}
use Rattle.signals.specs.declared.params.Modems.{Modems}
use Rattle.signals.specs.declared.params.Modems.TheVariants.{Fallback, V27, V29, V27V29, V17}
use Rattle.signals.specs.declared.params.PageWidth.{PageWidth}
use Rattle.signals.specs.declared.params.PageWidth.TheVariants.{W1728, W2048, W2432}
use Rattle.signals.specs.declared.params.Params.{Params}
use Rattle.signals.specs.declared.params.Speed.{Speed}
use Rattle.signals.specs.declared.params.Speed.TheVariants.{V27At2400, V27At4800, V29At7200, V29At9600, V17At7200, V17At9600, V17At12000}
use Rattle.signals.specs.declared.params.Speed.TheVariants.{V17At14400}
use Rattle.signals.specs.declared.control.Control.{Control}
use Rattle.signals.specs.declared.control.Control.TheVariants.{Dis, Dcs, Cfr, Ftt, Fcd, Rcp, Pps, Ppr, Mcf, Rnr, Rr, Dcn}
use Rattle.signals.specs.declared.signal.PageEnd.{PageEnd}
use Rattle.signals.specs.declared.signal.PageEnd.TheVariants.{Null, Mps, Eom, Eop}

-- an octet is an even one or the odd one above it: its first bit, X, is free
abbrev pub with_x : ℕ → ℕ → Bool
with_x even octet = nat_eq octet even || nat_eq octet (even + 1)

-- a bit of the information field, numbered from 1 in order of sending after the facsimile control field, the least significant bit of an
-- octet first; 0 past the last octet
abbrev pub field_bit : List ℕ → ℕ → Bool
field_bit fields number = nat_eq (bit_at (slice_index fields ((number - 1) / 8)) ((number - 1) % 8)) 1

-- a bit of the fourth octet, which is read only if bit 24 is 1
abbrev pub late_bit : List ℕ → ℕ → Bool
late_bit fields number = field_bit fields 24 && field_bit fields number

-- the modems of bits 11 to 14 of a DIS
abbrev pub modems_of : Bool → Bool → Bool → Bool → Modems
modems_of false true false false = V27
modems_of true false false false = V29
modems_of true true false false = V27V29
modems_of true true false true = V17
modems_of _ _ _ _ = Fallback

-- the speed of bits 11 to 14 of a DCS; none for other bits
abbrev pub speed_of : Bool → Bool → Bool → Bool → Option Speed
speed_of false false false false = Some V27At2400
speed_of false true false false = Some V27At4800
speed_of true true false false = Some V29At7200
speed_of true false false false = Some V29At9600
speed_of true true false true = Some V17At7200
speed_of true false false true = Some V17At9600
speed_of false true false true = Some V17At12000
speed_of false false false true = Some V17At14400
speed_of _ _ _ _ = None

-- the widest page of bits 17 and 18 of a DIS
abbrev pub widest_of : Bool → Bool → PageWidth
widest_of false false = W1728
widest_of true false = W2048
widest_of _ true = W2432

-- the width of bits 17 and 18 of a DCS; none for other bits
abbrev pub width_of : Bool → Bool → Option PageWidth
width_of false false = Some W1728
width_of true false = Some W2048
width_of false true = Some W2432
width_of true true = None

-- what ends with the block of a PPS, by its second field; the first bit of MPS, EOM and EOP is free
unfoldable pub page_end_of : ℕ → Option PageEnd
page_end_of octet =
    cond (nat_eq octet 0x00) (Some Null)
    (cond (with_x 0x4E octet) (Some Mps)
    (cond (with_x 0x8E octet) (Some Eom)
    (cond (with_x 0x2E octet) (Some Eop) None)))

-- the capabilities that a DIS offers
unfoldable pub caps_of : List ℕ → Caps
caps_of fields = record {
  receiver = field_bit fields 10;
  modems = modems_of (field_bit fields 11) (field_bit fields 12) (field_bit fields 13) (field_bit fields 14);
  fine = field_bit fields 15;
  widest = widest_of (field_bit fields 17) (field_bit fields 18);
  t6 = late_bit fields 31;
  ecm = late_bit fields 27;
}

-- the parameters of a DCS, if its speed and width are known
abbrev pub params_at : Option Speed → Option PageWidth → List ℕ → Option Params
params_at (Some speed) (Some width) fields = Some (record {
  speed = speed;
  fine = field_bit fields 15;
  width = width;
  coding = cond (late_bit fields 31) T6 OneDim;
  small = late_bit fields 28;
})
params_at (Some _) None fields = None
params_at None _ fields = None

-- the parameters that a DCS says; None without error correction, with two-dimensional T.4 (bit 16 without T.6), and without a known speed
-- or width
unfoldable pub params_of : List ℕ → Option Params
params_of fields =
    cond (late_bit fields 27 && not (field_bit fields 16 && not (late_bit fields 31)))
    (params_at (speed_of (field_bit fields 11) (field_bit fields 12) (field_bit fields 13) (field_bit fields 14))
    (width_of (field_bit fields 17) (field_bit fields 18)) fields)
    None

-- a DCS with its parameters; `other` if they are outside what is known
abbrev pub dcs_or_other : ℕ → Option Params → PlainSignal
dcs_or_other octet (Some params) = dcs params
dcs_or_other octet None = other octet

-- a PPS with its page end and the fields after it; `other` if its second field is unknown
abbrev pub pps_or_other : ℕ → Option PageEnd → List ℕ → PlainSignal
pps_or_other octet (Some ends) fields = pps ends (slice_index fields 1) (slice_index fields 2) (slice_index fields 3)
pps_or_other octet None fields = other octet

-- a signal whose information field has at least `count` octets
abbrev pub with_octets : ℕ → List ℕ → PlainSignal → Result PlainSignal SignalFault
with_octets count fields signal = cond (nat_lt (length fields) count) (Err ShortField) (Ok signal)

-- a DIS by its information field
abbrev pub read_dis : List ℕ → Result PlainSignal SignalFault
read_dis fields = with_octets 3 fields (dis (caps_of fields))

-- a DCS by its information field
abbrev pub read_dcs : ℕ → List ℕ → Result PlainSignal SignalFault
read_dcs octet fields = with_octets 3 fields (dcs_or_other octet (params_of fields))

-- an FCD by its information field
abbrev pub read_fcd : List ℕ → Result PlainSignal SignalFault
read_fcd fields = with_octets 2 fields (fcd (slice_index fields 0) (drop 1 fields))

-- a PPS by its information field
abbrev pub read_pps : ℕ → List ℕ → Result PlainSignal SignalFault
read_pps octet fields = with_octets 4 fields (pps_or_other octet (page_end_of (slice_index fields 0)) fields)

-- a PPR by its information field
abbrev pub read_ppr : List ℕ → Result PlainSignal SignalFault
read_ppr fields = with_octets 32 fields (ppr (take 32 fields))

-- the signal of a control field and the information field after it
abbrev pub read_known : Option Control → ℕ → List ℕ → Result PlainSignal SignalFault
read_known None octet fields = Ok (other octet)
read_known (Some Dis) octet fields = read_dis fields
read_known (Some Dcs) octet fields = read_dcs octet fields
read_known (Some Cfr) octet fields = Ok cfr
read_known (Some Ftt) octet fields = Ok ftt
read_known (Some Fcd) octet fields = read_fcd fields
read_known (Some Rcp) octet fields = Ok rcp
read_known (Some Pps) octet fields = read_pps octet fields
read_known (Some Ppr) octet fields = read_ppr fields
read_known (Some Mcf) octet fields = Ok mcf
read_known (Some Rnr) octet fields = Ok rnr
read_known (Some Rr) octet fields = Ok rr
read_known (Some Dcn) octet fields = Ok dcn

-- the signal of an octet, as a facsimile control field, and the information field after it
unfoldable pub read_fields : ℕ → List ℕ → Result PlainSignal SignalFault
read_fields octet fields = read_known (control_of octet) octet fields

-- the signal of a content, or the first of its faults from the front on: cut short, a wrong address, a wrong control field
unfoldable pub read_content : List ℕ → Result PlainSignal SignalFault
read_content content =
    cond (nat_lt (length content) 1) (Err ShortField)
    (cond (not (nat_eq (slice_index content 0) 0xFF)) (Err BadAddress)
    (cond (nat_lt (length content) 2) (Err ShortField)
    (cond (not (nat_eq (slice_index content 1) 0x03 || nat_eq (slice_index content 1) 0x13)) (Err BadControl)
    (cond (nat_lt (length content) 3) (Err ShortField)
    (read_fields (slice_index content 2) (drop 3 content))))))
