-- The numbers by which C knows what signals say.
use Rattle.std.specs.Prelude.{ℕ, Bool, cond, if◌then◌else◌, nat_eq, nat_lt}
use Rattle.std.specs.declared.option.Option.{Option}
use Rattle.std.specs.declared.option.Option.TheVariants.{None, Some}
use Rattle.raster.specs.declared.coding.Coding.{Coding}
use Rattle.raster.specs.declared.coding.Coding.TheVariants.{OneDim, T6}
use Rattle.signals.specs.Training.{bits_a_second}
use Rattle.signals.specs.declared.params.Modems.{Modems}
use Rattle.signals.specs.declared.params.Modems.TheVariants.{Fallback, V27, V29, V27V29, V17}
use Rattle.signals.specs.declared.params.Speed.{Speed}
use Rattle.signals.specs.declared.params.Speed.TheVariants.{V27At2400, V27At4800, V29At7200, V29At9600, V17At7200, V17At9600, V17At12000}
use Rattle.signals.specs.declared.params.Speed.TheVariants.{V17At14400}
use Rattle.signals.specs.declared.reason.Reason.{Reason}
use Rattle.signals.specs.declared.reason.Reason.TheVariants.{NoReceiver, NoErrorCorrection, TooWide, NoFineLines, NoCommonSpeed}
use Rattle.signals.specs.declared.signal.PageEnd.{PageEnd}
use Rattle.signals.specs.declared.signal.PageEnd.TheVariants.{Null, Mps, Eom, Eop}
use Rattle.signals.specs.declared.signal.Side.{Side}
use Rattle.signals.specs.declared.signal.Side.TheVariants.{Caller, Answerer}
use Rattle.g3fax.specs.Beginning.{modems_of}
use Rattle.g3fax.specs.declared.signal.Kind.{Kind}
use Rattle.g3fax.specs.declared.signal.Kind.TheVariants.{Dis, Dcs, Cfr, Ftt, Fcd, Rcp, Pps, Ppr, Mcf, Rnr, Rr, Dcn}

-- a choice if a number is this one, and otherwise another choice
abbrev pub at_number : {A : Type 0} → ℕ → ℕ → A → Option A → Option A
at_number wanted number choice others = if nat_eq number wanted then Some choice else others

-- the kinds of signals that can be written
abbrev pub kind_of : ℕ → Option Kind
kind_of n =
    at_number 1 n Dis (at_number 2 n Dcs (at_number 3 n Cfr (at_number 4 n Ftt (at_number 5 n Fcd (at_number 6 n Rcp
    (at_number 7 n Pps (at_number 8 n Ppr (at_number 9 n Mcf (at_number 10 n Rnr (at_number 11 n Rr (at_number 12 n Dcn None)))))))))))

-- the modems of a DIS: those of `modems_of`, V.29 alone, and V.27 ter at 2400 bits a second alone
abbrev pub modems_number : Modems → ℕ
modems_number V27 = 1
modems_number V27V29 = 2
modems_number V17 = 3
modems_number V29 = 4
modems_number Fallback = 5

-- the modems of a DIS by their number
abbrev pub modems_of_number : ℕ → Option Modems
modems_of_number n = at_number 4 n V29 (at_number 5 n Fallback (modems_of n))

-- the number of each code: 1 is T.4 in one dimension, 2 is T.6
abbrev pub coding_number : Coding → ℕ
coding_number OneDim = 1
coding_number T6 = 2

-- the octets of data in a frame
abbrev pub frame_number : Bool → ℕ
frame_number small = cond small 64 256

-- the speeds of the carriers
abbrev pub speed_of_number : ℕ → Option Speed
speed_of_number n =
    at_number 2 n V27At2400 (at_number 3 n V27At4800 (at_number 4 n V29At7200 (at_number 5 n V29At9600 (at_number 6 n V17At7200
    (at_number 7 n V17At9600 (at_number 8 n V17At12000 (at_number 9 n V17At14400 None)))))))

-- the bits a second of a speed; 0 for none
abbrev pub rate_of_speed : Option Speed → ℕ
rate_of_speed None = 0
rate_of_speed (Some speed) = bits_a_second speed

-- the bits a second of a carrier: of V.21, or of a speed
abbrev pub rate_of : ℕ → ℕ
rate_of carrier = cond (nat_eq carrier 1) 300 (rate_of_speed (speed_of_number carrier))

-- the number of each end of a block: NULL, MPS, EOM, EOP
abbrev pub page_end_number : PageEnd → ℕ
page_end_number Null = 1
page_end_number Mps = 2
page_end_number Eom = 3
page_end_number Eop = 4

-- the end of a block by its number
abbrev pub end_of_number : ℕ → Option PageEnd
end_of_number n = at_number 1 n Null (at_number 2 n Mps (at_number 3 n Eom (at_number 4 n Eop None)))

-- the stations by their numbers: 1 is the caller, 2 the answerer
abbrev pub side_of : ℕ → Option Side
side_of n = at_number 1 n Caller (at_number 2 n Answerer None)

-- a number of one octet
abbrev pub octet_of : ℕ → Option ℕ
octet_of n = if nat_lt n 256 then Some n else None

-- the number of each reason why two stations don't agree
abbrev pub reason_number : Reason → ℕ
reason_number NoReceiver = 1
reason_number NoErrorCorrection = 2
reason_number TooWide = 3
reason_number NoFineLines = 4
reason_number NoCommonSpeed = 5
