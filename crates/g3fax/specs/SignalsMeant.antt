-- The signals that C describes by numbers.
use Rattle.std.specs.Prelude.{ℕ, ◌≡◌, ◌<◌, ◌++◌, Bool, ◌||◌, List, Result, Ok, Err, length, take, if◌then◌else◌, nat_eq, nat_lt, not}
use Rattle.std.specs.declared.option.Option.{Option}
use Rattle.std.specs.declared.option.Option.TheVariants.{None, Some}
use Rattle.raster.specs.declared.coding.Coding.{Coding}
use Rattle.signals.specs.Agreement.{width_of_pixels}
use Rattle.signals.specs.Signals.{PlainSignal, plain, dis, dcs, cfr, ftt, fcd, rcp, pps, ppr, mcf, rnr, rr, dcn}
use Rattle.signals.specs.Writing.{IsWritable}
use Rattle.signals.specs.declared.params.Caps.{Caps}
use Rattle.signals.specs.declared.params.Modems.{Modems}
use Rattle.signals.specs.declared.params.PageWidth.{PageWidth}
use Rattle.signals.specs.declared.params.Params.{Params}
use Rattle.signals.specs.declared.params.Speed.{Speed}
use Rattle.signals.specs.declared.signal.PageEnd.{PageEnd}
use Rattle.signals.specs.declared.signal.Signal.{Signal}
use Rattle.g3fax.specs.Beginning.{small_of}
use Rattle.g3fax.specs.Codes.{coding_of}
use Rattle.g3fax.specs.Pages.{is_set}
use Rattle.g3fax.specs.SignalNumbers.{end_of_number, kind_of, modems_of_number, octet_of, speed_of_number}
use Rattle.g3fax.specs.Signals.{octets_of, told}
use Rattle.g3fax.specs.Statuses.{bad_choice, bad_length}
use Rattle.g3fax.specs.declared.signal.G3Block.{G3Block}
use Rattle.g3fax.specs.declared.signal.G3Dis.{G3Dis}
use Rattle.g3fax.specs.declared.signal.G3Params.{G3Params}
use Rattle.g3fax.specs.declared.signal.G3Signal.{G3Signal}
use Rattle.g3fax.specs.declared.signal.Kind.{Kind}
use Rattle.g3fax.specs.declared.signal.Kind.TheVariants.{Dis, Dcs, Cfr, Ftt, Fcd, Rcp, Pps, Ppr, Mcf, Rnr, Rr, Dcn}

-- the plain value of a signal, or the status of numbers that are none
abbrev pub plain_result : Result Signal ℕ → Result PlainSignal ℕ
plain_result (Ok signal) = Ok (plain signal)
plain_result (Err status) = Err status

-- what a DIS says, with these modems and pages no wider than this
abbrev pub dis_with : G3Dis → Option Modems → Option PageWidth → Option Caps
dis_with given None widest = None
dis_with given (Some modems) None = None
dis_with given (Some modems) (Some widest) = Some (record {
  receiver = is_set given.receiver;
  modems = modems;
  fine = is_set given.fine;
  widest = widest;
  t6 = is_set given.t6;
  ecm = is_set given.ecm;
})

-- the capabilities of a DIS, by numbers; none if the number of the modems or of the width is unknown
abbrev pub dis_meant : G3Dis → Option Caps
dis_meant given = dis_with given (modems_of_number given.modems) (width_of_pixels given.widest)

-- how pages are sent, at this speed and width, in this code and with frames of this size
abbrev pub params_with : G3Params → Option Speed → Option PageWidth → Option Coding → Option Bool → Option Params
params_with given None width coding small = None
params_with given (Some speed) None coding small = None
params_with given (Some speed) (Some width) None small = None
params_with given (Some speed) (Some width) (Some coding) None = None
params_with given (Some speed) (Some width) (Some coding) (Some small) = Some (record {
  speed = speed;
  fine = is_set given.fine;
  width = width;
  coding = coding;
  small = small;
})

-- how pages are sent, by numbers; none if the number of the speed, the width, the code or the frame's size is unknown
abbrev pub params_meant : G3Params → Option Params
params_meant given =
    params_with given (speed_of_number given.carrier) (width_of_pixels given.width) (coding_of given.coding) (small_of given.frame)

-- the DIS of capabilities given by numbers; 104 if they give none
abbrev pub dis_signal : Option Caps → Result PlainSignal ℕ
dis_signal None = Err bad_choice
dis_signal (Some caps) = Ok (dis caps)

-- the DCS of parameters given by numbers; 104 if they give none
abbrev pub dcs_signal : Option Params → Result PlainSignal ℕ
dcs_signal None = Err bad_choice
dcs_signal (Some params) = Ok (dcs params)

-- the signal of a PPS of this end, page, block and last frame
abbrev pub pps_with : Option PageEnd → Option ℕ → Option ℕ → Option ℕ → Result PlainSignal ℕ
pps_with None page block last = Err bad_choice
pps_with (Some ends) None block last = Err bad_choice
pps_with (Some ends) (Some page) None last = Err bad_choice
pps_with (Some ends) (Some page) (Some block) None = Err bad_choice
pps_with (Some ends) (Some page) (Some block) (Some last) = Ok (pps ends page block last)

-- the PPS that numbers say
abbrev pub pps_meant : G3Block → Result PlainSignal ℕ
pps_meant given = pps_with (end_of_number given.ends) (octet_of given.page) (octet_of given.block) (octet_of given.last)

-- the FCD of this number, with the first of the octets as its data
abbrev pub fcd_with : Option ℕ → ℕ → List ℕ → Result PlainSignal ℕ
fcd_with None count octets = Err bad_choice
fcd_with (Some number) count octets =
    if nat_lt count 1 || nat_lt 256 count || nat_lt (length octets) count then Err bad_length else Ok (fcd number (take count octets))

-- the FCD that numbers say, whose data are the first octets
abbrev pub fcd_meant : G3Signal → List ℕ → Result PlainSignal ℕ
fcd_meant given octets = fcd_with (octet_of given.number) given.length octets

-- the PPR whose bits are the first 32 octets
abbrev pub ppr_meant : G3Signal → List ℕ → Result PlainSignal ℕ
ppr_meant given octets =
    if not (nat_eq given.length 32) || nat_lt (length octets) 32 then Err bad_length else Ok (ppr (take 32 octets))

-- the signal of a kind
abbrev pub meant_as : Kind → G3Signal → List ℕ → Result PlainSignal ℕ
meant_as Dis given octets = dis_signal (dis_meant given.dis)
meant_as Dcs given octets = dcs_signal (params_meant given.dcs)
meant_as Cfr given octets = Ok cfr
meant_as Ftt given octets = Ok ftt
meant_as Fcd given octets = fcd_meant given octets
meant_as Rcp given octets = Ok rcp
meant_as Pps given octets = pps_meant given.pps
meant_as Ppr given octets = ppr_meant given octets
meant_as Mcf given octets = Ok mcf
meant_as Rnr given octets = Ok rnr
meant_as Rr given octets = Ok rr
meant_as Dcn given octets = Ok dcn

-- the signal of a kind, if it is one that can be written; 104 otherwise
abbrev pub meant_if : Option Kind → G3Signal → List ℕ → Result PlainSignal ℕ
meant_if None given octets = Err bad_choice
meant_if (Some kind) given octets = meant_as kind given octets

-- The signal that numbers and octets give, by its kind. 104 if a number isn't one that the kind has; 105 if an FCD hasn't 1 to 256 octets,
-- or a PPR 32.
abbrev pub meant : G3Signal → List ℕ → Result PlainSignal ℕ
meant given octets = meant_if (kind_of given.kind) given octets

-- the numbers of a signal are octets
abbrev pub HasOctetNumbers : PlainSignal → Type 0
HasOctetNumbers (fcd number octets) = number < 256
HasOctetNumbers (pps ends page block last) = (page < 256) × (block < 256) × (last < 256)
HasOctetNumbers _ = Unit {0}

-- law: the numbers and octets told of a signal that can be written give the same signal again, whatever octets follow
abbrev pub MeansWhatIsTold : Type 0
MeansWhatIsTold = (signal : PlainSignal) (rest : List ℕ) → IsWritable signal → HasOctetNumbers signal →
    meant (told signal) (octets_of signal ++ rest) ≡ Ok signal
