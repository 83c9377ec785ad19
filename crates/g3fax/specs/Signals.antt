-- Signals told by numbers, and what calls answer that read and write them.
use Rattle.std.specs.Prelude.{ℕ, ◌≡◌, ◌<◌, ◌≤◌, ◌++◌, [], Bool, List, Result, Ok, Err, length, drop}
use Rattle.std.specs.declared.option.Option.{Option}
use Rattle.std.specs.declared.option.Option.TheVariants.{None, Some}
use Rattle.signals.specs.Agreement.{pixels_of}
use Rattle.signals.specs.Faults.{number_of}
use Rattle.signals.specs.Signals.{PlainSignal, dis, dcs, cfr, ftt, fcd, rcp, pps, ppr, mcf, rnr, rr, dcn, other}
use Rattle.signals.specs.Writing.{content_of}
use Rattle.signals.specs.declared.fault.SignalFault.{SignalFault}
use Rattle.signals.specs.declared.params.Caps.{Caps}
use Rattle.signals.specs.declared.params.Params.{Params}
use Rattle.signals.specs.declared.signal.Side.{Side}
use Rattle.g3fax.specs.Handles.{Copies}
use Rattle.g3fax.specs.Numbers.{flag_number, speed_number}
use Rattle.g3fax.specs.SignalNumbers.{coding_number, frame_number, modems_number, page_end_number}
use Rattle.g3fax.specs.Statuses.{ok, no_room, bad_choice}
use Rattle.g3fax.specs.declared.signal.G3Dis.{G3Dis}
use Rattle.g3fax.specs.declared.signal.G3Params.{G3Params}
use Rattle.g3fax.specs.declared.signal.G3Signal.{G3Signal}

-- what a DIS says, by numbers
abbrev pub dis_told : Caps → G3Dis
dis_told caps = record {
  receiver = flag_number caps.receiver;
  modems = modems_number caps.modems;
  fine = flag_number caps.fine;
  widest = pixels_of caps.widest;
  t6 = flag_number caps.t6;
  ecm = flag_number caps.ecm;
}

-- how pages are sent, by numbers
abbrev pub params_told : Params → G3Params
params_told params = record {
  carrier = speed_number params.speed;
  fine = flag_number params.fine;
  width = pixels_of params.width;
  coding = coding_number params.coding;
  frame = frame_number params.small;
}

-- a signal of a kind that says nothing more
abbrev pub bare : ℕ → G3Signal
bare kind = record {
  length = 0;
  kind = kind;
  dis = record { receiver = 0; modems = 0; fine = 0; widest = 0; t6 = 0; ecm = 0 };
  dcs = record { carrier = 0; fine = 0; width = 0; coding = 0; frame = 0 };
  pps = record { ends = 0; page = 0; block = 0; last = 0 };
  number = 0;
  control = 0;
}

-- what a signal says, by numbers; 0 for all that belongs to other kinds
abbrev pub told : PlainSignal → G3Signal
told (dis caps) = record (bare 1) { dis = dis_told caps }
told (dcs params) = record (bare 2) { dcs = params_told params }
told cfr = bare 3
told ftt = bare 4
told (fcd number octets) = record (bare 5) { length = length octets; number = number }
told rcp = bare 6
told (pps ends page block last) =
    record (bare 7) { pps = record { ends = page_end_number ends; page = page; block = block; last = last } }
told (ppr map) = record (bare 8) { length = length map }
told mcf = bare 9
told rnr = bare 10
told rr = bare 11
told dcn = bare 12
told (other octet) = record (bare 13) { control = octet }

-- the octets that come with a signal: an FCD's data, and a PPR's bits
abbrev pub octets_of : PlainSignal → List ℕ
octets_of (dis caps) = []
octets_of (dcs params) = []
octets_of cfr = []
octets_of ftt = []
octets_of (fcd number octets) = octets
octets_of rcp = []
octets_of (pps ends page block last) = []
octets_of (ppr map) = map
octets_of mcf = []
octets_of rnr = []
octets_of rr = []
octets_of dcn = []
octets_of (other octet) = []

-- a signal is told, and its octets are copied to the beginning of a buffer; 103 if that is too small
pub record TellsSignal (signal : PlainSignal) (old new : G3Signal) (before after : List ℕ) (status : ℕ) : Type 0 where
  pub done : length (octets_of signal) ≤ length before → (status ≡ ok) × (new ≡ told signal)
      × (after ≡ octets_of signal ++ drop (length (octets_of signal)) before)
  pub refused : length before < length (octets_of signal) → (status ≡ no_room) × (new ≡ old) × (after ≡ before)

-- A signal that is read is told as numbers, 0 for all that belongs to other kinds, and its octets (an FCD's data or a PPR's bits) are
-- copied to the beginning of a buffer; 103 if that is too small. Otherwise the status is the first fault of the content, 20 to 22. By any
-- status above 0 nothing changes.
abbrev pub AnswersRead : Result PlainSignal SignalFault → G3Signal → G3Signal → List ℕ → List ℕ → ℕ → Type 0
AnswersRead (Ok signal) old new before after status = TellsSignal signal old new before after status
AnswersRead (Err fault) old new before after status = (status ≡ number_of fault) × (new ≡ old) × (after ≡ before)

-- The content of a signal, as this station sends it, is copied to a buffer. 104 or 105 if the numbers are not a signal that can be written,
-- 104 if the station isn't 1 or 2, 103 if the buffer is too small.
abbrev pub AnswersWrite : Result PlainSignal ℕ → Option Side → Bool → List ℕ → List ℕ → ℕ → ℕ → ℕ → Type 0
AnswersWrite signal None last before after was count status = (status ≡ bad_choice) × (after ≡ before) × (count ≡ was)
AnswersWrite (Ok signal) (Some side) last before after was count status = Copies (content_of signal side last) before after count status
AnswersWrite (Err refused) (Some side) last before after was count status = (status ≡ refused) × (after ≡ before) × (count ≡ was)
