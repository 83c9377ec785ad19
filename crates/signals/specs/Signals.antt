-- Signals as plain values.
use Rattle.std.specs.Prelude.{ℕ, List, Result, Ok, Err}
use Rattle.signals.specs.declared.fault.SignalFault.{SignalFault}
use Rattle.signals.specs.declared.params.Caps.{Caps}
use Rattle.signals.specs.declared.params.Params.{Params}
use Rattle.signals.specs.declared.signal.PageEnd.{PageEnd}
use Rattle.signals.specs.declared.signal.Signal.{Signal}
use Rattle.signals.specs.declared.signal.Signal.TheVariants.{Dis, Dcs, Cfr, Ftt, Fcd, Rcp, Pps, Ppr, Mcf, Rnr, Rr, Dcn, Other}

-- a signal of one frame as a plain value, without the code's types
pub data PlainSignal : Type 0 where
  dis : Caps → PlainSignal
  dcs : Params → PlainSignal
  cfr : PlainSignal
  ftt : PlainSignal
  fcd : ℕ → List ℕ → PlainSignal
  rcp : PlainSignal
  pps : PageEnd → ℕ → ℕ → ℕ → PlainSignal
  ppr : List ℕ → PlainSignal
  mcf : PlainSignal
  rnr : PlainSignal
  rr : PlainSignal
  dcn : PlainSignal
  other : ℕ → PlainSignal

-- the plain value of the code's signal
abbrev pub plain : Signal → PlainSignal
plain (Dis caps) = dis caps
plain (Dcs params) = dcs params
plain Cfr = cfr
plain Ftt = ftt
plain (Fcd number octets) = fcd number octets.now
plain Rcp = rcp
plain (Pps ends page block last) = pps ends page block last
plain (Ppr map) = ppr map
plain Mcf = mcf
plain Rnr = rnr
plain Rr = rr
plain Dcn = dcn
plain (Other octet) = other octet

-- the result of reading, with a plain value for the signal
abbrev pub plain_read : Result Signal SignalFault → Result PlainSignal SignalFault
plain_read (Ok signal) = Ok (plain signal)
plain_read (Err fault) = Err fault
