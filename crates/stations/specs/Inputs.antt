-- The inputs of both stations, as plain values, and what travels between them.
use Rattle.std.specs.Prelude.{ℕ, Bool, List}
use Rattle.signals.specs.Signals.{PlainSignal, plain}
use Rattle.stations.specs.declared.input.CallerIn.{CallerIn}
use Rattle.stations.specs.declared.input.CallerIn.TheVariants.{Heard, Timeout, T5}
use Rattle.stations.specs.declared.input.AnswererIn.{AnswererIn}
use Rattle.stations.specs.declared.input.AnswererIn.TheVariants.{Heard as HeardByAnswerer, Training, T2, T1, Busy}

-- an input of the caller: a signal that it hears, or the end of a wait
pub data CallerInput : Type 0 where
  hears : PlainSignal → CallerInput
  timeout t5 : CallerInput

-- an input of the answerer: a signal or a training check that it hears, the end of a wait, or whether it is busy
pub data AnswererInput : Type 0 where
  listens : PlainSignal → AnswererInput
  trains : List ℕ → AnswererInput
  t2 t1 : AnswererInput
  is_busy : Bool → AnswererInput

-- the plain value of an input that a program gives a caller
abbrev pub caller_input : CallerIn → CallerInput
caller_input (Heard signal) = hears (plain signal)
caller_input Timeout = timeout
caller_input T5 = t5

-- the plain value of an input that a program gives an answerer
abbrev pub answerer_input : AnswererIn → AnswererInput
answerer_input (HeardByAnswerer signal) = listens (plain signal)
answerer_input (Training octets) = trains octets.now
answerer_input T2 = t2
answerer_input T1 = t1
answerer_input (Busy busy) = is_busy busy

-- what goes over the line: a frame's signal, or the octets of a training check
pub data PlainItem : Type 0 where
  framed : PlainSignal → PlainItem
  checked : List ℕ → PlainItem
