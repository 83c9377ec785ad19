-- Both stations as a terminal carries them.
use Rattle.std.specs.Prelude.{◌≡◌, List, [], Option, Some, None}
use Rattle.stations.specs.AnswererStep.{Answerer, AnswererAnswer, answerer_step, answerer_silent, answerer_items}
use Rattle.stations.specs.Bursts.{PlainBurst, bursts_of}
use Rattle.stations.specs.CallerFields.{CallerFields, Represents}
use Rattle.stations.specs.CallerStep.{Caller, CallerAnswer, caller_step, caller_silent, caller_items}
use Rattle.stations.specs.Inputs.{CallerInput, hears, timeout, t5, caller_input, answerer_input}
use Rattle.stations.specs.Inputs.{AnswererInput, listens, trains, t2, t1, is_busy}
use Rattle.stations.specs.declared.input.AnswererIn.{AnswererIn}
use Rattle.stations.specs.declared.input.CallerIn.{CallerIn}
use Rattle.stations.specs.Waits.{caller_wait, unless_over}
use Rattle.stations.specs.declared.turn.Turn.{Turn}
use Rattle.stations.specs.declared.waiting.Wait.{Wait}
use Rattle.stations.specs.declared.waiting.Wait.TheVariants.{T1, T2, T4, T5}
use Rattle.terminals.specs.Hearing.{PlainInput, said, check, over, busy}
use Rattle.terminals.specs.Speaking.{Speaking}

-- what a caller takes of an input: a signal, the end of the wait that runs, and that of T5
abbrev pub caller_takes : Option Wait → PlainInput → Option CallerInput
caller_takes wait (said signal) = Some (hears signal)
caller_takes (Some T1) (over T1) = Some timeout
caller_takes (Some T4) (over T4) = Some timeout
caller_takes wait (over T5) = Some t5
caller_takes wait input = None

-- a caller's step by what it takes; silence if it takes nothing
abbrev pub caller_answers : Caller → Option CallerInput → CallerAnswer
caller_answers c None = caller_silent c
caller_answers c (Some input) = caller_step c input

-- a caller's step by an input
abbrev pub caller_given : Caller → PlainInput → CallerAnswer
caller_given c input = caller_answers c (caller_takes (unless_over c.ending (Some (caller_wait c.state))) input)

-- a step of a caller by an input: whichever tuple its fields represent, they represent the answer's afterwards, and the turn is the
-- answer's; silence if the input isn't a caller's
abbrev pub CallerSteps : CallerFields → PlainInput → CallerFields → Turn → Type 0
CallerSteps old input new turn =
    (t : Caller) → Represents old t → Represents new (caller_given t input).next × (turn ≡ (caller_given t input).turn)

-- the bursts of a caller's turn
abbrev pub CallerLends : CallerFields → Turn → List PlainBurst → Type 0
CallerLends v turn bursts = (t : Caller) → Represents v t → bursts ≡ bursts_of t.params.speed (caller_items t turn)

-- what an answerer takes of an input: all but the ends of T4 and T5, which are a caller's
abbrev pub answerer_takes : PlainInput → Option AnswererInput
answerer_takes (said signal) = Some (listens signal)
answerer_takes (check octets) = Some (trains octets)
answerer_takes (over T1) = Some t1
answerer_takes (over T2) = Some t2
answerer_takes (over T4) = None
answerer_takes (over T5) = None
answerer_takes (busy is) = Some (is_busy is)

-- an answerer's step by what it takes; silence if it takes nothing
abbrev pub answerer_answers : Answerer → Option AnswererInput → AnswererAnswer
answerer_answers s None = answerer_silent s
answerer_answers s (Some input) = answerer_step s input

-- an answerer's step by an input
abbrev pub answerer_given : Answerer → PlainInput → AnswererAnswer
answerer_given s input = answerer_answers s (answerer_takes input)

-- a step of an answerer by an input: that of its table; silence if the input isn't an answerer's
abbrev pub AnswererSteps : Answerer → PlainInput → Answerer → Turn → Type 0
AnswererSteps old input new turn = (new ≡ (answerer_given old input).next) × (turn ≡ (answerer_given old input).turn)

-- the bursts of an answerer's turn
abbrev pub AnswererLends : Answerer → Turn → List PlainBurst → Type 0
AnswererLends s turn bursts = bursts ≡ bursts_of s.params.speed (answerer_items s turn)

-- an answerer whose pages were taken
abbrev pub without_pages : Speaking Answerer → Speaking Answerer
without_pages speaking = record speaking { station = record speaking.station { pages = [] } }

-- the plain value of what a caller takes
abbrev pub plain_caller_input : Option CallerIn → Option CallerInput
plain_caller_input None = None
plain_caller_input (Some input) = Some (caller_input input)

-- the plain value of what an answerer takes
abbrev pub plain_answerer_input : Option AnswererIn → Option AnswererInput
plain_answerer_input None = None
plain_answerer_input (Some input) = Some (answerer_input input)
