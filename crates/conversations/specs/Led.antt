-- Where the station of a conversation stands after a line: where its table leads by what the line gives.
use Rattle.std.specs.Prelude.{ℕ, ◌≡◌, List, [], ◌∷◌, None}
use Rattle.conversations.specs.Answering.{limited_behaviour}
use Rattle.conversations.specs.Conversations.{Behaviour, ConversationFields, PlainGiven, TakesLine, behaviour, gives}
use Rattle.conversations.specs.Conversations.{nothing, stopping, losing, frames, input}
use Rattle.conversations.specs.declared.line.TimedLine.{TimedLine}
use Rattle.signals.specs.declared.signal.Side.TheVariants.{Caller as CallerSide}
use Rattle.stations.specs.AnswererStep.{Answerer, answerer_items}
use Rattle.stations.specs.Bursts.{bursts_of}
use Rattle.stations.specs.CallerFields.{Represents}
use Rattle.stations.specs.CallerStep.{Caller}
use Rattle.stations.specs.Limiting.{LimitedFields}
use Rattle.stations.specs.Stopping.{StoppableCallerFields}
use Rattle.stations.specs.declared.limiting.Limits.{Limits}
use Rattle.terminals.specs.Hearing.{HasHeard, PlainInput, heard_of}
use Rattle.terminals.specs.Saying.{stoppable_lends}
use Rattle.terminals.specs.Speaking.{Speaking}
use Rattle.terminals.specs.Stations.{answerer_takes, caller_given}
use Rattle.terminals.specs.StationsAfter.{caller_heard, unless_left}
use Rattle.terminals.specs.Stopping.{CallerShows, CallerStepsUnlessCut, caller_cut_off, caller_stop_says, limited_answers}

-- what signals make of an answerer with limits and its kept turn: each is taken, unless a burst of the turn is left to be sent
-- and it isn't DCN
abbrev pub limited_heard : Limits → List PlainInput → Speaking Answerer → Speaking Answerer
limited_heard limits [] s = s
limited_heard limits (x ∷ xs) s =
    limited_heard limits xs
    (unless_left x (bursts_of s.station.params.speed (answerer_items s.station s.turn)) s
    (limited_answers limits s.station (answerer_takes x)).next (limited_answers limits s.station (answerer_takes x)).turn)

-- Where what a line gives leads an answerer with limits, after octets of the line that it has heard: of octets it hears the signals of the
-- good frames that they bring.
abbrev pub limited_led : Limits → List ℕ → PlainGiven → Speaking Answerer → Answerer
limited_led limits before nothing s = s.station
limited_led limits before stopping s = s.station
limited_led limits before losing s = s.station
limited_led limits before (frames octets) s = (limited_heard limits (heard_of before octets) s).station
limited_led limits before (input x) s = (limited_answers limits s.station (answerer_takes x)).next

-- the answerer of one with limits, with its kept turn
abbrev pub answerer_of : Speaking LimitedFields → Speaking Answerer
answerer_of s = record { station = s.station.station; turn = s.turn; taken = s.taken }

-- where what a line gives leads a caller, after octets of the line that it has heard
abbrev pub caller_led : List ℕ → PlainGiven → Speaking Caller → Caller
caller_led before nothing s = s.station
caller_led before stopping s = s.station
caller_led before losing s = s.station
caller_led before (frames octets) s = (caller_heard (heard_of before octets) s).station
caller_led before (input x) s = (caller_given s.station x).next

-- a caller, as a conversation knows it
abbrev pub caller_behaviour : Behaviour StoppableCallerFields
caller_behaviour =
    behaviour CallerSide (λ old x new turn. CallerStepsUnlessCut old.cut old x new turn) stoppable_lends CallerShows caller_cut_off
    caller_stop_says

-- The law: after a line that was taken, an answerer with limits whose call wasn't cut off is where its table leads by what the line gives.
abbrev pub AnswerersAreLed : Type 0
AnswerersAreLed =
    (old new : ConversationFields LimitedFields) (line : TimedLine) (before : List ℕ)
    (h : TakesLine LimitedFields limited_behaviour old line new) → HasHeard old.terminal.framing before →
    old.terminal.speaking.station.cut ≡ None →
    new.terminal.speaking.station.station ≡
    limited_led old.terminal.speaking.station.limits before (gives limited_behaviour old h.shown line) (answerer_of old.terminal.speaking)

-- The law: after a line that was taken, a caller whose call wasn't cut off represents where its tuple leads by what the line gives.
abbrev pub CallersAreLed : Type 0
CallersAreLed =
    (old new : ConversationFields StoppableCallerFields) (line : TimedLine) (before : List ℕ)
    (h : TakesLine StoppableCallerFields caller_behaviour old line new) (c : Caller) → HasHeard old.terminal.framing before →
    old.terminal.speaking.station.cut ≡ None → Represents old.terminal.speaking.station.station c →
    Represents new.terminal.speaking.station.station
    (caller_led before (gives caller_behaviour old h.shown line)
    (record { station = c; turn = old.terminal.speaking.turn; taken = old.terminal.speaking.taken }))
