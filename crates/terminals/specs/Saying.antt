-- What is left to be sent after an input, after the program stops a call or hangs up, and after the line is gone; and what is shown then.
use Rattle.std.specs.Prelude.{◌≡◌, ◌≢◌, ◌⊎◌, List, [], Option, Some, None, drop}
use Rattle.stations.specs.Bursts.{PlainBurst}
use Rattle.stations.specs.CallerFields.{Represents}
use Rattle.stations.specs.CallerStep.{Caller}
use Rattle.stations.specs.AnswererStep.{Answerer}
use Rattle.stations.specs.Limiting.{LimitedFields}
use Rattle.stations.specs.Stopping.{StoppableCallerFields, call_end}
use Rattle.stations.specs.Waits.{answerer_longer_wait, answerer_wait, caller_longer_wait, caller_wait}
use Rattle.stations.specs.declared.stopping.Cut.{Cut}
use Rattle.stations.specs.declared.turn.Turn.{Turn}
use Rattle.stations.specs.declared.turn.Turn.TheVariants.{Silent}
use Rattle.stations.specs.declared.waiting.Wait.{Wait}
use Rattle.terminals.specs.Hearing.{PlainInput}
use Rattle.terminals.specs.Speaking.{AreLent, BurstsOf, Speaking, StepOf, Takes}
use Rattle.terminals.specs.Stations.{AnswererLends, CallerLends}
use Rattle.terminals.specs.Stopping.{answerer_shown, caller_cut_off, caller_shown, caller_stop_says, dcn_burst, hung_up, limited_cut_off}
use Rattle.terminals.specs.Stopping.{limited_stop_says, silenced, stopped}
use Rattle.terminals.specs.declared.stopping.Shown.{Shown}

-- the bursts that are left to be sent: those of the turn that is kept, but for the first ones, which were taken
abbrev pub AreLeft : {S : Type 0} → BurstsOf S → Speaking S → List PlainBurst → Type 0
AreLeft lends now left = (bursts : List PlainBurst) × AreLent lends now.station now.turn bursts × (left ≡ drop now.taken bursts)

-- the bursts of a caller's turn, whose call can be stopped
abbrev pub stoppable_lends : BurstsOf StoppableCallerFields
stoppable_lends = λ v turn bursts. CallerLends v.station turn bursts

-- the bursts of a turn of an answerer with limits
abbrev pub limited_lends : BurstsOf LimitedFields
limited_lends = λ v turn bursts. AnswererLends v.station turn bursts

-- The law: after an input all bursts of the station's turn are left, whatever of the turn before was taken. Silence leaves what was left
-- before, as the station has it then.
abbrev pub TurnsAreLeft : (S : Type 0) → StepOf S → BurstsOf S → Type 0
TurnsAreLeft S steps lends =
    (old : Speaking S) (input : PlainInput) (new : Speaking S) (left : List PlainBurst) → Takes S steps old input new →
    AreLeft lends new left →
    (turn : Turn) × steps old.station input new.station turn ×
    (((turn ≢ Silent) × AreLent lends new.station turn left) ⊎
    ((turn ≡ Silent) × AreLeft lends (record old { station = new.station }) left))

-- The law: when the program hangs up, DCN alone is left to be sent, by V.21, whatever was kept, and also if the call has ended.
abbrev pub CallersHangUp : Type 0
CallersHangUp =
    (old : Speaking StoppableCallerFields) (t : Caller) (left : List PlainBurst) → Represents old.station.station t →
    AreLeft stoppable_lends (hung_up caller_cut_off old) left → left ≡ dcn_burst

-- the same of an answerer with limits
abbrev pub AnswerersHangUp : Type 0
AnswerersHangUp =
    (old : Speaking LimitedFields) (left : List PlainBurst) → AreLeft limited_lends (hung_up limited_cut_off old) left → left ≡ dcn_burst

-- The law: when the program stops a call that runs, DCN alone is left to be sent; a call that has ended stays as it is.
abbrev pub CallersStop : Type 0
CallersStop =
    (old : Speaking StoppableCallerFields) (t : Caller) (left : List PlainBurst) → Represents old.station.station t →
    (call_end old.station.station.ending old.station.cut ≡ None →
    AreLeft stoppable_lends (stopped caller_cut_off caller_stop_says old) left → left ≡ dcn_burst) ×
    (call_end old.station.station.ending old.station.cut ≢ None → stopped caller_cut_off caller_stop_says old ≡ old)

-- the same of an answerer with limits
abbrev pub AnswerersStop : Type 0
AnswerersStop =
    (old : Speaking LimitedFields) (left : List PlainBurst) →
    (call_end old.station.station.ending old.station.cut ≡ None →
    AreLeft limited_lends (stopped limited_cut_off limited_stop_says old) left → left ≡ dcn_burst) ×
    (call_end old.station.station.ending old.station.cut ≢ None → stopped limited_cut_off limited_stop_says old ≡ old)

-- The law: when the line is gone, nothing is left to be sent.
abbrev pub CallersLose : Type 0
CallersLose =
    (old : Speaking StoppableCallerFields) (t : Caller) (left : List PlainBurst) → Represents old.station.station t →
    AreLeft stoppable_lends (silenced caller_cut_off old) left → left ≡ []

-- the same of an answerer with limits
abbrev pub AnswerersLose : Type 0
AnswerersLose =
    (old : Speaking LimitedFields) (left : List PlainBurst) → AreLeft limited_lends (silenced limited_cut_off old) left → left ≡ []

-- these two waits are shown while a call goes on, and none once it has ended
abbrev pub ShowsUntilEnd : Shown → Wait → Option Wait → Type 0
ShowsUntilEnd shown wait longer =
    (shown.end ≡ None → (shown.running ≡ Some wait) × (shown.longer ≡ longer)) ×
    (shown.end ≢ None → (shown.running ≡ None) × (shown.longer ≡ None))

-- The law: the waits of its state are shown of a call that goes on, and none of one that has ended, was stopped or lost its line.
abbrev pub WaitsAreShown : Type 0
WaitsAreShown =
    ((t : Caller) (cut : Option Cut) → ShowsUntilEnd (caller_shown t cut) (caller_wait t.state) (caller_longer_wait t.state)) ×
    ((said : Turn) (s : Answerer) (cut : Option Cut) →
    ShowsUntilEnd (answerer_shown said s cut) (answerer_wait s.state) (answerer_longer_wait s.state))
