-- Stations of a call that the program can stop, or whose line can go, as a terminal carries them.
use Rattle.std.specs.Prelude.{◌≡◌, Bool, List, [], ◌∷◌, Option, Some, None, option_map}
use Rattle.signals.specs.Signals.{dcn}
use Rattle.signals.specs.declared.mark.Mark.{Mark}
use Rattle.stations.specs.AnswererStep.{Answerer, AnswererAnswer, Steps, answerer_items, answerer_silent}
use Rattle.stations.specs.Bursts.{PlainBurst, bursts_of}
use Rattle.stations.specs.CallerFields.{Represents}
use Rattle.stations.specs.CallerStep.{Caller, caller_items}
use Rattle.stations.specs.Inputs.{AnswererInput, framed}
use Rattle.stations.specs.Limiting.{LimitedFields, freed, limited_step, told_by}
use Rattle.stations.specs.Listening.{last_reply, listens_after}
use Rattle.stations.specs.Stopping.{StoppableCallerFields, call_end, cut_by, stop_turn}
use Rattle.stations.specs.Waits.{answerer_longer_wait, answerer_wait, caller_longer_wait, caller_wait, unless_over}
use Rattle.stations.specs.declared.carrier.Carrier.TheVariants.{V21 as ByV21}
use Rattle.stations.specs.declared.limiting.Limits.{Limits}
use Rattle.stations.specs.declared.listening.Listening.TheVariants.{V21}
use Rattle.stations.specs.declared.mark.Accepted.{Accepted}
use Rattle.stations.specs.declared.stopping.CallEnd.{CallEnd}
use Rattle.stations.specs.declared.stopping.Cut.{Cut}
use Rattle.stations.specs.declared.stopping.Cut.TheVariants.{Stop, Loss}
use Rattle.stations.specs.declared.turn.Turn.{Turn}
use Rattle.stations.specs.declared.turn.Turn.TheVariants.{Silent, Dcn}
use Rattle.stations.specs.declared.waiting.Wait.{Wait}
use Rattle.terminals.specs.Hearing.{PlainInput}
use Rattle.terminals.specs.Speaking.{Speaking, spoken}
use Rattle.terminals.specs.Stations.{CallerSteps, answerer_takes}
use Rattle.terminals.specs.declared.stopping.Shown.{Shown}

-- a step of a caller, by what cut its call off: the caller's own, and after a cut it is silent and changes nothing
abbrev pub CallerStepsUnlessCut : Option Cut → StoppableCallerFields → PlainInput → StoppableCallerFields → Turn → Type 0
CallerStepsUnlessCut None old input new turn = CallerSteps old.station input new.station turn × (new.cut ≡ None)
CallerStepsUnlessCut (Some why) old input new turn = (new ≡ old) × (turn ≡ Silent)

-- a step with limits by what the answerer takes; silence if it takes nothing
abbrev pub limited_answers : Limits → Answerer → Option AnswererInput → AnswererAnswer
limited_answers limits s None = answerer_silent s
limited_answers limits s (Some input) = limited_step limits s input

-- whether the program said last that the answerer is busy, after what it takes
abbrev pub told_after : Bool → Option AnswererInput → Bool
told_after told None = told
told_after told (Some input) = told_by told input

-- a step of an answerer with limits, by what cut its call off: the answerer's own, and after a cut it is silent and changes nothing
abbrev pub LimitedStepsUnlessCut : Option Cut → LimitedFields → PlainInput → LimitedFields → Turn → Type 0
LimitedStepsUnlessCut None old input new turn =
    Steps old.station new.station turn (limited_answers old.limits old.station (answerer_takes input)) × (new.limits ≡ old.limits) ×
    (new.told ≡ told_after old.told (answerer_takes input)) × (new.cut ≡ None) × (new.said ≡ last_reply old.said turn)
LimitedStepsUnlessCut (Some why) old input new turn = (new ≡ old) × (turn ≡ Silent)

-- a caller after something cut its call off
abbrev pub caller_cut_off : Cut → StoppableCallerFields → StoppableCallerFields
caller_cut_off now v = record v { cut = cut_by v.station.ending v.cut now }

-- an answerer with limits after something cut its call off
abbrev pub limited_cut_off : Cut → LimitedFields → LimitedFields
limited_cut_off now v = record v { cut = cut_by v.station.ending v.cut now }

-- what a caller sends when the program stops its call: DCN; nothing if the call has ended
abbrev pub caller_stop_says : StoppableCallerFields → Turn
caller_stop_says v = stop_turn v.station.ending v.cut

-- what an answerer with limits sends when the program stops its call: DCN; nothing if the call has ended
abbrev pub limited_stop_says : LimitedFields → Turn
limited_stop_says v = stop_turn v.station.ending v.cut

-- no wait runs after a call was cut off
abbrev pub unless_cut : Option Cut → Option Wait → Option Wait
unless_cut None wait = wait
unless_cut (Some why) wait = None

-- no wait runs after a call has ended in any way
abbrev pub unless_ended : Option CallEnd → Option Wait → Option Wait
unless_ended None wait = wait
unless_ended (Some why) wait = None

-- what a caller shows of its call; it accepts no block
abbrev pub caller_shown : Caller → Option Cut → Shown
caller_shown t cut = record {
  running = unless_cut cut (unless_over t.ending (Some (caller_wait t.state)));
  longer = unless_cut cut (unless_over t.ending (caller_longer_wait t.state));
  listens = V21;
  end = call_end t.ending cut;
  accepted = None;
}

-- what a caller whose call can be stopped shows, by any tuple that its fields represent: the waits that run, none after the end, what it
-- listens for, and its end
abbrev pub CallerShows : StoppableCallerFields → Shown → Type 0
CallerShows v shown = (t : Caller) → Represents v.station t → shown ≡ caller_shown t v.cut

-- the mark of the block that an answerer has accepted last
abbrev pub last_mark : Answerer → Option Mark
last_mark s = option_map (λ (accepted : Accepted). accepted.mark) s.accepted

-- what an answerer whose last reply this is shows of its call
abbrev pub answerer_shown : Turn → Answerer → Option Cut → Shown
answerer_shown said s cut = record {
  running = unless_cut cut (unless_over s.ending (Some (answerer_wait s.state)));
  longer = unless_cut cut (unless_over s.ending (answerer_longer_wait s.state));
  listens = listens_after said s;
  end = call_end s.ending cut;
  accepted = last_mark s;
}

-- what an answerer with limits shows: the waits that run, none after the end, what it listens for, and its end
abbrev pub LimitedShows : LimitedFields → Shown → Type 0
LimitedShows v shown = shown ≡ answerer_shown v.said v.station v.cut

-- the program stops the call: DCN takes the place of the turn that is kept; if the call has ended nothing changes
abbrev pub stopped : {S : Type 0} → (Cut → S → S) → (S → Turn) → Speaking S → Speaking S
stopped cut_off stop_says old = spoken old (cut_off Stop old.station) (stop_says old.station)

-- the program stops the call, and DCN takes the place of the turn that is kept, also if the call has ended
abbrev pub hung_up : {S : Type 0} → (Cut → S → S) → Speaking S → Speaking S
hung_up cut_off old = record { station = cut_off Stop old.station; turn = Dcn; taken = 0 }

-- the line is gone: nothing is left to be sent
abbrev pub silenced : {S : Type 0} → (Cut → S → S) → Speaking S → Speaking S
silenced cut_off old = record { station = cut_off Loss old.station; turn = Silent; taken = 0 }

-- an answerer with limits whose pages were taken
abbrev pub with_pages_taken : Speaking LimitedFields → Speaking LimitedFields
with_pages_taken old =
    record old {
      station = record old.station { station = freed old.station.station.ending old.station.told old.station.station };
    }

-- this is what a station shows of its call
abbrev pub IsShown : {S : Type 0} → (S → Shown → Type 0) → S → Shown → Type 0
IsShown shows station shown = shows station shown

-- DCN as it goes out: one burst by V.21 with no other frame
abbrev pub dcn_burst : List PlainBurst
dcn_burst = record { carrier = ByV21; items = framed dcn ∷ [] } ∷ []

-- law: from a caller in any state DCN goes out as one burst by V.21 with no other frame
abbrev pub CallersSendDcn : Type 0
CallersSendDcn = (t : Caller) → bursts_of t.params.speed (caller_items t Dcn) ≡ dcn_burst

-- law: from an answerer in any state DCN goes out as one burst by V.21 with no other frame
abbrev pub AnswerersSendDcn : Type 0
AnswerersSendDcn = (s : Answerer) → bursts_of s.params.speed (answerer_items s Dcn) ≡ dcn_burst
