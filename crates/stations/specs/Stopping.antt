-- A call that the program stops, or whose line is gone: a station with what cut its call off, if anything did.
use Rattle.std.specs.Prelude.{◌≡◌, ◌≢◌, Option, Some, None, Result, Ok}
use Rattle.stations.specs.AnswererStep.{Answerer, StepsOrRefuses, answerer_step}
use Rattle.stations.specs.CallerFields.{CallerFields, AnswersOrRefuses}
use Rattle.stations.specs.CallerStep.{caller_step}
use Rattle.stations.specs.Inputs.{AnswererInput, CallerInput}
use Rattle.stations.specs.declared.stopping.Cut.{Cut}
use Rattle.stations.specs.declared.stopping.Cut.TheVariants.{Stop, Loss}
use Rattle.stations.specs.declared.stopping.CallEnd.{CallEnd}
use Rattle.stations.specs.declared.stopping.CallEnd.TheVariants.{By, Stopped, LineLost}
use Rattle.stations.specs.declared.turn.End.{End}
use Rattle.stations.specs.declared.turn.Turn.{Turn}
use Rattle.stations.specs.declared.turn.Turn.TheVariants.{Silent, Dcn}

-- a caller with what cut its call off, if anything did
pub record StoppableCallerFields : Type 0 where
  pub station : CallerFields
  pub cut : Option Cut

-- an answerer with what cut its call off, if anything did
pub record StoppableAnswererFields : Type 0 where
  pub station : Answerer
  pub cut : Option Cut

-- why a call ended, if it has: by the station's own table, or cut off before that
abbrev pub call_end : Option End → Option Cut → Option CallEnd
call_end (Some why) cut = Some (By why)
call_end None None = None
call_end None (Some Stop) = Some Stopped
call_end None (Some Loss) = Some LineLost

-- what has cut a call off, after this cut: the first of several; a call that has ended stays as it ended
abbrev pub cut_by : Option End → Option Cut → Cut → Option Cut
cut_by (Some why) cut now = cut
cut_by None (Some before) now = Some before
cut_by None None now = Some now

-- what is sent when the program stops a call: DCN if it runs, nothing if it has ended
abbrev pub stop_turn : Option End → Option Cut → Turn
stop_turn (Some why) cut = Silent
stop_turn None (Some before) = Silent
stop_turn None None = Dcn

-- nothing changes, and nothing is sent
abbrev pub StaysSilent : {V E : Type 0} → V → V → Result Turn E → Type 0
StaysSilent old new result = (new ≡ old) × (result ≡ Ok Silent)

-- a caller's step is the station's own; after a cut it is silent and changes nothing
abbrev pub CallerStepsUnlessCut :
    {E : Type 0} → StoppableCallerFields → CallerInput → StoppableCallerFields → Result Turn E → Option Cut → Type 0
CallerStepsUnlessCut old input new result None =
    AnswersOrRefuses old.station new.station result (λ t. caller_step t input) × (new.cut ≡ None)
CallerStepsUnlessCut old input new result (Some why) = StaysSilent old new result

-- an answerer's step is the station's own; after a cut it is silent and changes nothing
abbrev pub AnswererStepsUnlessCut :
    {E : Type 0} → StoppableAnswererFields → AnswererInput → StoppableAnswererFields → Result Turn E → Option Cut → Type 0
AnswererStepsUnlessCut old input new result None =
    StepsOrRefuses old.station new.station result (answerer_step old.station input) × (new.cut ≡ None)
AnswererStepsUnlessCut old input new result (Some why) = StaysSilent old new result

-- the end that a cut is
abbrev pub end_of_cut : Cut → CallEnd
end_of_cut Stop = Stopped
end_of_cut Loss = LineLost

-- law: a call that runs ends by what cuts it off, and one that has ended stays as it ended
abbrev pub CutsEnd : Type 0
CutsEnd =
    (ending : Option End) (cut : Option Cut) (now : Cut) →
    (call_end ending cut ≡ None → call_end ending (cut_by ending cut now) ≡ Some (end_of_cut now)) ×
    (call_end ending cut ≢ None → cut_by ending cut now ≡ cut)
