-- Both stations as the terminals of handles have them, so that a clause is said once for both.
use Rattle.signals.specs.declared.signal.Side.{Side}
use Rattle.signals.specs.declared.signal.Side.TheVariants.{Answerer, Caller}
use Rattle.stations.specs.Limiting.{LimitedFields}
use Rattle.stations.specs.Stopping.{StoppableCallerFields}
use Rattle.stations.specs.declared.stopping.Cut.{Cut}
use Rattle.stations.specs.declared.turn.Turn.{Turn}
use Rattle.terminals.specs.Speaking.{BurstsOf, StepOf}
use Rattle.terminals.specs.Stations.{AnswererLends, CallerLends}
use Rattle.terminals.specs.Stopping.{CallerShows, CallerStepsUnlessCut, LimitedShows, LimitedStepsUnlessCut}
use Rattle.terminals.specs.Stopping.{caller_cut_off, caller_stop_says, limited_cut_off, limited_stop_says}
use Rattle.terminals.specs.declared.stopping.Shown.{Shown}

-- what a station does: its side, its steps, its bursts, how its call is cut off, what it says when it is stopped, and what it shows
pub record Behaviour (S : Type 0) : Type 1 where
  pub side : Side
  pub steps : StepOf S
  pub lends : BurstsOf S
  pub cut_off : Cut → S → S
  pub stop_says : S → Turn
  pub shows : S → Shown → Type 0

-- a station of this side, with these steps and bursts, that is cut off and stopped so, and shows this
abbrev pub behaviour :
    {S : Type 0} → Side → StepOf S → BurstsOf S → (Cut → S → S) → (S → Turn) → (S → Shown → Type 0) → Behaviour S
behaviour side steps lends cut_off stop_says shows =
    record { side = side; steps = steps; lends = lends; cut_off = cut_off; stop_says = stop_says; shows = shows }

-- a caller that can be stopped, by its table
abbrev pub callers : Behaviour StoppableCallerFields
callers =
    behaviour Caller (λ old input new turn. CallerStepsUnlessCut old.cut old input new turn) (λ v turn bursts. CallerLends v.station turn bursts)
    caller_cut_off caller_stop_says CallerShows

-- an answerer with limits, by its table
abbrev pub answerers : Behaviour LimitedFields
answerers =
    behaviour Answerer (λ old input new turn. LimitedStepsUnlessCut old.cut old input new turn)
    (λ v turn bursts. AnswererLends v.station turn bursts) limited_cut_off limited_stop_says LimitedShows
