-- Both stations as handles have them, so that each contract of a terminal is said once.
use Rattle.std.specs.Prelude.{ℕ, ◌≡◌, ◌≢◌, Option}
use Rattle.signals.specs.declared.params.Params.{Params}
use Rattle.stations.specs.CallerFields.{Represents}
use Rattle.stations.specs.CallerStep.{Caller, confirmed}
use Rattle.stations.specs.HowFar.{caller_progress}
use Rattle.stations.specs.Limiting.{LimitedFields}
use Rattle.stations.specs.Listening.{answerer_params, answerer_peer, caller_params, caller_peer}
use Rattle.stations.specs.Stopping.{StoppableCallerFields}
use Rattle.stations.specs.declared.stopping.CallEnd.{CallEnd}
use Rattle.terminals.specs.Speaking.{is_mcf}
use Rattle.terminals.specs.Stopping.{IsShown}
use Rattle.terminals.specs.Timed.{TimedFields}
use Rattle.terminals.specs.declared.stopping.Shown.{Shown}
use Rattle.g3fax.specs.Agreed.{TellsParams, TellsPeer, told_dcs, told_dis}
use Rattle.g3fax.specs.Answering.{AnsweringFields, all_confirmed, count_left, with_confirmed}
use Rattle.g3fax.specs.Bursts.{NextBurst}
use Rattle.g3fax.specs.Codes.{Tells}
use Rattle.g3fax.specs.Handles.{OfTerminal, OnStation}
use Rattle.g3fax.specs.Progress.{AnsweringTold, calling_told}
use Rattle.g3fax.specs.States.{TellsFrames, TellsShown, known_end}
use Rattle.g3fax.specs.Stations.{Behaviour, answerers, callers}
use Rattle.g3fax.specs.Statuses.{ok}
use Rattle.g3fax.specs.declared.bursts.G3Burst.{G3Burst}
use Rattle.g3fax.specs.declared.handle.Kept.{Kept}
use Rattle.g3fax.specs.declared.progress.G3Progress.{G3Progress}
use Rattle.g3fax.specs.declared.signal.G3Params.{G3Params}
use Rattle.g3fax.specs.declared.signal.G3Signal.{G3Signal}
use Rattle.g3fax.specs.declared.states.G3State.{G3State}

-- A station as a handle has it: what it does; its terminal; what is there after a burst was taken, which left this terminal; why its call
-- ended, by what its station says; and what is told of it: its pages, the parameters of its group, the other station, and how far it is.
pub record Kind (S : Type 0) (H : Type 0) : Type 1 where
  pub behaves : Behaviour S
  pub timed : H → TimedFields S
  pub sent : H → TimedFields S → H
  pub ends : H → Option CallEnd → Option CallEnd
  pub pages : H → ℕ → Type 0
  pub params : H → Option Params → Type 0
  pub peer : H → Option G3Signal → Type 0
  pub progress : H → G3Progress → Type 0

-- whichever tuple the station of a caller's terminal represents, this holds of it
abbrev pub OfTuple : TimedFields StoppableCallerFields → (Caller → Type 0) → Type 0
OfTuple timed Holds = (t : Caller) → Represents timed.terminal.speaking.station.station t → Holds t

-- A caller: its pages are those confirmed, and the other station is known by the last DIS that was agreed on.
abbrev pub caller_kind : Kind StoppableCallerFields (TimedFields StoppableCallerFields)
caller_kind = record {
  behaves = callers;
  timed = λ timed. timed;
  sent = λ old timed. timed;
  ends = λ timed end. end;
  pages = λ timed pages. OfTuple timed (λ t. pages ≡ confirmed t);
  params = λ timed params. OfTuple timed (λ t. params ≡ caller_params t.state t.params);
  peer = λ timed peer. OfTuple timed (λ t. peer ≡ told_dis (caller_peer t.state (confirmed t) t.caps));
  progress = λ timed far. OfTuple timed (λ t. far ≡ calling_told (caller_progress t) timed.figures);
}

-- An answerer: if the burst was MCF, it confirms all pages stored so far; its pages are those stored and not handed out, and the other station
-- is known by the last DCS that was allowed. A caller that left before all pages were confirmed left too soon.
abbrev pub answerer_kind : Kind LimitedFields AnsweringFields
answerer_kind = record {
  behaves = answerers;
  timed = λ a. a.timed;
  sent = λ old timed. record old { timed = timed; tally = with_confirmed (is_mcf old.timed.terminal.speaking.turn) old };
  ends = λ a end. known_end (all_confirmed a) end;
  pages = λ a pages. Tells (count_left a) pages;
  params = λ a params. params ≡ answerer_params a.timed.terminal.speaking.station.station.state a.timed.terminal.speaking.station.station.params;
  peer = λ a peer. peer ≡ told_dcs (answerer_peer a.timed.terminal.speaking.station.station.state
      a.timed.terminal.speaking.station.station.accepted a.timed.terminal.speaking.station.station.params);
  progress = λ a far. AnsweringTold a far;
}

-- the status for a handle that should have a terminal, by one relation for both stations; 100 if it is empty, 101 if it has something else
abbrev pub OfKind : ((S H : Type 0) → Kind S H → H → Type 0) → Option Kept → ℕ → Type 0
OfKind Answers old status = OfTerminal (Answers StoppableCallerFields (TimedFields StoppableCallerFields) caller_kind)
    (Answers LimitedFields AnsweringFields answerer_kind) old status

-- What happens to the terminal in a handle, by one relation for both stations. An empty handle is 100, another kind is 101, and the handle
-- stays.
abbrev pub OnKind : ((S H : Type 0) → Kind S H → H → H → Type 0) → Option Kept → Option Kept → ℕ → Type 0
OnKind Makes old new status = OnStation (Makes StoppableCallerFields (TimedFields StoppableCallerFields) caller_kind)
    (Makes LimitedFields AnsweringFields answerer_kind) old new status

-- the next burst of a station was taken, as `NextBurst` says; by any status above 0 nothing changes
pub record TakesBurst {S H : Type 0} (k : Kind S H) (old new : H) (before after : Option Kept) (burst : G3Burst) (status : ℕ) : Type 0 where
  pub next : NextBurst S k.behaves (k.timed old) (k.timed new) before after burst status
  pub done : status ≡ ok → new ≡ k.sent old (k.timed new)
  pub kept : status ≢ ok → new ≡ old

-- the numbers of a state are those of what a station shows of its call, of why that ended, of its pages, and of the good frames it has heard
pub record TellsState {S H : Type 0} (k : Kind S H) (it : H) (state : G3State) (status : ℕ) : Type 0 where
  pub done : status ≡ ok
  pub shown : Shown
  pub shows : IsShown k.behaves.shows (k.timed it).terminal.speaking.station shown
  pub told : TellsShown (record shown { end = k.ends it shown.end }) state
  pub pages : k.pages it state.pages
  pub frames : TellsFrames (k.timed it) state

-- the numbers of a progress say how far a station is
pub record TellsProgress {S H : Type 0} (k : Kind S H) (it : H) (far : G3Progress) (status : ℕ) : Type 0 where
  pub done : status ≡ ok
  pub told : k.progress it far

-- the numbers of parameters are those of the group under way; 106 if there is none, and nothing changes
pub record TellsGroup {S H : Type 0} (k : Kind S H) (it : H) (old new : G3Params) (status : ℕ) : Type 0 where
  pub params : Option Params
  pub are : k.params it params
  pub told : TellsParams params old new status

-- the numbers of a signal are those of what is known of the other station; 106 if nothing is, and nothing changes
pub record TellsOther {S H : Type 0} (k : Kind S H) (it : H) (old new : G3Signal) (status : ℕ) : Type 0 where
  pub peer : Option G3Signal
  pub is : k.peer it peer
  pub told : TellsPeer peer old new status
