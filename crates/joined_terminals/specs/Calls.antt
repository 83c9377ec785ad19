-- What a call of one of two joined terminals makes of both.
use Rattle.std.specs.Prelude.{◌≡◌, ◌≢◌, ◌++◌, true, List, [], ◌∷◌, ℕ, Option, Some, None, Result}
use Rattle.raster.specs.Pages.{PagePixels}
use Rattle.signals.specs.Signals.{PlainSignal}
use Rattle.stations.specs.Inputs.{PlainItem, checked}
use Rattle.signals.specs.declared.params.Caps.{Caps}
use Rattle.signals.specs.declared.params.Wish.{Wish}
use Rattle.stations.specs.Layers.{Document}
use Rattle.stations.specs.Limiting.{LimitedFields}
use Rattle.stations.specs.Stopping.{StoppableCallerFields}
use Rattle.stations.specs.declared.limiting.Limits.{Limits}
use Rattle.terminals.specs.Hearing.{HasHeard, heard_of}
use Rattle.terminals.specs.Runs.{TerminalFields}
use Rattle.terminals.specs.Speaking.{Speaking}
use Rattle.terminals.specs.declared.fault.HearFault.{HearFault}
use Rattle.terminals.specs.declared.sending.SentBurst.{SentBurst}
use Rattle.joined_terminals.specs.Happening.{Arrives, Happening, Makes}
use Rattle.joined_terminals.specs.Happening.Happening.{answerer_sends, caller_sends, comes_to_answerer, pages_taken}
use Rattle.joined_terminals.specs.Joining.{Begins, Joined}
use Rattle.joined_terminals.specs.Octets.{AnswererHears, CallerHears, PieceComes, Terminals, given_by}

-- whatever the other terminal and the line are, this happens when the caller's terminal changes so
abbrev pub HappensToCaller : Happening → Speaking StoppableCallerFields → Speaking StoppableCallerFields → Type 0
HappensToCaller happening before after =
    (old : Joined) → old.caller ≡ before → (new : Joined) × Makes happening old new × (new.caller ≡ after)

-- whatever the other terminal and the line are, this happens when the answerer's terminal changes so
abbrev pub HappensToAnswerer : Happening → Speaking LimitedFields → Speaking LimitedFields → Type 0
HappensToAnswerer happening before after =
    (old : Joined) → old.answerer ≡ before → (new : Joined) × Makes happening old new × (new.answerer ≡ after)

-- a burst of the caller's was taken, or none was left and nothing has changed
abbrev pub CallerGives : Speaking StoppableCallerFields → Speaking StoppableCallerFields → Option SentBurst → Type 0
CallerGives before after None = after ≡ before
CallerGives before after (Some sent) = HappensToCaller caller_sends before after

-- a burst of the answerer's was taken, or none was left and nothing has changed
abbrev pub AnswererGives : Speaking LimitedFields → Speaking LimitedFields → Option SentBurst → Type 0
AnswererGives before after None = after ≡ before
AnswererGives before after (Some sent) = HappensToAnswerer answerer_sends before after

-- the pages that are taken out come after those that were taken before
abbrev pub TakesOut : Speaking LimitedFields → Speaking LimitedFields → List PagePixels → Type 0
TakesOut before after taken =
    (old : Joined) → old.answerer ≡ before →
    (new : Joined) × Makes pages_taken old new × (new.answerer ≡ after) × (new.pages ≡ old.pages ++ taken)

-- a training check comes as these octets, if it is the first item on its way
abbrev pub CheckComes : List ℕ → Speaking LimitedFields → Speaking LimitedFields → Type 0
CheckComes octets before after =
    (old : Joined) (sent : List ℕ) (others : List PlainItem) → old.answerer ≡ before → old.to_answerer ≡ checked sent ∷ others →
    Arrives sent octets → (new : Joined) × Makes comes_to_answerer old new × (new.answerer ≡ after)

-- the caller's terminal hears octets that bring a piece of the line, of one frame at most
abbrev pub HappensToHearingCaller :
    TerminalFields StoppableCallerFields → List ℕ → TerminalFields StoppableCallerFields → Result (Unit {0}) HearFault → Type 0
HappensToHearingCaller before octets after result =
    (old : Terminals) (earlier : List ℕ) (others : List PlainItem) → old.joined.caller ≡ before.speaking →
    old.caller_framing ≡ before.framing → HasHeard before.framing earlier →
    (comes : PieceComes old.joined.to_caller (given_by result (heard_of earlier octets)) others) →
    ((first next : PlainSignal) (more : List PlainSignal) → comes.signals ≢ first ∷ next ∷ more) →
    (new : Terminals) × CallerHears old new × (new.joined.caller ≡ after.speaking) × (new.caller_framing ≡ after.framing)

-- the answerer's terminal hears octets that bring a piece of the line
abbrev pub HappensToHearingAnswerer :
    TerminalFields LimitedFields → List ℕ → TerminalFields LimitedFields → Result (Unit {0}) HearFault → Type 0
HappensToHearingAnswerer before octets after result =
    (old : Terminals) (earlier : List ℕ) (others : List PlainItem) → old.joined.answerer ≡ before.speaking →
    old.answerer_framing ≡ before.framing → HasHeard before.framing earlier →
    PieceComes old.joined.to_answerer (given_by result (heard_of earlier octets)) others →
    (new : Terminals) × AnswererHears old new × (new.joined.answerer ≡ after.speaking) × (new.answerer_framing ≡ after.framing)

-- two terminals with a line on which nothing is
abbrev pub at_rest : Speaking StoppableCallerFields → Speaking LimitedFields → Joined
at_rest caller answerer =
    record {
      caller = caller;
      answerer = answerer;
      to_answerer = [];
      to_caller = [];
      caller_clear = true;
      answerer_clear = true;
      pages = [];
    }

-- two terminals are new: a call begins with them
abbrev pub AreNew : Document → Wish → Caps → Limits → Speaking StoppableCallerFields → Speaking LimitedFields → Type 0
AreNew document wish caps limits caller answerer = Begins document wish caps limits (at_rest caller answerer)
