-- A line that was taken, from what each step of the code leaves.
use Rattle.std.proofs.Common.{◌≡◌, ◌⊎◌, ◌∙◌, Bool, true, ap, refl, subst}
use Rattle.std.specs.Prelude.{◌||◌, Option, cond}
use Rattle.conversations.specs.Refusing.{ends_by, gives_up}
use Rattle.conversations.specs.Conversations.{Behaviour, ConversationFields, Gives, IsInTime, IsRefused, PlainGiven, RefusesLine, SawGiven}
use Rattle.conversations.specs.Conversations.{SawLine, SeesGiven, TakesLine, begins, gives, line_gives, state_of}
use Rattle.conversations.specs.declared.line.TimedLine.{TimedLine}
use Rattle.signals.specs.declared.signal.Side.{Side}
use Rattle.terminals.specs.Clocks.{asked_since, clock_at, heard_now}
use Rattle.terminals.specs.Runs.{TerminalFields}
use Rattle.terminals.specs.declared.clock.Clock.{Clock}
use Rattle.terminals.specs.Timeouts.{timeout}
use Rattle.terminals.specs.declared.stopping.Shown.{Shown}
use Rattle.terminals.specs.declared.timeout.Timeout.{Timeout}
use Rattle.terminals.specs.Watching.{SeesOne, noted}
use Rattle.terminals.specs.declared.watching.Watched.{Watched}

-- what a line gives is what it gives by what the station shows
gives_is : {S : Type 0} (b : Behaviour S) (old : ConversationFields S) (line : TimedLine) (clock : Clock) (given : PlainGiven) (shown : Shown)
    (side : Side) → side ≡ b.side → clock ≡ clock_at old.clock (state_of line.said) line.at →
    given ≡ line_gives old.begun side shown clock old.durations line.said → given ≡ gives b old shown line
gives_is b old line clock given shown side side_is clock_is given_is =
    given_is ∙
    (ap (λ s. line_gives old.begun s shown clock old.durations line.said) side_is ∙
    ap (λ c. line_gives old.begun b.side shown c old.durations line.said) clock_is)

pub line_seen : {S W : Type 0} (b : Behaviour S) (saw : SeesOne W) (old : ConversationFields S) (line : TimedLine) (clock : Clock)
    (given : PlainGiven) (shown : Shown) (side : Side) (was is : W) → b.shows old.terminal.speaking.station shown → side ≡ b.side →
    clock ≡ clock_at old.clock (state_of line.said) line.at → given ≡ line_gives old.begun side shown clock old.durations line.said →
    SawGiven saw old.terminal.framing given was is → SawLine S W b saw old line was is
line_seen b saw old line clock given shown side was is shows side_is clock_is given_is seen = record {
  shown = shown;
  shows = shows;
  saw_so =
      subst (λ g. SawGiven saw old.terminal.framing g was is) (gives_is b old line clock given shown side side_is clock_is given_is) seen;
}

pub line_taken :
    {S : Type 0} (b : Behaviour S) (old : ConversationFields S) (line : TimedLine) (terminal : TerminalFields S) (clock heard asked : Clock)
    (begun brought : Bool) (given : PlainGiven) (shown later : Shown) (side : Side) (watched : Option Watched) (done : Option Timeout)
    (late given_up : Bool) →
    IsInTime old line → b.shows old.terminal.speaking.station shown → side ≡ b.side → clock ≡ clock_at old.clock (state_of line.said) line.at →
    given ≡ line_gives old.begun side shown clock old.durations line.said → Gives b old.terminal given terminal brought →
    b.shows terminal.speaking.station later → heard ≡ heard_now brought clock → asked ≡ asked_since later.longer heard →
    begun ≡ cond old.begun true (begins line.said line.at) → SeesGiven old.terminal.framing given (noted shown.accepted old.watch.watched) watched →
    done ≡ timeout (state_of line.said) side later asked old.durations old.watch.limit → late ≡ (old.watch.late || ends_by done) →
    given_up ≡ (old.watch.given_up || gives_up done) →
    TakesLine S b old line
    (record {
      terminal = terminal;
      clock = asked;
      durations = old.durations;
      begun = begun;
      says = old.says;
      watch = record old.watch { watched = watched; late = late; given_up = given_up };
    })
line_taken b old line terminal clock heard asked begun brought given shown later side watched done late given_up in_time shows side_is clock_is given_is
    gave shows_later heard_is asked_is begun_is seen done_is late_is given_up_is =
    let same : done ≡ timeout (state_of line.said) b.side later asked old.durations old.watch.limit =
    done_is ∙ ap (λ s. timeout (state_of line.said) s later asked old.durations old.watch.limit) side_is in
    record {
      shown = shown;
      later = later;
      brought = brought;
      in_time = in_time;
      shows = shows;
      given =
          subst (λ g. Gives b old.terminal g terminal brought)
          (gives_is b old line clock given shown side side_is clock_is given_is)
          gave;
      shows_later = shows_later;
      clock = asked_is ∙ (ap (asked_since later.longer) heard_is ∙ ap (λ c. asked_since later.longer (heard_now brought c)) clock_is);
      begun = begun_is;
      durations = refl;
      says = refl;
      refuses = refl;
      sees =
          subst (λ g. SeesGiven old.terminal.framing g (noted shown.accepted old.watch.watched) watched)
          (gives_is b old line clock given shown side side_is clock_is given_is)
          seen;
      limit = refl;
      late = late_is ∙ ap (λ d. old.watch.late || ends_by d) same;
      given_up = given_up_is ∙ ap (λ d. old.watch.given_up || gives_up d) same;
    }

-- a line for which memory was refused, from what each step of the code leaves
pub line_refused :
    {S : Type 0} (b : Behaviour S) (old : ConversationFields S) (line : TimedLine) (terminal : TerminalFields S) (clock : Clock)
    (given : PlainGiven) (shown : Shown) (side : Side) (watched : Option Watched) → IsInTime old line →
    b.shows old.terminal.speaking.station shown → side ≡ b.side → clock ≡ clock_at old.clock (state_of line.said) line.at →
    given ≡ line_gives old.begun side shown clock old.durations line.said → IsRefused b old.terminal given terminal →
    (watched ≡ noted shown.accepted old.watch.watched) ⊎ SeesGiven old.terminal.framing given (noted shown.accepted old.watch.watched) watched →
    RefusesLine S b old line (record old { terminal = terminal; watch = record old.watch { watched = watched } })
line_refused b old line terminal clock given shown side watched in_time shows side_is clock_is given_is refused seen = record {
  shown = shown;
  in_time = in_time;
  shows = shows;
  given =
      subst (λ g. IsRefused b old.terminal g terminal)
      (gives_is b old line clock given shown side side_is clock_is given_is)
      refused;
  refuses = refl;
  sees =
      subst (λ g. (watched ≡ noted shown.accepted old.watch.watched) ⊎ SeesGiven old.terminal.framing g (noted shown.accepted old.watch.watched) watched)
      (gives_is b old line clock given shown side side_is clock_is given_is)
      seen;
  lasts = (refl, refl, refl);
  rest = refl;
}
