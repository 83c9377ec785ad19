-- A terminal with its clock: what comes changes the terminal, and then it is told the time, and what the line is from then on.
use Rattle.std.specs.Prelude.{ℕ, ◌≡◌, ◌≢◌, ◌↔◌, ◌+◌, ◌-◌, ◌^◌, ◌≤◌, ◌||◌, Bool, true, false, List, [], nat_lt, min}
use Rattle.std.specs.Prelude.{Option, Some, None, Result, Ok, Err}
use Rattle.hdlc.specs.DeframerState.{DeframerState}
use Rattle.signals.specs.Reading.{read_content}
use Rattle.signals.specs.declared.signal.Side.{Side}
use Rattle.stations.specs.declared.listening.Listening.{Listening}
use Rattle.stations.specs.declared.listening.Listening.TheVariants.{V21, Training, V21OrPage, V21ThenPage}
use Rattle.signals.specs.declared.mark.Mark.{Mark}
use Rattle.stations.specs.declared.stopping.Cut.{Cut}
use Rattle.stations.specs.declared.turn.Turn.{Turn}
use Rattle.terminals.specs.Clocks.{after_burst, asked_since, new_clock}
use Rattle.terminals.specs.Figures.{no_figures}
use Rattle.terminals.specs.Hearing.{HasHeard, check, good_frames}
use Rattle.terminals.specs.Passing.{Acts, clock_told, is_awaited}
use Rattle.terminals.specs.Runs.{TerminalFields}
use Rattle.terminals.specs.Sending.{HasBurst}
use Rattle.terminals.specs.Speaking.{BurstsOf, StepOf, Takes}
use Rattle.terminals.specs.Timeouts.{timeout, timeout_due}
use Rattle.terminals.specs.Watching.{Sees, noted, seen_reading}
use Rattle.terminals.specs.declared.clock.Clock.{Clock}
use Rattle.terminals.specs.declared.clock.Durations.{Durations}
use Rattle.terminals.specs.declared.clock.LineState.{LineState}
use Rattle.terminals.specs.declared.clock.LineState.TheVariants.{Quiet, Carrier, Ended, Unsaid}
use Rattle.terminals.specs.declared.fault.HearFault.{HearFault}
use Rattle.terminals.specs.declared.fault.HearFault.TheVariants.{NothingTaken, FrameLost}
use Rattle.terminals.specs.declared.figures.Figures.{Figures}
use Rattle.terminals.specs.declared.passing.Moment.{Moment}
use Rattle.terminals.specs.declared.sending.SentBurst.{SentBurst}
use Rattle.terminals.specs.declared.stopping.Shown.{Shown}
use Rattle.terminals.specs.declared.timed.Next.{Next}
use Rattle.terminals.specs.declared.timed.Next.TheVariants.{Send, At, Nothing}
use Rattle.terminals.specs.declared.timeout.Limit.{Limit}
use Rattle.terminals.specs.declared.timeout.Timeout.{Timeout}
use Rattle.terminals.specs.declared.timeout.Timeout.TheVariants.{Stop, GiveUp}
use Rattle.terminals.specs.declared.watching.Watched.{Watched}

-- a terminal, its clock, what its line is, whether a good frame or the awaited training check has come since the time was told, how many good
-- frames came as contents, what is watched, what its call came to, how long its waits run, and how long its call lasts at most
pub record TimedFields (S : Type 0) : Type 0 where
  pub terminal : TerminalFields S
  pub clock : Clock
  pub line : LineState
  pub brought : Bool
  pub contents : ℕ
  pub watched : Option Watched
  pub figures : Figures
  pub durations : Durations
  pub limit : Limit

-- a terminal at 0 ms, of whose line nothing is said
abbrev pub new_timed : {S : Type 0} → TerminalFields S → Option Watched → Durations → Limit → TimedFields S
new_timed terminal watched durations limit = record {
  terminal = terminal;
  clock = new_clock;
  line = Unsaid;
  brought = false;
  contents = 0;
  watched = watched;
  figures = no_figures;
  durations = durations;
  limit = limit;
}

-- ---- what comes

-- the contents that octets completed were seen, by what watches a station that has accepted this block last; nothing was if no octet was taken
abbrev pub SeesSince : Option Mark → DeframerState → List ℕ → Option Watched → Option Watched → Result (Unit {0}) HearFault → Type 0
SeesSince mark framing octets was is (Ok done) = Sees framing octets (noted mark was) is
SeesSince mark framing octets was is (Err FrameLost) = Sees framing octets (noted mark was) is
SeesSince mark framing octets was is (Err NothingTaken) = is ≡ was

-- the contents that octets completed were seen, by the block that the station shows as accepted last
pub record SeesOctets (S : Type 0) (shows : S → Shown → Type 0) (old : TerminalFields S) (octets : List ℕ) (was is : Option Watched)
    (result : Result (Unit {0}) HearFault) : Type 0 where
  pub shown : Shown
  pub shows_so : shows old.speaking.station shown
  pub sees : SeesSince shown.accepted old.framing octets was is result

-- a content was seen, by the block that the station shows as accepted last
pub record SeesContent (S : Type 0) (shows : S → Shown → Type 0) (old : TerminalFields S) (content : List ℕ) (was is : Option Watched) :
    Type 0 where
  pub shown : Shown
  pub shows_so : shows old.speaking.station shown
  pub sees : is ≡ seen_reading (noted shown.accepted was) content (read_content content)

-- whether something has come, after octets were heard: it had, or more good frames were heard than before
pub record Brings (old new : DeframerState) (was is : Bool) : Type 0 where
  pub before : ℕ
  pub after : ℕ
  pub before_are : (octets : List ℕ) → HasHeard old octets → before ≡ good_frames octets
  pub after_are : (octets : List ℕ) → HasHeard new octets → after ≡ good_frames octets
  pub is_brought : is ≡ (was || nat_lt before after)

-- whether something has come, after octets were heard; as before if no octet was taken
abbrev pub BringsIfTaken : DeframerState → DeframerState → Bool → Bool → Result (Unit {0}) HearFault → Type 0
BringsIfTaken old new was is (Ok done) = Brings old new was is
BringsIfTaken old new was is (Err FrameLost) = Brings old new was is
BringsIfTaken old new was is (Err NothingTaken) = is ≡ was

-- whether something has come, after a training check was heard: it had, or the check was awaited
pub record BringsCheck (S : Type 0) (shows : S → Shown → Type 0) (station : S) (octets : List ℕ) (was is : Bool) : Type 0 where
  pub shown : Shown
  pub shows_so : shows station shown
  pub is_brought : is ≡ (was || is_awaited shown.listens octets)

-- what a station makes of it that what it listens for hasn't come: of a training check one without octets, of anything else nothing
abbrev pub MissesBy : (S : Type 0) → StepOf S → Listening → TerminalFields S → TerminalFields S → Type 0
MissesBy S steps (Training speed) old new = Takes S steps old.speaking (check []) new.speaking × (new.framing ≡ old.framing)
MissesBy S steps V21 old new = new ≡ old
MissesBy S steps (V21OrPage speed) old new = new ≡ old
MissesBy S steps (V21ThenPage speed) old new = new ≡ old

-- what a station listens for hasn't come
pub record Misses (S : Type 0) (steps : StepOf S) (shows : S → Shown → Type 0) (old new : TerminalFields S) : Type 0 where
  pub shown : Shown
  pub shows_so : shows old.speaking.station shown
  pub misses : MissesBy S steps shown.listens old new

-- one more; the count stops at 2^64 - 1
abbrev pub one_more : ℕ → ℕ
one_more count = min (count + 1) (2 ^ 64 - 1)

-- how many good frames were heard, of octets of the line and as contents; the count stops at 2^64 - 1
abbrev pub all_frames : List ℕ → ℕ → ℕ
all_frames octets contents = min (good_frames octets + contents) (2 ^ 64 - 1)

-- ---- the time

-- what a station shows while a burst waits to be sent, or none does: no wait runs until the burst was sent
abbrev pub unless_sending : Bool → Shown → Shown
unless_sending true shown = record shown { running = None; longer = None }
unless_sending false shown = shown

-- the clock at a time: the line is so, what has come is heard, and T5 runs if it is shown
abbrev pub told_clock : Shown → Clock → Moment → Clock
told_clock shown was moment = asked_since shown.longer (clock_told was moment)

-- what is to be done at a time of a terminal that shows this, by whether a burst waits to be sent
abbrev pub done_at : Side → Bool → Shown → Clock → Moment → Durations → Limit → Option Timeout
done_at side sending shown was moment d limit =
    timeout moment.line side (unless_sending sending shown) (told_clock shown was moment) d limit

-- A terminal was told the time. What is to be done then was done, and T5 runs from then on if it is new. No wait ends while a burst waits to
-- be sent.
pub record PassesUnlessSending (S : Type 0) (side : Side) (lends : BurstsOf S) (steps : StepOf S) (cut_off : Cut → S → S)
    (stop_says : S → Turn) (shows : S → Shown → Type 0) (moment : Moment) (d : Durations) (limit : Limit) (old : TerminalFields S)
    (was : Clock) (new : TerminalFields S) (is : Clock) (done : Option Timeout) : Type 0 where
  pub shown : Shown
  pub later : Shown
  pub sending : Bool
  pub shows_first : shows old.speaking.station shown
  pub has_burst : HasBurst lends old.speaking sending
  pub done_is : done ≡ done_at side sending shown was moment d limit
  pub acts : Acts S steps cut_off stop_says done old new
  pub shows_later : shows new.speaking.station later
  pub clock : is ≡ asked_since later.longer (told_clock shown was moment)

-- the terminal after a burst was given, or none was: the burst has ended the calm, and nothing is said of the line
abbrev pub after_given : {S E : Type 0} → Result (Option SentBurst) E → TimedFields S → TimedFields S
after_given (Ok (Some sent)) s = record s { clock = after_burst s.clock; line = Unsaid }
after_given (Ok None) s = s
after_given (Err refused) s = s

-- when something is to be done of a terminal that shows this, by whether a burst waits to be sent, if its line stays as it is and nothing
-- comes
abbrev pub due_at : LineState → Side → Bool → Shown → Clock → Durations → Limit → Option ℕ
due_at line side sending shown c d limit = timeout_due line side (unless_sending sending shown) c d limit

-- the time at which something is to be done of a terminal, if its line stays as it is and nothing comes
pub record IsDue (S : Type 0) (side : Side) (lends : BurstsOf S) (shows : S → Shown → Type 0) (s : TimedFields S) (at : Option ℕ) :
    Type 0 where
  pub shown : Shown
  pub sending : Bool
  pub shows_so : shows s.terminal.speaking.station shown
  pub has_burst : HasBurst lends s.terminal.speaking sending
  pub is : at ≡ due_at s.line side sending shown s.clock s.durations s.limit

-- what a program does next: it sends the burst that waits, or waits for the time that is due, or for what comes if there is none
abbrev pub next_of : Bool → Option ℕ → Next
next_of true due = Send
next_of false (Some at) = At at
next_of false None = Nothing

-- this is what a program does next
pub record IsNext (S : Type 0) (side : Side) (lends : BurstsOf S) (shows : S → Shown → Type 0) (s : TimedFields S) (next : Next) : Type 0 where
  pub shown : Shown
  pub sending : Bool
  pub shows_so : shows s.terminal.speaking.station shown
  pub has_burst : HasBurst lends s.terminal.speaking sending
  pub is : next ≡ next_of sending (due_at s.line side sending shown s.clock s.durations s.limit)

-- the clock of a terminal that was told the time and shows this afterwards
abbrev pub clock_after : Shown → Shown → Clock → Moment → Clock
clock_after shown later was moment = asked_since later.longer (told_clock shown was moment)

-- a later time at which nothing has come, and the line is as it was
abbrev pub calm_moment : LineState → ℕ → Moment
calm_moment line now = record { at = now; line = line; brought = false }

-- The law: after a terminal was told the time, while nothing comes and its line stays as it is, something is to be done at a later time exactly
-- if the time at which it is due is named, and isn't later. This holds while a burst waits to be sent, and while none does.
abbrev pub TimedAreDue : Type 0
TimedAreDue =
    (side : Side) (shown later : Shown) (was is : Clock) (moment : Moment) (d : Durations) (limit : Limit) (sending : Bool) (now : ℕ) →
    is ≡ clock_after shown later was moment → is.now ≤ now →
    (done_at side sending later is (calm_moment moment.line now) d limit ≢ None)
    ↔ ((due : ℕ) × (due_at moment.line side sending later is d limit ≡ Some due) × (due ≤ now))

-- a call that goes on and has a limit, at a time from the limit on: it is stopped where DCN can be said, and given up elsewhere once more time
-- has passed
pub record TimedLimitHolds (side : Side) (sending : Bool) (shown : Shown) (was : Clock) (d : Durations) (limit : Limit) (most at : ℕ)
    (brought : Bool) : Type 0 where
  pub quiet : most ≤ at → done_at side sending shown was (record { at = at; line = Quiet; brought = brought }) d limit ≡ Some Stop
  pub ended : most ≤ at → done_at side sending shown was (record { at = at; line = Ended; brought = brought }) d limit ≡ Some Stop
  pub carrier : most + limit.more ≤ at →
      done_at side sending shown was (record { at = at; line = Carrier; brought = brought }) d limit ≡ Some GiveUp
  pub unsaid : most + limit.more ≤ at →
      done_at side sending shown was (record { at = at; line = Unsaid; brought = brought }) d limit ≡ Some GiveUp

-- The law: the limit of a terminal's call holds whatever its line is, also while a burst waits to be sent.
abbrev pub TimedLimitsHold : Type 0
TimedLimitsHold =
    (side : Side) (sending : Bool) (shown : Shown) (was : Clock) (d : Durations) (limit : Limit) (most at : ℕ) (brought : Bool) →
    shown.end ≡ None → limit.most ≡ Some most → TimedLimitHolds side sending shown was d limit most at brought
