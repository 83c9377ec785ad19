-- The conversation of a station as a process: what each line gives the station, and when its waits are over.
use Rattle.std.specs.Prelude.{ℕ, ◌≡◌, ◌⊎◌, ◌||◌, ◌<◌, ◌≤◌, ◌+◌, ◌++◌, [], ◌∷◌, Bool, true, false, cond, nat_le, nat_lt, List, Option, Some, None, Result, Ok, Err}
use Rattle.conversations.specs.Hearing.{heard_as}
use Rattle.conversations.specs.Refusing.{ends_by, gives_up, no_watch, stop_in}
use Rattle.conversations.specs.declared.conversation.TakeFault.{TakeFault}
use Rattle.conversations.specs.declared.conversation.TakeFault.TheVariants.{OutOfTime, NoMemory}
use Rattle.conversations.specs.declared.giving.Given.{Given}
use Rattle.conversations.specs.declared.giving.Given.TheVariants.{Nothing as GivenNothing, Frames as GivenFrames, Check as GivenCheck}
use Rattle.conversations.specs.declared.giving.Given.TheVariants.{Over as GivenOver, Busy as GivenBusy, Stop as GivenStop}
use Rattle.conversations.specs.declared.giving.Given.TheVariants.{Loss as GivenLoss}
use Rattle.conversations.specs.declared.hearing.Heard.{Heard}
use Rattle.conversations.specs.declared.hearing.Heard.TheVariants.{Frames, Check, Nothing}
use Rattle.conversations.specs.declared.line.Said.{Said}
use Rattle.conversations.specs.declared.line.Said.TheVariants.{Quiet, Busy, Received, NotReady, Ready, Missed, Told, Stop, End}
use Rattle.conversations.specs.declared.line.TimedLine.{TimedLine}
use Rattle.conversations.specs.declared.refusing.CallerWatch.{CallerWatch}
use Rattle.conversations.specs.declared.refusing.StopCause.{StopCause}
use Rattle.conversations.specs.declared.refusing.StopCause.TheVariants.{Refused, TooLong, NeverQuiet}
use Rattle.conversations.specs.declared.writing.Says.{Says}
use Rattle.hdlc.specs.DeframerState.{DeframerState}
use Rattle.signals.specs.declared.signal.Side.{Side}
use Rattle.stations.specs.declared.listening.Listening.{Listening}
use Rattle.stations.specs.declared.listening.Listening.TheVariants.{V21, Training, V21OrPage, V21ThenPage}
use Rattle.stations.specs.declared.stopping.Cut.{Cut}
use Rattle.stations.specs.declared.turn.Turn.{Turn}
use Rattle.stations.specs.declared.waiting.Wait.{Wait}
use Rattle.terminals.specs.Clocks.{after_burst, asked_since, clock_at, heard_now, most_step, new_clock, wait_due, wait_over}
use Rattle.terminals.specs.Hearing.{HasHeard, PlainInput, check, said, over, busy, good_frames}
use Rattle.terminals.specs.Runs.{Hears, TerminalFields}
use Rattle.terminals.specs.Sending.{Sends}
use Rattle.terminals.specs.Speaking.{BurstsOf, StepOf, Takes}
use Rattle.stations.specs.Limiting.{LimitedFields}
use Rattle.terminals.specs.Stopping.{hung_up, silenced, stopped}
use Rattle.terminals.specs.Stopping.{with_pages_taken as without_its_pages}
use Rattle.terminals.specs.Timeouts.{timeout}
use Rattle.terminals.specs.Watching.{Sees, SeesBy, SeesOne, noted}
use Rattle.terminals.specs.declared.clock.Clock.{Clock}
use Rattle.terminals.specs.declared.clock.Durations.{Durations}
use Rattle.terminals.specs.declared.clock.LineState.{LineState}
use Rattle.terminals.specs.declared.clock.LineState.TheVariants.{Quiet as IsQuiet, Carrier as HasCarrier, Ended as HasEnded, Unsaid}
use Rattle.terminals.specs.declared.fault.HearFault.TheVariants.{FrameLost}
use Rattle.terminals.specs.declared.sending.SentBurst.{SentBurst}
use Rattle.terminals.specs.declared.stopping.Shown.{Shown}
use Rattle.terminals.specs.declared.watching.Watched.{Watched}

-- what a line gives a station: nothing, octets of frames, an input, or that its call is to be stopped or has lost its line
pub data PlainGiven : Type 0 where
  nothing stopping losing : PlainGiven
  frames : List ℕ → PlainGiven
  input : PlainInput → PlainGiven

-- the plain value of what the code gives a station
abbrev pub plain_given : Given → PlainGiven
plain_given GivenNothing = nothing
plain_given (GivenFrames octets) = frames octets.now
plain_given (GivenCheck octets) = input (check octets.now)
plain_given (GivenOver wait) = input (over wait)
plain_given (GivenBusy is) = input (busy is)
plain_given GivenStop = stopping
plain_given GivenLoss = losing

-- the wait that is over is given, if there is one
abbrev pub over_given : Option Wait → PlainGiven
over_given None = nothing
over_given (Some wait) = input (over wait)

-- what the station is given of octets, by how it hears them
abbrev pub heard_given : Heard → List ℕ → PlainGiven
heard_given Frames octets = frames octets
heard_given Check octets = input (check octets)
heard_given Nothing octets = nothing

-- if what was to be heard doesn't come, a station that listens for a training check has heard one without an octet, which is bad; nothing
-- is given of a page or of V.21, whose sender speaks again
abbrev pub missed_given : Listening → PlainGiven
missed_given V21 = nothing
missed_given (Training speed) = input (check [])
missed_given (V21OrPage speed) = nothing
missed_given (V21ThenPage speed) = nothing

-- what a line says of the line of the call: `quiet` that nothing is on it, `busy` that a carrier is on, `rx` that it has just ended
abbrev pub state_of : Said → LineState
state_of Quiet = IsQuiet
state_of Busy = HasCarrier
state_of (Received channel kind bits octets) = HasEnded
state_of NotReady = Unsaid
state_of Ready = Unsaid
state_of Missed = Unsaid
state_of (Told fate file) = Unsaid
state_of Stop = Unsaid
state_of End = Unsaid

-- What a line gives a station. Until the station has begun nothing is heard and no wait is over.
abbrev pub line_gives : Bool → Side → Shown → Clock → Durations → Said → PlainGiven
line_gives begun side shown c d Quiet = cond begun (over_given (wait_over side shown c d)) nothing
line_gives begun side shown c d Busy = nothing
line_gives begun side shown c d (Received channel kind bits octets) =
    cond begun (heard_given (heard_as shown.listens channel kind) octets.items) nothing
line_gives begun side shown c d NotReady = input (busy true)
line_gives begun side shown c d Ready = input (busy false)
line_gives begun side shown c d Missed = cond begun (missed_given shown.listens) nothing
line_gives begun side shown c d (Told fate file) = nothing
line_gives begun side shown c d Stop = stopping
line_gives begun side shown c d End = losing

-- A station begins at the first quiet line from 1,000 ms on, and at a line that stops it.
abbrev pub begins : Said → ℕ → Bool
begins Quiet at = nat_le 1000 at
begins Busy at = false
begins (Received channel kind bits octets) at = false
begins NotReady at = false
begins Ready at = false
begins Missed at = false
begins (Told fate file) at = false
begins Stop at = true
begins End at = false

-- the time from which a quiet line does something: a station that has begun ends a wait then, and an answerer that hasn't begins
abbrev pub next_quiet : Bool → Side → Shown → Clock → Durations → Option ℕ
next_quiet true side shown c d = wait_due side shown c d
next_quiet false side shown c d = Some 1000

-- octets bring a good frame that the octets before them hadn't
abbrev pub brings_frame : List ℕ → List ℕ → Bool
brings_frame before octets = nat_lt (good_frames before) (good_frames (before ++ octets))

-- the input is a training check of at least one octet, which is given only if it is awaited
abbrev pub is_check : PlainInput → Bool
is_check (said signal) = false
is_check (check []) = false
is_check (check (octet ∷ octets)) = true
is_check (over wait) = false
is_check (busy is) = false

-- a station as a conversation knows it: which one it is, its steps, its bursts, what it shows, and how its call is cut off
pub record Behaviour (S : Type 0) : Type 1 where
  pub side : Side
  pub steps : StepOf S
  pub lends : BurstsOf S
  pub shows : S → Shown → Type 0
  pub cut_off : Cut → S → S
  pub stop_says : S → Turn

-- a station of this side, with these steps and bursts, that shows this and is cut off so
abbrev pub behaviour :
    {S : Type 0} → Side → StepOf S → BurstsOf S → (S → Shown → Type 0) → (Cut → S → S) → (S → Turn) → Behaviour S
behaviour side steps lends shows cut_off stop_says =
    record { side = side; steps = steps; lends = lends; shows = shows; cut_off = cut_off; stop_says = stop_says }

-- a terminal was given what a line gives, and that brought a good frame or the awaited training check, or neither
abbrev pub Gives : {S : Type 0} → Behaviour S → TerminalFields S → PlainGiven → TerminalFields S → Bool → Type 0
Gives b old nothing new brought = (new ≡ old) × (brought ≡ false)
Gives b old stopping new brought =
    (new.framing ≡ old.framing) × (new.speaking ≡ stopped b.cut_off b.stop_says old.speaking) × (brought ≡ false)
Gives b old losing new brought = (new.framing ≡ old.framing) × (new.speaking ≡ silenced b.cut_off old.speaking) × (brought ≡ false)
Gives b old (frames octets) new brought =
    Hears b.steps b.lends old octets new (Ok tt) × ((before : List ℕ) → HasHeard old.framing before → brought ≡ brings_frame before octets)
Gives {S} b old (input x) new brought =
    (new.framing ≡ old.framing) × Takes S b.steps old.speaking x new.speaking × (brought ≡ is_check x)

-- what was seen in what a line gives a terminal: each good frame that its octets completed, and nothing in another input
abbrev pub SeesGiven : DeframerState → PlainGiven → Option Watched → Option Watched → Type 0
SeesGiven framing nothing old new = new ≡ old
SeesGiven framing stopping old new = new ≡ old
SeesGiven framing losing old new = new ≡ old
SeesGiven framing (frames octets) old new = Sees framing octets old new
SeesGiven framing (input x) old new = new ≡ old

-- what another watch saw in what a line gives a terminal: each good frame that its octets completed, and nothing in another input
abbrev pub SawGiven : {W : Type 0} → SeesOne W → DeframerState → PlainGiven → W → W → Type 0
SawGiven saw framing nothing old new = new ≡ old
SawGiven saw framing stopping old new = new ≡ old
SawGiven saw framing losing old new = new ≡ old
SawGiven saw framing (frames octets) old new = SeesBy saw framing octets old new
SawGiven saw framing (input x) old new = new ≡ old

-- octets were heard, but frames among them were lost, since memory was refused
abbrev pub LosesFrames : {S : Type 0} → Behaviour S → TerminalFields S → PlainGiven → TerminalFields S → Type 0
LosesFrames b old (frames octets) new = Hears b.steps b.lends old octets new (Err FrameLost)
LosesFrames b old given new = ⊥

-- memory was refused: nothing has changed, or octets were heard but frames among them were lost
abbrev pub IsRefused : {S : Type 0} → Behaviour S → TerminalFields S → PlainGiven → TerminalFields S → Type 0
IsRefused b old given new = (new ≡ old) ⊎ LosesFrames b old given new

-- a conversation: its terminal, its clock, how long its waits run, if it has begun, what it says beside its bursts, and what is watched
pub record ConversationFields (S : Type 0) : Type 0 where
  pub terminal : TerminalFields S
  pub clock : Clock
  pub durations : Durations
  pub begun : Bool
  pub says : Says
  pub watch : CallerWatch

-- nothing is said beside bursts, in bits, and a word
abbrev pub says_least : Says
says_least = record { hears = false; waits = false; frames = false }

-- a new conversation of a station, at time 0
abbrev pub IsNew : {S : Type 0} → TerminalFields S → Durations → Bool → ConversationFields S → Type 0
IsNew terminal durations begun new =
    new ≡ record { terminal = terminal; clock = new_clock; durations = durations; begun = begun; says = says_least; watch = no_watch }

-- the time of a line can follow that of the last one: it isn't before it, nor too late
abbrev pub IsInTime : {S : Type 0} → ConversationFields S → TimedLine → Type 0
IsInTime c line = (c.clock.now ≤ line.at) × (line.at ≤ c.clock.now + most_step c.clock.calm (state_of line.said) c.durations)

-- it can't: it is before that of the last line, or too late
abbrev pub IsOutOfTime : {S : Type 0} → ConversationFields S → TimedLine → Type 0
IsOutOfTime c line = (line.at < c.clock.now) ⊎ (c.clock.now + most_step c.clock.calm (state_of line.said) c.durations < line.at)

-- what a line gives the station of a conversation, by what the station shows
abbrev pub gives : {S : Type 0} → Behaviour S → ConversationFields S → Shown → TimedLine → PlainGiven
gives b old shown line = line_gives old.begun b.side shown (clock_at old.clock (state_of line.said) line.at) old.durations line.said

-- A line was taken, at a time that can follow that of the line before it: the terminal was given what it gives, and the clock and the
-- beginning were noted.
pub record TakesLine (S : Type 0) (b : Behaviour S) (old : ConversationFields S) (line : TimedLine) (new : ConversationFields S) :
    Type 0 where
  pub shown : Shown
  pub later : Shown
  pub brought : Bool
  pub in_time : IsInTime old line
  pub shows : b.shows old.terminal.speaking.station shown
  pub given : Gives b old.terminal (gives b old shown line) new.terminal brought
  pub shows_later : b.shows new.terminal.speaking.station later
  pub clock : new.clock ≡ asked_since later.longer (heard_now brought (clock_at old.clock (state_of line.said) line.at))
  pub begun : new.begun ≡ cond old.begun true (begins line.said line.at)
  pub durations : new.durations ≡ old.durations
  pub says : new.says ≡ old.says
  pub refuses : new.watch.refuses ≡ old.watch.refuses
  pub sees : SeesGiven old.terminal.framing (gives b old shown line) (noted shown.accepted old.watch.watched) new.watch.watched
  pub limit : new.watch.limit ≡ old.watch.limit
  pub late : new.watch.late ≡ (old.watch.late
      || ends_by (timeout (state_of line.said) b.side later new.clock old.durations old.watch.limit))
  pub given_up : new.watch.given_up ≡ (old.watch.given_up
      || gives_up (timeout (state_of line.said) b.side later new.clock old.durations old.watch.limit))

-- a watch saw each good frame that a line gives the terminal of a conversation, by what its station shows
pub record SawLine (S W : Type 0) (b : Behaviour S) (saw : SeesOne W) (old : ConversationFields S) (line : TimedLine) (was is : W) :
    Type 0 where
  pub shown : Shown
  pub shows : b.shows old.terminal.speaking.station shown
  pub saw_so : SawGiven saw old.terminal.framing (gives b old shown line) was is

-- memory was refused at a line: all but the terminal and what is watched is as it was; what is watched has noted the last accepted block, and
-- seen nothing, unless it heard the line
pub record RefusesLine (S : Type 0) (b : Behaviour S) (old : ConversationFields S) (line : TimedLine) (new : ConversationFields S) :
    Type 0 where
  pub shown : Shown
  pub in_time : IsInTime old line
  pub shows : b.shows old.terminal.speaking.station shown
  pub given : IsRefused b old.terminal (gives b old shown line) new.terminal
  pub refuses : new.watch.refuses ≡ old.watch.refuses
  pub sees : (new.watch.watched ≡ noted shown.accepted old.watch.watched) ⊎
      SeesGiven old.terminal.framing (gives b old shown line) (noted shown.accepted old.watch.watched) new.watch.watched
  pub lasts : (new.watch.limit ≡ old.watch.limit) × (new.watch.late ≡ old.watch.late) × (new.watch.given_up ≡ old.watch.given_up)
  pub rest : new ≡ record old { terminal = new.terminal; watch = new.watch }

-- a line was taken; or its time can't follow that of the line before it, and nothing has changed; or memory was refused
abbrev pub TakesOrRefuses :
    {S : Type 0} → Behaviour S → ConversationFields S → TimedLine → ConversationFields S → Result (Unit {0}) TakeFault → Type 0
TakesOrRefuses {S} b old line new (Ok done) = TakesLine S b old line new
TakesOrRefuses b old line new (Err OutOfTime) = IsOutOfTime old line × (new ≡ old)
TakesOrRefuses {S} b old line new (Err NoMemory) = RefusesLine S b old line new

-- the clock after a burst was given, or none was
abbrev pub clock_sent : {E : Type 0} → Result (Option SentBurst) E → Clock → Clock
clock_sent (Ok (Some sent)) c = after_burst c
clock_sent (Ok None) c = c
clock_sent (Err refused) c = c

-- the next burst is given, which ends the calm; none before the station has begun
abbrev pub SendsIfBegun :
    {S E : Type 0} → Side → BurstsOf S → Bool → ConversationFields S → ConversationFields S → Result (Option SentBurst) E → Type 0
SendsIfBegun side lends false old new result = (new ≡ old) × (result ≡ Ok None)
SendsIfBegun side lends true old new result =
    Sends side lends old.terminal.speaking new.terminal.speaking result × (new.terminal.framing ≡ old.terminal.framing) ×
    (new ≡ record old { terminal = new.terminal; clock = clock_sent result old.clock })

-- a conversation of an answerer with limits, whose pages were taken out of it
abbrev pub with_pages_taken : ConversationFields LimitedFields → ConversationFields LimitedFields
with_pages_taken old = record old { terminal = record old.terminal { speaking = without_its_pages old.terminal.speaking } }

-- a conversation that was stopped, with DCN to be sent in place of the turn that is kept
abbrev pub hung_up_so : {S : Type 0} → (Cut → S → S) → ConversationFields S → ConversationFields S
hung_up_so cut_off old =
    record old { terminal = record old.terminal { speaking = hung_up cut_off old.terminal.speaking }; begun = true }

-- a conversation whose call is stopped, as at a line `stop`
abbrev pub stopped_so : {S : Type 0} → Behaviour S → ConversationFields S → ConversationFields S
stopped_so b old = record old { terminal = record old.terminal { speaking = stopped b.cut_off b.stop_says old.terminal.speaking } }

-- a conversation whose call is given up in silence, as at a line `end`
abbrev pub silenced_so : {S : Type 0} → Behaviour S → ConversationFields S → ConversationFields S
silenced_so b old = record old { terminal = record old.terminal { speaking = silenced b.cut_off old.terminal.speaking } }

-- a conversation whose call is stopped for a reason, if there is one: in silence if its line never fell quiet, else with DCN
abbrev pub stopped_for : {S : Type 0} → Behaviour S → Option StopCause → ConversationFields S → ConversationFields S
stopped_for b None old = old
stopped_for b (Some (Refused why)) old = stopped_so b old
stopped_for b (Some TooLong) old = stopped_so b old
stopped_for b (Some NeverQuiet) old = silenced_so b old

-- a conversation whose call is stopped if it is refused, or has lasted as long as it may
abbrev pub refused_so : {S : Type 0} → Behaviour S → ConversationFields S → ConversationFields S
refused_so b old = stopped_for b (stop_in old.watch) old
