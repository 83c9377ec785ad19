-- Laws of what a line gives a station, of the waits that are over at it, and of what is left to be said after a hang-up.
use Rattle.std.specs.Prelude.{ℕ, ◌≡◌, ◌≢◌, ◌⊎◌, ◌↔◌, ◌+◌, ◌≤◌, Bool, true, false, List, [], ◌∷◌, Some}
use Rattle.signals.specs.declared.params.Speed.{Speed}
use Rattle.signals.specs.declared.signal.Side.{Side}
use Rattle.signals.specs.declared.signal.Side.TheVariants.{Caller as CallerSide, Answerer as AnswererSide}
use Rattle.signals.specs.Signals.{dcn}
use Rattle.stations.specs.Bursts.{PlainBurst}
use Rattle.stations.specs.CallerFields.{Represents}
use Rattle.stations.specs.CallerStep.{Caller}
use Rattle.stations.specs.Inputs.{framed}
use Rattle.stations.specs.Limiting.{LimitedFields}
use Rattle.stations.specs.Stopping.{StoppableCallerFields}
use Rattle.stations.specs.declared.carrier.Carrier.TheVariants.{V21 as GoesByV21}
use Rattle.stations.specs.declared.listening.Listening.{Listening}
use Rattle.stations.specs.declared.listening.Listening.TheVariants.{Training}
use Rattle.stations.specs.declared.waiting.Wait.{Wait}
use Rattle.stations.specs.declared.waiting.Wait.TheVariants.{T1, T5}
use Rattle.terminals.specs.Clocks.{clock_at, wait_over}
use Rattle.terminals.specs.Hearing.{busy, check, over}
use Rattle.terminals.specs.Saying.{limited_lends, stoppable_lends}
use Rattle.terminals.specs.Sending.{IsSent}
use Rattle.terminals.specs.Speaking.{Takes}
use Rattle.terminals.specs.Stopping.{caller_cut_off, limited_cut_off}
use Rattle.terminals.specs.declared.clock.Clock.{Clock}
use Rattle.terminals.specs.declared.clock.Durations.{Durations}
use Rattle.terminals.specs.declared.clock.LineState.TheVariants.{Quiet as IsQuiet}
use Rattle.terminals.specs.declared.sending.SentBurst.{SentBurst}
use Rattle.terminals.specs.declared.stopping.Shown.{Shown}
use Rattle.conversations.specs.Conversations.{Behaviour, ConversationFields, TakesLine, begins, hung_up_so, line_gives}
use Rattle.conversations.specs.Conversations.{input, losing, nothing, stopping}
use Rattle.conversations.specs.Hearing.{heard_as, same_speed}
use Rattle.conversations.specs.Talking.{GivesAll}
use Rattle.conversations.specs.declared.carrier.Channel.{Channel}
use Rattle.conversations.specs.declared.carrier.Channel.TheVariants.{V21 as ByV21}
use Rattle.conversations.specs.declared.carrier.Kind.TheVariants.{Frames, Check}
use Rattle.conversations.specs.declared.hearing.Heard.TheVariants.{Frames as HeardFrames, Check as HeardCheck}
use Rattle.conversations.specs.declared.line.Said.{Said}
use Rattle.conversations.specs.declared.line.Said.TheVariants.{Quiet, Busy, NotReady, Ready, Missed, Stop, End}
use Rattle.conversations.specs.declared.line.TimedLine.{TimedLine}

-- The law: at a quiet line of a conversation that has begun, the station is given the end of the wait that is over then. That is T5 once its
-- duration has passed since the line after which the station showed it first, and T1 once it has since what was heard last.
pub record QuietEndsWaits (S : Type 0) (b : Behaviour S) (old new : ConversationFields S) (line : TimedLine) (h : TakesLine S b old line new) :
    Type 0 where
  pub ends : (wait : Wait) → wait_over b.side h.shown (clock_at old.clock IsQuiet line.at) old.durations ≡ Some wait →
      Takes S b.steps old.terminal.speaking (over wait) new.terminal.speaking
  pub t5 : (since : ℕ) → h.shown.longer ≡ Some T5 → old.clock.asked ≡ Some since → since + old.durations.t5 ≤ line.at →
      Takes S b.steps old.terminal.speaking (over T5) new.terminal.speaking
  pub t1 : h.shown.longer ≡ Some T1 → old.clock.heard + old.durations.t1 ≤ line.at →
      Takes S b.steps old.terminal.speaking (over T1) new.terminal.speaking

-- the same, of a caller or an answerer at each quiet line
abbrev pub QuietEndsWaitsOf : (S : Type 0) → Behaviour S → Type 0
QuietEndsWaitsOf S b =
    (old new : ConversationFields S) (line : TimedLine) (h : TakesLine S b old line new) → old.begun ≡ true → line.said ≡ Quiet →
    QuietEndsWaits S b old new line h

-- The law: what each line gives a station. Busy or not, a stop and the line's loss are given from the beginning on; before a station has
-- begun nothing else is; a carrier that is on gives nothing.
pub record LinesGive (side : Side) (shown : Shown) (c : Clock) (d : Durations) : Type 0 where
  pub not_ready : (begun : Bool) → line_gives begun side shown c d NotReady ≡ input (busy true)
  pub ready : (begun : Bool) → line_gives begun side shown c d Ready ≡ input (busy false)
  pub stop : (begun : Bool) → line_gives begun side shown c d Stop ≡ stopping
  pub ended : (begun : Bool) → line_gives begun side shown c d End ≡ losing
  pub carrier : (begun : Bool) → line_gives begun side shown c d Busy ≡ nothing
  pub quiet_first : line_gives false side shown c d Quiet ≡ nothing
  pub missed_first : line_gives false side shown c d Missed ≡ nothing
  pub quiet : (wait : Wait) → wait_over side shown c d ≡ Some wait → line_gives true side shown c d Quiet ≡ input (over wait)
  pub no_check : (speed : Speed) → shown.listens ≡ Training speed → line_gives true side shown c d Missed ≡ input (check [])
  pub no_other : ((speed : Speed) → shown.listens ≢ Training speed) → line_gives true side shown c d Missed ≡ nothing

-- the same, of all that a station can show, at each clock
abbrev pub LinesGiveAlways : Type 0
LinesGiveAlways = (side : Side) (shown : Shown) (c : Clock) (d : Durations) → LinesGive side shown c d

-- The law: a station begins at a quiet line from 1,000 ms on, and at one that stops it, and at no other.
abbrev pub BeginsAt : Type 0
BeginsAt = (said : Said) (at : ℕ) → (begins said at ≡ true) ↔ (((said ≡ Quiet) × (1000 ≤ at)) ⊎ (said ≡ Stop))

-- The law: two speeds are the same exactly if they are equal.
abbrev pub SpeedsAreTold : Type 0
SpeedsAreTold = (one other : Speed) → (same_speed one other ≡ true) ↔ (one ≡ other)

-- The law: frames are never heard as a training check, nor a check as frames; and frames by V.21 are always heard.
abbrev pub KindsAreHeard : Type 0
KindsAreHeard =
    (listens : Listening) (channel : Channel) → (heard_as listens channel Frames ≢ HeardCheck) ×
    (heard_as listens channel Check ≢ HeardFrames) × (heard_as listens ByV21 Frames ≡ HeardFrames)

-- DCN alone, by V.21
abbrev pub dcn_alone : PlainBurst
dcn_alone = record { carrier = GoesByV21; items = framed dcn ∷ [] }

-- one burst is given: DCN alone, and it is the last one
abbrev pub IsDcn : Side → List SentBurst → Type 0
IsDcn side bursts = (sent : SentBurst) × (bursts ≡ sent ∷ []) × IsSent side dcn_alone [] sent

-- The law: a caller's conversation that hung up gives DCN and nothing else, whatever was to be sent, and also if the call has ended.
abbrev pub CallersHangUp : Type 0
CallersHangUp =
    (old new : ConversationFields StoppableCallerFields) (t : Caller) (bursts : List SentBurst) →
    Represents old.terminal.speaking.station.station t →
    GivesAll CallerSide stoppable_lends (hung_up_so caller_cut_off old) bursts new → IsDcn CallerSide bursts

-- the same of an answerer with limits
abbrev pub AnswerersHangUp : Type 0
AnswerersHangUp =
    (old new : ConversationFields LimitedFields) (bursts : List SentBurst) →
    GivesAll AnswererSide limited_lends (hung_up_so limited_cut_off old) bursts new → IsDcn AnswererSide bursts
