-- When a line finds that a call has lasted as long as it may: rows worked by hand; and how it ends then.
use Rattle.std.specs.Prelude.{ℕ, ◌≡◌, Bool, true, false, None, Some}
use Rattle.conversations.specs.Conversations.{Behaviour, ConversationFields, refused_so, stopped_so}
use Rattle.conversations.specs.Refusing.{ends_by, gives_up, limit_of, refusal_in}
use Rattle.signals.specs.declared.signal.Side.{Side}
use Rattle.stations.specs.declared.stopping.CallEnd.{CallEnd}
use Rattle.stations.specs.declared.stopping.Cut.TheVariants.{Loss}
use Rattle.stations.specs.declared.turn.Turn.TheVariants.{Silent}
use Rattle.terminals.specs.Timeouts.{timeout}
use Rattle.terminals.specs.declared.clock.Clock.{Clock}
use Rattle.terminals.specs.declared.clock.Durations.{Durations}
use Rattle.terminals.specs.declared.clock.LineState.{LineState}
use Rattle.terminals.specs.declared.clock.LineState.TheVariants.{Quiet, Carrier, Ended, Unsaid}
use Rattle.terminals.specs.declared.stopping.Shown.{Shown}

-- whether a call of 60 s at most that goes on has lasted as long, at this time, whose line is so from then on
abbrev pub ends_at : LineState → ℕ → Side → Shown → Clock → Durations → Bool
ends_at state now side shown c d =
    ends_by (timeout state side (record shown { end = None }) (record c { now = now }) d (limit_of (Some 60000)))

-- whether such a call is given up in silence at this time
abbrev pub gives_up_at : LineState → ℕ → Side → Shown → Clock → Durations → Bool
gives_up_at state now side shown c d =
    gives_up (timeout state side (record shown { end = None }) (record c { now = now }) d (limit_of (Some 60000)))

-- The law, for a call of 60 s at most: on a quiet line it has lasted as long at 60 s, and so it has where a carrier has just ended; it is never
-- given up there, so that DCN is said. On a carrier it has at 70 s, as where the line isn't told, and is given up. A call that has ended never
-- has.
pub record LimitsByLines (side : Side) (shown : Shown) (c : Clock) (d : Durations) : Type 0 where
  pub early : ends_at Quiet 59999 side shown c d ≡ false
  pub quiet : ends_at Quiet 60000 side shown c d ≡ true
  pub sooner : ends_at Ended 59999 side shown c d ≡ false
  pub ended : ends_at Ended 60000 side shown c d ≡ true
  pub carrier : ends_at Carrier 69999 side shown c d ≡ false
  pub held : ends_at Carrier 70000 side shown c d ≡ true
  pub silent : ends_at Unsaid 69999 side shown c d ≡ false
  pub untold : ends_at Unsaid 70000 side shown c d ≡ true
  pub quiet_said : (now : ℕ) → gives_up_at Quiet now side shown c d ≡ false
  pub ended_said : (now : ℕ) → gives_up_at Ended now side shown c d ≡ false
  pub carrier_given_up : gives_up_at Carrier 70000 side shown c d ≡ true
  pub untold_given_up : gives_up_at Unsaid 70000 side shown c d ≡ true
  pub over : (state : LineState) (why : CallEnd) →
      ends_by (timeout state side (record shown { end = Some why }) (record c { now = 90000 }) d (limit_of (Some 60000))) ≡ false

-- The law: a call that has lasted as long as it may, and isn't refused, is stopped with DCN as at a line `stop`; one that is given up has
-- nothing left to be sent, and is cut off as by the loss of its line.
pub record LimitEnds (S : Type 0) (b : Behaviour S) (c : ConversationFields S) : Type 0 where
  pub dcn : refusal_in c.watch ≡ None → c.watch.late ≡ true → c.watch.given_up ≡ false → refused_so b c ≡ stopped_so b c
  pub silence : refusal_in c.watch ≡ None → c.watch.given_up ≡ true →
      (refused_so b c).terminal.speaking ≡ record { station = b.cut_off Loss c.terminal.speaking.station; turn = Silent; taken = 0 }

-- the law, of each conversation of a station
abbrev pub LimitEndsOf : (S : Type 0) → Behaviour S → Type 0
LimitEndsOf S b = (c : ConversationFields S) → LimitEnds S b c
