-- Laws of what a line makes of a conversation, in the words of the line: which lines say a carrier, which start T1 anew, what is watched, how
-- long after the last one a line can come, when an answerer begins, and of which page `kept` speaks.
use Rattle.std.specs.Prelude.{ℕ, ◌≡◌, ◌≢◌, ◌↔◌, ◌+◌, ◌++◌, ◌∷◌, [], ◌<◌, ◌≤◌, Bool, true, false, List, Option, Some, None}
use Rattle.conversations.specs.Conversations.{Behaviour, ConversationFields, IsInTime, IsOutOfTime, TakesLine, begins, frames, gives, input}
use Rattle.conversations.specs.Conversations.{next_quiet, refused_so}
use Rattle.conversations.specs.Holding.{can_come}
use Rattle.conversations.specs.Refusing.{new_watch}
use Rattle.conversations.specs.StoredLines.{received_octets}
use Rattle.conversations.specs.Talking.{rest_text}
use Rattle.conversations.specs.declared.carrier.Channel.TheVariants.{V21 as ByV21}
use Rattle.conversations.specs.declared.carrier.Kind.TheVariants.{Frames}
use Rattle.conversations.specs.declared.line.Said.{Said}
use Rattle.conversations.specs.declared.line.Said.TheVariants.{Quiet, Busy, Received, Told}
use Rattle.conversations.specs.declared.line.TimedLine.{TimedLine}
use Rattle.signals.specs.declared.params.Caps.{Caps}
use Rattle.signals.specs.declared.signal.Side.{Side}
use Rattle.stations.specs.declared.waiting.Wait.TheVariants.{T2, T4}
use Rattle.terminals.specs.Hearing.{HasHeard, check, good_frames, new_contents}
use Rattle.terminals.specs.Stopping.{stopped}
use Rattle.terminals.specs.Watching.{noted, refusal_of, seen_after}
use Rattle.terminals.specs.declared.clock.Clock.{Clock}
use Rattle.terminals.specs.declared.clock.Durations.{Durations}
use Rattle.terminals.specs.declared.stopping.Shown.{Shown}
use Rattle.terminals.specs.declared.watching.Refusal.{Refusal}

-- the line is an `rx`, of any carrier
abbrev pub is_received : Said → Bool
is_received (Received channel kind bits octets) = true
is_received said = false

-- the line is an `rx` of frames by V.21
abbrev pub is_v21 : Said → Bool
is_v21 (Received ByV21 Frames bits octets) = true
is_v21 said = false

-- the file that a line is about, `kept` or `lost`
abbrev pub told_file : Said → Option (List ℕ)
told_file (Told fate file) = Some file.items
told_file said = None

-- The law: at `busy` and after `rx` a carrier is or was on, so the line isn't calm, and neither T2 nor T4 has a time at which it is over. It is
-- calm from the first `quiet` after that on.
pub record LinesSayCarriers (S : Type 0) (b : Behaviour S) (old new : ConversationFields S) (line : TimedLine)
    (h : TakesLine S b old line new) : Type 0 where
  pub now : new.clock.now ≡ line.at
  pub busy : line.said ≡ Busy → new.clock.calm ≡ None
  pub received : is_received line.said ≡ true → new.clock.calm ≡ None
  pub first : line.said ≡ Quiet → old.clock.calm ≡ None → new.clock.calm ≡ Some line.at
  pub later : (since : ℕ) → line.said ≡ Quiet → old.clock.calm ≡ Some since → new.clock.calm ≡ Some since
  pub no_t2 : line.said ≡ Busy → h.later.running ≡ Some T2 → h.later.longer ≡ None →
      next_quiet true b.side h.later new.clock new.durations ≡ None
  pub no_t4 : line.said ≡ Busy → h.later.running ≡ Some T4 → h.later.longer ≡ None →
      next_quiet true b.side h.later new.clock new.durations ≡ None

-- The law: T1 runs anew from a line that brings a good frame, or the awaited training check, and from no other.
pub record FramesStartT1 (S : Type 0) (b : Behaviour S) (old new : ConversationFields S) (line : TimedLine) (h : TakesLine S b old line new) :
    Type 0 where
  pub v21 : (before : List ℕ) → HasHeard old.terminal.framing before → old.begun ≡ true → is_v21 line.said ≡ true →
      good_frames before < good_frames (before ++ received_octets line.said) → new.clock.heard ≡ line.at
  pub frame : (octets before : List ℕ) → gives b old h.shown line ≡ frames octets → HasHeard old.terminal.framing before →
      good_frames before < good_frames (before ++ octets) → new.clock.heard ≡ line.at
  pub no_frame : (octets before : List ℕ) → gives b old h.shown line ≡ frames octets → HasHeard old.terminal.framing before →
      good_frames (before ++ octets) ≤ good_frames before → new.clock.heard ≡ old.clock.heard
  pub trained : (octet : ℕ) (octets : List ℕ) → gives b old h.shown line ≡ input (check (octet ∷ octets)) → new.clock.heard ≡ line.at
  pub missed : gives b old h.shown line ≡ input (check []) → new.clock.heard ≡ old.clock.heard
  pub quiet : line.said ≡ Quiet → new.clock.heard ≡ old.clock.heard
  pub busy : line.said ≡ Busy → new.clock.heard ≡ old.clock.heard

-- The law: the contents of the good frames by V.21 that a line brings are seen, and no others. If the first two that a watched caller sends are
-- DCSs that aren't allowed, and such calls are refused, the call is stopped.
pub record FramesAreWatched (S : Type 0) (b : Behaviour S) (old new : ConversationFields S) (line : TimedLine) (h : TakesLine S b old line new) :
    Type 0 where
  pub seen : (before : List ℕ) → HasHeard old.terminal.framing before → old.begun ≡ true → is_v21 line.said ≡ true →
      new.watch.watched ≡ seen_after (noted h.shown.accepted old.watch.watched) (new_contents before (received_octets line.said))
  pub quiet : line.said ≡ Quiet → new.watch.watched ≡ noted h.shown.accepted old.watch.watched
  pub second : (before : List ℕ) (caps : Caps) (one other : List ℕ) (first next : Refusal) → HasHeard old.terminal.framing before →
      old.begun ≡ true → is_v21 line.said ≡ true → old.watch ≡ new_watch caps true →
      new_contents before (received_octets line.said) ≡ one ∷ other ∷ [] → refusal_of caps one ≡ Some first →
      refusal_of caps other ≡ Some next →
      (refused_so b new).terminal.speaking ≡ stopped b.cut_off b.stop_says new.terminal.speaking

-- the three laws, of each line that a station of this kind takes
pub record LinesTell (S : Type 0) (b : Behaviour S) (old new : ConversationFields S) (line : TimedLine) (h : TakesLine S b old line new) :
    Type 0 where
  pub carriers : LinesSayCarriers S b old new line h
  pub t1 : FramesStartT1 S b old new line h
  pub watched : FramesAreWatched S b old new line h

-- the same, at each line
abbrev pub LinesTellOf : (S : Type 0) → Behaviour S → Type 0
LinesTellOf S b = (old new : ConversationFields S) (line : TimedLine) (h : TakesLine S b old line new) → LinesTell S b old new line h

-- The law: a line can come 275 s after the last one, which is a block at 2,400 bit/s, unless both are quiet; 35 s after it or T1 in any case; and
-- never before it.
pub record BlocksAreInTime (S : Type 0) (c : ConversationFields S) (line : TimedLine) : Type 0 where
  pub carrier : c.clock.calm ≡ None → c.clock.now ≤ line.at → line.at ≤ c.clock.now + 275000 → IsInTime c line
  pub said : line.said ≢ Quiet → c.clock.now ≤ line.at → line.at ≤ c.clock.now + 275000 → IsInTime c line
  pub quiet : c.clock.now ≤ line.at → line.at ≤ c.clock.now + 35000 → IsInTime c line
  pub t1 : c.clock.now ≤ line.at → line.at ≤ c.clock.now + c.durations.t1 → IsInTime c line
  pub back : line.at < c.clock.now → IsOutOfTime c line
  pub jump : (since : ℕ) → c.clock.calm ≡ Some since → line.said ≡ Quiet → c.clock.now + 35000 < line.at →
      c.clock.now + c.durations.t1 < line.at → IsOutOfTime c line

-- the same, of each conversation of a kind of station
abbrev pub BlocksAreInTimeOf : Type 0 → Type 0
BlocksAreInTimeOf S = (c : ConversationFields S) (line : TimedLine) → BlocksAreInTime S c line

-- The law: the time that `wait` names before an answerer has begun is the one from which a quiet line begins it.
abbrev pub NamedBegins : Type 0
NamedBegins =
    (side : Side) (shown : Shown) (c : Clock) (d : Durations) (named at : ℕ) → next_quiet false side shown c d ≡ Some named →
    (begins Quiet at ≡ true) ↔ (named ≤ at)

-- the same, of a line that is taken, and in octets
pub record BeginsWhenNamed (S : Type 0) (b : Behaviour S) (old new : ConversationFields S) (line : TimedLine) (h : TakesLine S b old line new) :
    Type 0 where
  pub named : (at : ℕ) → old.begun ≡ false → line.said ≡ Quiet →
      next_quiet old.begun b.side h.shown old.clock old.durations ≡ Some at → (new.begun ≡ true) ↔ (at ≤ line.at)
  -- wait 1000
  pub text : old.begun ≡ false → old.says.waits ≡ true → h.shown.end ≡ None →
      rest_text b.side old h.shown ≡ 0x77 ∷ 0x61 ∷ 0x69 ∷ 0x74 ∷ 0x20 ∷ 0x31 ∷ 0x30 ∷ 0x30 ∷ 0x30 ∷ 0x0A ∷ []

-- the same, at each line
abbrev pub BeginsWhenNamedOf : (S : Type 0) → Behaviour S → Type 0
BeginsWhenNamedOf S b = (old new : ConversationFields S) (line : TimedLine) (h : TakesLine S b old line new) → BeginsWhenNamed S b old new line h

-- The law: a line about a file can come exactly if the page in that file is held; each other line can come at any time.
abbrev pub NamesWhatIsHeld : Type 0
NamesWhatIsHeld =
    (held : Option (List ℕ)) (said : Said) →
    ((file : List ℕ) → told_file said ≡ Some file → (can_come held said ≡ true) ↔ (held ≡ Some file)) ×
    (told_file said ≡ None → can_come held said ≡ true)
