-- What a line makes of a conversation, from the record of a line that was taken.
use Rattle.std.proofs.Common.{◌≡◌, ◌≢◌, ◌∙◌, ◌+◌, ◌++◌, ◌∷◌, ◌<◌, ◌≤◌, ℕ, Bool, true, false, List, [], ap, arith, inl, inr, le_trans, refl, subst, sym}
use Rattle.std.proofs.Math.Nat.{le-max_left, le-max_right, max-le}
use Rattle.std.proofs.lemmas.Bool.{le-ltb, leb-true, le-leb, lt-ltb}
use Rattle.std.proofs.lemmas.Slice.Eq.{bytes_eq-Decides}
use Rattle.std.specs.Fmt.{digits}
use Rattle.std.specs.Prelude.{◌↔◌, Option, Some, None, cond, max, nat_le, ◌&&◌, ◌-◌}
use Rattle.conversations.specs.Conversations.{Behaviour, ConversationFields, Gives, SeesGiven, TakesLine, begins, brings_frame}
use Rattle.conversations.specs.Conversations.{frames, gives, input, is_check, line_gives, next_quiet, nothing, over_given, refused_so, state_of}
use Rattle.conversations.specs.Conversations.{stopped_for}
use Rattle.conversations.specs.Holding.{can_come}
use Rattle.conversations.specs.LineEffects.{BeginsWhenNamedOf, BlocksAreInTimeOf, FramesAreWatched, FramesStartT1}
use Rattle.conversations.specs.LineEffects.{LinesSayCarriers, LinesTellOf, NamedBegins, NamesWhatIsHeld, is_received, is_v21}
use Rattle.conversations.specs.LineEffects.{told_file}
use Rattle.conversations.specs.Refusing.{new_watch, refusal_seen, stop_for}
use Rattle.conversations.specs.StoredLines.{received_octets}
use Rattle.conversations.specs.Writing.{hear_lines, on_lines, rest_lines, wait_line}
use Rattle.conversations.specs.declared.carrier.Channel.TheVariants.{V21 as ByV21, Message}
use Rattle.conversations.specs.declared.carrier.Kind.TheVariants.{Frames, Check}
use Rattle.conversations.specs.declared.line.Said.{Said}
use Rattle.conversations.specs.declared.line.Said.TheVariants.{Quiet, Busy, Received, NotReady, Ready, Missed, Told, Stop, End}
use Rattle.conversations.specs.declared.line.TimedLine.{TimedLine}
use Rattle.conversations.specs.declared.refusing.CallerWatch.{CallerWatch}
use Rattle.signals.specs.declared.params.Caps.{Caps}
use Rattle.signals.specs.declared.signal.Side.{Side}
use Rattle.signals.specs.declared.signal.Side.TheVariants.{Caller, Answerer}
use Rattle.stations.specs.declared.listening.Listening.{Listening}
use Rattle.stations.specs.declared.waiting.Wait.{Wait}
use Rattle.stations.specs.declared.waiting.Wait.TheVariants.{T2, T4}
use Rattle.terminals.specs.Clocks.{calm_at, clock_at, due, earlier, heard_now, longer_due, most_step, running_due, wait_due, wait_over}
use Rattle.terminals.specs.Hearing.{HasHeard, check, good_frames, new_contents}
use Rattle.terminals.specs.Stopping.{stopped}
use Rattle.terminals.specs.Watching.{noted, refusal_for, refusal_of, refused_by, seen_after, second_refusal}
use Rattle.terminals.specs.Watching.{used_now, nothing_used, watched_after, nothing_watched}
use Rattle.terminals.specs.declared.clock.Clock.{Clock}
use Rattle.terminals.specs.declared.clock.Durations.{Durations}
use Rattle.terminals.specs.declared.clock.LineState.{LineState}
use Rattle.terminals.specs.declared.clock.LineState.TheVariants.{Quiet as IsQuiet, Carrier as HasCarrier, Ended as HasEnded, Unsaid}
use Rattle.terminals.specs.declared.stopping.Shown.{Shown}
use Rattle.terminals.specs.declared.watching.Refusal.{Refusal}
use Rattle.terminals.specs.declared.watching.Watched.{Watched}

-- ---- the clock

same_calm : (brought : Bool) (c : Clock) → (heard_now brought c).calm ≡ c.calm
same_calm true c = refl
same_calm false c = refl

same_now : (brought : Bool) (c : Clock) → (heard_now brought c).now ≡ c.now
same_now true c = refl
same_now false c = refl

-- the calm after a line, by what it says of the line of the call
calm_after : {S : Type 0} (b : Behaviour S) (old new : ConversationFields S) (line : TimedLine) → TakesLine S b old line new →
    new.clock.calm ≡ calm_at old.clock.calm (state_of line.said) line.at
calm_after b old new line h =
    ap (λ (c : Clock). c.calm) h.clock ∙ same_calm h.brought (clock_at old.clock (state_of line.said) line.at)

-- the time that T1 runs from after a line, by what it brought
heard_after : {S : Type 0} (b : Behaviour S) (old new : ConversationFields S) (line : TimedLine) (h : TakesLine S b old line new)
    (brought : Bool) → h.brought ≡ brought →
    new.clock.heard ≡ (heard_now brought (clock_at old.clock (state_of line.said) line.at)).heard
heard_after b old new line h brought is =
    ap (λ (c : Clock). c.heard) h.clock ∙
    ap (λ (so : Bool). (heard_now so (clock_at old.clock (state_of line.said) line.at)).heard) is

received_state : (said : Said) (calm : Option ℕ) (at : ℕ) → is_received said ≡ true → calm_at calm (state_of said) at ≡ None
received_state (Received channel kind bits octets) calm at is = refl
received_state Quiet calm at is = cc
received_state Busy calm at is = cc
received_state NotReady calm at is = cc
received_state Ready calm at is = cc
received_state Missed calm at is = cc
received_state (Told fate file) calm at is = cc
received_state Stop calm at is = cc
received_state End calm at is = cc

-- no time is named for T2 and T4 while the line isn't calm
none_due : (side : Side) (shown : Shown) (c : Clock) (d : Durations) (wait : Wait) →
    ((c : Clock) → c.calm ≡ None → running_due side (Some wait) c d ≡ None) → shown.running ≡ Some wait → shown.longer ≡ None →
    c.calm ≡ None → wait_due side shown c d ≡ None
none_due side shown c d wait none running longer calm =
    ap (λ (it : Option Wait). earlier (longer_due it c d) (running_due side shown.running c d)) longer ∙
    (ap (λ (it : Option Wait). running_due side it c d) running ∙ none c calm)

no_t2 : (side : Side) (d : Durations) (c : Clock) → c.calm ≡ None → running_due side (Some T2) c d ≡ None
no_t2 Caller d c calm = ap (λ (since : Option ℕ). due since d.t2) calm
no_t2 Answerer d c calm = ap (λ (since : Option ℕ). due since d.t2) calm

no_t4 : (side : Side) (d : Durations) (c : Clock) → c.calm ≡ None → running_due side (Some T4) c d ≡ None
no_t4 Caller d c calm = ap (λ (since : Option ℕ). due since d.t4) calm
no_t4 Answerer d c calm = ap (λ (since : Option ℕ). due since d.t4) calm

carriers : {S : Type 0} (b : Behaviour S) (old new : ConversationFields S) (line : TimedLine) (h : TakesLine S b old line new) →
    LinesSayCarriers S b old new line h
carriers {S} b old new line h = record {
  now = ap (λ (c : Clock). c.now) h.clock ∙ same_now h.brought (clock_at old.clock (state_of line.said) line.at);
  busy = busy;
  received = λ is. after ∙ received_state line.said old.clock.calm line.at is;
  first = λ quiet none. after ∙ (ap (λ said. calm_at old.clock.calm (state_of said) line.at) quiet ∙ ap (λ calm. calm_at calm IsQuiet line.at) none);
  later = λ since quiet some.
      after ∙ (ap (λ said. calm_at old.clock.calm (state_of said) line.at) quiet ∙ ap (λ calm. calm_at calm IsQuiet line.at) some);
  no_t2 = λ is running longer.
      none_due b.side h.later new.clock new.durations T2 (no_t2 b.side new.durations) running longer (busy is);
  no_t4 = λ is running longer.
      none_due b.side h.later new.clock new.durations T4 (no_t4 b.side new.durations) running longer (busy is);
}
  where
    after : new.clock.calm ≡ calm_at old.clock.calm (state_of line.said) line.at
    after = calm_after b old new line h

    busy : line.said ≡ Busy → new.clock.calm ≡ None
    busy is = after ∙ ap (λ said. calm_at old.clock.calm (state_of said) line.at) is

-- ---- what is heard

-- frames by V.21 are given as frames to a station that has begun
v21_gives : (side : Side) (shown : Shown) (c : Clock) (d : Durations) (said : Said) → is_v21 said ≡ true →
    line_gives true side shown c d said ≡ frames (received_octets said)
v21_gives side shown c d (Received ByV21 Frames bits octets) is = refl
v21_gives side shown c d (Received ByV21 Check bits octets) is = cc
v21_gives side shown c d (Received (Message speed) Frames bits octets) is = cc
v21_gives side shown c d (Received (Message speed) Check bits octets) is = cc
v21_gives side shown c d Quiet is = cc
v21_gives side shown c d Busy is = cc
v21_gives side shown c d NotReady is = cc
v21_gives side shown c d Ready is = cc
v21_gives side shown c d Missed is = cc
v21_gives side shown c d (Told fate file) is = cc
v21_gives side shown c d Stop is = cc
v21_gives side shown c d End is = cc

given_v21 : {S : Type 0} (b : Behaviour S) (old : ConversationFields S) (shown : Shown) (line : TimedLine) → old.begun ≡ true →
    is_v21 line.said ≡ true → gives b old shown line ≡ frames (received_octets line.said)
given_v21 b old shown line begun is =
    ap (λ (now : Bool). line_gives now b.side shown (clock_at old.clock (state_of line.said) line.at) old.durations line.said) begun ∙
    v21_gives b.side shown (clock_at old.clock (state_of line.said) line.at) old.durations line.said is

-- frames were given: whether one was good is what was brought
brought_by : {S : Type 0} (b : Behaviour S) (old new : ConversationFields S) (line : TimedLine) (h : TakesLine S b old line new)
    (octets before : List ℕ) → gives b old h.shown line ≡ frames octets → HasHeard old.terminal.framing before →
    h.brought ≡ brings_frame before octets
brought_by b old new line h octets before is heard =
    (subst (λ it. Gives b old.terminal it new.terminal h.brought) is h.given).1 before heard

brought_input : {S : Type 0} (b : Behaviour S) (old new : ConversationFields S) (line : TimedLine) (h : TakesLine S b old line new)
    (octets : List ℕ) → gives b old h.shown line ≡ input (check octets) → h.brought ≡ is_check (check octets)
brought_input b old new line h octets is = (subst (λ it. Gives b old.terminal it new.terminal h.brought) is h.given).2

-- what a quiet line gives brings nothing
over_brings : {S : Type 0} (b : Behaviour S) (old new : ConversationFields S) (line : TimedLine) (h : TakesLine S b old line new)
    (begun : Bool) (wait : Option Wait) →
    gives b old h.shown line ≡ cond begun (over_given wait) nothing → h.brought ≡ false
over_brings b old new line h false wait is = (subst (λ it. Gives b old.terminal it new.terminal h.brought) is h.given).1
over_brings b old new line h true None is = (subst (λ it. Gives b old.terminal it new.terminal h.brought) is h.given).1
over_brings b old new line h true (Some wait) is = (subst (λ it. Gives b old.terminal it new.terminal h.brought) is h.given).2

t1 : {S : Type 0} (b : Behaviour S) (old new : ConversationFields S) (line : TimedLine) (h : TakesLine S b old line new) →
    FramesStartT1 S b old new line h
t1 {S} b old new line h = record {
  v21 = λ before heard begun is some. frame (received_octets line.said) before (given_v21 b old h.shown line begun is) heard some;
  frame = frame;
  no_frame = λ octets before is heard none.
      heard_after b old new line h false
      (brought_by b old new line h octets before is heard ∙ le-ltb (good_frames before) (good_frames (before ++ octets)) none);
  trained = λ octet octets is. heard_after b old new line h true (brought_input b old new line h (octet ∷ octets) is);
  missed = λ is. heard_after b old new line h false (brought_input b old new line h [] is);
  quiet = λ quiet.
      heard_after b old new line h false
      (over_brings b old new line h old.begun (wait_over b.side h.shown (clock_at old.clock (state_of line.said) line.at) old.durations)
      (ap (λ said. line_gives old.begun b.side h.shown (clock_at old.clock (state_of line.said) line.at) old.durations said) quiet));
  busy = λ busy.
      heard_after b old new line h false
      (subst (λ it. Gives b old.terminal it new.terminal h.brought)
      (ap (λ said. line_gives old.begun b.side h.shown (clock_at old.clock (state_of line.said) line.at) old.durations said) busy) h.given).1;
}
  where
    frame : (octets before : List ℕ) → gives b old h.shown line ≡ frames octets → HasHeard old.terminal.framing before →
        good_frames before < good_frames (before ++ octets) → new.clock.heard ≡ line.at
    frame octets before is heard some =
        heard_after b old new line h true
        (brought_by b old new line h octets before is heard ∙ lt-ltb (good_frames before) (good_frames (before ++ octets)) some)

-- ---- what is watched

seen_so : {S : Type 0} (b : Behaviour S) (old new : ConversationFields S) (line : TimedLine) (h : TakesLine S b old line new) (before : List ℕ) →
    HasHeard old.terminal.framing before → old.begun ≡ true → is_v21 line.said ≡ true →
    new.watch.watched ≡ seen_after (noted h.shown.accepted old.watch.watched) (new_contents before (received_octets line.said))
seen_so b old new line h before heard begun is =
    subst (λ it. SeesGiven old.terminal.framing it (noted h.shown.accepted old.watch.watched) new.watch.watched)
    (given_v21 b old h.shown line begun is) h.sees before heard

-- nothing is seen in what a quiet line gives
over_seen : {S : Type 0} (b : Behaviour S) (old new : ConversationFields S) (line : TimedLine) (h : TakesLine S b old line new)
    (begun : Bool) (wait : Option Wait) →
    gives b old h.shown line ≡ cond begun (over_given wait) nothing → new.watch.watched ≡ noted h.shown.accepted old.watch.watched
over_seen b old new line h false wait is =
    subst (λ it. SeesGiven old.terminal.framing it (noted h.shown.accepted old.watch.watched) new.watch.watched) is h.sees
over_seen b old new line h true None is =
    subst (λ it. SeesGiven old.terminal.framing it (noted h.shown.accepted old.watch.watched) new.watch.watched) is h.sees
over_seen b old new line h true (Some wait) is =
    subst (λ it. SeesGiven old.terminal.framing it (noted h.shown.accepted old.watch.watched) new.watch.watched) is h.sees

-- a call with a second refusal is refused, also if a number was used again
refused_again : {S : Type 0} (b : Behaviour S) (new : ConversationFields S) (w : Watched) (why : Refusal) (again : Bool) →
    w.used.again ≡ again → new.watch.watched ≡ Some w → new.watch.refuses ≡ true → second_refusal w.refused ≡ Some why →
    (refused_so b new).terminal.speaking ≡ stopped b.cut_off b.stop_says new.terminal.speaking
refused_again b new w why false again watched refuses second =
    ap (λ (it : Option Refusal). (stopped_for b (stop_for it new.watch.late new.watch.given_up) new).terminal.speaking)
    (ap (λ (so : Bool). refusal_seen so new.watch.watched) refuses ∙
    (ap (λ (seen : Option Watched). refusal_seen true seen) watched ∙
    (ap (λ (so : Bool). refusal_for (second_refusal w.refused) so) again ∙ second)))
refused_again b new w why true again watched refuses second =
    ap (λ (it : Option Refusal). (stopped_for b (stop_for it new.watch.late new.watch.given_up) new).terminal.speaking)
    (ap (λ (so : Bool). refusal_seen so new.watch.watched) refuses ∙
    (ap (λ (seen : Option Watched). refusal_seen true seen) watched ∙
    ap (λ (so : Bool). refusal_for (second_refusal w.refused) so) again))

watched : {S : Type 0} (b : Behaviour S) (old new : ConversationFields S) (line : TimedLine) (h : TakesLine S b old line new) →
    FramesAreWatched S b old new line h
watched {S} b old new line h = record {
  seen = seen_so b old new line h;
  quiet = λ quiet.
      over_seen b old new line h old.begun (wait_over b.side h.shown (clock_at old.clock (state_of line.said) line.at) old.durations)
      (ap (λ said. line_gives old.begun b.side h.shown (clock_at old.clock (state_of line.said) line.at) old.durations said) quiet);
  second = second;
}
  where
    second : (before : List ℕ) (caps : Caps) (one other : List ℕ) (first next : Refusal) → HasHeard old.terminal.framing before →
        old.begun ≡ true → is_v21 line.said ≡ true → old.watch ≡ new_watch caps true →
        new_contents before (received_octets line.said) ≡ one ∷ other ∷ [] → refusal_of caps one ≡ Some first →
        refusal_of caps other ≡ Some next →
        (refused_so b new).terminal.speaking ≡ stopped b.cut_off b.stop_says new.terminal.speaking
    second before caps one other first next heard begun is fresh brings one_is other_is =
        let start : Watched = record (nothing_watched caps) { used = used_now h.shown.accepted nothing_used } in
        let w : Watched = watched_after start (one ∷ other ∷ []) in
        let seen : new.watch.watched ≡ Some w =
        seen_so b old new line h before heard begun is ∙
        (ap (λ (watch : CallerWatch). seen_after (noted h.shown.accepted watch.watched) (new_contents before (received_octets line.said))) fresh ∙
        ap (λ (contents : List (List ℕ)). seen_after (Some start) contents) brings) in
        let twice : second_refusal w.refused ≡ Some next =
        ap (λ (why : Option Refusal). second_refusal (refused_by (refused_by start.refused why) (refusal_of caps other))) one_is ∙
        ap (λ (why : Option Refusal). second_refusal (refused_by (refused_by start.refused (Some first)) why)) other_is in
        refused_again b new w next w.used.again refl seen (h.refuses ∙ ap (λ (watch : CallerWatch). watch.refuses) fresh) twice

pub lines_tell : (S : Type 0) (b : Behaviour S) → LinesTellOf S b
lines_tell S b old new line h = record { carriers = carriers b old new line h; t1 = t1 b old new line h; watched = watched b old new line h }

-- ---- how late a line can come

ten_minutes : (d : Durations) → 275000 ≤ max d.t1 600000
ten_minutes d = le_trans (omega arith) (le-max_right d.t1 600000)

long_enough : (calm : Option ℕ) (line : LineState) (d : Durations) → line ≢ IsQuiet → 275000 ≤ most_step calm line d
long_enough calm IsQuiet d other = absurd (other refl)
long_enough None HasCarrier d other = ten_minutes d
long_enough (Some since) HasCarrier d other = ten_minutes d
long_enough None HasEnded d other = ten_minutes d
long_enough (Some since) HasEnded d other = ten_minutes d
long_enough None Unsaid d other = ten_minutes d
long_enough (Some since) Unsaid d other = ten_minutes d

-- the same after a line that wasn't quiet, or on which a burst was sent
after_none : (line : LineState) (d : Durations) → 275000 ≤ most_step None line d
after_none IsQuiet d = ten_minutes d
after_none HasCarrier d = ten_minutes d
after_none HasEnded d = ten_minutes d
after_none Unsaid d = ten_minutes d

-- T1 and 35 s can pass before any line
least : (calm : Option ℕ) (line : LineState) (d : Durations) → (d.t1 ≤ most_step calm line d) × (35000 ≤ most_step calm line d)
least (Some since) IsQuiet d = (le-max_left d.t1 35000, le-max_right d.t1 35000)
least None IsQuiet d = (le-max_left d.t1 600000, le_trans (omega arith) (le-max_right d.t1 600000))
least None HasCarrier d = (le-max_left d.t1 600000, le_trans (omega arith) (le-max_right d.t1 600000))
least (Some since) HasCarrier d = (le-max_left d.t1 600000, le_trans (omega arith) (le-max_right d.t1 600000))
least None HasEnded d = (le-max_left d.t1 600000, le_trans (omega arith) (le-max_right d.t1 600000))
least (Some since) HasEnded d = (le-max_left d.t1 600000, le_trans (omega arith) (le-max_right d.t1 600000))
least None Unsaid d = (le-max_left d.t1 600000, le_trans (omega arith) (le-max_right d.t1 600000))
least (Some since) Unsaid d = (le-max_left d.t1 600000, le_trans (omega arith) (le-max_right d.t1 600000))

no_other_quiet : (said : Said) → state_of said ≡ IsQuiet → said ≡ Quiet
no_other_quiet Quiet is = refl
no_other_quiet Busy is = cc
no_other_quiet (Received channel kind bits octets) is = cc
no_other_quiet NotReady is = cc
no_other_quiet Ready is = cc
no_other_quiet Missed is = cc
no_other_quiet (Told fate file) is = cc
no_other_quiet Stop is = cc
no_other_quiet End is = cc

within : (now at step most : ℕ) → step ≤ most → at ≤ now + step → at ≤ now + most
within now at step most more early = omega (arith, more, early)

past : (now at t1 : ℕ) → now + 35000 < at → now + t1 < at → now + max t1 35000 < at
past now at t1 long longer =
    let k : max t1 35000 ≤ at - (now + 1) = max-le (omega (arith, longer)) (omega (arith, long)) in
    omega (arith, k, long)

pub in_time : (S : Type 0) → BlocksAreInTimeOf S
in_time S c line = record {
  carrier = λ calm after early. (
    after,
    within c.clock.now line.at 275000 _
        (subst (λ since. 275000 ≤ most_step since (state_of line.said) c.durations) (sym calm) (after_none (state_of line.said) c.durations)) early,
  );
  said = λ other after early. (
    after,
    within c.clock.now line.at 275000 _
        (long_enough c.clock.calm (state_of line.said) c.durations (λ is. other (no_other_quiet line.said is))) early,
  );
  quiet = λ after early. (
    after,
    within c.clock.now line.at 35000 _ (least c.clock.calm (state_of line.said) c.durations).1 early,
  );
  t1 = λ after early. (
    after,
    within c.clock.now line.at c.durations.t1 _ (least c.clock.calm (state_of line.said) c.durations).0 early,
  );
  back = λ early. inl early;
  jump = λ since calm quiet late later.
      inr
      (subst (λ state. c.clock.now + most_step c.clock.calm state c.durations < line.at) (sym (ap state_of quiet))
      (subst (λ from. c.clock.now + most_step from IsQuiet c.durations < line.at) (sym calm)
      (past c.clock.now line.at c.durations.t1 late later)));
}

-- ---- when an answerer begins

begins_named : (begun : Bool) (named at : ℕ) → Some 1000 ≡ Some named → begun ≡ nat_le 1000 at → (begun ≡ true) ↔ (named ≤ at)
begins_named begun named at is so =
    let from : 1000 ≡ named = cc in (
      λ yes. subst (λ k. k ≤ at) from (leb-true 1000 at (sym so ∙ yes)),
      λ late. so ∙ le-leb 1000 at (subst (λ k. k ≤ at) (sym from) late),
    )

pub named_begins : NamedBegins
named_begins side shown c d named at is = begins_named (begins Quiet at) named at is refl

no_hears : (hears : Bool) (listens : Listening) (text : List ℕ) → hear_lines (hears && false) listens ++ text ≡ text
no_hears true listens text = refl
no_hears false listens text = refl

pub begins_when_named : (S : Type 0) (b : Behaviour S) → BeginsWhenNamedOf S b
unfolding digits
begins_when_named S b old new line h = record {
  named = λ at begun quiet is.
      begins_named new.begun at line.at
      (sym (ap (λ (now : Bool). next_quiet now b.side h.shown old.clock old.durations) begun) ∙ is)
      (h.begun ∙ (ap (λ (now : Bool). cond now true (begins line.said line.at)) begun ∙ ap (λ said. begins said line.at) quiet));
  text = λ begun waits goes_on.
      ap (λ end. rest_lines end (on_lines old.says old.begun h.shown.listens (next_quiet old.begun b.side h.shown old.clock old.durations))) goes_on ∙
      (ap (λ (now : Bool). on_lines old.says now h.shown.listens (next_quiet now b.side h.shown old.clock old.durations)) begun ∙
      (no_hears old.says.hears h.shown.listens (wait_line (cond old.says.waits (Some 1000) None)) ∙
      ap (λ (wanted : Bool). wait_line (cond wanted (Some 1000) None)) waits));
}

-- ---- of which page a line speaks

told_by_name : (held : Option (List ℕ)) (said : Said) (file : List ℕ) → told_file said ≡ Some file →
    (can_come held said ≡ true) ↔ (held ≡ Some file)
told_by_name None (Told fate name) file is = (λ comes. absurd cc, λ same. absurd cc)
told_by_name (Some held) (Told fate name) file is =
    let same : name.items ≡ file = cc in (
      λ comes. ap Some ((bytes_eq-Decides held name.items).0 comes ∙ same),
      λ held_is. (bytes_eq-Decides held name.items).1 (let that : held ≡ file = cc in that ∙ sym same),
    )
told_by_name held Quiet file is = cc
told_by_name held Busy file is = cc
told_by_name held (Received channel kind bits octets) file is = cc
told_by_name held NotReady file is = cc
told_by_name held Ready file is = cc
told_by_name held Missed file is = cc
told_by_name held Stop file is = cc
told_by_name held End file is = cc

told_of_none : (held : Option (List ℕ)) (said : Said) → told_file said ≡ None → can_come held said ≡ true
told_of_none held (Told fate name) none = cc
told_of_none held Quiet none = refl
told_of_none held Busy none = refl
told_of_none held (Received channel kind bits octets) none = refl
told_of_none held NotReady none = refl
told_of_none held Ready none = refl
told_of_none held Missed none = refl
told_of_none held Stop none = refl
told_of_none held End none = refl

pub names_what_is_held : NamesWhatIsHeld
names_what_is_held held said = (told_by_name held said, told_of_none held said)
