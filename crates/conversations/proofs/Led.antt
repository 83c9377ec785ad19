-- Where the station of a conversation stands after a line.
use Rattle.std.proofs.Common.{◌≡◌, ◌∙◌, ℕ, Bool, true, false, List, [], ◌∷◌, ap, refl, subst, sym}
use Rattle.std.specs.Prelude.{Option, Some, None, cond}
use Rattle.conversations.specs.Answering.{limited_behaviour}
use Rattle.conversations.specs.Conversations.{Gives, PlainGiven, gives}
use Rattle.conversations.specs.Conversations.{nothing, stopping, losing, frames, input}
use Rattle.conversations.specs.Led.{AnswerersAreLed, CallersAreLed, answerer_of, caller_behaviour, caller_led, limited_heard, limited_led}
use Rattle.stations.specs.AnswererStep.{Answerer, AnswererAnswer, answerer_items}
use Rattle.stations.specs.Bursts.{bursts_of}
use Rattle.stations.specs.CallerFields.{CallerFields, Represents}
use Rattle.stations.specs.CallerStep.{Caller, caller_items}
use Rattle.stations.specs.Limiting.{LimitedFields}
use Rattle.stations.specs.Stopping.{StoppableCallerFields}
use Rattle.stations.specs.declared.stopping.Cut.{Cut}
use Rattle.stations.specs.declared.stopping.Cut.TheVariants.{Stop}
use Rattle.stations.specs.declared.turn.Turn.{Turn}
use Rattle.terminals.specs.Hearing.{HasHeard, PlainInput, heard_of}
use Rattle.terminals.proofs.After.{caller_one, left_is, taken_or_passed}
use Rattle.terminals.specs.Runs.{HearsOne, TakesAll, TakesUnless, TerminalFields, is_passed}
use Rattle.terminals.specs.Saying.{limited_lends, stoppable_lends}
use Rattle.terminals.specs.Speaking.{Speaking, StepOf, Takes, is_silent, spoken}
use Rattle.terminals.specs.Stations.{CallerLends, CallerSteps, answerer_takes, caller_given}
use Rattle.terminals.specs.StationsAfter.{Speaks, caller_heard, is_left, unless_left}
use Rattle.terminals.specs.Stopping.{CallerStepsUnlessCut, LimitedStepsUnlessCut, caller_cut_off, caller_stop_says, limited_answers}
use Rattle.terminals.specs.Stopping.{limited_cut_off, limited_stop_says}

either : {S : Type 0} (silent : Bool) (one two : Speaking S) (station : S) → one.station ≡ station → two.station ≡ station →
    (cond silent one two).station ≡ station
either true one two station p q = p
either false one two station p q = q

pub spoken_by : {S : Type 0} (old : Speaking S) (station : S) (turn : Turn) → (spoken old station turn).station ≡ station
spoken_by old station turn =
    either (is_silent turn) (record { station = station; turn = old.turn; taken = old.taken })
    (record { station = station; turn = turn; taken = 0 }) station refl refl

pub taken_by : {S : Type 0} (steps : StepOf S) (old : Speaking S) (x : PlainInput) (new : Speaking S) (h : Takes S steps old x new) →
    new.station ≡ h.station
taken_by steps old x new h = ap (λ s. s.station) h.is ∙ spoken_by old h.station h.turn

-- ---- an answerer with limits

-- a step of one whose call wasn't cut off
record StepsOn (old : LimitedFields) (x : PlainInput) (new : LimitedFields) : Type 0 where
  station : new.station ≡ (limited_answers old.limits old.station (answerer_takes x)).next
  limits : new.limits ≡ old.limits
  cut : new.cut ≡ None

steps_on : (old : LimitedFields) (x : PlainInput) (new : LimitedFields) (turn : Turn) (cut : Option Cut) → cut ≡ None →
    LimitedStepsUnlessCut cut old x new turn → StepsOn old x new
steps_on old x new turn None e h = record { station = h.0.0; limits = h.1; cut = h.3 }
steps_on old x new turn (Some why) e h = absurd (cc)

one_on : (old : Speaking LimitedFields) (x : PlainInput) (new : Speaking LimitedFields) → old.station.cut ≡ None →
    Takes LimitedFields (λ a y b turn. LimitedStepsUnlessCut a.cut a y b turn) old x new → StepsOn old.station x new.station
one_on old x new e h =
    subst (λ s. StepsOn old.station x s) (sym (taken_by (λ a y b turn. LimitedStepsUnlessCut a.cut a y b turn) old x new h))
    (steps_on old.station x h.station h.turn old.station.cut e h.steps_so)

-- a signal that an answerer hears, whose call wasn't cut off
record HeardOn (old : Speaking LimitedFields) (x : PlainInput) (mid : Speaking LimitedFields) : Type 0 where
  is :
      answerer_of mid ≡
      unless_left x (bursts_of old.station.station.params.speed (answerer_items old.station.station old.turn)) (answerer_of old)
      (limited_answers old.station.limits old.station.station (answerer_takes x)).next
      (limited_answers old.station.limits old.station.station (answerer_takes x)).turn
  limits : mid.station.limits ≡ old.station.limits
  cut : mid.station.cut ≡ None

spoken_of : (old : Speaking LimitedFields) (station : LimitedFields) (turn : Turn) (silent : Bool) →
    answerer_of
    (cond silent (record { station = station; turn = old.turn; taken = old.taken }) (record { station = station; turn = turn; taken = 0 })) ≡
    cond silent (record { station = station.station; turn = old.turn; taken = old.taken })
    (record { station = station.station; turn = turn; taken = 0 })
spoken_of old station turn true = refl
spoken_of old station turn false = refl

turn_on : (old : LimitedFields) (x : PlainInput) (new : LimitedFields) (turn : Turn) (cut : Option Cut) → cut ≡ None →
    LimitedStepsUnlessCut cut old x new turn → turn ≡ (limited_answers old.limits old.station (answerer_takes x)).turn
turn_on old x new turn None e h = h.0.1
turn_on old x new turn (Some why) e h = absurd (cc)

heard_on : (old : Speaking LimitedFields) (x : PlainInput) (mid : Speaking LimitedFields) → old.station.cut ≡ None →
    HearsOne LimitedFields (λ a y b turn. LimitedStepsUnlessCut a.cut a y b turn) limited_lends old x mid → HeardOn old x mid
heard_on old x mid e h =
    taken_or_passed (HeardOn old x) (λ a y b turn. LimitedStepsUnlessCut a.cut a y b turn) old mid x (is_passed h.sending x) left left_so h.takes
    (λ is same. subst (HeardOn old x) (sym same)
    (record { is = sym (ap (λ b. cond b (answerer_of old) (spoken (answerer_of old) next.next next.turn)) is); limits = refl; cut = e }))
    (λ is takes.
    let one = one_on old x mid e takes in
    let steps = steps_on old.station x takes.station takes.turn old.station.cut e takes.steps_so in
    record {
      is =
          ap answerer_of takes.is ∙
          (spoken_of old takes.station takes.turn (is_silent takes.turn) ∙
          (ap (λ s. spoken (answerer_of old) s takes.turn) steps.station ∙
          (ap (λ t. spoken (answerer_of old) next.next t) (turn_on old.station x takes.station takes.turn old.station.cut e takes.steps_so) ∙
          sym (ap (λ b. cond b (answerer_of old) (spoken (answerer_of old) next.next next.turn)) is))));
      limits = one.limits;
      cut = one.cut;
    })
  where
    next : AnswererAnswer
    next = limited_answers old.station.limits old.station.station (answerer_takes x)

    left : Bool
    left = is_passed (is_left old.taken (bursts_of old.station.station.params.speed (answerer_items old.station.station old.turn))) x

    left_so : is_passed h.sending x ≡ left
    left_so =
        ap (λ b. is_passed b x)
        (left_is old.taken h.has_burst.0 h.sending h.has_burst.2 ∙ ap (is_left old.taken) h.has_burst.1)

all_on : (old new : Speaking LimitedFields) (xs : List PlainInput) → old.station.cut ≡ None →
    TakesAll (λ a y b turn. LimitedStepsUnlessCut a.cut a y b turn) limited_lends old xs new →
    answerer_of new ≡ limited_heard old.station.limits xs (answerer_of old)
all_on old new [] e h = ap answerer_of h
all_on old new (x ∷ xs) e h =
    let one = heard_on old x h.0 e h.1 in
    all_on h.0 new xs one.cut h.2 ∙
    (ap (λ l. limited_heard l xs (answerer_of h.0)) one.limits ∙ ap (limited_heard old.station.limits xs) one.is)

given_on : (old new : TerminalFields LimitedFields) (before : List ℕ) (given : PlainGiven) (brought : Bool) → HasHeard old.framing before →
    old.speaking.station.cut ≡ None → Gives limited_behaviour old given new brought →
    new.speaking.station.station ≡ limited_led old.speaking.station.limits before given (answerer_of old.speaking)
given_on old new before nothing brought heard e h = ap (λ (t : TerminalFields LimitedFields). t.speaking.station.station) h.0
given_on old new before stopping brought heard e h =
    ap (λ (s : Speaking LimitedFields). s.station.station) h.1 ∙
    ap (λ (v : LimitedFields). v.station)
    (spoken_by old.speaking (limited_cut_off Stop old.speaking.station) (limited_stop_says old.speaking.station))
given_on old new before losing brought heard e h = ap (λ (s : Speaking LimitedFields). s.station.station) h.1
given_on old new before (frames octets) brought heard e h =
    ap (λ (s : Speaking Answerer). s.station) (all_on old.speaking new.speaking (heard_of before octets) e (h.0 before heard).1)
given_on old new before (input x) brought heard e h = (one_on old.speaking x new.speaking e h.1).station

pub answerers_are_led : AnswerersAreLed
answerers_are_led old new line before h heard e =
    given_on old.terminal new.terminal before (gives limited_behaviour old h.shown line) h.brought heard e h.given

-- ---- a caller

record CallerOn (old : StoppableCallerFields) (x : PlainInput) (new : StoppableCallerFields) : Type 0 where
  station : (c : Caller) → Represents old.station c → Represents new.station (caller_given c x).next
  cut : new.cut ≡ None

caller_steps_on : (old : StoppableCallerFields) (x : PlainInput) (new : StoppableCallerFields) (turn : Turn) (cut : Option Cut) →
    cut ≡ None → CallerStepsUnlessCut cut old x new turn → CallerOn old x new
caller_steps_on old x new turn None e h = record { station = λ c r. (h.0 c r).0; cut = h.1 }
caller_steps_on old x new turn (Some why) e h = absurd (cc)

one_caller : (old : Speaking StoppableCallerFields) (x : PlainInput) (new : Speaking StoppableCallerFields) → old.station.cut ≡ None →
    Takes StoppableCallerFields (λ a y b turn. CallerStepsUnlessCut a.cut a y b turn) old x new → CallerOn old.station x new.station
one_caller old x new e h =
    subst (λ s. CallerOn old.station x s) (sym (taken_by (λ a y b turn. CallerStepsUnlessCut a.cut a y b turn) old x new h))
    (caller_steps_on old.station x h.station h.turn old.station.cut e h.steps_so)

-- a caller whose call can be stopped, without that
abbrev plain_caller : Speaking StoppableCallerFields → Speaking CallerFields
plain_caller s = record { station = s.station.station; turn = s.turn; taken = s.taken }

spoken_plain : (old : Speaking StoppableCallerFields) (station : StoppableCallerFields) (turn : Turn) (silent : Bool) →
    plain_caller
    (cond silent (record { station = station; turn = old.turn; taken = old.taken }) (record { station = station; turn = turn; taken = 0 })) ≡
    cond silent (record { station = station.station; turn = old.turn; taken = old.taken })
    (record { station = station.station; turn = turn; taken = 0 })
spoken_plain old station turn true = refl
spoken_plain old station turn false = refl

plain_steps : (old : StoppableCallerFields) (x : PlainInput) (new : StoppableCallerFields) (turn : Turn) (cut : Option Cut) → cut ≡ None →
    CallerStepsUnlessCut cut old x new turn → CallerSteps old.station x new.station turn × (new.cut ≡ None)
plain_steps old x new turn None e h = h
plain_steps old x new turn (Some why) e h = absurd (cc)

plain_takes : (old : Speaking StoppableCallerFields) (x : PlainInput) (mid : Speaking StoppableCallerFields) (sending : Bool) →
    old.station.cut ≡ None → TakesUnless sending (λ a y b turn. CallerStepsUnlessCut a.cut a y b turn) old x mid →
    TakesUnless sending CallerSteps (plain_caller old) x (plain_caller mid) × (mid.station.cut ≡ None)
plain_takes old x mid true e h = (ap plain_caller h, ap (λ (s : Speaking StoppableCallerFields). s.station.cut) h ∙ e)
plain_takes old x mid false e h =
    let steps = plain_steps old.station x h.station h.turn old.station.cut e h.steps_so in (
      record {
        station = h.station.station;
        turn = h.turn;
        steps_so = steps.0;
        is = ap plain_caller h.is ∙ spoken_plain old h.station h.turn (is_silent h.turn);
      },
      (one_caller old x mid e h).cut,
    )

plain_hears : (old : Speaking StoppableCallerFields) (x : PlainInput) (mid : Speaking StoppableCallerFields) → old.station.cut ≡ None →
    HearsOne StoppableCallerFields (λ a y b turn. CallerStepsUnlessCut a.cut a y b turn) stoppable_lends old x mid →
    HearsOne CallerFields CallerSteps CallerLends (plain_caller old) x (plain_caller mid) × (mid.station.cut ≡ None)
plain_hears old x mid e h =
    let takes = plain_takes old x mid (is_passed h.sending x) e h.takes in
    (record { sending = h.sending; has_burst = h.has_burst; takes = takes.0 }, takes.1)

all_callers : (old new : Speaking StoppableCallerFields) (xs : List PlainInput) (s : Speaking Caller) → old.station.cut ≡ None →
    TakesAll (λ a y b turn. CallerStepsUnlessCut a.cut a y b turn) stoppable_lends old xs new → Speaks (plain_caller old) s →
    Speaks (plain_caller new) (caller_heard xs s)
all_callers old new [] s e h same = subst (λ v. Speaks (plain_caller v) s) (sym h) same
all_callers old new (x ∷ xs) s e h same =
    let one = plain_hears old x h.0 e h.1 in
    all_callers h.0 new xs
    (unless_left x (bursts_of s.station.params.speed (caller_items s.station s.turn)) s (caller_given s.station x).next
    (caller_given s.station x).turn)
    one.1 h.2 (caller_one (plain_caller old) (plain_caller h.0) s x same one.0)

caller_given_on : (old new : TerminalFields StoppableCallerFields) (before : List ℕ) (given : PlainGiven) (brought : Bool) (c : Caller) →
    HasHeard old.framing before → old.speaking.station.cut ≡ None → Gives caller_behaviour old given new brought →
    Represents old.speaking.station.station c →
    Represents new.speaking.station.station
    (caller_led before given (record { station = c; turn = old.speaking.turn; taken = old.speaking.taken }))
caller_given_on old new before nothing brought c heard e h r =
    subst (λ (t : TerminalFields StoppableCallerFields). Represents t.speaking.station.station c) (sym h.0) r
caller_given_on old new before stopping brought c heard e h r =
    subst (λ v. Represents v c)
    (sym
    (ap (λ (s : Speaking StoppableCallerFields). s.station.station) h.1 ∙
    ap (λ (v : StoppableCallerFields). v.station)
    (spoken_by old.speaking (caller_cut_off Stop old.speaking.station) (caller_stop_says old.speaking.station)))) r
caller_given_on old new before losing brought c heard e h r =
    subst (λ v. Represents v c) (sym (ap (λ (s : Speaking StoppableCallerFields). s.station.station) h.1)) r
caller_given_on old new before (frames octets) brought c heard e h r =
    (all_callers old.speaking new.speaking (heard_of before octets)
    (record { station = c; turn = old.speaking.turn; taken = old.speaking.taken }) e (h.0 before heard).1
    (record { station = r; turn = refl; taken = refl })).station
caller_given_on old new before (input x) brought c heard e h r = (one_caller old.speaking x new.speaking e h.1).station c r

pub callers_are_led : CallersAreLed
callers_are_led old new line before h c heard e r =
    caller_given_on old.terminal new.terminal before (gives caller_behaviour old h.shown line) h.brought c heard e h.given r
