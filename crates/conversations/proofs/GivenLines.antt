-- What a line gives a station, and what is left to be said after a hang-up.
use Rattle.std.proofs.Common.{◌≡◌, ◌≢◌, ◌∙◌, ℕ, Bool, true, false, List, [], ◌∷◌, ap, refl, subst, sym, inl, inr, arith}
use Rattle.std.proofs.lemmas.Bool.{eqb-true, leb-true, le-leb}
use Rattle.std.specs.Prelude.{Some, Ok, cond, drop, nat_eq}
use Rattle.signals.specs.declared.params.Speed.{Speed}
use Rattle.signals.specs.declared.params.Speed.TheVariants.{V27At2400, V27At4800, V29At7200, V29At9600, V17At7200, V17At9600}
use Rattle.signals.specs.declared.params.Speed.TheVariants.{V17At12000, V17At14400}
use Rattle.signals.specs.declared.signal.Side.{Side}
use Rattle.signals.specs.declared.signal.Side.TheVariants.{Caller as CallerSide, Answerer as AnswererSide}
use Rattle.stations.specs.Bursts.{PlainBurst, bursts_of}
use Rattle.stations.specs.declared.listening.Listening.{Listening}
use Rattle.stations.specs.declared.listening.Listening.TheVariants.{V21, Training, V21OrPage, V21ThenPage}
use Rattle.stations.specs.declared.stopping.Cut.{Cut}
use Rattle.stations.specs.declared.waiting.Wait.{Wait}
use Rattle.stations.specs.declared.waiting.Wait.TheVariants.{T1, T5}
use Rattle.terminals.specs.ClockLaws.{PassedAreOverAlways}
use Rattle.terminals.specs.Clocks.{clock_at, wait_over}
use Rattle.terminals.specs.Hearing.{check, over}
use Rattle.terminals.specs.Saying.{limited_lends, stoppable_lends}
use Rattle.terminals.specs.Sending.{IsSent}
use Rattle.terminals.specs.Speaking.{AreLent, BurstsOf, Takes}
use Rattle.terminals.specs.Stopping.{caller_cut_off, limited_cut_off}
use Rattle.terminals.specs.declared.clock.LineState.TheVariants.{Quiet as IsQuiet}
use Rattle.terminals.specs.declared.sending.SentBurst.{SentBurst}
use Rattle.conversations.specs.Conversations.{Behaviour, ConversationFields, Gives, SendsIfBegun, TakesLine, gives, hung_up_so}
use Rattle.conversations.specs.Conversations.{input, line_gives, missed_given, nothing, over_given, state_of}
use Rattle.conversations.specs.Given.{AnswerersHangUp, BeginsAt, CallersHangUp, IsDcn, KindsAreHeard, LinesGiveAlways, QuietEndsWaitsOf}
use Rattle.conversations.specs.Given.{SpeedsAreTold, dcn_alone}
use Rattle.conversations.specs.Hearing.{place_of, same_speed}
use Rattle.conversations.specs.Talking.{GivesAll}
use Rattle.conversations.specs.declared.carrier.Channel.TheVariants.{V21 as ByV21, Message}
use Rattle.conversations.specs.declared.hearing.Heard.TheVariants.{Frames as HeardFrames, Check as HeardCheck, Nothing}
use Rattle.conversations.specs.declared.line.Said.TheVariants.{Quiet, Busy, Received, NotReady, Ready, Missed, Told, Stop, End}
use Rattle.conversations.specs.declared.line.TimedLine.{TimedLine}

-- ---- waits at a quiet line

ends_wait : (S : Type 0) (b : Behaviour S) (old new : ConversationFields S) (line : TimedLine) (h : TakesLine S b old line new) →
    old.begun ≡ true → line.said ≡ Quiet → (wait : Wait) →
    wait_over b.side h.shown (clock_at old.clock IsQuiet line.at) old.durations ≡ Some wait →
    Takes S b.steps old.terminal.speaking (over wait) new.terminal.speaking
ends_wait S b old new line h begun quiet wait is =
    let given : gives b old h.shown line ≡ input (over wait) =
    ap (λ said. line_gives old.begun b.side h.shown (clock_at old.clock (state_of said) line.at) old.durations said) quiet ∙
    (ap (λ now. line_gives now b.side h.shown (clock_at old.clock IsQuiet line.at) old.durations Quiet) begun ∙ ap over_given is) in
    (subst (λ it. Gives b old.terminal it new.terminal h.brought) given h.given).1

pub quiet_ends_waits : PassedAreOverAlways → (S : Type 0) (b : Behaviour S) → QuietEndsWaitsOf S b
quiet_ends_waits passed S b old new line h begun quiet =
    let at = passed h.shown (clock_at old.clock IsQuiet line.at) old.durations in
    record {
      ends = ends_wait S b old new line h begun quiet;
      t5 = λ since shows asked late. ends_wait S b old new line h begun quiet T5 (at.t5 b.side since shows asked late);
      t1 = λ shows late. ends_wait S b old new line h begun quiet T1 (at.t1 b.side shows late);
    }

-- ---- what lines give

checked : (listens : Listening) (speed : Speed) → listens ≡ Training speed → missed_given listens ≡ input (check [])
checked listens speed e = ap missed_given e

not_checked : (listens : Listening) → ((speed : Speed) → listens ≢ Training speed) → missed_given listens ≡ nothing
not_checked V21 other = refl
not_checked (Training speed) other = absurd (other speed refl)
not_checked (V21OrPage speed) other = refl
not_checked (V21ThenPage speed) other = refl

pub lines_give : LinesGiveAlways
lines_give side shown c d = record {
  not_ready = λ begun. refl;
  ready = λ begun. refl;
  stop = λ begun. refl;
  ended = λ begun. refl;
  carrier = λ begun. refl;
  quiet_first = refl;
  missed_first = refl;
  quiet = λ wait is. ap over_given is;
  no_check = λ speed e. checked shown.listens speed e;
  no_other = λ other. not_checked shown.listens other;
}

pub begins_at : BeginsAt
begins_at Quiet at =
    (λ e. inl (refl, leb-true 1000 at e), λ h. elim h [ inl a ↦ le-leb 1000 at a.1 | inr e ↦ cc ])
begins_at Stop at = (λ e. inr refl, λ h. refl)
begins_at Busy at = (λ e. absurd cc, λ h. elim h [ inl a ↦ let e = a.0 in cc | inr e ↦ cc ])
begins_at (Received channel kind bits octets) at = (λ e. absurd cc, λ h. elim h [ inl a ↦ let e = a.0 in cc | inr e ↦ cc ])
begins_at NotReady at = (λ e. absurd cc, λ h. elim h [ inl a ↦ let e = a.0 in cc | inr e ↦ cc ])
begins_at Ready at = (λ e. absurd cc, λ h. elim h [ inl a ↦ let e = a.0 in cc | inr e ↦ cc ])
begins_at Missed at = (λ e. absurd cc, λ h. elim h [ inl a ↦ let e = a.0 in cc | inr e ↦ cc ])
begins_at (Told fate file) at = (λ e. absurd cc, λ h. elim h [ inl a ↦ let e = a.0 in cc | inr e ↦ cc ])
begins_at End at = (λ e. absurd cc, λ h. elim h [ inl a ↦ let e = a.0 in cc | inr e ↦ cc ])

-- ---- what is heard

-- the speed at a place
abbrev speed_at : ℕ → Speed
speed_at place =
    cond (nat_eq place 0) V27At2400
    (cond (nat_eq place 1) V27At4800
    (cond (nat_eq place 2) V29At7200
    (cond (nat_eq place 3) V29At9600
    (cond (nat_eq place 4) V17At7200
    (cond (nat_eq place 5) V17At9600 (cond (nat_eq place 6) V17At12000 V17At14400))))))

back : (speed : Speed) → speed ≡ speed_at (place_of speed)
back V27At2400 = refl
back V27At4800 = refl
back V29At7200 = refl
back V29At9600 = refl
back V17At7200 = refl
back V17At9600 = refl
back V17At12000 = refl
back V17At14400 = refl

itself : (speed : Speed) → same_speed speed speed ≡ true
itself V27At2400 = refl
itself V27At4800 = refl
itself V29At7200 = refl
itself V29At9600 = refl
itself V17At7200 = refl
itself V17At9600 = refl
itself V17At12000 = refl
itself V17At14400 = refl

pub speeds_are_told : SpeedsAreTold
speeds_are_told one other = (
  λ e. back one ∙ (ap speed_at (eqb-true (place_of one) (place_of other) e) ∙ sym (back other)),
  λ e. subst (λ speed. same_speed one speed ≡ true) e (itself one),
)

no_check_of_frames : (same : Bool) → cond same HeardFrames Nothing ≢ HeardCheck
no_check_of_frames true e = cc
no_check_of_frames false e = cc

no_frames_of_check : (same : Bool) → cond same HeardCheck Nothing ≢ HeardFrames
no_frames_of_check true e = cc
no_frames_of_check false e = cc

pub kinds_are_heard : KindsAreHeard
kinds_are_heard V21 ByV21 = (λ e. cc, λ e. cc, refl)
kinds_are_heard (Training agreed) ByV21 = (λ e. cc, λ e. cc, refl)
kinds_are_heard (V21OrPage agreed) ByV21 = (λ e. cc, λ e. cc, refl)
kinds_are_heard (V21ThenPage agreed) ByV21 = (λ e. cc, λ e. cc, refl)
kinds_are_heard V21 (Message speed) = (λ e. cc, λ e. cc, refl)
kinds_are_heard (Training agreed) (Message speed) = (λ e. cc, no_frames_of_check (same_speed speed agreed), refl)
kinds_are_heard (V21OrPage agreed) (Message speed) = (no_check_of_frames (same_speed speed agreed), λ e. cc, refl)
kinds_are_heard (V21ThenPage agreed) (Message speed) = (no_check_of_frames (same_speed speed agreed), λ e. cc, refl)

-- ---- a hang-up

-- no burst follows DCN
no_second : {S : Type 0} (side : Side) (lends : BurstsOf S) (begun : Bool) (now next : ConversationFields S) (sent : SentBurst) →
    begun ≡ true → now.terminal.speaking.taken ≡ 1 →
    ((l : List PlainBurst) → AreLent lends now.terminal.speaking.station now.terminal.speaking.turn l → l ≡ dcn_alone ∷ []) →
    SendsIfBegun {E = Unit {0}} side lends begun now next (Ok (Some sent)) → ⊥
no_second side lends false now next sent begun taken one h = cc
no_second side lends true now next sent begun taken one h =
    let bursts = h.0.0 in
    let step = h.0.2 in
    let left : drop 1 bursts ≡ step.0 ∷ step.1 = subst (λ n. drop n bursts ≡ step.0 ∷ step.1) taken step.2 in
    let none : [] ≡ step.0 ∷ step.1 = subst (λ l. drop 1 l ≡ step.0 ∷ step.1) (one bursts h.0.1) left in
    cc

-- what is given of DCN, once it is the turn that is kept
pub dcn_is_given : {S : Type 0} (side : Side) (lends : BurstsOf S) (cut_off : Cut → S → S) (old : ConversationFields S)
    (bursts : List SentBurst) (new : ConversationFields S) →
    ((l : List PlainBurst) →
    AreLent lends (hung_up_so cut_off old).terminal.speaking.station (hung_up_so cut_off old).terminal.speaking.turn l →
    l ≡ dcn_alone ∷ []) →
    GivesAll side lends (hung_up_so cut_off old) bursts new → IsDcn side bursts
dcn_is_given side lends cut_off old [] new one h =
    let none : dcn_alone ∷ [] ≡ [] = sym (one h.0.0 h.0.1) ∙ h.0.2.0 (omega arith) in absurd cc
dcn_is_given {S} side lends cut_off old (sent ∷ rest) new one h = after rest h.2
  where
    now : ConversationFields S
    now = hung_up_so cut_off old

    mid : ConversationFields S
    mid = h.0

    step : (burst : PlainBurst) × (later : List PlainBurst) × (drop 0 h.1.0.0 ≡ burst ∷ later) × IsSent side burst later sent ×
        (mid.terminal.speaking ≡ record now.terminal.speaking { taken = 1 })
    step = h.1.0.2

    whole : dcn_alone ∷ [] ≡ step.0 ∷ step.1
    whole = sym (one h.1.0.0 h.1.0.1) ∙ step.2

    is : IsSent side dcn_alone [] sent
    is =
        let same = whole in
        let burst : dcn_alone ≡ step.0 = cc in
        let later : [] ≡ step.1 = cc in
        subst (λ (x : PlainBurst). IsSent side x [] sent) (sym burst)
        (subst (λ (l : List PlainBurst). IsSent side step.0 l sent) (sym later) step.3)

    after : (more : List SentBurst) → GivesAll side lends mid more new → IsDcn side (sent ∷ more)
    after [] none = (sent, refl, is)
    after (x ∷ xs) some =
        absurd
        (no_second side lends mid.begun mid some.0 x (ap (λ (c : ConversationFields S). c.begun) h.1.2)
        (ap (λ s. s.taken) step.4)
        (subst (λ s. (l : List PlainBurst) → AreLent lends s.station s.turn l → l ≡ dcn_alone ∷ []) (sym step.4) one) some.1)

pub callers_hang_up : CallersHangUp
unfolding bursts_of
callers_hang_up old new t bursts r h =
    dcn_is_given CallerSide stoppable_lends caller_cut_off old bursts new (λ l lent. lent t r) h

pub answerers_hang_up : AnswerersHangUp
unfolding bursts_of
answerers_hang_up old new bursts h =
    dcn_is_given AnswererSide limited_lends limited_cut_off old bursts new (λ l lent. lent) h
