-- What a line makes of an answerer to whom nothing is on its way, and of the turn that it has to say.
use Rattle.std.proofs.Common.{◌≡◌, ◌≢◌, ◌⊎◌, inl, inr, ℕ, Bool, true, false, cond, Some, None, List, [], ◌∷◌, ◌++◌, refl, ap, sym, subst, ◌∙◌}
use Rattle.std.specs.Prelude.{◌&&◌, ◌||◌, Option, map}
use Rattle.conversations.proofs.Led.{spoken_by, taken_by}
use Rattle.conversations.specs.Answering.{limited_behaviour}
use Rattle.conversations.specs.Conversations.{Gives, LosesFrames, PlainGiven}
use Rattle.conversations.specs.Conversations.{nothing, stopping, losing, frames, input}
use Rattle.raster.specs.Pages.{PagePixels}
use Rattle.signals.specs.Signals.{PlainSignal}
use Rattle.stations.specs.AnswererKeeping.{AnswerersKeep, TakesBlock}
use Rattle.stations.specs.AnswererStep.{Answerer, AnswererAnswer, answerer_silent, answerer_step}
use Rattle.stations.specs.Inputs.{AnswererInput, listens, trains, t1, t2, is_busy, PlainItem, framed}
use Rattle.stations.specs.Limiting.{LimitedFields, busy_while, filled, is_full, is_kept_out, limited_step}
use Rattle.stations.specs.declared.limiting.Limits.{Limits}
use Rattle.stations.specs.declared.stopping.Cut.{Cut}
use Rattle.stations.specs.declared.stopping.Cut.TheVariants.{Stop}
use Rattle.stations.specs.declared.turn.Turn.{Turn}
use Rattle.stations.specs.declared.turn.Turn.TheVariants.{Mcf, Silent}
use Rattle.stations.specs.declared.waiting.Wait.TheVariants.{T1, T2, T4, T5}
use Rattle.terminals.specs.Hearing.{PlainInput, said, check, over, busy, heard_of}
use Rattle.terminals.specs.Runs.{TerminalFields}
use Rattle.terminals.specs.Speaking.{Speaking, Takes, is_silent, spoken}
use Rattle.terminals.specs.Stations.{answerer_takes}
use Rattle.terminals.specs.Stopping.{LimitedStepsUnlessCut, limited_answers, limited_cut_off, limited_stop_says, stopped}
use Rattle.joined_terminals.specs.Happening.{AreLeft, FirstComes, none, kept, lost}
use Rattle.joined_terminals.specs.Joining.{AnswererMakes}
use Rattle.joined_terminals.specs.Octets.{IsPiece, PieceComes, TakesSo}
use Rattle.joined_terminals.specs.Steps.{Comes, TurnsSo}

-- ---- inputs that bring no page

-- an input that doesn't come by the line
abbrev IsCalm : AnswererInput → Type 0
IsCalm (listens signal) = ⊥
IsCalm (trains octets) = ⊥
IsCalm t1 = Unit {0}
IsCalm t2 = Unit {0}
IsCalm (is_busy is) = Unit {0}

-- a page is stored at a PPS alone
no_pps : AnswerersKeep → (s : Answerer) (got : AnswererInput) → IsCalm got → (answerer_step s got).next.pages ≡ s.pages
no_pps keeps s got calm = at (keeps s got).block
  where
    at : (((answerer_step s got).next.accepted ≡ s.accepted) × ((answerer_step s got).next.octets ≡ s.octets) ×
        ((answerer_step s got).next.pages ≡ s.pages)) ⊎ TakesBlock s got (answerer_step s got).next →
        (answerer_step s got).next.pages ≡ s.pages
    at (inl same) = same.2
    at (inr takes) = absurd (subst IsCalm takes.meets.heard calm)

calm_step : AnswerersKeep → (s : Answerer) (got : AnswererInput) → IsCalm got → (full : Bool) →
    (answerer_step s (busy_while full got)).next.pages ≡ s.pages
calm_step keeps s (listens signal) calm full = absurd calm
calm_step keeps s (trains octets) calm full = absurd calm
calm_step keeps s t1 calm full = no_pps keeps s t1 tt
calm_step keeps s t2 calm full = no_pps keeps s t2 tt
calm_step keeps s (is_busy b) calm full = no_pps keeps s (is_busy (b || full)) tt

filled_pages : (before after : Bool) (answer : AnswererAnswer) → (filled before after answer).next.pages ≡ answer.next.pages
filled_pages true true answer = refl
filled_pages true false answer = refl
filled_pages false true answer = refl
filled_pages false false answer = refl

either : (pages : List PagePixels) (b : Bool) (x y : AnswererAnswer) → x.next.pages ≡ pages → y.next.pages ≡ pages →
    (cond b x y).next.pages ≡ pages
either pages true x y f g = f
either pages false x y f g = g

limited_calm : AnswerersKeep → (limits : Limits) (s : Answerer) (got : AnswererInput) → IsCalm got →
    (limited_step limits s got).next.pages ≡ s.pages
limited_calm keeps limits s got calm = at (is_full limits s.pages)
  where
    at : (full : Bool) →
        (cond (full && is_kept_out s got) (answerer_silent s)
        (filled full (is_full limits (answerer_step s (busy_while full got)).next.pages) (answerer_step s (busy_while full got)))).next.pages ≡
        s.pages
    at full =
        either s.pages (full && is_kept_out s got) (answerer_silent s) _ refl
        (filled_pages full (is_full limits (answerer_step s (busy_while full got)).next.pages) (answerer_step s (busy_while full got)) ∙
        calm_step keeps s got calm full)

-- what a terminal takes that doesn't come by the line
abbrev IsCalmInput : PlainInput → Type 0
IsCalmInput (said signal) = ⊥
IsCalmInput (check octets) = ⊥
IsCalmInput (over wait) = Unit {0}
IsCalmInput (busy is) = Unit {0}

calm_answers : AnswerersKeep → (limits : Limits) (s : Answerer) (x : PlainInput) → IsCalmInput x →
    (limited_answers limits s (answerer_takes x)).next.pages ≡ s.pages
calm_answers keeps limits s (said signal) calm = absurd calm
calm_answers keeps limits s (check octets) calm = absurd calm
calm_answers keeps limits s (over T1) calm = limited_calm keeps limits s t1 tt
calm_answers keeps limits s (over T2) calm = limited_calm keeps limits s t2 tt
calm_answers keeps limits s (over T4) calm = refl
calm_answers keeps limits s (over T5) calm = refl
calm_answers keeps limits s (busy is) calm = limited_calm keeps limits s (is_busy is) tt

calm_steps : AnswerersKeep → (cut : Option Cut) (old : LimitedFields) (x : PlainInput) (new : LimitedFields) (turn : Turn) → IsCalmInput x →
    LimitedStepsUnlessCut cut old x new turn → new.station.pages ≡ old.station.pages
calm_steps keeps None old x new turn calm h =
    ap (λ (s : Answerer). s.pages) h.0.0 ∙ calm_answers keeps old.limits old.station x calm
calm_steps keeps (Some why) old x new turn calm h = ap (λ (v : LimitedFields). v.station.pages) h.0

-- the pages of an answerer in a terminal
abbrev pub pages_in : Speaking LimitedFields → List PagePixels
pages_in speaking = speaking.station.station.pages

calm_takes : AnswerersKeep → (old : Speaking LimitedFields) (x : PlainInput) (new : Speaking LimitedFields) → IsCalmInput x →
    Takes LimitedFields AnswererMakes old x new → pages_in new ≡ pages_in old
calm_takes keeps old x new calm h =
    ap (λ (v : LimitedFields). v.station.pages) (taken_by AnswererMakes old x new h) ∙
    calm_steps keeps old.station.cut old.station x h.station h.turn calm h.steps_so

-- ---- nothing is on its way

pub left_of_none : {some all : List PlainItem} → AreLeft some all → all ≡ [] → some ≡ []
left_of_none none e = refl
left_of_none (kept p) e = cc
left_of_none (lost p) e = cc

front_of_none : (xs ys : List PlainItem) → xs ++ ys ≡ [] → xs ≡ []
front_of_none [] ys e = refl
front_of_none (x ∷ xs) ys e = cc

back_of_none : (xs ys : List PlainItem) → xs ++ ys ≡ [] → ys ≡ []
back_of_none [] ys e = e
back_of_none (x ∷ xs) ys e = cc

no_signals : (signals : List PlainSignal) → map framed signals ≡ [] → signals ≡ []
no_signals [] e = refl
no_signals (signal ∷ signals) e = cc

none_heard : (items others : List PlainItem) (inputs : List PlainInput) → PieceComes items inputs others → items ≡ [] →
    (inputs ≡ []) × (others ≡ [])
none_heard items others inputs h e =
    let empty : h.front ++ others ≡ [] = sym h.first ∙ e in (
      h.are ∙ ap (map said) (no_signals h.signals (left_of_none h.left (front_of_none h.front others empty))),
      back_of_none h.front others empty,
    )

none_first : (items : List PlainItem) (x : PlainInput) (others : List PlainItem) → FirstComes items x others → items ≡ [] → ⊥
none_first [] x others h e = h
none_first (item ∷ items) x others h e = cc

-- ---- the turn that is kept

both_true : (a b : Bool) → (a && b) ≡ true → (a ≡ true) × (b ≡ true)
both_true true true e = (refl, refl)
both_true true false e = (refl, e)
both_true false true e = (e, refl)
both_true false false e = (e, e)

by_test : (b : Bool) (one two : Speaking LimitedFields) → b ≡ true → (cond b one two).turn ≡ one.turn
by_test b one two e = ap (λ (c : Bool). (cond c one two).turn) e

quiet_keeps : (old : Speaking LimitedFields) (station : LimitedFields) (turn : Turn) → is_silent turn ≡ true →
    (spoken old station turn).turn ≡ old.turn
quiet_keeps old station turn e =
    by_test (is_silent turn) (record { station = station; turn = old.turn; taken = old.taken })
    (record { station = station; turn = turn; taken = 0 }) e

quiet_takes : (old : Speaking LimitedFields) (x : PlainInput) (new : Speaking LimitedFields) (h : Takes LimitedFields AnswererMakes old x new) →
    is_silent h.turn ≡ true → new.turn ≡ old.turn
quiet_takes old x new h e = ap (λ (s : Speaking LimitedFields). s.turn) h.is ∙ quiet_keeps old h.station h.turn e

quiet_all : (old : Speaking LimitedFields) (inputs : List PlainInput) (new : Speaking LimitedFields) (silent : Bool) →
    TakesSo AnswererMakes old inputs new silent → silent ≡ true → new.turn ≡ old.turn
quiet_all old [] new silent h e = ap (λ (s : Speaking LimitedFields). s.turn) h.0
quiet_all old (x ∷ inputs) new silent h e =
    let one = at h.2 in quiet_all h.0 inputs new h.1 h.3 one.1 ∙ one.0
  where
    at : ((takes : Takes LimitedFields AnswererMakes old x h.0) × (silent ≡ (is_silent takes.turn && h.1))) ⊎ ((h.0 ≡ old) × (silent ≡ h.1)) →
        (h.0.turn ≡ old.turn) × (h.1 ≡ true)
    at (inl p) =
        let both = both_true (is_silent p.0.turn) h.1 (sym p.1 ∙ e) in (quiet_takes old x h.0 p.0 both.0, both.1)
    at (inr p) = (ap (λ (s : Speaking LimitedFields). s.turn) p.0, sym p.1 ∙ e)

-- ---- a line is given to the answerer

-- Where nothing is on its way to the answerer, nothing is then, and it has the same pages. If its turns are silence it has the turn to say
-- that it had, or has none that is MCF.
pub record Hears (old new : Speaking LimitedFields) (items others : List PlainItem) (silent : Bool) : Type 0 where
  pub none_come : items ≡ [] → others ≡ []
  pub same_pages : items ≡ [] → pages_in new ≡ pages_in old
  pub quiet : silent ≡ true → (new.turn ≡ old.turn) ⊎ (new.turn ≢ Mcf)

-- a call that is stopped
pub stopped_pages : (old : Speaking LimitedFields) → pages_in (stopped limited_cut_off limited_stop_says old) ≡ pages_in old
stopped_pages old =
    ap (λ (v : LimitedFields). v.station.pages) (spoken_by old (limited_cut_off Stop old.station) (limited_stop_says old.station))

pub stopped_quiet : (old : Speaking LimitedFields) → is_silent (limited_stop_says old.station) ≡ true →
    (stopped limited_cut_off limited_stop_says old).turn ≡ old.turn
stopped_quiet old e = quiet_keeps old (limited_cut_off Stop old.station) (limited_stop_says old.station) e

module _ (keeps : AnswerersKeep) (old new : TerminalFields LimitedFields) (items others : List PlainItem) (silent : Bool) where
  frames_heard : (octets : List ℕ) (comes : Comes IsPiece old.framing items (frames octets) others) →
      TurnsSo limited_behaviour IsPiece old items others (frames octets) comes new silent →
      Hears old.speaking new.speaking items others silent
  frames_heard octets comes turns =
      let inputs : List PlainInput = heard_of comes.0 octets in
      record {
        none_come = λ e. (none_heard items others inputs comes.2 e).1;
        same_pages = λ e.
            (let empty : TakesSo AnswererMakes old.speaking [] new.speaking silent =
            subst (λ l. TakesSo AnswererMakes old.speaking l new.speaking silent) (none_heard items others inputs comes.2 e).0 turns in
            ap pages_in empty.0);
        quiet = λ e. inl (quiet_all old.speaking inputs new.speaking silent turns e);
      }

  takes_input : (x : PlainInput) → Comes IsPiece old.framing items (input x) others →
      (takes : Takes LimitedFields AnswererMakes old.speaking x new.speaking) → silent ≡ is_silent takes.turn →
      Hears old.speaking new.speaking items others silent
  takes_input (said signal) comes takes e =
      record {
        none_come = λ f. absurd (none_first items (said signal) others comes f);
        same_pages = λ f. absurd (none_first items (said signal) others comes f);
        quiet = λ f. inl (quiet_takes old.speaking (said signal) new.speaking takes (sym e ∙ f));
      }
  takes_input (check octets) comes takes e =
      record {
        none_come = λ f. absurd (none_first items (check octets) others comes f);
        same_pages = λ f. absurd (none_first items (check octets) others comes f);
        quiet = λ f. inl (quiet_takes old.speaking (check octets) new.speaking takes (sym e ∙ f));
      }
  takes_input (over wait) comes takes e =
      record {
        none_come = λ f. comes ∙ f;
        same_pages = λ f. calm_takes keeps old.speaking (over wait) new.speaking tt takes;
        quiet = λ f. inl (quiet_takes old.speaking (over wait) new.speaking takes (sym e ∙ f));
      }
  takes_input (busy is) comes takes e =
      record {
        none_come = λ f. comes ∙ f;
        same_pages = λ f. calm_takes keeps old.speaking (busy is) new.speaking tt takes;
        quiet = λ f. inl (quiet_takes old.speaking (busy is) new.speaking takes (sym e ∙ f));
      }

  pub given_heard : (given : PlainGiven) (brought : Bool) → Gives limited_behaviour old given new brought →
      (comes : Comes IsPiece old.framing items given others) →
      TurnsSo limited_behaviour IsPiece old items others given comes new silent → Hears old.speaking new.speaking items others silent
  given_heard nothing brought gives comes turns =
      record {
        none_come = λ e. comes ∙ e;
        same_pages = λ e. ap (λ (t : TerminalFields LimitedFields). pages_in t.speaking) gives.0;
        quiet = λ e. inl (ap (λ (t : TerminalFields LimitedFields). t.speaking.turn) gives.0);
      }
  given_heard stopping brought gives comes turns =
      record {
        none_come = λ e. comes ∙ e;
        same_pages = λ e. ap pages_in gives.1 ∙ stopped_pages old.speaking;
        quiet = λ e. inl (ap (λ (s : Speaking LimitedFields). s.turn) gives.1 ∙ stopped_quiet old.speaking (sym turns ∙ e));
      }
  given_heard losing brought gives comes turns =
      record {
        none_come = λ e. comes ∙ e;
        same_pages = λ e. ap pages_in gives.1;
        quiet = λ e. inr (λ f. (let is : Silent ≡ Mcf = sym (ap (λ (s : Speaking LimitedFields). s.turn) gives.1) ∙ f in cc));
      }
  given_heard (frames octets) brought gives comes turns = frames_heard octets comes turns
  given_heard (input x) brought gives comes turns = takes_input x comes turns.0 turns.1

  pub lost_heard : (given : PlainGiven) → LosesFrames limited_behaviour old given new →
      (comes : Comes IsPiece old.framing items given others) →
      TurnsSo limited_behaviour IsPiece old items others given comes new silent → Hears old.speaking new.speaking items others silent
  lost_heard (frames octets) loses comes turns = frames_heard octets comes turns
  lost_heard nothing loses comes turns = absurd loses
  lost_heard stopping loses comes turns = absurd loses
  lost_heard losing loses comes turns = absurd loses
  lost_heard (input x) loses comes turns = absurd loses
