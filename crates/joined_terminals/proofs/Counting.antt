-- A caller counts a page confirmed only where it hears MCF.
use Rattle.std.proofs.Common.{◌≡◌, ◌≢◌, ◌⊎◌, inl, inr, ℕ, Bool, true, false, cond, Option, Some, None, List, [], ◌∷◌, ◌++◌, refl, ap}
use Rattle.std.proofs.Common.{sym, subst, ◌∙◌}
use Rattle.std.specs.Prelude.{◌&&◌, map, nat_lt, slice_get}
use Rattle.conversations.proofs.Led.{spoken_by, taken_by}
use Rattle.conversations.specs.Conversations.{Gives, LosesFrames, PlainGiven}
use Rattle.conversations.specs.Conversations.{nothing, stopping, losing, frames, input}
use Rattle.conversations.specs.Led.{caller_behaviour}
use Rattle.hdlc.specs.DeframerState.{DeframerState}
use Rattle.signals.specs.Signals.{PlainSignal, dis, cfr, ftt, ppr, mcf, rnr, dcn}
use Rattle.signals.specs.declared.params.Caps.{Caps}
use Rattle.signals.specs.declared.params.Params.{Params}
use Rattle.signals.specs.declared.signal.PageEnd.{PageEnd}
use Rattle.signals.specs.declared.signal.PageEnd.TheVariants.{Null, Mps, Eom, Eop}
use Rattle.stations.proofs.CallerRows.{confirms_at, place_in}
use Rattle.stations.specs.Blocks.{Block}
use Rattle.stations.specs.CallerFields.{AtGroup, CallerFields, Represents}
use Rattle.stations.specs.CallerStep.{Caller, CallerAnswer, answers_dis, answers_ftt, blocks_of, caller_step, caller_table, confirmed, goes_on}
use Rattle.stations.specs.CallerStep.{unless_caller_ended}
use Rattle.stations.specs.Inputs.{CallerInput, hears, timeout, t5, PlainItem, framed, checked}
use Rattle.stations.specs.Laws.{Each}
use Rattle.stations.specs.Layers.{agreed_for, lowered}
use Rattle.stations.specs.Stopping.{StoppableCallerFields}
use Rattle.stations.specs.Waits.{caller_wait, unless_over}
use Rattle.stations.specs.declared.stopping.Cut.{Cut}
use Rattle.stations.specs.declared.stopping.Cut.TheVariants.{Stop}
use Rattle.stations.specs.declared.turn.CallerState.{CallerState}
use Rattle.stations.specs.declared.turn.CallerState.TheVariants.{WaitDis, WaitCfr, WaitBlock, WaitReady}
use Rattle.stations.specs.declared.turn.End.{End}
use Rattle.stations.specs.declared.turn.Turn.{Turn}
use Rattle.stations.specs.declared.waiting.Wait.{Wait}
use Rattle.stations.specs.declared.waiting.Wait.TheVariants.{T1, T2, T4, T5}
use Rattle.terminals.specs.Hearing.{PlainInput, said, check, over, busy, heard_of}
use Rattle.terminals.specs.Runs.{TerminalFields}
use Rattle.terminals.specs.Speaking.{Speaking, Takes, is_silent}
use Rattle.terminals.specs.Stations.{caller_answers, caller_given, caller_takes}
use Rattle.terminals.specs.Stopping.{CallerStepsUnlessCut, caller_cut_off, caller_stop_says, stopped}
use Rattle.joined_terminals.specs.Happening.{AreLeft, FirstComes, none, kept, lost}
use Rattle.joined_terminals.specs.Joining.{CallerMakes}
use Rattle.joined_terminals.specs.Octets.{PieceComes, TakesSo}
use Rattle.joined_terminals.specs.Steps.{Comes, IsOneAtMost, TurnsSo}
use Rattle.joined_terminals.proofs.Silent.{ended_silent}

-- ---- the caller's table

goes_count : (c : Caller) (n : ℕ) (ends : PageEnd) (next : Option Block) → confirmed c ≡ n → confirmed (goes_on c ends next).next ≡ n
goes_count c n ends (Some next) h = h
goes_count c n Null None h = h
goes_count c n Mps None h = h
goes_count c n Eom None h = h
goes_count c n Eop None h = h

either : (n : ℕ) (b : Bool) (x y : CallerAnswer) → confirmed x.next ≡ n → confirmed y.next ≡ n → confirmed (cond b x y).next ≡ n
either n true x y f g = f
either n false x y f g = g

-- other parameters of the present group, which is begun and no more, confirm no page
group_counts : (v : CallerFields) (t : Caller) → AtGroup v t → (params : Params) →
    confirmed (record t { present = params ∷ [] }) ≡ v.page
group_counts v t at params = confirms_at _ at.front _ t.place v.page (at.ahead (params ∷ [])) at.place at.pages

dis_counts : (v : CallerFields) (t : Caller) (caps : Caps) (params : Option Params) → t.state ≡ WaitDis → v.ending ≡ None →
    Represents v t → confirmed (answers_dis t caps params).next ≡ v.page
dis_counts v t caps None e on r = r.confirms
dis_counts v t caps (Some params) e on r =
    group_counts v t (place_in v t WaitDis (sym r.state ∙ e) (r.place on)).1 params

ftt_counts : (v : CallerFields) (t : Caller) (params : Option Params) → t.state ≡ WaitCfr → v.ending ≡ None → Represents v t →
    confirmed (answers_ftt t params).next ≡ v.page
ftt_counts v t None e on r = r.confirms
ftt_counts v t (Some params) e on r = group_counts v t (place_in v t WaitCfr (sym r.state ∙ e) (r.place on)).1 params

table_counts : (state : CallerState) (got : CallerInput) (v : CallerFields) (t : Caller) → t.state ≡ state → v.ending ≡ None →
    Represents v t → got ≢ hears mcf → confirmed (caller_table state got t).next ≡ v.page
table_counts WaitDis (hears (dis caps)) v t e on r not =
    dis_counts v t caps (agreed_for caps t.wish (slice_get t.document (confirmed t))) e on r
table_counts WaitDis timeout v t e on r not = r.confirms
table_counts WaitCfr (hears cfr) v t e on r not = goes_count t v.page Mps (slice_get (blocks_of t) t.place) r.confirms
table_counts WaitCfr (hears ftt) v t e on r not = ftt_counts v t (lowered t.caps t.wish t.params) e on r
table_counts WaitCfr (hears (dis caps)) v t e on r not = either v.page (nat_lt t.try 3) _ _ r.confirms r.confirms
table_counts WaitCfr timeout v t e on r not = either v.page (nat_lt t.try 3) _ _ r.confirms r.confirms
table_counts WaitBlock (hears mcf) v t e on r not = absurd (not refl)
table_counts WaitBlock (hears (ppr map)) v t e on r not = either v.page (nat_lt t.pprs 3) _ _ r.confirms r.confirms
table_counts WaitBlock (hears rnr) v t e on r not = r.confirms
table_counts WaitBlock timeout v t e on r not = either v.page (nat_lt t.try 3) _ _ r.confirms r.confirms
table_counts WaitReady (hears mcf) v t e on r not = absurd (not refl)
table_counts WaitReady (hears (ppr map)) v t e on r not = either v.page (nat_lt t.pprs 3) _ _ r.confirms r.confirms
table_counts WaitReady (hears rnr) v t e on r not = r.confirms
table_counts WaitReady timeout v t e on r not = either v.page (nat_lt t.try 3) _ _ r.confirms r.confirms
table_counts WaitReady t5 v t e on r not = r.confirms
table_counts _ (hears dcn) v t e on r not = r.confirms
table_counts _ _ v t e on r not = r.confirms

step_counts : (v : CallerFields) (t : Caller) → Represents v t → (got : CallerInput) → got ≢ hears mcf →
    confirmed (caller_step t got).next ≡ v.page
step_counts v t r got not = at v.ending refl
  where
    at : (ending : Option End) → v.ending ≡ ending → confirmed (caller_step t got).next ≡ v.page
    at (Some why) e = ap (λ (x : CallerAnswer). confirmed x.next) (ended_silent t why got (r.ending ∙ e)) ∙ r.confirms
    at None e =
        ap (λ o. confirmed (unless_caller_ended o got t).next) (r.ending ∙ e) ∙ table_counts t.state got v t refl e r not

taken_counts : (v : CallerFields) (t : Caller) → Represents v t → (taken : Option CallerInput) → taken ≢ Some (hears mcf) →
    confirmed (caller_answers t taken).next ≡ v.page
taken_counts v t r None not = r.confirms
taken_counts v t r (Some got) not = step_counts v t r got (λ e. not (ap (λ (i : CallerInput). Some i) e))

-- a caller takes MCF only where it is said
no_mcf : (running : Option Wait) (x : PlainInput) → x ≢ said mcf → caller_takes running x ≢ Some (hears mcf)
no_mcf running (said signal) not = λ e. (let same : signal ≡ mcf = cc in not (ap said same))
no_mcf None (check octets) not = λ e. cc
no_mcf None (busy is) not = λ e. cc
no_mcf None (over T1) not = λ e. cc
no_mcf None (over T2) not = λ e. cc
no_mcf None (over T4) not = λ e. cc
no_mcf None (over T5) not = λ e. cc
no_mcf (Some T1) (check octets) not = λ e. cc
no_mcf (Some T1) (busy is) not = λ e. cc
no_mcf (Some T1) (over T1) not = λ e. cc
no_mcf (Some T1) (over T2) not = λ e. cc
no_mcf (Some T1) (over T4) not = λ e. cc
no_mcf (Some T1) (over T5) not = λ e. cc
no_mcf (Some T2) (check octets) not = λ e. cc
no_mcf (Some T2) (busy is) not = λ e. cc
no_mcf (Some T2) (over T1) not = λ e. cc
no_mcf (Some T2) (over T2) not = λ e. cc
no_mcf (Some T2) (over T4) not = λ e. cc
no_mcf (Some T2) (over T5) not = λ e. cc
no_mcf (Some T4) (check octets) not = λ e. cc
no_mcf (Some T4) (busy is) not = λ e. cc
no_mcf (Some T4) (over T1) not = λ e. cc
no_mcf (Some T4) (over T2) not = λ e. cc
no_mcf (Some T4) (over T4) not = λ e. cc
no_mcf (Some T4) (over T5) not = λ e. cc
no_mcf (Some T5) (check octets) not = λ e. cc
no_mcf (Some T5) (busy is) not = λ e. cc
no_mcf (Some T5) (over T1) not = λ e. cc
no_mcf (Some T5) (over T2) not = λ e. cc
no_mcf (Some T5) (over T4) not = λ e. cc
no_mcf (Some T5) (over T5) not = λ e. cc

-- ---- a caller takes inputs

-- the caller's fields represent a tuple afterwards too, and if this holds of what it was given they count the same pages
pub record Counts (old new : CallerFields) (If : Type 0) : Type 0 where
  pub t : Caller
  pub represents : Represents new t
  pub same : If → new.page ≡ old.page

weaker : {old new : CallerFields} {A B : Type 0} → (B → A) → Counts old new A → Counts old new B
weaker f c = record { t = c.t; represents = c.represents; same = λ given. c.same (f given) }

pub stays_so : (old new : CallerFields) (If : Type 0) (t : Caller) → Represents old t → new ≡ old → Counts old new If
stays_so old new If t r e =
    record { t = t; represents = subst (λ v. Represents v t) (sym e) r; same = λ given. ap (λ (v : CallerFields). v.page) e }

steps_count : (cut : Option Cut) (old : StoppableCallerFields) (x : PlainInput) (new : StoppableCallerFields) (turn : Turn) →
    CallerStepsUnlessCut cut old x new turn → (t : Caller) → Represents old.station t → Counts old.station new.station (x ≢ said mcf)
steps_count None old x new turn h t r =
    let to = h.0 t r in
    let running : Option Wait = unless_over t.ending (Some (caller_wait t.state)) in
    record {
      t = (caller_given t x).next;
      represents = to.0;
      same = λ not. sym to.0.confirms ∙ taken_counts old.station t r (caller_takes running x) (no_mcf running x not);
    }
steps_count (Some why) old x new turn h t r =
    stays_so old.station new.station (x ≢ said mcf) t r (ap (λ (v : StoppableCallerFields). v.station) h.0)

-- the caller's fields in a terminal
abbrev pub counted : Speaking StoppableCallerFields → CallerFields
counted speaking = speaking.station.station

one_counts : (old : Speaking StoppableCallerFields) (x : PlainInput) (new : Speaking StoppableCallerFields) →
    Takes StoppableCallerFields CallerMakes old x new → (t : Caller) → Represents (counted old) t →
    Counts (counted old) (counted new) (x ≢ said mcf)
one_counts old x new h t r =
    subst (λ (v : StoppableCallerFields). Counts (counted old) v.station (x ≢ said mcf)) (sym (taken_by CallerMakes old x new h))
    (steps_count old.station.cut old.station x h.station h.turn h.steps_so t r)

taken_or_lost : (old : Speaking StoppableCallerFields) (x : PlainInput) (new : Speaking StoppableCallerFields) (silent later : Bool) →
    ((takes : Takes StoppableCallerFields CallerMakes old x new) × (silent ≡ (is_silent takes.turn && later))) ⊎
    ((new ≡ old) × (silent ≡ later)) → (t : Caller) → Represents (counted old) t → Counts (counted old) (counted new) (x ≢ said mcf)
taken_or_lost old x new silent later (inl p) t r = one_counts old x new p.0 t r
taken_or_lost old x new silent later (inr p) t r = stays_so (counted old) (counted new) (x ≢ said mcf) t r (ap counted p.0)

all_count : (old : Speaking StoppableCallerFields) (inputs : List PlainInput) (new : Speaking StoppableCallerFields) (silent : Bool) →
    TakesSo CallerMakes old inputs new silent → (t : Caller) → Represents (counted old) t →
    Counts (counted old) (counted new) (Each (λ x. x ≢ said mcf) inputs)
all_count old [] new silent h t r = stays_so (counted old) (counted new) (Unit {0}) t r (ap counted h.0)
all_count old (x ∷ inputs) new silent h t r =
    let one = taken_or_lost old x h.0 silent h.1 h.2 t r in
    let more = all_count h.0 inputs new h.1 h.3 one.t one.represents in
    record { t = more.t; represents = more.represents; same = λ not. more.same not.1 ∙ one.same not.0 }

-- ---- what comes of a line

-- none of the items is an MCF
abbrev pub NoMcf : List PlainItem → Type 0
NoMcf items = Each (λ item. item ≢ framed mcf) items

pub front_no : (xs ys : List PlainItem) → NoMcf (xs ++ ys) → NoMcf xs
front_no [] ys h = tt
front_no (x ∷ xs) ys h = (h.0, front_no xs ys h.1)

pub back_no : (xs ys : List PlainItem) → NoMcf (xs ++ ys) → NoMcf ys
back_no [] ys h = h
back_no (x ∷ xs) ys h = back_no xs ys h.1

pub left_no : {some all : List PlainItem} → AreLeft some all → NoMcf all → NoMcf some
left_no none h = tt
left_no (kept p) h = (h.0, left_no p h.1)
left_no (lost p) h = left_no p h.1

heard_no : (signals : List PlainSignal) → NoMcf (map framed signals) → Each (λ x. x ≢ said mcf) (map said signals)
heard_no [] h = tt
heard_no (signal ∷ signals) h =
    (λ e. (let same : signal ≡ mcf = cc in h.0 (ap framed same)), heard_no signals h.1)

-- without an MCF among the items none is heard, and none is left
piece_no : (items others : List PlainItem) (inputs : List PlainInput) → PieceComes items inputs others → NoMcf items →
    Each (λ x. x ≢ said mcf) inputs × NoMcf others
piece_no items others inputs h clean =
    let both : NoMcf (h.front ++ others) = subst NoMcf h.first clean in (
      subst (λ l. Each (λ x. x ≢ said mcf) l) (sym h.are) (heard_no h.signals (left_no h.left (front_no h.front others both))),
      back_no h.front others both,
    )

first_no : (items : List PlainItem) (x : PlainInput) (others : List PlainItem) → FirstComes items x others → NoMcf items →
    (x ≢ said mcf) × NoMcf others
first_no [] x others h clean = absurd h
first_no (framed signal ∷ items) x others h clean = (
  λ e. (let both : said signal ≡ said mcf = sym h.0 ∙ e in let same : signal ≡ mcf = cc in clean.0 (ap framed same)),
  subst NoMcf (sym h.1) clean.1,
)
first_no (checked octets ∷ items) x others h clean =
    (λ e. (let both : check h.0.0 ≡ said mcf = sym h.0.2 ∙ e in cc), subst NoMcf (sym h.1) clean.1)

-- ---- a line is given to the caller

-- the caller counts the same pages if no MCF was on its way, and none is then
pub record CountsLine (old new : Speaking StoppableCallerFields) (items others : List PlainItem) : Type 0 where
  pub counts : Counts (counted old) (counted new) (NoMcf items)
  pub none_left : NoMcf items → NoMcf others

input_no : (framing : DeframerState) (items : List PlainItem) (x : PlainInput) (others : List PlainItem) →
    Comes IsOneAtMost framing items (input x) others → NoMcf items → (x ≢ said mcf) × NoMcf others
input_no framing items (said signal) others comes clean = first_no items (said signal) others comes clean
input_no framing items (check octets) others comes clean = first_no items (check octets) others comes clean
input_no framing items (over wait) others comes clean = (λ e. cc, subst NoMcf (sym comes) clean)
input_no framing items (busy is) others comes clean = (λ e. cc, subst NoMcf (sym comes) clean)

-- a call that is stopped counts the same pages
pub stopped_counts : (old : Speaking StoppableCallerFields) → counted (stopped caller_cut_off caller_stop_says old) ≡ counted old
stopped_counts old =
    ap (λ (v : StoppableCallerFields). v.station) (spoken_by old (caller_cut_off Stop old.station) (caller_stop_says old.station))

module _ (old new : TerminalFields StoppableCallerFields) (items others : List PlainItem) (silent : Bool) (t : Caller)
    (r : Represents (counted old.speaking) t) where
  frames_count : (octets : List ℕ) (comes : Comes IsOneAtMost old.framing items (frames octets) others) →
      TurnsSo caller_behaviour IsOneAtMost old items others (frames octets) comes new silent →
      CountsLine old.speaking new.speaking items others
  frames_count octets comes turns =
      let heard : List PlainInput = heard_of comes.0 octets in
      record {
        counts = weaker (λ clean. (piece_no items others heard comes.2 clean).0)
            (all_count old.speaking heard new.speaking silent turns t r);
        none_left = λ clean. (piece_no items others heard comes.2 clean).1;
      }

  pub given_counts : (given : PlainGiven) (brought : Bool) → Gives caller_behaviour old given new brought →
      (comes : Comes IsOneAtMost old.framing items given others) →
      TurnsSo caller_behaviour IsOneAtMost old items others given comes new silent → CountsLine old.speaking new.speaking items others
  given_counts nothing brought gives comes turns =
      record {
        counts = stays_so (counted old.speaking) (counted new.speaking) (NoMcf items) t r
            (ap (λ (x : TerminalFields StoppableCallerFields). counted x.speaking) gives.0);
        none_left = λ clean. subst NoMcf (sym comes) clean;
      }
  given_counts stopping brought gives comes turns =
      record {
        counts = stays_so (counted old.speaking) (counted new.speaking) (NoMcf items) t r
            (ap counted gives.1 ∙ stopped_counts old.speaking);
        none_left = λ clean. subst NoMcf (sym comes) clean;
      }
  given_counts losing brought gives comes turns =
      record {
        counts = stays_so (counted old.speaking) (counted new.speaking) (NoMcf items) t r (ap counted gives.1);
        none_left = λ clean. subst NoMcf (sym comes) clean;
      }
  given_counts (frames octets) brought gives comes turns = frames_count octets comes turns
  given_counts (input x) brought gives comes turns =
      record {
        counts = weaker (λ clean. (input_no old.framing items x others comes clean).0) (one_counts old.speaking x new.speaking turns.0 t r);
        none_left = λ clean. (input_no old.framing items x others comes clean).1;
      }

  pub lost_counts : (given : PlainGiven) → LosesFrames caller_behaviour old given new →
      (comes : Comes IsOneAtMost old.framing items given others) →
      TurnsSo caller_behaviour IsOneAtMost old items others given comes new silent → CountsLine old.speaking new.speaking items others
  lost_counts (frames octets) loses comes turns = frames_count octets comes turns
  lost_counts nothing loses comes turns = absurd loses
  lost_counts stopping loses comes turns = absurd loses
  lost_counts losing loses comes turns = absurd loses
  lost_counts (input x) loses comes turns = absurd loses
