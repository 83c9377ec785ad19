-- What is under way to the caller is what was said last, but for DIS; and which bursts answer it.
use Rattle.std.proofs.Common.{◌≡◌, ℕ, zero, suc, Bool, true, false, ◌||◌, List, [], ◌∷◌, ◌++◌, refl}
use Rattle.std.specs.Prelude.{Option, Some, None, not, nat_lt, slice_get}
use Rattle.signals.specs.Signals.{PlainSignal, dis, cfr, ftt, ppr, mcf, rnr, dcn}
use Rattle.signals.specs.declared.params.Caps.{Caps}
use Rattle.signals.specs.declared.params.Params.{Params}
use Rattle.signals.specs.declared.signal.PageEnd.{PageEnd}
use Rattle.signals.specs.declared.signal.PageEnd.TheVariants.{Null, Mps, Eom, Eop}
use Rattle.signals.specs.declared.signal.Side.{Side}
use Rattle.signals.specs.declared.signal.Side.TheVariants.{Caller as CallerSide, Answerer as AnswererSide}
use Rattle.partial_page.specs.Store.{bit_of}
use Rattle.stations.specs.AnswererStep.{Answerer, answerer_items}
use Rattle.stations.specs.Blocks.{Block}
use Rattle.stations.specs.CallerStep.{Caller, CallerAnswer, caller_step, caller_items, caller_table, unless_caller_ended, all_frames, blocks_of}
use Rattle.stations.specs.CallerStep.{tries_again, answers_dis, answers_ftt, answers_ppr, answers_mcf, goes_on, goes_on_or_waits}
use Rattle.stations.specs.Inputs.{CallerInput, PlainItem, framed, checked, timeout, hears}
use Rattle.stations.specs.Laws.{Each}
use Rattle.stations.specs.declared.turn.CallerState.{CallerState}
use Rattle.stations.specs.declared.turn.CallerState.TheVariants.{WaitDis, WaitCfr, WaitBlock, WaitReady}
use Rattle.stations.specs.declared.turn.End.{End}
use Rattle.stations.specs.declared.turn.Turn.{Turn}
use Rattle.stations.specs.declared.turn.Turn.TheVariants as turn
use Rattle.line_sim.proofs.Lists.{either}
use Rattle.line_sim.specs.Line.{World, Outcome, Done, Nothing, InputLost, Cut, sent, caller_sends, answerer_sends}
use Rattle.line_sim.specs.LineFacts.{IsDis, OnlyDisAfterFirst}
use Rattle.referee.specs.History.{PlainSaid, look}
use Rattle.referee.specs.Questions.{tell}
use Rattle.referee.specs.declared.question.Question.TheVariants.{Sent, SurelyHas, Unasked, Left, Counted, OtherMark}
use Rattle.judged_calls.proofs.AfterDcn.{sent_none}
use Rattle.judged_calls.proofs.Events.{KnownToCaller}
use Rattle.judged_calls.proofs.FramesCome.{last_of}
use Rattle.judged_calls.proofs.OwnSignals.{each_append}
use Rattle.judged_calls.specs.SaidCalls.{and_said}

-- ---- one frame after the other

-- what each frame that is said keeps, all of them keep
pub says :
    (side : Side) (P : List PlainSaid → Type 0) (Q : PlainItem → Type 0) →
    ((signal : PlainSignal) (before : List PlainSaid) → Q (framed signal) → P before → P (record { by = side; signal = signal } ∷ before)) →
    (items : List PlainItem) (before : List PlainSaid) → Each Q items → P before → P (and_said side items before)
says side P Q one [] before q h = h
says side P Q one (framed signal ∷ items) before q h =
    says side P Q one items (record { by = side; signal = signal } ∷ before) q.1 (one signal before q.0 h)
says side P Q one (checked octets ∷ items) before q h = says side P Q one items before q.1 h

-- ---- what is under way to the caller

-- CFR or MCF was said last, but for DIS: a block begins with the next FCD
pub record Opens (before : List PlainSaid) : Type 0 where
  pub unasked : (n : ℕ) (begun : Bool) → look (tell (Unasked n)) begun before ≡ false
  pub left : (n : ℕ) (begun : Bool) → look (tell (Left n)) begun before ≡ false
  pub sent : (n : ℕ) → look (tell (Sent n)) true before ≡ false
  pub has : (n : ℕ) → look (tell (SurelyHas n)) true before ≡ false
  pub counted : look (tell Counted) true before ≡ false
  pub mark : (ends : PageEnd) (page block : ℕ) → look (tell (OtherMark ends page block)) true before ≡ false

-- a PPR was said last, but for DIS
pub record Asks (marks : List ℕ) (before : List PlainSaid) : Type 0 where
  pub unasked : (n : ℕ) (begun : Bool) → look (tell (Unasked n)) begun before ≡ not (bit_of marks n)
  pub left : (n : ℕ) (begun : Bool) → look (tell (Left n)) begun before ≡ bit_of marks n

-- an item under way to the caller was said last
abbrev pub Latest : List PlainSaid → PlainItem → Type 0
Latest before (framed cfr) = Opens before
Latest before (framed mcf) = Opens before
Latest before (framed (ppr marks)) = Asks marks before
Latest before _ = Unit {0}

-- a DIS leaves it so
latest_stays : (item : PlainItem) (before : List PlainSaid) (signal : PlainSignal) → IsDis (framed signal) → Latest before item →
    Latest (record { by = AnswererSide; signal = signal } ∷ before) item
latest_stays (framed cfr) before (dis caps) is h = record {
  unasked = λ n begun. h.unasked n (begun || false);
  left = λ n begun. h.left n (begun || false);
  sent = h.sent;
  has = h.has;
  counted = h.counted;
  mark = h.mark;
}
latest_stays (framed mcf) before (dis caps) is h = record {
  unasked = λ n begun. h.unasked n (begun || false);
  left = λ n begun. h.left n (begun || false);
  sent = h.sent;
  has = h.has;
  counted = h.counted;
  mark = h.mark;
}
latest_stays (framed (ppr marks)) before (dis caps) is h =
    record { unasked = λ n begun. h.unasked n (begun || false); left = λ n begun. h.left n (begun || false) }
latest_stays item before (dis caps) is h = tt
latest_stays item before signal is h = absurd is

all_stay : (items : List PlainItem) (before : List PlainSaid) (signal : PlainSignal) → IsDis (framed signal) → Each (Latest before) items →
    Each (Latest (record { by = AnswererSide; signal = signal } ∷ before)) items
all_stay [] before signal is h = tt
all_stay (item ∷ items) before signal is h = (latest_stays item before signal is h.0, all_stay items before signal is h.1)

latest_now : (signal : PlainSignal) (before : List PlainSaid) → Latest (record { by = AnswererSide; signal = signal } ∷ before) (framed signal)
latest_now cfr before = record {
  unasked = λ n begun. refl;
  left = λ n begun. refl;
  sent = λ n. refl;
  has = λ n. refl;
  counted = refl;
  mark = λ ends page block. refl;
}
latest_now mcf before = record {
  unasked = λ n begun. refl;
  left = λ n begun. refl;
  sent = λ n. refl;
  has = λ n. refl;
  counted = refl;
  mark = λ ends page block. refl;
}
latest_now (ppr marks) before = record { unasked = λ n begun. refl; left = λ n begun. refl }
latest_now signal before = tt

-- what is said after something under way is DIS
new_stays : (xs : List PlainItem) (before : List PlainSaid) (signal : PlainSignal) → OnlyDisAfterFirst (xs ++ framed signal ∷ []) →
    Each (Latest before) xs → Each (Latest (record { by = AnswererSide; signal = signal } ∷ before)) (xs ++ framed signal ∷ [])
new_stays [] before signal only h = (latest_now signal before, tt)
new_stays (item ∷ items) before signal only h =
    let is : IsDis (framed signal) = last_of IsDis items (framed signal) only in
    each_append (Latest (record { by = AnswererSide; signal = signal } ∷ before)) (item ∷ items) (framed signal ∷ [])
    (all_stay (item ∷ items) before signal is h) (latest_now signal before, tt)

one_stays : (xs : List PlainItem) (before : List PlainSaid) (signal : PlainSignal) (outcome : Outcome) →
    OnlyDisAfterFirst (xs ++ framed signal ∷ []) → Each (Latest before) xs →
    Each (Latest (and_said AnswererSide (sent outcome (framed signal ∷ [])) before)) (xs ++ sent outcome (framed signal ∷ []))
one_stays xs before signal Done only h = new_stays xs before signal only h
one_stays xs before signal Nothing only h = new_stays xs before signal only h
one_stays xs before signal InputLost only h = new_stays xs before signal only h
one_stays xs before signal (Cut zero) only h = each_append (Latest before) xs [] h tt
one_stays xs before signal (Cut (suc zero)) only h = new_stays xs before signal only h
one_stays xs before signal (Cut (suc (suc made))) only h = new_stays xs before signal only h

none_stay : (xs : List PlainItem) (before : List PlainSaid) (outcome : Outcome) → Each (Latest before) xs →
    Each (Latest (and_said AnswererSide (sent outcome []) before)) (xs ++ sent outcome [])
none_stay xs before outcome h = rw (sent_none outcome) (each_append (Latest before) xs [] h tt)

-- after a turn of the answerer
pub latest_answered : (t : Turn) (w : World) (next : Answerer) (outcome : Outcome) (before : List PlainSaid) →
    OnlyDisAfterFirst (answerer_sends t w next (answerer_items next t)).to_caller → Each (Latest before) w.to_caller →
    Each (Latest (and_said AnswererSide (sent outcome (answerer_items next t)) before))
    (answerer_sends t w next (sent outcome (answerer_items next t))).to_caller
latest_answered turn.Silent w next outcome before only h = rw (sent_none outcome) h
latest_answered turn.Dis w next outcome before only h = one_stays w.to_caller before (dis next.caps) outcome only h
latest_answered turn.Training w next outcome before only h = none_stay w.to_caller before outcome h
latest_answered turn.Cfr w next outcome before only h = one_stays w.to_caller before cfr outcome only h
latest_answered turn.Ftt w next outcome before only h = one_stays w.to_caller before ftt outcome only h
latest_answered (turn.Burst marks) w next outcome before only h = none_stay w.to_caller before outcome h
latest_answered turn.Pps w next outcome before only h = none_stay w.to_caller before outcome h
latest_answered turn.Mcf w next outcome before only h = one_stays w.to_caller before mcf outcome only h
latest_answered (turn.Ppr marks) w next outcome before only h = one_stays w.to_caller before (ppr marks) outcome only h
latest_answered turn.Rnr w next outcome before only h = one_stays w.to_caller before rnr outcome only h
latest_answered turn.Rr w next outcome before only h = none_stay w.to_caller before outcome h
latest_answered turn.Dcn w next outcome before only h = one_stays w.to_caller before dcn outcome only h

-- after a turn of the caller, which drops what is under way to it unless it says nothing
pub latest_called : (t : Turn) (w : World) (next : Caller) (outcome : Outcome) (before : List PlainSaid) → Each (Latest before) w.to_caller →
    Each (Latest (and_said CallerSide (sent outcome (caller_items next t)) before))
    (caller_sends t w next (sent outcome (caller_items next t))).to_caller
latest_called turn.Silent w next outcome before h = rw (sent_none outcome) h
latest_called t w next outcome before h = tt

-- what is known of the input
abbrev pub Heard : List PlainSaid → CallerInput → Type 0
Heard before input = KnownToCaller (Latest before) input

-- ---- which input a burst answers

-- the marked frames go out after a PPR with these marks, or all frames after CFR or MCF
abbrev pub LetsBurst : CallerInput → List ℕ → Type 0
LetsBurst (hears (ppr others)) marks = others ≡ marks
LetsBurst (hears cfr) marks = all_frames ≡ marks
LetsBurst (hears mcf) marks = all_frames ≡ marks
LetsBurst _ marks = ⊥

abbrev pub BurstFits : CallerInput → Turn → Type 0
BurstFits input (turn.Burst marks) = LetsBurst input marks
BurstFits input _ = Unit {0}

again_fits : (c : Caller) (input : CallerInput) (t : Turn) → BurstFits input t → BurstFits input (tries_again c t).turn
again_fits c input t fits = either (λ (a : CallerAnswer). BurstFits input a.turn) (nat_lt c.try 3) _ _ (λ k. fits) (λ k. tt)

dis_fits : (c : Caller) (input : CallerInput) (caps : Caps) (agreed : Option Params) → BurstFits input (answers_dis c caps agreed).turn
dis_fits c input caps None = tt
dis_fits c input caps (Some params) = tt

ftt_fits : (c : Caller) (input : CallerInput) (lower : Option Params) → BurstFits input (answers_ftt c lower).turn
ftt_fits c input None = tt
ftt_fits c input (Some params) = tt

goes_on_fits : (c : Caller) (input : CallerInput) (ends : PageEnd) (next : Option Block) → LetsBurst input all_frames →
    BurstFits input (goes_on c ends next).turn
goes_on_fits c input ends (Some next) lets = lets
goes_on_fits c input Eop None lets = tt
goes_on_fits c input Null None lets = tt
goes_on_fits c input Mps None lets = tt
goes_on_fits c input Eom None lets = tt

mcf_fits : (c : Caller) (block : Option Block) → BurstFits (hears mcf) (answers_mcf c block).turn
mcf_fits c None = tt
mcf_fits c (Some block) = at block.ends
  where
    next : Option Block
    next = slice_get (blocks_of c) (suc c.place)

    at : (ends : PageEnd) → BurstFits (hears mcf) (goes_on_or_waits (record c { place = suc c.place }) ends next).turn
    at Eom = tt
    at Null = goes_on_fits (record c { place = suc c.place }) (hears mcf) Null next refl
    at Mps = goes_on_fits (record c { place = suc c.place }) (hears mcf) Mps next refl
    at Eop = goes_on_fits (record c { place = suc c.place }) (hears mcf) Eop next refl

ppr_fits : (c : Caller) (marks : List ℕ) → BurstFits (hears (ppr marks)) (answers_ppr c marks).turn
ppr_fits c marks = either (λ (a : CallerAnswer). BurstFits (hears (ppr marks)) a.turn) (nat_lt c.pprs 3) _ _ (λ k. refl) (λ k. tt)

table_bursts : (state : CallerState) (input : CallerInput) (c : Caller) → BurstFits input (caller_table state input c).turn
table_bursts WaitDis (hears (dis caps)) c = dis_fits c (hears (dis caps)) caps _
table_bursts WaitCfr (hears cfr) c = goes_on_fits c (hears cfr) Mps _ refl
table_bursts WaitCfr (hears ftt) c = ftt_fits c (hears ftt) _
table_bursts WaitCfr (hears (dis caps)) c = again_fits c (hears (dis caps)) turn.Training tt
table_bursts WaitCfr timeout c = again_fits c timeout turn.Training tt
table_bursts WaitBlock (hears mcf) c = mcf_fits c _
table_bursts WaitBlock (hears (ppr marks)) c = ppr_fits c marks
table_bursts WaitBlock timeout c = again_fits c timeout turn.Pps tt
table_bursts WaitReady (hears mcf) c = mcf_fits c _
table_bursts WaitReady (hears (ppr marks)) c = ppr_fits c marks
table_bursts WaitReady timeout c = again_fits c timeout turn.Rr tt
table_bursts WaitDis input c = tt
table_bursts WaitCfr input c = tt
table_bursts WaitBlock input c = tt
table_bursts WaitReady input c = tt

pub step_bursts : (c : Caller) (input : CallerInput) → BurstFits input (caller_step c input).turn
step_bursts c input = at c.ending
  where
    at : (ending : Option End) → BurstFits input (unless_caller_ended ending input c).turn
    at (Some why) = tt
    at None = table_bursts c.state input c
