-- An MCF comes only if each frame of the block may have come: rule NotWhole.
use Rattle.std.proofs.Common.{◌≡◌, ℕ, zero, suc, ◌≤◌, ◌<◌, Bool, true, false, ◌&&◌, ◌||◌, List, [], ◌∷◌, ◌++◌, refl, sym, ap, subst, ◌∙◌, ◌⊎◌, inl, inr}
use Rattle.std.specs.Prelude.{Option, Some, None, not, nat_lt, slice_get, is_some, option_map}
use Rattle.std.proofs.lemmas.Bool.{lt-ltb, ltb-true, ltb-false}
use Rattle.signals.specs.Signals.{PlainSignal, dis, dcs, cfr, ftt, fcd, rcp, pps, ppr, mcf, rnr, rr, dcn, other}
use Rattle.signals.specs.Agreement.{allowed}
use Rattle.signals.specs.declared.params.Caps.{Caps}
use Rattle.signals.specs.declared.params.Params.{Params}
use Rattle.signals.specs.declared.params.Wish.{Wish}
use Rattle.signals.specs.declared.signal.PageEnd.{PageEnd}
use Rattle.signals.specs.declared.signal.PageEnd.TheVariants.{Null, Mps, Eom, Eop}
use Rattle.signals.specs.declared.signal.Side.{Side}
use Rattle.signals.specs.declared.signal.Side.TheVariants.{Caller as CallerSide, Answerer as AnswererSide}
use Rattle.partial_page.specs.Assembling.{within_frame_size}
use Rattle.partial_page.specs.Store.{has_frame, frame_of}
use Rattle.stations.specs.AnswererKeeping.{AnswerersKeep, TakesBlock}
use Rattle.stations.specs.AnswererStep.{Answerer, AnswererAnswer, answerer_step, answerer_items, unless_answerer_ended, answerer_table, is_repeated, is_clear}
use Rattle.stations.specs.Blocks.{Block, mark_of, last_frame_of, call_blocks}
use Rattle.stations.specs.CallerStep.{Caller, CallerAnswer, caller_step, caller_items, caller_table, unless_caller_ended, training_items, pps_items}
use Rattle.stations.specs.CallerStep.{present_block, blocks_of, tries_again, answers_dis, answers_ftt, answers_ppr, answers_mcf, goes_on, goes_on_or_waits}
use Rattle.stations.specs.Inputs.{CallerInput, AnswererInput, PlainItem, framed, checked, timeout, t1, t2, is_busy, hears, listens, trains}
use Rattle.stations.specs.Laws.{Each}
use Rattle.stations.specs.Layers.{Document, is_good_training}
use Rattle.stations.specs.declared.turn.AnswererState.{AnswererState}
use Rattle.stations.specs.declared.turn.AnswererState.TheVariants.{PhaseB, WaitTraining as InTraining, Message}
use Rattle.stations.specs.declared.turn.CallerState.{CallerState}
use Rattle.stations.specs.declared.turn.CallerState.TheVariants.{WaitDis, WaitCfr, WaitBlock, WaitReady}
use Rattle.stations.specs.declared.turn.End.{End}
use Rattle.stations.specs.declared.turn.Turn.{Turn}
use Rattle.stations.specs.declared.turn.Turn.TheVariants as turn
use Rattle.line_sim.proofs.Lists.{either}
use Rattle.line_sim.proofs.Marks.{same_mark_refl, not_repeated}
use Rattle.line_sim.specs.Headline.{LineHolds}
use Rattle.line_sim.specs.Line.{World, Outcome, Done, Nothing, InputLost, Cut, sent, new_world, caller_sends, answerer_sends, caller_acts, answerer_acts}
use Rattle.line_sim.specs.Line.{spoiled}
use Rattle.line_sim.specs.LineFacts.{LineFacts, StationFacts, SaysBlock, MayReachAnswerer, MayReachCaller, Phase, accepted_at, accepted_of}
use Rattle.referee.proofs.Numbers.{nowhere}
use Rattle.referee.specs.Frames.{asked, holds, is_within}
use Rattle.referee.specs.History.{PlainSaid, look}
use Rattle.referee.specs.Questions.{tell}
use Rattle.referee.specs.Rules.{is_not_whole}
use Rattle.referee.specs.declared.frame_test.FrameTest.TheVariants.{NeverCame}
use Rattle.referee.specs.declared.question.Question.TheVariants.{MayHave, Below, Reaches}
use Rattle.referee.specs.declared.rule.Rule.TheVariants.{NotWhole}
use Rattle.judged_calls.proofs.AfterDcn.{sent_none, caller_sends_are}
use Rattle.judged_calls.proofs.Events.{ToCaller, ToAnswerer, PartsKeep, Any, all_any, run_keeps}
use Rattle.judged_calls.proofs.FramesCome.{Comes, Held, May, comes_parts, comes_first, last_of}
use Rattle.judged_calls.proofs.Offers.{some_or, answerer_sends_are}
use Rattle.judged_calls.proofs.OwnSignals.{each_append, sent_each}
use Rattle.judged_calls.proofs.PprsAsk.{OfCaller, caller_is, PprFits, IsCheck, step_fits, counted_last, few_frames}
use Rattle.judged_calls.proofs.Bools.{and_false}
use Rattle.judged_calls.proofs.BlockSteps.{NoBurst}
use Rattle.judged_calls.specs.SaidCalls.{and_said, caller_speaks, answerer_speaks, Keeps, RuleIsKeptOfPages}

-- ---- what is known of an accepted block

-- with no FCD since: the answerer may have a frame, and a PPS counts fewer
abbrev pub MayNow : List PlainSaid → ℕ → Type 0
MayNow before n = look (tell (MayHave n)) false before ≡ true

abbrev pub BelowNow : List PlainSaid → ℕ → Type 0
BelowNow before n = look (tell (Below n)) false before ≡ true

-- each frame up to the last may have come, and each number above it is beyond the block
pub record IsDone (last : ℕ) (before : List PlainSaid) : Type 0 where
  pub come : (n : ℕ) → n ≤ last → MayNow before n
  pub above : (n : ℕ) → last < n → BelowNow before n

-- a signal after which the same is known of the block: no frame, no PPR, and no CFR
abbrev pub LeavesBlock : PlainItem → Type 0
LeavesBlock (framed (fcd number octets)) = ⊥
LeavesBlock (framed (ppr marks)) = ⊥
LeavesBlock (framed cfr) = ⊥
LeavesBlock _ = Unit {0}

done_stays : (side : Side) (signal : PlainSignal) (last : ℕ) (before : List PlainSaid) → LeavesBlock (framed signal) → IsDone last before →
    IsDone last (record { by = side; signal = signal } ∷ before)
done_stays side (dis caps) last before leaves h = record { come = h.come; above = h.above }
done_stays side (dcs params) last before leaves h = record { come = h.come; above = h.above }
done_stays side cfr last before leaves h = absurd leaves
done_stays side ftt last before leaves h = record { come = h.come; above = h.above }
done_stays side (fcd number octets) last before leaves h = absurd leaves
done_stays side rcp last before leaves h = record { come = h.come; above = h.above }
done_stays side (pps ends page block counted) last before leaves h =
    record { come = h.come; above = λ n up. some_or (nat_lt counted n) _ (h.above n up) }
done_stays side (ppr marks) last before leaves h = absurd leaves
done_stays side mcf last before leaves h = record { come = λ n low. refl; above = h.above }
done_stays side rnr last before leaves h = record { come = h.come; above = h.above }
done_stays side rr last before leaves h = record { come = h.come; above = h.above }
done_stays side dcn last before leaves h = record { come = h.come; above = h.above }
done_stays side (other octet) last before leaves h = record { come = h.come; above = h.above }

done_later : (side : Side) (items : List PlainItem) (last : ℕ) (before : List PlainSaid) → Each LeavesBlock items → IsDone last before →
    IsDone last (and_said side items before)
done_later side [] last before leaves h = h
done_later side (framed signal ∷ items) last before leaves h =
    done_later side items last (record { by = side; signal = signal } ∷ before) leaves.1 (done_stays side signal last before leaves.0 h)
done_later side (checked octets ∷ items) last before leaves h = done_later side items last before leaves.1 h

-- then an MCF breaks nothing
done_is_whole : (last : ℕ) (before : List PlainSaid) → IsDone last before → is_not_whole mcf before ≡ false
done_is_whole last before h = nowhere (λ k. holds NeverCame k before) (λ n within. at n (nat_lt last n) refl)
  where
    at : (n : ℕ) (above : Bool) → nat_lt last n ≡ above → holds NeverCame n before ≡ false
    at n true is =
        let below : asked (Below n) before ≡ true = h.above n (ltb-true last n is) in
        ap (λ b. (asked (Reaches n) before && not b) && not (asked (MayHave n) before)) below ∙
        ap (λ b. b && not (asked (MayHave n) before)) (and_false (asked (Reaches n) before))
    at n false is =
        let may : asked (MayHave n) before ≡ true = h.come n (ltb-false last n is) in
        ap (λ b. is_within n before && not b) may ∙ and_false (is_within n before)

-- ---- a PPS under way

-- each number above its last frame is beyond the block, whether or not an FCD came since
abbrev pub Ends : List PlainSaid → PlainItem → Type 0
Ends before (framed (pps ends page block last)) = (n : ℕ) → last < n → (begun : Bool) → look (tell (Below n)) begun before ≡ true
Ends before _ = Unit {0}

below_stays : (n : ℕ) (signal : PlainSignal) (before : List PlainSaid) → OfCaller (framed signal) →
    ((begun : Bool) → look (tell (Below n)) begun before ≡ true) → (begun : Bool) →
    look (tell (Below n)) begun (record { by = CallerSide; signal = signal } ∷ before) ≡ true
below_stays n (dis caps) before own h = absurd own
below_stays n (dcs params) before own h = λ begun. h (begun || false)
below_stays n cfr before own h = absurd own
below_stays n ftt before own h = absurd own
below_stays n (fcd number octets) before own h = λ begun. h (begun || true)
below_stays n rcp before own h = λ begun. h (begun || false)
below_stays n (pps ends page block last) before own h = λ begun. some_or (nat_lt last n) _ (h (begun || false))
below_stays n (ppr map) before own h = absurd own
below_stays n mcf before own h = absurd own
below_stays n rnr before own h = absurd own
below_stays n rr before own h = λ begun. h (begun || false)
below_stays n dcn before own h = λ begun. h (begun || false)
below_stays n (other octet) before own h = absurd own

ends_stay : (item : PlainItem) (signal : PlainSignal) (before : List PlainSaid) → OfCaller (framed signal) → Ends before item →
    Ends (record { by = CallerSide; signal = signal } ∷ before) item
ends_stay (framed (pps ends page block last)) signal before own h = λ n up. below_stays n signal before own (h n up)
ends_stay (framed (dis caps)) signal before own h = tt
ends_stay (framed (dcs params)) signal before own h = tt
ends_stay (framed cfr) signal before own h = tt
ends_stay (framed ftt) signal before own h = tt
ends_stay (framed (fcd number octets)) signal before own h = tt
ends_stay (framed rcp) signal before own h = tt
ends_stay (framed (ppr map)) signal before own h = tt
ends_stay (framed mcf) signal before own h = tt
ends_stay (framed rnr) signal before own h = tt
ends_stay (framed rr) signal before own h = tt
ends_stay (framed dcn) signal before own h = tt
ends_stay (framed (other octet)) signal before own h = tt
ends_stay (checked octets) signal before own h = tt

ends_now : (signal : PlainSignal) (before : List PlainSaid) → Ends (record { by = CallerSide; signal = signal } ∷ before) (framed signal)
ends_now (pps ends page block last) before = λ n up begun. rw (lt-ltb last n up) refl
ends_now (dis caps) before = tt
ends_now (dcs params) before = tt
ends_now cfr before = tt
ends_now ftt before = tt
ends_now (fcd number octets) before = tt
ends_now rcp before = tt
ends_now (ppr map) before = tt
ends_now mcf before = tt
ends_now rnr before = tt
ends_now rr before = tt
ends_now dcn before = tt
ends_now (other octet) before = tt

ends_later : (item : PlainItem) (items : List PlainItem) (before : List PlainSaid) → Each OfCaller items → Ends before item →
    Ends (and_said CallerSide items before) item
ends_later item [] before own h = h
ends_later item (framed signal ∷ items) before own h =
    ends_later item items (record { by = CallerSide; signal = signal } ∷ before) own.1 (ends_stay item signal before own.0 h)
ends_later item (checked octets ∷ items) before own h = ends_later item items before own.1 h

ends_new : (items : List PlainItem) (before : List PlainSaid) → Each OfCaller items → Each (Ends (and_said CallerSide items before)) items
ends_new [] before own = tt
ends_new (framed signal ∷ items) before own = (
  ends_later (framed signal) items (record { by = CallerSide; signal = signal } ∷ before) own.1 (ends_now signal before),
  ends_new items (record { by = CallerSide; signal = signal } ∷ before) own.1,
)
ends_new (checked octets ∷ items) before own = (tt, ends_new items before own.1)

ends_old : (xs items : List PlainItem) (before : List PlainSaid) → Each OfCaller items → Each (Ends before) xs →
    Each (Ends (and_said CallerSide items before)) xs
ends_old [] items before own h = tt
ends_old (x ∷ xs) items before own h = (ends_later x items before own h.0, ends_old xs items before own h.1)

ends_sent : (t : Turn) (w : World) (next : Caller) (items : List PlainItem) (before : List PlainSaid) → Each OfCaller items →
    Each (Ends before) w.to_answerer → Each (Ends (and_said CallerSide items before)) (caller_sends t w next items).to_answerer
ends_sent turn.Silent w next items before own h = ends_old w.to_answerer items before own h
ends_sent t w next items before own h =
    each_append (Ends (and_said CallerSide items before)) w.to_answerer items (ends_old w.to_answerer items before own h)
    (ends_new items before own)

-- ---- what the caller says breaks nothing

caller_signal : (signal : PlainSignal) (before : List PlainSaid) → OfCaller (framed signal) → Keeps NotWhole before →
    Keeps NotWhole (record { by = CallerSide; signal = signal } ∷ before)
caller_signal (dis caps) before own h = absurd own
caller_signal (dcs params) before own h = (refl, h)
caller_signal cfr before own h = absurd own
caller_signal ftt before own h = absurd own
caller_signal (fcd number octets) before own h = (refl, h)
caller_signal rcp before own h = (refl, h)
caller_signal (pps ends page block last) before own h = (refl, h)
caller_signal (ppr map) before own h = absurd own
caller_signal mcf before own h = absurd own
caller_signal rnr before own h = absurd own
caller_signal rr before own h = (refl, h)
caller_signal dcn before own h = (refl, h)
caller_signal (other octet) before own h = absurd own

caller_keeps : (items : List PlainItem) (before : List PlainSaid) → Each OfCaller items → Keeps NotWhole before →
    Keeps NotWhole (and_said CallerSide items before)
caller_keeps [] before own h = h
caller_keeps (framed signal ∷ items) before own h =
    caller_keeps items (record { by = CallerSide; signal = signal } ∷ before) own.1 (caller_signal signal before own.0 h)
caller_keeps (checked octets ∷ items) before own h = caller_keeps items before own.1 h

-- ---- what a caller's step does to its block

-- the same block is present, and no frame is sent
pub record Stays (c : Caller) (answer : CallerAnswer) : Type 0 where
  pub place : answer.next.place ≡ c.place
  pub blocks : blocks_of answer.next ≡ blocks_of c
  pub quiet : NoBurst answer.turn

-- frames of the same block are sent: CFR or PPR came
abbrev pub LetsFrames : Caller → CallerInput → Type 0
LetsFrames c (hears cfr) = c.state ≡ WaitCfr
LetsFrames c (hears (ppr marks)) = Unit {0}
LetsFrames c _ = ⊥

abbrev pub IsMcf : CallerInput → Type 0
IsMcf (hears mcf) = Unit {0}
IsMcf _ = ⊥

-- the same block is present; or a group begins or is through; or frames of the same block are sent; or MCF came, and the next block is present
abbrev pub Moves : Caller → CallerInput → CallerAnswer → Type 0
Moves c input answer =
    Stays c answer ⊎ ((answer.next.state ≡ WaitCfr) ⊎ (answer.next.state ≡ WaitDis)) ⊎
    ((answer.next.place ≡ c.place) × (blocks_of answer.next ≡ blocks_of c) × LetsFrames c input) ⊎
    ((answer.next.place ≡ suc c.place) × (blocks_of answer.next ≡ blocks_of c) × IsMcf input)

again_moves : (c : Caller) (input : CallerInput) (t : Turn) → NoBurst t → Moves c input (tries_again c t)
again_moves c input t quiet =
    either (Moves c input) (nat_lt c.try 3) _ _ (λ k. inl (record { place = refl; blocks = refl; quiet = quiet }))
    (λ k. inl (record { place = refl; blocks = refl; quiet = tt }))

dis_moves : (c : Caller) (input : CallerInput) (caps : Caps) (agreed : Option Params) → Moves c input (answers_dis c caps agreed)
dis_moves c input caps None = inl (record { place = refl; blocks = refl; quiet = tt })
dis_moves c input caps (Some params) = inr (inl (inl refl))

ftt_moves : (c : Caller) (input : CallerInput) (lower : Option Params) → c.state ≡ WaitCfr → Moves c input (answers_ftt c lower)
ftt_moves c input None e = inl (record { place = refl; blocks = refl; quiet = tt })
ftt_moves c input (Some params) e = inr (inl (inl e))

cfr_moves : (c : Caller) (next : Option Block) → c.state ≡ WaitCfr → Moves c (hears cfr) (goes_on c Mps next)
cfr_moves c None e = inl (record { place = refl; blocks = refl; quiet = tt })
cfr_moves c (Some next) e = inr (inr (inl (refl, refl, e)))

mcf_moves : (c : Caller) (block : Option Block) → Moves c (hears mcf) (answers_mcf c block)
mcf_moves c None = inl (record { place = refl; blocks = refl; quiet = tt })
mcf_moves c (Some block) = at block.ends (slice_get (blocks_of c) (suc c.place))
  where
    at : (ends : PageEnd) (next : Option Block) → Moves c (hears mcf) (goes_on_or_waits (record c { place = suc c.place }) ends next)
    at Eom next = inr (inl (inr refl))
    at Null None = inr (inr (inr (refl, refl, tt)))
    at Null (Some next) = inr (inr (inr (refl, refl, tt)))
    at Mps None = inr (inr (inr (refl, refl, tt)))
    at Mps (Some next) = inr (inr (inr (refl, refl, tt)))
    at Eop None = inr (inr (inr (refl, refl, tt)))
    at Eop (Some next) = inr (inr (inr (refl, refl, tt)))

ppr_moves : (c : Caller) (marks : List ℕ) → Moves c (hears (ppr marks)) (answers_ppr c marks)
ppr_moves c marks =
    either (Moves c (hears (ppr marks))) (nat_lt c.pprs 3) _ _ (λ k. inr (inr (inl (refl, refl, tt))))
    (λ k. inl (record { place = refl; blocks = refl; quiet = tt }))

table_moves : (state : CallerState) (input : CallerInput) (c : Caller) → c.state ≡ state → Moves c input (caller_table state input c)
table_moves WaitDis (hears (dis caps)) c e = dis_moves c (hears (dis caps)) caps _
table_moves WaitCfr (hears cfr) c e = cfr_moves c _ e
table_moves WaitCfr (hears ftt) c e = ftt_moves c (hears ftt) _ e
table_moves WaitCfr (hears (dis caps)) c e = again_moves c (hears (dis caps)) turn.Training tt
table_moves WaitCfr timeout c e = again_moves c timeout turn.Training tt
table_moves WaitBlock (hears mcf) c e = mcf_moves c _
table_moves WaitBlock (hears (ppr marks)) c e = ppr_moves c marks
table_moves WaitBlock timeout c e = again_moves c timeout turn.Pps tt
table_moves WaitReady (hears mcf) c e = mcf_moves c _
table_moves WaitReady (hears (ppr marks)) c e = ppr_moves c marks
table_moves WaitReady timeout c e = again_moves c timeout turn.Rr tt
table_moves state input c e = inl (record { place = refl; blocks = refl; quiet = tt })

pub step_moves : (c : Caller) (input : CallerInput) → Moves c input (caller_step c input)
step_moves c input = at c.ending
  where
    at : (ending : Option End) → Moves c input (unless_caller_ended ending input c)
    at (Some why) = inl (record { place = refl; blocks = refl; quiet = tt })
    at None = table_moves c.state input c refl

training_leaves : (state : CallerState) (params : Params) → Each LeavesBlock (training_items state params)
training_leaves WaitDis params = tt
training_leaves WaitCfr params = (tt, (tt, tt))
training_leaves WaitBlock params = (tt, (tt, tt))
training_leaves WaitReady params = (tt, (tt, tt))

pps_leaves : (block : Option Block) → Each LeavesBlock (pps_items block)
pps_leaves None = tt
pps_leaves (Some block) = (tt, tt)

quiet_leaves : (c : Caller) (t : Turn) → NoBurst t → Each LeavesBlock (caller_items c t)
quiet_leaves c turn.Silent quiet = tt
quiet_leaves c turn.Dis quiet = tt
quiet_leaves c turn.Training quiet = training_leaves c.state c.params
quiet_leaves c turn.Cfr quiet = tt
quiet_leaves c turn.Ftt quiet = tt
quiet_leaves c (turn.Burst marks) quiet = absurd quiet
quiet_leaves c turn.Pps quiet = pps_leaves (present_block c)
quiet_leaves c turn.Mcf quiet = tt
quiet_leaves c (turn.Ppr marks) quiet = tt
quiet_leaves c turn.Rnr quiet = tt
quiet_leaves c turn.Rr quiet = (tt, tt)
quiet_leaves c turn.Dcn quiet = (tt, tt)

-- ---- when the present block is accepted

-- the answerer has accepted the block that the caller sends
abbrev pub HasBlock : Caller → Answerer → Block → Type 0
HasBlock c s block = (slice_get (blocks_of c) c.place ≡ Some block) × (is_repeated s.accepted (mark_of block) ≡ true)

pub not_accepted : (c : Caller) (s : Answerer) (a : ℕ) (block : Block) → StationFacts c s a → a ≡ c.place → HasBlock c s block → ⊥
not_accepted c s a block f same has =
    not_repeated (c.finished ++ c.present) c.document f.call.readable c.place block has.0
    (subst (λ x. is_repeated x (mark_of block) ≡ true) (f.last ∙ ap (accepted_at (blocks_of c)) same) has.1)

pub is_accepted : (c : Caller) (s : Answerer) (a : ℕ) (block : Block) → StationFacts c s a → HasBlock c s block → a ≡ suc c.place
is_accepted c s a block f has = at f.near
  where
    at : (a ≡ c.place) ⊎ (a ≡ suc c.place) → a ≡ suc c.place
    at (inl same) = absurd (not_accepted c s a block f same has)
    at (inr next) = next

-- before a group's first block it isn't
pub not_before : (c : Caller) (s : Answerer) (a : ℕ) (block : Block) → StationFacts c s a → (c.state ≡ WaitCfr) ⊎ (c.state ≡ WaitDis) → HasBlock c s block → ⊥
not_before c s a block f (inl e) has =
    not_accepted c s a block f (subst (λ state. Phase state c a s) e f.phase).1.accepted_is has
not_before c s a block f (inr e) has =
    not_accepted c s a block f (subst (λ state. Phase state c a s) e f.phase).2.accepted_is has

-- ---- a world and what was said in it

pub record Whole (w : World) (before : List PlainSaid) : Type 0 where
  pub comes : Comes w before
  pub ends : Each (Ends before) w.to_answerer
  pub done : (block : Block) → HasBlock w.caller w.answerer block → IsDone (last_frame_of block) before
  pub keeps : Keeps NotWhole before

-- ---- the caller's step

module _ (w : World) (f : LineFacts w) (rest : List PlainItem) (outcome : Outcome) (input : CallerInput) (before : List PlainSaid)
    (is : ToCaller input w.to_caller rest) where
  abbrev reply : CallerAnswer
  reply = caller_step w.caller input

  lets_none : (i : CallerInput) → ToCaller i w.to_caller rest → LetsFrames w.caller i → f.accepted ≡ w.caller.place
  lets_none (hears cfr) gives lets = (subst (λ state. Phase state w.caller f.accepted w.answerer) lets f.stations.phase).1.accepted_is
  lets_none (hears (ppr marks)) gives lets =
      (subst (Each (MayReachCaller w.caller.place w.answerer.state f.accepted)) gives f.to_caller).0.0
  lets_none i gives lets = absurd lets

  mcf_accepts : (i : CallerInput) → ToCaller i w.to_caller rest → IsMcf i → f.accepted ≡ suc w.caller.place
  mcf_accepts (hears mcf) gives mcf_is = (subst (Each (MayReachCaller w.caller.place w.answerer.state f.accepted)) gives f.to_caller).0
  mcf_accepts i gives mcf_is = absurd mcf_is

  same_block : (block : Block) → reply.next.place ≡ w.caller.place → blocks_of reply.next ≡ blocks_of w.caller →
      HasBlock reply.next w.answerer block → HasBlock w.caller w.answerer block
  same_block block place blocks has =
      (sym (ap (λ b. slice_get b reply.next.place) blocks ∙ ap (slice_get (blocks_of w.caller)) place) ∙ has.0, has.1)

  -- no block that is accepted is present after a step that sends frames
  pub lets_new : (block : Block) → HasBlock reply.next w.answerer block →
      ((reply.next.place ≡ w.caller.place) × (blocks_of reply.next ≡ blocks_of w.caller) × LetsFrames w.caller input) ⊎
      ((reply.next.place ≡ suc w.caller.place) × (blocks_of reply.next ≡ blocks_of w.caller) × IsMcf input) → ⊥
  lets_new block has (inl lets) =
      not_accepted w.caller w.answerer f.accepted block f.stations (lets_none input is lets.2) (same_block block lets.0 lets.1 has)
  lets_new block has (inr on) =
      not_repeated (w.caller.finished ++ w.caller.present) w.caller.document f.stations.call.readable (suc w.caller.place) block
      (sym (ap (λ b. slice_get b reply.next.place) on.1 ∙ ap (slice_get (blocks_of w.caller)) on.0) ∙ has.0)
      (subst (λ x. is_repeated x (mark_of block) ≡ true)
      (f.stations.last ∙ ap (accepted_at (blocks_of w.caller)) (mcf_accepts input is on.2)) has.1)

  moved_done : Whole w before → (a : ℕ) (block : Block) → StationFacts reply.next w.answerer a → HasBlock reply.next w.answerer block →
      Moves w.caller input reply → IsDone (last_frame_of block) (caller_speaks w.caller outcome input before)
  moved_done h a block next has (inl stays) =
      done_later CallerSide (sent outcome (caller_items reply.next reply.turn)) (last_frame_of block) before
      (sent_each LeavesBlock outcome _ (quiet_leaves reply.next reply.turn stays.quiet))
      (h.done block (same_block block stays.place stays.blocks has))
  moved_done h a block next has (inr (inl begins)) = absurd (not_before reply.next w.answerer a block next begins has)
  moved_done h a block next has (inr (inr (inl lets))) = absurd (lets_new block has (inl lets))
  moved_done h a block next has (inr (inr (inr on))) = absurd (lets_new block has (inr on))

caller_whole : (w : World) (rest : List PlainItem) (outcome : Outcome) (input : CallerInput) (before : List PlainSaid) → Any outcome → LineFacts w →
    LineFacts (caller_acts (record w { to_caller = rest }) Done input) → ToCaller input w.to_caller rest → Whole w before →
    Whole (caller_acts (record w { to_caller = rest }) outcome input) (caller_speaks w.caller outcome input before)
caller_whole w rest outcome input before fine f after is h =
    let v : World = record w { to_caller = rest } in
    let answer = caller_step w.caller input in
    let items = sent outcome (caller_items answer.next answer.turn) in
    let own : Each OfCaller items = sent_each OfCaller outcome _ (caller_is answer.next answer.turn) in
    let are = caller_sends_are answer.turn v answer.next items in
    let were = caller_sends_are answer.turn v answer.next (caller_items answer.next answer.turn) in
    let next : StationFacts answer.next w.answerer after.accepted =
    subst (λ s. StationFacts answer.next s after.accepted) were.1
    (subst (λ c. StationFacts c (caller_acts v Done input).answerer after.accepted) were.0 after.stations) in
    record {
      comes = comes_parts.caller w rest outcome input before fine f after is h.comes;
      ends = ends_sent answer.turn v answer.next items before own h.ends;
      done = λ block has. moved_done w f rest outcome input before is h after.accepted block next
          (subst (λ s. HasBlock answer.next s block) are.1 (subst (λ c. HasBlock c (caller_acts v outcome input).answerer block) are.0 has))
          (step_moves w.caller input);
      keeps = caller_keeps items before own h.keeps;
    }

-- ---- the answerer's step

-- an MCF answers a PPS, or an RR once a block is accepted
abbrev pub McfBy : Answerer → AnswererInput → Turn → Type 0
McfBy s (listens (pps ends page block last)) t = Unit {0}
McfBy s input turn.Mcf = is_some s.accepted ≡ true
McfBy s input _ = Unit {0}

rr_by : (s : Answerer) (b : Bool) → (is_some s.accepted && b) ≡ true → is_some s.accepted ≡ true
rr_by s b e = at (is_some s.accepted) e
  where
    at : (x : Bool) → (x && b) ≡ true → x ≡ true
    at true e = refl
    at false e = absurd (cc)

rr_mcf : (s : Answerer) → (t : Turn) → (is_some s.accepted ≡ true) → McfBy s (listens rr) t
rr_mcf s turn.Silent h = tt
rr_mcf s turn.Dis h = tt
rr_mcf s turn.Training h = tt
rr_mcf s turn.Cfr h = tt
rr_mcf s turn.Ftt h = tt
rr_mcf s (turn.Burst marks) h = tt
rr_mcf s turn.Pps h = tt
rr_mcf s turn.Mcf h = h
rr_mcf s (turn.Ppr marks) h = tt
rr_mcf s turn.Rnr h = tt
rr_mcf s turn.Rr h = tt
rr_mcf s turn.Dcn h = tt

rr_answers : (s : Answerer) → McfBy s (listens rr) (answerer_table Message (listens rr) s).turn
rr_answers s =
    either (λ (a : AnswererAnswer). McfBy s (listens rr) a.turn) (is_some s.accepted && is_clear s.frames) _ _
    (λ e. rr_mcf s _ (rr_by s (is_clear s.frames) e)) (λ e. tt)

dcs_answers : (state : AnswererState) (params : Params) (s : Answerer) →
    McfBy s (listens (dcs params)) (answerer_table state (listens (dcs params)) s).turn
dcs_answers PhaseB params s =
    either (λ (a : AnswererAnswer). McfBy s (listens (dcs params)) a.turn) (allowed s.caps params) _ _ (λ e. tt) (λ e. tt)
dcs_answers InTraining params s =
    either (λ (a : AnswererAnswer). McfBy s (listens (dcs params)) a.turn) (allowed s.caps params) _ _ (λ e. tt) (λ e. tt)
dcs_answers Message params s =
    either (λ (a : AnswererAnswer). McfBy s (listens (dcs params)) a.turn) (allowed s.caps params) _ _ (λ e. tt) (λ e. tt)

table_answers : (state : AnswererState) (input : AnswererInput) (s : Answerer) → McfBy s input (answerer_table state input s).turn
table_answers state (listens (pps ends page block last)) s = tt
table_answers PhaseB (listens rr) s = rr_answers s
table_answers InTraining (listens rr) s = rr_answers s
table_answers Message (listens rr) s = rr_answers s
table_answers state (listens (dcs params)) s = dcs_answers state params s
table_answers InTraining (trains octets) s =
    either (λ (a : AnswererAnswer). McfBy s (trains octets) a.turn) (is_good_training octets s.params) _ _ (λ e. tt) (λ e. tt)
table_answers Message (listens (fcd number octets)) s =
    either (λ (a : AnswererAnswer). McfBy s (listens (fcd number octets)) a.turn) (within_frame_size s.params octets) _ _ (λ e. tt) (λ e. tt)
table_answers PhaseB input s = tt
table_answers InTraining input s = tt
table_answers Message input s = tt

pub step_answers : (s : Answerer) (input : AnswererInput) → McfBy s input (answerer_step s input).turn
step_answers s input = at s.ending
  where
    silent : (i : AnswererInput) → McfBy s i turn.Silent
    silent (listens (pps ends page block last)) = tt
    silent i = tt

    at : (e : Option End) → McfBy s input (unless_answerer_ended e input s).turn
    at (Some why) = silent input
    at None = table_answers s.state input s

-- an answer leaves the block, if it is neither CFR nor PPR
abbrev pub NoneAsked : Turn → Type 0
NoneAsked turn.Cfr = ⊥
NoneAsked (turn.Ppr marks) = ⊥
NoneAsked _ = Unit {0}

answer_leaves : (s : Answerer) (t : Turn) → NoneAsked t → Each LeavesBlock (answerer_items s t)
answer_leaves s turn.Silent none = tt
answer_leaves s turn.Dis none = (tt, tt)
answer_leaves s turn.Training none = tt
answer_leaves s turn.Cfr none = absurd none
answer_leaves s turn.Ftt none = (tt, tt)
answer_leaves s (turn.Burst marks) none = tt
answer_leaves s turn.Pps none = tt
answer_leaves s turn.Mcf none = (tt, tt)
answer_leaves s (turn.Ppr marks) none = absurd none
answer_leaves s turn.Rnr none = (tt, tt)
answer_leaves s turn.Rr none = tt
answer_leaves s turn.Dcn none = (tt, tt)

-- an MCF alone can break the rule
said_keeps : (signal : PlainSignal) (outcome : Outcome) (before : List PlainSaid) → is_not_whole signal before ≡ false → Keeps NotWhole before →
    Keeps NotWhole (and_said AnswererSide (sent outcome (framed signal ∷ [])) before)
said_keeps signal Done before right h = (right, h)
said_keeps signal Nothing before right h = (right, h)
said_keeps signal InputLost before right h = (right, h)
said_keeps signal (Cut zero) before right h = h
said_keeps signal (Cut (suc zero)) before right h = (right, h)
said_keeps signal (Cut (suc (suc made))) before right h = (right, h)

none_keeps : (outcome : Outcome) (before : List PlainSaid) → Keeps NotWhole before → Keeps NotWhole (and_said AnswererSide (sent outcome []) before)
none_keeps outcome before h = rw (sent_none outcome) h

answer_keeps : (s : Answerer) (t : Turn) (outcome : Outcome) (before : List PlainSaid) → (t ≡ turn.Mcf → is_not_whole mcf before ≡ false) →
    Keeps NotWhole before → Keeps NotWhole (and_said AnswererSide (sent outcome (answerer_items s t)) before)
answer_keeps s turn.Silent outcome before right h = none_keeps outcome before h
answer_keeps s turn.Dis outcome before right h = said_keeps (dis s.caps) outcome before refl h
answer_keeps s turn.Training outcome before right h = none_keeps outcome before h
answer_keeps s turn.Cfr outcome before right h = said_keeps cfr outcome before refl h
answer_keeps s turn.Ftt outcome before right h = said_keeps ftt outcome before refl h
answer_keeps s (turn.Burst marks) outcome before right h = none_keeps outcome before h
answer_keeps s turn.Pps outcome before right h = none_keeps outcome before h
answer_keeps s turn.Mcf outcome before right h = said_keeps mcf outcome before (right refl) h
answer_keeps s (turn.Ppr marks) outcome before right h = said_keeps (ppr marks) outcome before refl h
answer_keeps s turn.Rnr outcome before right h = said_keeps rnr outcome before refl h
answer_keeps s turn.Rr outcome before right h = none_keeps outcome before h
answer_keeps s turn.Dcn outcome before right h = said_keeps dcn outcome before refl h

-- a frame that is there
there : (s : Answerer) (n : ℕ) (before : List PlainSaid) → Held s.frames before → has_frame s.frames n ≡ true → May before n
there s n before held has = at (frame_of s.frames n) refl has
  where
    at : (o : Option (List ℕ)) → frame_of s.frames n ≡ o → is_some o ≡ true → May before n
    at (Some octets) is e = held n octets is
    at None is e = absurd (cc)

module _ (w : World) (f : LineFacts w) (rest : List PlainItem) (input : AnswererInput) (before : List PlainSaid)
    (is : ToAnswerer input w.to_answerer rest) (h : Whole w before) where
  abbrev answer : AnswererAnswer
  answer = answerer_step w.answerer input

  -- a block that is taken is the present one, and its frames may all have come
  taken_done : (block : Block) → slice_get (blocks_of w.caller) w.caller.place ≡ Some block → TakesBlock w.answerer input answer.next →
      IsDone (last_frame_of block) before
  taken_done block there_is taken =
      let heard : w.to_answerer ≡ framed (pps taken.ends taken.mark.page taken.mark.block taken.meets.last) ∷ rest =
      subst (λ i. ToAnswerer i w.to_answerer rest) taken.meets.heard is in
      let says : SaysBlock (slice_get (blocks_of w.caller) w.caller.place) taken.ends taken.mark taken.meets.last =
      (subst (Each (MayReachAnswerer w.caller f.accepted)) heard f.to_answerer).0.1 in
      let named : SaysBlock (Some block) taken.ends taken.mark taken.meets.last =
      subst (λ b. SaysBlock b taken.ends taken.mark taken.meets.last) there_is says in
      let few = few_frames w.caller f.stations.call.readable in
      let counted : taken.counted ≡ last_frame_of block =
      taken.meets.counted_is ∙
      ((counted_last w.answerer.asked (slice_get (blocks_of w.caller) w.caller.place) w.caller.place f.accepted taken.ends taken.mark
      taken.meets.last few f.stations.asked says).0 ∙ named.2) in
      let ends = (subst (Each (Ends before)) heard h.ends).0 in
      record {
        come = λ n low. there w.answerer n before h.comes.held (taken.all_there n (subst (λ last. n ≤ last) (sym counted) low)) false;
        above = λ n up. ends n (subst (λ last. last < n) (sym named.2) up) false;
      }

  -- a block that is accepted after the answer: it was accepted before, or is taken now
  before_done :
      ((answer.next.accepted ≡ w.answerer.accepted) × (answer.next.octets ≡ w.answerer.octets) × (answer.next.pages ≡ w.answerer.pages)) ⊎
      TakesBlock w.answerer input answer.next → (block : Block) → HasBlock w.caller answer.next block → IsDone (last_frame_of block) before
  before_done (inl same) block has = h.done block (has.0, subst (λ x. is_repeated x (mark_of block) ≡ true) same.0 has.1)
  before_done (inr taken) block has = taken_done block has.0 taken

  -- CFR answers a training check, before a group's first block; and a PPR asks for frames of a block that isn't accepted
  is_waiting : (i : AnswererInput) → ToAnswerer i w.to_answerer rest → IsCheck i → w.caller.state ≡ WaitCfr
  is_waiting (trains octets) gives check = (subst (Each (MayReachAnswerer w.caller f.accepted)) gives f.to_answerer).0
  is_waiting i gives check = absurd check

  none_asked : (t : Turn) → PprFits w.answerer input t →
      LineFacts (answerer_sends t (record w { to_answerer = rest }) answer.next (answerer_items answer.next t)) → (block : Block) →
      HasBlock w.caller answer.next block → NoneAsked t
  none_asked turn.Cfr fits facts block has =
      absurd (not_before w.caller answer.next facts.accepted block facts.stations (inl (is_waiting input is fits)) has)
  none_asked (turn.Ppr marks) fits facts block has =
      absurd (not_accepted w.caller answer.next facts.accepted block facts.stations
      (last_of (MayReachCaller w.caller.place answer.next.state facts.accepted) w.to_caller (framed (ppr marks)) facts.to_caller).0 has)
  none_asked t fits facts block has = tt

  -- no MCF where no block is
  pps_has_block : (i : AnswererInput) → ToAnswerer i w.to_answerer rest → McfBy w.answerer i turn.Mcf →
      slice_get (blocks_of w.caller) w.caller.place ≡ None → is_some w.answerer.accepted ≡ true
  pps_has_block (listens (pps ends page block last)) gives by none =
      absurd (subst (λ b. SaysBlock b ends (record { page = page; block = block }) last) none
      (subst (Each (MayReachAnswerer w.caller f.accepted)) gives f.to_answerer).0.1)
  pps_has_block i gives by none = by

  mcf_has_block :
      ((answer.next.accepted ≡ w.answerer.accepted) × (answer.next.octets ≡ w.answerer.octets) × (answer.next.pages ≡ w.answerer.pages)) ⊎
      TakesBlock w.answerer input answer.next → answer.next.accepted ≡ None → is_some w.answerer.accepted ≡ true → ⊥
  mcf_has_block (inl same) none some = (let gone : false ≡ true = subst (λ x. is_some x ≡ true) (sym same.0 ∙ none) some in cc)
  mcf_has_block (inr taken) none some = (let both : None ≡ Some _ = sym none ∙ taken.accepted in cc)

  mcf_right :
      ((answer.next.accepted ≡ w.answerer.accepted) × (answer.next.octets ≡ w.answerer.octets) × (answer.next.pages ≡ w.answerer.pages)) ⊎
      TakesBlock w.answerer input answer.next → (t : Turn) → McfBy w.answerer input t →
      LineFacts (answerer_sends t (record w { to_answerer = rest }) answer.next (answerer_items answer.next t)) → t ≡ turn.Mcf →
      is_not_whole mcf before ≡ false
  mcf_right kept turn.Mcf by facts mcf_is = at (slice_get (blocks_of w.caller) w.caller.place) refl
    where
      last : facts.accepted ≡ suc w.caller.place
      last = last_of (MayReachCaller w.caller.place answer.next.state facts.accepted) w.to_caller (framed mcf) facts.to_caller

      now : answer.next.accepted ≡ option_map accepted_of (slice_get (blocks_of w.caller) w.caller.place)
      now = facts.stations.last ∙ ap (accepted_at (blocks_of w.caller)) last

      at : (b : Option Block) → slice_get (blocks_of w.caller) w.caller.place ≡ b → is_not_whole mcf before ≡ false
      at (Some block) there_is =
          done_is_whole (last_frame_of block) before
          (before_done kept block (
            there_is,
            ap (λ x. is_repeated x (mark_of block)) (now ∙ ap (option_map accepted_of) there_is) ∙ same_mark_refl (mark_of block),
          ))
      at None none = absurd (mcf_has_block kept (now ∙ ap (option_map accepted_of) none) (pps_has_block input is by none))
  mcf_right kept t by facts mcf_is = absurd (cc)

rest_ends : (before : List PlainSaid) (i : AnswererInput) (items rest : List PlainItem) → ToAnswerer i items rest → Each (Ends before) items →
    Each (Ends before) rest
rest_ends before (listens signal) items rest is h = (subst (Each (Ends before)) is h).1
rest_ends before (trains octets) items rest is h = (subst (Each (Ends before)) is h).1
rest_ends before t1 items rest is h = subst (Each (Ends before)) is h
rest_ends before t2 items rest is h = subst (Each (Ends before)) is h
rest_ends before (is_busy busy) items rest is h = subst (Each (Ends before)) is h

ends_after : (t : Turn) (w : World) (next : Answerer) (outcome : Outcome) (before : List PlainSaid) → Each (Ends before) w.to_answerer →
    Each (Ends (and_said AnswererSide (sent outcome (answerer_items next t)) before))
    (answerer_sends t w next (sent outcome (answerer_items next t))).to_answerer
ends_after turn.Silent w next outcome before h = rw (sent_none outcome) h
ends_after t w next outcome before h = tt

module _ (keep : AnswerersKeep) where
  answerer_whole : (w : World) (rest : List PlainItem) (outcome : Outcome) (input : AnswererInput) (before : List PlainSaid) → Any outcome → LineFacts w →
      LineFacts (answerer_acts (record w { to_answerer = rest }) Done input) → ToAnswerer input w.to_answerer rest → Whole w before →
      Whole (answerer_acts (record w { to_answerer = rest }) outcome input) (answerer_speaks w.answerer outcome input before)
  answerer_whole w rest outcome input before fine f after is h =
      let v : World = record w { to_answerer = rest } in
      let answer = answerer_step w.answerer input in
      let items = sent outcome (answerer_items answer.next answer.turn) in
      let are = answerer_sends_are answer.turn v answer.next items in
      let kept = (keep w.answerer input).block in
      record {
        comes = comes_parts.answerer w rest outcome input before fine f after is h.comes;
        ends = ends_after answer.turn v answer.next outcome before (rest_ends before input w.to_answerer rest is h.ends);
        done = λ block has.
            let there_is : HasBlock w.caller answer.next block =
            subst (λ s. HasBlock w.caller s block) are.1 (subst (λ c. HasBlock c (answerer_acts v outcome input).answerer block) are.0 has) in
            done_later AnswererSide items (last_frame_of block) before
            (sent_each LeavesBlock outcome _
            (answer_leaves answer.next answer.turn
            (none_asked w f rest input before is h answer.turn (step_fits w.answerer input) after block there_is)))
            (before_done w f rest input before is h kept block there_is);
        keeps = answer_keeps answer.next answer.turn outcome before
            (mcf_right w f rest input before is h kept answer.turn (step_answers w.answerer input) after) h.keeps;
      }

  spoiled_ends : (before : List PlainSaid) (items : List PlainItem) → Each (Ends before) items → Each (Ends before) (spoiled items)
  spoiled_ends before [] h = tt
  spoiled_ends before (framed signal ∷ items) h = h
  spoiled_ends before (checked octets ∷ items) h = h

  pub whole_parts : PartsKeep Whole LineFacts Any
  whole_parts = record {
    caller = caller_whole;
    answerer = answerer_whole;
    lost_to_caller = λ w item rest before is h.
        record { comes = comes_parts.lost_to_caller w item rest before is h.comes; ends = h.ends; done = h.done; keeps = h.keeps };
    lost_to_answerer = λ w item rest before is h. record {
      comes = comes_parts.lost_to_answerer w item rest before is h.comes;
      ends = (subst (Each (Ends before)) is h.ends).1;
      done = h.done;
      keeps = h.keeps;
    };
    spoil = λ w before h. record {
      comes = comes_parts.spoil w before h.comes;
      ends = spoiled_ends before w.to_answerer h.ends;
      done = h.done;
      keeps = h.keeps;
    };
  }

-- before the first event
pub whole_first : (document : Document) (wish : Wish) (caps : Caps) →
    Whole (new_world document wish caps) (record { by = AnswererSide; signal = dis caps } ∷ [])
whole_first document wish caps = record {
  comes = comes_first document wish caps;
  ends = tt;
  done = λ block has. absurd (no_block document has.0);
  keeps = (refl, tt);
}
  where
    no_block : (document : Document) {block : Block} → slice_get (call_blocks [] 0 document) 0 ≡ Some block → ⊥
    no_block [] e = cc
    no_block (page ∷ pages) e = cc

-- the law
pub confirmed_are_whole : AnswerersKeep → LineHolds → RuleIsKeptOfPages NotWhole
confirmed_are_whole keep holds_facts document wish caps steps full =
    (run_keeps Whole LineFacts Any (whole_parts keep) steps (new_world document wish caps)
    (record { by = AnswererSide; signal = dis caps } ∷ []) (all_any steps) (λ more. holds_facts document wish caps more full)
    (whole_first document wish caps)).keeps
