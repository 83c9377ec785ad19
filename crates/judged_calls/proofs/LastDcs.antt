-- What the last DCS says of a frame's size, and a caller's parameters, which stay while it sends.
use Rattle.std.proofs.Common.{◌≡◌, ℕ, suc, Bool, true, false, cond, ◌||◌, List, [], ◌∷◌, refl, sym, subst, ◌⊎◌, inl, inr}
use Rattle.std.specs.Prelude.{Option, Some, None, nat_lt, slice_get}
use Rattle.signals.specs.Signals.{PlainSignal, dis, dcs, cfr, ftt, fcd, rcp, pps, ppr, mcf, rnr, rr, dcn, other}
use Rattle.signals.specs.declared.params.Caps.{Caps}
use Rattle.signals.specs.declared.params.Params.{Params}
use Rattle.signals.specs.declared.signal.PageEnd.{PageEnd}
use Rattle.signals.specs.declared.signal.PageEnd.TheVariants.{Null, Mps, Eom, Eop}
use Rattle.signals.specs.declared.signal.Side.{Side}
use Rattle.partial_page.specs.Store.{bit_of}
use Rattle.stations.specs.Blocks.{Block}
use Rattle.stations.specs.CallerFields.{IsSending}
use Rattle.stations.specs.Inputs.{CallerInput, PlainItem, framed, checked, timeout, t5, hears}
use Rattle.stations.specs.Laws.{Each}
use Rattle.stations.specs.CallerStep.{Caller, CallerAnswer, caller_step, caller_items, caller_table, unless_caller_ended, training_items, fcds}
use Rattle.stations.specs.CallerStep.{pps_of, burst_of, pps_items, present_block, blocks_of, tries_again, answers_dis, answers_ftt}
use Rattle.stations.specs.CallerStep.{answers_ppr, answers_mcf, goes_on, goes_on_or_waits}
use Rattle.stations.specs.declared.turn.CallerState.{CallerState}
use Rattle.stations.specs.declared.turn.CallerState.TheVariants.{WaitDis, WaitCfr, WaitBlock, WaitReady}
use Rattle.stations.specs.declared.turn.End.{End}
use Rattle.stations.specs.declared.turn.Turn.{Turn}
use Rattle.stations.specs.declared.turn.Turn.TheVariants as turn
use Rattle.line_sim.proofs.Lists.{either}
use Rattle.referee.specs.History.{PlainSaid, look}
use Rattle.referee.specs.Questions.{tell}
use Rattle.referee.specs.declared.question.Question.TheVariants.{Small}
use Rattle.judged_calls.proofs.OwnSignals.{each_append}
use Rattle.judged_calls.specs.SaidCalls.{and_said}

-- ---- what the last DCS says

-- whether the last DCS says that frames are small
abbrev pub SmallIs : Bool → List PlainSaid → Type 0
SmallIs small before = (begun : Bool) → look (tell Small) begun before ≡ small

-- a DCS among a station's items says so
abbrev pub SaysSmall : Bool → PlainItem → Type 0
SaysSmall small (framed (dcs params)) = params.small ≡ small
SaysSmall small _ = Unit {0}

pub small_stays : (side : Side) (signal : PlainSignal) (small : Bool) (before : List PlainSaid) → SaysSmall small (framed signal) → SmallIs small before →
    SmallIs small (record { by = side; signal = signal } ∷ before)
small_stays side (dis caps) small before says h begun = h (begun || false)
small_stays side (dcs params) small before says h begun = says
small_stays side cfr small before says h begun = h (begun || false)
small_stays side ftt small before says h begun = h (begun || false)
small_stays side (fcd number octets) small before says h begun = h (begun || true)
small_stays side rcp small before says h begun = h (begun || false)
small_stays side (pps ends page block last) small before says h begun = h (begun || false)
small_stays side (ppr marks) small before says h begun = h (begun || false)
small_stays side mcf small before says h begun = h (begun || false)
small_stays side rnr small before says h begun = h (begun || false)
small_stays side rr small before says h begun = h (begun || false)
small_stays side dcn small before says h begun = h (begun || false)
small_stays side (other octet) small before says h begun = h (begun || false)

pub small_later : (side : Side) (items : List PlainItem) (small : Bool) (before : List PlainSaid) → Each (SaysSmall small) items → SmallIs small before →
    SmallIs small (and_said side items before)
small_later side [] small before says h = h
small_later side (framed signal ∷ items) small before says h =
    small_later side items small (record { by = side; signal = signal } ∷ before) says.1 (small_stays side signal small before says.0 h)
small_later side (checked octets ∷ items) small before says h = small_later side items small before says.1 h

-- ---- what a caller says

training_says : (state : CallerState) (params : Params) → Each (SaysSmall params.small) (training_items state params)
training_says WaitDis params = tt
training_says WaitCfr params = (refl, (tt, tt))
training_says WaitBlock params = (refl, (tt, tt))
training_says WaitReady params = (refl, (tt, tt))

fcds_say : (small : Bool) (marks : List ℕ) (number : ℕ) (frames : List (List ℕ)) → Each (SaysSmall small) (fcds marks number frames)
fcds_say small marks number [] = tt
fcds_say small marks number (octets ∷ frames) = at (bit_of marks number) (fcds_say small marks (suc number) frames)
  where
    at : (b : Bool) → Each (SaysSmall small) (fcds marks (suc number) frames) →
        Each (SaysSmall small) (cond b (framed (fcd number octets) ∷ fcds marks (suc number) frames) (fcds marks (suc number) frames))
    at true h = (tt, h)
    at false h = h

pub burst_says : (small : Bool) (marks : List ℕ) (block : Option Block) → Each (SaysSmall small) (burst_of marks block)
burst_says small marks None = tt
burst_says small marks (Some block) =
    each_append (SaysSmall small) (fcds marks 0 block.frames) (framed rcp ∷ framed rcp ∷ framed rcp ∷ pps_of block ∷ [])
    (fcds_say small marks 0 block.frames) (tt, (tt, (tt, (tt, tt))))

pps_says : (small : Bool) (block : Option Block) → Each (SaysSmall small) (pps_items block)
pps_says small None = tt
pps_says small (Some block) = (tt, tt)

pub caller_says : (c : Caller) (t : Turn) → Each (SaysSmall c.params.small) (caller_items c t)
caller_says c turn.Silent = tt
caller_says c turn.Dis = tt
caller_says c turn.Training = training_says c.state c.params
caller_says c turn.Cfr = tt
caller_says c turn.Ftt = tt
caller_says c (turn.Burst marks) = burst_says c.params.small marks (present_block c)
caller_says c turn.Pps = pps_says c.params.small (present_block c)
caller_says c turn.Mcf = tt
caller_says c (turn.Ppr marks) = tt
caller_says c turn.Rnr = tt
caller_says c turn.Rr = (tt, tt)
caller_says c turn.Dcn = (tt, tt)

-- ---- what a caller's step does to its parameters

-- the end of a wait
abbrev pub IsTimer : CallerInput → Type 0
IsTimer (hears signal) = ⊥
IsTimer timeout = Unit {0}
IsTimer t5 = Unit {0}

-- CFR
abbrev pub IsCfr : CallerInput → Type 0
IsCfr (hears cfr) = Unit {0}
IsCfr _ = ⊥

-- A caller that sends sent before, or has heard CFR, and has the same parameters; so has one that is silent, and at the end of a wait.
pub record KeepsParams (c : Caller) (input : CallerInput) (answer : CallerAnswer) : Type 0 where
  pub sends : IsSending answer.next.state → (IsCfr input ⊎ IsSending c.state) × (answer.next.params ≡ c.params)
  pub silent : answer.turn ≡ turn.Silent → answer.next.params ≡ c.params
  pub timer : IsTimer input → answer.next.params ≡ c.params

same_ok : (c : Caller) (input : CallerInput) (answer : CallerAnswer) → (IsSending answer.next.state → IsCfr input ⊎ IsSending c.state) →
    answer.next.params ≡ c.params → KeepsParams c input answer
same_ok c input answer sends is = record { sends = λ h. (sends h, is); silent = λ silent. is; timer = λ timer. is }

again_ok : (c : Caller) (input : CallerInput) (t : Turn) → KeepsParams c input (tries_again c t)
again_ok c input t = either (KeepsParams c input) (nat_lt c.try 3) _ _ (λ k. same_ok c input _ inr refl) (λ k. same_ok c input _ inr refl)

dis_ok : (c : Caller) (caps : Caps) (agreed : Option Params) → KeepsParams c (hears (dis caps)) (answers_dis c caps agreed)
dis_ok c caps None = same_ok c (hears (dis caps)) _ inr refl
dis_ok c caps (Some params) = record { sends = λ h. absurd h; silent = λ is. absurd (cc); timer = λ timer. absurd timer }

ftt_ok : (c : Caller) (lower : Option Params) → c.state ≡ WaitCfr → KeepsParams c (hears ftt) (answers_ftt c lower)
ftt_ok c None is = same_ok c (hears ftt) _ inr refl
ftt_ok c (Some params) is =
    record { sends = λ h. absurd (subst IsSending is h); silent = λ silent. absurd (cc); timer = λ timer. absurd timer }

goes_on_ok : (c : Caller) (input : CallerInput) (ends : PageEnd) (next : Option Block) → (IsCfr input ⊎ IsSending c.state) →
    KeepsParams c input (goes_on c ends next)
goes_on_ok c input ends (Some next) h = same_ok c input _ (λ k. h) refl
goes_on_ok c input Eop None h = same_ok c input _ (λ k. h) refl
goes_on_ok c input Null None h = same_ok c input _ (λ k. h) refl
goes_on_ok c input Mps None h = same_ok c input _ (λ k. h) refl
goes_on_ok c input Eom None h = same_ok c input _ (λ k. h) refl

moved : (c : Caller) (input : CallerInput) (answer : CallerAnswer) → KeepsParams (record c { place = suc c.place }) input answer → KeepsParams c input answer
moved c input answer h = record { sends = h.sends; silent = h.silent; timer = h.timer }

mcf_ok : (c : Caller) (block : Option Block) → IsSending c.state → KeepsParams c (hears mcf) (answers_mcf c block)
mcf_ok c None h = same_ok c (hears mcf) _ inr refl
mcf_ok c (Some block) h = at block.ends
  where
    next : Option Block
    next = slice_get (blocks_of c) (suc c.place)

    at : (ends : PageEnd) → KeepsParams c (hears mcf) (goes_on_or_waits (record c { place = suc c.place }) ends next)
    at Eom = same_ok c (hears mcf) _ (λ k. absurd k) refl
    at Null = moved c (hears mcf) _ (goes_on_ok (record c { place = suc c.place }) (hears mcf) Null next (inr h))
    at Mps = moved c (hears mcf) _ (goes_on_ok (record c { place = suc c.place }) (hears mcf) Mps next (inr h))
    at Eop = moved c (hears mcf) _ (goes_on_ok (record c { place = suc c.place }) (hears mcf) Eop next (inr h))

ppr_ok : (c : Caller) (marks : List ℕ) → IsSending c.state → KeepsParams c (hears (ppr marks)) (answers_ppr c marks)
ppr_ok c marks h =
    either (KeepsParams c (hears (ppr marks))) (nat_lt c.pprs 3) _ _ (λ k. same_ok c (hears (ppr marks)) _ (λ sends. inr h) refl)
    (λ k. same_ok c (hears (ppr marks)) _ inr refl)

module _ (c : Caller) where
  sends_in : (state : CallerState) → c.state ≡ state → IsSending state → IsSending c.state
  sends_in state is h = subst IsSending (sym is) h

  table_ok : (state : CallerState) (input : CallerInput) → c.state ≡ state → KeepsParams c input (caller_table state input c)
  table_ok WaitDis (hears (dis caps)) is = dis_ok c caps _
  table_ok WaitDis (hears (dcs params)) is = same_ok c (hears (dcs params)) _ inr refl
  table_ok WaitDis (hears cfr) is = same_ok c (hears cfr) _ inr refl
  table_ok WaitDis (hears ftt) is = same_ok c (hears ftt) _ inr refl
  table_ok WaitDis (hears (fcd number octets)) is = same_ok c (hears (fcd number octets)) _ inr refl
  table_ok WaitDis (hears rcp) is = same_ok c (hears rcp) _ inr refl
  table_ok WaitDis (hears (pps ends page block last)) is = same_ok c (hears (pps ends page block last)) _ inr refl
  table_ok WaitDis (hears (ppr marks)) is = same_ok c (hears (ppr marks)) _ inr refl
  table_ok WaitDis (hears mcf) is = same_ok c (hears mcf) _ inr refl
  table_ok WaitDis (hears rnr) is = same_ok c (hears rnr) _ inr refl
  table_ok WaitDis (hears rr) is = same_ok c (hears rr) _ inr refl
  table_ok WaitDis (hears dcn) is = same_ok c (hears dcn) _ inr refl
  table_ok WaitDis (hears (other octet)) is = same_ok c (hears (other octet)) _ inr refl
  table_ok WaitDis timeout is = same_ok c timeout _ inr refl
  table_ok WaitDis t5 is = same_ok c t5 _ inr refl
  table_ok WaitCfr (hears (dis caps)) is = again_ok c (hears (dis caps)) turn.Training
  table_ok WaitCfr (hears (dcs params)) is = same_ok c (hears (dcs params)) _ inr refl
  table_ok WaitCfr (hears cfr) is = goes_on_ok c (hears cfr) Mps _ (inl tt)
  table_ok WaitCfr (hears ftt) is = ftt_ok c _ is
  table_ok WaitCfr (hears (fcd number octets)) is = same_ok c (hears (fcd number octets)) _ inr refl
  table_ok WaitCfr (hears rcp) is = same_ok c (hears rcp) _ inr refl
  table_ok WaitCfr (hears (pps ends page block last)) is = same_ok c (hears (pps ends page block last)) _ inr refl
  table_ok WaitCfr (hears (ppr marks)) is = same_ok c (hears (ppr marks)) _ inr refl
  table_ok WaitCfr (hears mcf) is = same_ok c (hears mcf) _ inr refl
  table_ok WaitCfr (hears rnr) is = same_ok c (hears rnr) _ inr refl
  table_ok WaitCfr (hears rr) is = same_ok c (hears rr) _ inr refl
  table_ok WaitCfr (hears dcn) is = same_ok c (hears dcn) _ inr refl
  table_ok WaitCfr (hears (other octet)) is = same_ok c (hears (other octet)) _ inr refl
  table_ok WaitCfr timeout is = again_ok c timeout turn.Training
  table_ok WaitCfr t5 is = same_ok c t5 _ inr refl
  table_ok WaitBlock (hears (dis caps)) is = same_ok c (hears (dis caps)) _ inr refl
  table_ok WaitBlock (hears (dcs params)) is = same_ok c (hears (dcs params)) _ inr refl
  table_ok WaitBlock (hears cfr) is = same_ok c (hears cfr) _ inr refl
  table_ok WaitBlock (hears ftt) is = same_ok c (hears ftt) _ inr refl
  table_ok WaitBlock (hears (fcd number octets)) is = same_ok c (hears (fcd number octets)) _ inr refl
  table_ok WaitBlock (hears rcp) is = same_ok c (hears rcp) _ inr refl
  table_ok WaitBlock (hears (pps ends page block last)) is = same_ok c (hears (pps ends page block last)) _ inr refl
  table_ok WaitBlock (hears (ppr marks)) is = ppr_ok c marks (sends_in WaitBlock is tt)
  table_ok WaitBlock (hears mcf) is = mcf_ok c _ (sends_in WaitBlock is tt)
  table_ok WaitBlock (hears rnr) is = same_ok c (hears rnr) _ (λ h. inr (sends_in WaitBlock is tt)) refl
  table_ok WaitBlock (hears rr) is = same_ok c (hears rr) _ inr refl
  table_ok WaitBlock (hears dcn) is = same_ok c (hears dcn) _ inr refl
  table_ok WaitBlock (hears (other octet)) is = same_ok c (hears (other octet)) _ inr refl
  table_ok WaitBlock timeout is = again_ok c timeout turn.Pps
  table_ok WaitBlock t5 is = same_ok c t5 _ inr refl
  table_ok WaitReady (hears (dis caps)) is = same_ok c (hears (dis caps)) _ inr refl
  table_ok WaitReady (hears (dcs params)) is = same_ok c (hears (dcs params)) _ inr refl
  table_ok WaitReady (hears cfr) is = same_ok c (hears cfr) _ inr refl
  table_ok WaitReady (hears ftt) is = same_ok c (hears ftt) _ inr refl
  table_ok WaitReady (hears (fcd number octets)) is = same_ok c (hears (fcd number octets)) _ inr refl
  table_ok WaitReady (hears rcp) is = same_ok c (hears rcp) _ inr refl
  table_ok WaitReady (hears (pps ends page block last)) is = same_ok c (hears (pps ends page block last)) _ inr refl
  table_ok WaitReady (hears (ppr marks)) is = ppr_ok c marks (sends_in WaitReady is tt)
  table_ok WaitReady (hears mcf) is = mcf_ok c _ (sends_in WaitReady is tt)
  table_ok WaitReady (hears rnr) is = same_ok c (hears rnr) _ (λ h. inr (sends_in WaitReady is tt)) refl
  table_ok WaitReady (hears rr) is = same_ok c (hears rr) _ inr refl
  table_ok WaitReady (hears dcn) is = same_ok c (hears dcn) _ inr refl
  table_ok WaitReady (hears (other octet)) is = same_ok c (hears (other octet)) _ inr refl
  table_ok WaitReady timeout is = again_ok c timeout turn.Rr
  table_ok WaitReady t5 is = same_ok c t5 _ inr refl

  pub step_ok : (input : CallerInput) → KeepsParams c input (caller_step c input)
  step_ok input = at c.ending
    where
      at : (e : Option End) → KeepsParams c input (unless_caller_ended e input c)
      at (Some why) = same_ok c input _ inr refl
      at None = table_ok c.state input refl
