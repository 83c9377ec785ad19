-- A DCS asks for what a DIS offers: rule NotOffered.
use Rattle.std.proofs.Common.{◌≡◌, ℕ, Bool, true, false, cond, ◌||◌, List, [], ◌∷◌, refl, sym, ap, subst, ◌∙◌}
use Rattle.std.specs.Prelude.{Option, Some, None, unwrap_or, nat_lt, slice_get, suc}
use Rattle.raster.specs.Pages.{PagePixels}
use Rattle.signals.specs.Agreement.{allowed, LoweredIsAllowed}
use Rattle.signals.specs.Signals.{PlainSignal, dis, dcs, cfr, ftt, fcd, rcp, pps, ppr, mcf, rnr, rr, dcn, other}
use Rattle.signals.specs.declared.params.Caps.{Caps}
use Rattle.signals.specs.declared.params.Params.{Params}
use Rattle.signals.specs.declared.params.Wish.{Wish}
use Rattle.signals.specs.declared.signal.PageEnd.{PageEnd}
use Rattle.signals.specs.declared.signal.PageEnd.TheVariants.{Null, Mps, Eom, Eop}
use Rattle.signals.specs.declared.signal.Side.{Side}
use Rattle.signals.specs.declared.signal.Side.TheVariants.{Caller as CallerSide, Answerer as AnswererSide}
use Rattle.partial_page.specs.Store.{bit_of}
use Rattle.stations.specs.AnswererKeeping.{AnswerersKeep}
use Rattle.stations.specs.AnswererStep.{Answerer, answerer_step, answerer_items}
use Rattle.stations.specs.Blocks.{Block}
use Rattle.stations.specs.CallerStep.{Caller, CallerAnswer, caller_step, caller_items, caller_table, unless_caller_ended, training_items, fcds}
use Rattle.stations.specs.CallerStep.{pps_of, burst_of, pps_items, present_block, blocks_of, confirmed, tries_again, answers_dis, answers_ftt}
use Rattle.stations.specs.CallerStep.{answers_ppr, answers_mcf, goes_on, goes_on_or_waits}
use Rattle.stations.specs.Inputs.{CallerInput, AnswererInput, PlainItem, framed, checked, timeout, t5, hears}
use Rattle.stations.specs.Laws.{Each, SignalsHold}
use Rattle.stations.specs.Layers.{agreed_for, lowered}
use Rattle.stations.specs.declared.turn.CallerState.{CallerState}
use Rattle.stations.specs.declared.turn.CallerState.TheVariants.{WaitDis, WaitCfr, WaitBlock, WaitReady}
use Rattle.stations.specs.declared.turn.End.{End}
use Rattle.stations.specs.declared.turn.Turn.{Turn}
use Rattle.stations.specs.declared.turn.Turn.TheVariants as turn
use Rattle.line_sim.proofs.Agreed.{lowered_may}
use Rattle.line_sim.proofs.Lists.{either}
use Rattle.line_sim.specs.Line.{World, Outcome, sent, new_world, caller_sends, answerer_sends, caller_acts, answerer_acts}
use Rattle.referee.specs.History.{PlainSaid, look}
use Rattle.referee.specs.Questions.{tell}
use Rattle.referee.specs.declared.question.Question.TheVariants.{Offered}
use Rattle.referee.specs.declared.rule.Rule.TheVariants.{NotOffered}
use Rattle.judged_calls.proofs.AfterDcn.{caller_sends_are}
use Rattle.judged_calls.proofs.Events.{ToCaller, ToAnswerer, PartsKeep, Any, all_any, run_keeps}
use Rattle.judged_calls.proofs.OwnSignals.{each_append, sent_each}
use Rattle.judged_calls.specs.SaidCalls.{and_said, caller_speaks, answerer_speaks, Keeps, RuleIsKept}

-- ---- what was offered

-- each DCS that these capabilities allow was offered by a DIS
abbrev pub WereOffered : Caps → List PlainSaid → Type 0
WereOffered caps before = (params : Params) → allowed caps params ≡ true → (begun : Bool) → look (tell (Offered params)) begun before ≡ true

-- a DIS has the capabilities, and a DCS asks for what they allow
abbrev pub IsOffered : Caps → PlainItem → Type 0
IsOffered caps (framed (dis others)) = others ≡ caps
IsOffered caps (framed (dcs params)) = allowed caps params ≡ true
IsOffered caps _ = Unit {0}

pub some_or : (b c : Bool) → c ≡ true → unwrap_or (cond b (Some true) None) c ≡ true
some_or true c h = refl
some_or false c h = h

offered_stays : (caps : Caps) (side : Side) (signal : PlainSignal) (before : List PlainSaid) → WereOffered caps before →
    WereOffered caps (record { by = side; signal = signal } ∷ before)
offered_stays caps side (dis others) before h params may begun = some_or (allowed others params) _ (h params may (begun || false))
offered_stays caps side (dcs others) before h params may begun = h params may (begun || false)
offered_stays caps side cfr before h params may begun = h params may (begun || false)
offered_stays caps side ftt before h params may begun = h params may (begun || false)
offered_stays caps side (fcd number octets) before h params may begun = h params may (begun || true)
offered_stays caps side rcp before h params may begun = h params may (begun || false)
offered_stays caps side (pps ends page block last) before h params may begun = h params may (begun || false)
offered_stays caps side (ppr marks) before h params may begun = h params may (begun || false)
offered_stays caps side mcf before h params may begun = h params may (begun || false)
offered_stays caps side rnr before h params may begun = h params may (begun || false)
offered_stays caps side rr before h params may begun = h params may (begun || false)
offered_stays caps side dcn before h params may begun = h params may (begun || false)
offered_stays caps side (other octet) before h params may begun = h params may (begun || false)

-- a frame breaks the rule if it is a DCS that wasn't offered
signal_keeps : (caps : Caps) (side : Side) (signal : PlainSignal) (before : List PlainSaid) → IsOffered caps (framed signal) →
    WereOffered caps before → Keeps NotOffered before → Keeps NotOffered (record { by = side; signal = signal } ∷ before)
signal_keeps caps side (dcs params) before may offered h = (rw (offered params may false) refl, h)
signal_keeps caps side (dis others) before may offered h = (refl, h)
signal_keeps caps side cfr before may offered h = (refl, h)
signal_keeps caps side ftt before may offered h = (refl, h)
signal_keeps caps side (fcd number octets) before may offered h = (refl, h)
signal_keeps caps side rcp before may offered h = (refl, h)
signal_keeps caps side (pps ends page block last) before may offered h = (refl, h)
signal_keeps caps side (ppr marks) before may offered h = (refl, h)
signal_keeps caps side mcf before may offered h = (refl, h)
signal_keeps caps side rnr before may offered h = (refl, h)
signal_keeps caps side rr before may offered h = (refl, h)
signal_keeps caps side dcn before may offered h = (refl, h)
signal_keeps caps side (other octet) before may offered h = (refl, h)

offered_later : (caps : Caps) (side : Side) (items : List PlainItem) (before : List PlainSaid) → WereOffered caps before →
    WereOffered caps (and_said side items before)
offered_later caps side [] before h = h
offered_later caps side (framed signal ∷ items) before h =
    offered_later caps side items (record { by = side; signal = signal } ∷ before) (offered_stays caps side signal before h)
offered_later caps side (checked octets ∷ items) before h = offered_later caps side items before h

keeps_later : (caps : Caps) (side : Side) (items : List PlainItem) (before : List PlainSaid) → Each (IsOffered caps) items →
    WereOffered caps before → Keeps NotOffered before → Keeps NotOffered (and_said side items before)
keeps_later caps side [] before may offered h = h
keeps_later caps side (framed signal ∷ items) before may offered h =
    keeps_later caps side items (record { by = side; signal = signal } ∷ before) may.1 (offered_stays caps side signal before offered)
    (signal_keeps caps side signal before may.0 offered h)
keeps_later caps side (checked octets ∷ items) before may offered h = keeps_later caps side items before may.1 offered h

-- ---- the caller

-- past the wait for a DIS a caller has the capabilities of one, and asks for what they allow
abbrev pub Knows : CallerState → Caps → Caps → Params → Type 0
Knows WaitDis caps own params = Unit {0}
Knows WaitCfr caps own params = (own ≡ caps) × (allowed caps params ≡ true)
Knows WaitBlock caps own params = (own ≡ caps) × (allowed caps params ≡ true)
Knows WaitReady caps own params = (own ≡ caps) × (allowed caps params ≡ true)

abbrev pub KnowsOf : Caps → Caller → Type 0
KnowsOf caps c = Knows c.state caps c.caps c.params

-- a signal is offered
abbrev pub Given : Caps → CallerInput → Type 0
Given caps (hears signal) = IsOffered caps (framed signal)
Given caps _ = Unit {0}

module _ (laws : SignalsHold) (law : LoweredIsAllowed) (caps : Caps) where
  again_knows : (c : Caller) (t : Turn) → KnowsOf caps c → KnowsOf caps (tries_again c t).next
  again_knows c t h = either (λ (a : CallerAnswer). KnowsOf caps a.next) (nat_lt c.try 3) _ _ (λ k. h) (λ k. h)

  agreed_may : (wish : Wish) (page : Option PagePixels) (params : Params) → agreed_for caps wish page ≡ Some params → allowed caps params ≡ true
  unfolding agreed_for
  agreed_may wish None params is = cc
  agreed_may wish (Some page) params is = laws.agreed_allowed caps wish page params is

  dis_knows : (c : Caller) (others : Caps) (agreed : Option Params) → others ≡ caps →
      agreed_for others c.wish (slice_get c.document (confirmed c)) ≡ agreed → KnowsOf caps c → KnowsOf caps (answers_dis c others agreed).next
  dis_knows c others None same is h = h
  dis_knows c others (Some params) same is h = (
    same,
    agreed_may c.wish (slice_get c.document (confirmed c)) params
        (subst (λ k. agreed_for k c.wish (slice_get c.document (confirmed c)) ≡ Some params) same is),
  )

  ftt_knows : (c : Caller) (lower : Option Params) → c.state ≡ WaitCfr → lowered c.caps c.wish c.params ≡ lower → KnowsOf caps c →
      KnowsOf caps (answers_ftt c lower).next
  ftt_knows c None e is h = h
  ftt_knows c (Some params) e is h =
      let known : Knows WaitCfr caps c.caps c.params = subst (λ state. Knows state caps c.caps c.params) e h in
      let may : allowed c.caps c.params ≡ true = subst (λ k. allowed k c.params ≡ true) (sym known.0) known.1 in
      let next : Knows WaitCfr caps c.caps params =
      (known.0, subst (λ k. allowed k params ≡ true) known.0 (lowered_may law c.caps c.wish c.params params is may)) in
      subst (λ state. Knows state caps c.caps params) (sym e) next

  goes_on_knows : (c : Caller) (ends : PageEnd) (next : Option Block) → Knows WaitBlock caps c.caps c.params → KnowsOf caps c →
      KnowsOf caps (goes_on c ends next).next
  goes_on_knows c ends (Some next) known h = known
  goes_on_knows c Eop None known h = h
  goes_on_knows c Null None known h = h
  goes_on_knows c Mps None known h = h
  goes_on_knows c Eom None known h = h

  mcf_knows : (c : Caller) (block : Option Block) → Knows WaitBlock caps c.caps c.params → KnowsOf caps c → KnowsOf caps (answers_mcf c block).next
  mcf_knows c None known h = h
  mcf_knows c (Some block) known h = at block.ends
    where
      next : Option Block
      next = slice_get (blocks_of c) (suc c.place)

      at : (ends : PageEnd) → KnowsOf caps (goes_on_or_waits (record c { place = suc c.place }) ends next).next
      at Eom = tt
      at Null = goes_on_knows (record c { place = suc c.place }) Null next known h
      at Mps = goes_on_knows (record c { place = suc c.place }) Mps next known h
      at Eop = goes_on_knows (record c { place = suc c.place }) Eop next known h

  ppr_knows : (c : Caller) (marks : List ℕ) → Knows WaitBlock caps c.caps c.params → KnowsOf caps c → KnowsOf caps (answers_ppr c marks).next
  ppr_knows c marks known h = either (λ (a : CallerAnswer). KnowsOf caps a.next) (nat_lt c.pprs 3) _ _ (λ k. known) (λ k. h)

  table_knows : (state : CallerState) (input : CallerInput) (c : Caller) → c.state ≡ state → Given caps input → KnowsOf caps c →
      KnowsOf caps (caller_table state input c).next
  table_knows WaitDis (hears (dis others)) c e given h = dis_knows c others _ given refl h
  table_knows WaitCfr (hears cfr) c e given h =
      goes_on_knows c Mps _ (subst (λ state. Knows state caps c.caps c.params) e h) h
  table_knows WaitCfr (hears ftt) c e given h = ftt_knows c _ e refl h
  table_knows WaitCfr (hears (dis others)) c e given h = again_knows c turn.Training h
  table_knows WaitCfr timeout c e given h = again_knows c turn.Training h
  table_knows WaitBlock (hears mcf) c e given h = mcf_knows c _ (subst (λ state. Knows state caps c.caps c.params) e h) h
  table_knows WaitBlock (hears (ppr marks)) c e given h = ppr_knows c marks (subst (λ state. Knows state caps c.caps c.params) e h) h
  table_knows WaitBlock (hears rnr) c e given h = subst (λ state. Knows state caps c.caps c.params) e h
  table_knows WaitBlock timeout c e given h = again_knows c turn.Pps h
  table_knows WaitReady (hears mcf) c e given h = mcf_knows c _ (subst (λ state. Knows state caps c.caps c.params) e h) h
  table_knows WaitReady (hears (ppr marks)) c e given h = ppr_knows c marks (subst (λ state. Knows state caps c.caps c.params) e h) h
  table_knows WaitReady (hears rnr) c e given h = subst (λ state. Knows state caps c.caps c.params) e h
  table_knows WaitReady timeout c e given h = again_knows c turn.Rr h
  table_knows state input c e given h = h

  step_knows : (c : Caller) (input : CallerInput) → Given caps input → KnowsOf caps c → KnowsOf caps (caller_step c input).next
  step_knows c input given h = at c.ending
    where
      at : (ending : Option End) → KnowsOf caps (unless_caller_ended ending input c).next
      at (Some why) = h
      at None = table_knows c.state input c refl given h

-- ---- what the stations say

training_offered : (caps : Caps) (state : CallerState) (own : Caps) (params : Params) → Knows state caps own params →
    Each (IsOffered caps) (training_items state params)
training_offered caps WaitDis own params h = tt
training_offered caps WaitCfr own params h = (h.1, (tt, tt))
training_offered caps WaitBlock own params h = (h.1, (tt, tt))
training_offered caps WaitReady own params h = (h.1, (tt, tt))

fcds_offered : (caps : Caps) (marks : List ℕ) (number : ℕ) (frames : List (List ℕ)) → Each (IsOffered caps) (fcds marks number frames)
fcds_offered caps marks number [] = tt
fcds_offered caps marks number (octets ∷ frames) =
    either (Each (IsOffered caps)) (bit_of marks number) _ _ (λ k. (tt, fcds_offered caps marks (suc number) frames))
    (λ k. fcds_offered caps marks (suc number) frames)

burst_offered : (caps : Caps) (marks : List ℕ) (block : Option Block) → Each (IsOffered caps) (burst_of marks block)
burst_offered caps marks None = tt
burst_offered caps marks (Some block) =
    each_append (IsOffered caps) (fcds marks 0 block.frames) (framed rcp ∷ framed rcp ∷ framed rcp ∷ pps_of block ∷ [])
    (fcds_offered caps marks 0 block.frames) (tt, (tt, (tt, (tt, tt))))

pps_offered : (caps : Caps) (block : Option Block) → Each (IsOffered caps) (pps_items block)
pps_offered caps None = tt
pps_offered caps (Some block) = (tt, tt)

caller_offered : (caps : Caps) (c : Caller) (t : Turn) → KnowsOf caps c → Each (IsOffered caps) (caller_items c t)
caller_offered caps c turn.Silent h = tt
caller_offered caps c turn.Dis h = tt
caller_offered caps c turn.Training h = training_offered caps c.state c.caps c.params h
caller_offered caps c turn.Cfr h = tt
caller_offered caps c turn.Ftt h = tt
caller_offered caps c (turn.Burst marks) h = burst_offered caps marks (present_block c)
caller_offered caps c turn.Pps h = pps_offered caps (present_block c)
caller_offered caps c turn.Mcf h = tt
caller_offered caps c (turn.Ppr marks) h = tt
caller_offered caps c turn.Rnr h = tt
caller_offered caps c turn.Rr h = (tt, tt)
caller_offered caps c turn.Dcn h = (tt, tt)

answerer_offers : (caps : Caps) (s : Answerer) (t : Turn) → s.caps ≡ caps → Each (IsOffered caps) (answerer_items s t)
answerer_offers caps s turn.Silent e = tt
answerer_offers caps s turn.Dis e = (e, tt)
answerer_offers caps s turn.Training e = tt
answerer_offers caps s turn.Cfr e = (tt, tt)
answerer_offers caps s turn.Ftt e = (tt, tt)
answerer_offers caps s (turn.Burst marks) e = tt
answerer_offers caps s turn.Pps e = tt
answerer_offers caps s turn.Mcf e = (tt, tt)
answerer_offers caps s (turn.Ppr marks) e = (tt, tt)
answerer_offers caps s turn.Rnr e = (tt, tt)
answerer_offers caps s turn.Rr e = tt
answerer_offers caps s turn.Dcn e = (tt, tt)

-- ---- a world and what was said in it

pub record Offers (caps : Caps) (w : World) (before : List PlainSaid) : Type 0 where
  -- the answerer has the capabilities, and so has each DIS under way
  pub answerer : w.answerer.caps ≡ caps
  pub under : Each (IsOffered caps) w.to_caller
  pub caller : KnowsOf caps w.caller
  pub offered : WereOffered caps before
  pub keeps : Keeps NotOffered before

-- what is under way to the caller after a turn
left_by_caller : (P : PlainItem → Type 0) (t : Turn) (w : World) (next : Caller) (items : List PlainItem) → Each P w.to_caller →
    Each P (caller_sends t w next items).to_caller
left_by_caller P turn.Silent w next items h = h
left_by_caller P t w next items h = tt

sent_by_answerer : (P : PlainItem → Type 0) (t : Turn) (w : World) (next : Answerer) (items : List PlainItem) → Each P w.to_caller →
    Each P items → Each P (answerer_sends t w next items).to_caller
sent_by_answerer P turn.Silent w next items h new = h
sent_by_answerer P t w next items h new = each_append P w.to_caller items h new

pub answerer_sends_are : (t : Turn) (w : World) (next : Answerer) (items : List PlainItem) →
    ((answerer_sends t w next items).caller ≡ w.caller) × ((answerer_sends t w next items).answerer ≡ next)
answerer_sends_are turn.Silent w next items = (refl, refl)
answerer_sends_are t w next items = (refl, refl)

given_by : (caps : Caps) (input : CallerInput) (items rest : List PlainItem) → ToCaller input items rest → Each (IsOffered caps) items →
    Given caps input × Each (IsOffered caps) rest
given_by caps (hears signal) items rest is h = subst (Each (IsOffered caps)) is h
given_by caps timeout items rest is h = (tt, subst (Each (IsOffered caps)) is h)
given_by caps t5 items rest is h = (tt, subst (Each (IsOffered caps)) is h)

module _ (laws : SignalsHold) (law : LoweredIsAllowed) (stay : AnswerersKeep) (caps : Caps) where
  caller_part : (w : World) (rest : List PlainItem) (outcome : Outcome) (input : CallerInput) (before : List PlainSaid) → Unit {0} → Unit {0} → Unit {0} →
      ToCaller input w.to_caller rest → Offers caps w before →
      Offers caps (caller_acts (record w { to_caller = rest }) outcome input) (caller_speaks w.caller outcome input before)
  caller_part w rest outcome input before fine fact after is h =
      let answer = caller_step w.caller input in
      let items = sent outcome (caller_items answer.next answer.turn) in
      let given = given_by caps input w.to_caller rest is h.under in
      let knows : KnowsOf caps answer.next = step_knows laws law caps w.caller input given.0 h.caller in
      let own : Each (IsOffered caps) items = sent_each (IsOffered caps) outcome _ (caller_offered caps answer.next answer.turn knows) in
      let are = caller_sends_are answer.turn (record w { to_caller = rest }) answer.next items in
      record {
        answerer = ap (λ (s : Answerer). s.caps) are.1 ∙ h.answerer;
        under = left_by_caller (IsOffered caps) answer.turn (record w { to_caller = rest }) answer.next items given.1;
        caller = subst (KnowsOf caps) (sym are.0) knows;
        offered = offered_later caps CallerSide items before h.offered;
        keeps = keeps_later caps CallerSide items before own h.offered h.keeps;
      }

  answerer_part : (w : World) (rest : List PlainItem) (outcome : Outcome) (input : AnswererInput) (before : List PlainSaid) → Unit {0} → Unit {0} → Unit {0} →
      ToAnswerer input w.to_answerer rest → Offers caps w before →
      Offers caps (answerer_acts (record w { to_answerer = rest }) outcome input) (answerer_speaks w.answerer outcome input before)
  answerer_part w rest outcome input before fine fact after is h =
      let answer = answerer_step w.answerer input in
      let items = sent outcome (answerer_items answer.next answer.turn) in
      let same : answer.next.caps ≡ caps = (stay w.answerer input).caps ∙ h.answerer in
      let own : Each (IsOffered caps) items = sent_each (IsOffered caps) outcome _ (answerer_offers caps answer.next answer.turn same) in
      let are = answerer_sends_are answer.turn (record w { to_answerer = rest }) answer.next items in
      record {
        answerer = ap (λ (s : Answerer). s.caps) are.1 ∙ same;
        under = sent_by_answerer (IsOffered caps) answer.turn (record w { to_answerer = rest }) answer.next items h.under own;
        caller = subst (KnowsOf caps) (sym are.0) h.caller;
        offered = offered_later caps AnswererSide items before h.offered;
        keeps = keeps_later caps AnswererSide items before own h.offered h.keeps;
      }

  parts_keep : PartsKeep (Offers caps) (λ w. Unit {0}) Any
  parts_keep = record {
    caller = caller_part;
    answerer = answerer_part;
    lost_to_caller = λ w item rest before is h. record {
      answerer = h.answerer;
      under = (subst (Each (IsOffered caps)) is h.under).1;
      caller = h.caller;
      offered = h.offered;
      keeps = h.keeps;
    };
    lost_to_answerer = λ w item rest before is h.
        record { answerer = h.answerer; under = h.under; caller = h.caller; offered = h.offered; keeps = h.keeps };
    spoil = λ w before h. record { answerer = h.answerer; under = h.under; caller = h.caller; offered = h.offered; keeps = h.keeps };
  }

-- the law
pub asks_for_offers : SignalsHold → LoweredIsAllowed → AnswerersKeep → RuleIsKept NotOffered
asks_for_offers laws law stay document wish caps steps =
    (run_keeps (Offers caps) (λ w. Unit {0}) Any (parts_keep laws law stay caps) steps (new_world document wish caps)
    (record { by = AnswererSide; signal = dis caps } ∷ []) (all_any steps) (λ more. tt)
    (record {
      answerer = refl;
      under = (refl, tt);
      caller = tt;
      offered = λ params may begun. rw may refl;
      keeps = (refl, tt);
    })).keeps
