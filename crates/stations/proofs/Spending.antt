-- Each step spends what it may.
use Rattle.std.proofs.Common.{◌≡◌, ℕ, suc, ◌≤◌, ◌<◌, inl, inr, Bool, true, false, cond, Option, Some, None, List, refl, arith}
use Rattle.std.specs.Prelude.{slice_get, nat_lt, ◌⊎◌, Result, Ok, Err}
use Rattle.std.proofs.lemmas.Bool.{ltb-true}
use Rattle.raster.specs.Pages.{PagePixels}
use Rattle.signals.specs.Signals.{dis, cfr, ftt, ppr, mcf, rnr, dcn}
use Rattle.signals.specs.declared.params.Caps.{Caps}
use Rattle.signals.specs.declared.params.Params.{Params}
use Rattle.signals.specs.declared.signal.PageEnd.{PageEnd}
use Rattle.signals.specs.declared.signal.PageEnd.TheVariants.{Null, Mps, Eom, Eop}
use Rattle.stations.specs.Layers.{agreed_for, lowered}
use Rattle.stations.specs.Blocks.{Block}
use Rattle.stations.specs.Laws.{SpeedsHold}
use Rattle.stations.specs.Inputs.{CallerInput, hears, timeout, t5}
use Rattle.stations.specs.CallerStep.{Caller, blocks_of, confirmed, caller_table, caller_silent, caller_gives_up, tries_again, goes_on}
use Rattle.stations.specs.CallerStep.{goes_on_or_waits, ends_group, answers_dis, answers_ftt, answers_mcf, answers_ppr, answers_rnr}
use Rattle.stations.specs.CallerStep.{unless_caller_ended, caller_step}
use Rattle.stations.specs.declared.turn.CallerState.{CallerState}
use Rattle.stations.specs.declared.turn.CallerState.TheVariants.{WaitDis, WaitCfr, WaitBlock, WaitReady}
use Rattle.stations.specs.declared.turn.End.{End}
use Rattle.stations.specs.declared.turn.End.TheVariants.{Normal, NoAnswer, NotCompatible, Training as BadTraining, NoReply, Unreadable}
use Rattle.stations.specs.declared.turn.End.TheVariants.{StillBusy, PeerLeft, PageTooLong}
use Rattle.stations.specs.declared.turn.Turn.TheVariants.{Silent, Training as SendTraining, Pps as SendPps, Rr as SendRr}
use Rattle.stations.specs.Left.{dcs_in, pps_in, rr_in, StartsBlock, Spends, StepsSpend, SpendsOrRefuses}
use Rattle.stations.specs.CallerFields.{CallerFields, AnswersOrRefuses}
use Rattle.stations.specs.declared.turn.Turn.{Turn}

either : {A : Type 0} (P : A → Type 0) (b : Bool) (x y : A) → (b ≡ true → P x) → (b ≡ false → P y) → P (cond b x y)
either P true x y f g = f refl
either P false x y f g = g refl

silent_spends : (c : Caller) (input : CallerInput) → Spends c input (caller_silent c)
silent_spends c input = record {
  training = λ e. cc;
  never_more = inl (omega arith);
  block = λ e. cc;
  first = λ s e. cc;
  no_block = λ e. omega arith;
  asking = λ e. cc;
  not_asking = λ n. omega arith;
  dcn = λ e. cc;
}

ends_spends : (c : Caller) (input : CallerInput) (place : ℕ) (why : End) → Spends c input (caller_gives_up (record c { place = place }) why)
ends_spends c input place why = record {
  training = λ e. cc;
  never_more = inl (go c.state);
  block = λ e. cc;
  first = λ s e. cc;
  no_block = λ e. go_on c.state;
  asking = λ e. cc;
  not_asking = λ n. go_ask c.state;
  dcn = λ e. refl;
}
  where
    go : (state : CallerState) → dcs_in state (record c { place = place; ending = Some why }) ≤ dcs_in state c
    go WaitDis = omega arith
    go WaitCfr = omega arith
    go WaitBlock = omega arith
    go WaitReady = omega arith

    go_on : (state : CallerState) → pps_in state (record c { place = place; ending = Some why }) ≤ pps_in state c
    go_on WaitDis = omega arith
    go_on WaitCfr = omega arith
    go_on WaitBlock = omega arith
    go_on WaitReady = omega arith

    go_ask : (state : CallerState) → rr_in state (record c { place = place; ending = Some why }) ≤ rr_in state c
    go_ask WaitDis = omega arith
    go_ask WaitCfr = omega arith
    go_ask WaitBlock = omega arith
    go_ask WaitReady = omega arith

first_spends :
    (c : Caller) (input : CallerInput) (place : ℕ) (ends : PageEnd) (next : Option Block) → StartsBlock input →
    Spends c input (goes_on (record c { place = place }) ends next)
first_spends c input place ends (Some next) starts =
    record {
      training = λ e. cc;
      never_more = inl (omega arith);
      block = λ e. inr (starts, refl);
      first = λ s e. refl;
      no_block = λ e. cc;
      asking = λ e. cc;
      not_asking = λ n. omega arith;
      dcn = λ e. cc;
    }
first_spends c input place Null None starts = ends_spends c input place PageTooLong
first_spends c input place Mps None starts = ends_spends c input place PageTooLong
first_spends c input place Eom None starts = ends_spends c input place PageTooLong
first_spends c input place Eop None starts = ends_spends c input place Normal

-- the MCF that ends a group
group_spends : (c : Caller) (place : ℕ) → Spends c (hears mcf) (ends_group (record c { place = place }))
group_spends c place = record {
  training = λ e. cc;
  never_more = inr (tt, refl);
  block = λ e. cc;
  first = λ s e. cc;
  no_block = λ e. omega arith;
  asking = λ e. cc;
  not_asking = λ n. omega arith;
  dcn = λ e. cc;
}

next_spends :
    (c : Caller) (place : ℕ) (ends : PageEnd) (next : Option Block) →
    Spends c (hears mcf) (goes_on_or_waits (record c { place = place }) ends next)
next_spends c place Eom next = group_spends c place
next_spends c place Null next = first_spends c (hears mcf) place Null next tt
next_spends c place Mps next = first_spends c (hears mcf) place Mps next tt
next_spends c place Eop next = first_spends c (hears mcf) place Eop next tt

mcf_spends : (c : Caller) (block : Option Block) → Spends c (hears mcf) (answers_mcf c block)
mcf_spends c None = silent_spends c (hears mcf)
mcf_spends c (Some block) = next_spends c (suc c.place) block.ends (slice_get (blocks_of c) (suc c.place))

dis_spends :
    SpeedsHold → (c : Caller) (caps : Caps) (page : Option PagePixels) (params : Option Params) → c.state ≡ WaitDis →
    agreed_for caps c.wish page ≡ params → Spends c (hears (dis caps)) (answers_dis c caps params)
dis_spends speeds c caps page None e is = ends_spends c (hears (dis caps)) c.place NotCompatible
dis_spends speeds c caps page (Some params) e is =
    let few = speeds.first caps c.wish page params is in
    record {
      training = λ t. rw e (omega arith);
      never_more = inl (rw e (omega arith));
      block = λ t. cc;
      first = λ s t. cc;
      no_block = λ t. omega arith;
      asking = λ t. cc;
      not_asking = λ n. omega arith;
      dcn = λ t. cc;
    }

ftt_spends :
    SpeedsHold → (c : Caller) (params : Option Params) → c.state ≡ WaitCfr → lowered c.caps c.wish c.params ≡ params →
    Spends c (hears ftt) (answers_ftt c params)
ftt_spends speeds c None e is = ends_spends c (hears ftt) c.place BadTraining
ftt_spends speeds c (Some params) e is =
    let fewer = speeds.next c.caps c.wish c.params params is in
    record {
      training = λ t. rw e (omega arith);
      never_more = inl (rw e (omega arith));
      block = λ t. cc;
      first = λ s t. cc;
      no_block = λ t. rw e (omega arith);
      asking = λ t. cc;
      not_asking = λ n. rw e (omega arith);
      dcn = λ t. cc;
    }

training_spends : (c : Caller) (input : CallerInput) → c.state ≡ WaitCfr → Spends c input (tries_again c SendTraining)
training_spends c input e =
    either (Spends c input) (nat_lt c.try 3) _ _
    (λ h. (let below : c.try < 3 = ltb-true c.try 3 h in
    record {
      training = λ t. rw e (omega arith);
      never_more = inl (rw e (omega arith));
      block = λ t. cc;
      first = λ s t. cc;
      no_block = λ t. rw e (omega arith);
      asking = λ t. cc;
      not_asking = λ n. rw e (omega arith);
      dcn = λ t. cc;
    }))
    (λ h. ends_spends c input c.place NoReply)

pps_spends : (c : Caller) → c.state ≡ WaitBlock → Spends c timeout (tries_again c SendPps)
pps_spends c e =
    either (Spends c timeout) (nat_lt c.try 3) _ _
    (λ h. (let below : c.try < 3 = ltb-true c.try 3 h in
    record {
      training = λ t. cc;
      never_more = inl (rw e (omega arith));
      block = λ t. inl (rw e (omega arith));
      first = λ s t. absurd s;
      no_block = λ t. cc;
      asking = λ t. cc;
      not_asking = λ n. rw e (omega arith);
      dcn = λ t. cc;
    }))
    (λ h. ends_spends c timeout c.place NoReply)

rr_spends : (c : Caller) → c.state ≡ WaitReady → Spends c timeout (tries_again c SendRr)
rr_spends c e =
    either (Spends c timeout) (nat_lt c.try 3) _ _
    (λ h. (let below : c.try < 3 = ltb-true c.try 3 h in
    record {
      training = λ t. cc;
      never_more = inl (rw e (omega arith));
      block = λ t. cc;
      first = λ s t. cc;
      no_block = λ t. rw e (omega arith);
      asking = λ t. inl (rw e (omega arith));
      not_asking = λ n. absurd (n refl);
      dcn = λ t. cc;
    }))
    (λ h. ends_spends c timeout c.place NoReply)

ppr_spends :
    (c : Caller) (map : List ℕ) (state : CallerState) → c.state ≡ state → (state ≡ WaitBlock) ⊎ (state ≡ WaitReady) →
    Spends c (hears (ppr map)) (answers_ppr c map)
ppr_spends c map state e (inl w) =
    either (Spends c (hears (ppr map))) (nat_lt c.pprs 3) _ _
    (λ h. (let below : c.pprs < 3 = ltb-true c.pprs 3 h in
    record {
      training = λ t. cc;
      never_more = inl (omega arith);
      block = λ t. inl (rw (e, w) (omega arith));
      first = λ s t. absurd s;
      no_block = λ t. cc;
      asking = λ t. cc;
      not_asking = λ n. omega arith;
      dcn = λ t. cc;
    }))
    (λ h. ends_spends c (hears (ppr map)) c.place Unreadable)
ppr_spends c map state e (inr w) =
    either (Spends c (hears (ppr map))) (nat_lt c.pprs 3) _ _
    (λ h. (let below : c.pprs < 3 = ltb-true c.pprs 3 h in
    record {
      training = λ t. cc;
      never_more = inl (omega arith);
      block = λ t. inl (rw (e, w) (omega arith));
      first = λ s t. absurd s;
      no_block = λ t. cc;
      asking = λ t. cc;
      not_asking = λ n. omega arith;
      dcn = λ t. cc;
    }))
    (λ h. ends_spends c (hears (ppr map)) c.place Unreadable)

rnr_spends :
    (c : Caller) (state : CallerState) → c.state ≡ state → (state ≡ WaitBlock) ⊎ (state ≡ WaitReady) → Spends c (hears rnr) (answers_rnr c)
rnr_spends c state e (inl w) = record {
  training = λ t. cc;
  never_more = inl (omega arith);
  block = λ t. cc;
  first = λ s t. cc;
  no_block = λ t. rw (e, w) (omega arith);
  asking = λ t. inr (tt, refl);
  not_asking = λ n. absurd (n refl);
  dcn = λ t. cc;
}
rnr_spends c state e (inr w) = record {
  training = λ t. cc;
  never_more = inl (omega arith);
  block = λ t. cc;
  first = λ s t. cc;
  no_block = λ t. rw (e, w) (omega arith);
  asking = λ t. inr (tt, refl);
  not_asking = λ n. absurd (n refl);
  dcn = λ t. cc;
}

leaves_spends : (c : Caller) → Spends c (hears dcn) (record { next = record c { ending = Some PeerLeft }; turn = Silent })
leaves_spends c = record {
  training = λ e. cc;
  never_more = (ends_spends c (hears dcn) c.place PeerLeft).never_more;
  block = λ e. cc;
  first = λ s e. cc;
  no_block = λ e. (ends_spends c (hears dcn) c.place PeerLeft).no_block refl;
  asking = λ e. cc;
  not_asking = λ n. (ends_spends c (hears dcn) c.place PeerLeft).not_asking (λ r. cc);
  dcn = λ e. cc;
}

table_spends :
    SpeedsHold → (state : CallerState) (input : CallerInput) (c : Caller) → c.state ≡ state → Spends c input (caller_table state input c)
table_spends speeds WaitDis (hears (dis caps)) c e =
    dis_spends speeds c caps (slice_get c.document (confirmed c)) (agreed_for caps c.wish (slice_get c.document (confirmed c))) e refl
table_spends speeds WaitDis timeout c e = ends_spends c timeout c.place NoAnswer
table_spends speeds WaitCfr (hears cfr) c e = first_spends c (hears cfr) c.place Mps (slice_get (blocks_of c) c.place) tt
table_spends speeds WaitCfr (hears ftt) c e = ftt_spends speeds c (lowered c.caps c.wish c.params) e refl
table_spends speeds WaitCfr (hears (dis caps)) c e = training_spends c (hears (dis caps)) e
table_spends speeds WaitCfr timeout c e = training_spends c timeout e
table_spends speeds WaitBlock (hears mcf) c e = mcf_spends c (slice_get (blocks_of c) c.place)
table_spends speeds WaitBlock (hears (ppr map)) c e = ppr_spends c map WaitBlock e (inl refl)
table_spends speeds WaitBlock (hears rnr) c e = rnr_spends c WaitBlock e (inl refl)
table_spends speeds WaitBlock timeout c e = pps_spends c e
table_spends speeds WaitReady (hears mcf) c e = mcf_spends c (slice_get (blocks_of c) c.place)
table_spends speeds WaitReady (hears (ppr map)) c e = ppr_spends c map WaitReady e (inr refl)
table_spends speeds WaitReady (hears rnr) c e = rnr_spends c WaitReady e (inr refl)
table_spends speeds WaitReady timeout c e = rr_spends c e
table_spends speeds WaitReady t5 c e = ends_spends c t5 c.place StillBusy
table_spends speeds _ (hears dcn) c e = leaves_spends c
table_spends speeds _ input c e = silent_spends c input

unless_spends : SpeedsHold → (ending : Option End) (c : Caller) (input : CallerInput) → Spends c input (unless_caller_ended ending input c)
unless_spends speeds (Some why) c input = silent_spends c input
unless_spends speeds None c input = table_spends speeds c.state input c refl

pub steps_spend : SpeedsHold → StepsSpend
steps_spend speeds c input = unless_spends speeds c.ending c input

pub spends_by :
    {E : Type 0} → StepsSpend → (old new : CallerFields) (input : CallerInput) (result : Result Turn E) →
    AnswersOrRefuses old new result (λ t. caller_step t input) → SpendsOrRefuses old input new result
spends_by law old new input (Ok turn) h = λ t s. ((caller_step t input).next, (h t s).0, rw (h t s).1 (law t input))
spends_by law old new input (Err refused) h = h
