-- What a step of a caller leaves of the turn that is kept if its own turn is silence.
use Rattle.std.proofs.Common.{◌≡◌, ◌⊎◌, inl, inr, suc, Bool, true, false, cond, Option, Some, None, [], refl, ap}
use Rattle.std.proofs.Common.{◌∙◌}
use Rattle.std.specs.Prelude.{slice_get, nat_lt}
use Rattle.signals.specs.Signals.{dis, cfr, ftt, ppr, mcf, rnr, dcn}
use Rattle.signals.specs.declared.params.Caps.{Caps}
use Rattle.signals.specs.declared.params.Params.{Params}
use Rattle.signals.specs.declared.signal.PageEnd.{PageEnd}
use Rattle.signals.specs.declared.signal.PageEnd.TheVariants.{Null, Mps, Eom, Eop}
use Rattle.stations.specs.Blocks.{Block}
use Rattle.stations.specs.CallerStep.{Caller, CallerAnswer, answers_dis, answers_ftt, answers_mcf, blocks_of, burst_of, caller_items, caller_silent}
use Rattle.stations.specs.CallerStep.{caller_step, caller_table, confirmed, ends_group, goes_on, goes_on_or_waits, present_in, pps_items}
use Rattle.stations.specs.CallerStep.{unless_caller_ended}
use Rattle.stations.specs.Inputs.{CallerInput, hears, timeout, t5}
use Rattle.stations.specs.Layers.{agreed_for, lowered}
use Rattle.stations.specs.declared.turn.CallerState.{CallerState}
use Rattle.stations.specs.declared.turn.CallerState.TheVariants.{WaitDis, WaitCfr, WaitBlock, WaitReady}
use Rattle.stations.specs.declared.turn.End.{End}
use Rattle.stations.specs.declared.turn.End.TheVariants.{PeerLeft}
use Rattle.stations.specs.declared.turn.Turn.{Turn}
use Rattle.stations.specs.declared.turn.Turn.TheVariants.{Silent, Training as SendTraining, Burst, Pps as SendPps}

-- all frames of the kept turn are left, or none
pub record LeavesTurn (c next : Caller) : Type 0 where
  pub params : next.params ≡ c.params
  pub items : (turn : Turn) → (caller_items next turn ≡ caller_items c turn) ⊎ (caller_items next turn ≡ [])

pub same_leaves : (c : Caller) → LeavesTurn c c
same_leaves c = record { params = refl; items = λ turn. inl refl }

-- an answer that is silence leaves the kept turn
abbrev LeavesIfSilent : Caller → CallerAnswer → Type 0
LeavesIfSilent c answer = answer.turn ≡ Silent → LeavesTurn c answer.next

-- a caller that waits for another DIS has no block
group_items : (c next : Caller) → next.state ≡ WaitDis → (turn : Turn) →
    (caller_items next turn ≡ caller_items c turn) ⊎ (caller_items next turn ≡ [])
group_items c next is SendTraining = inr (rw is refl)
group_items c next is (Burst map) = inr (rw is refl)
group_items c next is SendPps = inr (rw is refl)
group_items c next is _ = inl refl

group_leaves : (c : Caller) → LeavesTurn c (ends_group (record c { place = suc c.place })).next
group_leaves c =
    record { params = refl; items = group_items c (ends_group (record c { place = suc c.place })).next refl }

-- an ended caller sends no block
no_block : (state : CallerState) (why : End) (block : Option Block) → present_in state (Some why) block ≡ None
no_block WaitDis why block = refl
no_block WaitCfr why block = refl
no_block WaitBlock why block = refl
no_block WaitReady why block = refl

left_items : (c : Caller) (turn : Turn) →
    (caller_items (record c { ending = Some PeerLeft }) turn ≡ caller_items c turn) ⊎
    (caller_items (record c { ending = Some PeerLeft }) turn ≡ [])
left_items c (Burst map) = inr (ap (burst_of map) (no_block c.state PeerLeft (slice_get (blocks_of c) c.place)))
left_items c SendPps = inr (ap pps_items (no_block c.state PeerLeft (slice_get (blocks_of c) c.place)))
left_items c _ = inl refl

-- a caller whose peer has left
pub left_leaves : (c : Caller) → LeavesTurn c (record c { ending = Some PeerLeft })
left_leaves c = record { params = refl; items = left_items c }

either : (P : CallerAnswer → Type 0) (b : Bool) (x y : CallerAnswer) → P x → P y → P (cond b x y)
either P true x y f g = f
either P false x y f g = g

dis_silent : (c : Caller) (caps : Caps) (params : Option Params) → LeavesIfSilent c (answers_dis c caps params)
dis_silent c caps None = λ e. cc
dis_silent c caps (Some params) = λ e. cc

ftt_silent : (c : Caller) (params : Option Params) → LeavesIfSilent c (answers_ftt c params)
ftt_silent c None = λ e. cc
ftt_silent c (Some params) = λ e. cc

goes_silent : (c d : Caller) (ends : PageEnd) (next : Option Block) → LeavesIfSilent c (goes_on d ends next)
goes_silent c d ends (Some next) = λ e. cc
goes_silent c d Eop None = λ e. cc
goes_silent c d Null None = λ e. cc
goes_silent c d Mps None = λ e. cc
goes_silent c d Eom None = λ e. cc

waits_silent : (c : Caller) (ends : PageEnd) (next : Option Block) →
    LeavesIfSilent c (goes_on_or_waits (record c { place = suc c.place }) ends next)
waits_silent c Eom next = λ e. group_leaves c
waits_silent c Null next = goes_silent c (record c { place = suc c.place }) Null next
waits_silent c Mps next = goes_silent c (record c { place = suc c.place }) Mps next
waits_silent c Eop next = goes_silent c (record c { place = suc c.place }) Eop next

mcf_silent : (c : Caller) (block : Option Block) → LeavesIfSilent c (answers_mcf c block)
mcf_silent c None = λ e. same_leaves c
mcf_silent c (Some block) = waits_silent c block.ends (slice_get (blocks_of c) (suc c.place))

table_silent : (state : CallerState) (input : CallerInput) (c : Caller) → LeavesIfSilent c (caller_table state input c)
table_silent WaitDis (hears (dis caps)) c =
    dis_silent c caps (agreed_for caps c.wish (slice_get c.document (confirmed c)))
table_silent WaitDis timeout c = λ e. cc
table_silent WaitCfr (hears cfr) c = goes_silent c c Mps (slice_get (blocks_of c) c.place)
table_silent WaitCfr (hears ftt) c = ftt_silent c (lowered c.caps c.wish c.params)
table_silent WaitCfr (hears (dis caps)) c = either (LeavesIfSilent c) (nat_lt c.try 3) _ _ (λ e. cc) (λ e. cc)
table_silent WaitCfr timeout c = either (LeavesIfSilent c) (nat_lt c.try 3) _ _ (λ e. cc) (λ e. cc)
table_silent WaitBlock (hears mcf) c = mcf_silent c (slice_get (blocks_of c) c.place)
table_silent WaitBlock (hears (ppr map)) c = either (LeavesIfSilent c) (nat_lt c.pprs 3) _ _ (λ e. cc) (λ e. cc)
table_silent WaitBlock (hears rnr) c = λ e. cc
table_silent WaitBlock timeout c = either (LeavesIfSilent c) (nat_lt c.try 3) _ _ (λ e. cc) (λ e. cc)
table_silent WaitReady (hears mcf) c = mcf_silent c (slice_get (blocks_of c) c.place)
table_silent WaitReady (hears (ppr map)) c = either (LeavesIfSilent c) (nat_lt c.pprs 3) _ _ (λ e. cc) (λ e. cc)
table_silent WaitReady (hears rnr) c = λ e. cc
table_silent WaitReady timeout c = either (LeavesIfSilent c) (nat_lt c.try 3) _ _ (λ e. cc) (λ e. cc)
table_silent WaitReady t5 c = λ e. cc
table_silent _ (hears dcn) c = λ e. left_leaves c
table_silent _ _ c = λ e. same_leaves c

pub silent_leaves : (c : Caller) (input : CallerInput) → LeavesIfSilent c (caller_step c input)
silent_leaves c input = at c.ending
  where
    at : (ending : Option End) → LeavesIfSilent c (unless_caller_ended ending input c)
    at (Some why) = λ e. same_leaves c
    at None = table_silent c.state input c

-- a caller that hears DCN has a silent turn, and has ended or ends as one whose peer has left
pub hears_dcn : (c : Caller) → c.ending ≡ None → caller_step c (hears dcn) ≡ record { next = record c { ending = Some PeerLeft }; turn = Silent }
hears_dcn c runs = ap (λ e. unless_caller_ended e (hears dcn) c) runs ∙ at c.state
  where
    at : (state : CallerState) → caller_table state (hears dcn) c ≡ record { next = record c { ending = Some PeerLeft }; turn = Silent }
    at WaitDis = refl
    at WaitCfr = refl
    at WaitBlock = refl
    at WaitReady = refl

-- a caller that has ended is silent
pub ended_silent : (c : Caller) (why : End) (input : CallerInput) → c.ending ≡ Some why → caller_step c input ≡ caller_silent c
ended_silent c why input over = ap (λ e. unless_caller_ended e input c) over
