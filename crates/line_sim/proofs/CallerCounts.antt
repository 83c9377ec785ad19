-- What each step of a caller adds to the turns that are counted.
use Rattle.std.proofs.Common.{◌≡◌, ℕ, suc, ◌+◌, ◌*◌, ◌≤◌, ◌<◌, ◌⊎◌, inl, inr, Bool, true, false, cond, List, [], length, Option, Some, None}
use Rattle.std.proofs.Common.{refl, sym, ap, subst, ◌∙◌, arith}
use Rattle.std.proofs.Common.{length-append}
use Rattle.std.specs.Prelude.{slice_get, nat_lt, ◌&&◌, IsSome}
use Rattle.signals.specs.Signals.{dis, cfr, ftt, ppr, mcf, rnr, dcn}
use Rattle.signals.specs.declared.params.Caps.{Caps}
use Rattle.signals.specs.declared.params.Params.{Params}
use Rattle.signals.specs.declared.signal.PageEnd.{PageEnd}
use Rattle.signals.specs.declared.signal.PageEnd.TheVariants.{Null, Mps, Eom, Eop}
use Rattle.stations.specs.Layers.{agreed_for, lowered}
use Rattle.stations.specs.Blocks.{Block}
use Rattle.stations.specs.Inputs.{CallerInput, hears, timeout, t5}
use Rattle.stations.specs.CallerStep.{Caller, CallerAnswer, blocks_of, confirmed, caller_table, caller_silent, caller_gives_up, tries_again}
use Rattle.stations.specs.CallerStep.{goes_on, goes_on_or_waits, ends_group, answers_dis, answers_ftt, answers_mcf, answers_ppr}
use Rattle.stations.specs.CallerStep.{answers_rnr, unless_caller_ended, caller_step}
use Rattle.stations.specs.Left.{dcs_left, pps_left, rr_left, rr_in, is_block_turn, StartsBlock, IsRnr, EndsGroup, StepsSpend}
use Rattle.stations.specs.declared.turn.CallerState.{CallerState}
use Rattle.stations.specs.declared.turn.CallerState.TheVariants.{WaitDis, WaitCfr, WaitBlock, WaitReady}
use Rattle.stations.specs.declared.turn.End.{End}
use Rattle.stations.specs.declared.turn.End.TheVariants.{Normal, NoAnswer, NotCompatible, Training as BadTraining, NoReply, Unreadable}
use Rattle.stations.specs.declared.turn.End.TheVariants.{StillBusy, PeerLeft, PageTooLong}
use Rattle.stations.specs.declared.turn.Turn.{Turn}
use Rattle.stations.specs.declared.turn.Turn.TheVariants.{Silent, Training as SendTraining, Pps as SendPps, Rr as SendRr, Dcn as SendDcn}
use Rattle.line_sim.specs.declared.event.Kind.{Kind}
use Rattle.line_sim.specs.Entries.{signal_kind}
use Rattle.line_sim.specs.Counted.{is_training, is_mcf, is_silent, is_dcn, is_rr, is_burst, is_rnr, is_cfr_or_mcf}
use Rattle.line_sim.proofs.Lists.{either}

-- a group is begun past the wait for a DIS, and there alone
abbrev pub IsBegunIn : CallerState → List Params → Type 0
IsBegunIn WaitDis present = present ≡ []
IsBegunIn WaitCfr present = length present ≡ 1
IsBegunIn WaitBlock present = length present ≡ 1
IsBegunIn WaitReady present = length present ≡ 1

-- what the answers add
pub record Adds (c : Caller) (input : CallerInput) (answer : CallerAnswer) : Type 0 where
  pub begun : IsBegunIn answer.next.state answer.next.present
  pub through : ((answer.next.finished ≡ c.finished) × (answer.next.state ≡ WaitDis → c.state ≡ WaitDis)) ⊎
      ((length answer.next.finished ≡ suc (length c.finished)) × (answer.turn ≡ Silent) × (answer.next.state ≡ WaitDis))
  pub no_rr : is_rr answer.turn ≡ false → rr_left answer.next ≤ rr_left c
  pub first : StartsBlock input → is_block_turn answer.turn ≡ true → is_burst answer.turn ≡ true

silent_adds : (c : Caller) (input : CallerInput) → IsBegunIn c.state c.present → Adds c input (caller_silent c)
silent_adds c input b = record { begun = b; through = inl (refl, λ e. e); no_rr = λ e. omega arith; first = λ s e. cc }

rr_same :
    (c : Caller) (place : ℕ) (ending : Option End) (state : CallerState) →
    rr_in state (record c { place = place; ending = ending }) ≤ rr_in state c
rr_same c place ending WaitDis = omega arith
rr_same c place ending WaitCfr = omega arith
rr_same c place ending WaitBlock = omega arith
rr_same c place ending WaitReady = omega arith

ends_adds :
    (c : Caller) (input : CallerInput) (place : ℕ) (why : End) → IsBegunIn c.state c.present →
    Adds c input (caller_gives_up (record c { place = place }) why)
ends_adds c input place why b = record {
  begun = b;
  through = inl (refl, λ e. e);
  no_rr = λ e. rr_same c place (Some why) c.state;
  first = λ s e. cc;
}

leaves_adds :
    (c : Caller) (input : CallerInput) → IsBegunIn c.state c.present →
    Adds c input (record { next = record c { ending = Some PeerLeft }; turn = Silent })
leaves_adds c input b = record {
  begun = b;
  through = inl (refl, λ e. e);
  no_rr = λ e. rr_same c c.place (Some PeerLeft) c.state;
  first = λ s e. cc;
}

first_adds :
    (c : Caller) (input : CallerInput) (place : ℕ) (ends : PageEnd) (next : Option Block) → IsBegunIn c.state c.present →
    length c.present ≡ 1 → Adds c input (goes_on (record c { place = place }) ends next)
first_adds c input place ends (Some next) b one =
    record { begun = one; through = inl (refl, λ e. cc); no_rr = λ e. omega arith; first = λ s e. refl }
first_adds c input place Null None b one = ends_adds c input place PageTooLong b
first_adds c input place Mps None b one = ends_adds c input place PageTooLong b
first_adds c input place Eom None b one = ends_adds c input place PageTooLong b
first_adds c input place Eop None b one = ends_adds c input place Normal b

group_adds : (c : Caller) (input : CallerInput) (place : ℕ) → length c.present ≡ 1 → Adds c input (ends_group (record c { place = place }))
group_adds c input place one =
    record {
      begun = refl;
      through = inr ((let both = length-append c.finished c.present in omega (arith, both, one)), refl, refl);
      no_rr = λ e. omega arith;
      first = λ s e. cc;
    }

next_adds :
    (c : Caller) (input : CallerInput) (place : ℕ) (ends : PageEnd) (next : Option Block) → IsBegunIn c.state c.present →
    length c.present ≡ 1 → Adds c input (goes_on_or_waits (record c { place = place }) ends next)
next_adds c input place Eom next b one = group_adds c input place one
next_adds c input place Null next b one = first_adds c input place Null next b one
next_adds c input place Mps next b one = first_adds c input place Mps next b one
next_adds c input place Eop next b one = first_adds c input place Eop next b one

mcf_adds :
    (c : Caller) (input : CallerInput) (block : Option Block) → IsBegunIn c.state c.present → length c.present ≡ 1 →
    Adds c input (answers_mcf c block)
mcf_adds c input None b one = silent_adds c input b
mcf_adds c input (Some block) b one = next_adds c input (suc c.place) block.ends (slice_get (blocks_of c) (suc c.place)) b one

dis_adds :
    (c : Caller) (caps : Caps) (params : Option Params) → IsBegunIn c.state c.present →
    Adds c (hears (dis caps)) (answers_dis c caps params)
dis_adds c caps None b = ends_adds c (hears (dis caps)) c.place NotCompatible b
dis_adds c caps (Some params) b = record { begun = refl; through = inl (refl, λ e. cc); no_rr = λ e. omega arith; first = λ s e. cc }

ftt_adds :
    (c : Caller) (params : Option Params) → c.state ≡ WaitCfr → IsBegunIn c.state c.present → Adds c (hears ftt) (answers_ftt c params)
ftt_adds c None is b = ends_adds c (hears ftt) c.place BadTraining b
ftt_adds c (Some params) is b = record {
  begun = rw is refl;
  through = inl (refl, λ e. e);
  no_rr = λ e. rw is (omega arith);
  first = λ s e. cc;
}

-- a further try, at a timer or a DIS
tries_add :
    (c : Caller) (input : CallerInput) (turn : Turn) → (StartsBlock input → ⊥) →
    (is_rr turn ≡ false → rr_left (record c { try = suc c.try }) ≤ rr_left c) → IsBegunIn c.state c.present →
    Adds c input (tries_again c turn)
tries_add c input turn never less b =
    either (Adds c input) (nat_lt c.try 3) _ _
    (λ h. record { begun = b; through = inl (refl, λ e. e); no_rr = less; first = λ s e. absurd (never s) })
    (λ h. ends_adds c input c.place NoReply b)

ppr_adds : (c : Caller) (map : List ℕ) → IsBegunIn c.state c.present → length c.present ≡ 1 → Adds c (hears (ppr map)) (answers_ppr c map)
ppr_adds c map b one =
    either (Adds c (hears (ppr map))) (nat_lt c.pprs 3) _ _
    (λ h. record { begun = one; through = inl (refl, λ e. cc); no_rr = λ e. omega arith; first = λ s e. refl })
    (λ h. ends_adds c (hears (ppr map)) c.place Unreadable b)

rnr_adds : (c : Caller) → length c.present ≡ 1 → Adds c (hears rnr) (answers_rnr c)
rnr_adds c one = record { begun = one; through = inl (refl, λ e. cc); no_rr = λ e. cc; first = λ s e. absurd s }

table_adds :
    (state : CallerState) (input : CallerInput) (c : Caller) → c.state ≡ state → IsBegunIn state c.present →
    Adds c input (caller_table state input c)
table_adds WaitDis (hears (dis caps)) c e b = dis_adds c caps (agreed_for caps c.wish (slice_get c.document (confirmed c))) (rw e b)
table_adds WaitDis timeout c e b = ends_adds c timeout c.place NoAnswer (rw e b)
table_adds WaitCfr (hears cfr) c e b = first_adds c (hears cfr) c.place Mps (slice_get (blocks_of c) c.place) (rw e b) b
table_adds WaitCfr (hears ftt) c e b = ftt_adds c (lowered c.caps c.wish c.params) e (rw e b)
table_adds WaitCfr (hears (dis caps)) c e b = tries_add c (hears (dis caps)) SendTraining (λ s. s) (λ t. rw e (omega arith)) (rw e b)
table_adds WaitCfr timeout c e b = tries_add c timeout SendTraining (λ s. s) (λ t. rw e (omega arith)) (rw e b)
table_adds WaitBlock (hears mcf) c e b = mcf_adds c (hears mcf) (slice_get (blocks_of c) c.place) (rw e b) b
table_adds WaitBlock (hears (ppr map)) c e b = ppr_adds c map (rw e b) b
table_adds WaitBlock (hears rnr) c e b = rnr_adds c b
table_adds WaitBlock timeout c e b = tries_add c timeout SendPps (λ s. s) (λ t. rw e (omega arith)) (rw e b)
table_adds WaitReady (hears mcf) c e b = mcf_adds c (hears mcf) (slice_get (blocks_of c) c.place) (rw e b) b
table_adds WaitReady (hears (ppr map)) c e b = ppr_adds c map (rw e b) b
table_adds WaitReady (hears rnr) c e b = rnr_adds c b
table_adds WaitReady timeout c e b = tries_add c timeout SendRr (λ s. s) (λ t. cc) (rw e b)
table_adds WaitReady t5 c e b = ends_adds c t5 c.place StillBusy (rw e b)
table_adds _ (hears dcn) c e b = leaves_adds c (hears dcn) (rw e b)
table_adds _ input c e b = silent_adds c input (rw e b)

step_by_end :
    (ending : Option End) (c : Caller) (input : CallerInput) → IsBegunIn c.state c.present →
    Adds c input (unless_caller_ended ending input c)
step_by_end (Some why) c input b = silent_adds c input b
step_by_end None c input b = table_adds c.state input c refl b

pub step_adds : (c : Caller) (input : CallerInput) → IsBegunIn c.state c.present → Adds c input (caller_step c input)
step_adds c input b = step_by_end c.ending c input b

-- a test's count of one
abbrev pub one : Bool → ℕ
one b = cond b 1 0

-- whether an item that comes and its answer let more turns follow
abbrev pub refilled : (Option Kind → Turn → Bool) → CallerInput → Turn → Bool
refilled r (hears signal) turn = r (signal_kind signal) turn
refilled r timeout turn = false
refilled r t5 turn = false

-- a step's turn is paid for by what is left, by what lets more turns follow, or by a group that gets through
abbrev pub Fee : (Turn → Bool) → (Option Kind → Turn → Bool) → (Caller → ℕ) → (Caller → ℕ) → (ℕ → ℕ) → Caller → CallerInput → Type 0
Fee t r left credit more c input =
    let answer = caller_step c input in
    one (t answer.turn) + (left answer.next + credit c) ≤ (left c + credit answer.next) + more (one (refilled r input answer.turn))

by_test : (b : Bool) (x y : ℕ) → (b ≡ true → 1 + x ≤ y) → (b ≡ false → x ≤ y) → one b + x ≤ y
by_test true x y f g = f refl
by_test false x y f g = (let h = g refl in omega (arith, h))

turn_training : (turn : Turn) → is_training turn ≡ true → turn ≡ SendTraining
turn_training SendTraining e = refl
turn_training _ e = cc

turn_dcn : (turn : Turn) → is_dcn turn ≡ true → turn ≡ SendDcn
turn_dcn SendDcn e = refl
turn_dcn _ e = cc

turn_rr : (turn : Turn) → is_rr turn ≡ true → turn ≡ SendRr
turn_rr SendRr e = refl
turn_rr _ e = cc

-- DCS: what is left, and 18 for each group that is through
abbrev pub no_refill : Option Kind → Turn → Bool
no_refill item turn = false

abbrev pub dcs_credit : Caller → ℕ
dcs_credit c = 18 * length c.finished

waiting_left : (c : Caller) → c.state ≡ WaitDis → dcs_left c ≡ 18
waiting_left c e = rw e refl

pub dcs_fee :
    StepsSpend → (c : Caller) (input : CallerInput) → IsBegunIn c.state c.present →
    Fee is_training no_refill dcs_left dcs_credit (λ n. 0) c input
dcs_fee law c input b =
    let answer = caller_step c input in
    let spends = law c input in
    by_test (is_training answer.turn) _ _
    (λ e. sending (turn_training answer.turn e) (spends.training (turn_training answer.turn e)) (step_adds c input b).through)
    (λ e. other (step_adds c input b).through spends.never_more)
  where
    sending : (caller_step c input).turn ≡ SendTraining → dcs_left (caller_step c input).next < dcs_left c →
        (((caller_step c input).next.finished ≡ c.finished) × ((caller_step c input).next.state ≡ WaitDis → c.state ≡ WaitDis)) ⊎
        ((length (caller_step c input).next.finished ≡ suc (length c.finished)) × ((caller_step c input).turn ≡ Silent) ×
        ((caller_step c input).next.state ≡ WaitDis)) →
        1 + (dcs_left (caller_step c input).next + dcs_credit c) ≤ (dcs_left c + dcs_credit (caller_step c input).next) + 0
    sending is less (inl h) = (let same = ap (λ ps. length ps) h.0 in omega (arith, less, same))
    sending is less (inr h) = (let not : SendTraining ≡ Silent = sym is ∙ h.1 in cc)

    other : (((caller_step c input).next.finished ≡ c.finished) × ((caller_step c input).next.state ≡ WaitDis → c.state ≡ WaitDis)) ⊎
        ((length (caller_step c input).next.finished ≡ suc (length c.finished)) × ((caller_step c input).turn ≡ Silent) ×
        ((caller_step c input).next.state ≡ WaitDis)) →
        (dcs_left (caller_step c input).next ≤ dcs_left c) ⊎ (EndsGroup input × ((caller_step c input).next.state ≡ WaitDis)) →
        dcs_left (caller_step c input).next + dcs_credit c ≤ (dcs_left c + dcs_credit (caller_step c input).next) + 0
    other (inl h) (inl less) = (let same = ap (λ ps. length ps) h.0 in omega (arith, less, same))
    other (inl h) (inr ends) =
        let same = ap (λ ps. length ps) h.0 in
        let old = waiting_left c (h.1 ends.1) in
        let new = waiting_left (caller_step c input).next ends.1 in
        omega (arith, old, new, same)
    other (inr h) less = (let new = waiting_left (caller_step c input).next h.2 in let more = h.0 in omega (arith, new, more))

-- no group pays
abbrev pub no_credit : Caller → ℕ
no_credit c = 0

-- the same where an MCF that is answered in silence lets 18 follow
abbrev pub group_refill : Option Kind → Turn → Bool
group_refill item turn = is_mcf item && is_silent turn

mcf_refills : (input : CallerInput) (turn : Turn) → EndsGroup input → turn ≡ Silent → refilled group_refill input turn ≡ true
mcf_refills (hears mcf) turn h e = rw e refl
mcf_refills (hears _) turn h e = absurd h
mcf_refills timeout turn h e = absurd h
mcf_refills t5 turn h e = absurd h

pub told_fee :
    StepsSpend → (c : Caller) (input : CallerInput) → IsBegunIn c.state c.present →
    Fee is_training group_refill dcs_left no_credit (λ n. 18 * n) c input
told_fee law c input b =
    let answer = caller_step c input in
    by_test (is_training answer.turn) _ _
    (λ e. (let less = (law c input).training (turn_training answer.turn e) in omega (arith, less)))
    (λ e. go (law c input).never_more (step_adds c input b).through)
  where
    go :
        (dcs_left (caller_step c input).next ≤ dcs_left c) ⊎ (EndsGroup input × ((caller_step c input).next.state ≡ WaitDis)) →
        (((caller_step c input).next.finished ≡ c.finished) × ((caller_step c input).next.state ≡ WaitDis → c.state ≡ WaitDis)) ⊎
        ((length (caller_step c input).next.finished ≡ suc (length c.finished)) × ((caller_step c input).turn ≡ Silent) ×
        ((caller_step c input).next.state ≡ WaitDis)) →
        dcs_left (caller_step c input).next + 0 ≤ (dcs_left c + 0) + 18 * one (refilled group_refill input (caller_step c input).turn)
    go (inl less) h = omega (arith, less)
    go (inr ends) (inl h) =
        let old = waiting_left c (h.1 ends.1) in
        let new = waiting_left (caller_step c input).next ends.1 in
        omega (arith, old, new)
    go (inr ends) (inr h) =
        let new = waiting_left (caller_step c input).next ends.1 in
        let more : one (refilled group_refill input (caller_step c input).turn) ≡ 1 =
        ap one (mcf_refills input (caller_step c input).turn ends.0 h.1) in
        omega (arith, new, more)

-- at most 18 are ever left
pub few_left : StepsSpend → (c : Caller) (input : CallerInput) → dcs_left c ≤ 18 → dcs_left (caller_step c input).next ≤ 18
few_left law c input few = go (law c input).never_more
  where
    go :
        (dcs_left (caller_step c input).next ≤ dcs_left c) ⊎ (EndsGroup input × ((caller_step c input).next.state ≡ WaitDis)) →
        dcs_left (caller_step c input).next ≤ 18
    go (inl less) = omega (arith, less, few)
    go (inr ends) = (let new = waiting_left (caller_step c input).next ends.1 in omega (arith, new))

-- DCN: an ended caller sends none
abbrev pub calls_in : Option End → ℕ
calls_in None = 1
calls_in (Some why) = 0

abbrev pub calls_left : Caller → ℕ
calls_left c = calls_in c.ending

some_end : (ending : Option End) → IsSome ending → calls_in ending ≡ 0
some_end None h = cc
some_end (Some why) h = refl

one_call : (ending : Option End) → calls_in ending ≤ 1
one_call None = omega arith
one_call (Some why) = omega arith

pub dcn_fee : StepsSpend → (c : Caller) (input : CallerInput) → Fee is_dcn no_refill calls_left no_credit (λ n. 0) c input
dcn_fee law c input = by_end c.ending refl
  where
    by_end : (ending : Option End) → c.ending ≡ ending → Fee is_dcn no_refill calls_left no_credit (λ n. 0) c input
    by_end (Some why) e =
        let silent : caller_step c input ≡ caller_silent c = ap (λ x. unless_caller_ended x input c) e in
        subst (λ (answer : CallerAnswer). one (is_dcn answer.turn) + (calls_left answer.next + 0) ≤ (calls_left c + 0) + 0) (sym silent)
        (omega arith)
    by_end None e =
        let answer = caller_step c input in
        let now : calls_left c ≡ 1 = ap calls_in e in
        by_test (is_dcn answer.turn) _ _
        (λ t. (let gone = some_end answer.next.ending ((law c input).dcn (turn_dcn answer.turn t)) in omega (arith, gone, now)))
        (λ t. (let few = one_call answer.next.ending in omega (arith, few, now)))

-- RR: an RNR that comes lets 3 follow
abbrev pub rr_refill : Option Kind → Turn → Bool
rr_refill item turn = is_rnr item && is_rr turn

rnr_refills : (input : CallerInput) (turn : Turn) → IsRnr input → turn ≡ SendRr → refilled rr_refill input turn ≡ true
rnr_refills (hears rnr) turn h e = rw e refl
rnr_refills (hears _) turn h e = absurd h
rnr_refills timeout turn h e = absurd h
rnr_refills t5 turn h e = absurd h

pub rr_fee :
    StepsSpend → (c : Caller) (input : CallerInput) → IsBegunIn c.state c.present →
    Fee is_rr rr_refill rr_left no_credit (λ n. 3 * n) c input
rr_fee law c input b =
    let answer = caller_step c input in
    by_test (is_rr answer.turn) _ _
    (λ e. go (turn_rr answer.turn e) ((law c input).asking (turn_rr answer.turn e)))
    (λ e. (let less = (step_adds c input b).no_rr e in omega (arith, less)))
  where
    go :
        (caller_step c input).turn ≡ SendRr →
        (rr_left (caller_step c input).next < rr_left c) ⊎ (IsRnr input × (rr_left (caller_step c input).next ≡ 2)) →
        1 + (rr_left (caller_step c input).next + 0) ≤ (rr_left c + 0) + 3 * one (refilled rr_refill input (caller_step c input).turn)
    go is (inl less) = omega (arith, less)
    go is (inr h) =
        let three : one (refilled rr_refill input (caller_step c input).turn) ≡ 1 =
        ap one (rnr_refills input (caller_step c input).turn h.0 is) in
        let two = h.1 in
        omega (arith, three, two)

-- PPS and bursts: a first burst lets 11 more follow
abbrev pub block_refill : Option Kind → Turn → Bool
block_refill item turn = is_cfr_or_mcf item && is_burst turn

start_refills : (input : CallerInput) (turn : Turn) → StartsBlock input → is_burst turn ≡ true → refilled block_refill input turn ≡ true
start_refills (hears cfr) turn h e = e
start_refills (hears mcf) turn h e = e
start_refills (hears _) turn h e = absurd h
start_refills timeout turn h e = absurd h
start_refills t5 turn h e = absurd h

pub block_fee :
    StepsSpend → (c : Caller) (input : CallerInput) → IsBegunIn c.state c.present →
    Fee is_block_turn block_refill pps_left no_credit (λ n. 12 * n) c input
block_fee law c input b =
    let answer = caller_step c input in
    by_test (is_block_turn answer.turn) _ _
    (λ e. go e ((law c input).block e))
    (λ e. (let less = (law c input).no_block e in omega (arith, less)))
  where
    go :
        is_block_turn (caller_step c input).turn ≡ true →
        (pps_left (caller_step c input).next < pps_left c) ⊎ (StartsBlock input × (pps_left (caller_step c input).next ≡ 11)) →
        1 + (pps_left (caller_step c input).next + 0) ≤ (pps_left c + 0) + 12 * one (refilled block_refill input (caller_step c input).turn)
    go e (inl less) = omega (arith, less)
    go e (inr h) =
        let twelve : one (refilled block_refill input (caller_step c input).turn) ≡ 1 =
        ap one (start_refills input (caller_step c input).turn h.0 ((step_adds c input b).first h.0 e)) in
        let eleven = h.1 in
        omega (arith, twelve, eleven)
