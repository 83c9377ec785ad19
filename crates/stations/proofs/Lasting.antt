-- Each step of a caller takes of what is left.
use Rattle.std.proofs.Common.{◌≡◌, ℕ, suc, ◌+◌, ◌*◌, ◌≤◌, ◌<◌, inl, inr, Bool, true, false, cond, Option, Some, None, List, [], ◌∷◌, refl, arith}
use Rattle.std.proofs.Common.{◌++◌, length, subst, sym, ap, ◌∙◌, length-append}
use Rattle.std.specs.Prelude.{slice_get, nat_lt, ◌⊎◌, IsSome, Result, Ok, Err}
use Rattle.std.proofs.lemmas.Bool.{ltb-true}
use Rattle.raster.specs.Pages.{PagePixels}
use Rattle.signals.specs.Signals.{dis, cfr, ftt, ppr, mcf, rnr, dcn}
use Rattle.signals.specs.declared.params.Caps.{Caps}
use Rattle.signals.specs.declared.params.Params.{Params}
use Rattle.signals.specs.declared.signal.PageEnd.{PageEnd}
use Rattle.signals.specs.declared.signal.PageEnd.TheVariants.{Null, Mps, Eom, Eop}
use Rattle.stations.specs.Layers.{agreed_for, lowered}
use Rattle.stations.specs.Blocks.{Block}
use Rattle.stations.specs.Laws.{SpeedsHold}
use Rattle.stations.specs.Inputs.{CallerInput, hears, timeout, t5}
use Rattle.stations.specs.CallerStep.{Caller, blocks_of, confirmed, caller_table, caller_silent, caller_gives_up, tries_again, goes_on}
use Rattle.stations.specs.CallerStep.{goes_on_or_waits, ends_group, answers_dis, answers_ftt, answers_mcf, answers_ppr, answers_rnr}
use Rattle.stations.specs.CallerStep.{unless_caller_ended, caller_step, new_caller}
use Rattle.stations.specs.CallerFields.{CallerFields, HasPlace, Represents, AnswersOrRefuses}
use Rattle.stations.specs.Runs.{caller_after, caller_turns}
use Rattle.stations.specs.declared.turn.CallerState.{CallerState}
use Rattle.stations.specs.declared.turn.CallerState.TheVariants.{WaitDis, WaitCfr, WaitBlock, WaitReady}
use Rattle.stations.specs.declared.turn.End.{End}
use Rattle.stations.specs.declared.turn.End.TheVariants.{Normal, NoAnswer, NotCompatible, Training as BadTraining, NoReply, Unreadable}
use Rattle.stations.specs.declared.turn.End.TheVariants.{StillBusy, PeerLeft, PageTooLong}
use Rattle.stations.specs.declared.turn.Turn.{Turn}
use Rattle.stations.specs.declared.turn.Turn.TheVariants.{Silent, Training as SendTraining, Pps as SendPps, Rr as SendRr}
use Rattle.stations.specs.Lasting.{is_wait, is_busy_signal, goes_on_by, transmissions, waits_over, busy_signals, groups_in}
use Rattle.stations.specs.Lasting.{blocks_in, sends_in, waits_in, HasGroup, Lasts, StepsLast, LastsOrRefuses, CallersEnd}

either : {A : Type 0} (P : A → Type 0) (b : Bool) (x y : A) → (b ≡ true → P x) → (b ≡ false → P y) → P (cond b x y)
either P true x y f g = f refl
either P false x y f g = g refl

silent_lasts : (c : Caller) (input : CallerInput) → HasGroup c.state c.present → is_wait input ≡ 0 → Lasts c input (caller_silent c)
silent_lasts c input group heard = record { group = group; sending = omega arith; waiting = λ e. rw heard (omega arith) }

-- a caller that runs gives up, at whatever place
ends_in :
    (c : Caller) (input : CallerInput) (why : End) → HasGroup c.state c.present → goes_on_by c.ending ≡ 1 → is_wait input ≤ 1 →
    Lasts c input (caller_gives_up c why)
ends_in c input why group runs once = record {
  group = group;
  sending = go c.state;
  waiting = λ e. go_wait c.state;
}
  where
    go :
        (state : CallerState) →
        (1 + sends_in state (record c { ending = Some why }) + 0) + (18 * groups_in state c + 12 * blocks_in state c) ≤
        (sends_in state c + goes_on_by c.ending) +
        (18 * groups_in state (record c { ending = Some why }) + 12 * blocks_in state (record c { ending = Some why })) +
        3 * is_busy_signal input
    go WaitDis = omega arith
    go WaitCfr = omega arith
    go WaitBlock = omega arith
    go WaitReady = omega arith

    go_wait :
        (state : CallerState) →
        (is_wait input + waits_in state (record c { ending = Some why }) + 0) + (12 * groups_in state c + 8 * blocks_in state c) ≤
        (waits_in state c + goes_on_by c.ending) +
        (12 * groups_in state (record c { ending = Some why }) + 8 * blocks_in state (record c { ending = Some why })) +
        2 * is_busy_signal input
    go_wait WaitDis = omega arith
    go_wait WaitCfr = omega arith
    go_wait WaitBlock = omega arith
    go_wait WaitReady = omega arith

-- the caller leaves in silence
leaves_lasts :
    (c : Caller) → HasGroup c.state c.present → goes_on_by c.ending ≡ 1 →
    Lasts c (hears dcn) (record { next = record c { ending = Some PeerLeft }; turn = Silent })
leaves_lasts c group runs =
    let h = ends_in c (hears dcn) PeerLeft group runs (omega arith) in
    let sending = h.sending in
    record { group = group; sending = omega arith; waiting = h.waiting }

-- a turn once more
dcs_again :
    (c : Caller) (input : CallerInput) → c.state ≡ WaitCfr → HasGroup c.state c.present → goes_on_by c.ending ≡ 1 → is_wait input ≤ 1 →
    Lasts c input (tries_again c SendTraining)
dcs_again c input e group runs once =
    either (Lasts c input) (nat_lt c.try 3) _ _
    (λ h. (let below : c.try < 3 = ltb-true c.try 3 h in
    record { group = group; sending = rw e (omega arith); waiting = λ n. rw e (omega arith) }))
    (λ h. ends_in c input NoReply group runs once)

pps_again :
    (c : Caller) → c.state ≡ WaitBlock → HasGroup c.state c.present → goes_on_by c.ending ≡ 1 → Lasts c timeout (tries_again c SendPps)
pps_again c e group runs =
    either (Lasts c timeout) (nat_lt c.try 3) _ _
    (λ h. (let below : c.try < 3 = ltb-true c.try 3 h in
    record { group = group; sending = rw e (omega arith); waiting = λ n. rw e (omega arith) }))
    (λ h. ends_in c timeout NoReply group runs (omega arith))

rr_again :
    (c : Caller) → c.state ≡ WaitReady → HasGroup c.state c.present → goes_on_by c.ending ≡ 1 → Lasts c timeout (tries_again c SendRr)
rr_again c e group runs =
    either (Lasts c timeout) (nat_lt c.try 3) _ _
    (λ h. (let below : c.try < 3 = ltb-true c.try 3 h in
    record { group = group; sending = rw e (omega arith); waiting = λ n. rw e (omega arith) }))
    (λ h. ends_in c timeout NoReply group runs (omega arith))

dis_lasts :
    SpeedsHold → (c : Caller) (caps : Caps) (page : Option PagePixels) (params : Option Params) → c.state ≡ WaitDis →
    HasGroup c.state c.present → goes_on_by c.ending ≡ 1 →
    agreed_for caps c.wish page ≡ params → Lasts c (hears (dis caps)) (answers_dis c caps params)
dis_lasts speeds c caps page None e group runs is = ends_in c (hears (dis caps)) NotCompatible group runs (omega arith)
dis_lasts speeds c caps page (Some params) e group runs is =
    let few = speeds.first caps c.wish page params is in
    record { group = refl; sending = rw e (omega arith); waiting = λ n. rw e (omega arith) }

ftt_lasts :
    SpeedsHold → (c : Caller) (params : Option Params) → c.state ≡ WaitCfr → HasGroup c.state c.present → goes_on_by c.ending ≡ 1 →
    lowered c.caps c.wish c.params ≡ params → Lasts c (hears ftt) (answers_ftt c params)
ftt_lasts speeds c None e group runs is = ends_in c (hears ftt) BadTraining group runs (omega arith)
ftt_lasts speeds c (Some params) e group runs is =
    let fewer = speeds.next c.caps c.wish c.params params is in
    record { group = rw e refl; sending = rw e (omega arith); waiting = λ n. rw e (omega arith) }

ppr_lasts :
    (c : Caller) (map : List ℕ) (state : CallerState) → c.state ≡ state → (state ≡ WaitBlock) ⊎ (state ≡ WaitReady) →
    HasGroup c.state c.present → goes_on_by c.ending ≡ 1 → Lasts c (hears (ppr map)) (answers_ppr c map)
ppr_lasts c map state e (inl w) group runs =
    either (Lasts c (hears (ppr map))) (nat_lt c.pprs 3) _ _
    (λ h. (let below : c.pprs < 3 = ltb-true c.pprs 3 h in
    record {
      group = subst (λ s. HasGroup s c.present) (e ∙ w) group;
      sending = rw (e, w) (omega arith);
      waiting = λ n. rw (e, w) (omega arith);
    }))
    (λ h. ends_in c (hears (ppr map)) Unreadable group runs (omega arith))
ppr_lasts c map state e (inr w) group runs =
    either (Lasts c (hears (ppr map))) (nat_lt c.pprs 3) _ _
    (λ h. (let below : c.pprs < 3 = ltb-true c.pprs 3 h in
    record {
      group = subst (λ s. HasGroup s c.present) (e ∙ w) group;
      sending = rw (e, w) (omega arith);
      waiting = λ n. rw (e, w) (omega arith);
    }))
    (λ h. ends_in c (hears (ppr map)) Unreadable group runs (omega arith))

rnr_lasts :
    (c : Caller) (state : CallerState) → c.state ≡ state → (state ≡ WaitBlock) ⊎ (state ≡ WaitReady) →
    HasGroup c.state c.present → Lasts c (hears rnr) (answers_rnr c)
rnr_lasts c state e (inl w) group = record {
  group = subst (λ s. HasGroup s c.present) (e ∙ w) group;
  sending = rw (e, w) (omega arith);
  waiting = λ n. rw (e, w) (omega arith);
}
rnr_lasts c state e (inr w) group = record {
  group = subst (λ s. HasGroup s c.present) (e ∙ w) group;
  sending = rw (e, w) (omega arith);
  waiting = λ n. rw (e, w) (omega arith);
}

-- CFR: the first block of a group
cfr_lasts :
    (c : Caller) (next : Option Block) → c.state ≡ WaitCfr → HasGroup c.state c.present → goes_on_by c.ending ≡ 1 →
    slice_get (blocks_of c) c.place ≡ next → Lasts c (hears cfr) (goes_on c Mps next)
cfr_lasts c None e group runs is = ends_in c (hears cfr) PageTooLong group runs (omega arith)
cfr_lasts c (Some next) e group runs is = record {
  group = subst (λ s. HasGroup s c.present) e group;
  sending = rw (e, is) (omega arith);
  waiting = λ n. rw (e, is) (omega arith);
}

-- the call ends after the present block
ends_past :
    (c : Caller) (block : Block) (why : End) (state : CallerState) → c.state ≡ state → (state ≡ WaitBlock) ⊎ (state ≡ WaitReady) →
    HasGroup c.state c.present → goes_on_by c.ending ≡ 1 → slice_get (blocks_of c) c.place ≡ Some block →
    slice_get (blocks_of c) (suc c.place) ≡ None →
    Lasts c (hears mcf) (caller_gives_up (record c { place = suc c.place }) why)
ends_past c block why state e (inl w) group runs is then = record {
  group = group;
  sending = rw (e, w, is, then) (omega arith);
  waiting = λ n. rw (e, w, is, then) (omega arith);
}
ends_past c block why state e (inr w) group runs is then = record {
  group = group;
  sending = rw (e, w, is, then) (omega arith);
  waiting = λ n. rw (e, w, is, then) (omega arith);
}

-- the next block goes out
next_burst :
    (c : Caller) (block next : Block) (ends : PageEnd) (state : CallerState) → c.state ≡ state → (state ≡ WaitBlock) ⊎ (state ≡ WaitReady) →
    HasGroup c.state c.present → slice_get (blocks_of c) c.place ≡ Some block → slice_get (blocks_of c) (suc c.place) ≡ Some next →
    Lasts c (hears mcf) (goes_on (record c { place = suc c.place }) ends (Some next))
next_burst c block next ends state e (inl w) group is then = record {
  group = subst (λ s. HasGroup s c.present) (e ∙ w) group;
  sending = rw (e, w, is, then) (omega arith);
  waiting = λ n. rw (e, w, is, then) (omega arith);
}
next_burst c block next ends state e (inr w) group is then = record {
  group = subst (λ s. HasGroup s c.present) (e ∙ w) group;
  sending = rw (e, w, is, then) (omega arith);
  waiting = λ n. rw (e, w, is, then) (omega arith);
}

-- a group is through
group_through :
    (c : Caller) (block : Block) (state : CallerState) → c.state ≡ state → (state ≡ WaitBlock) ⊎ (state ≡ WaitReady) →
    HasGroup c.state c.present → slice_get (blocks_of c) c.place ≡ Some block →
    Lasts c (hears mcf) (ends_group (record c { place = suc c.place }))
group_through c block state e (inl w) group is =
    let one : length c.present ≡ 1 = subst (λ s. HasGroup s c.present) (e ∙ w) group in
    let both : length (c.finished ++ c.present) ≡ length c.finished + length c.present = length-append c.finished c.present in
    record {
      group = refl;
      sending = rw (e, w, is) (omega arith);
      waiting = λ n. rw (e, w, is) (omega arith);
    }
group_through c block state e (inr w) group is =
    let one : length c.present ≡ 1 = subst (λ s. HasGroup s c.present) (e ∙ w) group in
    let both : length (c.finished ++ c.present) ≡ length c.finished + length c.present = length-append c.finished c.present in
    record {
      group = refl;
      sending = rw (e, w, is) (omega arith);
      waiting = λ n. rw (e, w, is) (omega arith);
    }

-- an MCF for the present block
confirmed_lasts :
    (c : Caller) (block : Block) (ends : PageEnd) (next : Option Block) (state : CallerState) → c.state ≡ state →
    (state ≡ WaitBlock) ⊎ (state ≡ WaitReady) → HasGroup c.state c.present → goes_on_by c.ending ≡ 1 →
    slice_get (blocks_of c) c.place ≡ Some block → slice_get (blocks_of c) (suc c.place) ≡ next →
    Lasts c (hears mcf) (goes_on_or_waits (record c { place = suc c.place }) ends next)
confirmed_lasts c block Eom next state e s group runs is then = group_through c block state e s group is
confirmed_lasts c block Null (Some next) state e s group runs is then = next_burst c block next Null state e s group is then
confirmed_lasts c block Mps (Some next) state e s group runs is then = next_burst c block next Mps state e s group is then
confirmed_lasts c block Eop (Some next) state e s group runs is then = next_burst c block next Eop state e s group is then
confirmed_lasts c block Null None state e s group runs is then = ends_past c block PageTooLong state e s group runs is then
confirmed_lasts c block Mps None state e s group runs is then = ends_past c block PageTooLong state e s group runs is then
confirmed_lasts c block Eop None state e s group runs is then = ends_past c block Normal state e s group runs is then

mcf_lasts :
    (c : Caller) (block : Option Block) (state : CallerState) → c.state ≡ state → (state ≡ WaitBlock) ⊎ (state ≡ WaitReady) →
    HasGroup c.state c.present → goes_on_by c.ending ≡ 1 → slice_get (blocks_of c) c.place ≡ block →
    Lasts c (hears mcf) (answers_mcf c block)
mcf_lasts c None state e s group runs is = silent_lasts c (hears mcf) group refl
mcf_lasts c (Some block) state e s group runs is =
    confirmed_lasts c block block.ends (slice_get (blocks_of c) (suc c.place)) state e s group runs is refl

table_lasts :
    SpeedsHold → (state : CallerState) (input : CallerInput) (c : Caller) → c.state ≡ state → HasGroup c.state c.present →
    goes_on_by c.ending ≡ 1 → Lasts c input (caller_table state input c)
table_lasts speeds WaitDis (hears (dis caps)) c e group runs =
    dis_lasts speeds c caps (slice_get c.document (confirmed c)) (agreed_for caps c.wish (slice_get c.document (confirmed c))) e group runs refl
table_lasts speeds WaitDis timeout c e group runs = ends_in c timeout NoAnswer group runs (omega arith)
table_lasts speeds WaitCfr (hears cfr) c e group runs = cfr_lasts c (slice_get (blocks_of c) c.place) e group runs refl
table_lasts speeds WaitCfr (hears ftt) c e group runs = ftt_lasts speeds c (lowered c.caps c.wish c.params) e group runs refl
table_lasts speeds WaitCfr (hears (dis caps)) c e group runs = dcs_again c (hears (dis caps)) e group runs (omega arith)
table_lasts speeds WaitCfr timeout c e group runs = dcs_again c timeout e group runs (omega arith)
table_lasts speeds WaitBlock (hears mcf) c e group runs = mcf_lasts c (slice_get (blocks_of c) c.place) WaitBlock e (inl refl) group runs refl
table_lasts speeds WaitBlock (hears (ppr map)) c e group runs = ppr_lasts c map WaitBlock e (inl refl) group runs
table_lasts speeds WaitBlock (hears rnr) c e group runs = rnr_lasts c WaitBlock e (inl refl) group
table_lasts speeds WaitBlock timeout c e group runs = pps_again c e group runs
table_lasts speeds WaitReady (hears mcf) c e group runs = mcf_lasts c (slice_get (blocks_of c) c.place) WaitReady e (inr refl) group runs refl
table_lasts speeds WaitReady (hears (ppr map)) c e group runs = ppr_lasts c map WaitReady e (inr refl) group runs
table_lasts speeds WaitReady (hears rnr) c e group runs = rnr_lasts c WaitReady e (inr refl) group
table_lasts speeds WaitReady timeout c e group runs = rr_again c e group runs
table_lasts speeds WaitReady t5 c e group runs = ends_in c t5 StillBusy group runs (omega arith)
table_lasts speeds _ (hears dcn) c e group runs = leaves_lasts c group runs
table_lasts speeds _ input c e group runs = silent_lasts c input group refl

pub steps_last : SpeedsHold → StepsLast
steps_last speeds c input group = at c.ending refl
  where
    ended : (why : End) → c.ending ≡ Some why → Lasts c input (caller_silent c)
    ended why is = record { group = group; sending = omega arith; waiting = λ none. absurd (cc (sym none ∙ is)) }

    at : (ending : Option End) → c.ending ≡ ending → Lasts c input (unless_caller_ended ending input c)
    at (Some why) is = ended why is
    at None is = table_lasts speeds c.state input c refl group (ap goes_on_by is)

-- an ended caller stays ended
stays_ended : (c : Caller) (inputs : List CallerInput) (why : End) → c.ending ≡ Some why → (caller_after inputs c).ending ≡ Some why
stays_ended c [] why is = is
stays_ended c (input ∷ inputs) why is = stays_ended (caller_step c input).next inputs why (once c.ending is)
  where
    once : (ending : Option End) → ending ≡ Some why → (unless_caller_ended ending input c).next.ending ≡ Some why
    once None e = absurd (cc e)
    once (Some other) e = is

-- so one that runs has run before
ran : (c : Caller) (inputs : List CallerInput) → (caller_after inputs c).ending ≡ None → c.ending ≡ None
ran c inputs is = at c.ending refl
  where
    at : (ending : Option End) → c.ending ≡ ending → c.ending ≡ None
    at None e = e
    at (Some why) e = absurd (cc (sym (stays_ended c inputs why e) ∙ is))

-- what inputs take of what is left
record RunLasts (inputs : List CallerInput) (turns : List Turn) (c d : Caller) : Type 0 where
  pub group : HasGroup d.state d.present
  pub sending :
      (transmissions turns + sends_in d.state d + goes_on_by d.ending) + (18 * groups_in c.state c + 12 * blocks_in c.state c) ≤
      (sends_in c.state c + goes_on_by c.ending) + (18 * groups_in d.state d + 12 * blocks_in d.state d) + 3 * busy_signals inputs
  pub waiting :
      d.ending ≡ None →
      (waits_over inputs + waits_in d.state d + goes_on_by d.ending) + (12 * groups_in c.state c + 8 * blocks_in c.state c) ≤
      (waits_in c.state c + goes_on_by c.ending) + (12 * groups_in d.state d + 8 * blocks_in d.state d) + 2 * busy_signals inputs

run_lasts :
    StepsLast → (inputs : List CallerInput) (c : Caller) → HasGroup c.state c.present →
    RunLasts inputs (caller_turns inputs c) c (caller_after inputs c)
run_lasts law [] c group = record { group = group; sending = omega arith; waiting = λ e. omega arith }
run_lasts law (input ∷ inputs) c group =
    let step = law c input group in
    let rest = run_lasts law inputs (caller_step c input).next step.group in
    record {
      group = rest.group;
      sending = (let first = step.sending in let others = rest.sending in omega arith);
      waiting =
          λ e. (let first = step.waiting (ran c (input ∷ inputs) e) in let others = rest.waiting e in
          omega arith);
    }

pub callers_end : SpeedsHold → CallersEnd
callers_end speeds document wish caps params inputs =
    let new = new_caller document wish caps params in
    let run = run_lasts (steps_last speeds) inputs new refl in
    let after = caller_after inputs new in
    record {
      transmits = (let most = run.sending in omega arith);
      ends = λ over. at after over run.waiting after.ending refl;
    }
  where
    at :
        (d : Caller) → 12 * groups_in d.state d + 8 * blocks_in d.state d + 2 * busy_signals inputs < waits_over inputs →
        (d.ending ≡ None →
        (waits_over inputs + waits_in d.state d + goes_on_by d.ending) + 0 ≤
        (0 + 1) + (12 * groups_in d.state d + 8 * blocks_in d.state d) + 2 * busy_signals inputs) →
        (ending : Option End) → d.ending ≡ ending → IsSome d.ending
    at d over waiting (Some why) is = rw is refl
    at d over waiting None is =
        let most = waiting is in let one : goes_on_by d.ending ≡ 1 = ap goes_on_by is in
        absurd (omega arith)

-- a caller at its place has its group
has_group : (state : CallerState) (v : CallerFields) (t : Caller) → HasPlace state v t → HasGroup state t.present
has_group WaitDis v t at = at.0
has_group WaitCfr v t at = rw at.0 refl
has_group WaitBlock v t at = rw at.present refl
has_group WaitReady v t at = rw at.present refl

group_of : (v : CallerFields) (t : Caller) → Represents v t → t.ending ≡ None → HasGroup t.state t.present
group_of v t shows runs =
    subst (λ state. HasGroup state t.present) (sym shows.state) (has_group v.state v t (shows.place (sym shows.ending ∙ runs)))

-- so a call of the program takes so much, or changes nothing
pub lasts_by :
    {E : Type 0} → StepsLast → (old new : CallerFields) (input : CallerInput) (result : Result Turn E) →
    AnswersOrRefuses old new result (λ t. caller_step t input) → LastsOrRefuses old input new result
lasts_by law old new input (Ok turn) h =
    λ t s runs. ((caller_step t input).next, (h t s).0, rw (h t s).1 (law t input (group_of old t s runs)))
lasts_by law old new input (Err refused) h = h
