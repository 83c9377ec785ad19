-- A frame that is sent again in its block has the same data: rule NewData.
use Rattle.std.proofs.Common.{◌≡◌, ℕ, zero, suc, Bool, true, false, cond, ◌&&◌, List, [], ◌∷◌, ◌++◌, refl, sym, ap, subst, ◌∙◌, ◌⊎◌, inl, inr, arith, rules, ◌+◌}
use Rattle.std.specs.Prelude.{Option, Some, None, unwrap_or, not, nat_eq, nat_lt, slice_get}
use Rattle.std.specs.Str.{bytes_eq}
use Rattle.std.proofs.lemmas.Bool.{eq-eqb}
use Rattle.signals.specs.Signals.{PlainSignal, dis, dcs, cfr, ftt, fcd, rcp, pps, ppr, mcf, rnr, rr, dcn, other}
use Rattle.signals.specs.declared.params.Caps.{Caps}
use Rattle.signals.specs.declared.params.Params.{Params}
use Rattle.signals.specs.declared.signal.Side.{Side}
use Rattle.signals.specs.declared.signal.Side.TheVariants.{Caller as CallerSide, Answerer as AnswererSide}
use Rattle.partial_page.specs.Store.{bit_of}
use Rattle.stations.specs.Blocks.{Block}
use Rattle.stations.specs.CallerFields.{IsSending}
use Rattle.stations.specs.Inputs.{CallerInput, AnswererInput, PlainItem, framed, checked, timeout, t5, hears}
use Rattle.stations.specs.Laws.{Each}
use Rattle.stations.specs.CallerStep.{Caller, CallerAnswer, caller_step, caller_items, caller_table, unless_caller_ended, training_items, fcds}
use Rattle.stations.specs.CallerStep.{pps_of, burst_of, pps_items, present_block, present_in, blocks_of, tries_again, answers_dis, answers_ftt}
use Rattle.stations.specs.CallerStep.{answers_ppr}
use Rattle.stations.specs.AnswererStep.{Answerer, answerer_step, answerer_items}
use Rattle.stations.specs.declared.turn.CallerState.{CallerState}
use Rattle.stations.specs.declared.turn.CallerState.TheVariants.{WaitDis, WaitCfr, WaitBlock, WaitReady}
use Rattle.stations.specs.declared.turn.End.{End}
use Rattle.stations.specs.declared.turn.Turn.{Turn}
use Rattle.stations.specs.declared.turn.Turn.TheVariants as turn
use Rattle.line_sim.proofs.Lists.{either}
use Rattle.line_sim.specs.Line.{World, Outcome, Done, Nothing, InputLost, Cut, sent, new_world, caller_sends, answerer_sends}
use Rattle.line_sim.specs.Line.{caller_acts, answerer_acts}
use Rattle.line_sim.specs.LineFacts.{frame_at}
use Rattle.referee.specs.History.{PlainSaid, look, is_fcd}
use Rattle.referee.specs.Questions.{other_data_by, begins_block}
use Rattle.referee.specs.Rules.{has_new_data}
use Rattle.referee.specs.declared.rule.Rule.TheVariants.{NewData}
use Rattle.judged_calls.proofs.OwnSignals.{each_append, sent_each}
use Rattle.judged_calls.proofs.AfterDcn.{sent_none}
use Rattle.judged_calls.proofs.Events.{KnownToCaller, caller_takes, each_rest, PartsKeep, run_keeps, Any, all_any, NoFact}
use Rattle.judged_calls.specs.SaidCalls.{and_said, caller_speaks, answerer_speaks, Keeps, RuleIsKept}

-- ---- what was said of a frame's data

-- no FCD of the block under way has other data for a number
abbrev pub Same : List PlainSaid → ℕ → List ℕ → Type 0
Same before n octets = look (λ begun said. other_data_by n octets begun said.signal) true before ≡ false

-- no FCD of the block under way was said
abbrev pub Fresh : List PlainSaid → Type 0
Fresh before = (n : ℕ) (octets : List ℕ) → Same before n octets

-- each FCD of the block under way has the data of a block
abbrev pub OfBlock : Option Block → List PlainSaid → Type 0
OfBlock block before = (n : ℕ) (octets : List ℕ) → frame_at block n ≡ Some octets → Same before n octets

-- a frame that is no FCD changes nothing of it, or begins a block
abbrev pub NoFcd : PlainItem → Type 0
NoFcd (framed signal) = is_fcd signal ≡ false
NoFcd (checked octets) = Unit {0}

unless_new : (b : Bool) (rest : Bool) → rest ≡ false → unwrap_or (cond b (Some false) None) rest ≡ false
unless_new true rest h = refl
unless_new false rest h = h

same_stays : (side : Side) (signal : PlainSignal) (n : ℕ) (octets : List ℕ) (before : List PlainSaid) → is_fcd signal ≡ false → Same before n octets →
    Same (record { by = side; signal = signal } ∷ before) n octets
same_stays side (dis caps) n octets before plain_so h = unless_new (begins_block true (dis caps)) _ h
same_stays side (dcs params) n octets before plain_so h = unless_new (begins_block true (dcs params)) _ h
same_stays side cfr n octets before plain_so h = unless_new (begins_block true cfr) _ h
same_stays side ftt n octets before plain_so h = unless_new (begins_block true ftt) _ h
same_stays side (fcd number octets_then) n octets before plain_so h = absurd (cc)
same_stays side rcp n octets before plain_so h = unless_new (begins_block true rcp) _ h
same_stays side (pps ends page block last) n octets before plain_so h = unless_new (begins_block true (pps ends page block last)) _ h
same_stays side (ppr marks) n octets before plain_so h = unless_new (begins_block true (ppr marks)) _ h
same_stays side mcf n octets before plain_so h = unless_new (begins_block true mcf) _ h
same_stays side rnr n octets before plain_so h = unless_new (begins_block true rnr) _ h
same_stays side rr n octets before plain_so h = unless_new (begins_block true rr) _ h
same_stays side dcn n octets before plain_so h = unless_new (begins_block true dcn) _ h
same_stays side (other octet) n octets before plain_so h = unless_new (begins_block true (other octet)) _ h

same_later : (side : Side) (items : List PlainItem) (n : ℕ) (octets : List ℕ) (before : List PlainSaid) → Each NoFcd items → Same before n octets →
    Same (and_said side items before) n octets
same_later side [] n octets before plain_so h = h
same_later side (framed signal ∷ items) n octets before plain_so h =
    same_later side items n octets (record { by = side; signal = signal } ∷ before) plain_so.1 (same_stays side signal n octets before plain_so.0 h)
same_later side (checked octets_then ∷ items) n octets before plain_so h = same_later side items n octets before plain_so.1 h

-- ---- a burst

-- an FCD is a frame of a block
abbrev pub IsOf : Option Block → PlainItem → Type 0
IsOf block (framed (fcd number octets)) = frame_at block number ≡ Some octets
IsOf block _ = Unit {0}

bytes_same : (octets : List ℕ) → bytes_eq octets octets ≡ true
bytes_same [] = refl
bytes_same (octet ∷ octets) = rw (eq-eqb octet octet refl) (bytes_same octets)

-- an FCD of a block leaves the data of the block's frames the same
of_block_stays : (block : Option Block) (number : ℕ) (data_then : List ℕ) (before : List PlainSaid) → frame_at block number ≡ Some data_then →
    OfBlock block before → OfBlock block (record { by = CallerSide; signal = fcd number data_then } ∷ before)
of_block_stays block number data_then before is h n octets there = at (nat_eq number n) refl
  where
    rest : look (λ begun said. other_data_by n octets begun said.signal) true before ≡ false
    rest = h n octets there

    same_number : nat_eq number n ≡ true → octets ≡ data_then
    same_number e = cc_data (subst (λ k. frame_at block k ≡ Some data_then) (eqb_eq number n e) is) there
      where
        cc_data : {o : Option (List ℕ)} {a b : List ℕ} → o ≡ Some a → o ≡ Some b → b ≡ a
        cc_data p q = cc

        eqb_eq : (a b : ℕ) → nat_eq a b ≡ true → a ≡ b
        eqb_eq a b k = search rules

    at : (b : Bool) → nat_eq number n ≡ b →
        unwrap_or (cond (b && not (bytes_eq data_then octets)) (Some true) None) (look (λ begun said. other_data_by n octets begun said.signal) true before) ≡ false
    at true e = let equal : bytes_eq data_then octets ≡ true = ap (bytes_eq data_then) (same_number e) ∙ bytes_same data_then in rw equal rest
    at false e = rest

burst_keeps : (whole : Option Block) (items : List PlainItem) (before : List PlainSaid) → Each (IsOf whole) items → OfBlock whole before →
    Keeps NewData before → OfBlock whole (and_said CallerSide items before) × Keeps NewData (and_said CallerSide items before)
burst_keeps whole [] before own h keeps = (h, keeps)
burst_keeps whole (framed (fcd number octets) ∷ items) before own h keeps =
    burst_keeps whole items (record { by = CallerSide; signal = fcd number octets } ∷ before) own.1
    (of_block_stays whole number octets before own.0 h) (h number octets own.0, keeps)
burst_keeps whole (framed (dis caps) ∷ items) before own h keeps =
    burst_keeps whole items (record { by = CallerSide; signal = dis caps } ∷ before) own.1
    (λ n data_then there. same_stays CallerSide (dis caps) n data_then before refl (h n data_then there)) (refl, keeps)
burst_keeps whole (framed (dcs params) ∷ items) before own h keeps =
    burst_keeps whole items (record { by = CallerSide; signal = dcs params } ∷ before) own.1
    (λ n data_then there. same_stays CallerSide (dcs params) n data_then before refl (h n data_then there)) (refl, keeps)
burst_keeps whole (framed cfr ∷ items) before own h keeps =
    burst_keeps whole items (record { by = CallerSide; signal = cfr } ∷ before) own.1
    (λ n data_then there. same_stays CallerSide cfr n data_then before refl (h n data_then there)) (refl, keeps)
burst_keeps whole (framed ftt ∷ items) before own h keeps =
    burst_keeps whole items (record { by = CallerSide; signal = ftt } ∷ before) own.1
    (λ n data_then there. same_stays CallerSide ftt n data_then before refl (h n data_then there)) (refl, keeps)
burst_keeps whole (framed rcp ∷ items) before own h keeps =
    burst_keeps whole items (record { by = CallerSide; signal = rcp } ∷ before) own.1
    (λ n data_then there. same_stays CallerSide rcp n data_then before refl (h n data_then there)) (refl, keeps)
burst_keeps whole (framed (pps ends page block last) ∷ items) before own h keeps =
    burst_keeps whole items (record { by = CallerSide; signal = pps ends page block last } ∷ before) own.1
    (λ n data_then there. same_stays CallerSide (pps ends page block last) n data_then before refl (h n data_then there)) (refl, keeps)
burst_keeps whole (framed (ppr marks) ∷ items) before own h keeps =
    burst_keeps whole items (record { by = CallerSide; signal = ppr marks } ∷ before) own.1
    (λ n data_then there. same_stays CallerSide (ppr marks) n data_then before refl (h n data_then there)) (refl, keeps)
burst_keeps whole (framed mcf ∷ items) before own h keeps =
    burst_keeps whole items (record { by = CallerSide; signal = mcf } ∷ before) own.1
    (λ n data_then there. same_stays CallerSide mcf n data_then before refl (h n data_then there)) (refl, keeps)
burst_keeps whole (framed rnr ∷ items) before own h keeps =
    burst_keeps whole items (record { by = CallerSide; signal = rnr } ∷ before) own.1
    (λ n data_then there. same_stays CallerSide rnr n data_then before refl (h n data_then there)) (refl, keeps)
burst_keeps whole (framed rr ∷ items) before own h keeps =
    burst_keeps whole items (record { by = CallerSide; signal = rr } ∷ before) own.1
    (λ n data_then there. same_stays CallerSide rr n data_then before refl (h n data_then there)) (refl, keeps)
burst_keeps whole (framed dcn ∷ items) before own h keeps =
    burst_keeps whole items (record { by = CallerSide; signal = dcn } ∷ before) own.1
    (λ n data_then there. same_stays CallerSide dcn n data_then before refl (h n data_then there)) (refl, keeps)
burst_keeps whole (framed (other octet) ∷ items) before own h keeps =
    burst_keeps whole items (record { by = CallerSide; signal = other octet } ∷ before) own.1
    (λ n data_then there. same_stays CallerSide (other octet) n data_then before refl (h n data_then there)) (refl, keeps)
burst_keeps whole (checked octets ∷ items) before own h keeps = burst_keeps whole items before own.1 h keeps

fcds_are : (block : Option Block) (marks : List ℕ) (number : ℕ) (frames : List (List ℕ)) →
    ((n : ℕ) (octets : List ℕ) → slice_get frames n ≡ Some octets → frame_at block (number + n) ≡ Some octets) →
    Each (IsOf block) (fcds marks number frames)
fcds_are block marks number [] are = tt
fcds_are block marks number (octets ∷ frames) are = at (bit_of marks number) (fcds_are block marks (suc number) frames (λ n o e. later n o e))
  where
    later : (n : ℕ) (o : List ℕ) → slice_get frames n ≡ Some o → frame_at block (suc number + n) ≡ Some o
    later n o e = subst (λ k. frame_at block k ≡ Some o) (moved number n) (are (suc n) o e)
      where
        moved : (a b : ℕ) → a + suc b ≡ suc a + b
        moved a b = omega arith

    first : frame_at block number ≡ Some octets
    first = subst (λ k. frame_at block k ≡ Some octets) (plus_none number) (are 0 octets refl)
      where
        plus_none : (a : ℕ) → a + 0 ≡ a
        plus_none a = omega arith

    at : (b : Bool) → Each (IsOf block) (fcds marks (suc number) frames) →
        Each (IsOf block) (cond b (framed (fcd number octets) ∷ fcds marks (suc number) frames) (fcds marks (suc number) frames))
    at true h = (first, h)
    at false h = h

none_more : (n : ℕ) → n ≡ 0 + n
none_more n = omega arith

burst_is : (marks : List ℕ) (block : Option Block) → Each (IsOf block) (burst_of marks block)
burst_is marks None = tt
burst_is marks (Some block) =
    each_append (IsOf (Some block)) (fcds marks 0 block.frames) (framed rcp ∷ framed rcp ∷ framed rcp ∷ pps_of block ∷ [])
    (fcds_are (Some block) marks 0 block.frames (λ n octets e. subst (λ k. frame_at (Some block) k ≡ Some octets) (none_more n) e)) (tt, (tt, (tt, (tt, tt))))

-- ---- a turn of the caller

-- the block at a caller's place
abbrev pub present_of : Caller → Option Block
present_of c = slice_get (blocks_of c) c.place

-- after CFR and MCF a block begins
abbrev pub IsFreshInput : CallerInput → Type 0
IsFreshInput (hears cfr) = Unit {0}
IsFreshInput (hears mcf) = Unit {0}
IsFreshInput _ = ⊥

-- a caller that sends has begun a block just now, or sends the same block as before
abbrev pub SendsSame : Caller → CallerInput → CallerAnswer → Type 0
SendsSame c input answer = IsSending answer.next.state → IsFreshInput input ⊎ (IsSending c.state × (present_of answer.next ≡ present_of c))

-- nothing of it changes
stays : {P : Type 0} (c : Caller) → IsSending c.state → P ⊎ (IsSending c.state × (present_of c ≡ present_of c))
stays c h = inr (h, refl)

not_sending : {state : CallerState} {A : Type 0} → (state ≡ WaitDis) ⊎ (state ≡ WaitCfr) → IsSending state → A
not_sending {state} (inl e) h = absurd (subst IsSending e h)
not_sending {state} (inr e) h = absurd (subst IsSending e h)

dis_same : (c : Caller) (input : CallerInput) (caps : Caps) (agreed : Option Params) → SendsSame c input (answers_dis c caps agreed)
dis_same c input caps None h = inr (h, refl)
dis_same c input caps (Some params) h = absurd h

ftt_same : (c : Caller) (input : CallerInput) (lower : Option Params) → c.state ≡ WaitCfr → SendsSame c input (answers_ftt c lower)
ftt_same c input None is h = inr (h, refl)
ftt_same c input (Some params) is h = not_sending (inr is) h

again_same : (c : Caller) (input : CallerInput) (t : Turn) → SendsSame c input (tries_again c t)
again_same c input t = either (SendsSame c input) (nat_lt c.try 3) _ _ (λ k h. inr (h, refl)) (λ k h. inr (h, refl))

ppr_same : (c : Caller) (input : CallerInput) (marks : List ℕ) → IsSending c.state → SendsSame c input (answers_ppr c marks)
ppr_same c input marks sends = either (SendsSame c input) (nat_lt c.pprs 3) _ _ (λ k h. inr (sends, refl)) (λ k h. inr (h, refl))

module _ (c : Caller) where
  sends_in : (state : CallerState) → c.state ≡ state → IsSending state → IsSending c.state
  sends_in state is h = subst IsSending (sym is) h

  table_same : (state : CallerState) (input : CallerInput) → c.state ≡ state → SendsSame c input (caller_table state input c)
  table_same WaitDis (hears (dis caps)) is = dis_same c (hears (dis caps)) caps _
  table_same WaitDis (hears (dcs params)) is = λ h. inr (h, refl)
  table_same WaitDis (hears cfr) is = λ h. inr (h, refl)
  table_same WaitDis (hears ftt) is = λ h. inr (h, refl)
  table_same WaitDis (hears (fcd number octets)) is = λ h. inr (h, refl)
  table_same WaitDis (hears rcp) is = λ h. inr (h, refl)
  table_same WaitDis (hears (pps ends page block last)) is = λ h. inr (h, refl)
  table_same WaitDis (hears (ppr marks)) is = λ h. inr (h, refl)
  table_same WaitDis (hears mcf) is = λ h. inr (h, refl)
  table_same WaitDis (hears rnr) is = λ h. inr (h, refl)
  table_same WaitDis (hears rr) is = λ h. inr (h, refl)
  table_same WaitDis (hears dcn) is = λ h. inr (h, refl)
  table_same WaitDis (hears (other octet)) is = λ h. inr (h, refl)
  table_same WaitDis timeout is = λ h. inr (h, refl)
  table_same WaitDis t5 is = λ h. inr (h, refl)
  table_same WaitCfr (hears (dis caps)) is = again_same c (hears (dis caps)) turn.Training
  table_same WaitCfr (hears (dcs params)) is = λ h. inr (h, refl)
  table_same WaitCfr (hears cfr) is = λ h. inl tt
  table_same WaitCfr (hears ftt) is = ftt_same c (hears ftt) _ is
  table_same WaitCfr (hears (fcd number octets)) is = λ h. inr (h, refl)
  table_same WaitCfr (hears rcp) is = λ h. inr (h, refl)
  table_same WaitCfr (hears (pps ends page block last)) is = λ h. inr (h, refl)
  table_same WaitCfr (hears (ppr marks)) is = λ h. inr (h, refl)
  table_same WaitCfr (hears mcf) is = λ h. inr (h, refl)
  table_same WaitCfr (hears rnr) is = λ h. inr (h, refl)
  table_same WaitCfr (hears rr) is = λ h. inr (h, refl)
  table_same WaitCfr (hears dcn) is = λ h. inr (h, refl)
  table_same WaitCfr (hears (other octet)) is = λ h. inr (h, refl)
  table_same WaitCfr timeout is = again_same c timeout turn.Training
  table_same WaitCfr t5 is = λ h. inr (h, refl)
  table_same WaitBlock (hears (dis caps)) is = λ h. inr (h, refl)
  table_same WaitBlock (hears (dcs params)) is = λ h. inr (h, refl)
  table_same WaitBlock (hears cfr) is = λ h. inr (h, refl)
  table_same WaitBlock (hears ftt) is = λ h. inr (h, refl)
  table_same WaitBlock (hears (fcd number octets)) is = λ h. inr (h, refl)
  table_same WaitBlock (hears rcp) is = λ h. inr (h, refl)
  table_same WaitBlock (hears (pps ends page block last)) is = λ h. inr (h, refl)
  table_same WaitBlock (hears (ppr marks)) is = ppr_same c (hears (ppr marks)) marks (sends_in WaitBlock is tt)
  table_same WaitBlock (hears mcf) is = λ h. inl tt
  table_same WaitBlock (hears rnr) is = λ h. inr (sends_in WaitBlock is tt, refl)
  table_same WaitBlock (hears rr) is = λ h. inr (h, refl)
  table_same WaitBlock (hears dcn) is = λ h. inr (h, refl)
  table_same WaitBlock (hears (other octet)) is = λ h. inr (h, refl)
  table_same WaitBlock timeout is = again_same c timeout turn.Pps
  table_same WaitBlock t5 is = λ h. inr (h, refl)
  table_same WaitReady (hears (dis caps)) is = λ h. inr (h, refl)
  table_same WaitReady (hears (dcs params)) is = λ h. inr (h, refl)
  table_same WaitReady (hears cfr) is = λ h. inr (h, refl)
  table_same WaitReady (hears ftt) is = λ h. inr (h, refl)
  table_same WaitReady (hears (fcd number octets)) is = λ h. inr (h, refl)
  table_same WaitReady (hears rcp) is = λ h. inr (h, refl)
  table_same WaitReady (hears (pps ends page block last)) is = λ h. inr (h, refl)
  table_same WaitReady (hears (ppr marks)) is = ppr_same c (hears (ppr marks)) marks (sends_in WaitReady is tt)
  table_same WaitReady (hears mcf) is = λ h. inl tt
  table_same WaitReady (hears rnr) is = λ h. inr (sends_in WaitReady is tt, refl)
  table_same WaitReady (hears rr) is = λ h. inr (h, refl)
  table_same WaitReady (hears dcn) is = λ h. inr (h, refl)
  table_same WaitReady (hears (other octet)) is = λ h. inr (h, refl)
  table_same WaitReady timeout is = again_same c timeout turn.Rr
  table_same WaitReady t5 is = λ h. inr (h, refl)

  step_same : (input : CallerInput) → SendsSame c input (caller_step c input)
  step_same input = at c.ending
    where
      at : (e : Option End) → SendsSame c input (unless_caller_ended e input c)
      at (Some why) = λ h. inr (h, refl)
      at None = table_same c.state input refl

-- an answer under way begins a block
abbrev pub BeginsBlock : List PlainSaid → PlainItem → Type 0
BeginsBlock before (framed cfr) = Fresh before
BeginsBlock before (framed mcf) = Fresh before
BeginsBlock before _ = Unit {0}

-- what holds of a world and what was said in it
pub record Sends (w : World) (before : List PlainSaid) : Type 0 where
  pub begins : Each (BeginsBlock before) w.to_caller
  pub own : IsSending w.caller.state → OfBlock (present_of w.caller) before
  pub keeps : Keeps NewData before

abbrev pub GivenFresh : CallerInput → List PlainSaid → Type 0
GivenFresh (hears cfr) before = Fresh before
GivenFresh (hears mcf) before = Fresh before
GivenFresh _ before = Unit {0}

-- a caller that sends has a block of its own, before it speaks
own_next : (c : Caller) (input : CallerInput) (before : List PlainSaid) → GivenFresh input before → (IsSending c.state → OfBlock (present_of c) before) →
    IsSending (caller_step c input).next.state → OfBlock (present_of (caller_step c input).next) before
own_next c input before given own h = at (step_same c input h)
  where
    fresh : (i : CallerInput) → IsFreshInput i → GivenFresh i before → Fresh before
    fresh (hears (dis caps)) is given_i = absurd is
    fresh (hears (dcs params)) is given_i = absurd is
    fresh (hears cfr) is given_i = given_i
    fresh (hears ftt) is given_i = absurd is
    fresh (hears (fcd number octets)) is given_i = absurd is
    fresh (hears rcp) is given_i = absurd is
    fresh (hears (pps ends page block last)) is given_i = absurd is
    fresh (hears (ppr marks)) is given_i = absurd is
    fresh (hears mcf) is given_i = given_i
    fresh (hears rnr) is given_i = absurd is
    fresh (hears rr) is given_i = absurd is
    fresh (hears dcn) is given_i = absurd is
    fresh (hears (other octet)) is given_i = absurd is
    fresh timeout is given_i = absurd is
    fresh t5 is given_i = absurd is

    at : IsFreshInput input ⊎ (IsSending c.state × (present_of (caller_step c input).next ≡ present_of c)) →
        OfBlock (present_of (caller_step c input).next) before
    at (inl is) = λ n octets there. fresh input is given n octets
    at (inr same) = subst (λ block. OfBlock block before) (sym same.1) (own same.0)

training_plain : (state : CallerState) (params : Params) → Each NoFcd (training_items state params)
training_plain WaitDis params = tt
training_plain WaitCfr params = (refl, (tt, tt))
training_plain WaitBlock params = (refl, (tt, tt))
training_plain WaitReady params = (refl, (tt, tt))

pps_plain : (block : Option Block) → Each NoFcd (pps_items block)
pps_plain None = tt
pps_plain (Some block) = (refl, tt)

plain_keeps : (items : List PlainItem) (before : List PlainSaid) → Each NoFcd items → Keeps NewData before → Keeps NewData (and_said CallerSide items before)
plain_keeps [] before plain_so h = h
plain_keeps (framed signal ∷ items) before plain_so h = plain_keeps items (record { by = CallerSide; signal = signal } ∷ before) plain_so.1 (not_new signal plain_so.0, h)
  where
    not_new : (s : PlainSignal) → is_fcd s ≡ false → has_new_data s before ≡ false
    not_new (dis caps) is = refl
    not_new (dcs params) is = refl
    not_new cfr is = refl
    not_new ftt is = refl
    not_new (fcd number octets) is = absurd (cc)
    not_new rcp is = refl
    not_new (pps ends page block last) is = refl
    not_new (ppr marks) is = refl
    not_new mcf is = refl
    not_new rnr is = refl
    not_new rr is = refl
    not_new dcn is = refl
    not_new (other octet) is = refl
plain_keeps (checked octets ∷ items) before plain_so h = plain_keeps items before plain_so.1 h

-- a turn without FCDs
plain_sends : (next : Caller) (items : List PlainItem) (outcome : Outcome) (before : List PlainSaid) → Each NoFcd items →
    (IsSending next.state → OfBlock (present_of next) before) → Keeps NewData before →
    (IsSending next.state → OfBlock (present_of next) (and_said CallerSide (sent outcome items) before)) ×
    Keeps NewData (and_said CallerSide (sent outcome items) before)
plain_sends next items outcome before plain_so own keeps =
    let all : Each NoFcd (sent outcome items) = sent_each NoFcd outcome items plain_so in (
      (λ h n octets there. same_later CallerSide (sent outcome items) n octets before all (own h n octets there)),
      plain_keeps (sent outcome items) before all keeps,
    )

-- a burst
burst_sends : (next : Caller) (marks : List ℕ) (outcome : Outcome) (before : List PlainSaid) →
    (IsSending next.state → OfBlock (present_of next) before) → Keeps NewData before →
    (IsSending next.state → OfBlock (present_of next) (and_said CallerSide (sent outcome (burst_of marks (present_block next))) before)) ×
    Keeps NewData (and_said CallerSide (sent outcome (burst_of marks (present_block next))) before)
burst_sends next marks outcome before own keeps = at next.state next.ending own
  where
    block : Option Block
    block = present_of next

    none : {P : Type 0} → P → P × Keeps NewData (and_said CallerSide (sent outcome []) before)
    none p = (p, rw (sent_none outcome) keeps)

    some : OfBlock block before →
        OfBlock block (and_said CallerSide (sent outcome (burst_of marks block)) before) ×
        Keeps NewData (and_said CallerSide (sent outcome (burst_of marks block)) before)
    some of_it =
        burst_keeps block (sent outcome (burst_of marks block)) before
        (sent_each (IsOf block) outcome (burst_of marks block) (burst_is marks block)) of_it keeps

    at : (state : CallerState) (ending : Option End) → (IsSending state → OfBlock block before) →
        (IsSending state → OfBlock block (and_said CallerSide (sent outcome (burst_of marks (present_in state ending block))) before)) ×
        Keeps NewData (and_said CallerSide (sent outcome (burst_of marks (present_in state ending block))) before)
    at WaitDis ending of_it = none (λ h. absurd h)
    at WaitCfr ending of_it = none (λ h. absurd h)
    at WaitBlock None of_it = let both = some (of_it tt) in ((λ h. both.0), both.1)
    at WaitReady None of_it = let both = some (of_it tt) in ((λ h. both.0), both.1)
    at WaitBlock (Some why) of_it = none (λ h. rw (sent_none outcome) (of_it h))
    at WaitReady (Some why) of_it = none (λ h. rw (sent_none outcome) (of_it h))

silent_begins : (side : Side) (outcome : Outcome) (items : List PlainItem) (before : List PlainSaid) → Each (BeginsBlock before) items →
    Each (BeginsBlock (and_said side (sent outcome []) before)) items
silent_begins side outcome items before h = rw (sent_none outcome) h

turn_sends : (t : Turn) (w : World) (next : Caller) (outcome : Outcome) (before : List PlainSaid) →
    (IsSending next.state → OfBlock (present_of next) before) → Sends w before →
    Sends (caller_sends t w next (sent outcome (caller_items next t))) (and_said CallerSide (sent outcome (caller_items next t)) before)
turn_sends turn.Silent w next outcome before own h =
    let both = plain_sends next (caller_items next turn.Silent) outcome before (tt) own h.keeps in record { begins = silent_begins CallerSide outcome w.to_caller before h.begins; own = both.0; keeps = both.1 }
turn_sends turn.Dis w next outcome before own h =
    let both = plain_sends next (caller_items next turn.Dis) outcome before (tt) own h.keeps in record { begins = tt; own = both.0; keeps = both.1 }
turn_sends turn.Training w next outcome before own h =
    let both = plain_sends next (caller_items next turn.Training) outcome before (training_plain next.state next.params) own h.keeps in record { begins = tt; own = both.0; keeps = both.1 }
turn_sends turn.Cfr w next outcome before own h =
    let both = plain_sends next (caller_items next turn.Cfr) outcome before (tt) own h.keeps in record { begins = tt; own = both.0; keeps = both.1 }
turn_sends turn.Ftt w next outcome before own h =
    let both = plain_sends next (caller_items next turn.Ftt) outcome before (tt) own h.keeps in record { begins = tt; own = both.0; keeps = both.1 }
turn_sends (turn.Burst marks) w next outcome before own h =
    let both = burst_sends next marks outcome before own h.keeps in record { begins = tt; own = both.0; keeps = both.1 }
turn_sends turn.Pps w next outcome before own h =
    let both = plain_sends next (caller_items next turn.Pps) outcome before (pps_plain (present_block next)) own h.keeps in record { begins = tt; own = both.0; keeps = both.1 }
turn_sends turn.Mcf w next outcome before own h =
    let both = plain_sends next (caller_items next turn.Mcf) outcome before (tt) own h.keeps in record { begins = tt; own = both.0; keeps = both.1 }
turn_sends (turn.Ppr marks) w next outcome before own h =
    let both = plain_sends next (caller_items next (turn.Ppr marks)) outcome before (tt) own h.keeps in record { begins = tt; own = both.0; keeps = both.1 }
turn_sends turn.Rnr w next outcome before own h =
    let both = plain_sends next (caller_items next turn.Rnr) outcome before (tt) own h.keeps in record { begins = tt; own = both.0; keeps = both.1 }
turn_sends turn.Rr w next outcome before own h =
    let both = plain_sends next (caller_items next turn.Rr) outcome before ((refl, tt)) own h.keeps in record { begins = tt; own = both.0; keeps = both.1 }
turn_sends turn.Dcn w next outcome before own h =
    let both = plain_sends next (caller_items next turn.Dcn) outcome before ((refl, tt)) own h.keeps in record { begins = tt; own = both.0; keeps = both.1 }

caller_sends_same : (w : World) (outcome : Outcome) (input : CallerInput) (before : List PlainSaid) → GivenFresh input before → Sends w before →
    Sends (caller_acts w outcome input) (caller_speaks w.caller outcome input before)
caller_sends_same w outcome input before given h =
    let answer = caller_step w.caller input in
    turn_sends answer.turn w answer.next outcome before (own_next w.caller input before given h.own) h

-- ---- a turn of the answerer

begins_later : (signal : PlainSignal) (xs : List PlainItem) (before : List PlainSaid) → is_fcd signal ≡ false → Each (BeginsBlock before) xs →
    Each (BeginsBlock (record { by = AnswererSide; signal = signal } ∷ before)) xs
begins_later signal [] before plain_so h = tt
begins_later signal (framed (dis caps) ∷ xs) before plain_so h = (tt, begins_later signal xs before plain_so h.1)
begins_later signal (framed (dcs params) ∷ xs) before plain_so h = (tt, begins_later signal xs before plain_so h.1)
begins_later signal (framed cfr ∷ xs) before plain_so h =
    ((λ n octets. same_stays AnswererSide signal n octets before plain_so (h.0 n octets)), begins_later signal xs before plain_so h.1)
begins_later signal (framed ftt ∷ xs) before plain_so h = (tt, begins_later signal xs before plain_so h.1)
begins_later signal (framed (fcd number octets_then) ∷ xs) before plain_so h = (tt, begins_later signal xs before plain_so h.1)
begins_later signal (framed rcp ∷ xs) before plain_so h = (tt, begins_later signal xs before plain_so h.1)
begins_later signal (framed (pps ends page block last) ∷ xs) before plain_so h = (tt, begins_later signal xs before plain_so h.1)
begins_later signal (framed (ppr marks) ∷ xs) before plain_so h = (tt, begins_later signal xs before plain_so h.1)
begins_later signal (framed mcf ∷ xs) before plain_so h =
    ((λ n octets. same_stays AnswererSide signal n octets before plain_so (h.0 n octets)), begins_later signal xs before plain_so h.1)
begins_later signal (framed rnr ∷ xs) before plain_so h = (tt, begins_later signal xs before plain_so h.1)
begins_later signal (framed rr ∷ xs) before plain_so h = (tt, begins_later signal xs before plain_so h.1)
begins_later signal (framed dcn ∷ xs) before plain_so h = (tt, begins_later signal xs before plain_so h.1)
begins_later signal (framed (other number) ∷ xs) before plain_so h = (tt, begins_later signal xs before plain_so h.1)
begins_later signal (checked octets_then ∷ xs) before plain_so h = (tt, begins_later signal xs before plain_so h.1)

-- a frame of the answerer, or nothing
module _ (signal : PlainSignal) (w : World) (next : Answerer) (before : List PlainSaid) (plain_so : is_fcd signal ≡ false)
    (not_new : has_new_data signal before ≡ false)
    (new : BeginsBlock (record { by = AnswererSide; signal = signal } ∷ before) (framed signal)) (h : Sends w before) where
  whole : Sends (record { caller = w.caller; answerer = next; to_answerer = []; to_caller = w.to_caller ++ framed signal ∷ [] })
      (record { by = AnswererSide; signal = signal } ∷ before)
  whole = record {
    begins = each_append (BeginsBlock (record { by = AnswererSide; signal = signal } ∷ before)) w.to_caller (framed signal ∷ [])
        (begins_later signal w.to_caller before plain_so h.begins) (new, tt);
    own = λ sends n octets there. same_stays AnswererSide signal n octets before plain_so (h.own sends n octets there);
    keeps = (not_new, h.keeps);
  }

  none_said : Sends (record { caller = w.caller; answerer = next; to_answerer = []; to_caller = w.to_caller ++ [] }) before
  none_said = record { begins = each_append (BeginsBlock before) w.to_caller [] h.begins tt; own = h.own; keeps = h.keeps }

  said : (outcome : Outcome) →
      Sends (record { caller = w.caller; answerer = next; to_answerer = []; to_caller = w.to_caller ++ sent outcome (framed signal ∷ []) })
      (and_said AnswererSide (sent outcome (framed signal ∷ [])) before)
  said Done = whole
  said Nothing = whole
  said InputLost = whole
  said (Cut zero) = none_said
  said (Cut (suc zero)) = whole
  said (Cut (suc (suc made))) = whole

silent_sends : (w : World) (next : Answerer) (outcome : Outcome) (before : List PlainSaid) → Sends w before →
    Sends (record w { answerer = next }) (and_said AnswererSide (sent outcome []) before)
silent_sends w next outcome before h = rw (sent_none outcome) (record { begins = h.begins; own = h.own; keeps = h.keeps })

cleared_sends : (w : World) (next : Answerer) (outcome : Outcome) (before : List PlainSaid) → Sends w before →
    Sends (record { caller = w.caller; answerer = next; to_answerer = []; to_caller = w.to_caller ++ sent outcome [] })
    (and_said AnswererSide (sent outcome []) before)
cleared_sends w next outcome before h =
    rw (sent_none outcome) (record { begins = each_append (BeginsBlock before) w.to_caller [] h.begins tt; own = h.own; keeps = h.keeps })

answer_sends : (t : Turn) (w : World) (next : Answerer) (outcome : Outcome) (before : List PlainSaid) → Sends w before →
    Sends (answerer_sends t w next (sent outcome (answerer_items next t))) (and_said AnswererSide (sent outcome (answerer_items next t)) before)
answer_sends turn.Silent w next outcome before h = silent_sends w next outcome before h
answer_sends turn.Dis w next outcome before h = said (dis next.caps) w next before refl refl tt h outcome
answer_sends turn.Training w next outcome before h = cleared_sends w next outcome before h
answer_sends turn.Cfr w next outcome before h = said cfr w next before refl refl (λ n octets. refl) h outcome
answer_sends turn.Ftt w next outcome before h = said ftt w next before refl refl tt h outcome
answer_sends (turn.Burst marks) w next outcome before h = cleared_sends w next outcome before h
answer_sends turn.Pps w next outcome before h = cleared_sends w next outcome before h
answer_sends turn.Mcf w next outcome before h = said mcf w next before refl refl (λ n octets. refl) h outcome
answer_sends (turn.Ppr marks) w next outcome before h = said (ppr marks) w next before refl refl tt h outcome
answer_sends turn.Rnr w next outcome before h = said rnr w next before refl refl tt h outcome
answer_sends turn.Rr w next outcome before h = cleared_sends w next outcome before h
answer_sends turn.Dcn w next outcome before h = said dcn w next before refl refl tt h outcome

answerer_sends_same : (w : World) (outcome : Outcome) (input : AnswererInput) (before : List PlainSaid) → Sends w before →
    Sends (answerer_acts w outcome input) (answerer_speaks w.answerer outcome input before)
answerer_sends_same w outcome input before h =
    answer_sends (answerer_step w.answerer input).turn w (answerer_step w.answerer input).next outcome before h

-- ---- one event

given_fresh : (signal : PlainSignal) (before : List PlainSaid) → BeginsBlock before (framed signal) → GivenFresh (hears signal) before
given_fresh (dis caps) before h = tt
given_fresh (dcs params) before h = tt
given_fresh cfr before h = h
given_fresh ftt before h = tt
given_fresh (fcd number octets) before h = tt
given_fresh rcp before h = tt
given_fresh (pps ends page block last) before h = tt
given_fresh (ppr marks) before h = tt
given_fresh mcf before h = h
given_fresh rnr before h = tt
given_fresh rr before h = tt
given_fresh dcn before h = tt
given_fresh (other octet) before h = tt

given_heard : (input : CallerInput) (before : List PlainSaid) → KnownToCaller (BeginsBlock before) input → GivenFresh input before
given_heard (hears signal) before h = given_fresh signal before h
given_heard timeout before h = tt
given_heard t5 before h = tt

sends_parts : PartsKeep Sends NoFact Any
sends_parts = record {
  caller = λ w rest outcome input before fine f after is h.
      let taken = caller_takes (BeginsBlock before) input w.to_caller rest is h.begins in
      caller_sends_same (record w { to_caller = rest }) outcome input before (given_heard input before taken.0)
      (record { begins = taken.1; own = h.own; keeps = h.keeps });
  answerer = λ w rest outcome input before fine f after is h.
      answerer_sends_same (record w { to_answerer = rest }) outcome input before (record { begins = h.begins; own = h.own; keeps = h.keeps });
  lost_to_caller = λ w item rest before is h.
      record { begins = each_rest (BeginsBlock before) item w.to_caller rest is h.begins; own = h.own; keeps = h.keeps };
  lost_to_answerer = λ w item rest before is h. record { begins = h.begins; own = h.own; keeps = h.keeps };
  spoil = λ w before h. record { begins = h.begins; own = h.own; keeps = h.keeps };
}

-- the law
pub data_stay : RuleIsKept NewData
data_stay document wish caps steps =
    (run_keeps Sends NoFact Any sends_parts steps (new_world document wish caps) (record { by = AnswererSide; signal = dis caps } ∷ [])
    (all_any steps) (λ more. tt) (record { begins = (tt, tt); own = λ h. absurd h; keeps = (refl, tt) })).keeps
