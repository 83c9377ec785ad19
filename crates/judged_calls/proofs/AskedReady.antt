-- The caller asks by RR only whether an answerer is ready that has said RNR: rule NotBusy.
use Rattle.std.proofs.Common.{◌≡◌, ℕ, zero, suc, Bool, true, false, cond, List, [], ◌∷◌, ◌++◌, refl, sym, ap, subst, ◌∙◌, ◌⊎◌, inl, inr}
use Rattle.std.specs.Prelude.{Option, Some, None, not, nat_lt}
use Rattle.signals.specs.Signals.{PlainSignal, dis, dcs, cfr, ftt, fcd, rcp, pps, ppr, mcf, rnr, rr, dcn, other}
use Rattle.signals.specs.declared.params.Caps.{Caps}
use Rattle.signals.specs.declared.params.Params.{Params}
use Rattle.signals.specs.declared.signal.PageEnd.{PageEnd}
use Rattle.signals.specs.declared.signal.PageEnd.TheVariants.{Null, Mps, Eom, Eop}
use Rattle.signals.specs.declared.signal.Side.TheVariants.{Caller as CallerSide, Answerer as AnswererSide}
use Rattle.partial_page.specs.Store.{bit_of}
use Rattle.stations.specs.Blocks.{Block}
use Rattle.stations.specs.Inputs.{CallerInput, AnswererInput, PlainItem, framed, checked, timeout, t5, t1, t2, is_busy, hears, listens, trains}
use Rattle.stations.specs.Laws.{Each}
use Rattle.stations.specs.CallerStep.{Caller, CallerAnswer, caller_step, caller_items, caller_table, unless_caller_ended, training_items, fcds}
use Rattle.stations.specs.CallerStep.{pps_of, burst_of, pps_items, present_block, tries_again, caller_silent, caller_gives_up, answers_dis}
use Rattle.stations.specs.CallerStep.{answers_ftt, goes_on, goes_on_or_waits, answers_mcf, answers_ppr, answers_rnr}
use Rattle.stations.specs.AnswererStep.{Answerer, answerer_step, answerer_items}
use Rattle.stations.specs.declared.turn.CallerState.{CallerState}
use Rattle.stations.specs.declared.turn.CallerState.TheVariants.{WaitDis, WaitCfr, WaitBlock, WaitReady}
use Rattle.stations.specs.declared.turn.End.{End}
use Rattle.stations.specs.declared.turn.End.TheVariants.{PeerLeft}
use Rattle.stations.specs.declared.turn.Turn.{Turn}
use Rattle.stations.specs.declared.turn.Turn.TheVariants as turn
use Rattle.line_sim.proofs.Lists.{either}
use Rattle.line_sim.specs.Headline.{LineHolds}
use Rattle.line_sim.specs.Line.{World, Outcome, Done, Nothing, InputLost, Cut, sent, new_world, caller_sends, answerer_sends}
use Rattle.line_sim.specs.Line.{caller_acts, answerer_acts}
use Rattle.line_sim.specs.LineFacts.{LineFacts, MayReachAnswerer}
use Rattle.referee.specs.History.{PlainSaid}
use Rattle.referee.specs.Rules.{is_not_busy}
use Rattle.referee.specs.declared.question.Question.TheVariants.{IsBusy}
use Rattle.referee.specs.declared.rule.Rule.TheVariants.{NotBusy}
use Rattle.judged_calls.proofs.Answered.{Yes, TellsYes, yes_later, no_more}
use Rattle.judged_calls.proofs.PprsAsk.{PprFits, IsCheck, step_fits}
use Rattle.judged_calls.proofs.OwnSignals.{each_append, sent_each}
use Rattle.judged_calls.proofs.AfterDcn.{sent_none}
use Rattle.judged_calls.proofs.Events.{ToAnswerer, KnownToCaller, caller_takes, each_rest, PartsKeep, run_keeps, Any, all_any}
use Rattle.judged_calls.specs.SaidCalls.{and_said, caller_speaks, answerer_speaks, Keeps, RuleIsKeptOfPages}

-- ---- what a caller's step makes of RNR

-- these turns leave an RNR the last word on whether the answerer is busy
abbrev pub LeavesBusy : Turn → Type 0
LeavesBusy turn.Silent = Unit {0}
LeavesBusy turn.Rr = Unit {0}
LeavesBusy turn.Dcn = Unit {0}
LeavesBusy _ = ⊥

-- an answer of the caller asks by RR only after RNR, and waits for a busy answerer only then
pub record AsksBusy (before : List PlainSaid) (answer : CallerAnswer) : Type 0 where
  pub asks : answer.turn ≡ turn.Rr → Yes IsBusy before
  pub waits : answer.next.state ≡ WaitReady → Yes IsBusy before × LeavesBusy answer.turn

-- an RNR that is heard was said
abbrev pub GivenBusy : CallerInput → List PlainSaid → Type 0
GivenBusy (hears rnr) before = Yes IsBusy before
GivenBusy _ before = Unit {0}

-- a caller that waits for a busy answerer has heard RNR
abbrev pub HasHeard : Caller → List PlainSaid → Type 0
HasHeard c before = c.state ≡ WaitReady → Yes IsBusy before

silent_ok : (c : Caller) (before : List PlainSaid) → HasHeard c before → AsksBusy before (caller_silent c)
silent_ok c before h = record { asks = λ is. absurd (cc); waits = λ is. (h is, tt) }

left_ok : (c : Caller) (before : List PlainSaid) → HasHeard c before →
    AsksBusy before (record { next = record c { ending = Some PeerLeft }; turn = turn.Silent })
left_ok c before h = record { asks = λ is. absurd (cc); waits = λ is. (h is, tt) }

gives_up_ok : (c : Caller) (why : End) (before : List PlainSaid) → HasHeard c before → AsksBusy before (caller_gives_up c why)
gives_up_ok c why before h = record { asks = λ is. absurd (cc); waits = λ is. (h is, tt) }

-- in another state it asks nothing of the kind
elsewhere : (answer : CallerAnswer) (state : CallerState) (before : List PlainSaid) → answer.next.state ≡ state → (state ≡ WaitReady → ⊥) →
    (answer.turn ≡ turn.Rr → ⊥) → AsksBusy before answer
elsewhere answer state before is apart silent_so =
    record { asks = λ asks. absurd (silent_so asks); waits = λ ready. absurd (apart (subst (λ s. s ≡ WaitReady) is ready)) }

again_ok : (c : Caller) (t : Turn) (state : CallerState) (before : List PlainSaid) → HasHeard c before → c.state ≡ state → (state ≡ WaitReady → ⊥) →
    (t ≡ turn.Rr → ⊥) → AsksBusy before (tries_again c t)
again_ok c t state before h is apart silent_so =
    either (AsksBusy before) (nat_lt c.try 3) _ _
    (λ k. elsewhere (record { next = record c { try = suc c.try }; turn = t }) state before is apart silent_so) (λ k. gives_up_ok c _ before h)

ready_again_ok : (c : Caller) (before : List PlainSaid) → HasHeard c before → c.state ≡ WaitReady → AsksBusy before (tries_again c turn.Rr)
ready_again_ok c before h is =
    either (AsksBusy before) (nat_lt c.try 3) _ _ (λ k. record { asks = λ asks. h is; waits = λ ready. (h is, tt) }) (λ k. gives_up_ok c _ before h)

dis_ok : (c : Caller) (caps : Caps) (before : List PlainSaid) (agreed : Option Params) → HasHeard c before → AsksBusy before (answers_dis c caps agreed)
dis_ok c caps before None h = gives_up_ok c _ before h
dis_ok c caps before (Some params) h = record { asks = λ is. absurd (cc); waits = λ is. absurd (cc) }

ftt_ok : (c : Caller) (before : List PlainSaid) (lower : Option Params) → HasHeard c before → c.state ≡ WaitCfr → AsksBusy before (answers_ftt c lower)
ftt_ok c before None h is = gives_up_ok c _ before h
ftt_ok c before (Some params) h is = record { asks = λ asks. absurd (cc); waits = λ ready. absurd (both is ready) }
  where
    both : {state : CallerState} → state ≡ WaitCfr → state ≡ WaitReady → ⊥
    both e k = cc

goes_on_ok : (c : Caller) (ends : PageEnd) (next : Option Block) (before : List PlainSaid) → HasHeard c before → AsksBusy before (goes_on c ends next)
goes_on_ok c ends (Some next) before h = record { asks = λ is. absurd (cc); waits = λ is. absurd (cc) }
goes_on_ok c Eop None before h = gives_up_ok c _ before h
goes_on_ok c Null None before h = gives_up_ok c _ before h
goes_on_ok c Mps None before h = gives_up_ok c _ before h
goes_on_ok c Eom None before h = gives_up_ok c _ before h

after_ok : (c : Caller) (ends : PageEnd) (next : Option Block) (before : List PlainSaid) → HasHeard c before →
    AsksBusy before (goes_on_or_waits c ends next)
after_ok c Eom next before h = record { asks = λ is. absurd (cc); waits = λ is. absurd (cc) }
after_ok c Null next before h = goes_on_ok c Null next before h
after_ok c Mps next before h = goes_on_ok c Mps next before h
after_ok c Eop next before h = goes_on_ok c Eop next before h

mcf_ok : (c : Caller) (block : Option Block) (before : List PlainSaid) → HasHeard c before → AsksBusy before (answers_mcf c block)
mcf_ok c None before h = silent_ok c before h
mcf_ok c (Some block) before h = after_ok (record c { place = suc c.place }) block.ends _ before h

ppr_ok : (c : Caller) (marks : List ℕ) (before : List PlainSaid) → HasHeard c before → AsksBusy before (answers_ppr c marks)
ppr_ok c marks before h =
    either (AsksBusy before) (nat_lt c.pprs 3) _ _ (λ k. record { asks = λ is. absurd (cc); waits = λ is. absurd (cc) })
    (λ k. gives_up_ok c _ before h)

rnr_ok : (c : Caller) (before : List PlainSaid) → Yes IsBusy before → AsksBusy before (answers_rnr c)
rnr_ok c before given = record { asks = λ is. given; waits = λ is. (given, tt) }

module _ (c : Caller) (before : List PlainSaid) (h : HasHeard c before) where
  table_ok : (state : CallerState) (input : CallerInput) → c.state ≡ state → GivenBusy input before → AsksBusy before (caller_table state input c)
  table_ok WaitDis (hears (dis caps)) is given = dis_ok c caps before _ h
  table_ok WaitDis (hears (dcs params)) is given = silent_ok c before h
  table_ok WaitDis (hears cfr) is given = silent_ok c before h
  table_ok WaitDis (hears ftt) is given = silent_ok c before h
  table_ok WaitDis (hears (fcd number octets)) is given = silent_ok c before h
  table_ok WaitDis (hears rcp) is given = silent_ok c before h
  table_ok WaitDis (hears (pps ends page block last)) is given = silent_ok c before h
  table_ok WaitDis (hears (ppr marks)) is given = silent_ok c before h
  table_ok WaitDis (hears mcf) is given = silent_ok c before h
  table_ok WaitDis (hears rnr) is given = silent_ok c before h
  table_ok WaitDis (hears rr) is given = silent_ok c before h
  table_ok WaitDis (hears dcn) is given = left_ok c before h
  table_ok WaitDis (hears (other octet)) is given = silent_ok c before h
  table_ok WaitDis timeout is given = gives_up_ok c _ before h
  table_ok WaitDis t5 is given = silent_ok c before h
  table_ok WaitCfr (hears (dis caps)) is given = again_ok c turn.Training WaitCfr before h is (λ e. cc) (λ e. cc)
  table_ok WaitCfr (hears (dcs params)) is given = silent_ok c before h
  table_ok WaitCfr (hears cfr) is given = goes_on_ok c Mps _ before h
  table_ok WaitCfr (hears ftt) is given = ftt_ok c before _ h is
  table_ok WaitCfr (hears (fcd number octets)) is given = silent_ok c before h
  table_ok WaitCfr (hears rcp) is given = silent_ok c before h
  table_ok WaitCfr (hears (pps ends page block last)) is given = silent_ok c before h
  table_ok WaitCfr (hears (ppr marks)) is given = silent_ok c before h
  table_ok WaitCfr (hears mcf) is given = silent_ok c before h
  table_ok WaitCfr (hears rnr) is given = silent_ok c before h
  table_ok WaitCfr (hears rr) is given = silent_ok c before h
  table_ok WaitCfr (hears dcn) is given = left_ok c before h
  table_ok WaitCfr (hears (other octet)) is given = silent_ok c before h
  table_ok WaitCfr timeout is given = again_ok c turn.Training WaitCfr before h is (λ e. cc) (λ e. cc)
  table_ok WaitCfr t5 is given = silent_ok c before h
  table_ok WaitBlock (hears (dis caps)) is given = silent_ok c before h
  table_ok WaitBlock (hears (dcs params)) is given = silent_ok c before h
  table_ok WaitBlock (hears cfr) is given = silent_ok c before h
  table_ok WaitBlock (hears ftt) is given = silent_ok c before h
  table_ok WaitBlock (hears (fcd number octets)) is given = silent_ok c before h
  table_ok WaitBlock (hears rcp) is given = silent_ok c before h
  table_ok WaitBlock (hears (pps ends page block last)) is given = silent_ok c before h
  table_ok WaitBlock (hears (ppr marks)) is given = ppr_ok c marks before h
  table_ok WaitBlock (hears mcf) is given = mcf_ok c _ before h
  table_ok WaitBlock (hears rnr) is given = rnr_ok c before given
  table_ok WaitBlock (hears rr) is given = silent_ok c before h
  table_ok WaitBlock (hears dcn) is given = left_ok c before h
  table_ok WaitBlock (hears (other octet)) is given = silent_ok c before h
  table_ok WaitBlock timeout is given = again_ok c turn.Pps WaitBlock before h is (λ e. cc) (λ e. cc)
  table_ok WaitBlock t5 is given = silent_ok c before h
  table_ok WaitReady (hears (dis caps)) is given = silent_ok c before h
  table_ok WaitReady (hears (dcs params)) is given = silent_ok c before h
  table_ok WaitReady (hears cfr) is given = silent_ok c before h
  table_ok WaitReady (hears ftt) is given = silent_ok c before h
  table_ok WaitReady (hears (fcd number octets)) is given = silent_ok c before h
  table_ok WaitReady (hears rcp) is given = silent_ok c before h
  table_ok WaitReady (hears (pps ends page block last)) is given = silent_ok c before h
  table_ok WaitReady (hears (ppr marks)) is given = ppr_ok c marks before h
  table_ok WaitReady (hears mcf) is given = mcf_ok c _ before h
  table_ok WaitReady (hears rnr) is given = rnr_ok c before given
  table_ok WaitReady (hears rr) is given = silent_ok c before h
  table_ok WaitReady (hears dcn) is given = left_ok c before h
  table_ok WaitReady (hears (other octet)) is given = silent_ok c before h
  table_ok WaitReady timeout is given = ready_again_ok c before h is
  table_ok WaitReady t5 is given = gives_up_ok c _ before h

  step_ok : (input : CallerInput) → GivenBusy input before → AsksBusy before (caller_step c input)
  step_ok input given = at c.ending
    where
      at : (e : Option End) → AsksBusy before (unless_caller_ended e input c)
      at (Some why) = silent_ok c before h
      at None = table_ok c.state input refl given

-- ---- a turn of the caller

-- an item is no RR
abbrev pub NoRr : PlainItem → Type 0
NoRr (framed signal) = (before : List PlainSaid) → is_not_busy signal before ≡ false
NoRr (checked octets) = Unit {0}

training_plain : (state : CallerState) (params : Params) → Each NoRr (training_items state params)
training_plain WaitDis params = tt
training_plain WaitCfr params = ((λ before. refl), (tt, tt))
training_plain WaitBlock params = ((λ before. refl), (tt, tt))
training_plain WaitReady params = ((λ before. refl), (tt, tt))

fcds_plain : (marks : List ℕ) (number : ℕ) (frames : List (List ℕ)) → Each NoRr (fcds marks number frames)
fcds_plain marks number [] = tt
fcds_plain marks number (octets ∷ frames) = at (bit_of marks number) (fcds_plain marks (suc number) frames)
  where
    at : (b : Bool) → Each NoRr (fcds marks (suc number) frames) →
        Each NoRr (cond b (framed (fcd number octets) ∷ fcds marks (suc number) frames) (fcds marks (suc number) frames))
    at true h = ((λ before. refl), h)
    at false h = h

burst_plain : (marks : List ℕ) (block : Option Block) → Each NoRr (burst_of marks block)
burst_plain marks None = tt
burst_plain marks (Some block) =
    each_append NoRr (fcds marks 0 block.frames) (framed rcp ∷ framed rcp ∷ framed rcp ∷ pps_of block ∷ []) (fcds_plain marks 0 block.frames)
    ((λ before. refl), ((λ before. refl), ((λ before. refl), ((λ before. refl), tt))))

pps_plain : (block : Option Block) → Each NoRr (pps_items block)
pps_plain None = tt
pps_plain (Some block) = ((λ before. refl), tt)

plain_keeps : (items : List PlainItem) (before : List PlainSaid) → Each NoRr items → Keeps NotBusy before → Keeps NotBusy (and_said CallerSide items before)
plain_keeps [] before plain h = h
plain_keeps (framed signal ∷ items) before plain h =
    plain_keeps items (record { by = CallerSide; signal = signal } ∷ before) plain.1 (plain.0 before, h)
plain_keeps (checked octets ∷ items) before plain h = plain_keeps items before plain.1 h

sent_plain : (outcome : Outcome) (items : List PlainItem) (before : List PlainSaid) → Each NoRr items → Keeps NotBusy before →
    Keeps NotBusy (and_said CallerSide (sent outcome items) before)
sent_plain outcome items before plain h = plain_keeps (sent outcome items) before (sent_each NoRr outcome items plain) h

rr_keeps : (outcome : Outcome) (before : List PlainSaid) → Yes IsBusy before → Keeps NotBusy before →
    Keeps NotBusy (and_said CallerSide (sent outcome (framed rr ∷ [])) before)
rr_keeps Done before busy h = (ap not (busy false), h)
rr_keeps Nothing before busy h = (ap not (busy false), h)
rr_keeps InputLost before busy h = (ap not (busy false), h)
rr_keeps (Cut zero) before busy h = h
rr_keeps (Cut (suc zero)) before busy h = (ap not (busy false), h)
rr_keeps (Cut (suc (suc made))) before busy h = (ap not (busy false), h)

-- an RNR under way to the caller was said, and no PPS or CFR since
abbrev pub Says : List PlainSaid → PlainItem → Type 0
Says before (framed rnr) = Yes IsBusy before
Says before _ = Unit {0}

-- what holds of a world and what was said in it
pub record Busied (w : World) (before : List PlainSaid) : Type 0 where
  pub says : Each (Says before) w.to_caller
  pub waits : HasHeard w.caller before
  pub keeps : Keeps NotBusy before

-- an RNR stays the last word
leaves : (t : Turn) (next : Caller) (outcome : Outcome) (before : List PlainSaid) → Yes IsBusy before → LeavesBusy t →
    Yes IsBusy (and_said CallerSide (sent outcome (caller_items next t)) before)
leaves turn.Silent next outcome before known is = yes_later CallerSide IsBusy (sent outcome []) before (sent_each (TellsYes CallerSide IsBusy) outcome [] tt) known
leaves turn.Dis next outcome before known is = absurd is
leaves turn.Training next outcome before known is = absurd is
leaves turn.Cfr next outcome before known is = absurd is
leaves turn.Ftt next outcome before known is = absurd is
leaves (turn.Burst marks) next outcome before known is = absurd is
leaves turn.Pps next outcome before known is = absurd is
leaves turn.Mcf next outcome before known is = absurd is
leaves (turn.Ppr marks) next outcome before known is = absurd is
leaves turn.Rnr next outcome before known is = absurd is
leaves turn.Rr next outcome before known is =
    yes_later CallerSide IsBusy (sent outcome (framed rr ∷ [])) before
    (sent_each (TellsYes CallerSide IsBusy) outcome (framed rr ∷ []) ((λ begun. inl refl), tt)) known
leaves turn.Dcn next outcome before known is =
    yes_later CallerSide IsBusy (sent outcome (framed dcn ∷ [])) before
    (sent_each (TellsYes CallerSide IsBusy) outcome (framed dcn ∷ []) ((λ begun. inl refl), tt)) known

silent_says : (outcome : Outcome) (w : World) (before : List PlainSaid) → Each (Says before) w.to_caller →
    Each (Says (and_said CallerSide (sent outcome []) before)) w.to_caller
silent_says outcome w before h = rw (sent_none outcome) h

turn_busied : (t : Turn) (w : World) (next : Caller) (outcome : Outcome) (before : List PlainSaid) → (t ≡ turn.Rr → Yes IsBusy before) →
    (next.state ≡ WaitReady → Yes IsBusy before × LeavesBusy t) → Busied w before →
    Busied (caller_sends t w next (sent outcome (caller_items next t))) (and_said CallerSide (sent outcome (caller_items next t)) before)
turn_busied turn.Silent w next outcome before asks waits h = record {
  says = silent_says outcome w before h.says;
  waits = λ is. let both = waits is in leaves turn.Silent next outcome before both.0 both.1;
  keeps = sent_plain outcome (caller_items next turn.Silent) before (tt) h.keeps;
}
turn_busied turn.Dis w next outcome before asks waits h = record {
  says = tt;
  waits = λ is. let both = waits is in leaves turn.Dis next outcome before both.0 both.1;
  keeps = sent_plain outcome (caller_items next turn.Dis) before (tt) h.keeps;
}
turn_busied turn.Training w next outcome before asks waits h = record {
  says = tt;
  waits = λ is. let both = waits is in leaves turn.Training next outcome before both.0 both.1;
  keeps = sent_plain outcome (caller_items next turn.Training) before (training_plain next.state next.params) h.keeps;
}
turn_busied turn.Cfr w next outcome before asks waits h = record {
  says = tt;
  waits = λ is. let both = waits is in leaves turn.Cfr next outcome before both.0 both.1;
  keeps = sent_plain outcome (caller_items next turn.Cfr) before (tt) h.keeps;
}
turn_busied turn.Ftt w next outcome before asks waits h = record {
  says = tt;
  waits = λ is. let both = waits is in leaves turn.Ftt next outcome before both.0 both.1;
  keeps = sent_plain outcome (caller_items next turn.Ftt) before (tt) h.keeps;
}
turn_busied (turn.Burst marks) w next outcome before asks waits h = record {
  says = tt;
  waits = λ is. let both = waits is in leaves (turn.Burst marks) next outcome before both.0 both.1;
  keeps = sent_plain outcome (caller_items next (turn.Burst marks)) before (burst_plain marks (present_block next)) h.keeps;
}
turn_busied turn.Pps w next outcome before asks waits h = record {
  says = tt;
  waits = λ is. let both = waits is in leaves turn.Pps next outcome before both.0 both.1;
  keeps = sent_plain outcome (caller_items next turn.Pps) before (pps_plain (present_block next)) h.keeps;
}
turn_busied turn.Mcf w next outcome before asks waits h = record {
  says = tt;
  waits = λ is. let both = waits is in leaves turn.Mcf next outcome before both.0 both.1;
  keeps = sent_plain outcome (caller_items next turn.Mcf) before (tt) h.keeps;
}
turn_busied (turn.Ppr marks) w next outcome before asks waits h = record {
  says = tt;
  waits = λ is. let both = waits is in leaves (turn.Ppr marks) next outcome before both.0 both.1;
  keeps = sent_plain outcome (caller_items next (turn.Ppr marks)) before (tt) h.keeps;
}
turn_busied turn.Rnr w next outcome before asks waits h = record {
  says = tt;
  waits = λ is. let both = waits is in leaves turn.Rnr next outcome before both.0 both.1;
  keeps = sent_plain outcome (caller_items next turn.Rnr) before (tt) h.keeps;
}
turn_busied turn.Rr w next outcome before asks waits h = record {
  says = tt;
  waits = λ is. let both = waits is in leaves turn.Rr next outcome before both.0 both.1;
  keeps = rr_keeps outcome before (asks refl) h.keeps;
}
turn_busied turn.Dcn w next outcome before asks waits h = record {
  says = tt;
  waits = λ is. let both = waits is in leaves turn.Dcn next outcome before both.0 both.1;
  keeps = sent_plain outcome (caller_items next turn.Dcn) before (((λ b. refl), tt)) h.keeps;
}

caller_busied : (w : World) (outcome : Outcome) (input : CallerInput) (before : List PlainSaid) → GivenBusy input before → Busied w before →
    Busied (caller_acts w outcome input) (caller_speaks w.caller outcome input before)
caller_busied w outcome input before given h =
    let answer = caller_step w.caller input in
    let ok = step_ok w.caller before h.waits input given in
    turn_busied answer.turn w answer.next outcome before ok.asks ok.waits h

-- ---- a turn of the answerer

-- every RNR under way was said, also after a frame that tells nothing of it, or an RNR
says_later : (items xs : List PlainItem) (before : List PlainSaid) → Each (TellsYes AnswererSide IsBusy) items → Each (Says before) xs →
    Each (Says (and_said AnswererSide items before)) xs
says_later items [] before own h = tt
says_later items (framed rnr ∷ xs) before own h = (yes_later AnswererSide IsBusy items before own h.0, says_later items xs before own h.1)
says_later items (framed (dis caps) ∷ xs) before own h = (tt, says_later items xs before own h.1)
says_later items (framed (dcs params) ∷ xs) before own h = (tt, says_later items xs before own h.1)
says_later items (framed cfr ∷ xs) before own h = (tt, says_later items xs before own h.1)
says_later items (framed ftt ∷ xs) before own h = (tt, says_later items xs before own h.1)
says_later items (framed (fcd number octets) ∷ xs) before own h = (tt, says_later items xs before own h.1)
says_later items (framed rcp ∷ xs) before own h = (tt, says_later items xs before own h.1)
says_later items (framed (pps ends page block last) ∷ xs) before own h = (tt, says_later items xs before own h.1)
says_later items (framed (ppr marks) ∷ xs) before own h = (tt, says_later items xs before own h.1)
says_later items (framed mcf ∷ xs) before own h = (tt, says_later items xs before own h.1)
says_later items (framed rr ∷ xs) before own h = (tt, says_later items xs before own h.1)
says_later items (framed dcn ∷ xs) before own h = (tt, says_later items xs before own h.1)
says_later items (framed (other octet) ∷ xs) before own h = (tt, says_later items xs before own h.1)
says_later items (checked octets ∷ xs) before own h = (tt, says_later items xs before own h.1)

-- a frame of the answerer that is no CFR, or nothing
module _ (signal : PlainSignal) (w : World) (next : Answerer) (before : List PlainSaid)
    (own : TellsYes AnswererSide IsBusy (framed signal)) (plain : is_not_busy signal before ≡ false)
    (new : Says (record { by = AnswererSide; signal = signal } ∷ before) (framed signal)) (h : Busied w before) where
  whole : Busied (record { caller = w.caller; answerer = next; to_answerer = []; to_caller = w.to_caller ++ framed signal ∷ [] })
      (record { by = AnswererSide; signal = signal } ∷ before)
  whole = record {
    says = each_append (Says (record { by = AnswererSide; signal = signal } ∷ before)) w.to_caller (framed signal ∷ [])
        (says_later (framed signal ∷ []) w.to_caller before (own, tt) h.says) (new, tt);
    waits = λ is. yes_later AnswererSide IsBusy (framed signal ∷ []) before (own, tt) (h.waits is);
    keeps = (plain, h.keeps);
  }

  none : Busied (record { caller = w.caller; answerer = next; to_answerer = []; to_caller = w.to_caller ++ [] }) before
  none = record { says = each_append (Says before) w.to_caller [] h.says tt; waits = h.waits; keeps = h.keeps }

  said : (outcome : Outcome) →
      Busied (record { caller = w.caller; answerer = next; to_answerer = []; to_caller = w.to_caller ++ sent outcome (framed signal ∷ []) })
      (and_said AnswererSide (sent outcome (framed signal ∷ [])) before)
  said Done = whole
  said Nothing = whole
  said InputLost = whole
  said (Cut zero) = none
  said (Cut (suc zero)) = whole
  said (Cut (suc (suc made))) = whole

-- a CFR, which answers a training check: nothing is under way to the caller, and it waits for CFR
module _ (w : World) (next : Answerer) (before : List PlainSaid) (training : w.caller.state ≡ WaitCfr) (way : w.to_caller ≡ []) (h : Busied w before) where
  not_ready : {A : Type 0} → w.caller.state ≡ WaitReady → A
  not_ready is = absurd (both training is)
    where
      both : {state : CallerState} → state ≡ WaitCfr → state ≡ WaitReady → ⊥
      both e k = cc

  each_none : (P : PlainItem → Type 0) (items : List PlainItem) → items ≡ [] → Each P items
  each_none P [] e = tt
  each_none P (item ∷ items) e = absurd (no_more e)

  cfr_whole : Busied (record { caller = w.caller; answerer = next; to_answerer = []; to_caller = w.to_caller ++ framed cfr ∷ [] })
      (record { by = AnswererSide; signal = cfr } ∷ before)
  cfr_whole = record {
    says = each_append (Says (record { by = AnswererSide; signal = cfr } ∷ before)) w.to_caller (framed cfr ∷ []) (each_none _ w.to_caller way) (tt, tt);
    waits = λ is. not_ready is;
    keeps = (refl, h.keeps);
  }

  cfr_none : Busied (record { caller = w.caller; answerer = next; to_answerer = []; to_caller = w.to_caller ++ [] }) before
  cfr_none = record { says = each_append (Says before) w.to_caller [] h.says tt; waits = h.waits; keeps = h.keeps }

  cfr_said : (outcome : Outcome) →
      Busied (record { caller = w.caller; answerer = next; to_answerer = []; to_caller = w.to_caller ++ sent outcome (framed cfr ∷ []) })
      (and_said AnswererSide (sent outcome (framed cfr ∷ [])) before)
  cfr_said Done = cfr_whole
  cfr_said Nothing = cfr_whole
  cfr_said InputLost = cfr_whole
  cfr_said (Cut zero) = cfr_none
  cfr_said (Cut (suc zero)) = cfr_whole
  cfr_said (Cut (suc (suc made))) = cfr_whole

-- nothing is said
silent_busied : (w : World) (next : Answerer) (outcome : Outcome) (before : List PlainSaid) → Busied w before →
    Busied (record w { answerer = next }) (and_said AnswererSide (sent outcome []) before)
silent_busied w next outcome before h = rw (sent_none outcome) (record { says = h.says; waits = h.waits; keeps = h.keeps })

cleared_busied : (w : World) (next : Answerer) (outcome : Outcome) (before : List PlainSaid) → Busied w before →
    Busied (record { caller = w.caller; answerer = next; to_answerer = []; to_caller = w.to_caller ++ sent outcome [] })
    (and_said AnswererSide (sent outcome []) before)
cleared_busied w next outcome before h =
    rw (sent_none outcome) (record { says = each_append (Says before) w.to_caller [] h.says tt; waits = h.waits; keeps = h.keeps })

answer_busied : (t : Turn) (w : World) (next : Answerer) (outcome : Outcome) (before : List PlainSaid) →
    (t ≡ turn.Cfr → (w.caller.state ≡ WaitCfr) × (w.to_caller ≡ [])) → Busied w before →
    Busied (answerer_sends t w next (sent outcome (answerer_items next t))) (and_said AnswererSide (sent outcome (answerer_items next t)) before)
answer_busied turn.Silent w next outcome before calm h = silent_busied w next outcome before h
answer_busied turn.Dis w next outcome before calm h = said (dis next.caps) w next before (λ begun. inl refl) refl tt h outcome
answer_busied turn.Training w next outcome before calm h = cleared_busied w next outcome before h
answer_busied turn.Cfr w next outcome before calm h = cfr_said w next before (calm refl).0 (calm refl).1 h outcome
answer_busied turn.Ftt w next outcome before calm h = said ftt w next before (λ begun. inl refl) refl tt h outcome
answer_busied (turn.Burst marks) w next outcome before calm h = cleared_busied w next outcome before h
answer_busied turn.Pps w next outcome before calm h = cleared_busied w next outcome before h
answer_busied turn.Mcf w next outcome before calm h = said mcf w next before (λ begun. inl refl) refl tt h outcome
answer_busied (turn.Ppr marks) w next outcome before calm h = said (ppr marks) w next before (λ begun. inl refl) refl tt h outcome
answer_busied turn.Rnr w next outcome before calm h = said rnr w next before (λ begun. inr refl) refl (λ begun. refl) h outcome
answer_busied turn.Rr w next outcome before calm h = cleared_busied w next outcome before h
answer_busied turn.Dcn w next outcome before calm h = said dcn w next before (λ begun. inl refl) refl tt h outcome

answerer_busied : (w : World) (outcome : Outcome) (input : AnswererInput) (before : List PlainSaid) →
    (IsCheck input → (w.caller.state ≡ WaitCfr) × (w.to_caller ≡ [])) → Busied w before →
    Busied (answerer_acts w outcome input) (answerer_speaks w.answerer outcome input before)
answerer_busied w outcome input before check h =
    answer_busied (answerer_step w.answerer input).turn w (answerer_step w.answerer input).next outcome before
    (λ is. check (subst (PprFits w.answerer input) is (step_fits w.answerer input))) h

-- ---- one event

given_rnr : (signal : PlainSignal) (before : List PlainSaid) → Says before (framed signal) → GivenBusy (hears signal) before
given_rnr (dis caps) before h = tt
given_rnr (dcs params) before h = tt
given_rnr cfr before h = tt
given_rnr ftt before h = tt
given_rnr (fcd number octets) before h = tt
given_rnr rcp before h = tt
given_rnr (pps ends page block last) before h = tt
given_rnr (ppr marks) before h = tt
given_rnr mcf before h = tt
given_rnr rnr before h = h
given_rnr rr before h = tt
given_rnr dcn before h = tt
given_rnr (other octet) before h = tt

given_heard : (input : CallerInput) (before : List PlainSaid) → KnownToCaller (Says before) input → GivenBusy input before
given_heard (hears signal) before h = given_rnr signal before h
given_heard timeout before h = tt
given_heard t5 before h = tt

-- a check comes while the caller waits for CFR, and nothing is under way to the caller
given_check : (w : World) (f : LineFacts w) (input : AnswererInput) (rest : List PlainItem) → ToAnswerer input w.to_answerer rest → IsCheck input →
    (w.caller.state ≡ WaitCfr) × (w.to_caller ≡ [])
given_check w f (listens signal) rest is check = absurd check
given_check w f (trains octets) rest is check =
    ((subst (Each (MayReachAnswerer w.caller f.accepted)) is f.to_answerer).0, none f.one_way)
  where
    none : (w.to_answerer ≡ []) ⊎ (w.to_caller ≡ []) → w.to_caller ≡ []
    none (inl empty) = absurd (no_more (sym is ∙ empty))
    none (inr empty) = empty
given_check w f t1 rest is check = absurd check
given_check w f t2 rest is check = absurd check
given_check w f (is_busy busy) rest is check = absurd check

busied_parts : PartsKeep Busied LineFacts Any
busied_parts = record {
  caller = λ w rest outcome input before fine f after is h.
      let taken = caller_takes (Says before) input w.to_caller rest is h.says in
      caller_busied (record w { to_caller = rest }) outcome input before (given_heard input before taken.0)
      (record { says = taken.1; waits = h.waits; keeps = h.keeps });
  answerer = λ w rest outcome input before fine f after is h.
      answerer_busied (record w { to_answerer = rest }) outcome input before (given_check w f input rest is)
      (record { says = h.says; waits = h.waits; keeps = h.keeps });
  lost_to_caller = λ w item rest before is h.
      record { says = each_rest (Says before) item w.to_caller rest is h.says; waits = h.waits; keeps = h.keeps };
  lost_to_answerer = λ w item rest before is h. record { says = h.says; waits = h.waits; keeps = h.keeps };
  spoil = λ w before h. record { says = h.says; waits = h.waits; keeps = h.keeps };
}

-- the law
pub asks_the_busy : LineHolds → RuleIsKeptOfPages NotBusy
asks_the_busy holds_facts document wish caps steps full =
    (run_keeps Busied LineFacts Any busied_parts steps (new_world document wish caps) (record { by = AnswererSide; signal = dis caps } ∷ [])
    (all_any steps) (λ more. holds_facts document wish caps more full)
    (record { says = (tt, tt); waits = λ is. absurd (cc); keeps = (refl, tt) })).keeps
