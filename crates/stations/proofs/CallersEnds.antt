-- Each end of a caller comes from its cause.
use Rattle.std.proofs.Common.{◌≡◌, ◌≢◌, ℕ, suc, ◌≤◌, inl, inr, Bool, true, false, cond, Option, Some, None, List, refl, sym, subst, ap, ◌∙◌}
use Rattle.std.proofs.Common.{arith, ◌<◌, ◌++◌, length}
use Rattle.std.specs.Prelude.{nat_le, nat_lt, slice_get}
use Rattle.std.proofs.lemmas.Bool.{ltb-true, ltb-false, leb-true, leb-false, false_from_ne_true}
use Rattle.raster.specs.Pages.{PagePixels}
use Rattle.signals.specs.Signals.{dis, cfr, ftt, ppr, mcf, rnr, dcn}
use Rattle.signals.specs.declared.params.Caps.{Caps}
use Rattle.signals.specs.declared.params.Params.{Params}
use Rattle.signals.specs.declared.signal.PageEnd.{PageEnd}
use Rattle.signals.specs.declared.signal.PageEnd.TheVariants.{Null, Mps, Eom, Eop}
use Rattle.stations.specs.Layers.{agreed_for, code_octets, code_within_limit, lowered, within_page_limit}
use Rattle.stations.specs.Blocks.{Block}
use Rattle.stations.specs.Inputs.{CallerInput, hears, timeout, t5}
use Rattle.stations.specs.CallerStep.{Caller, CallerAnswer, blocks_of, confirmed, caller_table, tries_again, goes_on, goes_on_or_waits}
use Rattle.stations.specs.CallerStep.{answers_dis, answers_ftt, answers_mcf, answers_ppr, unless_caller_ended, caller_step}
use Rattle.stations.specs.EndsMean.{HasSent, ConfirmsBlock, Unanswered, CallerEndsBy, CallersEndsMean}
use Rattle.stations.specs.Marks.{ListsEndSo}
use Rattle.stations.proofs.MarksTell.{none_after}
use Rattle.stations.specs.declared.turn.CallerState.{CallerState}
use Rattle.stations.specs.declared.turn.CallerState.TheVariants.{WaitDis, WaitCfr, WaitBlock, WaitReady}
use Rattle.stations.specs.declared.turn.End.{End}
use Rattle.stations.specs.declared.turn.End.TheVariants.{Normal, NoAnswer, NotCompatible, Training, NoReply, Unreadable, StillBusy}
use Rattle.stations.specs.declared.turn.End.TheVariants.{PeerLeft, BadPage, PageTooLong}
use Rattle.stations.specs.declared.turn.Turn.{Turn}
use Rattle.stations.specs.declared.turn.Turn.TheVariants.{Training as SendTraining, Pps as SendPps, Rr as SendRr}

either : {A : Type 0} (P : A → Type 0) (b : Bool) (x y : A) → (b ≡ true → P x) → (b ≡ false → P y) → P (cond b x y)
either P true x y f g = f refl
either P false x y f g = g refl

-- an answer ends for a reason, by its cause
abbrev Caused : Caller → CallerInput → CallerAnswer → Type 0
Caused c input answer = (why : End) → answer.next.ending ≡ Some why → CallerEndsBy c input why

-- an end is this one
leads : (c : Caller) (input : CallerInput) (end why : End) → CallerEndsBy c input end → Some end ≡ Some why → CallerEndsBy c input why
leads c input end why h e = let same : end ≡ why = cc in subst (λ w. CallerEndsBy c input w) same h

-- a caller that runs has no end
runs_on : (c : Caller) (input : CallerInput) (why : End) → c.ending ≡ None → c.ending ≡ Some why → CallerEndsBy c input why
runs_on c input why runs e = let not : None ≡ Some why = sym runs ∙ e in cc

dis_cause :
    (c : Caller) (caps : Caps) (params : Option Params) → c.state ≡ WaitDis → c.ending ≡ None →
    agreed_for caps c.wish (slice_get c.document (confirmed c)) ≡ params → Caused c (hears (dis caps)) (answers_dis c caps params)
dis_cause c caps None is runs agrees = λ why. leads c (hears (dis caps)) NotCompatible why (is, (caps, refl, agrees))
dis_cause c caps (Some params) is runs agrees = λ why. runs_on c (hears (dis caps)) why runs

ftt_cause :
    (c : Caller) (params : Option Params) → c.state ≡ WaitCfr → c.ending ≡ None → lowered c.caps c.wish c.params ≡ params →
    Caused c (hears ftt) (answers_ftt c params)
ftt_cause c None is runs none = λ why. leads c (hears ftt) Training why (is, refl, none)
ftt_cause c (Some params) is runs some = λ why. runs_on c (hears ftt) why runs

cfr_cause :
    (c : Caller) (block : Option Block) → c.state ≡ WaitCfr → c.ending ≡ None → slice_get (blocks_of c) c.place ≡ block →
    Caused c (hears cfr) (goes_on c Mps block)
cfr_cause c None is runs none = λ why. leads c (hears cfr) PageTooLong why (inl (is, refl, none))
cfr_cause c (Some block) is runs some = λ why. runs_on c (hears cfr) why runs

-- a code is too long, by its number of octets
long_is : (params : Params) (page : PagePixels) → code_within_limit params page ≡ false → 8388608 < length (code_octets params page)
unfolding code_within_limit within_page_limit
long_is params page e = leb-false (length (code_octets params page)) 8388608 e

is_long : (params : Params) (page : PagePixels) → 8388608 < length (code_octets params page) → code_within_limit params page ≡ false
unfolding code_within_limit within_page_limit
is_long params page long =
    false_from_ne_true (nat_le (length (code_octets params page)) 8388608)
    (λ e. omega (arith, leb-true (length (code_octets params page)) 8388608 e, long))

next_cause :
    ListsEndSo → (c : Caller) (block : Block) (ends : PageEnd) (next : Option Block) → HasSent c → c.ending ≡ None →
    slice_get (blocks_of c) c.place ≡ Some block → block.ends ≡ ends → slice_get (blocks_of c) (suc c.place) ≡ next →
    Caused c (hears mcf) (goes_on_or_waits (record c { place = suc c.place }) ends next)
next_cause law c block Eom next sent runs here ends_is more = λ why. runs_on c (hears mcf) why runs
next_cause law c block Null (Some next) sent runs here ends_is more = λ why. runs_on c (hears mcf) why runs
next_cause law c block Mps (Some next) sent runs here ends_is more = λ why. runs_on c (hears mcf) why runs
next_cause law c block Eop (Some next) sent runs here ends_is more = λ why. runs_on c (hears mcf) why runs
next_cause law c block Eop None sent runs here ends_is more = λ why.
    leads c (hears mcf) Normal why (record { sent = sent; heard = refl; block = block; present = here; end_is = ends_is })
next_cause law c block Null None sent runs here ends_is more =
    absurd ((law (c.finished ++ c.present) c.document c.place block here more).not_null ends_is)
next_cause law c block Mps None sent runs here ends_is more = λ why.
    let h = (law (c.finished ++ c.present) c.document c.place block here more).mps ends_is in
    leads c (hears mcf) PageTooLong why
    (inr (record {
      confirms = record { sent = sent; heard = refl; block = block; present = here; end_is = ends_is };
      page = h.0;
      due = h.1;
      long = long_is block.params h.0 h.2;
    }))

mcf_cause :
    ListsEndSo → (c : Caller) (block : Option Block) → HasSent c → c.ending ≡ None → slice_get (blocks_of c) c.place ≡ block →
    Caused c (hears mcf) (answers_mcf c block)
mcf_cause law c None sent runs here = λ why. runs_on c (hears mcf) why runs
mcf_cause law c (Some block) sent runs here =
    next_cause law c block block.ends (slice_get (blocks_of c) (suc c.place)) sent runs here refl refl

ppr_cause : (c : Caller) (map : List ℕ) → HasSent c → c.ending ≡ None → Caused c (hears (ppr map)) (answers_ppr c map)
ppr_cause c map sent runs =
    either (Caused c (hears (ppr map))) (nat_lt c.pprs 3) _ _ (λ b why. runs_on c (hears (ppr map)) why runs)
    (λ b why. leads c (hears (ppr map)) Unreadable why (sent, (map, refl), ltb-false c.pprs 3 b))

tries_cause : (c : Caller) (input : CallerInput) (turn : Turn) → Unanswered c input → c.ending ≡ None → Caused c input (tries_again c turn)
tries_cause c input turn none runs =
    either (Caused c input) (nat_lt c.try 3) _ _ (λ b why. runs_on c input why runs)
    (λ b why. leads c input NoReply why (none, ltb-false c.try 3 b))

other_state : (c : Caller) (state : CallerState) → c.state ≡ state → state ≢ WaitDis → c.state ≢ WaitDis
other_state c state is other e = other (sym is ∙ e)

table_cause :
    ListsEndSo → (state : CallerState) (input : CallerInput) (c : Caller) → c.state ≡ state → c.ending ≡ None →
    Caused c input (caller_table state input c)
table_cause law WaitDis (hears (dis caps)) c is runs = dis_cause c caps _ is runs refl
table_cause law WaitDis timeout c is runs = λ why. leads c timeout NoAnswer why (is, refl)
table_cause law WaitCfr (hears cfr) c is runs = cfr_cause c _ is runs refl
table_cause law WaitCfr (hears ftt) c is runs = ftt_cause c _ is runs refl
table_cause law WaitCfr (hears (dis caps)) c is runs = tries_cause c (hears (dis caps)) SendTraining (inr (is, (caps, refl))) runs
table_cause law WaitCfr timeout c is runs = tries_cause c timeout SendTraining (inl (refl, other_state c WaitCfr is (λ e. cc))) runs
table_cause law WaitBlock (hears mcf) c is runs = mcf_cause law c _ (inl is) runs refl
table_cause law WaitBlock (hears (ppr map)) c is runs = ppr_cause c map (inl is) runs
table_cause law WaitBlock (hears rnr) c is runs = λ why. runs_on c (hears rnr) why runs
table_cause law WaitBlock timeout c is runs = tries_cause c timeout SendPps (inl (refl, other_state c WaitBlock is (λ e. cc))) runs
table_cause law WaitReady (hears mcf) c is runs = mcf_cause law c _ (inr is) runs refl
table_cause law WaitReady (hears (ppr map)) c is runs = ppr_cause c map (inr is) runs
table_cause law WaitReady (hears rnr) c is runs = λ why. runs_on c (hears rnr) why runs
table_cause law WaitReady timeout c is runs = tries_cause c timeout SendRr (inl (refl, other_state c WaitReady is (λ e. cc))) runs
table_cause law WaitReady t5 c is runs = λ why. leads c t5 StillBusy why (is, refl)
table_cause law _ (hears dcn) c is runs = λ why. leads c (hears dcn) PeerLeft why refl
table_cause law _ input c is runs = λ why. runs_on c input why runs

-- the step of a caller that runs is its table's
pub table_step :
    (c : Caller) (state : CallerState) (input heard : CallerInput) → c.ending ≡ None → c.state ≡ state → input ≡ heard →
    caller_step c input ≡ caller_table state heard c
table_step c state input heard runs is heard_is =
    ap (λ e. unless_caller_ended e input c) runs ∙ (ap (λ st. caller_table st input c) is ∙ ap (λ i. caller_table state i c) heard_is)

-- what ends a row ends the step
ends :
    (c : Caller) (state : CallerState) (input heard : CallerInput) (why : End) → c.ending ≡ None → c.state ≡ state → input ≡ heard →
    (caller_table state heard c).next.ending ≡ Some why → (caller_step c input).next.ending ≡ Some why
ends c state input heard why runs is heard_is e = ap (λ a. a.next.ending) (table_step c state input heard runs is heard_is) ∙ e

spent : (c : Caller) (turn : Turn) → 3 ≤ c.try → (tries_again c turn).next.ending ≡ Some NoReply
spent c turn most =
    either (λ (a : CallerAnswer). a.next.ending ≡ Some NoReply) (nat_lt c.try 3) _ _
    (λ b. absurd (omega (arith, ltb-true c.try 3 b, most))) (λ b. refl)

asked_too_often : (c : Caller) (map : List ℕ) → 3 ≤ c.pprs → (answers_ppr c map).next.ending ≡ Some Unreadable
asked_too_often c map most =
    either (λ (a : CallerAnswer). a.next.ending ≡ Some Unreadable) (nat_lt c.pprs 3) _ _
    (λ b. absurd (omega (arith, ltb-true c.pprs 3 b, most))) (λ b. refl)

left : (c : Caller) (state : CallerState) → (caller_table state (hears dcn) c).next.ending ≡ Some PeerLeft
left c WaitDis = refl
left c WaitCfr = refl
left c WaitBlock = refl
left c WaitReady = refl

late : (c : Caller) (state : CallerState) → state ≢ WaitDis → 3 ≤ c.try → (caller_table state timeout c).next.ending ≡ Some NoReply
late c WaitDis other most = absurd (other refl)
late c WaitCfr other most = spent c SendTraining most
late c WaitBlock other most = spent c SendPps most
late c WaitReady other most = spent c SendRr most

confirms :
    (c : Caller) (input : CallerInput) (why : End) (end : PageEnd) → c.ending ≡ None →
    ((d : Caller) → (goes_on_or_waits d end None).next.ending ≡ Some why) → (h : ConfirmsBlock c input end) →
    slice_get (blocks_of c) (suc c.place) ≡ None → (caller_step c input).next.ending ≡ Some why
confirms c input why end runs ended h no_more =
    elim h.sent [
      | inl is ↦ ends c WaitBlock input (hears mcf) why runs is h.heard answered
      | inr is ↦ ends c WaitReady input (hears mcf) why runs is h.heard answered
    ]
  where
    answered : (answers_mcf c (slice_get (blocks_of c) c.place)).next.ending ≡ Some why
    answered =
        ap (λ b. (answers_mcf c b).next.ending) h.present
        ∙ (ap (λ n. (goes_on_or_waits (record c { place = suc c.place }) h.block.ends n).next.ending) no_more
        ∙ (ap (λ e. (goes_on_or_waits (record c { place = suc c.place }) e None).next.ending) h.end_is
        ∙ ended (record c { place = suc c.place })))

by_cause : (c : Caller) (input : CallerInput) (why : End) → c.ending ≡ None → CallerEndsBy c input why →
    (caller_step c input).next.ending ≡ Some why
by_cause c input Normal runs h =
    confirms c input Normal Eop runs (λ d. refl) h
    (none_after (c.finished ++ c.present) c.document c.place h.block h.present (λ rest s. s.eop h.end_is))
by_cause c input NoAnswer runs h = ends c WaitDis input timeout NoAnswer runs h.0 h.1 refl
by_cause c input NotCompatible runs h =
    ends c WaitDis input (hears (dis h.1.0)) NotCompatible runs h.0 h.1.1 (ap (λ p. (answers_dis c h.1.0 p).next.ending) h.1.2)
by_cause c input Training runs h =
    ends c WaitCfr input (hears ftt) Training runs h.0 h.1 (ap (λ p. (answers_ftt c p).next.ending) h.2)
by_cause c input NoReply runs h =
    elim h.0 [
      | inl t ↦ ends c c.state input timeout NoReply runs refl t.0 (late c c.state t.1 h.1)
      | inr d ↦ ends c WaitCfr input (hears (dis d.1.0)) NoReply runs d.0 d.1.1 (spent c SendTraining h.1)
    ]
by_cause c input Unreadable runs h =
    elim h.0 [
      | inl is ↦ ends c WaitBlock input (hears (ppr h.1.0)) Unreadable runs is h.1.1 (asked_too_often c h.1.0 h.2)
      | inr is ↦ ends c WaitReady input (hears (ppr h.1.0)) Unreadable runs is h.1.1 (asked_too_often c h.1.0 h.2)
    ]
by_cause c input StillBusy runs h = ends c WaitReady input t5 StillBusy runs h.0 h.1 refl
by_cause c input PeerLeft runs h = ends c c.state input (hears dcn) PeerLeft runs refl h (left c c.state)
by_cause c input BadPage runs h = absurd h
by_cause c input PageTooLong runs h =
    elim h [
      | inl a ↦ ends c WaitCfr input (hears cfr) PageTooLong runs a.0 a.1 (ap (λ b. (goes_on c Mps b).next.ending) a.2)
      | inr b ↦
          confirms c input PageTooLong Mps runs (λ d. refl) b.confirms
          (none_after (c.finished ++ c.present) c.document c.place b.confirms.block b.confirms.present
          (λ rest s. s.mps b.confirms.end_is b.page b.due (is_long b.confirms.block.params b.page b.long)))
    ]

pub callers_ends_mean : ListsEndSo → CallersEndsMean
callers_ends_mean law c input why runs = (
  λ e. table_cause law c.state input c refl runs why (ap (λ a. a.next.ending) (sym (table_step c c.state input input runs refl refl)) ∙ e),
  λ h. by_cause c input why runs h,
)
