-- What a step of a caller changes.
use Rattle.std.proofs.Common.{◌≡◌, ℕ, suc, inl, inr, Bool, true, false, cond, Option, Some, None, List, [], ◌∷◌, refl, sym, subst, ap, ◌∙◌}
use Rattle.std.specs.Prelude.{slice_get, nat_lt, Result, Ok, Err}
use Rattle.signals.specs.Signals.{dis, cfr, ftt, ppr, mcf, rnr, dcn}
use Rattle.signals.specs.declared.params.Caps.{Caps}
use Rattle.signals.specs.declared.params.Params.{Params}
use Rattle.signals.specs.declared.signal.PageEnd.{PageEnd}
use Rattle.signals.specs.declared.signal.PageEnd.TheVariants.{Null, Mps, Eom, Eop}
use Rattle.stations.specs.Blocks.{Block}
use Rattle.stations.specs.Inputs.{CallerInput, hears, timeout, t5}
use Rattle.stations.specs.CallerStep.{Caller, CallerAnswer, blocks_of, caller_table, tries_again, goes_on, goes_on_or_waits}
use Rattle.stations.specs.CallerStep.{answers_dis, answers_ftt, answers_mcf, answers_ppr, caller_step, unless_caller_ended}
use Rattle.stations.specs.CallerFields.{AnswersOrRefuses, CallerFields}
use Rattle.stations.specs.EndsMean.{HasSent}
use Rattle.stations.specs.Keeping.{Keeps, CallersKeep, CallersTake, KeepsOrRefuses}
use Rattle.stations.specs.declared.turn.CallerState.{CallerState}
use Rattle.stations.specs.declared.turn.CallerState.TheVariants.{WaitDis, WaitCfr, WaitBlock, WaitReady}
use Rattle.stations.specs.declared.turn.End.{End}
use Rattle.stations.specs.declared.turn.Turn.{Turn}
use Rattle.stations.specs.declared.turn.Turn.TheVariants.{Training as SendTraining, Pps as SendPps, Rr as SendRr}
use Rattle.stations.proofs.CallersEnds.{table_step}

either : {A : Type 0} (P : A → Type 0) (b : Bool) (x y : A) → (b ≡ true → P x) → (b ≡ false → P y) → P (cond b x y)
either P true x y f g = f refl
either P false x y f g = g refl

-- an answer keeps
abbrev Kept : Caller → CallerInput → CallerAnswer → Type 0
Kept c input answer = Keeps c input answer.next

all_kept : (c : Caller) (input : CallerInput) (next : Caller) → next.document ≡ c.document → next.wish ≡ c.wish → next.caps ≡ c.caps →
    next.params ≡ c.params → next.place ≡ c.place → next.finished ≡ c.finished → Keeps c input next
all_kept c input next document wish caps params place finished =
    record {
      document = document;
      wish = wish;
      caps = λ n. caps;
      params = λ n m. params;
      place = inl place;
      finished = inl finished;
    }

dis_kept : (c : Caller) (caps : Caps) (params : Option Params) → c.state ≡ WaitDis → Kept c (hears (dis caps)) (answers_dis c caps params)
dis_kept c caps None is = all_kept c (hears (dis caps)) _ refl refl refl refl refl refl
dis_kept c caps (Some params) is = record {
  document = refl;
  wish = refl;
  caps = λ n. absurd (n (is, (caps, refl)));
  params = λ n m. absurd (n (is, (caps, refl)));
  place = inl refl;
  finished = inl refl;
}

ftt_kept : (c : Caller) (params : Option Params) → c.state ≡ WaitCfr → Kept c (hears ftt) (answers_ftt c params)
ftt_kept c None is = all_kept c (hears ftt) _ refl refl refl refl refl refl
ftt_kept c (Some params) is = record {
  document = refl;
  wish = refl;
  caps = λ n. refl;
  params = λ n m. absurd (m (is, refl));
  place = inl refl;
  finished = inl refl;
}

cfr_kept : (c : Caller) (block : Option Block) → Kept c (hears cfr) (goes_on c Mps block)
cfr_kept c None = all_kept c (hears cfr) _ refl refl refl refl refl refl
cfr_kept c (Some block) = all_kept c (hears cfr) _ refl refl refl refl refl refl

goes_kept : (c : Caller) (ends : PageEnd) (next : Option Block) (block : Block) → HasSent c → slice_get (blocks_of c) c.place ≡ Some block →
    Kept c (hears mcf) (goes_on (record c { place = suc c.place }) ends next)
goes_kept c ends (Some next) block sent here = record {
  document = refl;
  wish = refl;
  caps = λ n. refl;
  params = λ n m. refl;
  place = inr (sent, refl, (block, here), refl);
  finished = inl refl;
}
goes_kept c Null None block sent here = record {
  document = refl;
  wish = refl;
  caps = λ n. refl;
  params = λ n m. refl;
  place = inr (sent, refl, (block, here), refl);
  finished = inl refl;
}
goes_kept c Mps None block sent here = record {
  document = refl;
  wish = refl;
  caps = λ n. refl;
  params = λ n m. refl;
  place = inr (sent, refl, (block, here), refl);
  finished = inl refl;
}
goes_kept c Eom None block sent here = record {
  document = refl;
  wish = refl;
  caps = λ n. refl;
  params = λ n m. refl;
  place = inr (sent, refl, (block, here), refl);
  finished = inl refl;
}
goes_kept c Eop None block sent here = record {
  document = refl;
  wish = refl;
  caps = λ n. refl;
  params = λ n m. refl;
  place = inr (sent, refl, (block, here), refl);
  finished = inl refl;
}

next_kept : (c : Caller) (ends : PageEnd) (next : Option Block) (block : Block) → HasSent c → slice_get (blocks_of c) c.place ≡ Some block →
    Kept c (hears mcf) (goes_on_or_waits (record c { place = suc c.place }) ends next)
next_kept c Null next block sent here = goes_kept c Null next block sent here
next_kept c Mps next block sent here = goes_kept c Mps next block sent here
next_kept c Eop next block sent here = goes_kept c Eop next block sent here
next_kept c Eom next block sent here = record {
  document = refl;
  wish = refl;
  caps = λ n. refl;
  params = λ n m. refl;
  place = inr (sent, refl, (block, here), refl);
  finished = inr (sent, refl, refl, refl, refl);
}

mcf_kept : (c : Caller) (block : Option Block) → HasSent c → slice_get (blocks_of c) c.place ≡ block →
    Kept c (hears mcf) (answers_mcf c block)
mcf_kept c None sent here = all_kept c (hears mcf) _ refl refl refl refl refl refl
mcf_kept c (Some block) sent here = next_kept c block.ends _ block sent here

ppr_kept : (c : Caller) (map : List ℕ) → Kept c (hears (ppr map)) (answers_ppr c map)
ppr_kept c map =
    either (Kept c (hears (ppr map))) (nat_lt c.pprs 3) _ _ (λ e. all_kept c (hears (ppr map)) _ refl refl refl refl refl refl)
    (λ e. all_kept c (hears (ppr map)) _ refl refl refl refl refl refl)

tries_kept : (c : Caller) (input : CallerInput) (turn : Turn) → Kept c input (tries_again c turn)
tries_kept c input turn =
    either (Kept c input) (nat_lt c.try 3) _ _ (λ e. all_kept c input _ refl refl refl refl refl refl)
    (λ e. all_kept c input _ refl refl refl refl refl refl)

table_kept : (state : CallerState) (input : CallerInput) (c : Caller) → c.state ≡ state → Kept c input (caller_table state input c)
table_kept WaitDis (hears (dis caps)) c is = dis_kept c caps _ is
table_kept WaitDis timeout c is = all_kept c timeout _ refl refl refl refl refl refl
table_kept WaitCfr (hears cfr) c is = cfr_kept c _
table_kept WaitCfr (hears ftt) c is = ftt_kept c _ is
table_kept WaitCfr (hears (dis caps)) c is = tries_kept c _ SendTraining
table_kept WaitCfr timeout c is = tries_kept c _ SendTraining
table_kept WaitBlock (hears mcf) c is = mcf_kept c _ (inl is) refl
table_kept WaitBlock (hears (ppr map)) c is = ppr_kept c map
table_kept WaitBlock (hears rnr) c is = all_kept c (hears rnr) _ refl refl refl refl refl refl
table_kept WaitBlock timeout c is = tries_kept c _ SendPps
table_kept WaitReady (hears mcf) c is = mcf_kept c _ (inr is) refl
table_kept WaitReady (hears (ppr map)) c is = ppr_kept c map
table_kept WaitReady (hears rnr) c is = all_kept c (hears rnr) _ refl refl refl refl refl refl
table_kept WaitReady timeout c is = tries_kept c _ SendRr
table_kept WaitReady t5 c is = all_kept c t5 _ refl refl refl refl refl refl
table_kept _ (hears dcn) c is = all_kept c (hears dcn) _ refl refl refl refl refl refl
table_kept _ input c is = all_kept c input _ refl refl refl refl refl refl

ended_kept : (c : Caller) (input : CallerInput) (ending : Option End) → Kept c input (unless_caller_ended ending input c)
ended_kept c input (Some why) = all_kept c input c refl refl refl refl refl refl
ended_kept c input None = table_kept c.state input c refl

pub callers_keep : CallersKeep
callers_keep c input = ended_kept c input c.ending

goes_placed : (c : Caller) (ends : PageEnd) (next : Option Block) → (goes_on_or_waits c ends next).next.place ≡ c.place
goes_placed c Eom next = refl
goes_placed c Null (Some next) = refl
goes_placed c Mps (Some next) = refl
goes_placed c Eop (Some next) = refl
goes_placed c Null None = refl
goes_placed c Mps None = refl
goes_placed c Eop None = refl

pub callers_take : CallersTake
callers_take c input runs = record {
  agreed = λ caps params is heard agreed.
      subst (λ (a : CallerAnswer). (a.next.caps ≡ caps) × (a.next.params ≡ params) × (a.next.present ≡ params ∷ []))
      (sym (table_step c WaitDis input (hears (dis caps)) runs is heard ∙ ap (answers_dis c caps) agreed)) (refl, refl, refl);
  lower = λ params failed lower.
      subst (λ (a : CallerAnswer). (a.next.params ≡ params) × (a.next.present ≡ params ∷ []))
      (sym (table_step c WaitCfr input (hears ftt) runs failed.0 failed.1 ∙ ap (answers_ftt c) lower)) (refl, refl);
  confirmed = λ block sent heard here.
      let placed : (answers_mcf c (slice_get (blocks_of c) c.place)).next.place ≡ suc c.place =
      ap (λ b. (answers_mcf c b).next.place) here ∙ goes_placed (record c { place = suc c.place }) block.ends _ in
      elim sent [
        | inl is ↦ ap (λ (a : CallerAnswer). a.next.place) (table_step c WaitBlock input (hears mcf) runs is heard) ∙ placed
        | inr is ↦ ap (λ (a : CallerAnswer). a.next.place) (table_step c WaitReady input (hears mcf) runs is heard) ∙ placed
      ];
}

pub keeps_by :
    {E : Type 0} → CallersKeep → CallersTake → (old new : CallerFields) (input : CallerInput) (result : Result Turn E) →
    AnswersOrRefuses old new result (λ t. caller_step t input) → KeepsOrRefuses old input new result
keeps_by keep take old new input (Ok turn) h = λ t s. ((caller_step t input).next, (h t s).0, keep t input, λ runs. take t input runs)
keeps_by keep take old new input (Err refused) h = h
