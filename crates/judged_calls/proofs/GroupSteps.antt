-- What a caller's step does to its groups, and which turns say a block.
use Rattle.std.proofs.Common.{◌≡◌, ℕ, suc, List, refl, sym, subst, ◌⊎◌, inl, inr}
use Rattle.std.specs.Prelude.{Option, Some, None, nat_lt, slice_get}
use Rattle.signals.specs.Signals.{dis, cfr, ftt, ppr, mcf, rnr}
use Rattle.signals.specs.declared.params.Caps.{Caps}
use Rattle.signals.specs.declared.params.Params.{Params}
use Rattle.signals.specs.declared.signal.PageEnd.{PageEnd}
use Rattle.signals.specs.declared.signal.PageEnd.TheVariants.{Null, Mps, Eom, Eop}
use Rattle.stations.specs.Blocks.{Block}
use Rattle.stations.specs.CallerFields.{IsSending}
use Rattle.stations.specs.CallerStep.{Caller, CallerAnswer, caller_step, caller_table, unless_caller_ended, blocks_of, tries_again, answers_dis, answers_ftt}
use Rattle.stations.specs.CallerStep.{answers_ppr, answers_mcf, goes_on, goes_on_or_waits}
use Rattle.stations.specs.Inputs.{CallerInput, timeout, hears}
use Rattle.stations.specs.declared.turn.CallerState.{CallerState}
use Rattle.stations.specs.declared.turn.CallerState.TheVariants.{WaitDis, WaitCfr, WaitBlock, WaitReady}
use Rattle.stations.specs.declared.turn.End.{End}
use Rattle.stations.specs.declared.turn.Turn.{Turn}
use Rattle.stations.specs.declared.turn.Turn.TheVariants as turn
use Rattle.line_sim.proofs.Lists.{either}
use Rattle.line_sim.specs.LineFacts.{finished_of}
use Rattle.judged_calls.proofs.BlockSteps.{IsOpening}

-- a caller waits for a DIS or for CFR
abbrev pub IsWaiting : CallerState → Type 0
IsWaiting WaitDis = Unit {0}
IsWaiting WaitCfr = Unit {0}
IsWaiting WaitBlock = ⊥
IsWaiting WaitReady = ⊥

-- it waited before, after the same groups; or a group is through, by the block at its place
abbrev pub Waits : Caller → CallerAnswer → Type 0
Waits c answer =
    (IsWaiting c.state × (finished_of answer.next ≡ finished_of c) × (answer.next.place ≡ c.place)) ⊎
    (IsSending c.state × (finished_of answer.next ≡ blocks_of c) × (answer.next.place ≡ suc c.place) ×
    ((m : Block) × (slice_get (blocks_of c) c.place ≡ Some m)))

-- a block begins: the first one of a group, or the next one
abbrev pub Begins : Caller → CallerAnswer → Type 0
Begins c answer =
    ((c.state ≡ WaitCfr) × (blocks_of answer.next ≡ blocks_of c) × (answer.next.place ≡ c.place)) ⊎
    (IsSending c.state × (blocks_of answer.next ≡ blocks_of c) × (answer.next.place ≡ suc c.place) ×
    ((m : Block) × (slice_get (blocks_of c) c.place ≡ Some m)))

-- both, of a step
abbrev pub Groups : Caller → CallerInput → CallerAnswer → Type 0
Groups c input answer =
    (IsWaiting answer.next.state → Waits c answer) × (IsOpening input → (marks : List ℕ) → answer.turn ≡ turn.Burst marks → Begins c answer)

module _ (c : Caller) where
  again_groups : (input : CallerInput) (t : Turn) → ((marks : List ℕ) → t ≡ turn.Burst marks → ⊥) → Groups c input (tries_again c t)
  again_groups input t none =
      either (Groups c input) (nat_lt c.try 3) _ _ (λ k. (λ w. inl (w, refl, refl), λ o marks e. absurd (none marks e)))
      (λ k. (λ w. inl (w, refl, refl), λ o marks e. absurd (cc)))

  dis_groups : (input : CallerInput) (caps : Caps) (agreed : Option Params) → c.state ≡ WaitDis → Groups c input (answers_dis c caps agreed)
  dis_groups input caps None is = (λ w. inl (w, refl, refl), λ o marks e. absurd (cc))
  dis_groups input caps (Some params) is = (λ w. inl (subst IsWaiting (sym is) tt, refl, refl), λ o marks e. absurd (cc))

  ftt_groups : (input : CallerInput) (lower : Option Params) → Groups c input (answers_ftt c lower)
  ftt_groups input None = (λ w. inl (w, refl, refl), λ o marks e. absurd (cc))
  ftt_groups input (Some params) = (λ w. inl (w, refl, refl), λ o marks e. absurd (cc))

  cfr_groups : (next : Option Block) → c.state ≡ WaitCfr → Groups c (hears cfr) (goes_on c Mps next)
  cfr_groups None is = (λ w. inl (w, refl, refl), λ o marks e. absurd (cc))
  cfr_groups (Some next) is = (λ w. absurd w, λ o marks e. inl (is, refl, refl))

  mcf_groups : (block : Option Block) → slice_get (blocks_of c) c.place ≡ block → IsSending c.state → Groups c (hears mcf) (answers_mcf c block)
  mcf_groups None there sending = (λ w. inl (w, refl, refl), λ o marks e. absurd (cc))
  mcf_groups (Some m) there sending = at m.ends (slice_get (blocks_of c) (suc c.place))
    where
      none_waits : (state : CallerState) → IsSending state → IsWaiting state → ⊥
      none_waits WaitDis s w = s
      none_waits WaitCfr s w = s
      none_waits WaitBlock s w = w
      none_waits WaitReady s w = w

      at : (ends : PageEnd) (next : Option Block) → Groups c (hears mcf) (goes_on_or_waits (record c { place = suc c.place }) ends next)
      at Eom next = (λ w. inr (sending, refl, refl, (m, there)), λ o marks e. absurd (cc))
      at Null (Some next) = (λ w. absurd w, λ o marks e. inr (sending, refl, refl, (m, there)))
      at Mps (Some next) = (λ w. absurd w, λ o marks e. inr (sending, refl, refl, (m, there)))
      at Eop (Some next) = (λ w. absurd w, λ o marks e. inr (sending, refl, refl, (m, there)))
      at Null None = (λ w. absurd (none_waits c.state sending w), λ o marks e. absurd (cc))
      at Mps None = (λ w. absurd (none_waits c.state sending w), λ o marks e. absurd (cc))
      at Eop None = (λ w. absurd (none_waits c.state sending w), λ o marks e. absurd (cc))

  ppr_groups : (marks : List ℕ) → Groups c (hears (ppr marks)) (answers_ppr c marks)
  ppr_groups marks =
      either (Groups c (hears (ppr marks))) (nat_lt c.pprs 3) _ _ (λ k. (λ w. absurd w, λ o others e. absurd o))
      (λ k. (λ w. inl (w, refl, refl), λ o others e. absurd o))

  table_groups : (state : CallerState) (input : CallerInput) → c.state ≡ state → Groups c input (caller_table state input c)
  table_groups WaitDis (hears (dis caps)) is = dis_groups (hears (dis caps)) caps _ is
  table_groups WaitCfr (hears cfr) is = cfr_groups _ is
  table_groups WaitCfr (hears ftt) is = ftt_groups (hears ftt) _
  table_groups WaitCfr (hears (dis caps)) is = again_groups (hears (dis caps)) turn.Training (λ marks e. cc)
  table_groups WaitCfr timeout is = again_groups timeout turn.Training (λ marks e. cc)
  table_groups WaitBlock (hears mcf) is = mcf_groups _ refl (subst IsSending (sym is) tt)
  table_groups WaitBlock (hears (ppr marks)) is = ppr_groups marks
  table_groups WaitBlock (hears rnr) is = (λ w. absurd w, λ o marks e. absurd o)
  table_groups WaitBlock timeout is = again_groups timeout turn.Pps (λ marks e. cc)
  table_groups WaitReady (hears mcf) is = mcf_groups _ refl (subst IsSending (sym is) tt)
  table_groups WaitReady (hears (ppr marks)) is = ppr_groups marks
  table_groups WaitReady (hears rnr) is = (λ w. absurd w, λ o marks e. absurd o)
  table_groups WaitReady timeout is = again_groups timeout turn.Rr (λ marks e. cc)
  table_groups WaitDis input is = (λ w. inl (w, refl, refl), λ o marks e. absurd (cc))
  table_groups WaitCfr input is = (λ w. inl (w, refl, refl), λ o marks e. absurd (cc))
  table_groups WaitBlock input is = (λ w. inl (w, refl, refl), λ o marks e. absurd (cc))
  table_groups WaitReady input is = (λ w. inl (w, refl, refl), λ o marks e. absurd (cc))

pub step_groups : (c : Caller) (input : CallerInput) → Groups c input (caller_step c input)
step_groups c input = at c.ending
  where
    at : (ending : Option End) → Groups c input (unless_caller_ended ending input c)
    at (Some why) = (λ w. inl (w, refl, refl), λ o marks e. absurd (cc))
    at None = table_groups c c.state input refl

-- a PPS, alone or after a burst, is said by a caller that sends
abbrev pub BlockTurn : Turn → Type 0
BlockTurn (turn.Burst marks) = Unit {0}
BlockTurn turn.Pps = Unit {0}
BlockTurn _ = ⊥

abbrev pub SendsBlock : CallerAnswer → Type 0
SendsBlock answer = BlockTurn answer.turn → IsSending answer.next.state

again_sends : (c : Caller) (t : Turn) → (BlockTurn t → IsSending c.state) → SendsBlock (tries_again c t)
again_sends c t sends = either SendsBlock (nat_lt c.try 3) _ _ (λ k. sends) (λ k b. absurd b)

dis_sends : (c : Caller) (caps : Caps) (agreed : Option Params) → SendsBlock (answers_dis c caps agreed)
dis_sends c caps None b = absurd b
dis_sends c caps (Some params) b = absurd b

ftt_sends : (c : Caller) (lower : Option Params) → SendsBlock (answers_ftt c lower)
ftt_sends c None b = absurd b
ftt_sends c (Some params) b = absurd b

goes_on_sends : (c : Caller) (ends : PageEnd) (next : Option Block) → SendsBlock (goes_on c ends next)
goes_on_sends c ends (Some next) b = tt
goes_on_sends c Eop None b = absurd b
goes_on_sends c Null None b = absurd b
goes_on_sends c Mps None b = absurd b
goes_on_sends c Eom None b = absurd b

mcf_sends : (c : Caller) (block : Option Block) → SendsBlock (answers_mcf c block)
mcf_sends c None b = absurd b
mcf_sends c (Some m) b = at m.ends b
  where
    next : Option Block
    next = slice_get (blocks_of c) (suc c.place)

    at : (ends : PageEnd) → SendsBlock (goes_on_or_waits (record c { place = suc c.place }) ends next)
    at Eom b = absurd b
    at Null b = goes_on_sends (record c { place = suc c.place }) Null next b
    at Mps b = goes_on_sends (record c { place = suc c.place }) Mps next b
    at Eop b = goes_on_sends (record c { place = suc c.place }) Eop next b

ppr_sends : (c : Caller) (marks : List ℕ) → SendsBlock (answers_ppr c marks)
ppr_sends c marks = either SendsBlock (nat_lt c.pprs 3) _ _ (λ k b. tt) (λ k b. absurd b)

table_sends : (state : CallerState) (input : CallerInput) (c : Caller) → c.state ≡ state → SendsBlock (caller_table state input c)
table_sends WaitDis (hears (dis caps)) c is = dis_sends c caps _
table_sends WaitCfr (hears cfr) c is = goes_on_sends c Mps _
table_sends WaitCfr (hears ftt) c is = ftt_sends c _
table_sends WaitCfr (hears (dis caps)) c is = again_sends c turn.Training (λ b. absurd b)
table_sends WaitCfr timeout c is = again_sends c turn.Training (λ b. absurd b)
table_sends WaitBlock (hears mcf) c is = mcf_sends c _
table_sends WaitBlock (hears (ppr marks)) c is = ppr_sends c marks
table_sends WaitBlock timeout c is = again_sends c turn.Pps (λ b. subst IsSending (sym is) tt)
table_sends WaitReady (hears mcf) c is = mcf_sends c _
table_sends WaitReady (hears (ppr marks)) c is = ppr_sends c marks
table_sends WaitReady timeout c is = again_sends c turn.Rr (λ b. absurd b)
table_sends WaitDis input c is = λ b. absurd b
table_sends WaitCfr input c is = λ b. absurd b
table_sends WaitBlock input c is = λ b. absurd b
table_sends WaitReady input c is = λ b. absurd b

pub sends_block : (c : Caller) (input : CallerInput) → SendsBlock (caller_step c input)
sends_block c input = at c.ending
  where
    at : (ending : Option End) → SendsBlock (unless_caller_ended ending input c)
    at (Some why) = λ b. absurd b
    at None = table_sends c.state input c refl
