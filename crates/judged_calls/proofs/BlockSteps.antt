-- What a caller's step does to the block that it sends.
use Rattle.std.proofs.Common.{◌≡◌, List, refl, sym, subst, ◌⊎◌, inl, inr}
use Rattle.std.specs.Prelude.{ℕ, suc, Option, Some, None, nat_lt, slice_get}
use Rattle.signals.specs.Signals.{dis, cfr, ftt, ppr, mcf, rnr}
use Rattle.signals.specs.declared.params.Caps.{Caps}
use Rattle.signals.specs.declared.params.Params.{Params}
use Rattle.signals.specs.declared.signal.PageEnd.{PageEnd}
use Rattle.signals.specs.declared.signal.PageEnd.TheVariants.{Null, Mps, Eom, Eop}
use Rattle.stations.specs.Blocks.{Block}
use Rattle.stations.specs.CallerFields.{IsSending}
use Rattle.stations.specs.CallerStep.{Caller, CallerAnswer, caller_step, caller_table, unless_caller_ended, all_frames, present_block, present_in}
use Rattle.stations.specs.CallerStep.{blocks_of, tries_again, answers_dis, answers_ftt, answers_ppr, answers_mcf, goes_on, goes_on_or_waits}
use Rattle.stations.specs.Inputs.{CallerInput, timeout, hears}
use Rattle.stations.specs.declared.turn.CallerState.{CallerState}
use Rattle.stations.specs.declared.turn.CallerState.TheVariants.{WaitDis, WaitCfr, WaitBlock, WaitReady}
use Rattle.stations.specs.declared.turn.End.{End}
use Rattle.stations.specs.declared.turn.Turn.{Turn}
use Rattle.stations.specs.declared.turn.Turn.TheVariants as turn
use Rattle.line_sim.proofs.Lists.{either}

-- the caller sends the same block as before
abbrev pub SameBlock : Caller → CallerAnswer → Type 0
SameBlock c answer = IsSending c.state × (answer.next.place ≡ c.place) × (blocks_of answer.next ≡ blocks_of c)

-- what a burst or a PPS says is the block at the caller's place
abbrev pub Present : CallerAnswer → Type 0
Present answer = present_block answer.next ≡ slice_get (blocks_of answer.next) answer.next.place

-- after CFR and MCF a block begins
abbrev pub IsOpening : CallerInput → Type 0
IsOpening (hears cfr) = Unit {0}
IsOpening (hears mcf) = Unit {0}
IsOpening _ = ⊥

-- the block at the caller's place
abbrev pub block_at : Caller → Option Block
block_at c = slice_get (blocks_of c) c.place

-- a turn without a burst
abbrev pub NoBurst : Turn → Type 0
NoBurst (turn.Burst marks) = ⊥
NoBurst _ = Unit {0}

abbrev pub NoBlockTurn : Turn → Type 0
NoBlockTurn (turn.Burst marks) = ⊥
NoBlockTurn turn.Pps = ⊥
NoBlockTurn _ = Unit {0}

-- Nothing of a block is said, and a caller that sends sends the same block, or there is none at its place; or the PPS of the same block is
-- said again; or frames of it; or the whole next block.
abbrev pub Steps : Caller → CallerInput → CallerAnswer → Type 0
Steps c input answer =
    (NoBlockTurn answer.turn ×
    (IsSending answer.next.state → (slice_get (blocks_of answer.next) answer.next.place ≡ None) ⊎ SameBlock c answer)) ⊎
    ((answer.turn ≡ turn.Pps) × SameBlock c answer × Present answer) ⊎
    (SameBlock c answer × ((marks : List ℕ) × (answer.turn ≡ turn.Burst marks)) × Present answer) ⊎
    ((answer.turn ≡ turn.Burst all_frames) × IsOpening input × Present answer)

present_at : (state : CallerState) (ending : Option End) (block : Option Block) → IsSending state → ending ≡ None →
    present_in state ending block ≡ block
present_at WaitBlock None block s e = refl
present_at WaitReady None block s e = refl
present_at WaitBlock (Some why) block s e = absurd (cc)
present_at WaitReady (Some why) block s e = absurd (cc)
present_at WaitDis ending block s e = absurd s
present_at WaitCfr ending block s e = absurd s

module _ (c : Caller) (going : c.ending ≡ None) where
  again_quiet : (input : CallerInput) (t : Turn) → NoBlockTurn t → Steps c input (tries_again c t)
  again_quiet input t none =
      either (Steps c input) (nat_lt c.try 3) _ _ (λ k. inl (none, λ s. inr (s, refl, refl))) (λ k. inl (tt, λ s. inr (s, refl, refl)))

  again_pps : (input : CallerInput) → IsSending c.state → Steps c input (tries_again c turn.Pps)
  again_pps input sending =
      either (Steps c input) (nat_lt c.try 3) _ _
      (λ k. inr (inl (refl, (sending, refl, refl), present_at c.state c.ending (slice_get (blocks_of c) c.place) sending going)))
      (λ k. inl (tt, λ s. inr (s, refl, refl)))

  dis_steps : (input : CallerInput) (caps : Caps) (agreed : Option Params) → Steps c input (answers_dis c caps agreed)
  dis_steps input caps None = inl (tt, λ s. inr (s, refl, refl))
  dis_steps input caps (Some params) = inl (tt, λ s. absurd s)

  ftt_steps : (input : CallerInput) (lower : Option Params) → c.state ≡ WaitCfr → Steps c input (answers_ftt c lower)
  ftt_steps input None e = inl (tt, λ s. inr (s, refl, refl))
  ftt_steps input (Some params) e = inl (tt, λ s. absurd (subst IsSending e s))

  cfr_steps : (next : Option Block) → Steps c (hears cfr) (goes_on c Mps next)
  cfr_steps None = inl (tt, λ s. inr (s, refl, refl))
  cfr_steps (Some next) = inr (inr (inr (refl, tt, present_at WaitBlock c.ending (slice_get (blocks_of c) c.place) tt going)))

  mcf_steps : (block : Option Block) → Steps c (hears mcf) (answers_mcf c block)
  mcf_steps None = inl (tt, λ s. inr (s, refl, refl))
  mcf_steps (Some block) = at block.ends (slice_get (blocks_of c) (suc c.place)) refl
    where
      on : Steps c (hears mcf) (record { next = record c { place = suc c.place; state = WaitBlock; try = 1; pprs = 0 }; turn = turn.Burst all_frames })
      on = inr (inr (inr (refl, tt, present_at WaitBlock c.ending (slice_get (blocks_of c) (suc c.place)) tt going)))

      at : (ends : PageEnd) (next : Option Block) → slice_get (blocks_of c) (suc c.place) ≡ next →
          Steps c (hears mcf) (goes_on_or_waits (record c { place = suc c.place }) ends next)
      at Eom next is = inl (tt, λ s. absurd s)
      at Null (Some next) is = on
      at Mps (Some next) is = on
      at Eop (Some next) is = on
      at Null None is = inl (tt, λ s. inl is)
      at Mps None is = inl (tt, λ s. inl is)
      at Eop None is = inl (tt, λ s. inl is)

  ppr_steps : (marks : List ℕ) → IsSending c.state → Steps c (hears (ppr marks)) (answers_ppr c marks)
  ppr_steps marks sending =
      either (Steps c (hears (ppr marks))) (nat_lt c.pprs 3) _ _
      (λ k. inr (inr (inl ((sending, refl, refl), (marks, refl), present_at WaitBlock c.ending (slice_get (blocks_of c) c.place) tt going))))
      (λ k. inl (tt, λ s. inr (s, refl, refl)))

  rnr_steps : IsSending c.state → Steps c (hears rnr) (record { next = record c { state = WaitReady; try = 1 }; turn = turn.Rr })
  rnr_steps sending = inl (tt, λ s. inr (sending, refl, refl))

  table_steps : (state : CallerState) (input : CallerInput) → c.state ≡ state → Steps c input (caller_table state input c)
  table_steps WaitDis (hears (dis caps)) e = dis_steps (hears (dis caps)) caps _
  table_steps WaitCfr (hears cfr) e = cfr_steps _
  table_steps WaitCfr (hears ftt) e = ftt_steps (hears ftt) _ e
  table_steps WaitCfr (hears (dis caps)) e = again_quiet (hears (dis caps)) turn.Training tt
  table_steps WaitCfr timeout e = again_quiet timeout turn.Training tt
  table_steps WaitBlock (hears mcf) e = mcf_steps _
  table_steps WaitBlock (hears (ppr marks)) e = ppr_steps marks (subst IsSending (sym e) tt)
  table_steps WaitBlock (hears rnr) e = rnr_steps (subst IsSending (sym e) tt)
  table_steps WaitBlock timeout e = again_pps timeout (subst IsSending (sym e) tt)
  table_steps WaitReady (hears mcf) e = mcf_steps _
  table_steps WaitReady (hears (ppr marks)) e = ppr_steps marks (subst IsSending (sym e) tt)
  table_steps WaitReady (hears rnr) e = rnr_steps (subst IsSending (sym e) tt)
  table_steps WaitReady timeout e = again_quiet timeout turn.Rr tt
  table_steps WaitDis input e = inl (tt, λ s. inr (s, refl, refl))
  table_steps WaitCfr input e = inl (tt, λ s. inr (s, refl, refl))
  table_steps WaitBlock input e = inl (tt, λ s. inr (s, refl, refl))
  table_steps WaitReady input e = inl (tt, λ s. inr (s, refl, refl))

pub step_steps : (c : Caller) (input : CallerInput) → Steps c input (caller_step c input)
step_steps c input = at c.ending refl
  where
    at : (ending : Option End) → c.ending ≡ ending → Steps c input (unless_caller_ended ending input c)
    at (Some why) e = inl (tt, λ s. inr (s, refl, refl))
    at None e = table_steps c e c.state input refl
