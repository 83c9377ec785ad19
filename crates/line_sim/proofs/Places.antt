-- How many RNRs count for a caller's block after an event: its place is the next one after an MCF for a block, and stays else.
use Rattle.std.proofs.Common.{◌≡◌, ◌≢◌, ◌⊎◌, inl, inr, ℕ, suc, Bool, true, false, cond, Option, Some, None, List, ◌∷◌, refl, ap, sym}
use Rattle.std.proofs.Common.{◌∙◌, arith}
use Rattle.std.specs.Prelude.{is_some, slice_get}
use Rattle.std.proofs.lemmas.Bool.{ne_eqb}
use Rattle.signals.specs.Signals.{PlainSignal, dis, dcs, cfr, ftt, fcd, rcp, pps, ppr, mcf, rnr, rr, dcn, other}
use Rattle.stations.specs.Blocks.{Block}
use Rattle.stations.specs.CallerStep.{Caller, blocks_of, caller_step, present_block, present_in, unless_caller_ended}
use Rattle.stations.specs.EndsMean.{HasSent}
use Rattle.stations.specs.Inputs.{CallerInput, hears, timeout, t5, PlainItem, framed, checked}
use Rattle.stations.specs.declared.turn.CallerState.{CallerState}
use Rattle.stations.specs.declared.turn.CallerState.TheVariants.{WaitDis, WaitCfr, WaitBlock, WaitReady}
use Rattle.stations.specs.declared.turn.End.{End}
use Rattle.stations.proofs.Keeping.{callers_keep, callers_take}
use Rattle.line_sim.specs.Driving.{Fate, kept, meets_answerer, rnrs_with}
use Rattle.line_sim.specs.Driving.Fate.{comes, lost, spoiled}
use Rattle.line_sim.specs.Entries.{kind_of, signal_kind}
use Rattle.line_sim.specs.EventsMean.{IsForCaller}
use Rattle.line_sim.specs.Fates.{is_sending, rnrs_heard}
use Rattle.line_sim.specs.Line.{World, delivers_to_caller, happens}
use Rattle.line_sim.specs.Line.Outcome.{Done}
use Rattle.line_sim.specs.declared.event.Event.{Event}
use Rattle.line_sim.specs.declared.event.Event.TheVariants.{AnswererT1, AnswererT2, CallerT5, CallerTimeout, DeliverToAnswerer}
use Rattle.line_sim.specs.declared.event.Event.TheVariants.{DeliverToCaller, Spoil}
use Rattle.line_sim.specs.declared.event.Kind.TheVariants.{Mcf}
use Rattle.line_sim.proofs.CallerDrives.{kept_same}
use Rattle.line_sim.proofs.EventsMean.{events_make, events_touch}

-- a count is kept at the same place, and begins again at the next one
pub kept_at : (old new count : ℕ) → new ≡ old → kept old new count ≡ count
kept_at old new count same = ap (λ n. kept old n count) same ∙ kept_same old count

kept_none : (old new count : ℕ) → new ≡ suc old → kept old new count ≡ 0
kept_none old new count next =
    ap (λ n. kept old n count) next ∙ ap (λ b. cond b count 0) (ne_eqb old (suc old) (λ e. (let no = e in omega arith)))

-- an event that the caller doesn't hear of
pub unheard_place : (w : World) (event : Event) → (IsForCaller event → ⊥) → (happens w event Done).caller.place ≡ w.caller.place
unheard_place w event deaf = ap (λ (c : Caller). c.place) ((events_touch w event Done).caller deaf)

-- no input but an MCF
input_place : (c : Caller) (input : CallerInput) → input ≢ hears mcf → (caller_step c input).next.place ≡ c.place
input_place c input differs = at (callers_keep c input).place
  where
    at :
        ((caller_step c input).next.place ≡ c.place) ⊎
        (HasSent c × (input ≡ hears mcf) × ((block : Block) × (slice_get (blocks_of c) c.place ≡ Some block)) ×
        ((caller_step c input).next.place ≡ suc c.place)) →
        (caller_step c input).next.place ≡ c.place
    at (inl same) = same
    at (inr moved) = absurd (differs moved.1)

pub timeout_place : (w : World) → (happens w CallerTimeout Done).caller.place ≡ w.caller.place
timeout_place w =
    ap (λ (c : Caller). c.place) ((events_make w CallerTimeout).timeout refl) ∙ input_place w.caller timeout (λ e. cc)

pub t5_place : (w : World) → (happens w CallerT5 Done).caller.place ≡ w.caller.place
t5_place w = ap (λ (c : Caller). c.place) ((events_make w CallerT5).t5 refl) ∙ input_place w.caller t5 (λ e. cc)

pub t1_place : (w : World) → (happens w AnswererT1 Done).caller.place ≡ w.caller.place
t1_place w = unheard_place w AnswererT1 no
  where
    no : IsForCaller AnswererT1 → ⊥
    no (inl e) = cc
    no (inr (inl e)) = cc
    no (inr (inr e)) = cc

pub t2_place : (w : World) → (happens w AnswererT2 Done).caller.place ≡ w.caller.place
t2_place w = unheard_place w AnswererT2 no
  where
    no : IsForCaller AnswererT2 → ⊥
    no (inl e) = cc
    no (inr (inl e)) = cc
    no (inr (inr e)) = cc

there_place : (w : World) → (happens w DeliverToAnswerer Done).caller.place ≡ w.caller.place
there_place w = unheard_place w DeliverToAnswerer no
  where
    no : IsForCaller DeliverToAnswerer → ⊥
    no (inl e) = cc
    no (inr (inl e)) = cc
    no (inr (inr e)) = cc

-- what is under way to the answerer counts for nothing
pub met_rnrs : (fate : Fate) (item : PlainItem) (w : World) (rnrs : ℕ) →
    kept w.caller.place (meets_answerer fate item w).caller.place rnrs ≡ rnrs
met_rnrs comes item w rnrs = kept_at w.caller.place (happens w DeliverToAnswerer Done).caller.place rnrs (there_place w)
met_rnrs lost item w rnrs = kept_same w.caller.place rnrs
met_rnrs spoiled (framed signal) w rnrs = kept_same w.caller.place rnrs
met_rnrs spoiled (checked octets) w rnrs =
    kept_at w.caller.place (happens (happens w Spoil Done) DeliverToAnswerer Done).caller.place rnrs (there_place (happens w Spoil Done))

-- a caller that is sending a block runs, and has it at its place
present_is : (state : CallerState) (ending : Option End) (here : Option Block) (block : Block) → present_in state ending here ≡ Some block →
    ((state ≡ WaitBlock) ⊎ (state ≡ WaitReady)) × (ending ≡ None) × (here ≡ Some block)
present_is WaitBlock None here block is = (inl refl, refl, is)
present_is WaitReady None here block is = (inr refl, refl, is)
present_is WaitBlock (Some why) here block is = absurd (cc is)
present_is WaitReady (Some why) here block is = absurd (cc is)
present_is WaitDis ending here block is = absurd (cc is)
present_is WaitCfr ending here block is = absurd (cc is)

-- one that runs and has sent the block at its place is sending it
sent_present : (state : CallerState) (ending : Option End) (here : Option Block) (block : Block) →
    (state ≡ WaitBlock) ⊎ (state ≡ WaitReady) → ending ≡ None → here ≡ Some block → present_in state ending here ≡ Some block
sent_present state ending here block (inl e) runs is =
    ap (λ s. present_in s ending here) e ∙ (ap (λ o. present_in WaitBlock o here) runs ∙ is)
sent_present state ending here block (inr e) runs is =
    ap (λ s. present_in s ending here) e ∙ (ap (λ o. present_in WaitReady o here) runs ∙ is)

is_there : {A : Type 0} (o : Option A) → is_some o ≡ true → (x : A) × (o ≡ Some x)
is_there None e = absurd (cc e)
is_there (Some x) e = (x, refl)

ended_place : (c : Caller) (why : End) (input : CallerInput) → c.ending ≡ Some why → (caller_step c input).next.place ≡ c.place
ended_place c why input ended = ap (λ e. (unless_caller_ended e input c).next.place) ended

-- an MCF to a caller that is sending no block
idle_place : (c : Caller) → is_sending c ≡ false → (caller_step c (hears mcf)).next.place ≡ c.place
idle_place c idle = at (callers_keep c (hears mcf)).place c.ending refl
  where
    at :
        ((caller_step c (hears mcf)).next.place ≡ c.place) ⊎
        (HasSent c × (hears mcf ≡ hears mcf) × ((block : Block) × (slice_get (blocks_of c) c.place ≡ Some block)) ×
        ((caller_step c (hears mcf)).next.place ≡ suc c.place)) → (ending : Option End) → c.ending ≡ ending →
        (caller_step c (hears mcf)).next.place ≡ c.place
    at (inl same) ending is = same
    at (inr moved) (Some why) is = ended_place c why (hears mcf) is
    at (inr moved) None is =
        absurd (let there : present_block c ≡ Some moved.2.0 =
        sent_present c.state c.ending (slice_get (blocks_of c) c.place) moved.2.0 moved.0 is moved.2.1 in
        let no : true ≡ false = sym (ap is_some there) ∙ idle in cc)

mcf_rnrs : (c : Caller) (rnrs : ℕ) (sending : Bool) → is_sending c ≡ sending →
    kept c.place (caller_step c (hears mcf)).next.place rnrs ≡ rnrs_heard (Some Mcf) sending rnrs
mcf_rnrs c rnrs false is = kept_at c.place (caller_step c (hears mcf)).next.place rnrs (idle_place c is)
mcf_rnrs c rnrs true is =
    let there = is_there (present_block c) is in
    let has = present_is c.state c.ending (slice_get (blocks_of c) c.place) there.0 there.1 in
    kept_none c.place (caller_step c (hears mcf)).next.place rnrs
    ((callers_take c (hears mcf) has.1).confirmed there.0 has.0 refl has.2)

signal_rnrs : (c : Caller) (signal : PlainSignal) (rnrs : ℕ) →
    kept c.place (caller_step c (hears signal)).next.place (rnrs_with comes (framed signal) rnrs) ≡
    rnrs_heard (signal_kind signal) (is_sending c) rnrs
signal_rnrs c mcf rnrs = mcf_rnrs c rnrs (is_sending c) refl
signal_rnrs c rnr rnrs =
    kept_at c.place (caller_step c (hears rnr)).next.place (suc rnrs) (input_place c (hears rnr) (λ e. cc))
signal_rnrs c (dis caps) rnrs = kept_at c.place _ rnrs (input_place c (hears (dis caps)) (λ e. cc))
signal_rnrs c (dcs params) rnrs = kept_at c.place _ rnrs (input_place c (hears (dcs params)) (λ e. cc))
signal_rnrs c cfr rnrs = kept_at c.place _ rnrs (input_place c (hears cfr) (λ e. cc))
signal_rnrs c ftt rnrs = kept_at c.place _ rnrs (input_place c (hears ftt) (λ e. cc))
signal_rnrs c (fcd number octets) rnrs = kept_at c.place _ rnrs (input_place c (hears (fcd number octets)) (λ e. cc))
signal_rnrs c rcp rnrs = kept_at c.place _ rnrs (input_place c (hears rcp) (λ e. cc))
signal_rnrs c (pps ends page block last) rnrs = kept_at c.place _ rnrs (input_place c (hears (pps ends page block last)) (λ e. cc))
signal_rnrs c (ppr map) rnrs = kept_at c.place _ rnrs (input_place c (hears (ppr map)) (λ e. cc))
signal_rnrs c rr rnrs = kept_at c.place _ rnrs (input_place c (hears rr) (λ e. cc))
signal_rnrs c dcn rnrs = kept_at c.place _ rnrs (input_place c (hears dcn) (λ e. cc))
signal_rnrs c (other octet) rnrs = kept_at c.place _ rnrs (input_place c (hears (other octet)) (λ e. cc))

-- an item comes to the caller
pub back_rnrs : (w : World) (item : PlainItem) (items : List PlainItem) (rnrs : ℕ) → w.to_caller ≡ item ∷ items →
    kept w.caller.place (happens w DeliverToCaller Done).caller.place (rnrs_with comes item rnrs) ≡
    rnrs_heard (kind_of item) (is_sending w.caller) rnrs
back_rnrs w (framed signal) items rnrs is =
    ap (λ (c : Caller). kept w.caller.place c.place (rnrs_with comes (framed signal) rnrs))
    ((events_make w DeliverToCaller).hears signal items refl is) ∙ signal_rnrs w.caller signal rnrs
back_rnrs w (checked octets) items rnrs is =
    kept_at w.caller.place (happens w DeliverToCaller Done).caller.place rnrs
    (ap (λ list. (delivers_to_caller w Done list).caller.place) is)
