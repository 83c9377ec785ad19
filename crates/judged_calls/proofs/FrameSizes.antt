-- A frame has 1 to 256 octets, or 64 if the last DCS says that frames are small: rule BadLength.
use Rattle.std.proofs.Common.{◌≡◌, ℕ, zero, suc, ◌≤◌, Bool, true, false, cond, List, [], ◌∷◌, ◌++◌, refl, sym, ap, subst, ◌∙◌, ◌⊎◌, inl, inr, length, rules}
use Rattle.std.specs.Prelude.{Option, Some, None, nat_eq, nat_le, nat_lt, slice_get, drop}
use Rattle.signals.specs.Signals.{PlainSignal, dis, dcs, cfr, ftt, fcd, rcp, pps, ppr, mcf, rnr, rr, dcn, other}
use Rattle.signals.specs.declared.params.Params.{Params}
use Rattle.signals.specs.declared.signal.Side.TheVariants.{Caller as CallerSide, Answerer as AnswererSide}
use Rattle.partial_page.specs.Assembling.{within_frame_size}
use Rattle.partial_page.specs.Frames.{frame_size}
use Rattle.partial_page.specs.Store.{bit_of}
use Rattle.stations.proofs.Progress.{block_fits}
use Rattle.stations.specs.Blocks.{Block}
use Rattle.stations.specs.CallerFields.{IsSending}
use Rattle.stations.specs.Inputs.{CallerInput, AnswererInput, PlainItem, framed, checked, timeout, t5, t1, t2, is_busy, hears, listens, trains}
use Rattle.stations.specs.Laws.{Each, IsSendableFrame}
use Rattle.stations.specs.Layers.{training}
use Rattle.stations.specs.CallerStep.{Caller, caller_step, caller_items, training_items, fcds}
use Rattle.stations.specs.CallerStep.{pps_of, burst_of, pps_items, present_block, present_in, blocks_of}
use Rattle.stations.specs.AnswererStep.{Answerer, answerer_step, answerer_items}
use Rattle.stations.specs.declared.turn.CallerState.{CallerState}
use Rattle.stations.specs.declared.turn.CallerState.TheVariants.{WaitDis, WaitCfr, WaitBlock, WaitReady}
use Rattle.stations.specs.declared.turn.End.{End}
use Rattle.stations.specs.declared.turn.Turn.{Turn}
use Rattle.stations.specs.declared.turn.Turn.TheVariants as turn
use Rattle.line_sim.specs.Headline.{LineHolds}
use Rattle.line_sim.specs.Line.{World, Outcome, Done, Nothing, InputLost, Cut, sent, new_world, caller_sends, answerer_sends}
use Rattle.line_sim.specs.Line.{caller_acts, answerer_acts, spoiled}
use Rattle.line_sim.specs.LineFacts.{LineFacts, IsOneGroup, Phase}
use Rattle.referee.specs.History.{PlainSaid, is_fcd}
use Rattle.referee.specs.Rules.{has_bad_length}
use Rattle.referee.specs.declared.rule.Rule.TheVariants.{BadLength}
use Rattle.judged_calls.proofs.Answered.{no_more}
use Rattle.judged_calls.proofs.PprsAsk.{PprFits, IsCheck, step_fits}
use Rattle.judged_calls.proofs.OwnSignals.{each_append, sent_each}
use Rattle.judged_calls.proofs.AfterDcn.{sent_none, caller_sends_are}
use Rattle.judged_calls.specs.SaidCalls.{and_said, caller_speaks, answerer_speaks, Keeps, RuleIsKeptOfPages}
use Rattle.judged_calls.proofs.Events.{ToCaller, KnownToCaller, KnownToAnswerer, caller_takes, answerer_takes, each_rest, PartsKeep, run_keeps, Any, all_any}
use Rattle.judged_calls.proofs.LastDcs.{SmallIs, SaysSmall, IsTimer, IsCfr, small_stays, small_later, burst_says, caller_says, step_ok}

-- ---- what holds of a world and what was said in it

-- the last DCS is that of the check under way
abbrev pub Checks : Caller → List PlainSaid → PlainItem → Type 0
Checks c before (checked octets) = SmallIs c.params.small before
Checks c before (framed signal) = Unit {0}

-- the last DCS is that which the CFR under way answers
abbrev pub Confirms : Caller → List PlainSaid → PlainItem → Type 0
Confirms c before (framed cfr) = SmallIs c.params.small before
Confirms c before _ = Unit {0}

pub record Sized (w : World) (before : List PlainSaid) : Type 0 where
  pub checks : Each (Checks w.caller before) w.to_answerer
  pub confirms : Each (Confirms w.caller before) w.to_caller
  pub sends : IsSending w.caller.state → SmallIs w.caller.params.small before
  pub keeps : Keeps BadLength before

-- ---- the lengths of frames

-- a frame has a length that is agreed
abbrev pub HasLength : Bool → List ℕ → Type 0
HasLength small octets = (nat_eq (length octets) 0 ≡ false) × (nat_lt (cond small 64 256) (length octets) ≡ false)

-- an FCD has it
abbrev pub FcdHas : Bool → PlainItem → Type 0
FcdHas small (framed (fcd number octets)) = HasLength small octets
FcdHas small _ = Unit {0}

lengths_keep : (small : Bool) (items : List PlainItem) (before : List PlainSaid) → Each (FcdHas small) items → Each (SaysSmall small) items →
    SmallIs small before → Keeps BadLength before → Keeps BadLength (and_said CallerSide items before)
lengths_keep small [] before has says is h = h
lengths_keep small (framed (fcd number octets) ∷ items) before has says is h =
    lengths_keep small items (record { by = CallerSide; signal = fcd number octets } ∷ before) has.1 says.1
    (small_stays CallerSide (fcd number octets) small before tt is) (fits, h)
  where
    fits : has_bad_length (fcd number octets) before ≡ false
    fits = rw (has.0.0, is false) has.0.1
lengths_keep small (framed (dis caps) ∷ items) before has says is h =
    lengths_keep small items (record { by = CallerSide; signal = dis caps } ∷ before) has.1 says.1
    (small_stays CallerSide (dis caps) small before says.0 is) (refl, h)
lengths_keep small (framed (dcs params) ∷ items) before has says is h =
    lengths_keep small items (record { by = CallerSide; signal = dcs params } ∷ before) has.1 says.1
    (small_stays CallerSide (dcs params) small before says.0 is) (refl, h)
lengths_keep small (framed cfr ∷ items) before has says is h =
    lengths_keep small items (record { by = CallerSide; signal = cfr } ∷ before) has.1 says.1
    (small_stays CallerSide cfr small before says.0 is) (refl, h)
lengths_keep small (framed ftt ∷ items) before has says is h =
    lengths_keep small items (record { by = CallerSide; signal = ftt } ∷ before) has.1 says.1
    (small_stays CallerSide ftt small before says.0 is) (refl, h)
lengths_keep small (framed rcp ∷ items) before has says is h =
    lengths_keep small items (record { by = CallerSide; signal = rcp } ∷ before) has.1 says.1
    (small_stays CallerSide rcp small before says.0 is) (refl, h)
lengths_keep small (framed (pps ends page block last) ∷ items) before has says is h =
    lengths_keep small items (record { by = CallerSide; signal = pps ends page block last } ∷ before) has.1 says.1
    (small_stays CallerSide (pps ends page block last) small before says.0 is) (refl, h)
lengths_keep small (framed (ppr marks) ∷ items) before has says is h =
    lengths_keep small items (record { by = CallerSide; signal = ppr marks } ∷ before) has.1 says.1
    (small_stays CallerSide (ppr marks) small before says.0 is) (refl, h)
lengths_keep small (framed mcf ∷ items) before has says is h =
    lengths_keep small items (record { by = CallerSide; signal = mcf } ∷ before) has.1 says.1
    (small_stays CallerSide mcf small before says.0 is) (refl, h)
lengths_keep small (framed rnr ∷ items) before has says is h =
    lengths_keep small items (record { by = CallerSide; signal = rnr } ∷ before) has.1 says.1
    (small_stays CallerSide rnr small before says.0 is) (refl, h)
lengths_keep small (framed rr ∷ items) before has says is h =
    lengths_keep small items (record { by = CallerSide; signal = rr } ∷ before) has.1 says.1
    (small_stays CallerSide rr small before says.0 is) (refl, h)
lengths_keep small (framed dcn ∷ items) before has says is h =
    lengths_keep small items (record { by = CallerSide; signal = dcn } ∷ before) has.1 says.1
    (small_stays CallerSide dcn small before says.0 is) (refl, h)
lengths_keep small (framed (other octet) ∷ items) before has says is h =
    lengths_keep small items (record { by = CallerSide; signal = other octet } ∷ before) has.1 says.1
    (small_stays CallerSide (other octet) small before says.0 is) (refl, h)
lengths_keep small (checked octets ∷ items) before has says is h = lengths_keep small items before has.1 says.1 is h

-- an item is no FCD
abbrev pub NoFcd : PlainItem → Type 0
NoFcd (framed signal) = is_fcd signal ≡ false
NoFcd (checked octets) = Unit {0}

plain_keep : (items : List PlainItem) (before : List PlainSaid) → Each NoFcd items → Keeps BadLength before → Keeps BadLength (and_said CallerSide items before)
plain_keep [] before plain h = h
plain_keep (framed signal ∷ items) before plain h =
    plain_keep items (record { by = CallerSide; signal = signal } ∷ before) plain.1 (fine signal plain.0, h)
  where
    fine : (s : PlainSignal) → is_fcd s ≡ false → has_bad_length s before ≡ false
    fine (dis caps) is = refl
    fine (dcs params) is = refl
    fine cfr is = refl
    fine ftt is = refl
    fine (fcd number octets) is = absurd (cc)
    fine rcp is = refl
    fine (pps ends page block last) is = refl
    fine (ppr marks) is = refl
    fine mcf is = refl
    fine rnr is = refl
    fine rr is = refl
    fine dcn is = refl
    fine (other octet) is = refl
plain_keep (checked octets ∷ items) before plain h = plain_keep items before plain.1 h

training_plain : (state : CallerState) (params : Params) → Each NoFcd (training_items state params)
training_plain WaitDis params = tt
training_plain WaitCfr params = (refl, (tt, tt))
training_plain WaitBlock params = (refl, (tt, tt))
training_plain WaitReady params = (refl, (tt, tt))

pps_plain : (block : Option Block) → Each NoFcd (pps_items block)
pps_plain None = tt
pps_plain (Some block) = (refl, tt)

fcds_have : (small : Bool) (marks : List ℕ) (number : ℕ) (frames : List (List ℕ)) → Each (HasLength small) frames →
    Each (FcdHas small) (fcds marks number frames)
fcds_have small marks number [] has = tt
fcds_have small marks number (octets ∷ frames) has = at (bit_of marks number) (fcds_have small marks (suc number) frames has.1)
  where
    at : (b : Bool) → Each (FcdHas small) (fcds marks (suc number) frames) →
        Each (FcdHas small) (cond b (framed (fcd number octets) ∷ fcds marks (suc number) frames) (fcds marks (suc number) frames))
    at true h = (has.0, h)
    at false h = h

burst_has : (small : Bool) (marks : List ℕ) (block : Block) → Each (HasLength small) block.frames → Each (FcdHas small) (burst_of marks (Some block))
burst_has small marks block has =
    each_append (FcdHas small) (fcds marks 0 block.frames) (framed rcp ∷ framed rcp ∷ framed rcp ∷ pps_of block ∷ [])
    (fcds_have small marks 0 block.frames has) (tt, (tt, (tt, (tt, tt))))

size_is : (small : Bool) → frame_size small ≡ cond small 64 256
size_is true = refl
size_is false = refl

not_none : (n : ℕ) → 1 ≤ n → nat_eq n 0 ≡ false
not_none n h = search rules

not_over : (most n : ℕ) → nat_le n most ≡ true → nat_lt most n ≡ false
not_over most n h = search rules

frame_has : (params : Params) (octets : List ℕ) → IsSendableFrame params octets → HasLength params.small octets
unfolding within_frame_size
frame_has params octets h =
    (not_none (length octets) h.some, not_over (cond params.small 64 256) (length octets) (ap (λ most. nat_le (length octets) most) (sym (size_is params.small)) ∙ h.agreed))

frames_have : (params : Params) (frames : List (List ℕ)) → Each (IsSendableFrame params) frames → Each (HasLength params.small) frames
frames_have params [] h = tt
frames_have params (octets ∷ frames) h = (frame_has params octets h.0, frames_have params frames h.1)

drop_at : (blocks : List Block) (k : ℕ) (block : Block) → slice_get blocks k ≡ Some block → drop k blocks ≡ block ∷ drop (suc k) blocks
drop_at [] k block e = cc
drop_at (first ∷ blocks) zero block e = let h : first ≡ block = cc in ap (λ b. b ∷ blocks) h
drop_at (first ∷ blocks) (suc k) block e = drop_at blocks k block e

-- the frames of the block that a caller sends have lengths that are agreed
abbrev pub FramesFit : Caller → Type 0
FramesFit c = (block : Block) → IsSending c.state → slice_get (blocks_of c) c.place ≡ Some block → Each (HasLength c.params.small) block.frames

frames_fit : (w : World) → LineFacts w → FramesFit w.caller
frames_fit w f block sends is = at c.state sends f.stations.phase
  where
    c : Caller
    c = w.caller

    by_group : IsOneGroup c.params (drop c.place (blocks_of c)) → Each (HasLength c.params.small) block.frames
    by_group group =
        let own = subst (IsOneGroup c.params) (drop_at (blocks_of c) c.place block is) group in
        let fits = block_fits (c.finished ++ c.present) c.document f.stations.call.readable c.place block is in
        subst (λ params. Each (HasLength params.small) block.frames) own.0 (frames_have block.params block.frames fits.sendable.1)

    at : (state : CallerState) → IsSending state → Phase state c f.accepted w.answerer → Each (HasLength c.params.small) block.frames
    at WaitDis sending phase = absurd sending
    at WaitCfr sending phase = absurd sending
    at WaitBlock sending phase = by_group phase.group
    at WaitReady sending phase = by_group phase.group

-- ---- a turn of the caller

-- what a turn needs
pub record TurnNeeds (w : World) (t : Turn) (next : Caller) (before : List PlainSaid) (items : List PlainItem) : Type 0 where
  pub old : Each (Checks next (and_said CallerSide items before)) w.to_answerer
  pub silent : t ≡ turn.Silent → next.params ≡ w.caller.params
  pub sends : IsSending next.state → SmallIs next.params.small before
  pub fit : FramesFit next

silent_confirms : (c next : Caller) (outcome : Outcome) (before : List PlainSaid) (xs : List PlainItem) → next.params ≡ c.params →
    Each (Confirms c before) xs → Each (Confirms next (and_said CallerSide (sent outcome []) before)) xs
silent_confirms c next outcome before [] is h = tt
silent_confirms c next outcome before (checked octets ∷ xs) is h = (tt, silent_confirms c next outcome before xs is h.1)
silent_confirms c next outcome before (framed (dis caps) ∷ xs) is h = (tt, silent_confirms c next outcome before xs is h.1)
silent_confirms c next outcome before (framed (dcs params) ∷ xs) is h = (tt, silent_confirms c next outcome before xs is h.1)
silent_confirms c next outcome before (framed cfr ∷ xs) is h =
    (rw (sent_none outcome) (subst (λ params. SmallIs params.small before) (sym is) h.0), silent_confirms c next outcome before xs is h.1)
silent_confirms c next outcome before (framed ftt ∷ xs) is h = (tt, silent_confirms c next outcome before xs is h.1)
silent_confirms c next outcome before (framed (fcd number octets) ∷ xs) is h = (tt, silent_confirms c next outcome before xs is h.1)
silent_confirms c next outcome before (framed rcp ∷ xs) is h = (tt, silent_confirms c next outcome before xs is h.1)
silent_confirms c next outcome before (framed (pps ends page block last) ∷ xs) is h = (tt, silent_confirms c next outcome before xs is h.1)
silent_confirms c next outcome before (framed (ppr marks) ∷ xs) is h = (tt, silent_confirms c next outcome before xs is h.1)
silent_confirms c next outcome before (framed mcf ∷ xs) is h = (tt, silent_confirms c next outcome before xs is h.1)
silent_confirms c next outcome before (framed rnr ∷ xs) is h = (tt, silent_confirms c next outcome before xs is h.1)
silent_confirms c next outcome before (framed rr ∷ xs) is h = (tt, silent_confirms c next outcome before xs is h.1)
silent_confirms c next outcome before (framed dcn ∷ xs) is h = (tt, silent_confirms c next outcome before xs is h.1)
silent_confirms c next outcome before (framed (other octet) ∷ xs) is h = (tt, silent_confirms c next outcome before xs is h.1)

-- the check of a turn comes after its DCS
training_checks : (c next : Caller) (outcome : Outcome) (before : List PlainSaid) →
    Each (Checks next (and_said CallerSide (sent outcome (training_items next.state next.params)) before)) (sent outcome (training_items next.state next.params))
training_checks c next outcome before = by_state next.state
  where
    both : (out : Outcome) →
        Each (Checks next (and_said CallerSide (sent out (framed (dcs next.params) ∷ checked (training next.params) ∷ [])) before))
        (sent out (framed (dcs next.params) ∷ checked (training next.params) ∷ []))
    both Done = (tt, ((λ begun. refl), tt))
    both Nothing = (tt, ((λ begun. refl), tt))
    both InputLost = (tt, ((λ begun. refl), tt))
    both (Cut zero) = tt
    both (Cut (suc zero)) = (tt, tt)
    both (Cut (suc (suc zero))) = (tt, ((λ begun. refl), tt))
    both (Cut (suc (suc (suc made)))) = (tt, ((λ begun. refl), tt))

    by_state : (state : CallerState) →
        Each (Checks next (and_said CallerSide (sent outcome (training_items state next.params)) before)) (sent outcome (training_items state next.params))
    by_state WaitDis = rw (sent_none outcome) tt
    by_state WaitCfr = both outcome
    by_state WaitBlock = both outcome
    by_state WaitReady = both outcome

-- items without a check
abbrev pub NoCheck : PlainItem → Type 0
NoCheck (checked octets) = ⊥
NoCheck (framed signal) = Unit {0}

no_checks : (c : Caller) (before : List PlainSaid) (items : List PlainItem) → Each NoCheck items → Each (Checks c before) items
no_checks c before [] h = tt
no_checks c before (checked octets ∷ items) h = absurd h.0
no_checks c before (framed signal ∷ items) h = (tt, no_checks c before items h.1)

fcds_no : (marks : List ℕ) (number : ℕ) (frames : List (List ℕ)) → Each NoCheck (fcds marks number frames)
fcds_no marks number [] = tt
fcds_no marks number (octets ∷ frames) = at (bit_of marks number) (fcds_no marks (suc number) frames)
  where
    at : (b : Bool) → Each NoCheck (fcds marks (suc number) frames) →
        Each NoCheck (cond b (framed (fcd number octets) ∷ fcds marks (suc number) frames) (fcds marks (suc number) frames))
    at true h = (tt, h)
    at false h = h

burst_no : (marks : List ℕ) (block : Option Block) → Each NoCheck (burst_of marks block)
burst_no marks None = tt
burst_no marks (Some block) =
    each_append NoCheck (fcds marks 0 block.frames) (framed rcp ∷ framed rcp ∷ framed rcp ∷ pps_of block ∷ [])
    (fcds_no marks 0 block.frames) (tt, (tt, (tt, (tt, tt))))

pps_no : (block : Option Block) → Each NoCheck (pps_items block)
pps_no None = tt
pps_no (Some block) = (tt, tt)

-- a burst keeps the rule
burst_keeps : (next : Caller) (marks : List ℕ) (outcome : Outcome) (before : List PlainSaid) → (IsSending next.state → SmallIs next.params.small before) →
    FramesFit next → Keeps BadLength before → Keeps BadLength (and_said CallerSide (sent outcome (burst_of marks (present_block next))) before)
burst_keeps next marks outcome before small fit h = at next.state next.ending small (λ block sends. fit block sends)
  where
    none : Keeps BadLength (and_said CallerSide (sent outcome []) before)
    none = rw (sent_none outcome) h

    some : (block : Block) → SmallIs next.params.small before → Each (HasLength next.params.small) block.frames →
        Keeps BadLength (and_said CallerSide (sent outcome (burst_of marks (Some block))) before)
    some block is has =
        lengths_keep next.params.small (sent outcome (burst_of marks (Some block))) before
        (sent_each (FcdHas next.params.small) outcome (burst_of marks (Some block)) (burst_has next.params.small marks block has))
        (sent_each (SaysSmall next.params.small) outcome (burst_of marks (Some block)) (burst_says next.params.small marks (Some block))) is h

    of_block : (found : Option Block) → SmallIs next.params.small before →
        ((block : Block) → found ≡ Some block → Each (HasLength next.params.small) block.frames) →
        Keeps BadLength (and_said CallerSide (sent outcome (burst_of marks found)) before)
    of_block None is has = none
    of_block (Some block) is has = some block is (has block refl)

    at : (state : CallerState) (ending : Option End) → (IsSending state → SmallIs next.params.small before) →
        ((block : Block) → IsSending state → slice_get (blocks_of next) next.place ≡ Some block → Each (HasLength next.params.small) block.frames) →
        Keeps BadLength (and_said CallerSide (sent outcome (burst_of marks (present_in state ending (slice_get (blocks_of next) next.place)))) before)
    at WaitDis ending is has = none
    at WaitCfr ending is has = none
    at WaitBlock None is has = of_block (slice_get (blocks_of next) next.place) (is tt) (λ block e. has block tt e)
    at WaitReady None is has = of_block (slice_get (blocks_of next) next.place) (is tt) (λ block e. has block tt e)
    at WaitBlock (Some why) is has = none
    at WaitReady (Some why) is has = none

turn_sized : (t : Turn) (w : World) (next : Caller) (outcome : Outcome) (before : List PlainSaid) →
    TurnNeeds w t next before (sent outcome (caller_items next t)) → Sized w before →
    Sized (caller_sends t w next (sent outcome (caller_items next t))) (and_said CallerSide (sent outcome (caller_items next t)) before)
turn_sized turn.Silent w next outcome before needs h = record {
  checks = needs.old;
  confirms = silent_confirms w.caller next outcome before w.to_caller (needs.silent refl) h.confirms;
  sends = λ sends. small_later CallerSide (sent outcome (caller_items next turn.Silent)) next.params.small before
      (sent_each (SaysSmall next.params.small) outcome (caller_items next turn.Silent) (caller_says next turn.Silent)) (needs.sends sends);
  keeps = plain_keep (sent outcome (caller_items next turn.Silent)) before (sent_each NoFcd outcome (caller_items next turn.Silent) (tt)) h.keeps;
}
turn_sized turn.Dis w next outcome before needs h = record {
  checks = each_append (Checks next (and_said CallerSide (sent outcome (caller_items next turn.Dis)) before)) w.to_answerer (sent outcome (caller_items next turn.Dis)) needs.old (no_checks next (and_said CallerSide (sent outcome (caller_items next turn.Dis)) before) (sent outcome (caller_items next turn.Dis)) (sent_each NoCheck outcome (caller_items next turn.Dis) (tt)));
  confirms = tt;
  sends = λ sends. small_later CallerSide (sent outcome (caller_items next turn.Dis)) next.params.small before
      (sent_each (SaysSmall next.params.small) outcome (caller_items next turn.Dis) (caller_says next turn.Dis)) (needs.sends sends);
  keeps = plain_keep (sent outcome (caller_items next turn.Dis)) before (sent_each NoFcd outcome (caller_items next turn.Dis) (tt)) h.keeps;
}
turn_sized turn.Training w next outcome before needs h = record {
  checks = each_append (Checks next (and_said CallerSide (sent outcome (caller_items next turn.Training)) before)) w.to_answerer (sent outcome (caller_items next turn.Training)) needs.old (training_checks w.caller next outcome before);
  confirms = tt;
  sends = λ sends. small_later CallerSide (sent outcome (caller_items next turn.Training)) next.params.small before
      (sent_each (SaysSmall next.params.small) outcome (caller_items next turn.Training) (caller_says next turn.Training)) (needs.sends sends);
  keeps = plain_keep (sent outcome (caller_items next turn.Training)) before (sent_each NoFcd outcome (caller_items next turn.Training) (training_plain next.state next.params)) h.keeps;
}
turn_sized turn.Cfr w next outcome before needs h = record {
  checks = each_append (Checks next (and_said CallerSide (sent outcome (caller_items next turn.Cfr)) before)) w.to_answerer (sent outcome (caller_items next turn.Cfr)) needs.old (no_checks next (and_said CallerSide (sent outcome (caller_items next turn.Cfr)) before) (sent outcome (caller_items next turn.Cfr)) (sent_each NoCheck outcome (caller_items next turn.Cfr) (tt)));
  confirms = tt;
  sends = λ sends. small_later CallerSide (sent outcome (caller_items next turn.Cfr)) next.params.small before
      (sent_each (SaysSmall next.params.small) outcome (caller_items next turn.Cfr) (caller_says next turn.Cfr)) (needs.sends sends);
  keeps = plain_keep (sent outcome (caller_items next turn.Cfr)) before (sent_each NoFcd outcome (caller_items next turn.Cfr) (tt)) h.keeps;
}
turn_sized turn.Ftt w next outcome before needs h = record {
  checks = each_append (Checks next (and_said CallerSide (sent outcome (caller_items next turn.Ftt)) before)) w.to_answerer (sent outcome (caller_items next turn.Ftt)) needs.old (no_checks next (and_said CallerSide (sent outcome (caller_items next turn.Ftt)) before) (sent outcome (caller_items next turn.Ftt)) (sent_each NoCheck outcome (caller_items next turn.Ftt) (tt)));
  confirms = tt;
  sends = λ sends. small_later CallerSide (sent outcome (caller_items next turn.Ftt)) next.params.small before
      (sent_each (SaysSmall next.params.small) outcome (caller_items next turn.Ftt) (caller_says next turn.Ftt)) (needs.sends sends);
  keeps = plain_keep (sent outcome (caller_items next turn.Ftt)) before (sent_each NoFcd outcome (caller_items next turn.Ftt) (tt)) h.keeps;
}
turn_sized (turn.Burst marks) w next outcome before needs h = record {
  checks = each_append (Checks next (and_said CallerSide (sent outcome (caller_items next (turn.Burst marks))) before)) w.to_answerer (sent outcome (caller_items next (turn.Burst marks))) needs.old (no_checks next (and_said CallerSide (sent outcome (caller_items next (turn.Burst marks))) before) (sent outcome (caller_items next (turn.Burst marks))) (sent_each NoCheck outcome (caller_items next (turn.Burst marks)) (burst_no marks (present_block next))));
  confirms = tt;
  sends = λ sends. small_later CallerSide (sent outcome (caller_items next (turn.Burst marks))) next.params.small before
      (sent_each (SaysSmall next.params.small) outcome (caller_items next (turn.Burst marks)) (caller_says next (turn.Burst marks))) (needs.sends sends);
  keeps = burst_keeps next marks outcome before needs.sends needs.fit h.keeps;
}
turn_sized turn.Pps w next outcome before needs h = record {
  checks = each_append (Checks next (and_said CallerSide (sent outcome (caller_items next turn.Pps)) before)) w.to_answerer (sent outcome (caller_items next turn.Pps)) needs.old (no_checks next (and_said CallerSide (sent outcome (caller_items next turn.Pps)) before) (sent outcome (caller_items next turn.Pps)) (sent_each NoCheck outcome (caller_items next turn.Pps) (pps_no (present_block next))));
  confirms = tt;
  sends = λ sends. small_later CallerSide (sent outcome (caller_items next turn.Pps)) next.params.small before
      (sent_each (SaysSmall next.params.small) outcome (caller_items next turn.Pps) (caller_says next turn.Pps)) (needs.sends sends);
  keeps = plain_keep (sent outcome (caller_items next turn.Pps)) before (sent_each NoFcd outcome (caller_items next turn.Pps) (pps_plain (present_block next))) h.keeps;
}
turn_sized turn.Mcf w next outcome before needs h = record {
  checks = each_append (Checks next (and_said CallerSide (sent outcome (caller_items next turn.Mcf)) before)) w.to_answerer (sent outcome (caller_items next turn.Mcf)) needs.old (no_checks next (and_said CallerSide (sent outcome (caller_items next turn.Mcf)) before) (sent outcome (caller_items next turn.Mcf)) (sent_each NoCheck outcome (caller_items next turn.Mcf) (tt)));
  confirms = tt;
  sends = λ sends. small_later CallerSide (sent outcome (caller_items next turn.Mcf)) next.params.small before
      (sent_each (SaysSmall next.params.small) outcome (caller_items next turn.Mcf) (caller_says next turn.Mcf)) (needs.sends sends);
  keeps = plain_keep (sent outcome (caller_items next turn.Mcf)) before (sent_each NoFcd outcome (caller_items next turn.Mcf) (tt)) h.keeps;
}
turn_sized (turn.Ppr marks) w next outcome before needs h = record {
  checks = each_append (Checks next (and_said CallerSide (sent outcome (caller_items next (turn.Ppr marks))) before)) w.to_answerer (sent outcome (caller_items next (turn.Ppr marks))) needs.old (no_checks next (and_said CallerSide (sent outcome (caller_items next (turn.Ppr marks))) before) (sent outcome (caller_items next (turn.Ppr marks))) (sent_each NoCheck outcome (caller_items next (turn.Ppr marks)) (tt)));
  confirms = tt;
  sends = λ sends. small_later CallerSide (sent outcome (caller_items next (turn.Ppr marks))) next.params.small before
      (sent_each (SaysSmall next.params.small) outcome (caller_items next (turn.Ppr marks)) (caller_says next (turn.Ppr marks))) (needs.sends sends);
  keeps = plain_keep (sent outcome (caller_items next (turn.Ppr marks))) before (sent_each NoFcd outcome (caller_items next (turn.Ppr marks)) (tt)) h.keeps;
}
turn_sized turn.Rnr w next outcome before needs h = record {
  checks = each_append (Checks next (and_said CallerSide (sent outcome (caller_items next turn.Rnr)) before)) w.to_answerer (sent outcome (caller_items next turn.Rnr)) needs.old (no_checks next (and_said CallerSide (sent outcome (caller_items next turn.Rnr)) before) (sent outcome (caller_items next turn.Rnr)) (sent_each NoCheck outcome (caller_items next turn.Rnr) (tt)));
  confirms = tt;
  sends = λ sends. small_later CallerSide (sent outcome (caller_items next turn.Rnr)) next.params.small before
      (sent_each (SaysSmall next.params.small) outcome (caller_items next turn.Rnr) (caller_says next turn.Rnr)) (needs.sends sends);
  keeps = plain_keep (sent outcome (caller_items next turn.Rnr)) before (sent_each NoFcd outcome (caller_items next turn.Rnr) (tt)) h.keeps;
}
turn_sized turn.Rr w next outcome before needs h = record {
  checks = each_append (Checks next (and_said CallerSide (sent outcome (caller_items next turn.Rr)) before)) w.to_answerer (sent outcome (caller_items next turn.Rr)) needs.old (no_checks next (and_said CallerSide (sent outcome (caller_items next turn.Rr)) before) (sent outcome (caller_items next turn.Rr)) (sent_each NoCheck outcome (caller_items next turn.Rr) ((tt, tt))));
  confirms = tt;
  sends = λ sends. small_later CallerSide (sent outcome (caller_items next turn.Rr)) next.params.small before
      (sent_each (SaysSmall next.params.small) outcome (caller_items next turn.Rr) (caller_says next turn.Rr)) (needs.sends sends);
  keeps = plain_keep (sent outcome (caller_items next turn.Rr)) before (sent_each NoFcd outcome (caller_items next turn.Rr) ((refl, tt))) h.keeps;
}
turn_sized turn.Dcn w next outcome before needs h = record {
  checks = each_append (Checks next (and_said CallerSide (sent outcome (caller_items next turn.Dcn)) before)) w.to_answerer (sent outcome (caller_items next turn.Dcn)) needs.old (no_checks next (and_said CallerSide (sent outcome (caller_items next turn.Dcn)) before) (sent outcome (caller_items next turn.Dcn)) (sent_each NoCheck outcome (caller_items next turn.Dcn) ((tt, tt))));
  confirms = tt;
  sends = λ sends. small_later CallerSide (sent outcome (caller_items next turn.Dcn)) next.params.small before
      (sent_each (SaysSmall next.params.small) outcome (caller_items next turn.Dcn) (caller_says next turn.Dcn)) (needs.sends sends);
  keeps = plain_keep (sent outcome (caller_items next turn.Dcn)) before (sent_each NoFcd outcome (caller_items next turn.Dcn) ((refl, tt))) h.keeps;
}

small_next : (c : Caller) (input : CallerInput) (before : List PlainSaid) → (IsCfr input → SmallIs c.params.small before) →
    (IsSending c.state → SmallIs c.params.small before) → IsSending (caller_step c input).next.state → SmallIs (caller_step c input).next.params.small before
small_next c input before given small sends =
    let kept = (step_ok c input).sends sends in
    subst (λ params. SmallIs params.small before) (sym kept.1) (at kept.0)
  where
    at : IsCfr input ⊎ IsSending c.state → SmallIs c.params.small before
    at (inl is) = given is
    at (inr is) = small is

caller_sized : (w : World) (outcome : Outcome) (input : CallerInput) (before : List PlainSaid) → (IsCfr input → SmallIs w.caller.params.small before) →
    LineFacts (caller_acts w Done input) →
    Each (Checks (caller_step w.caller input).next (caller_speaks w.caller outcome input before)) w.to_answerer → Sized w before →
    Sized (caller_acts w outcome input) (caller_speaks w.caller outcome input before)
caller_sized w outcome input before given after old h =
    let answer = caller_step w.caller input in
    turn_sized answer.turn w answer.next outcome before
    (record {
      old = old;
      silent = (step_ok w.caller input).silent;
      sends = small_next w.caller input before given h.sends;
      fit = subst FramesFit (caller_sends_are answer.turn w answer.next (caller_items answer.next answer.turn)).0
          (frames_fit (caller_acts w Done input) after);
    }) h

-- the end of a wait of the caller: its parameters stay
timer_sized : (w : World) (outcome : Outcome) (input : CallerInput) (before : List PlainSaid) → IsTimer input → LineFacts (caller_acts w Done input) →
    Sized w before → Sized (caller_acts w outcome input) (caller_speaks w.caller outcome input before)
timer_sized w outcome input before timer after h =
    caller_sized w outcome input before (no_cfr input timer) after (stay w.to_answerer h.checks) h
  where
    no_cfr : (i : CallerInput) → IsTimer i → IsCfr i → SmallIs w.caller.params.small before
    no_cfr (hears signal) timer_i is = absurd timer_i
    no_cfr timeout timer_i is = absurd is
    no_cfr t5 timer_i is = absurd is

    one : SmallIs w.caller.params.small before →
        SmallIs (caller_step w.caller input).next.params.small (caller_speaks w.caller outcome input before)
    one small =
        let answer = caller_step w.caller input in
        small_later CallerSide (sent outcome (caller_items answer.next answer.turn)) answer.next.params.small before
        (sent_each (SaysSmall answer.next.params.small) outcome _ (caller_says answer.next answer.turn))
        (subst (λ params. SmallIs params.small before) (sym ((step_ok w.caller input).timer timer)) small)

    stay : (xs : List PlainItem) → Each (Checks w.caller before) xs →
        Each (Checks (caller_step w.caller input).next (caller_speaks w.caller outcome input before)) xs
    stay [] k = tt
    stay (checked octets ∷ xs) k = (one k.0, stay xs k.1)
    stay (framed signal ∷ xs) k = (tt, stay xs k.1)

-- the caller hears a frame, and so nothing is under way to the answerer
hears_sized : (w : World) (outcome : Outcome) (input : CallerInput) (before : List PlainSaid) → w.to_answerer ≡ [] →
    (IsCfr input → SmallIs w.caller.params.small before) → LineFacts (caller_acts w Done input) → Sized w before →
    Sized (caller_acts w outcome input) (caller_speaks w.caller outcome input before)
hears_sized w outcome input before none given after h = caller_sized w outcome input before given after (each_none w.to_answerer none) h
  where
    each_none : (items : List PlainItem) → items ≡ [] →
        Each (Checks (caller_step w.caller input).next (caller_speaks w.caller outcome input before)) items
    each_none [] e = tt
    each_none (item ∷ items) e = absurd (no_more e)

-- ---- a turn of the answerer

confirms_later : (c : Caller) (signal : PlainSignal) (xs : List PlainItem) (before : List PlainSaid) → SaysSmall c.params.small (framed signal) →
    Each (Confirms c before) xs → Each (Confirms c (record { by = AnswererSide; signal = signal } ∷ before)) xs
confirms_later c signal [] before says h = tt
confirms_later c signal (framed (dis caps) ∷ xs) before says h = (tt, confirms_later c signal xs before says h.1)
confirms_later c signal (framed (dcs params) ∷ xs) before says h = (tt, confirms_later c signal xs before says h.1)
confirms_later c signal (framed cfr ∷ xs) before says h =
    (small_stays AnswererSide signal c.params.small before says h.0, confirms_later c signal xs before says h.1)
confirms_later c signal (framed ftt ∷ xs) before says h = (tt, confirms_later c signal xs before says h.1)
confirms_later c signal (framed (fcd number octets) ∷ xs) before says h = (tt, confirms_later c signal xs before says h.1)
confirms_later c signal (framed rcp ∷ xs) before says h = (tt, confirms_later c signal xs before says h.1)
confirms_later c signal (framed (pps ends page block last) ∷ xs) before says h = (tt, confirms_later c signal xs before says h.1)
confirms_later c signal (framed (ppr marks) ∷ xs) before says h = (tt, confirms_later c signal xs before says h.1)
confirms_later c signal (framed mcf ∷ xs) before says h = (tt, confirms_later c signal xs before says h.1)
confirms_later c signal (framed rnr ∷ xs) before says h = (tt, confirms_later c signal xs before says h.1)
confirms_later c signal (framed rr ∷ xs) before says h = (tt, confirms_later c signal xs before says h.1)
confirms_later c signal (framed dcn ∷ xs) before says h = (tt, confirms_later c signal xs before says h.1)
confirms_later c signal (framed (other octet) ∷ xs) before says h = (tt, confirms_later c signal xs before says h.1)
confirms_later c signal (checked octets ∷ xs) before says h = (tt, confirms_later c signal xs before says h.1)

-- a frame of the answerer, or nothing
module _ (signal : PlainSignal) (w : World) (next : Answerer) (before : List PlainSaid) (says : SaysSmall w.caller.params.small (framed signal))
    (fine : has_bad_length signal before ≡ false)
    (new : Confirms w.caller (record { by = AnswererSide; signal = signal } ∷ before) (framed signal)) (h : Sized w before) where
  whole : Sized (record { caller = w.caller; answerer = next; to_answerer = []; to_caller = w.to_caller ++ framed signal ∷ [] })
      (record { by = AnswererSide; signal = signal } ∷ before)
  whole = record {
    checks = tt;
    confirms = each_append (Confirms w.caller (record { by = AnswererSide; signal = signal } ∷ before)) w.to_caller (framed signal ∷ [])
        (confirms_later w.caller signal w.to_caller before says h.confirms) (new, tt);
    sends = λ is. small_stays AnswererSide signal w.caller.params.small before says (h.sends is);
    keeps = (fine, h.keeps);
  }

  none : Sized (record { caller = w.caller; answerer = next; to_answerer = []; to_caller = w.to_caller ++ [] }) before
  none = record { checks = tt; confirms = each_append (Confirms w.caller before) w.to_caller [] h.confirms tt; sends = h.sends; keeps = h.keeps }

  said : (outcome : Outcome) →
      Sized (record { caller = w.caller; answerer = next; to_answerer = []; to_caller = w.to_caller ++ sent outcome (framed signal ∷ []) })
      (and_said AnswererSide (sent outcome (framed signal ∷ [])) before)
  said Done = whole
  said Nothing = whole
  said InputLost = whole
  said (Cut zero) = none
  said (Cut (suc zero)) = whole
  said (Cut (suc (suc made))) = whole

silent_sized : (w : World) (next : Answerer) (outcome : Outcome) (before : List PlainSaid) → Sized w before →
    Sized (record w { answerer = next }) (and_said AnswererSide (sent outcome []) before)
silent_sized w next outcome before h =
    rw (sent_none outcome) (record { checks = h.checks; confirms = h.confirms; sends = h.sends; keeps = h.keeps })

cleared_sized : (w : World) (next : Answerer) (outcome : Outcome) (before : List PlainSaid) → Sized w before →
    Sized (record { caller = w.caller; answerer = next; to_answerer = []; to_caller = w.to_caller ++ sent outcome [] })
    (and_said AnswererSide (sent outcome []) before)
cleared_sized w next outcome before h =
    rw (sent_none outcome)
    (record { checks = tt; confirms = each_append (Confirms w.caller before) w.to_caller [] h.confirms tt; sends = h.sends; keeps = h.keeps })

answer_sized : (t : Turn) (w : World) (next : Answerer) (outcome : Outcome) (before : List PlainSaid) →
    (t ≡ turn.Cfr → SmallIs w.caller.params.small before) → Sized w before →
    Sized (answerer_sends t w next (sent outcome (answerer_items next t))) (and_said AnswererSide (sent outcome (answerer_items next t)) before)
answer_sized turn.Silent w next outcome before trained h = silent_sized w next outcome before h
answer_sized turn.Dis w next outcome before trained h = said (dis next.caps) w next before tt refl tt h outcome
answer_sized turn.Training w next outcome before trained h = cleared_sized w next outcome before h
answer_sized turn.Cfr w next outcome before trained h = said cfr w next before tt refl (small_stays AnswererSide cfr w.caller.params.small before tt (trained refl)) h outcome
answer_sized turn.Ftt w next outcome before trained h = said ftt w next before tt refl tt h outcome
answer_sized (turn.Burst marks) w next outcome before trained h = cleared_sized w next outcome before h
answer_sized turn.Pps w next outcome before trained h = cleared_sized w next outcome before h
answer_sized turn.Mcf w next outcome before trained h = said mcf w next before tt refl tt h outcome
answer_sized (turn.Ppr marks) w next outcome before trained h = said (ppr marks) w next before tt refl tt h outcome
answer_sized turn.Rnr w next outcome before trained h = said rnr w next before tt refl tt h outcome
answer_sized turn.Rr w next outcome before trained h = cleared_sized w next outcome before h
answer_sized turn.Dcn w next outcome before trained h = said dcn w next before tt refl tt h outcome

answerer_sized : (w : World) (outcome : Outcome) (input : AnswererInput) (before : List PlainSaid) →
    (IsCheck input → SmallIs w.caller.params.small before) → Sized w before →
    Sized (answerer_acts w outcome input) (answerer_speaks w.answerer outcome input before)
answerer_sized w outcome input before check h =
    answer_sized (answerer_step w.answerer input).turn w (answerer_step w.answerer input).next outcome before
    (λ is. check (subst (PprFits w.answerer input) is (step_fits w.answerer input))) h

-- ---- one event

given_cfr : (c : Caller) (signal : PlainSignal) (before : List PlainSaid) → Confirms c before (framed signal) → IsCfr (hears signal) → SmallIs c.params.small before
given_cfr c (dis caps) before h is = absurd is
given_cfr c (dcs params) before h is = absurd is
given_cfr c cfr before h is = h
given_cfr c ftt before h is = absurd is
given_cfr c (fcd number octets) before h is = absurd is
given_cfr c rcp before h is = absurd is
given_cfr c (pps ends page block last) before h is = absurd is
given_cfr c (ppr marks) before h is = absurd is
given_cfr c mcf before h is = absurd is
given_cfr c rnr before h is = absurd is
given_cfr c rr before h is = absurd is
given_cfr c dcn before h is = absurd is
given_cfr c (other octet) before h is = absurd is

given_heard : (c : Caller) (input : CallerInput) (before : List PlainSaid) → KnownToCaller (Confirms c before) input → IsCfr input →
    SmallIs c.params.small before
given_heard c (hears signal) before h is = given_cfr c signal before h is
given_heard c timeout before h is = absurd is
given_heard c t5 before h is = absurd is

given_check : (c : Caller) (input : AnswererInput) (before : List PlainSaid) → KnownToAnswerer (Checks c before) input → IsCheck input →
    SmallIs c.params.small before
given_check c (listens signal) before h is = absurd is
given_check c (trains octets) before h is = h
given_check c t1 before h is = absurd is
given_check c t2 before h is = absurd is
given_check c (is_busy busy) before h is = absurd is

-- a frame comes to the caller while nothing is under way to the answerer
caller_part : (w : World) (rest : List PlainItem) (outcome : Outcome) (input : CallerInput) (before : List PlainSaid) → LineFacts w →
    LineFacts (caller_acts (record w { to_caller = rest }) Done input) → ToCaller input w.to_caller rest → Sized w before →
    Sized (caller_acts (record w { to_caller = rest }) outcome input) (caller_speaks w.caller outcome input before)
caller_part w rest outcome input before f after is h = of input after is
  where
    of : (i : CallerInput) → LineFacts (caller_acts (record w { to_caller = rest }) Done i) → ToCaller i w.to_caller rest →
        Sized (caller_acts (record w { to_caller = rest }) outcome i) (caller_speaks w.caller outcome i before)
    of (hears signal) after_i is_i =
        let taken = caller_takes (Confirms w.caller before) (hears signal) w.to_caller rest is_i h.confirms in
        hears_sized (record w { to_caller = rest }) outcome (hears signal) before (none f.one_way)
        (given_heard w.caller (hears signal) before taken.0) after_i (record { checks = h.checks; confirms = taken.1; sends = h.sends; keeps = h.keeps })
      where
        none : (w.to_answerer ≡ []) ⊎ (w.to_caller ≡ []) → w.to_answerer ≡ []
        none (inl empty) = empty
        none (inr empty) = absurd (no_more (sym is_i ∙ empty))
    of timeout after_i is_i =
        let taken = caller_takes (Confirms w.caller before) timeout w.to_caller rest is_i h.confirms in
        timer_sized (record w { to_caller = rest }) outcome timeout before tt after_i
        (record { checks = h.checks; confirms = taken.1; sends = h.sends; keeps = h.keeps })
    of t5 after_i is_i =
        let taken = caller_takes (Confirms w.caller before) t5 w.to_caller rest is_i h.confirms in
        timer_sized (record w { to_caller = rest }) outcome t5 before tt after_i
        (record { checks = h.checks; confirms = taken.1; sends = h.sends; keeps = h.keeps })

spoiled_checks : (c : Caller) (before : List PlainSaid) (items : List PlainItem) → Each (Checks c before) items → Each (Checks c before) (spoiled items)
spoiled_checks c before [] h = tt
spoiled_checks c before (framed signal ∷ items) h = h
spoiled_checks c before (checked octets ∷ items) h = h

sized_parts : PartsKeep Sized LineFacts Any
sized_parts = record {
  caller = λ w rest outcome input before fine f after is h. caller_part w rest outcome input before f after is h;
  answerer = λ w rest outcome input before fine f after is h.
      let taken = answerer_takes (Checks w.caller before) input w.to_answerer rest is h.checks in
      answerer_sized (record w { to_answerer = rest }) outcome input before (given_check w.caller input before taken.0)
      (record { checks = taken.1; confirms = h.confirms; sends = h.sends; keeps = h.keeps });
  lost_to_caller = λ w item rest before is h. record {
    checks = h.checks;
    confirms = each_rest (Confirms w.caller before) item w.to_caller rest is h.confirms;
    sends = h.sends;
    keeps = h.keeps;
  };
  lost_to_answerer = λ w item rest before is h. record {
    checks = each_rest (Checks w.caller before) item w.to_answerer rest is h.checks;
    confirms = h.confirms;
    sends = h.sends;
    keeps = h.keeps;
  };
  spoil = λ w before h.
      record { checks = spoiled_checks w.caller before w.to_answerer h.checks; confirms = h.confirms; sends = h.sends; keeps = h.keeps };
}

-- the law
pub frames_have_lengths : LineHolds → RuleIsKeptOfPages BadLength
frames_have_lengths holds_facts document wish caps steps full =
    (run_keeps Sized LineFacts Any sized_parts steps (new_world document wish caps) (record { by = AnswererSide; signal = dis caps } ∷ [])
    (all_any steps) (λ more. holds_facts document wish caps more full)
    (record { checks = tt; confirms = (tt, tt); sends = λ h. absurd h; keeps = (refl, tt) })).keeps
