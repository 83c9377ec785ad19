-- A PPS counts the frames of its block, those that were sent and no others, and says the same of a block each time: rules Uncounted,
-- WrongCount and NotRepeated, where no growth is refused.
use Rattle.std.proofs.Common.{◌≡◌, ℕ, zero, suc, ◌≤◌, ◌<◌, ◌+◌, Bool, true, false, cond, ◌&&◌, ◌||◌, List, [], ◌∷◌, ◌++◌, refl, sym, ap, subst, ◌∙◌, arith, length, ◌⊎◌, inl, inr}
use Rattle.std.specs.Prelude.{Option, Some, None, unwrap_or, not, nat_eq, nat_le, nat_lt, slice_get, pred, ◌≢◌, option_map}
use Rattle.std.proofs.lemmas.Bool.{eq-eqb, ne_eqb, ltb-true, leb-true, false_from_ne_true}
use Rattle.signals.specs.Signals.{PlainSignal, dis, dcs, cfr, ftt, fcd, rcp, pps, ppr, mcf, rnr, rr, dcn}
use Rattle.signals.specs.declared.params.Caps.{Caps}
use Rattle.signals.specs.Marks.{same_mark}
use Rattle.signals.specs.declared.params.Params.{Params}
use Rattle.signals.specs.declared.params.Wish.{Wish}
use Rattle.signals.specs.declared.signal.PageEnd.{PageEnd}
use Rattle.signals.specs.declared.signal.PageEnd.TheVariants.{Null, Mps, Eom, Eop}
use Rattle.signals.specs.declared.signal.Side.{Side}
use Rattle.signals.specs.declared.signal.Side.TheVariants.{Caller as CallerSide, Answerer as AnswererSide}
use Rattle.partial_page.specs.Store.{bit_of}
use Rattle.stations.proofs.Progress.{block_fits}
use Rattle.stations.specs.AnswererKeeping.{AnswerersKeep, TakesBlock}
use Rattle.stations.specs.AnswererStep.{Answerer, AnswererAnswer, answerer_step, answerer_items, is_repeated}
use Rattle.stations.specs.Blocks.{Block, mark_of, last_frame_of}
use Rattle.stations.specs.CallerFields.{IsSending}
use Rattle.stations.specs.CallerStep.{Caller, CallerAnswer, caller_step, caller_items, training_items, fcds, all_frames}
use Rattle.stations.specs.CallerStep.{pps_of, burst_of, pps_items, blocks_of}
use Rattle.stations.specs.Inputs.{CallerInput, AnswererInput, PlainItem, framed, checked, hears, trains}
use Rattle.stations.specs.Laws.{Each}
use Rattle.stations.specs.Layers.{Document, IsFullPage}
use Rattle.stations.specs.declared.mark.Accepted.{Accepted}
use Rattle.stations.specs.declared.turn.CallerState.{CallerState}
use Rattle.stations.specs.declared.turn.CallerState.TheVariants.{WaitDis, WaitCfr, WaitBlock, WaitReady}
use Rattle.stations.specs.declared.turn.Turn.{Turn}
use Rattle.stations.specs.declared.turn.Turn.TheVariants as turn
use Rattle.line_sim.proofs.Bursts.{every_frame}
use Rattle.line_sim.proofs.Lists.{either}
use Rattle.line_sim.proofs.Marks.{same_mark_refl}
use Rattle.line_sim.specs.Headline.{LineHolds}
use Rattle.line_sim.specs.Line.{World, Outcome, Done, new_world, caller_sends, answerer_sends, caller_acts, answerer_acts}
use Rattle.line_sim.specs.LineFacts.{LineFacts, StationFacts, SaysBlock, MayReachAnswerer, MayReachCaller, accepted_at, accepted_of}
use Rattle.line_sim.specs.declared.event.Event.{Event}
use Rattle.referee.proofs.Numbers.{nowhere}
use Rattle.referee.specs.Frames.{asked, holds}
use Rattle.referee.specs.History.{PlainSaid, look}
use Rattle.referee.specs.Questions.{tell, same_end}
use Rattle.referee.specs.Rules.{counts_unsent, counts_less, is_not_repeated}
use Rattle.referee.specs.declared.frame_test.FrameTest.TheVariants.{NeverSent, SentAbove}
use Rattle.referee.specs.declared.question.Question.TheVariants.{Sent, OtherMark, OtherLast}
use Rattle.referee.specs.declared.rule.Rule.TheVariants.{Uncounted, WrongCount, NotRepeated}
use Rattle.judged_calls.proofs.AfterDcn.{caller_sends_are}
use Rattle.judged_calls.proofs.AskedFrames.{OfAnswerer, answerer_is}
use Rattle.judged_calls.proofs.BlocksWhole.{not_before, lets_new, step_moves, Moves}
use Rattle.judged_calls.proofs.BlockSteps.{IsOpening, NoBlockTurn, SameBlock, Steps, step_steps, NoBurst}
use Rattle.judged_calls.proofs.Events.{ToCaller, ToAnswerer, PartsKeep, run_keeps, caller_takes, AllDone}
use Rattle.judged_calls.proofs.FramesCome.{last_of, same_number}
use Rattle.judged_calls.proofs.Latest.{says, Latest, Opens, Heard, latest_answered, latest_called}
use Rattle.judged_calls.proofs.Offers.{some_or, answerer_sends_are}
use Rattle.judged_calls.proofs.OwnSignals.{each_append}
use Rattle.judged_calls.proofs.PprsAsk.{OfCaller, PprFits, IsCheck, step_fits}
use Rattle.judged_calls.proofs.Bools.{or_true, and_false}
use Rattle.judged_calls.specs.SaidCalls.{and_said, caller_speaks, answerer_speaks, call_said, Keeps, IsWhole, RuleIsKeptWithMemory}

-- ---- what was said of the present block

-- of a block that is being sent, and whether the answerer has accepted it
pub record InBlock (block : Block) (accepted : Bool) (before : List PlainSaid) : Type 0 where
  -- each frame was sent; and if the block isn't accepted no MCF came since
  pub sent : (n : ℕ) → n < length block.frames → look (tell (Sent n)) false before ≡ true
  pub fresh : accepted ≡ false → (n : ℕ) → n < length block.frames → (begun : Bool) → look (tell (Sent n)) begun before ≡ true
  -- no other frame was, and no PPS says otherwise
  pub others : (n : ℕ) → length block.frames ≤ n → (begun : Bool) → look (tell (Sent n)) begun before ≡ false
  pub mark : (begun : Bool) → look (tell (OtherMark block.ends (mark_of block).page (mark_of block).block)) begun before ≡ false
  pub last : (begun : Bool) → look (tell (OtherLast (last_frame_of block))) begun before ≡ false

-- what the caller says of a block
abbrev pub OwnItem : Block → Bool → PlainItem → Type 0
OwnItem block accepted (framed (fcd number octets)) = (accepted ≡ false) × (number < length block.frames)
OwnItem block accepted (framed (pps ends page b last)) =
    (ends ≡ block.ends) × (page ≡ (mark_of block).page) × (b ≡ (mark_of block).block) × (last ≡ last_frame_of block)
OwnItem block accepted item = OfCaller item

abbrev pub Keeps3 : List PlainSaid → Type 0
Keeps3 before = Keeps Uncounted before × Keeps WrongCount before × Keeps NotRepeated before

same_end_refl : (ends : PageEnd) → same_end ends ends ≡ true
same_end_refl Null = refl
same_end_refl Mps = refl
same_end_refl Eom = refl
same_end_refl Eop = refl

none_or : (b c : Bool) → c ≡ false → unwrap_or (cond b (Some false) None) c ≡ false
none_or true c h = refl
none_or false c h = h

other_or : (number n : ℕ) (c : Bool) → number < n → c ≡ false → unwrap_or (cond (nat_eq number n) (Some true) None) c ≡ false
other_or number n c less h =
    subst (λ b. unwrap_or (cond b (Some true) None) c ≡ false) (sym (ne_eqb number n (λ e. absurd (omega (arith, e, less))))) h

counts_right : (block : Block) (accepted : Bool) (before : List PlainSaid) → suc (last_frame_of block) ≡ length block.frames →
    InBlock block accepted before →
    (counts_unsent (pps block.ends (mark_of block).page (mark_of block).block (last_frame_of block)) before ≡ false) ×
    (counts_less (pps block.ends (mark_of block).page (mark_of block).block (last_frame_of block)) before ≡ false) ×
    (is_not_repeated (pps block.ends (mark_of block).page (mark_of block).block (last_frame_of block)) before ≡ false)
counts_right block accepted before full h = (
  nowhere (λ k. holds (NeverSent (last_frame_of block)) k before) (λ n within. never n (nat_le n (last_frame_of block)) refl),
  nowhere (λ k. holds (SentAbove (last_frame_of block)) k before) (λ n within. above n (nat_lt (last_frame_of block) n) refl),
  ap (λ b. b || asked (OtherLast (last_frame_of block)) before) (h.mark false) ∙ h.last false,
)
  where
    never : (n : ℕ) (b : Bool) → nat_le n (last_frame_of block) ≡ b → holds (NeverSent (last_frame_of block)) n before ≡ false
    never n true is =
        let low : n ≤ last_frame_of block = leb-true n (last_frame_of block) is in
        ap (λ b. nat_le n (last_frame_of block) && not b) (h.sent n (subst (λ k. n < k) full (omega (arith, low)))) ∙
        and_false (nat_le n (last_frame_of block))
    never n false is = ap (λ b. b && not (asked (Sent n) before)) is

    above : (n : ℕ) (b : Bool) → nat_lt (last_frame_of block) n ≡ b → holds (SentAbove (last_frame_of block)) n before ≡ false
    above n true is =
        let up : last_frame_of block < n = ltb-true (last_frame_of block) n is in
        ap (λ b. nat_lt (last_frame_of block) n && b) (h.others n (subst (λ k. k ≤ n) full (omega (arith, up))) false) ∙
        and_false (nat_lt (last_frame_of block) n)
    above n false is = ap (λ b. b && asked (Sent n) before) is

own_keeps : (block : Block) (accepted : Bool) → suc (last_frame_of block) ≡ length block.frames → (signal : PlainSignal)
    (before : List PlainSaid) → OwnItem block accepted (framed signal) → InBlock block accepted before × Keeps3 before →
    InBlock block accepted (record { by = CallerSide; signal = signal } ∷ before) × Keeps3 (record { by = CallerSide; signal = signal } ∷ before)
own_keeps block accepted full (fcd number octets) before own h = (
  record {
    sent = λ n low. some_or (nat_eq number n) _ (h.0.fresh own.0 n low true);
    fresh = λ new n low begun. some_or (nat_eq number n) _ (h.0.fresh own.0 n low (begun || true));
    others = λ n up begun. other_or number n _ (omega (arith, own.1, up)) (h.0.others n up (begun || true));
    mark = λ begun. h.0.mark (begun || true);
    last = λ begun. refl;
  },
  ((refl, h.1.0), (refl, h.1.1), (refl, h.1.2)),
)
own_keeps block accepted full (pps ends page b last) before own h =
    let right = counts_right block accepted before full h.0 in
    let is : pps ends page b last ≡ pps block.ends (mark_of block).page (mark_of block).block (last_frame_of block) =
    ap (λ e. pps e page b last) own.0 ∙
    (ap (λ p. pps block.ends p b last) own.1 ∙
    (ap (λ k. pps block.ends (mark_of block).page k last) own.2 ∙
    ap (λ l. pps block.ends (mark_of block).page (mark_of block).block l) own.3)) in
    subst (λ signal. InBlock block accepted (record { by = CallerSide; signal = signal } ∷ before) ×
    Keeps3 (record { by = CallerSide; signal = signal } ∷ before)) (sym is) (
      record {
        sent = h.0.sent;
        fresh = λ new n low begun. h.0.fresh new n low (begun || false);
        others = λ n up begun. h.0.others n up (begun || false);
        mark = λ begun. rw (same_end_refl block.ends, same_number (mark_of block).page, same_number (mark_of block).block) refl;
        last = λ begun. rw (same_number (last_frame_of block)) refl;
      },
      ((right.0, h.1.0), (right.1, h.1.1), (right.2, h.1.2)),
    )
own_keeps block accepted full (dcs params) before own h = (
  record {
    sent = h.0.sent;
    fresh = λ new n low begun. h.0.fresh new n low (begun || false);
    others = λ n up begun. h.0.others n up (begun || false);
    mark = λ begun. h.0.mark (begun || false);
    last = λ begun. h.0.last (begun || false);
  },
  ((refl, h.1.0), (refl, h.1.1), (refl, h.1.2)),
)
own_keeps block accepted full rcp before own h = (
  record {
    sent = h.0.sent;
    fresh = λ new n low begun. h.0.fresh new n low (begun || false);
    others = λ n up begun. h.0.others n up (begun || false);
    mark = λ begun. h.0.mark (begun || false);
    last = λ begun. h.0.last (begun || false);
  },
  ((refl, h.1.0), (refl, h.1.1), (refl, h.1.2)),
)
own_keeps block accepted full rr before own h = (
  record {
    sent = h.0.sent;
    fresh = λ new n low begun. h.0.fresh new n low (begun || false);
    others = λ n up begun. h.0.others n up (begun || false);
    mark = λ begun. h.0.mark (begun || false);
    last = λ begun. h.0.last (begun || false);
  },
  ((refl, h.1.0), (refl, h.1.1), (refl, h.1.2)),
)
own_keeps block accepted full dcn before own h = (
  record {
    sent = h.0.sent;
    fresh = λ new n low begun. h.0.fresh new n low (begun || false);
    others = λ n up begun. h.0.others n up (begun || false);
    mark = λ begun. h.0.mark (begun || false);
    last = λ begun. h.0.last (begun || false);
  },
  ((refl, h.1.0), (refl, h.1.1), (refl, h.1.2)),
)
own_keeps block accepted full signal before own h = absurd own

-- ---- the first burst of a block

-- the frames below a number were sent, and no others
pub record Sending (block : Block) (count : ℕ) (before : List PlainSaid) : Type 0 where
  pub sent : (n : ℕ) → n < count → (begun : Bool) → look (tell (Sent n)) begun before ≡ true
  pub others : (n : ℕ) → length block.frames ≤ n → (begun : Bool) → look (tell (Sent n)) begun before ≡ false
  pub mark : (begun : Bool) → look (tell (OtherMark block.ends (mark_of block).page (mark_of block).block)) begun before ≡ false
  pub last : (begun : Bool) → look (tell (OtherLast (last_frame_of block))) begun before ≡ false

begins : (block : Block) (octets : List ℕ) (before : List PlainSaid) → 0 < length block.frames → Opens before →
    Sending block 1 (record { by = CallerSide; signal = fcd 0 octets } ∷ before)
begins block octets before some h = record {
  sent = λ n low begun. subst (λ k. look (tell (Sent k)) begun (record { by = CallerSide; signal = fcd 0 octets } ∷ before) ≡ true)
      (zero_is n low) refl;
  others = λ n up begun. other_or 0 n _ (omega (arith, some, up))
      (subst (λ b. look (tell (Sent n)) b before ≡ false) (sym (or_true begun)) (h.sent n));
  mark = λ begun. subst
      (λ b. look (tell (OtherMark block.ends (mark_of block).page (mark_of block).block)) b before ≡ false)
      (sym (or_true begun)) (h.mark block.ends (mark_of block).page (mark_of block).block);
  last = λ begun. refl;
}
  where
    zero_is : (n : ℕ) → n < 1 → 0 ≡ n
    zero_is zero low = refl
    zero_is (suc n) low = absurd (omega (arith, low))

goes : (block : Block) (count : ℕ) (octets : List ℕ) (before : List PlainSaid) → count < length block.frames → Sending block count before →
    Sending block (suc count) (record { by = CallerSide; signal = fcd count octets } ∷ before)
goes block count octets before within h = record {
  sent = λ n low begun. at n low begun (nat_eq count n) refl;
  others = λ n up begun. other_or count n _ (omega (arith, within, up)) (h.others n up (begun || true));
  mark = λ begun. h.mark (begun || true);
  last = λ begun. refl;
}
  where
    at : (n : ℕ) → n < suc count → (begun b : Bool) → nat_eq count n ≡ b →
        unwrap_or (cond (nat_eq count n) (Some true) None) (look (tell (Sent n)) (begun || true) before) ≡ true
    at n low begun true is = rw is refl
    at n low begun false is = rw is (h.sent n (less n low is) (begun || true))
      where
        less : (n : ℕ) → n < suc count → nat_eq count n ≡ false → n < count
        less n low is = either_less n low (λ (e : count ≡ n). (let same : true ≡ false = sym (eq-eqb count n e) ∙ is in cc))
          where
            either_less : (n : ℕ) → n < suc count → (count ≡ n → ⊥) → n < count
            either_less n low apart = omega (arith, low, apart)

all_go : (block : Block) (count : ℕ) (frames : List (List ℕ)) (before : List PlainSaid) → length block.frames ≤ 256 →
    count + length frames ≡ length block.frames → Sending block count before →
    Sending block (length block.frames) (and_said CallerSide (fcds all_frames count frames) before)
all_go block count [] before few is h =
    subst (λ k. Sending block k before) (subst (λ k. k ≡ length block.frames) (omega arith) is) h
all_go block count (octets ∷ frames) before few is h =
    let within : count < length block.frames = omega (arith, is) in
    subst (λ b. Sending block (length block.frames) (and_said CallerSide
    (cond b (framed (fcd count octets) ∷ fcds all_frames (suc count) frames) (fcds all_frames (suc count) frames)) before))
    (sym (every_frame count (omega (arith, within, few))))
    (all_go block (suc count) frames (record { by = CallerSide; signal = fcd count octets } ∷ before) few (omega (arith, is))
    (goes block count octets before within h))

first_sent : (block : Block) (before : List PlainSaid) → length block.frames ≤ 256 → 0 < length block.frames → Opens before →
    Sending block (length block.frames) (and_said CallerSide (fcds all_frames 0 block.frames) before)
first_sent block before few some h = at block.frames refl
  where
    at : (frames : List (List ℕ)) → block.frames ≡ frames →
        Sending block (length block.frames) (and_said CallerSide (fcds all_frames 0 frames) before)
    at [] is = absurd (omega (arith, subst (λ f. 0 < length f) is some))
    at (octets ∷ frames) is =
        subst (λ b. Sending block (length block.frames) (and_said CallerSide
        (cond b (framed (fcd 0 octets) ∷ fcds all_frames 1 frames) (fcds all_frames 1 frames)) before))
        (sym (every_frame 0 (omega arith)))
        (let count : length block.frames ≡ suc (length frames) = ap length is in
        all_go block 1 frames (record { by = CallerSide; signal = fcd 0 octets } ∷ before) few (omega (arith, count))
        (begins block octets before some h))

sent_is_in : (block : Block) (before : List PlainSaid) → Sending block (length block.frames) before → InBlock block false before
sent_is_in block before h =
    record { sent = λ n low. h.sent n low false; fresh = λ new. h.sent; others = h.others; mark = h.mark; last = h.last }

-- frames alone break none of the rules
frames_keep : (marks : List ℕ) (number : ℕ) (frames : List (List ℕ)) (before : List PlainSaid) → Keeps3 before →
    Keeps3 (and_said CallerSide (fcds marks number frames) before)
frames_keep marks number [] before h = h
frames_keep marks number (octets ∷ frames) before h =
    either (λ items. Keeps3 (and_said CallerSide items before)) (bit_of marks number) _ _
    (λ bit. frames_keep marks (suc number) frames (record { by = CallerSide; signal = fcd number octets } ∷ before)
    ((refl, h.0), (refl, h.1), (refl, h.2)))
    (λ bit. frames_keep marks (suc number) frames before h)

pub said_append : (side : Side) (xs ys : List PlainItem) (before : List PlainSaid) →
    and_said side (xs ++ ys) before ≡ and_said side ys (and_said side xs before)
said_append side [] ys before = refl
said_append side (framed signal ∷ xs) ys before = said_append side xs ys (record { by = side; signal = signal } ∷ before)
said_append side (checked octets ∷ xs) ys before = said_append side xs ys before

abbrev pub after_frames : Block → List PlainItem
after_frames block = framed rcp ∷ framed rcp ∷ framed rcp ∷ pps_of block ∷ []

ends_own : (block : Block) (accepted : Bool) → Each (OwnItem block accepted) (after_frames block)
ends_own block accepted = (tt, (tt, (tt, ((refl, refl, refl, refl), tt))))

pub first_burst_said : (block : Block) (before : List PlainSaid) → suc (last_frame_of block) ≡ length block.frames →
    length block.frames ≤ 256 → Opens before → Keeps3 before →
    InBlock block false (and_said CallerSide (burst_of all_frames (Some block)) before) ×
    Keeps3 (and_said CallerSide (burst_of all_frames (Some block)) before)
first_burst_said block before full few opens h =
    let some : 0 < length block.frames = subst (λ k. 0 < k) full (omega arith) in
    let middle = and_said CallerSide (fcds all_frames 0 block.frames) before in
    subst (λ all. InBlock block false all × Keeps3 all)
    (sym (said_append CallerSide (fcds all_frames 0 block.frames) (after_frames block) before))
    (says CallerSide (λ said. InBlock block false said × Keeps3 said) (OwnItem block false) (own_keeps block false full) (after_frames block) middle
    (ends_own block false)
    (sent_is_in block middle (first_sent block before few some opens), frames_keep all_frames 0 block.frames before h))

fcds_own : (block : Block) (marks : List ℕ) (number : ℕ) (frames : List (List ℕ)) → number + length frames ≡ length block.frames →
    Each (OwnItem block false) (fcds marks number frames)
fcds_own block marks number [] is = tt
fcds_own block marks number (octets ∷ frames) is =
    either (Each (OwnItem block false)) (bit_of marks number) _ _
    (λ bit. ((refl, omega (arith, is)), fcds_own block marks (suc number) frames (omega (arith, is))))
    (λ bit. fcds_own block marks (suc number) frames (omega (arith, is)))

pub burst_own : (block : Block) (marks : List ℕ) → Each (OwnItem block false) (burst_of marks (Some block))
burst_own block marks =
    each_append (OwnItem block false) (fcds marks 0 block.frames) (after_frames block) (fcds_own block marks 0 block.frames (omega arith))
    (ends_own block false)

-- ---- a world and what was said in it

-- what was said of the block at a place, if there is one
abbrev pub NowAt : Option Accepted → Option Block → List PlainSaid → Type 0
NowAt accepted None said = Unit {0}
NowAt accepted (Some block) said = InBlock block (is_repeated accepted (mark_of block)) said

pub record BlockSaid (w : World) (before : List PlainSaid) : Type 0 where
  pub latest : Each (Latest before) w.to_caller
  pub now : IsSending w.caller.state → NowAt w.answerer.accepted (slice_get (blocks_of w.caller) w.caller.place) before
  pub keeps : Keeps3 before

-- a block has frames, 256 at most
pub block_sizes : (c : Caller) (s : Answerer) (a : ℕ) (block : Block) → StationFacts c s a → slice_get (blocks_of c) c.place ≡ Some block →
    (suc (last_frame_of block) ≡ length block.frames) × (length block.frames ≤ 256)
block_sizes c s a block f is =
    let fits = block_fits (c.finished ++ c.present) c.document f.call.readable c.place block is in
    (full block.frames fits.sendable.0, fits.sendable.2)
  where
    full : (frames : List (List ℕ)) → frames ≢ [] → suc (pred (length frames)) ≡ length frames
    full [] some = absurd (some refl)
    full (octets ∷ frames) some = refl

-- an item that says nothing of a block
abbrev pub QuietItem : PlainItem → Type 0
QuietItem (framed (fcd number octets)) = ⊥
QuietItem (framed (pps ends page block last)) = ⊥
QuietItem item = OfCaller item

quiet_keeps : (signal : PlainSignal) (before : List PlainSaid) → QuietItem (framed signal) → Keeps3 before →
    Keeps3 (record { by = CallerSide; signal = signal } ∷ before)
quiet_keeps (dcs params) before q h = ((refl, h.0), (refl, h.1), (refl, h.2))
quiet_keeps rcp before q h = ((refl, h.0), (refl, h.1), (refl, h.2))
quiet_keeps rr before q h = ((refl, h.0), (refl, h.1), (refl, h.2))
quiet_keeps dcn before q h = ((refl, h.0), (refl, h.1), (refl, h.2))
quiet_keeps signal before q h = absurd q

pub training_all : (P : PlainItem → Type 0) → ((params : Params) → P (framed (dcs params))) → ((octets : List ℕ) → P (checked octets)) →
    (state : CallerState) (params : Params) → Each P (training_items state params)
training_all P one check WaitDis params = tt
training_all P one check WaitCfr params = (one params, (check _, tt))
training_all P one check WaitBlock params = (one params, (check _, tt))
training_all P one check WaitReady params = (one params, (check _, tt))

pub quiet_items : (next : Caller) (t : Turn) → NoBlockTurn t → Each QuietItem (caller_items next t)
quiet_items next turn.Training none = training_all QuietItem (λ params. tt) (λ octets. tt) next.state next.params
quiet_items next (turn.Burst marks) none = absurd none
quiet_items next turn.Pps none = absurd none
quiet_items next turn.Rr none = (tt, tt)
quiet_items next turn.Dcn none = (tt, tt)
quiet_items next t none = tt

quiet_own : (block : Block) (accepted : Bool) (item : PlainItem) → QuietItem item → OwnItem block accepted item
quiet_own block accepted (framed (fcd number octets)) q = absurd q
quiet_own block accepted (framed (pps ends page b last)) q = absurd q
quiet_own block accepted (framed (dcs params)) q = tt
quiet_own block accepted (framed rcp) q = tt
quiet_own block accepted (framed rr) q = tt
quiet_own block accepted (framed dcn) q = tt
quiet_own block accepted (checked octets) q = tt
quiet_own block accepted item q = absurd q

quiet_all : (block : Block) (accepted : Bool) (items : List PlainItem) → Each QuietItem items → Each (OwnItem block accepted) items
quiet_all block accepted [] q = tt
quiet_all block accepted (item ∷ items) q = (quiet_own block accepted item q.0, quiet_all block accepted items q.1)

-- what is said of a block whose frames and PPS are said
abbrev pub SaidOf : Block → Bool → List PlainSaid → Type 0
SaidOf block accepted said = InBlock block accepted said × Keeps3 said

pub opens_by : (input : CallerInput) (before : List PlainSaid) → IsOpening input → Heard before input → Opens before
opens_by (hears cfr) before is heard = heard
opens_by (hears mcf) before is heard = heard
opens_by input before is heard = absurd is

module _ (w : World) (f : LineFacts w) (rest : List PlainItem) (input : CallerInput) (before : List PlainSaid)
    (after : LineFacts (caller_acts (record w { to_caller = rest }) Done input)) (is : ToCaller input w.to_caller rest) where
  abbrev reply : CallerAnswer
  reply = caller_step w.caller input

  pub next_facts : StationFacts reply.next w.answerer after.accepted
  next_facts =
      let were = caller_sends_are reply.turn (record w { to_caller = rest }) reply.next (caller_items reply.next reply.turn) in
      subst (λ s. StationFacts reply.next s after.accepted) were.1
      (subst (λ c. StationFacts c (caller_acts (record w { to_caller = rest }) Done input).answerer after.accepted) were.0 after.stations)

  -- a block of which frames are sent isn't accepted
  pub burst_new : (marks : List ℕ) (block : Block) → reply.turn ≡ turn.Burst marks →
      slice_get (blocks_of reply.next) reply.next.place ≡ Some block → is_repeated w.answerer.accepted (mark_of block) ≡ false
  burst_new marks block bursts there = false_from_ne_true _ (λ has. at has (step_moves w.caller input))
    where
      at : is_repeated w.answerer.accepted (mark_of block) ≡ true → Moves w.caller input reply → ⊥
      at has (inl stays) = subst NoBurst bursts stays.quiet
      at has (inr (inl begins)) = not_before reply.next w.answerer after.accepted block next_facts begins (there, has)
      at has (inr (inr (inl lets))) = lets_new w f rest Done input before is block (there, has) (inl lets)
      at has (inr (inr (inr on))) = lets_new w f rest Done input before is block (there, has) (inr on)

  pub same_place : SameBlock w.caller reply → slice_get (blocks_of reply.next) reply.next.place ≡ slice_get (blocks_of w.caller) w.caller.place
  same_place same = ap (λ b. slice_get b reply.next.place) same.2 ∙ ap (slice_get (blocks_of w.caller)) same.1

  module _ (heard : Heard before input) (h : BlockSaid w before) where
    quiet_now : (b : Option Block) → slice_get (blocks_of w.caller) w.caller.place ≡ b → (items : List PlainItem) → Each QuietItem items →
        NowAt w.answerer.accepted b before → NowAt w.answerer.accepted b (and_said CallerSide items before)
    quiet_now None there items q now = tt
    quiet_now (Some block) there items q now =
        let accepted = is_repeated w.answerer.accepted (mark_of block) in
        let sizes = block_sizes w.caller w.answerer f.accepted block f.stations there in
        (says CallerSide (SaidOf block accepted) (OwnItem block accepted) (own_keeps block accepted sizes.0) items before
        (quiet_all block accepted items q) (now, h.keeps)).0

    pps_now : (b : Option Block) → slice_get (blocks_of w.caller) w.caller.place ≡ b → NowAt w.answerer.accepted b before →
        NowAt w.answerer.accepted b (and_said CallerSide (pps_items b) before) × Keeps3 (and_said CallerSide (pps_items b) before)
    pps_now None there now = (tt, h.keeps)
    pps_now (Some block) there now =
        let accepted = is_repeated w.answerer.accepted (mark_of block) in
        let sizes = block_sizes w.caller w.answerer f.accepted block f.stations there in
        says CallerSide (SaidOf block accepted) (OwnItem block accepted) (own_keeps block accepted sizes.0) (pps_of block ∷ []) before
        ((refl, refl, refl, refl), tt) (now, h.keeps)

    again_now : (marks : List ℕ) (b : Option Block) → slice_get (blocks_of w.caller) w.caller.place ≡ b →
        ((block : Block) → b ≡ Some block → is_repeated w.answerer.accepted (mark_of block) ≡ false) → NowAt w.answerer.accepted b before →
        NowAt w.answerer.accepted b (and_said CallerSide (burst_of marks b) before) × Keeps3 (and_said CallerSide (burst_of marks b) before)
    again_now marks None there new now = (tt, h.keeps)
    again_now marks (Some block) there new now =
        let sizes = block_sizes w.caller w.answerer f.accepted block f.stations there in
        let said = says CallerSide (SaidOf block false) (OwnItem block false) (own_keeps block false sizes.0) (burst_of marks (Some block)) before
        (burst_own block marks) (subst (λ a. InBlock block a before) (new block refl) now, h.keeps) in
        (subst (λ a. InBlock block a (and_said CallerSide (burst_of marks (Some block)) before)) (sym (new block refl)) said.0, said.1)

    first_now : (b : Option Block) → slice_get (blocks_of reply.next) reply.next.place ≡ b →
        ((block : Block) → b ≡ Some block → is_repeated w.answerer.accepted (mark_of block) ≡ false) → Opens before →
        NowAt w.answerer.accepted b (and_said CallerSide (burst_of all_frames b) before) ×
        Keeps3 (and_said CallerSide (burst_of all_frames b) before)
    first_now None there new opens = (tt, h.keeps)
    first_now (Some block) there new opens =
        let sizes = block_sizes reply.next w.answerer after.accepted block next_facts there in
        let said = first_burst_said block before sizes.0 sizes.1 opens h.keeps in
        (subst (λ a. InBlock block a (and_said CallerSide (burst_of all_frames (Some block)) before)) (sym (new block refl)) said.0, said.1)

    -- what holds after a turn
    abbrev Then : Turn → Type 0
    Then t =
        (IsSending reply.next.state →
        NowAt w.answerer.accepted (slice_get (blocks_of reply.next) reply.next.place) (and_said CallerSide (caller_items reply.next t) before)) ×
        Keeps3 (and_said CallerSide (caller_items reply.next t) before)

    then : Steps w.caller input reply → Then reply.turn
    then (inl still) =
        let q = quiet_items reply.next reply.turn still.0 in
        (λ s. at q (still.1 s), says CallerSide Keeps3 QuietItem quiet_keeps _ before q h.keeps)
      where
        at : Each QuietItem (caller_items reply.next reply.turn) →
            (slice_get (blocks_of reply.next) reply.next.place ≡ None) ⊎ SameBlock w.caller reply →
            NowAt w.answerer.accepted (slice_get (blocks_of reply.next) reply.next.place)
            (and_said CallerSide (caller_items reply.next reply.turn) before)
        at q (inl gone) =
            subst (λ b. NowAt w.answerer.accepted b (and_said CallerSide (caller_items reply.next reply.turn) before)) (sym gone) tt
        at q (inr same) =
            subst (λ b. NowAt w.answerer.accepted b (and_said CallerSide (caller_items reply.next reply.turn) before)) (sym (same_place same))
            (quiet_now _ refl _ q (h.now same.0))
    then (inr (inl again)) =
        let there = again.2 ∙ same_place again.1 in
        let said = pps_now _ refl (h.now again.1.0) in
        subst Then (sym again.0)
        (subst (λ b. (IsSending reply.next.state → NowAt w.answerer.accepted (slice_get (blocks_of reply.next) reply.next.place)
        (and_said CallerSide (pps_items b) before)) × Keeps3 (and_said CallerSide (pps_items b) before)) (sym there) (
          λ s. subst (λ b. NowAt w.answerer.accepted b (and_said CallerSide (pps_items (slice_get (blocks_of w.caller) w.caller.place)) before))
              (sym (same_place again.1)) said.0,
          said.1,
        ))
    then (inr (inr (inl frames))) =
        let marks = frames.1.0 in
        let there = frames.2 ∙ same_place frames.0 in
        let said = again_now marks _ refl
        (λ block e. burst_new marks block frames.1.1 (same_place frames.0 ∙ e)) (h.now frames.0.0) in
        subst Then (sym frames.1.1)
        (subst (λ b. (IsSending reply.next.state → NowAt w.answerer.accepted (slice_get (blocks_of reply.next) reply.next.place)
        (and_said CallerSide (burst_of marks b) before)) × Keeps3 (and_said CallerSide (burst_of marks b) before)) (sym there) (
          λ s. subst (λ b. NowAt w.answerer.accepted b (and_said CallerSide (burst_of marks (slice_get (blocks_of w.caller) w.caller.place)) before))
              (sym (same_place frames.0)) said.0,
          said.1,
        ))
    then (inr (inr (inr first))) =
        let said = first_now _ refl (λ block e. burst_new all_frames block first.0 e) (opens_by input before first.1 heard) in
        subst Then (sym first.0)
        (subst (λ b. (IsSending reply.next.state → NowAt w.answerer.accepted (slice_get (blocks_of reply.next) reply.next.place)
        (and_said CallerSide (burst_of all_frames b) before)) × Keeps3 (and_said CallerSide (burst_of all_frames b) before)) (sym first.2)
        (λ s. said.0, said.1))

caller_done : (w : World) (rest : List PlainItem) (input : CallerInput) (before : List PlainSaid) → LineFacts w →
    LineFacts (caller_acts (record w { to_caller = rest }) Done input) → ToCaller input w.to_caller rest → BlockSaid w before →
    BlockSaid (caller_acts (record w { to_caller = rest }) Done input) (caller_speaks w.caller Done input before)
caller_done w rest input before f after is h =
    let v : World = record w { to_caller = rest } in
    let answer = caller_step w.caller input in
    let items = caller_items answer.next answer.turn in
    let taken = caller_takes (Latest before) input w.to_caller rest is h.latest in
    let are = caller_sends_are answer.turn v answer.next items in
    let holds_then = then w f rest input before after is taken.0 h (step_steps w.caller input) in
    record {
      latest = latest_called answer.turn v answer.next Done before taken.1;
      now = subst (λ s. IsSending (caller_sends answer.turn v answer.next items).caller.state → NowAt s.accepted
          (slice_get (blocks_of (caller_sends answer.turn v answer.next items).caller) (caller_sends answer.turn v answer.next items).caller.place)
          (and_said CallerSide items before)) (sym are.1)
          (subst (λ c. IsSending c.state → NowAt w.answerer.accepted (slice_get (blocks_of c) c.place) (and_said CallerSide items before))
          (sym are.0) holds_then.0);
      keeps = holds_then.1;
    }

-- ---- the answerer's step

answer_keeps3 : (signal : PlainSignal) (before : List PlainSaid) → OfAnswerer (framed signal) → Keeps3 before →
    Keeps3 (record { by = AnswererSide; signal = signal } ∷ before)
answer_keeps3 (dis caps) before own h = ((refl, h.0), (refl, h.1), (refl, h.2))
answer_keeps3 cfr before own h = ((refl, h.0), (refl, h.1), (refl, h.2))
answer_keeps3 ftt before own h = ((refl, h.0), (refl, h.1), (refl, h.2))
answer_keeps3 mcf before own h = ((refl, h.0), (refl, h.1), (refl, h.2))
answer_keeps3 (ppr marks) before own h = ((refl, h.0), (refl, h.1), (refl, h.2))
answer_keeps3 rnr before own h = ((refl, h.0), (refl, h.1), (refl, h.2))
answer_keeps3 dcn before own h = ((refl, h.0), (refl, h.1), (refl, h.2))
answer_keeps3 signal before own h = absurd own

-- after an answer the same is known of the block: no CFR comes then, and MCF only once the block is accepted
abbrev pub Leaves : Bool → PlainSignal → Type 0
Leaves later (dis caps) = Unit {0}
Leaves later ftt = Unit {0}
Leaves later mcf = later ≡ true
Leaves later (ppr marks) = Unit {0}
Leaves later rnr = Unit {0}
Leaves later dcn = Unit {0}
Leaves later _ = ⊥

answer_in : (block : Block) (accepted later : Bool) → (later ≡ false → accepted ≡ false) → (signal : PlainSignal) (before : List PlainSaid) →
    Leaves later signal → InBlock block accepted before → InBlock block later (record { by = AnswererSide; signal = signal } ∷ before)
answer_in block accepted later back (dis caps) before leaves h = record {
  sent = h.sent;
  fresh = λ new n low begun. h.fresh (back new) n low (begun || false);
  others = λ n up begun. h.others n up (begun || false);
  mark = λ begun. h.mark (begun || false);
  last = λ begun. h.last (begun || false);
}
answer_in block accepted later back ftt before leaves h = record {
  sent = h.sent;
  fresh = λ new n low begun. h.fresh (back new) n low (begun || false);
  others = λ n up begun. h.others n up (begun || false);
  mark = λ begun. h.mark (begun || false);
  last = λ begun. h.last (begun || false);
}
answer_in block accepted later back mcf before leaves h = record {
  sent = h.sent;
  fresh = λ new. absurd (cc);
  others = λ n up begun. none_or begun _ (h.others n up (begun || false));
  mark = λ begun. none_or begun _ (h.mark (begun || false));
  last = λ begun. h.last (begun || false);
}
answer_in block accepted later back (ppr marks) before leaves h = record {
  sent = h.sent;
  fresh = λ new n low begun. h.fresh (back new) n low (begun || false);
  others = λ n up begun. h.others n up (begun || false);
  mark = λ begun. h.mark (begun || false);
  last = λ begun. h.last (begun || false);
}
answer_in block accepted later back rnr before leaves h = record {
  sent = h.sent;
  fresh = λ new n low begun. h.fresh (back new) n low (begun || false);
  others = λ n up begun. h.others n up (begun || false);
  mark = λ begun. h.mark (begun || false);
  last = λ begun. h.last (begun || false);
}
answer_in block accepted later back dcn before leaves h = record {
  sent = h.sent;
  fresh = λ new n low begun. h.fresh (back new) n low (begun || false);
  others = λ n up begun. h.others n up (begun || false);
  mark = λ begun. h.mark (begun || false);
  last = λ begun. h.last (begun || false);
}
answer_in block accepted later back signal before leaves h = absurd leaves

silent_in : (block : Block) (accepted later : Bool) → (later ≡ false → accepted ≡ false) → (before : List PlainSaid) →
    InBlock block accepted before → InBlock block later before
silent_in block accepted later back before h =
    record { sent = h.sent; fresh = λ new. h.fresh (back new); others = h.others; mark = h.mark; last = h.last }

module _ (keep : AnswerersKeep) (w : World) (f : LineFacts w) (rest : List PlainItem) (input : AnswererInput)
    (is : ToAnswerer input w.to_answerer rest) (block : Block) (there : slice_get (blocks_of w.caller) w.caller.place ≡ Some block)
    (sending : IsSending w.caller.state) where
  abbrev answer : AnswererAnswer
  answer = answerer_step w.answerer input

  abbrev later : Bool
  later = is_repeated answer.next.accepted (mark_of block)

  -- a block that is taken is this one
  pub taken_is : TakesBlock w.answerer input answer.next → later ≡ true
  taken_is taken =
      let heard : w.to_answerer ≡ framed (pps taken.ends taken.mark.page taken.mark.block taken.meets.last) ∷ rest =
      subst (λ i. ToAnswerer i w.to_answerer rest) taken.meets.heard is in
      let says : SaysBlock (slice_get (blocks_of w.caller) w.caller.place) taken.ends taken.mark taken.meets.last =
      (subst (Each (MayReachAnswerer w.caller f.accepted)) heard f.to_answerer).0.1 in
      let named : SaysBlock (Some block) taken.ends taken.mark taken.meets.last =
      subst (λ b. SaysBlock b taken.ends taken.mark taken.meets.last) there says in
      ap (λ x. is_repeated x (mark_of block)) taken.accepted ∙
      (ap (λ m. same_mark m (mark_of block)) named.1 ∙ same_mark_refl (mark_of block))

  -- so it isn't accepted before if it isn't afterwards
  pub back : later ≡ false → is_repeated w.answerer.accepted (mark_of block) ≡ false
  back new = at (keep w.answerer input).block
    where
      at : ((answer.next.accepted ≡ w.answerer.accepted) × (answer.next.octets ≡ w.answerer.octets) ×
          (answer.next.pages ≡ w.answerer.pages)) ⊎ TakesBlock w.answerer input answer.next →
          is_repeated w.answerer.accepted (mark_of block) ≡ false
      at (inl same) = subst (λ x. is_repeated x (mark_of block) ≡ false) same.0 new
      at (inr taken) = (let both : true ≡ false = sym (taken_is taken) ∙ new in cc)

  pub mcf_later : (facts : LineFacts (answerer_sends turn.Mcf (record w { to_answerer = rest }) answer.next (framed mcf ∷ []))) → later ≡ true
  mcf_later facts =
      let last = last_of (MayReachCaller w.caller.place answer.next.state facts.accepted) w.to_caller (framed mcf) facts.to_caller in
      ap (λ x. is_repeated x (mark_of block))
      (facts.stations.last ∙ (ap (accepted_at (blocks_of w.caller)) last ∙ ap (option_map accepted_of) there)) ∙ same_mark_refl (mark_of block)

  -- no CFR comes while a block is sent
  pub no_check : (i : AnswererInput) → ToAnswerer i w.to_answerer rest → IsCheck i → ⊥
  no_check (trains octets) gives check =
      subst IsSending (subst (Each (MayReachAnswerer w.caller f.accepted)) gives f.to_answerer).0 sending
  no_check i gives check = check

  answered : (before : List PlainSaid) → InBlock block (is_repeated w.answerer.accepted (mark_of block)) before → (t : Turn) →
      PprFits w.answerer input t → LineFacts (answerer_sends t (record w { to_answerer = rest }) answer.next (answerer_items answer.next t)) →
      InBlock block later (and_said AnswererSide (answerer_items answer.next t) before)
  answered before h turn.Cfr fits facts = absurd (no_check input is fits)
  answered before h turn.Dis fits facts = answer_in block _ later back (dis answer.next.caps) before tt h
  answered before h turn.Ftt fits facts = answer_in block _ later back ftt before tt h
  answered before h turn.Mcf fits facts = answer_in block _ later back mcf before (mcf_later facts) h
  answered before h (turn.Ppr marks) fits facts = answer_in block _ later back (ppr marks) before tt h
  answered before h turn.Rnr fits facts = answer_in block _ later back rnr before tt h
  answered before h turn.Dcn fits facts = answer_in block _ later back dcn before tt h
  answered before h t fits facts = silent_in block _ later back before h

module _ (keep : AnswerersKeep) where
  answerer_done : (w : World) (rest : List PlainItem) (input : AnswererInput) (before : List PlainSaid) → LineFacts w →
      LineFacts (answerer_acts (record w { to_answerer = rest }) Done input) → ToAnswerer input w.to_answerer rest → BlockSaid w before →
      BlockSaid (answerer_acts (record w { to_answerer = rest }) Done input) (answerer_speaks w.answerer Done input before)
  answerer_done w rest input before f after is h =
      let v : World = record w { to_answerer = rest } in
      let answer = answerer_step w.answerer input in
      let items = answerer_items answer.next answer.turn in
      let are = answerer_sends_are answer.turn v answer.next items in
      record {
        latest = latest_answered answer.turn v answer.next Done before after.only_dis h.latest;
        now = subst (λ s. IsSending (answerer_sends answer.turn v answer.next items).caller.state → NowAt s.accepted
            (slice_get (blocks_of (answerer_sends answer.turn v answer.next items).caller)
            (answerer_sends answer.turn v answer.next items).caller.place)
            (and_said AnswererSide items before)) (sym are.1)
            (subst (λ c. IsSending c.state → NowAt answer.next.accepted (slice_get (blocks_of c) c.place) (and_said AnswererSide items before))
            (sym are.0) (λ sending. at sending (slice_get (blocks_of w.caller) w.caller.place) refl (h.now sending)));
        keeps = says AnswererSide Keeps3 OfAnswerer answer_keeps3 items before (answerer_is answer.next answer.turn) h.keeps;
      }
    where
      at : IsSending w.caller.state → (b : Option Block) → slice_get (blocks_of w.caller) w.caller.place ≡ b →
          NowAt w.answerer.accepted b before →
          NowAt (answerer_step w.answerer input).next.accepted b
          (and_said AnswererSide (answerer_items (answerer_step w.answerer input).next (answerer_step w.answerer input).turn) before)
      at sending None there now = tt
      at sending (Some block) there now =
          answered keep w f rest input is block there sending before now (answerer_step w.answerer input).turn (step_fits w.answerer input) after

  parts_keep : PartsKeep BlockSaid LineFacts AllDone
  parts_keep = record {
    caller = λ w rest outcome input before fine f after is h.
        subst (λ o. BlockSaid (caller_acts (record w { to_caller = rest }) o input) (caller_speaks w.caller o input before)) (sym fine)
        (caller_done w rest input before f after is h);
    answerer = λ w rest outcome input before fine f after is h.
        subst (λ o. BlockSaid (answerer_acts (record w { to_answerer = rest }) o input) (answerer_speaks w.answerer o input before)) (sym fine)
        (answerer_done w rest input before f after is h);
    lost_to_caller = λ w item rest before is h.
        record { latest = (subst (Each (Latest before)) is h.latest).1; now = h.now; keeps = h.keeps };
    lost_to_answerer = λ w item rest before is h. record { latest = h.latest; now = h.now; keeps = h.keeps };
    spoil = λ w before h. record { latest = h.latest; now = h.now; keeps = h.keeps };
  }

  blocks_are_said : LineHolds → (document : Document) (wish : Wish) (caps : Caps) (steps : List (Event × Outcome)) → Each IsFullPage document →
      Each IsWhole steps → Keeps3 (call_said document wish caps steps)
  blocks_are_said holds_facts document wish caps steps full whole =
      (run_keeps BlockSaid LineFacts AllDone parts_keep steps (new_world document wish caps) (record { by = AnswererSide; signal = dis caps } ∷ [])
      whole (λ more. holds_facts document wish caps more full)
      (record { latest = (tt, tt); now = λ sending. absurd sending; keeps = ((refl, tt), (refl, tt), (refl, tt)) })).keeps

-- the laws
pub counts_what_was_sent : AnswerersKeep → LineHolds →
    RuleIsKeptWithMemory Uncounted × RuleIsKeptWithMemory WrongCount × RuleIsKeptWithMemory NotRepeated
counts_what_was_sent keep holds_facts = (
  λ document wish caps steps full whole. (blocks_are_said keep holds_facts document wish caps steps full whole).0,
  λ document wish caps steps full whole. (blocks_are_said keep holds_facts document wish caps steps full whole).1,
  λ document wish caps steps full whole. (blocks_are_said keep holds_facts document wish caps steps full whole).2,
)
