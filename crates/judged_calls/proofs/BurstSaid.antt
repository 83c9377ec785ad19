-- A burst has all frames that the PPR asks for, and three RCPs end it: rules NotSentAgain and RcpCount, where no growth is refused.
use Rattle.std.proofs.Common.{◌≡◌, ℕ, suc, ◌≤◌, ◌<◌, ◌+◌, Bool, true, false, cond, ◌&&◌, ◌||◌, List, [], ◌∷◌, ◌++◌, refl, sym, ap, subst, ◌∙◌, arith, length, inl, inr}
use Rattle.std.specs.Prelude.{Option, Some, None, unwrap_or, not, nat_eq, nat_le, nat_lt}
use Rattle.std.proofs.lemmas.Bool.{eqb-true, eqb-false, leb-true, false_from_ne_true}
use Rattle.signals.specs.Signals.{PlainSignal, dis, dcs, cfr, ftt, fcd, rcp, pps, ppr, mcf, rnr, rr, dcn}
use Rattle.signals.specs.declared.mark.Mark.{Mark}
use Rattle.signals.specs.declared.params.Caps.{Caps}
use Rattle.signals.specs.declared.params.Wish.{Wish}
use Rattle.signals.specs.declared.signal.Side.TheVariants.{Caller as CallerSide, Answerer as AnswererSide}
use Rattle.partial_page.specs.Assembling.{ppr_map, all_there}
use Rattle.partial_page.specs.Store.{bit_of}
use Rattle.stations.proofs.PprMaps.{bit_in_map}
use Rattle.stations.specs.AnswererStep.{Answerer, answerer_step, answerer_items}
use Rattle.stations.specs.Blocks.{Block, mark_of, last_frame_of}
use Rattle.stations.specs.CallerStep.{Caller, CallerAnswer, caller_step, caller_items, caller_table, unless_caller_ended, fcds, all_frames, pps_of}
use Rattle.stations.specs.CallerStep.{burst_of, pps_items, present_block, tries_again}
use Rattle.stations.specs.Inputs.{CallerInput, AnswererInput, PlainItem, framed, timeout, t5, hears, listens}
use Rattle.stations.specs.Laws.{Each}
use Rattle.stations.specs.Layers.{Document, IsFullPage}
use Rattle.stations.specs.declared.turn.CallerState.{CallerState}
use Rattle.stations.specs.declared.turn.CallerState.TheVariants.{WaitDis, WaitCfr, WaitBlock, WaitReady}
use Rattle.stations.specs.declared.turn.End.{End}
use Rattle.stations.specs.declared.turn.Turn.{Turn}
use Rattle.stations.specs.declared.turn.Turn.TheVariants as turn
use Rattle.line_sim.proofs.Bursts.{every_frame}
use Rattle.line_sim.proofs.Lists.{either}
use Rattle.line_sim.specs.Headline.{LineHolds}
use Rattle.line_sim.specs.Line.{World, Outcome, Done, new_world, caller_sends, answerer_sends, caller_acts, answerer_acts}
use Rattle.line_sim.specs.LineFacts.{LineFacts, IsDis, OnlyDisAfterFirst, MayReachAnswerer, SaysBlock}
use Rattle.line_sim.specs.declared.event.Event.{Event}
use Rattle.referee.proofs.Numbers.{nowhere}
use Rattle.referee.specs.Frames.{asked, holds, some_frame}
use Rattle.referee.specs.History.{PlainSaid, look}
use Rattle.referee.specs.Questions.{tell}
use Rattle.referee.specs.Rules.{rcps}
use Rattle.referee.specs.declared.frame_test.FrameTest.TheVariants.{LeftOut}
use Rattle.referee.specs.declared.question.Question.TheVariants.{InBurst, Left}
use Rattle.referee.specs.declared.rule.Rule.TheVariants.{NotSentAgain, RcpCount}
use Rattle.judged_calls.proofs.AfterDcn.{caller_sends_are}
use Rattle.judged_calls.proofs.AskedFrames.{OfAnswerer, answerer_is}
use Rattle.judged_calls.proofs.BlockSaid.{block_sizes, training_all, said_append}
use Rattle.judged_calls.proofs.BlockSteps.{IsOpening, Steps, NoBlockTurn, step_steps, NoBurst, block_at}
use Rattle.judged_calls.proofs.BlockSaid.{next_facts, same_place}
use Rattle.judged_calls.proofs.Events.{ToCaller, ToAnswerer, PartsKeep, run_keeps, caller_takes, AllDone}
use Rattle.judged_calls.proofs.Latest.{says, Latest, BurstFits, LetsBurst, Heard, step_bursts, latest_answered, latest_called}
use Rattle.judged_calls.proofs.Offers.{answerer_sends_are}
use Rattle.judged_calls.proofs.OwnSignals.{each_append}
use Rattle.judged_calls.proofs.PprsAsk.{OfCaller, PprBy, PprFits, step_fits, counted_last, few_frames, missing_one}
use Rattle.judged_calls.proofs.Bools.{or_true, and_false}
use Rattle.judged_calls.specs.SaidCalls.{and_said, caller_speaks, answerer_speaks, call_said, Keeps, IsWhole, RuleIsKeptWithMemory}

abbrev pub Keeps2 : List PlainSaid → Type 0
Keeps2 before = Keeps NotSentAgain before × Keeps RcpCount before

-- the caller's last frame is none of a burst
abbrev pub Quiet : List PlainSaid → Type 0
Quiet before = (begun : Bool) → look (tell InBurst) begun before ≡ false

-- ---- the frames of a burst

-- no frame of the block that the PPR asks for is left out
abbrev pub NoneLeft : ℕ → List PlainSaid → Type 0
NoneLeft count before = (n : ℕ) → n < count → (begun : Bool) → look (tell (Left n)) begun before ≡ false

-- a frame that is left out from a number on is marked
abbrev pub LeftMarked : List ℕ → ℕ → List PlainSaid → Type 0
LeftMarked marks number before = (n : ℕ) → number ≤ n → (begun : Bool) → look (tell (Left n)) begun before ≡ true → bit_of marks n ≡ true

left_or : (b c : Bool) → unwrap_or (cond b (Some false) None) c ≡ true → c ≡ true
left_or true c e = absurd (cc)
left_or false c e = e

left_none : (b c : Bool) → (b ≡ false → c ≡ false) → unwrap_or (cond b (Some false) None) c ≡ false
left_none true c h = refl
left_none false c h = h refl

sends_all : (marks : List ℕ) (number : ℕ) (frames : List (List ℕ)) (before : List PlainSaid) → LeftMarked marks number before →
    NoneLeft number before → NoneLeft (number + length frames) (and_said CallerSide (fcds marks number frames) before)
sends_all marks number [] before marked none = λ n low begun. none n (omega (arith, low)) begun
sends_all marks number (octets ∷ frames) before marked none =
    λ n low begun. at (sends_all marks (suc number) frames) (bit_of marks number) refl n (omega (arith, low)) begun
  where
    later : (n : ℕ) → n < suc number → (begun : Bool) → unwrap_or (cond (nat_eq number n) (Some false) None) (look (tell (Left n)) (begun || true) before) ≡ false
    later n low begun = left_none (nat_eq number n) _ (λ e. none n (less (eqb-false number n e)) (begun || true))
      where
        less : (number ≡ n → ⊥) → n < number
        less apart = omega (arith, low, apart)

    stays : (n : ℕ) → n < suc number → bit_of marks number ≡ false → (begun : Bool) → look (tell (Left n)) begun before ≡ false
    stays n low bit begun = by_number (nat_eq number n) refl
      where
        less : (number ≡ n → ⊥) → n < number
        less apart = omega (arith, low, apart)

        by_number : (b : Bool) → nat_eq number n ≡ b → look (tell (Left n)) begun before ≡ false
        by_number true e =
            let same : number ≡ n = eqb-true number n e in
            false_from_ne_true _ (λ left. (let both : true ≡ false =
            sym (marked n (omega (arith, same)) begun left) ∙ subst (λ k. bit_of marks k ≡ false) same bit in cc))
        by_number false e = none n (less (eqb-false number n e)) begun

    at : ((said : List PlainSaid) → LeftMarked marks (suc number) said → NoneLeft (suc number) said →
        NoneLeft (suc number + length frames) (and_said CallerSide (fcds marks (suc number) frames) said)) →
        (b : Bool) → bit_of marks number ≡ b → NoneLeft (suc number + length frames)
        (and_said CallerSide (cond b (framed (fcd number octets) ∷ fcds marks (suc number) frames) (fcds marks (suc number) frames)) before)
    at rest true bit =
        rest (record { by = CallerSide; signal = fcd number octets } ∷ before)
        (λ n up begun left. marked n (omega (arith, up)) (begun || true) (left_or (nat_eq number n) _ left)) later
    at rest false bit = rest before (λ n up. marked n (omega (arith, up))) (λ n low. stays n low bit)

-- the caller's last frames: those of a burst, of which so many RCPs came last
pub record Ready (count : ℕ) (before : List PlainSaid) : Type 0 where
  pub burst : look (tell InBurst) false before ≡ true
  pub ends : rcps before ≡ count

ready_stays : (marks : List ℕ) (number : ℕ) (frames : List (List ℕ)) (before : List PlainSaid) → Ready 0 before →
    Ready 0 (and_said CallerSide (fcds marks number frames) before)
ready_stays marks number [] before h = h
ready_stays marks number (octets ∷ frames) before h =
    either (λ items. Ready 0 (and_said CallerSide items before)) (bit_of marks number) _ _
    (λ bit. ready_stays marks (suc number) frames (record { by = CallerSide; signal = fcd number octets } ∷ before)
    (record { burst = refl; ends = refl }))
    (λ bit. ready_stays marks (suc number) frames before h)

-- with a marked frame among them, a frame comes last
some_sent : (marks : List ℕ) (number : ℕ) (frames : List (List ℕ)) (before : List PlainSaid) (n : ℕ) → number ≤ n →
    n < number + length frames → bit_of marks n ≡ true → Ready 0 (and_said CallerSide (fcds marks number frames) before)
some_sent marks number [] before n low up bit = absurd (omega (arith, low, up))
some_sent marks number (octets ∷ frames) before n low up bit = at (some_sent marks (suc number) frames before n) (bit_of marks number) refl
  where
    at : (suc number ≤ n → n < suc number + length frames → bit_of marks n ≡ true →
        Ready 0 (and_said CallerSide (fcds marks (suc number) frames) before)) → (b : Bool) → bit_of marks number ≡ b → Ready 0
        (and_said CallerSide (cond b (framed (fcd number octets) ∷ fcds marks (suc number) frames) (fcds marks (suc number) frames)) before)
    at rest true is =
        ready_stays marks (suc number) frames (record { by = CallerSide; signal = fcd number octets } ∷ before)
        (record { burst = refl; ends = refl })
    at rest false is = rest (above (nat_eq number n) refl) (omega (arith, up)) bit
      where
        apart_less : (number ≡ n → ⊥) → suc number ≤ n
        apart_less apart = omega (arith, low, apart)

        above : (b : Bool) → nat_eq number n ≡ b → suc number ≤ n
        above true e = absurd (let both : true ≡ false = sym bit ∙ (ap (bit_of marks) (sym (eqb-true number n e)) ∙ is) in cc)
        above false e = apart_less (eqb-false number n e)

frames_keep : (marks : List ℕ) (number : ℕ) (frames : List (List ℕ)) (before : List PlainSaid) → Keeps2 before →
    Keeps2 (and_said CallerSide (fcds marks number frames) before)
frames_keep marks number [] before h = h
frames_keep marks number (octets ∷ frames) before h =
    either (λ items. Keeps2 (and_said CallerSide items before)) (bit_of marks number) _ _
    (λ bit. frames_keep marks (suc number) frames (record { by = CallerSide; signal = fcd number octets } ∷ before) ((refl, h.0), (refl, h.1)))
    (λ bit. frames_keep marks (suc number) frames before h)

-- ---- the RCPs and the PPS

rcp_said : (count : ℕ) (before : List PlainSaid) → count < 3 → nat_le 3 count ≡ false → Ready count before → Keeps2 before →
    Ready (1 + count) (record { by = CallerSide; signal = rcp } ∷ before) × Keeps2 (record { by = CallerSide; signal = rcp } ∷ before)
rcp_said count before low few h keeps = (
  record { burst = refl; ends = ap (λ k. 1 + k) h.ends },
  ((refl, keeps.0), (ap (λ b. not b || nat_le 3 (rcps before)) h.burst ∙ (ap (nat_le 3) h.ends ∙ few), keeps.1)),
)

none_left_stays : (count : ℕ) (before : List PlainSaid) → NoneLeft count before → NoneLeft count (record { by = CallerSide; signal = rcp } ∷ before)
none_left_stays count before h n low begun = h n low (begun || false)

pps_said : (block : Block) (before : List PlainSaid) → suc (last_frame_of block) ≡ length block.frames → NoneLeft (length block.frames) before →
    Ready 3 before → Keeps2 before →
    Keeps2 (record { by = CallerSide; signal = pps block.ends (mark_of block).page (mark_of block).block (last_frame_of block) } ∷ before)
pps_said block before full none ready keeps = (
  (
    ap (λ b. asked InBurst before && b) (nowhere (λ k. holds (LeftOut (last_frame_of block)) k before) (λ n within. at n (nat_le n (last_frame_of block)) refl)) ∙
        and_false (asked InBurst before),
    keeps.0,
  ),
  (ap (λ k. asked InBurst before && not (nat_eq k 3)) ready.ends ∙ and_false (asked InBurst before), keeps.1),
)
  where
    at : (n : ℕ) (b : Bool) → nat_le n (last_frame_of block) ≡ b → holds (LeftOut (last_frame_of block)) n before ≡ false
    at n true is =
        let low : n ≤ last_frame_of block = leb-true n (last_frame_of block) is in
        ap (λ b. nat_le n (last_frame_of block) && b) (none n (subst (λ k. n < k) full (omega (arith, low))) false) ∙
        and_false (nat_le n (last_frame_of block))
    at n false is = ap (λ b. b && asked (Left n) before) is

-- a burst of which a frame is marked
burst_said : (marks : List ℕ) (block : Block) (before : List PlainSaid) → suc (last_frame_of block) ≡ length block.frames →
    LeftMarked marks 0 before → ((n : ℕ) × (n < length block.frames) × (bit_of marks n ≡ true)) → Keeps2 before →
    Quiet (and_said CallerSide (burst_of marks (Some block)) before) × Keeps2 (and_said CallerSide (burst_of marks (Some block)) before)
burst_said marks block before full marked some keeps =
    let middle = and_said CallerSide (fcds marks 0 block.frames) before in
    let ready : Ready 0 middle = some_sent marks 0 block.frames before some.0 (omega arith) (omega (arith, some.1)) some.2 in
    let none : NoneLeft (length block.frames) middle =
    λ n low. sends_all marks 0 block.frames before marked (λ k low begun. absurd (omega (arith, low))) n (omega (arith, low)) in
    let one = rcp_said 0 middle (omega arith) refl ready (frames_keep marks 0 block.frames before keeps) in
    let two = rcp_said 1 _ (omega arith) refl one.0 one.1 in
    let three = rcp_said 2 _ (omega arith) refl two.0 two.1 in
    let end : PlainSaid = record { by = CallerSide; signal = rcp } in
    let none_three = none_left_stays (length block.frames) (end ∷ end ∷ middle)
    (none_left_stays (length block.frames) (end ∷ middle) (none_left_stays (length block.frames) middle none)) in
    subst (λ all. Quiet all × Keeps2 all)
    (sym (said_append CallerSide (fcds marks 0 block.frames) (framed rcp ∷ framed rcp ∷ framed rcp ∷ pps_of block ∷ []) before))
    (λ begun. refl, pps_said block _ full none_three three.0 three.1)

-- ---- another turn

-- an item of the caller that is none of a burst
abbrev pub Plain : PlainItem → Type 0
Plain (framed (fcd number octets)) = ⊥
Plain (framed rcp) = ⊥
Plain item = OfCaller item

plain_said : (signal : PlainSignal) (before : List PlainSaid) → Plain (framed signal) → Quiet before × Keeps2 before →
    Quiet (record { by = CallerSide; signal = signal } ∷ before) × Keeps2 (record { by = CallerSide; signal = signal } ∷ before)
plain_said (dcs params) before is h = (λ begun. refl, ((refl, h.1.0), (refl, h.1.1)))
plain_said (pps ends page block last) before is h = (
  λ begun. refl,
  (
    (ap (λ b. b && some_frame (LeftOut last) before) (h.0 false), h.1.0),
    (ap (λ b. b && not (nat_eq (rcps before) 3)) (h.0 false), h.1.1),
  ),
)
plain_said rr before is h = (λ begun. refl, ((refl, h.1.0), (refl, h.1.1)))
plain_said dcn before is h = (λ begun. refl, ((refl, h.1.0), (refl, h.1.1)))
plain_said signal before is h = absurd is

pps_plain : (block : Option Block) → Each Plain (pps_items block)
pps_plain None = tt
pps_plain (Some block) = (tt, tt)

plain_items : (next : Caller) (t : Turn) → NoBurst t → Each Plain (caller_items next t)
plain_items next turn.Training none = training_all Plain (λ params. tt) (λ octets. tt) next.state next.params
plain_items next (turn.Burst marks) none = absurd none
plain_items next turn.Pps none = pps_plain (present_block next)
plain_items next turn.Rr none = (tt, tt)
plain_items next turn.Dcn none = (tt, tt)
plain_items next t none = tt

-- ---- what is under way to the caller

-- a PPR asks for a frame of the block at the caller's place
abbrev pub AsksSome : Option Block → PlainItem → Type 0
AsksSome (Some block) (framed (ppr marks)) = (n : ℕ) × (n < length block.frames) × (bit_of marks n ≡ true)
AsksSome block item = Unit {0}

dis_asks : (b : Option Block) (items : List PlainItem) → Each IsDis items → Each (AsksSome b) items
dis_asks b [] h = tt
dis_asks None (item ∷ items) h = (at item, dis_asks None items h.1)
  where
    at : (item : PlainItem) → AsksSome None item
    at item = tt
dis_asks (Some block) (framed (dis caps) ∷ items) h = (tt, dis_asks (Some block) items h.1)
dis_asks (Some block) (item ∷ items) h = absurd h.0

-- a timer of a caller that says nothing then leaves it as it is
abbrev pub SilentTimer : CallerInput → Caller → CallerAnswer → Type 0
SilentTimer (hears signal) c answer = Unit {0}
SilentTimer timeout c answer = answer.turn ≡ turn.Silent → answer.next ≡ c
SilentTimer t5 c answer = answer.turn ≡ turn.Silent → answer.next ≡ c

again_timer : (c : Caller) (t : Turn) → (t ≡ turn.Silent → ⊥) → (tries_again c t).turn ≡ turn.Silent → (tries_again c t).next ≡ c
again_timer c t loud =
    either (λ (a : CallerAnswer). a.turn ≡ turn.Silent → a.next ≡ c) (nat_lt c.try 3) _ _ (λ k e. absurd (loud e)) (λ k e. absurd (cc))

table_timer : (state : CallerState) (input : CallerInput) (c : Caller) → SilentTimer input c (caller_table state input c)
table_timer state (hears signal) c = tt
table_timer WaitDis timeout c = λ e. absurd (cc)
table_timer WaitCfr timeout c = again_timer c turn.Training (λ e. cc)
table_timer WaitBlock timeout c = again_timer c turn.Pps (λ e. cc)
table_timer WaitReady timeout c = again_timer c turn.Rr (λ e. cc)
table_timer WaitReady t5 c = λ e. absurd (cc)
table_timer WaitDis t5 c = λ e. refl
table_timer WaitCfr t5 c = λ e. refl
table_timer WaitBlock t5 c = λ e. refl

step_timer : (c : Caller) (input : CallerInput) → SilentTimer input c (caller_step c input)
step_timer c input = at c.ending
  where
    silent : (i : CallerInput) → SilentTimer i c (record { next = c; turn = turn.Silent })
    silent (hears signal) = tt
    silent timeout = λ e. refl
    silent t5 = λ e. refl

    at : (ending : Option End) → SilentTimer input c (unless_caller_ended ending input c)
    at (Some why) = silent input
    at None = table_timer c.state input c

-- ---- a world and what was said in it

pub record BurstSaid (w : World) (before : List PlainSaid) : Type 0 where
  pub latest : Each (Latest before) w.to_caller
  pub asks : Each (AsksSome (block_at w.caller)) w.to_caller
  pub quiet : Quiet before
  pub keeps : Keeps2 before

-- what is asked for by the input, and by what is under way after it
asks_taken : (b : Option Block) (input : CallerInput) (items rest : List PlainItem) → ToCaller input items rest → Each (AsksSome b) items →
    Each (AsksSome b) rest
asks_taken b (hears signal) items rest is h = (subst (Each (AsksSome b)) is h).1
asks_taken b timeout items rest is h = subst (Each (AsksSome b)) is h
asks_taken b t5 items rest is h = subst (Each (AsksSome b)) is h

abbrev pub AskedBy : Option Block → CallerInput → Type 0
AskedBy b (hears signal) = AsksSome b (framed signal)
AskedBy b _ = Unit {0}

asked_by : (b : Option Block) (input : CallerInput) (items rest : List PlainItem) → ToCaller input items rest → Each (AsksSome b) items →
    AskedBy b input
asked_by b (hears signal) items rest is h = (subst (Each (AsksSome b)) is h).0
asked_by b timeout items rest is h = tt
asked_by b t5 items rest is h = tt

-- a burst has a frame
lets_some : (input : CallerInput) (marks : List ℕ) (block : Block) → LetsBurst input marks → AskedBy (Some block) input → 0 < length block.frames →
    (n : ℕ) × (n < length block.frames) × (bit_of marks n ≡ true)
lets_some (hears (ppr others)) marks block lets asks some = (asks.0, asks.1, subst (λ m. bit_of m asks.0 ≡ true) lets asks.2)
lets_some (hears cfr) marks block lets asks some = (0, some, subst (λ m. bit_of m 0 ≡ true) lets (every_frame 0 (omega arith)))
lets_some (hears mcf) marks block lets asks some = (0, some, subst (λ m. bit_of m 0 ≡ true) lets (every_frame 0 (omega arith)))
lets_some input marks block lets asks some = absurd lets

lets_marked : (input : CallerInput) (marks : List ℕ) (before : List PlainSaid) → LetsBurst input marks → Heard before input → LeftMarked marks 0 before
lets_marked (hears (ppr others)) marks before lets heard n up begun left =
    subst (λ m. bit_of m n ≡ true) lets (sym (heard.left n begun) ∙ left)
lets_marked (hears cfr) marks before lets heard n up begun left =
    absurd (let both : true ≡ false = sym left ∙ heard.left n begun in cc)
lets_marked (hears mcf) marks before lets heard n up begun left =
    absurd (let both : true ≡ false = sym left ∙ heard.left n begun in cc)
lets_marked input marks before lets heard n up begun left = absurd lets

module _ (w : World) (f : LineFacts w) (rest : List PlainItem) (input : CallerInput) (before : List PlainSaid)
    (after : LineFacts (caller_acts (record w { to_caller = rest }) Done input)) (is : ToCaller input w.to_caller rest) (h : BurstSaid w before) where
  abbrev reply : CallerAnswer
  reply = caller_step w.caller input

  heard : Heard before input
  heard = (caller_takes (Latest before) input w.to_caller rest is h.latest).0

  abbrev Then : Turn → Type 0
  Then t = Quiet (and_said CallerSide (caller_items reply.next t) before) × Keeps2 (and_said CallerSide (caller_items reply.next t) before)

  burst_then : (marks : List ℕ) (b : Option Block) → LetsBurst input marks →
      ((block : Block) → b ≡ Some block → (suc (last_frame_of block) ≡ length block.frames) × AskedBy (Some block) input) →
      Quiet (and_said CallerSide (burst_of marks b) before) × Keeps2 (and_said CallerSide (burst_of marks b) before)
  burst_then marks None lets known = (h.quiet, h.keeps)
  burst_then marks (Some block) lets known =
      let full = (known block refl).0 in
      burst_said marks block before full (lets_marked input marks before lets heard)
      (lets_some input marks block lets (known block refl).1 (subst (λ k. 0 < k) full (omega arith))) h.keeps

  plain_then : NoBurst reply.turn → Then reply.turn
  plain_then none =
      says CallerSide (λ said. Quiet said × Keeps2 said) Plain plain_said _ before (plain_items reply.next reply.turn none) (h.quiet, h.keeps)

  none_is : (t : Turn) → NoBlockTurn t → NoBurst t
  none_is (turn.Burst marks) none = absurd none
  none_is t none = tt

  opening_asks : (i : CallerInput) (b : Option Block) → IsOpening i → AskedBy b i
  opening_asks (hears cfr) None opens = tt
  opening_asks (hears cfr) (Some block) opens = tt
  opening_asks (hears mcf) None opens = tt
  opening_asks (hears mcf) (Some block) opens = tt
  opening_asks i b opens = absurd opens

  then : Steps w.caller input reply → Then reply.turn
  then (inl still) = plain_then (none_is reply.turn still.0)
  then (inr (inl again)) = plain_then (subst NoBurst (sym again.0) tt)
  then (inr (inr (inl frames))) =
      let marks = frames.1.0 in
      let there = frames.2 ∙ same_place w f rest input before after is frames.0 in
      subst Then (sym frames.1.1)
      (subst (λ b. Quiet (and_said CallerSide (burst_of marks b) before) × Keeps2 (and_said CallerSide (burst_of marks b) before)) (sym there)
      (burst_then marks (block_at w.caller) (subst (BurstFits input) frames.1.1 (step_bursts w.caller input))
      (λ block e. (
        (block_sizes w.caller w.answerer f.accepted block f.stations e).0,
        subst (λ b. AskedBy b input) e (asked_by (block_at w.caller) input w.to_caller rest is h.asks),
      ))))
  then (inr (inr (inr first))) =
      subst Then (sym first.0)
      (subst (λ b. Quiet (and_said CallerSide (burst_of all_frames b) before) × Keeps2 (and_said CallerSide (burst_of all_frames b) before))
      (sym first.2)
      (burst_then all_frames (block_at reply.next) (opening_lets input first.1)
      (λ block e. (
        (block_sizes reply.next w.answerer after.accepted block (next_facts w f rest input before after is) e).0,
        opening_asks input (Some block) first.1,
      ))))
    where
      opening_lets : (i : CallerInput) → IsOpening i → LetsBurst i all_frames
      opening_lets (hears cfr) opens = refl
      opening_lets (hears mcf) opens = refl
      opening_lets i opens = absurd opens

  -- what is asked for after a turn: it drops what is under way, unless it is silent
  silent_rest : (i : CallerInput) → ToCaller i w.to_caller rest → SilentTimer i w.caller reply → reply.turn ≡ turn.Silent →
      Each (AsksSome (block_at reply.next)) rest
  silent_rest (hears signal) gives timer silent = dis_asks (block_at reply.next) rest (subst OnlyDisAfterFirst gives f.only_dis)
  silent_rest timeout gives timer silent =
      subst (λ c. Each (AsksSome (block_at c)) rest) (sym (timer silent)) (subst (Each (AsksSome (block_at w.caller))) gives h.asks)
  silent_rest t5 gives timer silent =
      subst (λ c. Each (AsksSome (block_at c)) rest) (sym (timer silent)) (subst (Each (AsksSome (block_at w.caller))) gives h.asks)

  asks_then : (t : Turn) → reply.turn ≡ t →
      Each (AsksSome (block_at reply.next)) (caller_sends t (record w { to_caller = rest }) reply.next (caller_items reply.next t)).to_caller
  asks_then turn.Silent silent = silent_rest input is (step_timer w.caller input) silent
  asks_then t loud = tt

caller_done : (w : World) (rest : List PlainItem) (input : CallerInput) (before : List PlainSaid) → LineFacts w →
    LineFacts (caller_acts (record w { to_caller = rest }) Done input) → ToCaller input w.to_caller rest → BurstSaid w before →
    BurstSaid (caller_acts (record w { to_caller = rest }) Done input) (caller_speaks w.caller Done input before)
caller_done w rest input before f after is h =
    let v : World = record w { to_caller = rest } in
    let answer = caller_step w.caller input in
    let items = caller_items answer.next answer.turn in
    let are = caller_sends_are answer.turn v answer.next items in
    let said = then w f rest input before after is h (step_steps w.caller input) in
    record {
      latest = latest_called answer.turn v answer.next Done before (caller_takes (Latest before) input w.to_caller rest is h.latest).1;
      asks = subst (λ c. Each (AsksSome (block_at c)) (caller_sends answer.turn v answer.next items).to_caller) (sym are.0)
          (asks_then w f rest input before after is h answer.turn refl);
      quiet = said.0;
      keeps = said.1;
    }

-- ---- the answerer's step

answer_said : (signal : PlainSignal) (before : List PlainSaid) → OfAnswerer (framed signal) → Quiet before × Keeps2 before →
    Quiet (record { by = AnswererSide; signal = signal } ∷ before) × Keeps2 (record { by = AnswererSide; signal = signal } ∷ before)
answer_said (dis caps) before own h = (λ begun. h.0 (begun || false), ((refl, h.1.0), (refl, h.1.1)))
answer_said cfr before own h = (λ begun. h.0 (begun || false), ((refl, h.1.0), (refl, h.1.1)))
answer_said ftt before own h = (λ begun. h.0 (begun || false), ((refl, h.1.0), (refl, h.1.1)))
answer_said mcf before own h = (λ begun. h.0 (begun || false), ((refl, h.1.0), (refl, h.1.1)))
answer_said (ppr marks) before own h = (λ begun. h.0 (begun || false), ((refl, h.1.0), (refl, h.1.1)))
answer_said rnr before own h = (λ begun. h.0 (begun || false), ((refl, h.1.0), (refl, h.1.1)))
answer_said dcn before own h = (λ begun. h.0 (begun || false), ((refl, h.1.0), (refl, h.1.1)))
answer_said signal before own h = absurd own

abbrev pub NoPpr : PlainItem → Type 0
NoPpr (framed (ppr marks)) = ⊥
NoPpr item = Unit {0}

no_ppr : (b : Option Block) (item : PlainItem) → NoPpr item → AsksSome b item
no_ppr None item none = tt
no_ppr (Some block) (framed (ppr marks)) none = absurd none
no_ppr (Some block) item none = tt

-- a PPR asks for a frame that is missing
ppr_asks : (w : World) (f : LineFacts w) (rest : List PlainItem) (input : AnswererInput) → ToAnswerer input w.to_answerer rest → (marks : List ℕ) →
    PprBy w.answerer input marks → (b : Option Block) → block_at w.caller ≡ b → AsksSome b (framed (ppr marks))
ppr_asks w f rest input is marks by None there = tt
ppr_asks w f rest (listens (pps ends page block last)) is marks by (Some present) there =
    let mark : Mark = record { page = page; block = block } in
    let says : SaysBlock (block_at w.caller) ends mark last = (subst (Each (MayReachAnswerer w.caller f.accepted)) is f.to_answerer).0.1 in
    let named : SaysBlock (Some present) ends mark last = subst (λ b. SaysBlock b ends mark last) there says in
    let few = few_frames w.caller f.stations.call.readable in
    let counted = counted_last w.answerer.asked (block_at w.caller) w.caller.place f.accepted ends mark last few f.stations.asked says in
    let missing : all_there w.answerer.frames last ≡ false = subst (λ k. all_there w.answerer.frames k ≡ false) counted.0 by.1 in
    let found = missing_one w.answerer.frames last missing in
    let n = found.0 in
    let full = (block_sizes w.caller w.answerer f.accepted present f.stations there).0 in
    let bit : bit_of (ppr_map w.answerer.frames last) n ≡ true =
    bit_in_map w.answerer.frames last n (omega (arith, found.1, counted.1)) ∙
    (ap (λ b. nat_lt last n || not b) found.2 ∙ or_true (nat_lt last n)) in
    let is_map : marks ≡ ppr_map w.answerer.frames last = by.0 ∙ ap (ppr_map w.answerer.frames) counted.0 in
    (n, subst (λ k. n < k) (ap suc named.2 ∙ full) found.1, subst (λ m. bit_of m n ≡ true) (sym is_map) bit)
ppr_asks w f rest input is marks by b there = absurd by

module _ (w : World) (f : LineFacts w) (rest : List PlainItem) (input : AnswererInput) (is : ToAnswerer input w.to_answerer rest)
    (h : Each (AsksSome (block_at w.caller)) w.to_caller) where
  abbrev answer_next : Answerer
  answer_next = (answerer_step w.answerer input).next

  one_more : (item : PlainItem) → AsksSome (block_at w.caller) item → Each (AsksSome (block_at w.caller)) (w.to_caller ++ item ∷ [])
  one_more item new = each_append (AsksSome (block_at w.caller)) w.to_caller (item ∷ []) h (new, tt)

  none_more : Each (AsksSome (block_at w.caller)) (w.to_caller ++ [])
  none_more = each_append (AsksSome (block_at w.caller)) w.to_caller [] h tt

  asks_answered : (t : Turn) → PprFits w.answerer input t → Each (AsksSome (block_at w.caller))
      (answerer_sends t (record w { to_answerer = rest }) answer_next (answerer_items answer_next t)).to_caller
  asks_answered turn.Silent fits = h
  asks_answered turn.Dis fits = one_more (framed (dis answer_next.caps)) (no_ppr (block_at w.caller) (framed (dis answer_next.caps)) tt)
  asks_answered turn.Cfr fits = one_more (framed cfr) (no_ppr (block_at w.caller) (framed cfr) tt)
  asks_answered turn.Ftt fits = one_more (framed ftt) (no_ppr (block_at w.caller) (framed ftt) tt)
  asks_answered turn.Mcf fits = one_more (framed mcf) (no_ppr (block_at w.caller) (framed mcf) tt)
  asks_answered (turn.Ppr marks) fits = one_more (framed (ppr marks)) (ppr_asks w f rest input is marks fits (block_at w.caller) refl)
  asks_answered turn.Rnr fits = one_more (framed rnr) (no_ppr (block_at w.caller) (framed rnr) tt)
  asks_answered turn.Dcn fits = one_more (framed dcn) (no_ppr (block_at w.caller) (framed dcn) tt)
  asks_answered turn.Training fits = none_more
  asks_answered (turn.Burst marks) fits = none_more
  asks_answered turn.Pps fits = none_more
  asks_answered turn.Rr fits = none_more

answerer_done : (w : World) (rest : List PlainItem) (input : AnswererInput) (before : List PlainSaid) → LineFacts w →
    LineFacts (answerer_acts (record w { to_answerer = rest }) Done input) → ToAnswerer input w.to_answerer rest → BurstSaid w before →
    BurstSaid (answerer_acts (record w { to_answerer = rest }) Done input) (answerer_speaks w.answerer Done input before)
answerer_done w rest input before f after is h =
    let v : World = record w { to_answerer = rest } in
    let answer = answerer_step w.answerer input in
    let items = answerer_items answer.next answer.turn in
    let are = answerer_sends_are answer.turn v answer.next items in
    let said = says AnswererSide (λ said. Quiet said × Keeps2 said) OfAnswerer answer_said items before (answerer_is answer.next answer.turn)
    (h.quiet, h.keeps) in
    record {
      latest = latest_answered answer.turn v answer.next Done before after.only_dis h.latest;
      asks = subst (λ c. Each (AsksSome (block_at c)) (answerer_sends answer.turn v answer.next items).to_caller) (sym are.0)
          (asks_answered w f rest input is h.asks answer.turn (step_fits w.answerer input));
      quiet = said.0;
      keeps = said.1;
    }

parts_keep : PartsKeep BurstSaid LineFacts AllDone
parts_keep = record {
  caller = λ w rest outcome input before fine f after is h.
      subst (λ o. BurstSaid (caller_acts (record w { to_caller = rest }) o input) (caller_speaks w.caller o input before)) (sym fine)
      (caller_done w rest input before f after is h);
  answerer = λ w rest outcome input before fine f after is h.
      subst (λ o. BurstSaid (answerer_acts (record w { to_answerer = rest }) o input) (answerer_speaks w.answerer o input before)) (sym fine)
      (answerer_done w rest input before f after is h);
  lost_to_caller = λ w item rest before is h. record {
    latest = (subst (Each (Latest before)) is h.latest).1;
    asks = (subst (Each (AsksSome (block_at w.caller))) is h.asks).1;
    quiet = h.quiet;
    keeps = h.keeps;
  };
  lost_to_answerer = λ w item rest before is h. record { latest = h.latest; asks = h.asks; quiet = h.quiet; keeps = h.keeps };
  spoil = λ w before h. record { latest = h.latest; asks = h.asks; quiet = h.quiet; keeps = h.keeps };
}

-- the laws
pub bursts_are_said : LineHolds → RuleIsKeptWithMemory NotSentAgain × RuleIsKeptWithMemory RcpCount
bursts_are_said holds_facts = (
  λ document wish caps steps full whole. (all document wish caps steps full whole).0,
  λ document wish caps steps full whole. (all document wish caps steps full whole).1,
)
  where
    all : (document : Document) (wish : Wish) (caps : Caps) (steps : List (Event × Outcome)) → Each IsFullPage document →
        Each IsWhole steps → Keeps2 (call_said document wish caps steps)
    all document wish caps steps full whole =
        (run_keeps BurstSaid LineFacts AllDone parts_keep steps (new_world document wish caps) (record { by = AnswererSide; signal = dis caps } ∷ [])
        whole (λ more. holds_facts document wish caps more full) (record {
          latest = (tt, tt);
          asks = (no_ppr (block_at (new_world document wish caps).caller) (framed (dis caps)) tt, tt);
          quiet = λ begun. refl;
          keeps = ((refl, tt), (refl, tt));
        })).keeps
