-- A PPR asks for no frame that the answerer has told as come: rule AsksAgain, where no growth is refused.
use Rattle.std.proofs.Common.{◌≡◌, ℕ, zero, suc, ◌<◌, Bool, true, false, cond, ◌&&◌, ◌||◌, List, [], ◌∷◌, ◌++◌, refl, sym, ap, subst, ◌∙◌, arith, length, ◌⊎◌, inl, inr}
use Rattle.std.specs.Prelude.{Option, Some, None, not, nat_lt, slice_get, slice_set, ◌≢◌}
use Rattle.std.proofs.lemmas.Bool.{ltb-true, false_from_ne_true}
use Rattle.signals.specs.Signals.{PlainSignal, dis, dcs, fcd, rcp, pps, ppr, rr, dcn}
use Rattle.signals.specs.declared.mark.Mark.{Mark}
use Rattle.signals.specs.declared.signal.Side.TheVariants.{Caller as CallerSide, Answerer as AnswererSide}
use Rattle.partial_page.specs.Assembling.{Frames, ppr_map, within_frame_size}
use Rattle.partial_page.specs.Store.{bit_of, has_frame}
use Rattle.stations.proofs.PprMaps.{bit_in_map}
use Rattle.stations.specs.AnswererKeeping.{AnswerersKeep, MeetsDcs, MeetsFrame, TakesBlock}
use Rattle.stations.specs.AnswererStep.{Answerer, AnswererAnswer, answerer_step, answerer_items, answerer_table, unless_answerer_ended, is_repeated}
use Rattle.stations.specs.Blocks.{Block, mark_of}
use Rattle.stations.specs.CallerFields.{IsSending}
use Rattle.stations.specs.CallerStep.{CallerAnswer, caller_step, caller_items, fcds, all_frames, pps_of, burst_of, blocks_of}
use Rattle.stations.specs.Inputs.{CallerInput, AnswererInput, PlainItem, framed, checked, listens}
use Rattle.stations.specs.Laws.{Each}
use Rattle.stations.specs.declared.mark.Accepted.{Accepted}
use Rattle.stations.specs.declared.turn.AnswererState.{AnswererState}
use Rattle.stations.specs.declared.turn.AnswererState.TheVariants.{PhaseB, WaitTraining as InTraining, Message}
use Rattle.stations.specs.declared.turn.End.{End}
use Rattle.stations.specs.declared.turn.Turn.{Turn}
use Rattle.stations.specs.declared.turn.Turn.TheVariants as turn
use Rattle.line_sim.proofs.Bursts.{every_frame}
use Rattle.line_sim.proofs.Lists.{either}
use Rattle.line_sim.specs.Headline.{LineHolds}
use Rattle.line_sim.specs.Line.{World, Done, new_world, caller_sends, answerer_sends, caller_acts, answerer_acts}
use Rattle.line_sim.specs.LineFacts.{LineFacts, MayReachAnswerer, MayReachCaller, SaysBlock}
use Rattle.referee.proofs.Numbers.{nowhere}
use Rattle.referee.specs.Frames.{asked, holds, is_within}
use Rattle.referee.specs.History.{PlainSaid, look, is_fcd}
use Rattle.referee.specs.Questions.{tell}
use Rattle.referee.specs.Rules.{asks_again}
use Rattle.referee.specs.declared.frame_test.FrameTest.TheVariants.{AskedAgain}
use Rattle.referee.specs.declared.question.Question.TheVariants.{SurelyHas, Below, Reaches}
use Rattle.referee.specs.declared.rule.Rule.TheVariants.{AsksAgain}
use Rattle.judged_calls.proofs.AfterDcn.{caller_sends_are}
use Rattle.judged_calls.proofs.BlockSaid.{block_sizes, opens_by, same_place, back, taken_is, mcf_later, no_check}
use Rattle.judged_calls.proofs.BlockSteps.{SameBlock, Steps, step_steps, block_at}
use Rattle.judged_calls.proofs.BlockSaid.{next_facts}
use Rattle.judged_calls.proofs.BlocksWhole.{Whole, Ends, whole_parts, whole_first, not_accepted}
use Rattle.judged_calls.proofs.Events.{ToCaller, ToAnswerer, PartsKeep, run_keeps, caller_takes, AllDone}
use Rattle.judged_calls.proofs.FramesCome.{last_of}
use Rattle.judged_calls.proofs.Latest.{says, Latest, Opens, latest_answered, latest_called}
use Rattle.judged_calls.proofs.Offers.{answerer_sends_are}
use Rattle.judged_calls.proofs.PprsAsk.{OfCaller, caller_is, PprBy, PprFits, step_fits, counted_last, few_frames}
use Rattle.judged_calls.proofs.Bools.{or_none, or_true, and_false}
use Rattle.judged_calls.specs.SaidCalls.{and_said, caller_speaks, answerer_speaks, Keeps, RuleIsKeptWithMemory}

-- ---- what was told as come

-- a frame that was told as come is there
abbrev pub Sure : Frames → List PlainSaid → Type 0
Sure frames before = (n : ℕ) → n < 256 → (begun : Bool) → look (tell (SurelyHas n)) begun before ≡ true → has_frame frames n ≡ true

-- what a caller says tells nothing of it but that a block is begun
abbrev pub has_fcd : List PlainItem → Bool
has_fcd [] = false
has_fcd (framed signal ∷ items) = is_fcd signal || has_fcd items
has_fcd (checked octets ∷ items) = has_fcd items

passes_one : (n : ℕ) (begun : Bool) (signal : PlainSignal) (before : List PlainSaid) → OfCaller (framed signal) →
    look (tell (SurelyHas n)) begun (record { by = CallerSide; signal = signal } ∷ before) ≡ look (tell (SurelyHas n)) (begun || is_fcd signal) before
passes_one n begun (dcs params) before own = refl
passes_one n begun (fcd number octets) before own = refl
passes_one n begun rcp before own = refl
passes_one n begun (pps ends page block last) before own = refl
passes_one n begun rr before own = refl
passes_one n begun dcn before own = refl
passes_one n begun signal before own = absurd own

passes : (n : ℕ) (begun : Bool) (items : List PlainItem) (before : List PlainSaid) → Each OfCaller items →
    look (tell (SurelyHas n)) begun (and_said CallerSide items before) ≡ look (tell (SurelyHas n)) (begun || has_fcd items) before
passes n begun [] before own = ap (λ b. look (tell (SurelyHas n)) b before) (sym (or_none begun))
passes n begun (checked octets ∷ items) before own = passes n begun items before own.1
passes n begun (framed signal ∷ items) before own =
    passes n begun items (record { by = CallerSide; signal = signal } ∷ before) own.1 ∙
    (passes_one n (begun || has_fcd items) signal before own.0 ∙
    ap (λ b. look (tell (SurelyHas n)) b before) (swap begun (has_fcd items) (is_fcd signal)))
  where
    swap : (a b c : Bool) → ((a || b) || c) ≡ (a || (c || b))
    swap true b c = refl
    swap false true true = refl
    swap false true false = refl
    swap false false true = refl
    swap false false false = refl

sure_later : (frames : Frames) (items : List PlainItem) (before : List PlainSaid) → Each OfCaller items → Sure frames before →
    Sure frames (and_said CallerSide items before)
sure_later frames items before own h n within begun has = h n within (begun || has_fcd items) (sym (passes n begun items before own) ∙ has)

-- after a block's first frame nothing was told
first_sure : (frames : Frames) (items : List PlainItem) (before : List PlainSaid) → Each OfCaller items → has_fcd items ≡ true → Opens before →
    Sure frames (and_said CallerSide items before)
first_sure frames items before own some opens n within begun has =
    absurd (let both : true ≡ false =
    sym has ∙ (passes n begun items before own ∙
    (ap (λ b. look (tell (SurelyHas n)) (begun || b) before) some ∙
    (ap (λ b. look (tell (SurelyHas n)) b before) (or_true begun) ∙ opens.has n))) in cc)

-- a first burst has a frame
pub first_has : (block : Block) → 0 < length block.frames → has_fcd (burst_of all_frames (Some block)) ≡ true
first_has block some = at block.frames refl
  where
    at : (frames : List (List ℕ)) → block.frames ≡ frames →
        has_fcd (fcds all_frames 0 frames ++ framed rcp ∷ framed rcp ∷ framed rcp ∷ pps_of block ∷ []) ≡ true
    at [] is = absurd (omega (arith, subst (λ f. 0 < length f) is some))
    at (octets ∷ frames) is =
        subst (λ b. has_fcd (cond b (framed (fcd 0 octets) ∷ fcds all_frames 1 frames) (fcds all_frames 1 frames) ++
        framed rcp ∷ framed rcp ∷ framed rcp ∷ pps_of block ∷ []) ≡ true) (sym (every_frame 0 (omega arith))) refl

-- ---- frames stay

pub put_stays : (frames : Frames) (number : ℕ) (octets : List ℕ) (n : ℕ) → has_frame frames n ≡ true →
    has_frame (slice_set frames number (Some octets)) n ≡ true
put_stays [] number octets n h = h
put_stays (frame ∷ frames) zero octets zero h = refl
put_stays (frame ∷ frames) zero octets (suc n) h = h
put_stays (frame ∷ frames) (suc number) octets zero h = h
put_stays (frame ∷ frames) (suc number) octets (suc n) h = put_stays frames number octets n h

fcd_stays : (state : AnswererState) (number : ℕ) (octets : List ℕ) (s : Answerer) (n : ℕ) → has_frame s.frames n ≡ true →
    has_frame (answerer_table state (listens (fcd number octets)) s).next.frames n ≡ true
fcd_stays PhaseB number octets s n h = h
fcd_stays InTraining number octets s n h = h
fcd_stays Message number octets s n h =
    either (λ (a : AnswererAnswer). has_frame a.next.frames n ≡ true) (within_frame_size s.params octets) _ _
    (λ k. put_stays s.frames number octets n h) (λ k. h)

step_stays : (s : Answerer) (number : ℕ) (octets : List ℕ) (n : ℕ) → has_frame s.frames n ≡ true →
    has_frame (answerer_step s (listens (fcd number octets))).next.frames n ≡ true
step_stays s number octets n h = at s.ending
  where
    at : (e : Option End) → has_frame (unless_answerer_ended e (listens (fcd number octets)) s).next.frames n ≡ true
    at (Some why) = h
    at None = fcd_stays s.state number octets s n h

-- ---- a PPR

-- a number that is told as come by a PPR has a frame
told_has : (frames : Frames) (last n : ℕ) → n < 256 → bit_of (ppr_map frames last) n ≡ false → has_frame frames n ≡ true
told_has frames last n within bit = at (nat_lt last n) (has_frame frames n) (sym (bit_in_map frames last n within) ∙ bit)
  where
    at : (above has : Bool) → (above || not has) ≡ false → has ≡ true
    at above true e = refl
    at true false e = absurd (cc)
    at false false e = absurd (cc)

asks_none : (frames : Frames) (last : ℕ) (before : List PlainSaid) → Sure frames before →
    ((n : ℕ) → last < n → (begun : Bool) → look (tell (Below n)) begun before ≡ true) → asks_again (ppr (ppr_map frames last)) before ≡ false
asks_none frames last before sure ends =
    nowhere (λ k. holds (AskedAgain (ppr_map frames last)) k before) (λ n within. at n within (asked (SurelyHas n) before) refl)
  where
    beyond : (n : ℕ) → last < n → holds (AskedAgain (ppr_map frames last)) n before ≡ false
    beyond n up =
        let outside : is_within n before ≡ false =
        ap (λ b. asked (Reaches n) before && not b) (ends n up false) ∙ and_false (asked (Reaches n) before) in
        ap (λ b. bit_of (ppr_map frames last) n && (b && asked (SurelyHas n) before)) outside ∙ and_false (bit_of (ppr_map frames last) n)

    there : (n : ℕ) → n < 256 → has_frame frames n ≡ true → (b : Bool) → nat_lt last n ≡ b → holds (AskedAgain (ppr_map frames last)) n before ≡ false
    there n within has true is = beyond n (ltb-true last n is)
    there n within has false is =
        ap (λ b. b && (is_within n before && asked (SurelyHas n) before))
        (bit_in_map frames last n within ∙ (ap (λ b. b || not (has_frame frames n)) is ∙ ap not has))

    at : (n : ℕ) → n < 256 → (b : Bool) → asked (SurelyHas n) before ≡ b → holds (AskedAgain (ppr_map frames last)) n before ≡ false
    at n within true is = there n within (sure n within false is) (nat_lt last n) refl
    at n within false is =
        ap (λ b. bit_of (ppr_map frames last) n && (is_within n before && b)) is ∙
        (ap (λ b. bit_of (ppr_map frames last) n && b) (and_false (is_within n before)) ∙ and_false (bit_of (ppr_map frames last) n))

-- ---- a world and what was said in it

-- what was told of the block at a place is so, until the block is accepted
abbrev pub SureAt : Option Accepted → Option Block → Frames → List PlainSaid → Type 0
SureAt accepted None frames before = Unit {0}
SureAt accepted (Some block) frames before = is_repeated accepted (mark_of block) ≡ false → Sure frames before

pub record TellsAll (w : World) (before : List PlainSaid) : Type 0 where
  pub whole : Whole w before
  pub latest : Each (Latest before) w.to_caller
  pub sure : IsSending w.caller.state → SureAt w.answerer.accepted (block_at w.caller) w.answerer.frames before
  pub keeps : Keeps AsksAgain before

-- what the caller says breaks nothing
caller_keeps : (signal : PlainSignal) (before : List PlainSaid) → OfCaller (framed signal) → Keeps AsksAgain before →
    Keeps AsksAgain (record { by = CallerSide; signal = signal } ∷ before)
caller_keeps (dcs params) before own h = (refl, h)
caller_keeps (fcd number octets) before own h = (refl, h)
caller_keeps rcp before own h = (refl, h)
caller_keeps (pps ends page block last) before own h = (refl, h)
caller_keeps rr before own h = (refl, h)
caller_keeps dcn before own h = (refl, h)
caller_keeps signal before own h = absurd own

module _ (w : World) (f : LineFacts w) (rest : List PlainItem) (input : CallerInput) (before : List PlainSaid)
    (after : LineFacts (caller_acts (record w { to_caller = rest }) Done input)) (is : ToCaller input w.to_caller rest) (h : TellsAll w before) where
  abbrev reply : CallerAnswer
  reply = caller_step w.caller input

  abbrev Now : Option Block → List PlainSaid → Type 0
  Now b said = SureAt w.answerer.accepted b w.answerer.frames said

  later : (b : Option Block) (items : List PlainItem) → Each OfCaller items → Now b before → Now b (and_said CallerSide items before)
  later None items own now = tt
  later (Some block) items own now = λ new. sure_later w.answerer.frames items before own (now new)

  first : (b : Option Block) → slice_get (blocks_of reply.next) reply.next.place ≡ b → Each OfCaller (burst_of all_frames b) → Opens before →
      Now b (and_said CallerSide (burst_of all_frames b) before)
  first None there own opens = tt
  first (Some block) there own opens =
      let full = (block_sizes reply.next w.answerer after.accepted block (next_facts w f rest input before after is) there).0 in
      λ new. first_sure w.answerer.frames (burst_of all_frames (Some block)) before own
      (first_has block (subst (λ k. 0 < k) full (omega arith))) opens

  own : Each OfCaller (caller_items reply.next reply.turn)
  own = caller_is reply.next reply.turn

  then : Steps w.caller input reply → IsSending reply.next.state → Now (block_at reply.next) (and_said CallerSide (caller_items reply.next reply.turn) before)
  then (inl still) s = at (still.1 s)
    where
      at : (slice_get (blocks_of reply.next) reply.next.place ≡ None) ⊎ SameBlock w.caller reply →
          Now (block_at reply.next) (and_said CallerSide (caller_items reply.next reply.turn) before)
      at (inl gone) = subst (λ b. Now b (and_said CallerSide (caller_items reply.next reply.turn) before)) (sym gone) tt
      at (inr same) =
          subst (λ b. Now b (and_said CallerSide (caller_items reply.next reply.turn) before)) (sym (same_place w f rest input before after is same))
          (later (block_at w.caller) _ own (h.sure same.0))
  then (inr (inl again)) s =
      subst (λ b. Now b (and_said CallerSide (caller_items reply.next reply.turn) before)) (sym (same_place w f rest input before after is again.1))
      (later (block_at w.caller) _ own (h.sure again.1.0))
  then (inr (inr (inl frames))) s =
      subst (λ b. Now b (and_said CallerSide (caller_items reply.next reply.turn) before)) (sym (same_place w f rest input before after is frames.0))
      (later (block_at w.caller) _ own (h.sure frames.0.0))
  then (inr (inr (inr opens))) s =
      let items : caller_items reply.next reply.turn ≡ burst_of all_frames (block_at reply.next) =
      ap (caller_items reply.next) opens.0 ∙ ap (burst_of all_frames) opens.2 in
      subst (λ xs. Now (block_at reply.next) (and_said CallerSide xs before)) (sym items)
      (first (block_at reply.next) refl (subst (Each OfCaller) items own)
      (opens_by input before opens.1 (caller_takes (Latest before) input w.to_caller rest is h.latest).0))

-- ---- the answerer's step

module _ (keep : AnswerersKeep) (w : World) (f : LineFacts w) (rest : List PlainItem) (input : AnswererInput)
    (is : ToAnswerer input w.to_answerer rest) where
  abbrev answer : AnswererAnswer
  answer = answerer_step w.answerer input

  no_dcs : (i : AnswererInput) → ToAnswerer i w.to_answerer rest → MeetsDcs w.answerer i → IsSending w.caller.state → ⊥
  no_dcs i gives meets sending =
      let heard : w.to_answerer ≡ framed (dcs meets.0) ∷ rest = subst (λ j. ToAnswerer j w.to_answerer rest) meets.1 gives in
      subst IsSending (subst (Each (MayReachAnswerer w.caller f.accepted)) heard f.to_answerer).0.0 sending

  -- frames stay until the block is accepted
  frames_stay : (block : Block) → block_at w.caller ≡ Some block → IsSending w.caller.state →
      is_repeated answer.next.accepted (mark_of block) ≡ false → (n : ℕ) → has_frame w.answerer.frames n ≡ true → has_frame answer.next.frames n ≡ true
  frames_stay block there sending new n has = at (keep w.answerer input).frames
    where
      at : (answer.next.frames ≡ w.answerer.frames) ⊎ MeetsFrame w.answerer input ⊎ (MeetsDcs w.answerer input × (w.answerer.state ≢ PhaseB)) ⊎
          TakesBlock w.answerer input answer.next → has_frame answer.next.frames n ≡ true
      at (inl same) = subst (λ frames. has_frame frames n ≡ true) (sym same) has
      at (inr (inl meets)) =
          subst (λ i. has_frame (answerer_step w.answerer i).next.frames n ≡ true) (sym meets.1.2)
          (step_stays w.answerer meets.1.0 meets.1.1 n has)
      at (inr (inr (inl meets))) = absurd (no_dcs input is meets.0 sending)
      at (inr (inr (inr taken))) =
          absurd (let both : true ≡ false = sym (taken_is keep w f rest input is block there sending taken) ∙ new in cc)

-- a PPR is said of a block that is sent and isn't accepted, and asks for what is missing of it
module _ (keep : AnswerersKeep) (w : World) (f : LineFacts w) (rest : List PlainItem) (input : AnswererInput) (before : List PlainSaid)
    (is : ToAnswerer input w.to_answerer rest) (h : TellsAll w before) where
  abbrev done : AnswererAnswer
  done = answerer_step w.answerer input

  abbrev FactsAfter : Turn → Type 0
  FactsAfter t = LineFacts (answerer_sends t (record w { to_answerer = rest }) done.next (answerer_items done.next t))

  -- the block isn't accepted after a PPR
  ppr_new : (marks : List ℕ) → FactsAfter (turn.Ppr marks) → (block : Block) → block_at w.caller ≡ Some block →
      is_repeated done.next.accepted (mark_of block) ≡ false
  ppr_new marks facts block there =
      false_from_ne_true _ (λ accepted. not_accepted w.caller done.next facts.accepted block facts.stations
      (last_of (MayReachCaller w.caller.place done.next.state facts.accepted) w.to_caller (framed (ppr marks)) facts.to_caller).0
      (there, accepted))

  old_sure : (block : Block) → block_at w.caller ≡ Some block → IsSending w.caller.state → is_repeated done.next.accepted (mark_of block) ≡ false →
      Sure w.answerer.frames before
  old_sure block there sending new =
      subst (λ b. SureAt w.answerer.accepted b w.answerer.frames before) there (h.sure sending)
      (back keep w f rest input is block there sending new)

  ppr_keeps : (i : AnswererInput) → ToAnswerer i w.to_answerer rest → (marks : List ℕ) → PprBy w.answerer i marks →
      ((block : Block) → block_at w.caller ≡ Some block → IsSending w.caller.state → Sure w.answerer.frames before) →
      asks_again (ppr marks) before ≡ false
  ppr_keeps (listens (pps ends page number last)) gives marks by sure = at (block_at w.caller) refl
    where
      mark : Mark
      mark = record { page = page; block = number }

      says : SaysBlock (block_at w.caller) ends mark last
      says = (subst (Each (MayReachAnswerer w.caller f.accepted)) gives f.to_answerer).0.1

      sending : IsSending w.caller.state
      sending = (subst (Each (MayReachAnswerer w.caller f.accepted)) gives f.to_answerer).0.0

      is_map : marks ≡ ppr_map w.answerer.frames last
      is_map =
          by.0 ∙ ap (ppr_map w.answerer.frames)
          (counted_last w.answerer.asked (block_at w.caller) w.caller.place f.accepted ends mark last
          (few_frames w.caller f.stations.call.readable) f.stations.asked says).0

      at : (b : Option Block) → block_at w.caller ≡ b → asks_again (ppr marks) before ≡ false
      at None there = absurd (subst (λ b. SaysBlock b ends mark last) there says)
      at (Some block) there =
          ap (λ m. asks_again (ppr m) before) is_map ∙
          asks_none w.answerer.frames last before (sure block there sending) (subst (Each (Ends before)) gives h.whole.ends).0
  ppr_keeps i gives marks by sure = absurd by

  turn_keeps : (t : Turn) → PprFits w.answerer input t → FactsAfter t → Keeps AsksAgain (and_said AnswererSide (answerer_items done.next t) before)
  turn_keeps (turn.Ppr marks) fits facts =
      (ppr_keeps input is marks fits (λ block there sending. old_sure block there sending (ppr_new marks facts block there)), h.keeps)
  turn_keeps turn.Dis fits facts = (refl, h.keeps)
  turn_keeps turn.Cfr fits facts = (refl, h.keeps)
  turn_keeps turn.Ftt fits facts = (refl, h.keeps)
  turn_keeps turn.Mcf fits facts = (refl, h.keeps)
  turn_keeps turn.Rnr fits facts = (refl, h.keeps)
  turn_keeps turn.Dcn fits facts = (refl, h.keeps)
  turn_keeps t fits facts = h.keeps

  ppr_told : (i : AnswererInput) (marks : List ℕ) → PprBy w.answerer i marks → (n : ℕ) → n < 256 → bit_of marks n ≡ false →
      has_frame w.answerer.frames n ≡ true
  ppr_told (listens (pps ends page number last)) marks by n within bit =
      told_has w.answerer.frames _ n within (subst (λ m. bit_of m n ≡ false) by.0 bit)
  ppr_told i marks by n within bit = absurd by

  module _ (block : Block) (there : block_at w.caller ≡ Some block) (sending : IsSending w.caller.state) where
    stay : is_repeated done.next.accepted (mark_of block) ≡ false → Sure done.next.frames before
    stay new n within begun has =
        frames_stay keep w f rest input is block there sending new n (old_sure block there sending new n within begun has)

    turn_sure : (t : Turn) → PprFits w.answerer input t → FactsAfter t → is_repeated done.next.accepted (mark_of block) ≡ false →
        Sure done.next.frames (and_said AnswererSide (answerer_items done.next t) before)
    turn_sure (turn.Ppr marks) fits facts new n within begun has =
        frames_stay keep w f rest input is block there sending new n
        (ppr_told input marks fits n within (at (bit_of marks n) has))
      where
        at : (b : Bool) → not b ≡ true → b ≡ false
        at false e = refl
        at true e = absurd (cc)
    turn_sure turn.Cfr fits facts new n within begun has = absurd (no_check keep w f rest input is block there sending input is fits)
    turn_sure turn.Mcf fits facts new n within begun has =
        absurd (let both : true ≡ false = sym (mcf_later keep w f rest input is block there sending facts) ∙ new in cc)
    turn_sure turn.Dis fits facts new n within begun has = stay new n within (begun || false) has
    turn_sure turn.Ftt fits facts new n within begun has = stay new n within (begun || false) has
    turn_sure turn.Rnr fits facts new n within begun has = stay new n within (begun || false) has
    turn_sure turn.Dcn fits facts new n within begun has = stay new n within (begun || false) has
    turn_sure turn.Silent fits facts new n within begun has = stay new n within begun has
    turn_sure turn.Training fits facts new n within begun has = stay new n within begun has
    turn_sure (turn.Burst marks) fits facts new n within begun has = stay new n within begun has
    turn_sure turn.Pps fits facts new n within begun has = stay new n within begun has
    turn_sure turn.Rr fits facts new n within begun has = stay new n within begun has

  sure_then : (b : Option Block) → block_at w.caller ≡ b → FactsAfter done.turn → IsSending w.caller.state →
      SureAt done.next.accepted b done.next.frames (and_said AnswererSide (answerer_items done.next done.turn) before)
  sure_then None there facts sending = tt
  sure_then (Some block) there facts sending = λ new.
      turn_sure block there sending done.turn (step_fits w.answerer input) facts new

module _ (keep : AnswerersKeep) where
  caller_done : (w : World) (rest : List PlainItem) (input : CallerInput) (before : List PlainSaid) → LineFacts w →
      LineFacts (caller_acts (record w { to_caller = rest }) Done input) → ToCaller input w.to_caller rest → TellsAll w before →
      TellsAll (caller_acts (record w { to_caller = rest }) Done input) (caller_speaks w.caller Done input before)
  caller_done w rest input before f after is h =
      let v : World = record w { to_caller = rest } in
      let answer = caller_step w.caller input in
      let items = caller_items answer.next answer.turn in
      let are = caller_sends_are answer.turn v answer.next items in
      record {
        whole = (whole_parts keep).caller w rest Done input before tt f after is h.whole;
        latest = latest_called answer.turn v answer.next Done before (caller_takes (Latest before) input w.to_caller rest is h.latest).1;
        sure = subst (λ s. IsSending (caller_sends answer.turn v answer.next items).caller.state →
            SureAt s.accepted (block_at (caller_sends answer.turn v answer.next items).caller) s.frames (and_said CallerSide items before)) (sym are.1)
            (subst (λ c. IsSending c.state →
            SureAt w.answerer.accepted (block_at c) w.answerer.frames (and_said CallerSide items before)) (sym are.0)
            (then w f rest input before after is h (step_steps w.caller input)));
        keeps = says CallerSide (Keeps AsksAgain) OfCaller caller_keeps items before (caller_is answer.next answer.turn) h.keeps;
      }

  answerer_done : (w : World) (rest : List PlainItem) (input : AnswererInput) (before : List PlainSaid) → LineFacts w →
      LineFacts (answerer_acts (record w { to_answerer = rest }) Done input) → ToAnswerer input w.to_answerer rest → TellsAll w before →
      TellsAll (answerer_acts (record w { to_answerer = rest }) Done input) (answerer_speaks w.answerer Done input before)
  answerer_done w rest input before f after is h =
      let v : World = record w { to_answerer = rest } in
      let answer = answerer_step w.answerer input in
      let items = answerer_items answer.next answer.turn in
      let are = answerer_sends_are answer.turn v answer.next items in
      record {
        whole = (whole_parts keep).answerer w rest Done input before tt f after is h.whole;
        latest = latest_answered answer.turn v answer.next Done before after.only_dis h.latest;
        sure = subst (λ s. IsSending (answerer_sends answer.turn v answer.next items).caller.state →
            SureAt s.accepted (block_at (answerer_sends answer.turn v answer.next items).caller) s.frames (and_said AnswererSide items before))
            (sym are.1)
            (subst (λ c. IsSending c.state → SureAt answer.next.accepted (block_at c) answer.next.frames (and_said AnswererSide items before))
            (sym are.0) (sure_then keep w f rest input before is h (block_at w.caller) refl after));
        keeps = turn_keeps keep w f rest input before is h answer.turn (step_fits w.answerer input) after;
      }

  parts_keep : PartsKeep TellsAll LineFacts AllDone
  parts_keep = record {
    caller = λ w rest outcome input before fine f after is h.
        subst (λ o. TellsAll (caller_acts (record w { to_caller = rest }) o input) (caller_speaks w.caller o input before)) (sym fine)
        (caller_done w rest input before f after is h);
    answerer = λ w rest outcome input before fine f after is h.
        subst (λ o. TellsAll (answerer_acts (record w { to_answerer = rest }) o input) (answerer_speaks w.answerer o input before)) (sym fine)
        (answerer_done w rest input before f after is h);
    lost_to_caller = λ w item rest before is h. record {
      whole = (whole_parts keep).lost_to_caller w item rest before is h.whole;
      latest = (subst (Each (Latest before)) is h.latest).1;
      sure = h.sure;
      keeps = h.keeps;
    };
    lost_to_answerer = λ w item rest before is h.
        record { whole = (whole_parts keep).lost_to_answerer w item rest before is h.whole; latest = h.latest; sure = h.sure; keeps = h.keeps };
    spoil = λ w before h. record { whole = (whole_parts keep).spoil w before h.whole; latest = h.latest; sure = h.sure; keeps = h.keeps };
  }

-- the law
pub tells_stay : AnswerersKeep → LineHolds → RuleIsKeptWithMemory AsksAgain
tells_stay keep holds_facts document wish caps steps full done =
    (run_keeps TellsAll LineFacts AllDone (parts_keep keep) steps (new_world document wish caps)
    (record { by = AnswererSide; signal = dis caps } ∷ []) done (λ more. holds_facts document wish caps more full)
    (record { whole = whole_first document wish caps; latest = (tt, tt); sure = λ sending. absurd sending; keeps = (refl, tt) })).keeps
