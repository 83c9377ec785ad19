-- The counts of page and block in a PPS go on from those before: rule WrongCounts, where no growth is refused.
use Rattle.std.proofs.Common.{◌≡◌, ℕ, zero, suc, ◌<◌, ◌+◌, ◌%◌, Bool, true, false, cond, ◌&&◌, ◌||◌, List, [], ◌∷◌, ◌++◌, refl, sym, ap, subst, ◌∙◌, arith, length, ◌⊎◌, inl, inr}
use Rattle.std.specs.Prelude.{Option, Some, None, not, nat_eq, slice_get, ◌≢◌}
use Rattle.std.proofs.lemmas.Bool.{eq-eqb}
use Rattle.signals.specs.Signals.{PlainSignal, dis, dcs, cfr, ftt, fcd, rcp, pps, ppr, mcf, rnr, rr, dcn}
use Rattle.signals.specs.declared.signal.PageEnd.{PageEnd}
use Rattle.signals.specs.declared.signal.PageEnd.TheVariants.{Null, Mps, Eom, Eop}
use Rattle.signals.specs.declared.signal.Side.TheVariants.{Caller as CallerSide, Answerer as AnswererSide}
use Rattle.partial_page.specs.Store.{bit_of}
use Rattle.stations.proofs.Progress.{block_fits}
use Rattle.stations.specs.AnswererKeeping.{AnswerersKeep}
use Rattle.stations.specs.AnswererStep.{Answerer, answerer_step, answerer_items, is_repeated}
use Rattle.stations.specs.Blocks.{Block, mark_of, last_frame_of}
use Rattle.stations.specs.CallerFields.{IsSending}
use Rattle.stations.specs.CallerStep.{Caller, CallerAnswer, caller_step, caller_items, fcds, all_frames, pps_of}
use Rattle.stations.specs.CallerStep.{burst_of, pps_items, blocks_of}
use Rattle.stations.specs.Inputs.{CallerInput, AnswererInput, PlainItem, framed, checked}
use Rattle.stations.specs.Laws.{Each}
use Rattle.stations.specs.Marks.{NeighboursDiffer, Follows as Neighbours}
use Rattle.stations.specs.declared.mark.Accepted.{Accepted}
use Rattle.stations.specs.declared.turn.CallerState.{CallerState}
use Rattle.stations.specs.declared.turn.CallerState.TheVariants.{WaitDis, WaitCfr, WaitBlock, WaitReady}
use Rattle.stations.specs.declared.turn.Turn.{Turn}
use Rattle.stations.specs.declared.turn.Turn.TheVariants as turn
use Rattle.line_sim.proofs.Bursts.{every_frame}
use Rattle.line_sim.proofs.Lists.{either}
use Rattle.line_sim.specs.Headline.{LineHolds}
use Rattle.line_sim.specs.Line.{World, Done, new_world, caller_sends, answerer_sends, caller_acts, answerer_acts}
use Rattle.line_sim.specs.LineFacts.{LineFacts, StationFacts, Phase, finished_of}
use Rattle.referee.specs.Frames.{asked}
use Rattle.referee.specs.History.{PlainSaid, look, is_fcd}
use Rattle.referee.specs.Questions.{tell, follows}
use Rattle.referee.specs.Rules.{has_wrong_counts}
use Rattle.referee.specs.declared.question.Question.TheVariants.{Counted, AnyPps, Follows}
use Rattle.referee.specs.declared.rule.Rule.TheVariants.{WrongCounts}
use Rattle.judged_calls.proofs.AfterDcn.{caller_sends_are}
use Rattle.judged_calls.proofs.AskedFrames.{OfAnswerer, answerer_is}
use Rattle.judged_calls.proofs.AsksAgain.{has_fcd}
use Rattle.judged_calls.proofs.BlockSaid.{block_sizes, quiet_items, QuietItem, opens_by, same_place, back, mcf_later, no_check, next_facts, burst_new}
use Rattle.judged_calls.proofs.BlockSaid.{said_append}
use Rattle.judged_calls.proofs.BlockSteps.{SameBlock, Steps, step_steps, block_at}
use Rattle.judged_calls.proofs.Events.{ToCaller, ToAnswerer, PartsKeep, run_keeps, AllDone, caller_takes}
use Rattle.judged_calls.proofs.GroupSteps.{IsWaiting, Waits, Begins, BlockTurn, step_groups, sends_block}
use Rattle.judged_calls.proofs.Latest.{says, Latest, Opens, latest_answered, latest_called}
use Rattle.judged_calls.proofs.Offers.{answerer_sends_are}
use Rattle.judged_calls.proofs.OwnSignals.{each_append}
use Rattle.judged_calls.proofs.PprsAsk.{OfCaller, PprFits, step_fits}
use Rattle.judged_calls.proofs.Bools.{or_none}
use Rattle.judged_calls.specs.SaidCalls.{and_said, caller_speaks, answerer_speaks, Keeps, RuleIsKeptWithMemory}

-- ---- the last PPS that was said

-- it is that of a block; or none was said
abbrev pub LastIs : Option Block → List PlainSaid → Type 0
LastIs None before = (begun : Bool) → look (tell AnyPps) begun before ≡ false
LastIs (Some m) before =
    (begun : Bool) →
    (look (tell AnyPps) begun before ≡ true) ×
    ((p b : ℕ) → look (tell (Follows p b)) begun before ≡ follows m.ends (mark_of m).page (mark_of m).block p b)

-- the block under way has had a PPS; and if it isn't accepted no MCF came since
pub record HasPps (accepted : Bool) (before : List PlainSaid) : Type 0 where
  pub now : look (tell Counted) false before ≡ true
  pub fresh : accepted ≡ false → (begun : Bool) → look (tell Counted) begun before ≡ true

-- an item of the caller that is no PPS
abbrev pub NoPps : PlainItem → Type 0
NoPps (framed (pps ends page block last)) = ⊥
NoPps item = OfCaller item

last_stays : (m : Option Block) (signal : PlainSignal) (before : List PlainSaid) → NoPps (framed signal) → LastIs m before →
    LastIs m (record { by = CallerSide; signal = signal } ∷ before)
last_stays None (dcs params) before own h = λ begun. h (begun || false)
last_stays None (fcd number octets) before own h = λ begun. h (begun || true)
last_stays None rcp before own h = λ begun. h (begun || false)
last_stays None rr before own h = λ begun. h (begun || false)
last_stays None dcn before own h = λ begun. h (begun || false)
last_stays (Some m) (dcs params) before own h = λ begun. h (begun || false)
last_stays (Some m) (fcd number octets) before own h = λ begun. h (begun || true)
last_stays (Some m) rcp before own h = λ begun. h (begun || false)
last_stays (Some m) rr before own h = λ begun. h (begun || false)
last_stays (Some m) dcn before own h = λ begun. h (begun || false)
last_stays m signal before own h = absurd own

no_pps_keeps : (signal : PlainSignal) (before : List PlainSaid) → NoPps (framed signal) → Keeps WrongCounts before →
    Keeps WrongCounts (record { by = CallerSide; signal = signal } ∷ before)
no_pps_keeps (dcs params) before own h = (refl, h)
no_pps_keeps (fcd number octets) before own h = (refl, h)
no_pps_keeps rcp before own h = (refl, h)
no_pps_keeps rr before own h = (refl, h)
no_pps_keeps dcn before own h = (refl, h)
no_pps_keeps signal before own h = absurd own

last_and_keeps : (m : Option Block) (signal : PlainSignal) (before : List PlainSaid) → NoPps (framed signal) →
    LastIs m before × Keeps WrongCounts before →
    LastIs m (record { by = CallerSide; signal = signal } ∷ before) × Keeps WrongCounts (record { by = CallerSide; signal = signal } ∷ before)
last_and_keeps m signal before own h = (last_stays m signal before own h.0, no_pps_keeps signal before own h.1)

-- what is counted looks past all of these
passes_one : (begun : Bool) (signal : PlainSignal) (before : List PlainSaid) → NoPps (framed signal) →
    look (tell Counted) begun (record { by = CallerSide; signal = signal } ∷ before) ≡ look (tell Counted) (begun || is_fcd signal) before
passes_one begun (dcs params) before own = refl
passes_one begun (fcd number octets) before own = refl
passes_one begun rcp before own = refl
passes_one begun rr before own = refl
passes_one begun dcn before own = refl
passes_one begun signal before own = absurd own

or_swaps : (a b c : Bool) → ((a || b) || c) ≡ (a || (c || b))
or_swaps true b c = refl
or_swaps false true true = refl
or_swaps false true false = refl
or_swaps false false true = refl
or_swaps false false false = refl

passes : (begun : Bool) (items : List PlainItem) (before : List PlainSaid) → Each NoPps items →
    look (tell Counted) begun (and_said CallerSide items before) ≡ look (tell Counted) (begun || has_fcd items) before
passes begun [] before own = ap (λ b. look (tell Counted) b before) (sym (or_none begun))
passes begun (checked octets ∷ items) before own = passes begun items before own.1
passes begun (framed signal ∷ items) before own =
    passes begun items (record { by = CallerSide; signal = signal } ∷ before) own.1 ∙
    (passes_one (begun || has_fcd items) signal before own.0 ∙
    ap (λ b. look (tell Counted) b before) (or_swaps begun (has_fcd items) (is_fcd signal)))

-- ---- a PPS

abbrev pub pps_is : Block → PlainSignal
pps_is m = pps m.ends (mark_of m).page (mark_of m).block (last_frame_of m)

pps_last : (m : Block) (accepted : Bool) (before : List PlainSaid) →
    LastIs (Some m) (record { by = CallerSide; signal = pps_is m } ∷ before) × HasPps accepted (record { by = CallerSide; signal = pps_is m } ∷ before)
pps_last m accepted before = (λ begun. (refl, λ p b. refl), record { now = refl; fresh = λ new begun. refl })

again_right : (m : Block) (before : List PlainSaid) → look (tell Counted) false before ≡ true → has_wrong_counts (pps_is m) before ≡ false
again_right m before h =
    ap (λ c. not c && cond (asked AnyPps before) (not (asked (Follows (mark_of m).page (mark_of m).block) before))
    (not (nat_eq (mark_of m).page 0 && nat_eq (mark_of m).block 0))) h

-- the counts of a block come after those of the one before, or are the first
abbrev pub Comes : Option Block → Block → Type 0
Comes None n = ((mark_of n).page ≡ 0) × ((mark_of n).block ≡ 0)
Comes (Some m) n = follows m.ends (mark_of m).page (mark_of m).block (mark_of n).page (mark_of n).block ≡ true

first_right : (m : Option Block) (n : Block) (before : List PlainSaid) → Comes m n → LastIs m before → look (tell Counted) false before ≡ false →
    has_wrong_counts (pps_is n) before ≡ false
first_right None n before comes last none =
    ap (λ c. not c && cond (asked AnyPps before) (not (asked (Follows (mark_of n).page (mark_of n).block) before))
    (not (nat_eq (mark_of n).page 0 && nat_eq (mark_of n).block 0))) none ∙
    (ap (λ c. cond c (not (asked (Follows (mark_of n).page (mark_of n).block) before))
    (not (nat_eq (mark_of n).page 0 && nat_eq (mark_of n).block 0))) (last false) ∙
    (ap (λ p. not (nat_eq p 0 && nat_eq (mark_of n).block 0)) comes.0 ∙ ap (λ b. not (nat_eq b 0)) comes.1))
first_right (Some m) n before comes last none =
    ap (λ c. not c && cond (asked AnyPps before) (not (asked (Follows (mark_of n).page (mark_of n).block) before))
    (not (nat_eq (mark_of n).page 0 && nat_eq (mark_of n).block 0))) none ∙
    (ap (λ c. cond c (not (asked (Follows (mark_of n).page (mark_of n).block) before))
    (not (nat_eq (mark_of n).page 0 && nat_eq (mark_of n).block 0))) (last false).0 ∙
    ap not ((last false).1 (mark_of n).page (mark_of n).block ∙ comes))

-- ---- neighbours

next_count : (k : ℕ) → suc k % 256 ≡ (k % 256 + 1) % 256
next_count k = omega arith

same : (a b : ℕ) → a ≡ b → nat_eq a b ≡ true
same a b e = eq-eqb a b e

neighbours_follow : (m n : Block) → Neighbours m n →
    follows m.ends (mark_of m).page (mark_of m).block (mark_of n).page (mark_of n).block ≡ true
neighbours_follow m n h = at m.ends refl
  where
    next_page : m.ends ≢ Null → (nat_eq (n.page % 256) ((m.page % 256 + 1) % 256) && nat_eq (n.place % 256) 0) ≡ true
    next_page apart =
        let after = h.after apart in
        rw (same (n.page % 256) ((m.page % 256 + 1) % 256) (ap (λ k. k % 256) after.0 ∙ next_count m.page), after.1) refl

    at : (ends : PageEnd) → m.ends ≡ ends → follows ends (m.page % 256) (m.place % 256) (n.page % 256) (n.place % 256) ≡ true
    at Null is =
        let inside = h.inside is in
        rw (
          same (n.page % 256) (m.page % 256) (ap (λ k. k % 256) inside.0),
          same (n.place % 256) ((m.place % 256 + 1) % 256) (ap (λ k. k % 256) inside.1 ∙ next_count m.place),
        ) refl
    at Eom is = rw (next_page (λ e. (let both : Eom ≡ Null = sym is ∙ e in cc))) refl
    at Mps is = next_page (λ e. (let both : Mps ≡ Null = sym is ∙ e in cc))
    at Eop is = next_page (λ e. (let both : Eop ≡ Null = sym is ∙ e in cc))

-- the block before a place
abbrev pub before_at : List Block → ℕ → Option Block
before_at blocks zero = None
before_at blocks (suc k) = slice_get blocks k

earlier_there : (blocks : List Block) (k : ℕ) (n : Block) → slice_get blocks (suc k) ≡ Some n → slice_get blocks k ≡ None → ⊥
earlier_there [] k n e none = cc
earlier_there (block ∷ blocks) zero n e none = cc
earlier_there (block ∷ blocks) (suc k) n e none = earlier_there blocks k n e none

pub counts_come : NeighboursDiffer → (c : Caller) (s : Answerer) (a : ℕ) (n : Block) → StationFacts c s a → slice_get (blocks_of c) c.place ≡ Some n →
    Comes (before_at (blocks_of c) c.place) n
counts_come law c s a n f there = at c.place there
  where
    at : (place : ℕ) → slice_get (blocks_of c) place ≡ Some n → Comes (before_at (blocks_of c) place) n
    at zero is =
        let fits = block_fits (c.finished ++ c.present) c.document f.call.readable 0 n is in
        (ap (λ k. k % 256) fits.page_is, ap (λ k. k % 256) fits.place_is)
    at (suc k) is = by (slice_get (blocks_of c) k) refl
      where
        by : (m : Option Block) → slice_get (blocks_of c) k ≡ m → Comes m n
        by None none = absurd (earlier_there (blocks_of c) k n is none)
        by (Some m) e = neighbours_follow m n (law (c.finished ++ c.present) c.document k m n e is).0

-- ---- a world and what was said in it

-- the last PPS is that of the block that is sent, which has had one; or, before a group's first block, that of the block before
abbrev pub PpsOf : Option Accepted → Option Block → List PlainSaid → Type 0
PpsOf accepted None before = Unit {0}
PpsOf accepted (Some m) before = LastIs (Some m) before × HasPps (is_repeated accepted (mark_of m)) before

abbrev pub Told : CallerState → Option Accepted → Option Block → Option Block → List PlainSaid → Type 0
Told WaitDis accepted now earlier before = LastIs earlier before
Told WaitCfr accepted now earlier before = LastIs earlier before
Told WaitBlock accepted now earlier before = PpsOf accepted now before
Told WaitReady accepted now earlier before = PpsOf accepted now before

abbrev pub ToldOf : Caller → Option Accepted → List PlainSaid → Type 0
ToldOf c accepted before = Told c.state accepted (block_at c) (before_at (finished_of c) c.place) before

told_sending : (state : CallerState) (accepted : Option Accepted) (now earlier : Option Block) (before : List PlainSaid) → IsSending state →
    Told state accepted now earlier before → PpsOf accepted now before
told_sending WaitBlock accepted now earlier before s h = h
told_sending WaitReady accepted now earlier before s h = h
told_sending WaitDis accepted now earlier before s h = absurd s
told_sending WaitCfr accepted now earlier before s h = absurd s

told_waiting : (state : CallerState) (accepted : Option Accepted) (now earlier : Option Block) (before : List PlainSaid) → IsWaiting state →
    Told state accepted now earlier before → LastIs earlier before
told_waiting WaitDis accepted now earlier before s h = h
told_waiting WaitCfr accepted now earlier before s h = h
told_waiting WaitBlock accepted now earlier before s h = absurd s
told_waiting WaitReady accepted now earlier before s h = absurd s

told_by : (state : CallerState) (accepted : Option Accepted) (now earlier : Option Block) (before : List PlainSaid) →
    (IsSending state → PpsOf accepted now before) → (IsWaiting state → LastIs earlier before) → Told state accepted now earlier before
told_by WaitDis accepted now earlier before s w = w tt
told_by WaitCfr accepted now earlier before s w = w tt
told_by WaitBlock accepted now earlier before s w = s tt
told_by WaitReady accepted now earlier before s w = s tt

pub record CountsSaid (w : World) (before : List PlainSaid) : Type 0 where
  pub latest : Each (Latest before) w.to_caller
  pub told : ToldOf w.caller w.answerer.accepted before
  pub keeps : Keeps WrongCounts before

quiet_no_pps : (item : PlainItem) → QuietItem item → NoPps item
quiet_no_pps (framed (fcd number octets)) q = absurd q
quiet_no_pps (framed (pps ends page b last)) q = absurd q
quiet_no_pps (framed (dcs params)) q = tt
quiet_no_pps (framed rcp) q = tt
quiet_no_pps (framed rr) q = tt
quiet_no_pps (framed dcn) q = tt
quiet_no_pps (checked octets) q = tt
quiet_no_pps item q = absurd q

no_pps_all : (items : List PlainItem) → Each QuietItem items → Each NoPps items
no_pps_all [] q = tt
no_pps_all (item ∷ items) q = (quiet_no_pps item q.0, no_pps_all items q.1)

fcds_no_pps : (marks : List ℕ) (number : ℕ) (frames : List (List ℕ)) → Each NoPps (fcds marks number frames)
fcds_no_pps marks number [] = tt
fcds_no_pps marks number (octets ∷ frames) =
    either (Each NoPps) (bit_of marks number) _ _ (λ bit. (tt, fcds_no_pps marks (suc number) frames)) (λ bit. fcds_no_pps marks (suc number) frames)

-- a burst without its PPS
abbrev pub front_of : List ℕ → Block → List PlainItem
front_of marks m = fcds marks 0 m.frames ++ framed rcp ∷ framed rcp ∷ framed rcp ∷ []

front_no_pps : (marks : List ℕ) (m : Block) → Each NoPps (front_of marks m)
front_no_pps marks m =
    each_append NoPps (fcds marks 0 m.frames) (framed rcp ∷ framed rcp ∷ framed rcp ∷ []) (fcds_no_pps marks 0 m.frames) (tt, (tt, (tt, tt)))

append_assoc : (xs ys zs : List PlainItem) → (xs ++ ys) ++ zs ≡ xs ++ (ys ++ zs)
append_assoc [] ys zs = refl
append_assoc (x ∷ xs) ys zs = ap (λ rest. x ∷ rest) (append_assoc xs ys zs)

burst_is : (marks : List ℕ) (m : Block) (before : List PlainSaid) → and_said CallerSide (burst_of marks (Some m)) before ≡
    record { by = CallerSide; signal = pps_is m } ∷ and_said CallerSide (front_of marks m) before
burst_is marks m before =
    ap (λ items. and_said CallerSide items before)
    (sym (append_assoc (fcds marks 0 m.frames) (framed rcp ∷ framed rcp ∷ framed rcp ∷ []) (pps_of m ∷ []))) ∙
    said_append CallerSide (front_of marks m) (pps_of m ∷ []) before

-- what comes before a PPS keeps what was said last
front_said : (earlier : Option Block) (marks : List ℕ) (m : Block) (before : List PlainSaid) → LastIs earlier before → Keeps WrongCounts before →
    LastIs earlier (and_said CallerSide (front_of marks m) before) × Keeps WrongCounts (and_said CallerSide (front_of marks m) before)
front_said earlier marks m before last keeps =
    says CallerSide (λ said. LastIs earlier said × Keeps WrongCounts said) NoPps (last_and_keeps earlier) (front_of marks m) before
    (front_no_pps marks m) (last, keeps)

-- a burst of the block that is sent, after its PPS
again_said : (marks : List ℕ) (m : Block) (accepted : Bool) (before : List PlainSaid) → accepted ≡ false → LastIs (Some m) before →
    HasPps accepted before → Keeps WrongCounts before →
    (LastIs (Some m) (and_said CallerSide (burst_of marks (Some m)) before) × HasPps accepted (and_said CallerSide (burst_of marks (Some m)) before)) ×
    Keeps WrongCounts (and_said CallerSide (burst_of marks (Some m)) before)
again_said marks m accepted before new last has keeps =
    let front = front_said (Some m) marks m before last keeps in
    let counted : look (tell Counted) false (and_said CallerSide (front_of marks m) before) ≡ true =
    passes false (front_of marks m) before (front_no_pps marks m) ∙ has.fresh new (false || has_fcd (front_of marks m)) in
    subst (λ said. (LastIs (Some m) said × HasPps accepted said) × Keeps WrongCounts said) (sym (burst_is marks m before)) (
      pps_last m accepted (and_said CallerSide (front_of marks m) before),
      (again_right m (and_said CallerSide (front_of marks m) before) counted, front.1),
    )

-- the first burst of a block
front_has : (m : Block) → 0 < length m.frames → has_fcd (front_of all_frames m) ≡ true
front_has m some = at m.frames refl
  where
    at : (frames : List (List ℕ)) → m.frames ≡ frames →
        has_fcd (fcds all_frames 0 frames ++ framed rcp ∷ framed rcp ∷ framed rcp ∷ []) ≡ true
    at [] is = absurd (omega (arith, subst (λ f. 0 < length f) is some))
    at (octets ∷ frames) is =
        subst (λ b. has_fcd (cond b (framed (fcd 0 octets) ∷ fcds all_frames 1 frames) (fcds all_frames 1 frames) ++
        framed rcp ∷ framed rcp ∷ framed rcp ∷ []) ≡ true) (sym (every_frame 0 (omega arith))) refl

first_said : (earlier : Option Block) (m : Block) (accepted : Bool) (before : List PlainSaid) → 0 < length m.frames → Comes earlier m →
    Opens before → LastIs earlier before → Keeps WrongCounts before →
    (LastIs (Some m) (and_said CallerSide (burst_of all_frames (Some m)) before) ×
    HasPps accepted (and_said CallerSide (burst_of all_frames (Some m)) before)) ×
    Keeps WrongCounts (and_said CallerSide (burst_of all_frames (Some m)) before)
first_said earlier m accepted before some comes opens last keeps =
    let front = front_said earlier all_frames m before last keeps in
    let none : look (tell Counted) false (and_said CallerSide (front_of all_frames m) before) ≡ false =
    passes false (front_of all_frames m) before (front_no_pps all_frames m) ∙
    (ap (λ b. look (tell Counted) b before) (front_has m some) ∙ opens.counted) in
    subst (λ said. (LastIs (Some m) said × HasPps accepted said) × Keeps WrongCounts said) (sym (burst_is all_frames m before)) (
      pps_last m accepted (and_said CallerSide (front_of all_frames m) before),
      (first_right earlier m (and_said CallerSide (front_of all_frames m) before) comes front.0 none, front.1),
    )

before_append : (xs ys : List Block) → before_at xs (length xs) ≡ before_at (xs ++ ys) (length xs)
before_append [] ys = refl
before_append (x ∷ xs) ys = last_of xs x
  where
    last_of : (xs : List Block) (x : Block) → slice_get (x ∷ xs) (length xs) ≡ slice_get ((x ∷ xs) ++ ys) (length xs)
    last_of [] x = refl
    last_of (y ∷ xs) x = last_of xs y

-- ---- the caller's step

module _ (law : NeighboursDiffer) (w : World) (f : LineFacts w) (rest : List PlainItem) (input : CallerInput) (before : List PlainSaid)
    (after : LineFacts (caller_acts (record w { to_caller = rest }) Done input)) (is : ToCaller input w.to_caller rest) (h : CountsSaid w before) where
  abbrev reply : CallerAnswer
  reply = caller_step w.caller input

  abbrev acc : Option Accepted
  acc = w.answerer.accepted

  abbrev earlier_of : Caller → Option Block
  earlier_of c = before_at (finished_of c) c.place

  -- before a group's first block what was said is kept, whatever block comes then
  waits_told : (items : List PlainItem) → Each NoPps items → Waits w.caller reply → LastIs (earlier_of reply.next) (and_said CallerSide items before)
  waits_told items own (inl same) =
      let old = told_waiting w.caller.state acc (block_at w.caller) (earlier_of w.caller) before same.0 h.told in
      subst (λ m. LastIs m (and_said CallerSide items before))
      (sym (ap (λ blocks. before_at blocks reply.next.place) same.1 ∙ ap (before_at (finished_of w.caller)) same.2))
      (says CallerSide (λ said. LastIs (earlier_of w.caller) said × Keeps WrongCounts said) NoPps (last_and_keeps (earlier_of w.caller)) items before
      own (old, h.keeps)).0
  waits_told items own (inr through) =
      let m = through.3.0 in
      let sending = told_sending w.caller.state acc (block_at w.caller) (earlier_of w.caller) before through.0 h.told in
      let old : PpsOf acc (Some m) before = subst (λ b. PpsOf acc b before) through.3.1 sending in
      subst (λ b. LastIs b (and_said CallerSide items before))
      (sym (ap (λ blocks. before_at blocks reply.next.place) through.1 ∙ (ap (before_at (blocks_of w.caller)) through.2 ∙ through.3.1)))
      (says CallerSide (λ said. LastIs (Some m) said × Keeps WrongCounts said) NoPps (last_and_keeps (Some m)) items before
      own (old.0, h.keeps)).0

  -- what was said last before the first burst of a block
  begins_told : Begins w.caller reply → LastIs (before_at (blocks_of reply.next) reply.next.place) before
  begins_told (inl group) =
      let place = (subst (λ state. Phase state w.caller f.accepted w.answerer) group.0 f.stations.phase).1.place_is in
      let old = told_waiting w.caller.state acc (block_at w.caller) (earlier_of w.caller) before (subst IsWaiting (sym group.0) tt) h.told in
      let blocks = f.stations.call.through.blocks w.caller.present in
      let moved : earlier_of w.caller ≡ before_at (blocks_of w.caller) w.caller.place =
      ap (before_at (finished_of w.caller)) place ∙
      (before_append (finished_of w.caller) _ ∙
      (ap (λ b. before_at b (length (finished_of w.caller))) (sym blocks) ∙ ap (before_at (blocks_of w.caller)) (sym place))) in
      subst (λ m. LastIs m before)
      (moved ∙ sym (ap (λ b. before_at b reply.next.place) group.1 ∙ ap (before_at (blocks_of w.caller)) group.2)) old
  begins_told (inr next) =
      let sending = told_sending w.caller.state acc (block_at w.caller) (earlier_of w.caller) before next.0 h.told in
      let old : PpsOf acc (Some next.3.0) before = subst (λ b. PpsOf acc b before) next.3.1 sending in
      subst (λ m. LastIs m before)
      (sym (ap (λ b. before_at b reply.next.place) next.1 ∙ (ap (before_at (blocks_of w.caller)) next.2 ∙ next.3.1))) old.0

  has_later : (accepted : Bool) (items : List PlainItem) → Each NoPps items → has_fcd items ≡ false → HasPps accepted before →
      HasPps accepted (and_said CallerSide items before)
  has_later accepted items own none has = record {
    now = passes false items before own ∙ (ap (λ b. look (tell Counted) b before) none ∙ has.now);
    fresh = λ new begun. passes begun items before own ∙ has.fresh new (begun || has_fcd items);
  }

  quiet_fcd : (items : List PlainItem) → Each QuietItem items → has_fcd items ≡ false
  quiet_fcd [] q = refl
  quiet_fcd (checked octets ∷ items) q = quiet_fcd items q.1
  quiet_fcd (framed (dcs params) ∷ items) q = quiet_fcd items q.1
  quiet_fcd (framed rcp ∷ items) q = quiet_fcd items q.1
  quiet_fcd (framed rr ∷ items) q = quiet_fcd items q.1
  quiet_fcd (framed dcn ∷ items) q = quiet_fcd items q.1
  quiet_fcd (item ∷ items) q = absurd q.0

  quiet_told : (b : Option Block) (items : List PlainItem) → Each QuietItem items → PpsOf acc b before → PpsOf acc b (and_said CallerSide items before)
  quiet_told None items q old = tt
  quiet_told (Some m) items q old =
      let own = no_pps_all items q in (
        (says CallerSide (λ said. LastIs (Some m) said × Keeps WrongCounts said) NoPps (last_and_keeps (Some m)) items before own (old.0, h.keeps)).0,
        has_later (is_repeated acc (mark_of m)) items own (quiet_fcd items q) old.1,
      )

  pps_told : (b : Option Block) → PpsOf acc b before →
      PpsOf acc b (and_said CallerSide (pps_items b) before) × Keeps WrongCounts (and_said CallerSide (pps_items b) before)
  pps_told None old = (tt, h.keeps)
  pps_told (Some m) old = (pps_last m (is_repeated acc (mark_of m)) before, (again_right m before old.1.now, h.keeps))

  again_told : (marks : List ℕ) (b : Option Block) → ((m : Block) → b ≡ Some m → is_repeated acc (mark_of m) ≡ false) → PpsOf acc b before →
      PpsOf acc b (and_said CallerSide (burst_of marks b) before) × Keeps WrongCounts (and_said CallerSide (burst_of marks b) before)
  again_told marks None new old = (tt, h.keeps)
  again_told marks (Some m) new old = again_said marks m (is_repeated acc (mark_of m)) before (new m refl) old.0 old.1 h.keeps

  first_told : (b : Option Block) → block_at reply.next ≡ b → Begins w.caller reply → Opens before →
      PpsOf acc b (and_said CallerSide (burst_of all_frames b) before) × Keeps WrongCounts (and_said CallerSide (burst_of all_frames b) before)
  first_told None there begins opens = (tt, h.keeps)
  first_told (Some m) there begins opens =
      let facts = next_facts w f rest input before after is in
      let full = (block_sizes reply.next w.answerer after.accepted m facts there).0 in
      first_said (before_at (blocks_of reply.next) reply.next.place) m (is_repeated acc (mark_of m)) before
      (subst (λ k. 0 < k) full (omega arith)) (counts_come law reply.next w.answerer after.accepted m facts there) opens (begins_told begins) h.keeps

  -- what holds after a turn
  abbrev Then : Turn → Type 0
  Then t =
      (IsSending reply.next.state → PpsOf acc (block_at reply.next) (and_said CallerSide (caller_items reply.next t) before)) ×
      (IsWaiting reply.next.state → LastIs (earlier_of reply.next) (and_said CallerSide (caller_items reply.next t) before)) ×
      Keeps WrongCounts (and_said CallerSide (caller_items reply.next t) before)

  old_told : IsSending w.caller.state → PpsOf acc (block_at w.caller) before
  old_told sending = told_sending w.caller.state acc (block_at w.caller) (earlier_of w.caller) before sending h.told

  both_states : (state : CallerState) → IsSending state → IsWaiting state → ⊥
  both_states WaitDis s w = s
  both_states WaitCfr s w = s
  both_states WaitBlock s w = w
  both_states WaitReady s w = w

  same_told : SameBlock w.caller reply → (items : List PlainItem) → PpsOf acc (block_at w.caller) (and_said CallerSide items before) →
      PpsOf acc (block_at reply.next) (and_said CallerSide items before)
  same_told same items said =
      subst (λ b. PpsOf acc b (and_said CallerSide items before)) (sym (same_place w f rest input before after is same)) said

  then : Steps w.caller input reply → Then reply.turn
  then (inl still) =
      let q = quiet_items reply.next reply.turn still.0 in
      let own = no_pps_all (caller_items reply.next reply.turn) q in (
        λ s. at q (still.1 s),
        λ waiting. waits_told (caller_items reply.next reply.turn) own ((step_groups w.caller input).0 waiting),
        says CallerSide (Keeps WrongCounts) NoPps no_pps_keeps (caller_items reply.next reply.turn) before own h.keeps,
      )
    where
      at : Each QuietItem (caller_items reply.next reply.turn) → (block_at reply.next ≡ None) ⊎ SameBlock w.caller reply →
          PpsOf acc (block_at reply.next) (and_said CallerSide (caller_items reply.next reply.turn) before)
      at q (inl gone) = subst (λ b. PpsOf acc b (and_said CallerSide (caller_items reply.next reply.turn) before)) (sym gone) tt
      at q (inr kept) =
          same_told kept (caller_items reply.next reply.turn)
          (quiet_told (block_at w.caller) (caller_items reply.next reply.turn) q (old_told kept.0))
  then (inr (inl again)) =
      let there = again.2 ∙ same_place w f rest input before after is again.1 in
      let items : caller_items reply.next reply.turn ≡ pps_items (block_at w.caller) = ap (caller_items reply.next) again.0 ∙ ap pps_items there in
      let said = pps_told (block_at w.caller) (old_told again.1.0) in
      let sending : IsSending reply.next.state = sends_block w.caller input (subst BlockTurn (sym again.0) tt) in (
        λ s. same_told again.1 (caller_items reply.next reply.turn) (subst (λ xs. PpsOf acc (block_at w.caller) (and_said CallerSide xs before)) (sym items) said.0),
        λ waiting. absurd (both_states reply.next.state sending waiting),
        subst (λ xs. Keeps WrongCounts (and_said CallerSide xs before)) (sym items) said.1,
      )
  then (inr (inr (inl frames))) =
      let marks = frames.1.0 in
      let there = frames.2 ∙ same_place w f rest input before after is frames.0 in
      let items : caller_items reply.next reply.turn ≡ burst_of marks (block_at w.caller) =
      ap (caller_items reply.next) frames.1.1 ∙ ap (burst_of marks) there in
      let said = again_told marks (block_at w.caller)
      (λ m e. burst_new w f rest input before after is marks m frames.1.1 (same_place w f rest input before after is frames.0 ∙ e))
      (old_told frames.0.0) in
      let sending : IsSending reply.next.state = sends_block w.caller input (subst BlockTurn (sym frames.1.1) tt) in (
        λ s. same_told frames.0 (caller_items reply.next reply.turn) (subst (λ xs. PpsOf acc (block_at w.caller) (and_said CallerSide xs before)) (sym items) said.0),
        λ waiting. absurd (both_states reply.next.state sending waiting),
        subst (λ xs. Keeps WrongCounts (and_said CallerSide xs before)) (sym items) said.1,
      )
  then (inr (inr (inr first))) =
      let items : caller_items reply.next reply.turn ≡ burst_of all_frames (block_at reply.next) =
      ap (caller_items reply.next) first.0 ∙ ap (burst_of all_frames) first.2 in
      let said = first_told (block_at reply.next) refl ((step_groups w.caller input).1 first.1 all_frames first.0)
      (opens_by input before first.1 (caller_takes (Latest before) input w.to_caller rest is h.latest).0) in
      let sending : IsSending reply.next.state = sends_block w.caller input (subst BlockTurn (sym first.0) tt) in (
        λ s. subst (λ xs. PpsOf acc (block_at reply.next) (and_said CallerSide xs before)) (sym items) said.0,
        λ waiting. absurd (both_states reply.next.state sending waiting),
        subst (λ xs. Keeps WrongCounts (and_said CallerSide xs before)) (sym items) said.1,
      )

caller_done : NeighboursDiffer → (w : World) (rest : List PlainItem) (input : CallerInput) (before : List PlainSaid) → LineFacts w →
    LineFacts (caller_acts (record w { to_caller = rest }) Done input) → ToCaller input w.to_caller rest → CountsSaid w before →
    CountsSaid (caller_acts (record w { to_caller = rest }) Done input) (caller_speaks w.caller Done input before)
caller_done law w rest input before f after is h =
    let v : World = record w { to_caller = rest } in
    let answer = caller_step w.caller input in
    let items = caller_items answer.next answer.turn in
    let are = caller_sends_are answer.turn v answer.next items in
    let said = then law w f rest input before after is h (step_steps w.caller input) in
    record {
      latest = latest_called answer.turn v answer.next Done before (caller_takes (Latest before) input w.to_caller rest is h.latest).1;
      told = subst (λ s. ToldOf (caller_sends answer.turn v answer.next items).caller s.accepted (and_said CallerSide items before)) (sym are.1)
          (subst (λ c. ToldOf c w.answerer.accepted (and_said CallerSide items before)) (sym are.0)
          (told_by answer.next.state w.answerer.accepted (block_at answer.next) (before_at (finished_of answer.next) answer.next.place)
          (and_said CallerSide items before) said.0 said.1));
      keeps = said.2;
    }

-- ---- the answerer's step

answer_last : (m : Option Block) (signal : PlainSignal) (before : List PlainSaid) → OfAnswerer (framed signal) →
    LastIs m before × Keeps WrongCounts before →
    LastIs m (record { by = AnswererSide; signal = signal } ∷ before) × Keeps WrongCounts (record { by = AnswererSide; signal = signal } ∷ before)
answer_last None (dis caps) before own h = (λ begun. h.0 (begun || false), (refl, h.1))
answer_last None cfr before own h = (λ begun. h.0 (begun || false), (refl, h.1))
answer_last None ftt before own h = (λ begun. h.0 (begun || false), (refl, h.1))
answer_last None mcf before own h = (λ begun. h.0 (begun || false), (refl, h.1))
answer_last None (ppr marks) before own h = (λ begun. h.0 (begun || false), (refl, h.1))
answer_last None rnr before own h = (λ begun. h.0 (begun || false), (refl, h.1))
answer_last None dcn before own h = (λ begun. h.0 (begun || false), (refl, h.1))
answer_last (Some m) (dis caps) before own h = (λ begun. h.0 (begun || false), (refl, h.1))
answer_last (Some m) cfr before own h = (λ begun. h.0 (begun || false), (refl, h.1))
answer_last (Some m) ftt before own h = (λ begun. h.0 (begun || false), (refl, h.1))
answer_last (Some m) mcf before own h = (λ begun. h.0 (begun || false), (refl, h.1))
answer_last (Some m) (ppr marks) before own h = (λ begun. h.0 (begun || false), (refl, h.1))
answer_last (Some m) rnr before own h = (λ begun. h.0 (begun || false), (refl, h.1))
answer_last (Some m) dcn before own h = (λ begun. h.0 (begun || false), (refl, h.1))
answer_last m signal before own h = absurd own

answer_keeps : (signal : PlainSignal) (before : List PlainSaid) → OfAnswerer (framed signal) → Keeps WrongCounts before →
    Keeps WrongCounts (record { by = AnswererSide; signal = signal } ∷ before)
answer_keeps (dis caps) before own h = (refl, h)
answer_keeps cfr before own h = (refl, h)
answer_keeps ftt before own h = (refl, h)
answer_keeps mcf before own h = (refl, h)
answer_keeps (ppr marks) before own h = (refl, h)
answer_keeps rnr before own h = (refl, h)
answer_keeps dcn before own h = (refl, h)
answer_keeps signal before own h = absurd own

module _ (keep : AnswerersKeep) (w : World) (f : LineFacts w) (rest : List PlainItem) (input : AnswererInput)
    (is : ToAnswerer input w.to_answerer rest) (m : Block) (there : block_at w.caller ≡ Some m) (sending : IsSending w.caller.state)
    (before : List PlainSaid) (has : HasPps (is_repeated w.answerer.accepted (mark_of m)) before) where
  abbrev done_next : Answerer
  done_next = (answerer_step w.answerer input).next

  abbrev later : Bool
  later = is_repeated done_next.accepted (mark_of m)

  back_to : later ≡ false → is_repeated w.answerer.accepted (mark_of m) ≡ false
  back_to = back keep w f rest input is m there sending

  passed : (signal : PlainSignal) → ((begun : Bool) → look (tell Counted) begun (record { by = AnswererSide; signal = signal } ∷ before) ≡
      look (tell Counted) begun before) → HasPps later (record { by = AnswererSide; signal = signal } ∷ before)
  passed signal same_look =
      record { now = same_look false ∙ has.now; fresh = λ new begun. same_look begun ∙ has.fresh (back_to new) begun }

  still : (begun : Bool) → look (tell Counted) (begun || false) before ≡ look (tell Counted) begun before
  still begun = ap (λ b. look (tell Counted) b before) (or_none begun)

  stays : HasPps later before
  stays = record { now = has.now; fresh = λ new. has.fresh (back_to new) }

  answered : (t : Turn) → PprFits w.answerer input t →
      LineFacts (answerer_sends t (record w { to_answerer = rest }) done_next (answerer_items done_next t)) →
      HasPps later (and_said AnswererSide (answerer_items done_next t) before)
  answered turn.Cfr fits facts = absurd (no_check keep w f rest input is m there sending input is fits)
  answered turn.Mcf fits facts =
      let accepted = mcf_later keep w f rest input is m there sending facts in
      record { now = has.now; fresh = λ new. absurd (let both : true ≡ false = sym accepted ∙ new in cc) }
  answered turn.Dis fits facts = passed (dis done_next.caps) still
  answered turn.Ftt fits facts = passed ftt still
  answered (turn.Ppr marks) fits facts = passed (ppr marks) still
  answered turn.Rnr fits facts = passed rnr still
  answered turn.Dcn fits facts = passed dcn still
  answered t fits facts = stays

module _ (keep : AnswerersKeep) (law : NeighboursDiffer) where
  answerer_done : (w : World) (rest : List PlainItem) (input : AnswererInput) (before : List PlainSaid) → LineFacts w →
      LineFacts (answerer_acts (record w { to_answerer = rest }) Done input) → ToAnswerer input w.to_answerer rest → CountsSaid w before →
      CountsSaid (answerer_acts (record w { to_answerer = rest }) Done input) (answerer_speaks w.answerer Done input before)
  answerer_done w rest input before f after is h =
      let v : World = record w { to_answerer = rest } in
      let answer = answerer_step w.answerer input in
      let items = answerer_items answer.next answer.turn in
      let are = answerer_sends_are answer.turn v answer.next items in
      let c = w.caller in
      let own = answerer_is answer.next answer.turn in
      record {
        latest = latest_answered answer.turn v answer.next Done before after.only_dis h.latest;
        told = subst (λ s. ToldOf (answerer_sends answer.turn v answer.next items).caller s.accepted (and_said AnswererSide items before)) (sym are.1)
            (subst (λ d. ToldOf d answer.next.accepted (and_said AnswererSide items before)) (sym are.0)
            (told_by c.state answer.next.accepted (block_at c) (before_at (finished_of c) c.place) (and_said AnswererSide items before)
            (λ s. at s (block_at c) refl
            (told_sending c.state w.answerer.accepted (block_at c) (before_at (finished_of c) c.place) before s h.told))
            (λ s. (says AnswererSide (λ said. LastIs (before_at (finished_of c) c.place) said × Keeps WrongCounts said) OfAnswerer
            (answer_last (before_at (finished_of c) c.place)) items before own
            (told_waiting c.state w.answerer.accepted (block_at c) (before_at (finished_of c) c.place) before s h.told, h.keeps)).0)));
        keeps = says AnswererSide (Keeps WrongCounts) OfAnswerer answer_keeps items before own h.keeps;
      }
    where
      at : IsSending w.caller.state → (b : Option Block) → block_at w.caller ≡ b → PpsOf w.answerer.accepted b before →
          PpsOf (answerer_step w.answerer input).next.accepted b
          (and_said AnswererSide (answerer_items (answerer_step w.answerer input).next (answerer_step w.answerer input).turn) before)
      at s None there old = tt
      at s (Some m) there old = (
        (says AnswererSide (λ said. LastIs (Some m) said × Keeps WrongCounts said) OfAnswerer (answer_last (Some m)) _ before
            (answerer_is (answerer_step w.answerer input).next (answerer_step w.answerer input).turn) (old.0, h.keeps)).0,
        answered keep w f rest input is m there s before old.1 (answerer_step w.answerer input).turn (step_fits w.answerer input) after,
      )

parts_keep : AnswerersKeep → NeighboursDiffer → PartsKeep CountsSaid LineFacts AllDone
parts_keep keep law = record {
  caller = λ w rest outcome input before fine f after is h.
      subst (λ o. CountsSaid (caller_acts (record w { to_caller = rest }) o input) (caller_speaks w.caller o input before)) (sym fine)
      (caller_done law w rest input before f after is h);
  answerer = λ w rest outcome input before fine f after is h.
      subst (λ o. CountsSaid (answerer_acts (record w { to_answerer = rest }) o input) (answerer_speaks w.answerer o input before)) (sym fine)
      (answerer_done keep law w rest input before f after is h);
  lost_to_caller = λ w item rest before is h.
      record { latest = (subst (Each (Latest before)) is h.latest).1; told = h.told; keeps = h.keeps };
  lost_to_answerer = λ w item rest before is h. record { latest = h.latest; told = h.told; keeps = h.keeps };
  spoil = λ w before h. record { latest = h.latest; told = h.told; keeps = h.keeps };
}

-- the law
pub counts_go_on : AnswerersKeep → NeighboursDiffer → LineHolds → RuleIsKeptWithMemory WrongCounts
counts_go_on keep law holds_facts document wish caps steps full done =
    (run_keeps CountsSaid LineFacts AllDone (parts_keep keep law) steps (new_world document wish caps)
    (record { by = AnswererSide; signal = dis caps } ∷ []) done (λ more. holds_facts document wish caps more full)
    (record { latest = (tt, tt); told = λ begun. refl; keeps = (refl, tt) })).keeps
