-- A PPR tells no frame as come that can't have: rule NotCome.
use Rattle.std.proofs.Common.{◌≡◌, ℕ, zero, suc, ◌≤◌, ◌<◌, Bool, true, false, cond, ◌&&◌, ◌||◌, List, [], ◌∷◌, ◌++◌, refl, sym, ap, subst, ◌∙◌, arith, length, ◌⊎◌, inl, inr}
use Rattle.std.specs.Prelude.{Option, Some, None, unwrap_or, not, nat_lt, nat_eq, slice_get, slice_set, is_some, pred}
use Rattle.std.proofs.lemmas.Bool.{eq-eqb, le-ltb}
use Rattle.signals.specs.Signals.{PlainSignal, dis, dcs, cfr, ftt, fcd, rcp, pps, ppr, mcf, rnr, rr, dcn, other}
use Rattle.signals.specs.Agreement.{allowed}
use Rattle.signals.specs.declared.mark.Mark.{Mark}
use Rattle.signals.specs.declared.params.Caps.{Caps}
use Rattle.signals.specs.declared.params.Wish.{Wish}
use Rattle.signals.specs.declared.signal.PageEnd.{PageEnd}
use Rattle.signals.specs.declared.signal.PageEnd.TheVariants.{Null, Mps, Eom, Eop}
use Rattle.signals.specs.declared.signal.Side.TheVariants.{Caller as CallerSide, Answerer as AnswererSide}
use Rattle.partial_page.specs.Assembling.{Frames, all_there, last_counted, ppr_map, within_frame_size}
use Rattle.partial_page.specs.Store.{bit_of, has_frame, frame_of, no_frames}
use Rattle.raster.specs.Pages.{PagePixels}
use Rattle.stations.proofs.PprMaps.{bit_in_map}
use Rattle.stations.specs.Blocks.{Block}
use Rattle.stations.specs.Inputs.{CallerInput, AnswererInput, PlainItem, framed, checked, t1, t2, is_busy, listens, trains}
use Rattle.stations.specs.Laws.{Each}
use Rattle.stations.specs.Layers.{Document, within_page_limit, page_read, is_good_training}
use Rattle.stations.specs.CallerStep.{Caller, caller_step, caller_items, blocks_of}
use Rattle.stations.specs.AnswererStep.{Answerer, AnswererAnswer, answerer_step, answerer_items, unless_answerer_ended, answerer_table, accepts, stores}
use Rattle.stations.specs.AnswererStep.{takes_block, is_repeated, is_clear, answers_pps}
use Rattle.stations.specs.declared.turn.AnswererState.{AnswererState}
use Rattle.stations.specs.declared.turn.AnswererState.TheVariants.{PhaseB, WaitTraining as InTraining, Message}
use Rattle.stations.specs.declared.turn.CallerState.TheVariants.{WaitCfr}
use Rattle.stations.specs.declared.turn.End.{End}
use Rattle.stations.specs.declared.turn.Turn.{Turn}
use Rattle.stations.specs.declared.turn.Turn.TheVariants as turn
use Rattle.line_sim.proofs.Lists.{either, get_within}
use Rattle.line_sim.proofs.Stores.{none_held, put_holds}
use Rattle.line_sim.specs.Headline.{LineHolds}
use Rattle.line_sim.specs.Line.{World, Outcome, Done, Nothing, InputLost, Cut, sent, new_world, caller_sends, answerer_sends}
use Rattle.line_sim.specs.Line.{caller_acts, answerer_acts, spoiled}
use Rattle.line_sim.specs.LineFacts.{LineFacts, SaysBlock, MayReachAnswerer, MayReachCaller, frame_at, Phase}
use Rattle.referee.proofs.Numbers.{nowhere}
use Rattle.referee.specs.Frames.{asked, holds, is_within}
use Rattle.referee.specs.History.{PlainSaid, look}
use Rattle.referee.specs.Questions.{tell}
use Rattle.referee.specs.Rules.{tells_as_come}
use Rattle.referee.specs.declared.frame_test.FrameTest.TheVariants.{ToldAsCome}
use Rattle.referee.specs.declared.question.Question.TheVariants.{MayHave}
use Rattle.referee.specs.declared.rule.Rule.TheVariants.{NotCome}
use Rattle.judged_calls.proofs.PprsAsk.{OfCaller, caller_is, PprBy, PprFits, IsCheck, step_fits, counted_last, few_frames}
use Rattle.judged_calls.proofs.OwnSignals.{each_append, sent_each}
use Rattle.judged_calls.proofs.AfterDcn.{sent_none, caller_sends_are}
use Rattle.judged_calls.proofs.Events.{ToAnswerer, PartsKeep, Any, all_any, run_keeps}
use Rattle.judged_calls.proofs.Bools.{or_true, and_false}
use Rattle.judged_calls.specs.SaidCalls.{and_said, caller_speaks, answerer_speaks, Keeps, RuleIsKeptOfPages}

-- ---- the caller

-- the answerer may have a frame, whether or not an FCD came since
abbrev pub May : List PlainSaid → ℕ → Type 0
May before n = (begun : Bool) → look (tell (MayHave n)) begun before ≡ true

pub may_stay : (n : ℕ) (signal : PlainSignal) (before : List PlainSaid) → OfCaller (framed signal) → May before n →
    May (record { by = CallerSide; signal = signal } ∷ before) n
may_stay n (dis caps) before own h = absurd own
may_stay n (dcs params) before own h = λ begun. h (begun || false)
may_stay n cfr before own h = absurd own
may_stay n ftt before own h = absurd own
may_stay n (fcd number octets) before own h = λ begun. at begun (nat_eq number n) (h (begun || true))
  where
    at : (begun c : Bool) → look (tell (MayHave n)) (begun || true) before ≡ true →
        unwrap_or (cond c (Some true) None) (look (tell (MayHave n)) (begun || true) before) ≡ true
    at begun true k = refl
    at begun false k = k
may_stay n rcp before own h = λ begun. h (begun || false)
may_stay n (pps ends page block last) before own h = λ begun. h (begun || false)
may_stay n (ppr map) before own h = absurd own
may_stay n mcf before own h = absurd own
may_stay n rnr before own h = absurd own
may_stay n rr before own h = λ begun. h (begun || false)
may_stay n dcn before own h = λ begun. h (begun || false)
may_stay n (other octet) before own h = absurd own

may_later : (n : ℕ) (items : List PlainItem) (before : List PlainSaid) → Each OfCaller items → May before n → May (and_said CallerSide items before) n
may_later n [] before own h = h
may_later n (framed signal ∷ items) before own h =
    may_later n items (record { by = CallerSide; signal = signal } ∷ before) own.1 (may_stay n signal before own.0 h)
may_later n (checked octets ∷ items) before own h = may_later n items before own.1 h

-- an FCD under way was said
abbrev pub Under : List PlainSaid → PlainItem → Type 0
Under before (framed (fcd number octets)) = May before number
Under before _ = Unit {0}

under_later : (item : PlainItem) (items : List PlainItem) (before : List PlainSaid) → Each OfCaller items → Under before item →
    Under (and_said CallerSide items before) item
under_later (framed (dis caps)) items before own h = tt
under_later (framed (dcs params)) items before own h = tt
under_later (framed cfr) items before own h = tt
under_later (framed ftt) items before own h = tt
under_later (framed (fcd number octets)) items before own h = may_later number items before own h
under_later (framed rcp) items before own h = tt
under_later (framed (pps ends page block last)) items before own h = tt
under_later (framed (ppr map)) items before own h = tt
under_later (framed mcf) items before own h = tt
under_later (framed rnr) items before own h = tt
under_later (framed rr) items before own h = tt
under_later (framed dcn) items before own h = tt
under_later (framed (other octet)) items before own h = tt
under_later (checked octets) items before own h = tt

pub same_number : (n : ℕ) → nat_eq n n ≡ true
same_number n = eq-eqb n n refl

under_now : (signal : PlainSignal) (before : List PlainSaid) → Under (record { by = CallerSide; signal = signal } ∷ before) (framed signal)
under_now (dis caps) before = tt
under_now (dcs params) before = tt
under_now cfr before = tt
under_now ftt before = tt
under_now (fcd number octets) before = λ begun. rw (same_number number) refl
under_now rcp before = tt
under_now (pps ends page block last) before = tt
under_now (ppr map) before = tt
under_now mcf before = tt
under_now rnr before = tt
under_now rr before = tt
under_now dcn before = tt
under_now (other octet) before = tt

under_new : (items : List PlainItem) (before : List PlainSaid) → Each OfCaller items → Each (Under (and_said CallerSide items before)) items
under_new [] before own = tt
under_new (framed signal ∷ items) before own = (
  under_later (framed signal) items (record { by = CallerSide; signal = signal } ∷ before) own.1 (under_now signal before),
  under_new items (record { by = CallerSide; signal = signal } ∷ before) own.1,
)
under_new (checked octets ∷ items) before own = (tt, under_new items before own.1)

under_old : (xs items : List PlainItem) (before : List PlainSaid) → Each OfCaller items → Each (Under before) xs →
    Each (Under (and_said CallerSide items before)) xs
under_old [] items before own h = tt
under_old (x ∷ xs) items before own h = (under_later x items before own h.0, under_old xs items before own h.1)

under_sent : (t : Turn) (w : World) (next : Caller) (items : List PlainItem) (before : List PlainSaid) → Each OfCaller items →
    Each (Under before) w.to_answerer → Each (Under (and_said CallerSide items before)) (caller_sends t w next items).to_answerer
under_sent turn.Silent w next items before own h = under_old w.to_answerer items before own h
under_sent turn.Dis w next items before own h = each_append (Under (and_said CallerSide items before)) w.to_answerer items (under_old w.to_answerer items before own h) (under_new items before own)
under_sent turn.Training w next items before own h = each_append (Under (and_said CallerSide items before)) w.to_answerer items (under_old w.to_answerer items before own h) (under_new items before own)
under_sent turn.Cfr w next items before own h = each_append (Under (and_said CallerSide items before)) w.to_answerer items (under_old w.to_answerer items before own h) (under_new items before own)
under_sent turn.Ftt w next items before own h = each_append (Under (and_said CallerSide items before)) w.to_answerer items (under_old w.to_answerer items before own h) (under_new items before own)
under_sent (turn.Burst marks) w next items before own h = each_append (Under (and_said CallerSide items before)) w.to_answerer items (under_old w.to_answerer items before own h) (under_new items before own)
under_sent turn.Pps w next items before own h = each_append (Under (and_said CallerSide items before)) w.to_answerer items (under_old w.to_answerer items before own h) (under_new items before own)
under_sent turn.Mcf w next items before own h = each_append (Under (and_said CallerSide items before)) w.to_answerer items (under_old w.to_answerer items before own h) (under_new items before own)
under_sent (turn.Ppr marks) w next items before own h = each_append (Under (and_said CallerSide items before)) w.to_answerer items (under_old w.to_answerer items before own h) (under_new items before own)
under_sent turn.Rnr w next items before own h = each_append (Under (and_said CallerSide items before)) w.to_answerer items (under_old w.to_answerer items before own h) (under_new items before own)
under_sent turn.Rr w next items before own h = each_append (Under (and_said CallerSide items before)) w.to_answerer items (under_old w.to_answerer items before own h) (under_new items before own)
under_sent turn.Dcn w next items before own h = each_append (Under (and_said CallerSide items before)) w.to_answerer items (under_old w.to_answerer items before own h) (under_new items before own)

come_signal : (signal : PlainSignal) (before : List PlainSaid) → OfCaller (framed signal) → Keeps NotCome before →
    Keeps NotCome (record { by = CallerSide; signal = signal } ∷ before)
come_signal (dis caps) before own h = absurd own
come_signal (dcs params) before own h = (refl, h)
come_signal cfr before own h = absurd own
come_signal ftt before own h = absurd own
come_signal (fcd number octets) before own h = (refl, h)
come_signal rcp before own h = (refl, h)
come_signal (pps ends page block last) before own h = (refl, h)
come_signal (ppr map) before own h = absurd own
come_signal mcf before own h = absurd own
come_signal rnr before own h = absurd own
come_signal rr before own h = (refl, h)
come_signal dcn before own h = (refl, h)
come_signal (other octet) before own h = absurd own

come_items : (items : List PlainItem) (before : List PlainSaid) → Each OfCaller items → Keeps NotCome before → Keeps NotCome (and_said CallerSide items before)
come_items [] before own h = h
come_items (framed signal ∷ items) before own h =
    come_items items (record { by = CallerSide; signal = signal } ∷ before) own.1 (come_signal signal before own.0 h)
come_items (checked octets ∷ items) before own h = come_items items before own.1 h

-- ---- what an answerer keeps

-- the input is the FCD of a number
abbrev pub IsFcd : AnswererInput → ℕ → Type 0
IsFcd (listens (fcd number octets)) n = number ≡ n
IsFcd _ n = ⊥

-- each frame that is kept was kept before, or comes now
abbrev pub Grows : Answerer → AnswererInput → Answerer → Type 0
Grows s input next = (n : ℕ) (octets : List ℕ) → frame_of next.frames n ≡ Some octets → (frame_of s.frames n ≡ Some octets) ⊎ IsFcd input n

empties : (s next : Answerer) (input : AnswererInput) → next.frames ≡ no_frames → Grows s input next
empties s next input none = λ n octets e. absurd (none_held next.frames n octets none e)

module _ (s : Answerer) (input : AnswererInput) where
  stores_grow : (ends : PageEnd) (mark : Mark) (page : Option PagePixels) → Grows s input (stores s ends mark page).next
  stores_grow ends mark None = λ n octets e. inl e
  stores_grow ends mark (Some page) = empties s (stores s ends mark (Some page)).next input refl

  takes_grow : (ends : PageEnd) (mark : Mark) (octets : List ℕ) → Grows s input (takes_block s ends mark octets).next
  takes_grow Null mark octets =
      either (λ (a : AnswererAnswer). Grows s input a.next) (within_page_limit octets) _ _
      (λ h. empties s (accepts s Null mark octets s.pages).next input refl) (λ h n o e. inl e)
  takes_grow Mps mark octets = stores_grow Mps mark (page_read s.params octets)
  takes_grow Eom mark octets = stores_grow Eom mark (page_read s.params octets)
  takes_grow Eop mark octets = stores_grow Eop mark (page_read s.params octets)

  pps_grow : (ends : PageEnd) (mark : Mark) (last : ℕ) → Grows s input (answers_pps s ends mark last).next
  pps_grow ends mark last =
      either (λ (a : AnswererAnswer). Grows s input a.next) (is_repeated s.accepted mark) _ _ (λ h n o e. inl e)
      (λ h. either (λ (a : AnswererAnswer). Grows s input a.next) (all_there s.frames (last_counted s.asked mark last)) _ _
      (λ k. takes_grow ends mark _) (λ k n o e. inl e))

fcd_grows : (s : Answerer) (number : ℕ) (octets : List ℕ) →
    Grows s (listens (fcd number octets)) (record s { frames = slice_set s.frames number (Some octets); ready = true })
fcd_grows s number octets =
    put_holds s.frames number octets (λ n o. (frame_of s.frames n ≡ Some o) ⊎ (number ≡ n)) (λ n o e. inl e) (inr refl)

table_grows : (state : AnswererState) (input : AnswererInput) (s : Answerer) → Grows s input (answerer_table state input s).next
table_grows PhaseB (listens (dis caps)) s = λ n o e. inl e
table_grows PhaseB (listens (dcs params)) s = either (λ (a : AnswererAnswer). Grows s (listens (dcs params)) a.next) (allowed s.caps params) _ _ (λ h n o e. inl e) (λ h n o e. inl e)
table_grows PhaseB (listens cfr) s = λ n o e. inl e
table_grows PhaseB (listens ftt) s = λ n o e. inl e
table_grows PhaseB (listens (fcd number octets)) s = λ n o e. inl e
table_grows PhaseB (listens rcp) s = λ n o e. inl e
table_grows PhaseB (listens (pps ends page block last)) s = either (λ (a : AnswererAnswer). Grows s (listens (pps ends page block last)) a.next) (is_repeated s.accepted (record { page = page; block = block })) _ _ (λ h n o e. inl e) (λ h n o e. inl e)
table_grows PhaseB (listens (ppr map)) s = λ n o e. inl e
table_grows PhaseB (listens mcf) s = λ n o e. inl e
table_grows PhaseB (listens rnr) s = λ n o e. inl e
table_grows PhaseB (listens rr) s = either (λ (a : AnswererAnswer). Grows s (listens rr) a.next) (is_some s.accepted && is_clear s.frames) _ _ (λ h n o e. inl e) (λ h n o e. inl e)
table_grows PhaseB (listens dcn) s = λ n o e. inl e
table_grows PhaseB (listens (other octet)) s = λ n o e. inl e
table_grows PhaseB (trains octets) s = λ n o e. inl e
table_grows PhaseB t2 s = λ n o e. inl e
table_grows PhaseB t1 s = λ n o e. inl e
table_grows PhaseB (is_busy busy) s = λ n o e. inl e
table_grows InTraining (listens (dis caps)) s = λ n o e. inl e
table_grows InTraining (listens (dcs params)) s = either (λ (a : AnswererAnswer). Grows s (listens (dcs params)) a.next) (allowed s.caps params) _ _ (λ h. empties s (record s { state = InTraining; params = params; frames = no_frames; ready = false; asked = None }) (listens (dcs params)) refl) (λ h n o e. inl e)
table_grows InTraining (listens cfr) s = λ n o e. inl e
table_grows InTraining (listens ftt) s = λ n o e. inl e
table_grows InTraining (listens (fcd number octets)) s = λ n o e. inl e
table_grows InTraining (listens rcp) s = λ n o e. inl e
table_grows InTraining (listens (pps ends page block last)) s = either (λ (a : AnswererAnswer). Grows s (listens (pps ends page block last)) a.next) (is_repeated s.accepted (record { page = page; block = block })) _ _ (λ h n o e. inl e) (λ h n o e. inl e)
table_grows InTraining (listens (ppr map)) s = λ n o e. inl e
table_grows InTraining (listens mcf) s = λ n o e. inl e
table_grows InTraining (listens rnr) s = λ n o e. inl e
table_grows InTraining (listens rr) s = either (λ (a : AnswererAnswer). Grows s (listens rr) a.next) (is_some s.accepted && is_clear s.frames) _ _ (λ h n o e. inl e) (λ h n o e. inl e)
table_grows InTraining (listens dcn) s = λ n o e. inl e
table_grows InTraining (listens (other octet)) s = λ n o e. inl e
table_grows InTraining (trains octets) s = either (λ (a : AnswererAnswer). Grows s (trains octets) a.next) (is_good_training octets s.params) _ _ (λ h n o e. inl e) (λ h n o e. inl e)
table_grows InTraining t2 s = λ n o e. inl e
table_grows InTraining t1 s = λ n o e. inl e
table_grows InTraining (is_busy busy) s = λ n o e. inl e
table_grows Message (listens (dis caps)) s = λ n o e. inl e
table_grows Message (listens (dcs params)) s = either (λ (a : AnswererAnswer). Grows s (listens (dcs params)) a.next) (allowed s.caps params) _ _ (λ h. empties s (record s { state = InTraining; params = params; frames = no_frames; ready = false; asked = None }) (listens (dcs params)) refl) (λ h n o e. inl e)
table_grows Message (listens cfr) s = λ n o e. inl e
table_grows Message (listens ftt) s = λ n o e. inl e
table_grows Message (listens (fcd number octets)) s = either (λ (a : AnswererAnswer). Grows s (listens (fcd number octets)) a.next) (within_frame_size s.params octets) _ _ (λ h. fcd_grows s number octets) (λ h n o e. inl e)
table_grows Message (listens rcp) s = λ n o e. inl e
table_grows Message (listens (pps ends page block last)) s = pps_grow s (listens (pps ends page block last)) ends (record { page = page; block = block }) last
table_grows Message (listens (ppr map)) s = λ n o e. inl e
table_grows Message (listens mcf) s = λ n o e. inl e
table_grows Message (listens rnr) s = λ n o e. inl e
table_grows Message (listens rr) s = either (λ (a : AnswererAnswer). Grows s (listens rr) a.next) (is_some s.accepted && is_clear s.frames) _ _ (λ h n o e. inl e) (λ h n o e. inl e)
table_grows Message (listens dcn) s = λ n o e. inl e
table_grows Message (listens (other octet)) s = λ n o e. inl e
table_grows Message (trains octets) s = λ n o e. inl e
table_grows Message t2 s = λ n o e. inl e
table_grows Message t1 s = λ n o e. inl e
table_grows Message (is_busy busy) s = λ n o e. inl e

step_grows : (s : Answerer) (input : AnswererInput) → Grows s input (answerer_step s input).next
step_grows s input = at s.ending
  where
    at : (e : Option End) → Grows s input (unless_answerer_ended e input s).next
    at None = table_grows s.state input s
    at (Some why) = λ n o e. inl e

-- ---- a PPR

-- each frame that is kept may have come
abbrev pub Held : Frames → List PlainSaid → Type 0
Held frames before = (n : ℕ) (octets : List ℕ) → frame_of frames n ≡ Some octets → May before n

not_come : (frames : Frames) (last : ℕ) (before : List PlainSaid) → Held frames before → tells_as_come (ppr (ppr_map frames last)) before ≡ false
not_come frames last before held =
    nowhere (λ k. holds (ToldAsCome (ppr_map frames last)) k before) (λ n within. at n within (frame_of frames n) refl)
  where
    at : (n : ℕ) → n < 256 → (o : Option (List ℕ)) → frame_of frames n ≡ o → holds (ToldAsCome (ppr_map frames last)) n before ≡ false
    at n within None is =
        let bit : bit_of (ppr_map frames last) n ≡ true =
        bit_in_map frames last n within ∙ (ap (λ f. nat_lt last n || not (is_some f)) is ∙ or_true (nat_lt last n)) in
        rw bit refl
    at n within (Some octets) is =
        let may : asked (MayHave n) before ≡ true = held n octets is false in
        let left = not (bit_of (ppr_map frames last) n) in
        ap (λ b. left && (is_within n before && not b)) may ∙ (ap (λ b. left && b) (and_false (is_within n before)) ∙ and_false left)

-- a frame that is kept isn't asked for
pub not_asked : (frames : Frames) (last n : ℕ) (octets : List ℕ) → n < 256 → n ≤ last → frame_of frames n ≡ Some octets →
    bit_of (ppr_map frames last) n ≡ false
not_asked frames last n octets within up is =
    bit_in_map frames last n within ∙ (ap (λ b. b || not (has_frame frames n)) (le-ltb last n up) ∙ ap (λ f. not (is_some f)) is)

-- ---- what is given to the answerer

abbrev pub GivenFrame : Answerer → AnswererInput → List PlainSaid → Type 0
GivenFrame s (listens (fcd number octets)) before = May before number
GivenFrame s (listens (pps ends page block last)) before =
    (last_counted s.asked (record { page = page; block = block }) last ≡ last) ×
    ((n : ℕ) (octets : List ℕ) → frame_of s.frames n ≡ Some octets → (n < 256) × (n ≤ last))
GivenFrame s (trains octets) before = s.frames ≡ no_frames
GivenFrame s _ before = Unit {0}

-- each frame that is kept after the input may have come
kept_may : (s next : Answerer) (input : AnswererInput) (before : List PlainSaid) → Grows s input next → GivenFrame s input before →
    Held s.frames before → Held next.frames before
kept_may s next input before grows given held n octets e = at (grows n octets e)
  where
    of_fcd : (i : AnswererInput) → GivenFrame s i before → IsFcd i n → May before n
    of_fcd (listens (dis caps)) given is = absurd is
    of_fcd (listens (dcs params)) given is = absurd is
    of_fcd (listens cfr) given is = absurd is
    of_fcd (listens ftt) given is = absurd is
    of_fcd (listens (fcd number octets)) given is = subst (May before) is given
    of_fcd (listens rcp) given is = absurd is
    of_fcd (listens (pps ends page block last)) given is = absurd is
    of_fcd (listens (ppr map)) given is = absurd is
    of_fcd (listens mcf) given is = absurd is
    of_fcd (listens rnr) given is = absurd is
    of_fcd (listens rr) given is = absurd is
    of_fcd (listens dcn) given is = absurd is
    of_fcd (listens (other octet)) given is = absurd is
    of_fcd (trains octets) given is = absurd is
    of_fcd t2 given is = absurd is
    of_fcd t1 given is = absurd is
    of_fcd (is_busy busy) given is = absurd is

    at : (frame_of s.frames n ≡ Some octets) ⊎ IsFcd input n → May before n
    at (inl old) = held n octets old
    at (inr new) = of_fcd input given new

-- a PPR: no frame is told as come that can't have, and no frame that is kept is asked for
abbrev pub PprRight : Frames → List PlainSaid → List ℕ → Type 0
PprRight frames before marks =
    (tells_as_come (ppr marks) before ≡ false) × ((n : ℕ) (octets : List ℕ) → frame_of frames n ≡ Some octets → bit_of marks n ≡ false)

pps_ppr : (s next : Answerer) (ends : PageEnd) (page block last : ℕ) (before : List PlainSaid) (marks : List ℕ) →
    GivenFrame s (listens (pps ends page block last)) before → PprBy s (listens (pps ends page block last)) marks →
    Grows s (listens (pps ends page block last)) next → Held s.frames before → PprRight next.frames before marks
pps_ppr s next ends page block last before marks given by grows held =
    let is : marks ≡ ppr_map s.frames last = by.0 ∙ ap (ppr_map s.frames) given.0 in (
      ap (λ m. tells_as_come (ppr m) before) is ∙ not_come s.frames last before held,
      λ n octets e. at n octets (grows n octets e) is,
    )
  where
    at : (n : ℕ) (octets : List ℕ) → (frame_of s.frames n ≡ Some octets) ⊎ IsFcd (listens (pps ends page block last)) n →
        marks ≡ ppr_map s.frames last → bit_of marks n ≡ false
    at n octets (inl old) is = let low = given.1 n octets old in ap (λ m. bit_of m n) is ∙ not_asked s.frames last n octets low.0 low.1 old
    at n octets (inr new) is = absurd new

ppr_right : (s next : Answerer) (input : AnswererInput) (before : List PlainSaid) (marks : List ℕ) → GivenFrame s input before →
    PprBy s input marks → Grows s input next → Held s.frames before → PprRight next.frames before marks
ppr_right s next (listens (dis caps)) before marks given by grows held = absurd by
ppr_right s next (listens (dcs params)) before marks given by grows held = absurd by
ppr_right s next (listens cfr) before marks given by grows held = absurd by
ppr_right s next (listens ftt) before marks given by grows held = absurd by
ppr_right s next (listens (fcd number octets)) before marks given by grows held = absurd by
ppr_right s next (listens rcp) before marks given by grows held = absurd by
ppr_right s next (listens (pps ends page block last)) before marks given by grows held = pps_ppr s next ends page block last before marks given by grows held
ppr_right s next (listens (ppr map)) before marks given by grows held = absurd by
ppr_right s next (listens mcf) before marks given by grows held = absurd by
ppr_right s next (listens rnr) before marks given by grows held = absurd by
ppr_right s next (listens rr) before marks given by grows held = absurd by
ppr_right s next (listens dcn) before marks given by grows held = absurd by
ppr_right s next (listens (other octet)) before marks given by grows held = absurd by
ppr_right s next (trains octets) before marks given by grows held = absurd by
ppr_right s next t2 before marks given by grows held = absurd by
ppr_right s next t1 before marks given by grows held = absurd by
ppr_right s next (is_busy busy) before marks given by grows held = absurd by

-- a check finds no frame kept
check_none : (s next : Answerer) (input : AnswererInput) (before : List PlainSaid) → GivenFrame s input before → IsCheck input →
    Grows s input next → (n : ℕ) (octets : List ℕ) → frame_of next.frames n ≡ Some octets → ⊥
check_none s next (listens (dis caps)) before given check grows n octets_then e = absurd check
check_none s next (listens (dcs params)) before given check grows n octets_then e = absurd check
check_none s next (listens cfr) before given check grows n octets_then e = absurd check
check_none s next (listens ftt) before given check grows n octets_then e = absurd check
check_none s next (listens (fcd number octets)) before given check grows n octets_then e = absurd check
check_none s next (listens rcp) before given check grows n octets_then e = absurd check
check_none s next (listens (pps ends page block last)) before given check grows n octets_then e = absurd check
check_none s next (listens (ppr map)) before given check grows n octets_then e = absurd check
check_none s next (listens mcf) before given check grows n octets_then e = absurd check
check_none s next (listens rnr) before given check grows n octets_then e = absurd check
check_none s next (listens rr) before given check grows n octets_then e = absurd check
check_none s next (listens dcn) before given check grows n octets_then e = absurd check
check_none s next (listens (other octet)) before given check grows n octets_then e = absurd check
check_none s next (trains octets) before given check grows n data_then e = at (grows n data_then e)
  where
    at : (frame_of s.frames n ≡ Some data_then) ⊎ IsFcd (trains octets) n → ⊥
    at (inl old) = none_held s.frames n data_then given old
    at (inr new) = new
check_none s next t2 before given check grows n octets_then e = absurd check
check_none s next t1 before given check grows n octets_then e = absurd check
check_none s next (is_busy busy) before given check grows n octets_then e = absurd check

-- ---- one turn

-- what holds of a world and what was said in it
pub record Comes (w : World) (before : List PlainSaid) : Type 0 where
  pub under : Each (Under before) w.to_answerer
  pub held : Held w.answerer.frames before
  pub come : Keeps NotCome before

-- what holds of the answerer after a turn
abbrev pub Kept : Frames → List PlainSaid → Type 0
Kept frames after = Held frames after × Keeps NotCome after

kept_said : (frames : Frames) (signal : PlainSignal) (outcome : Outcome) (before : List PlainSaid) → tells_as_come signal before ≡ false →
    Held frames before → Held frames (record { by = AnswererSide; signal = signal } ∷ before) → Keeps NotCome before →
    Kept frames (and_said AnswererSide (sent outcome (framed signal ∷ [])) before)
kept_said frames signal Done before right old new come = (new, (right, come))
kept_said frames signal Nothing before right old new come = (new, (right, come))
kept_said frames signal InputLost before right old new come = (new, (right, come))
kept_said frames signal (Cut zero) before right old new come = (old, come)
kept_said frames signal (Cut (suc zero)) before right old new come = (new, (right, come))
kept_said frames signal (Cut (suc (suc made))) before right old new come = (new, (right, come))

kept_none : (frames : Frames) (outcome : Outcome) (before : List PlainSaid) → Held frames before → Keeps NotCome before →
    Kept frames (and_said AnswererSide (sent outcome []) before)
kept_none frames outcome before held come = rw (sent_none outcome) (held, come)

under_silent : (outcome : Outcome) (w : World) (before : List PlainSaid) → Each (Under before) w.to_answerer →
    Each (Under (and_said AnswererSide (sent outcome []) before)) w.to_answerer
under_silent outcome w before h = rw (sent_none outcome) h

-- what a turn needs
pub record TurnNeeds (t : Turn) (frames : Frames) (before : List PlainSaid) : Type 0 where
  pub held : Held frames before
  pub asks : (marks : List ℕ) → t ≡ turn.Ppr marks → PprRight frames before marks
  pub trained : t ≡ turn.Cfr → (n : ℕ) (octets : List ℕ) → frame_of frames n ≡ Some octets → ⊥
  pub confirmed : t ≡ turn.Mcf → frames ≡ no_frames

turn_comes : (t : Turn) (w : World) (next : Answerer) (outcome : Outcome) (before : List PlainSaid) → TurnNeeds t next.frames before → Comes w before →
    Comes (answerer_sends t w next (sent outcome (answerer_items next t))) (and_said AnswererSide (sent outcome (answerer_items next t)) before)
turn_comes turn.Silent w next outcome before needs h =
    let k = kept_none next.frames outcome before needs.held h.come in record { under = under_silent outcome w before h.under; held = k.0; come = k.1 }
turn_comes turn.Dis w next outcome before needs h =
    let k = kept_said next.frames (dis next.caps) outcome before refl needs.held (λ n o e begun. needs.held n o e (begun || false)) h.come in
    record { under = tt; held = k.0; come = k.1 }
turn_comes turn.Training w next outcome before needs h =
    let k = kept_none next.frames outcome before needs.held h.come in record { under = tt; held = k.0; come = k.1 }
turn_comes turn.Cfr w next outcome before needs h =
    let k = kept_said next.frames cfr outcome before refl needs.held (λ n o e. absurd (needs.trained refl n o e)) h.come in
    record { under = tt; held = k.0; come = k.1 }
turn_comes turn.Ftt w next outcome before needs h =
    let k = kept_said next.frames ftt outcome before refl needs.held (λ n o e begun. needs.held n o e (begun || false)) h.come in
    record { under = tt; held = k.0; come = k.1 }
turn_comes (turn.Burst marks) w next outcome before needs h =
    let k = kept_none next.frames outcome before needs.held h.come in record { under = tt; held = k.0; come = k.1 }
turn_comes turn.Pps w next outcome before needs h =
    let k = kept_none next.frames outcome before needs.held h.come in record { under = tt; held = k.0; come = k.1 }
turn_comes turn.Mcf w next outcome before needs h =
    let k = kept_said next.frames mcf outcome before refl needs.held (λ n o e. absurd (none_held next.frames n o (needs.confirmed refl) e)) h.come in
    record { under = tt; held = k.0; come = k.1 }
turn_comes (turn.Ppr marks) w next outcome before needs h =
    let right = needs.asks marks refl in
    let k = kept_said next.frames (ppr marks) outcome before right.0 needs.held (λ n o e begun. ap not (right.1 n o e)) h.come in
    record { under = tt; held = k.0; come = k.1 }
turn_comes turn.Rnr w next outcome before needs h =
    let k = kept_said next.frames rnr outcome before refl needs.held (λ n o e begun. needs.held n o e (begun || false)) h.come in
    record { under = tt; held = k.0; come = k.1 }
turn_comes turn.Rr w next outcome before needs h =
    let k = kept_none next.frames outcome before needs.held h.come in record { under = tt; held = k.0; come = k.1 }
turn_comes turn.Dcn w next outcome before needs h =
    let k = kept_said next.frames dcn outcome before refl needs.held (λ n o e begun. needs.held n o e (begun || false)) h.come in
    record { under = tt; held = k.0; come = k.1 }

-- an MCF leaves no frame kept: by the facts of the line after it
pub last_of : {A : Type 0} (P : A → Type 0) (xs : List A) (x : A) → Each P (xs ++ x ∷ []) → P x
last_of P [] x h = h.0
last_of P (y ∷ xs) x h = last_of P xs x h.1

confirmed_none : (w : World) (next : Answerer) → LineFacts (answerer_sends turn.Mcf w next (framed mcf ∷ [])) → next.frames ≡ no_frames
confirmed_none w next f =
    f.stations.cleared (last_of (MayReachCaller w.caller.place next.state f.accepted) w.to_caller (framed mcf) f.to_caller)

mcf_none : (w : World) (next : Answerer) (t : Turn) → LineFacts (answerer_sends t w next (answerer_items next t)) → t ≡ turn.Mcf → next.frames ≡ no_frames
mcf_none w next t f is = confirmed_none w next (subst (λ u. LineFacts (answerer_sends u w next (answerer_items next u))) is f)

answerer_comes : (w : World) (outcome : Outcome) (input : AnswererInput) (before : List PlainSaid) → LineFacts (answerer_acts w Done input) →
    GivenFrame w.answerer input before → Comes w before →
    Comes (answerer_acts w outcome input) (answerer_speaks w.answerer outcome input before)
answerer_comes w outcome input before f given h =
    let s = w.answerer in
    let answer = answerer_step s input in
    let grows = step_grows s input in
    turn_comes answer.turn w answer.next outcome before
    (record {
      held = kept_may s answer.next input before grows given h.held;
      asks = λ marks is. ppr_right s answer.next input before marks given (subst (PprFits s input) is (step_fits s input)) grows h.held;
      trained = λ is. check_none s answer.next input before given (subst (PprFits s input) is (step_fits s input)) grows;
      confirmed = mcf_none w answer.next answer.turn f;
    }) h

caller_comes : (w : World) (outcome : Outcome) (input : CallerInput) (before : List PlainSaid) → Comes w before →
    Comes (caller_acts w outcome input) (caller_speaks w.caller outcome input before)
caller_comes w outcome input before h =
    let answer = caller_step w.caller input in
    let items = sent outcome (caller_items answer.next answer.turn) in
    let own : Each OfCaller items = sent_each OfCaller outcome _ (caller_is answer.next answer.turn) in
    let are = caller_sends_are answer.turn w answer.next items in
    record {
      under = under_sent answer.turn w answer.next items before own h.under;
      held = λ n o e. may_later n items before own (h.held n o (sym (ap (λ a. frame_of a.frames n) are.1) ∙ e));
      come = come_items items before own h.come;
    }

-- ---- what is under way is given

in_block : (b : Option Block) (s : Answerer) (ends : PageEnd) (mark : Mark) (last : ℕ) →
    ((block : Block) → b ≡ Some block → length block.frames ≤ 256) → SaysBlock b ends mark last →
    ((n : ℕ) (octets : List ℕ) → frame_of s.frames n ≡ Some octets → frame_at b n ≡ Some octets) →
    (n : ℕ) (octets : List ℕ) → frame_of s.frames n ≡ Some octets → (n < 256) × (n ≤ last)
in_block None s ends mark last few says opened n octets e = absurd says
in_block (Some block) s ends mark last few says opened n octets e =
    let short : length block.frames ≤ 256 = few block refl in
    let inside : n < length block.frames = get_within block.frames n octets (opened n octets e) in
    (omega (arith, short, inside), rw says.2 (up_to_last n (length block.frames) inside))
  where
    up_to_last : (n count : ℕ) → n < count → n ≤ pred count
    up_to_last n zero h = absurd (omega (arith, h))
    up_to_last n (suc count) h = omega (arith, h)

given_frame : (w : World) (f : LineFacts w) (signal : PlainSignal) (before : List PlainSaid) → MayReachAnswerer w.caller f.accepted (framed signal) →
    Under before (framed signal) → GivenFrame w.answerer (listens signal) before
given_frame w f (dis caps) before may under = tt
given_frame w f (dcs params) before may under = tt
given_frame w f cfr before may under = tt
given_frame w f ftt before may under = tt
given_frame w f (fcd number octets) before may under = under
given_frame w f rcp before may under = tt
given_frame w f (pps ends page block last) before may under =
    let few = few_frames w.caller f.stations.call.readable in
    let mark : Mark = record { page = page; block = block } in (
      (counted_last w.answerer.asked (slice_get (blocks_of w.caller) w.caller.place) w.caller.place f.accepted ends mark last few f.stations.asked may.1).0,
      in_block (slice_get (blocks_of w.caller) w.caller.place) w.answerer ends mark last few may.1 f.stations.open_frames,
    )
given_frame w f (ppr map) before may under = tt
given_frame w f mcf before may under = tt
given_frame w f rnr before may under = tt
given_frame w f rr before may under = tt
given_frame w f dcn before may under = tt
given_frame w f (other octet) before may under = tt

given_check : (w : World) (f : LineFacts w) → w.caller.state ≡ WaitCfr → w.answerer.frames ≡ no_frames
given_check w f is = (subst (λ state. Phase state w.caller f.accepted w.answerer) is f.stations.phase).1.none_open

-- ---- a world and what was said in it

abbrev pub AllUnder : List PlainSaid → List PlainItem → Type 0
AllUnder before items = Each (Under before) items

given_by : (w : World) (f : LineFacts w) (input : AnswererInput) (rest : List PlainItem) (before : List PlainSaid) →
    ToAnswerer input w.to_answerer rest → AllUnder before w.to_answerer → GivenFrame w.answerer input before × AllUnder before rest
given_by w f (listens signal) rest before is under =
    let may = subst (Each (MayReachAnswerer w.caller f.accepted)) is f.to_answerer in
    let all = subst (AllUnder before) is under in
    (given_frame w f signal before may.0 all.0, all.1)
given_by w f (trains octets) rest before is under =
    (given_check w f (subst (Each (MayReachAnswerer w.caller f.accepted)) is f.to_answerer).0, (subst (AllUnder before) is under).1)
given_by w f t1 rest before is under = (tt, subst (AllUnder before) is under)
given_by w f t2 rest before is under = (tt, subst (AllUnder before) is under)
given_by w f (is_busy busy) rest before is under = (tt, subst (AllUnder before) is under)

spoiled_under : (before : List PlainSaid) (items : List PlainItem) → Each (Under before) items → Each (Under before) (spoiled items)
spoiled_under before [] h = tt
spoiled_under before (framed signal ∷ items) h = h
spoiled_under before (checked octets ∷ items) h = h

pub comes_parts : PartsKeep Comes LineFacts Any
comes_parts = record {
  caller = λ w rest outcome input before fine f after is h.
      caller_comes (record w { to_caller = rest }) outcome input before (record { under = h.under; held = h.held; come = h.come });
  answerer = λ w rest outcome input before fine f after is h.
      let given = given_by w f input rest before is h.under in
      answerer_comes (record w { to_answerer = rest }) outcome input before after given.0
      (record { under = given.1; held = h.held; come = h.come });
  lost_to_caller = λ w item rest before is h. record { under = h.under; held = h.held; come = h.come };
  lost_to_answerer = λ w item rest before is h.
      record { under = (subst (AllUnder before) is h.under).1; held = h.held; come = h.come };
  spoil = λ w before h. record { under = spoiled_under before w.to_answerer h.under; held = h.held; come = h.come };
}

pub comes_first : (document : Document) (wish : Wish) (caps : Caps) →
    Comes (new_world document wish caps) (record { by = AnswererSide; signal = dis caps } ∷ [])
comes_first document wish caps = record { under = tt; held = λ n o e. absurd (none_held no_frames n o refl e); come = (refl, tt) }

-- the law
pub told_have_come : LineHolds → RuleIsKeptOfPages NotCome
told_have_come holds_facts document wish caps steps full =
    (run_keeps Comes LineFacts Any comes_parts steps (new_world document wish caps) (record { by = AnswererSide; signal = dis caps } ∷ [])
    (all_any steps) (λ more. holds_facts document wish caps more full) (comes_first document wish caps)).come
