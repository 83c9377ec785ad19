-- A PPR asks for what is missing of its block, and for nothing else in it: rules AsksNothing and BadMap.
use Rattle.std.proofs.Common.{◌≡◌, ℕ, zero, suc, ◌≤◌, ◌<◌, Bool, true, false, cond, ◌&&◌, ◌||◌, List, [], ◌∷◌, ◌++◌, refl, sym, ap, subst, ◌∙◌, arith, rules, length}
use Rattle.std.specs.Prelude.{Option, Some, None, unwrap_or, not, nat_le, nat_lt, slice_get, is_some, pred}
use Rattle.std.proofs.lemmas.Bool.{ltb-false}
use Rattle.signals.specs.Signals.{PlainSignal, dis, dcs, cfr, ftt, fcd, rcp, pps, ppr, mcf, rnr, rr, dcn, other}
use Rattle.signals.specs.Agreement.{allowed}
use Rattle.signals.specs.declared.mark.Mark.{Mark}
use Rattle.signals.specs.declared.params.Caps.{Caps}
use Rattle.signals.specs.declared.params.Params.{Params}
use Rattle.signals.specs.declared.params.Wish.{Wish}
use Rattle.signals.specs.declared.signal.PageEnd.{PageEnd}
use Rattle.signals.specs.declared.signal.PageEnd.TheVariants.{Null, Mps, Eom, Eop}
use Rattle.signals.specs.declared.signal.Side.TheVariants.{Caller as CallerSide, Answerer as AnswererSide}
use Rattle.partial_page.specs.Assembling.{Frames, Asked, all_there, last_counted, ppr_map, is_whole, within_frame_size}
use Rattle.partial_page.specs.Store.{bit_of, has_frame}
use Rattle.raster.specs.Pages.{PagePixels}
use Rattle.stations.proofs.PprMaps.{bit_in_map}
use Rattle.stations.proofs.Progress.{block_fits}
use Rattle.stations.specs.Blocks.{Block}
use Rattle.stations.specs.Inputs.{CallerInput, AnswererInput, PlainItem, framed, checked, t1, t2, is_busy, listens, trains}
use Rattle.stations.specs.Laws.{Each, AreReadable}
use Rattle.stations.specs.Layers.{Document, IsFullPage, within_page_limit, page_read, is_good_training}
use Rattle.stations.specs.CallerStep.{Caller, caller_step, caller_items, training_items, fcds, pps_of, burst_of, pps_items, present_block, blocks_of}
use Rattle.stations.specs.AnswererStep.{Answerer, AnswererAnswer, answerer_step, answerer_items, unless_answerer_ended, answerer_table, confirms, stores}
use Rattle.stations.specs.AnswererStep.{takes_block, judges_block, is_repeated, is_clear, answers_pps}
use Rattle.stations.specs.declared.turn.AnswererState.{AnswererState}
use Rattle.stations.specs.declared.turn.AnswererState.TheVariants.{PhaseB, WaitTraining as InTraining, Message}
use Rattle.stations.specs.declared.turn.CallerState.{CallerState}
use Rattle.stations.specs.declared.turn.CallerState.TheVariants.{WaitDis, WaitCfr, WaitBlock, WaitReady}
use Rattle.stations.specs.declared.turn.End.{End}
use Rattle.stations.specs.declared.turn.Turn.{Turn}
use Rattle.stations.specs.declared.turn.Turn.TheVariants as turn
use Rattle.line_sim.proofs.AnswererKeeps.{counted}
use Rattle.line_sim.proofs.Lists.{either}
use Rattle.line_sim.specs.Headline.{LineHolds}
use Rattle.line_sim.specs.Line.{World, Outcome, Done, Nothing, InputLost, Cut, sent, new_world, caller_sends, answerer_sends}
use Rattle.line_sim.specs.Line.{caller_acts, answerer_acts, spoiled}
use Rattle.line_sim.specs.LineFacts.{LineFacts, AskedFits, SaysBlock, MayReachAnswerer}
use Rattle.line_sim.specs.declared.event.Event.{Event}
use Rattle.referee.proofs.Numbers.{here, nowhere}
use Rattle.referee.specs.Frames.{asked, holds, some_frame}
use Rattle.referee.specs.History.{PlainSaid, look}
use Rattle.referee.specs.Questions.{tell}
use Rattle.referee.specs.Rules.{asks_nothing, has_bad_map}
use Rattle.referee.specs.declared.frame_test.FrameTest.TheVariants.{IsAskedFor, BeyondUnmarked}
use Rattle.referee.specs.declared.question.Question.TheVariants.{Reaches, Counted}
use Rattle.referee.specs.declared.rule.Rule.TheVariants.{AsksNothing, BadMap}
use Rattle.judged_calls.proofs.OwnSignals.{each_append, sent_each}
use Rattle.judged_calls.proofs.AfterDcn.{sent_none}
use Rattle.judged_calls.proofs.Events.{ToAnswerer, KnownToAnswerer, answerer_takes, each_rest, PartsKeep, run_keeps, Any, all_any}
use Rattle.judged_calls.proofs.Bools.{or_true, and_false}
use Rattle.judged_calls.specs.SaidCalls.{and_said, caller_speaks, answerer_speaks, call_said, Keeps, RuleIsKeptOfPages}

-- ---- what the caller says

-- an item that a caller says
abbrev pub OfCaller : PlainItem → Type 0
OfCaller (framed (dcs params)) = Unit {0}
OfCaller (framed (fcd number octets)) = Unit {0}
OfCaller (framed rcp) = Unit {0}
OfCaller (framed (pps ends page block last)) = Unit {0}
OfCaller (framed rr) = Unit {0}
OfCaller (framed dcn) = Unit {0}
OfCaller (framed _) = ⊥
OfCaller (checked octets) = Unit {0}

training_of : (state : CallerState) (params : Params) → Each OfCaller (training_items state params)
training_of WaitDis params = tt
training_of WaitCfr params = (tt, (tt, tt))
training_of WaitBlock params = (tt, (tt, tt))
training_of WaitReady params = (tt, (tt, tt))

fcds_of : (marks : List ℕ) (number : ℕ) (frames : List (List ℕ)) → Each OfCaller (fcds marks number frames)
fcds_of marks number [] = tt
fcds_of marks number (octets ∷ frames) = at (bit_of marks number) (fcds_of marks (suc number) frames)
  where
    at : (b : Bool) → Each OfCaller (fcds marks (suc number) frames) →
        Each OfCaller (cond b (framed (fcd number octets) ∷ fcds marks (suc number) frames) (fcds marks (suc number) frames))
    at true h = (tt, h)
    at false h = h

burst_is : (marks : List ℕ) (block : Option Block) → Each OfCaller (burst_of marks block)
burst_is marks None = tt
burst_is marks (Some block) =
    each_append OfCaller (fcds marks 0 block.frames) (framed rcp ∷ framed rcp ∷ framed rcp ∷ pps_of block ∷ [])
    (fcds_of marks 0 block.frames) (tt, (tt, (tt, (tt, tt))))

pps_is : (block : Option Block) → Each OfCaller (pps_items block)
pps_is None = tt
pps_is (Some block) = (tt, tt)

pub caller_is : (c : Caller) (t : Turn) → Each OfCaller (caller_items c t)
caller_is c turn.Silent = tt
caller_is c turn.Dis = tt
caller_is c turn.Training = training_of c.state c.params
caller_is c turn.Cfr = tt
caller_is c turn.Ftt = tt
caller_is c (turn.Burst marks) = burst_is marks (present_block c)
caller_is c turn.Pps = pps_is (present_block c)
caller_is c turn.Mcf = tt
caller_is c (turn.Ppr marks) = tt
caller_is c turn.Rnr = tt
caller_is c turn.Rr = (tt, tt)
caller_is c turn.Dcn = (tt, tt)

-- ---- a PPS under way was said for the block under way

-- a PPS that was said counts the frames up to its last one
abbrev pub Told : List PlainSaid → PlainItem → Type 0
Told before (framed (pps ends page block last)) = (n : ℕ) (begun : Bool) → n ≤ last → look (tell (Reaches n)) begun before ≡ true
Told before _ = Unit {0}

-- that a frame is counted stays so after a frame of the caller
stays : (n : ℕ) (begun : Bool) (signal : PlainSignal) (before : List PlainSaid) → OfCaller (framed signal) →
    ((b : Bool) → look (tell (Reaches n)) b before ≡ true) → look (tell (Reaches n)) begun (record { by = CallerSide; signal = signal } ∷ before) ≡ true
stays n begun (dis caps) before own h = absurd own
stays n begun (dcs params) before own h = h (begun || false)
stays n begun cfr before own h = absurd own
stays n begun ftt before own h = absurd own
stays n begun (fcd number octets) before own h = h (begun || true)
stays n begun rcp before own h = h (begun || false)
stays n begun (pps ends page block last) before own h = at (nat_le n last) (h (begun || false))
  where
    at : (c : Bool) → look (tell (Reaches n)) (begun || false) before ≡ true →
        unwrap_or (cond c (Some true) None) (look (tell (Reaches n)) (begun || false) before) ≡ true
    at true k = refl
    at false k = k
stays n begun (ppr marks) before own h = absurd own
stays n begun mcf before own h = absurd own
stays n begun rnr before own h = absurd own
stays n begun rr before own h = h (begun || false)
stays n begun dcn before own h = h (begun || false)
stays n begun (other octet) before own h = absurd own

-- a PPS that is under way, after a frame of the caller
told_on : (item : PlainItem) (signal : PlainSignal) (before : List PlainSaid) → OfCaller (framed signal) → Told before item →
    Told (record { by = CallerSide; signal = signal } ∷ before) item
told_on (framed (pps ends page block last)) signal before own h = λ n begun within. stays n begun signal before own (λ b. h n b within)
told_on (framed (dis caps)) signal before own h = tt
told_on (framed (dcs params)) signal before own h = tt
told_on (framed cfr) signal before own h = tt
told_on (framed ftt) signal before own h = tt
told_on (framed (fcd number octets)) signal before own h = tt
told_on (framed rcp) signal before own h = tt
told_on (framed (ppr marks)) signal before own h = tt
told_on (framed mcf) signal before own h = tt
told_on (framed rnr) signal before own h = tt
told_on (framed rr) signal before own h = tt
told_on (framed dcn) signal before own h = tt
told_on (framed (other number)) signal before own h = tt
told_on (checked octets) signal before own h = tt

told_later : (item : PlainItem) (items : List PlainItem) (before : List PlainSaid) → Each OfCaller items → Told before item →
    Told (and_said CallerSide items before) item
told_later item [] before own h = h
told_later item (framed signal ∷ items) before own h =
    told_later item items (record { by = CallerSide; signal = signal } ∷ before) own.1 (told_on item signal before own.0 h)
told_later item (checked octets ∷ items) before own h = told_later item items before own.1 h

ltb_not : (last n : ℕ) → nat_lt last n ≡ false → n ≤ last
ltb_not last n is = ltb-false last n is

leb_so : (n last : ℕ) → n ≤ last → nat_le n last ≡ true
leb_so n last within = search rules

-- a PPS that was said just now
told_now : (signal : PlainSignal) (before : List PlainSaid) → Told (record { by = CallerSide; signal = signal } ∷ before) (framed signal)
told_now (pps ends page block last) before = λ n begun within. rw (leb_so n last within) refl
told_now (dis caps) before = tt
told_now (dcs params) before = tt
told_now cfr before = tt
told_now ftt before = tt
told_now (fcd number octets) before = tt
told_now rcp before = tt
told_now (ppr marks) before = tt
told_now mcf before = tt
told_now rnr before = tt
told_now rr before = tt
told_now dcn before = tt
told_now (other octet) before = tt

told_new : (items : List PlainItem) (before : List PlainSaid) → Each OfCaller items → Each (Told (and_said CallerSide items before)) items
told_new [] before own = tt
told_new (framed signal ∷ items) before own = (
  told_later (framed signal) items (record { by = CallerSide; signal = signal } ∷ before) own.1 (told_now signal before),
  told_new items (record { by = CallerSide; signal = signal } ∷ before) own.1,
)
told_new (checked octets ∷ items) before own = (tt, told_new items before own.1)

told_old : (xs items : List PlainItem) (before : List PlainSaid) → Each OfCaller items → Each (Told before) xs →
    Each (Told (and_said CallerSide items before)) xs
told_old [] items before own h = tt
told_old (x ∷ xs) items before own h = (told_later x items before own h.0, told_old xs items before own h.1)

-- what is under way to the answerer after a turn of the caller
pub told_sent : (t : Turn) (w : World) (next : Caller) (items : List PlainItem) (before : List PlainSaid) → Each OfCaller items →
    Each (Told before) w.to_answerer → Each (Told (and_said CallerSide items before)) (caller_sends t w next items).to_answerer
told_sent turn.Silent w next items before own h = told_old w.to_answerer items before own h
told_sent turn.Dis w next items before own h = each_append (Told (and_said CallerSide items before)) w.to_answerer items (told_old w.to_answerer items before own h) (told_new items before own)
told_sent turn.Training w next items before own h = each_append (Told (and_said CallerSide items before)) w.to_answerer items (told_old w.to_answerer items before own h) (told_new items before own)
told_sent turn.Cfr w next items before own h = each_append (Told (and_said CallerSide items before)) w.to_answerer items (told_old w.to_answerer items before own h) (told_new items before own)
told_sent turn.Ftt w next items before own h = each_append (Told (and_said CallerSide items before)) w.to_answerer items (told_old w.to_answerer items before own h) (told_new items before own)
told_sent (turn.Burst marks) w next items before own h = each_append (Told (and_said CallerSide items before)) w.to_answerer items (told_old w.to_answerer items before own h) (told_new items before own)
told_sent turn.Pps w next items before own h = each_append (Told (and_said CallerSide items before)) w.to_answerer items (told_old w.to_answerer items before own h) (told_new items before own)
told_sent turn.Mcf w next items before own h = each_append (Told (and_said CallerSide items before)) w.to_answerer items (told_old w.to_answerer items before own h) (told_new items before own)
told_sent (turn.Ppr marks) w next items before own h = each_append (Told (and_said CallerSide items before)) w.to_answerer items (told_old w.to_answerer items before own h) (told_new items before own)
told_sent turn.Rnr w next items before own h = each_append (Told (and_said CallerSide items before)) w.to_answerer items (told_old w.to_answerer items before own h) (told_new items before own)
told_sent turn.Rr w next items before own h = each_append (Told (and_said CallerSide items before)) w.to_answerer items (told_old w.to_answerer items before own h) (told_new items before own)
told_sent turn.Dcn w next items before own h = each_append (Told (and_said CallerSide items before)) w.to_answerer items (told_old w.to_answerer items before own h) (told_new items before own)

-- ---- which PPR an answerer sends

-- the map of a PPR: it answers a PPS, and asks for what is missing up to the last frame that counts
abbrev pub PprBy : Answerer → AnswererInput → List ℕ → Type 0
PprBy s (listens (pps ends page block last)) marks =
    (marks ≡ ppr_map s.frames (last_counted s.asked (record { page = page; block = block }) last)) ×
    (all_there s.frames (last_counted s.asked (record { page = page; block = block }) last) ≡ false)
PprBy s _ marks = ⊥

-- a training check
abbrev pub IsCheck : AnswererInput → Type 0
IsCheck (trains octets) = Unit {0}
IsCheck _ = ⊥

-- a PPR has such a map, and CFR answers a training check
abbrev pub PprFits : Answerer → AnswererInput → Turn → Type 0
PprFits s input turn.Cfr = IsCheck input
PprFits s input (turn.Ppr marks) = PprBy s input marks
PprFits s input _ = Unit {0}

module _ (s : Answerer) (input : AnswererInput) where
  confirms_fits : PprFits s input (confirms s)
  confirms_fits = either (PprFits s input) s.busy turn.Rnr turn.Mcf (λ h. tt) (λ h. tt)

  stores_fits : (ends : PageEnd) (mark : Mark) (page : Option PagePixels) → PprFits s input (stores s ends mark page).turn
  stores_fits ends mark None = tt
  stores_fits ends mark (Some page) = confirms_fits

  takes_fits : (ends : PageEnd) (mark : Mark) (octets : List ℕ) → PprFits s input (takes_block s ends mark octets).turn
  takes_fits Null mark octets =
      either (λ (a : AnswererAnswer). PprFits s input a.turn) (within_page_limit octets) _ _ (λ h. confirms_fits) (λ h. tt)
  takes_fits Mps mark octets = stores_fits Mps mark (page_read s.params octets)
  takes_fits Eom mark octets = stores_fits Eom mark (page_read s.params octets)
  takes_fits Eop mark octets = stores_fits Eop mark (page_read s.params octets)

either_fits : (s : Answerer) (input : AnswererInput) (b : Bool) (x y : AnswererAnswer) → PprFits s input x.turn → PprFits s input y.turn →
    PprFits s input (cond b x y).turn
either_fits s input true x y h k = h
either_fits s input false x y h k = k

pps_fits : (s : Answerer) (ends : PageEnd) (page block last : ℕ) →
    PprFits s (listens (pps ends page block last)) (answers_pps s ends (record { page = page; block = block }) last).turn
pps_fits s ends page block last =
    let input = listens (pps ends page block last) in
    let mark : Mark = record { page = page; block = block } in
    either_fits s input (is_repeated s.accepted mark) (record { next = s; turn = confirms s })
    (judges_block s ends mark (last_counted s.asked mark last)) (confirms_fits s input)
    (either (λ (a : AnswererAnswer). PprFits s input a.turn) (all_there s.frames (last_counted s.asked mark last)) _ _
    (λ h. takes_fits s input ends mark _) (λ h. (refl, h)))

table_fits : (state : AnswererState) (input : AnswererInput) (s : Answerer) → PprFits s input (answerer_table state input s).turn
table_fits PhaseB (listens (dis caps)) s = tt
table_fits PhaseB (listens (dcs params)) s = either (λ (a : AnswererAnswer). PprFits s (listens (dcs params)) a.turn) (allowed s.caps params) _ _ (λ h. tt) (λ h. tt)
table_fits PhaseB (listens cfr) s = tt
table_fits PhaseB (listens ftt) s = tt
table_fits PhaseB (listens (fcd number octets)) s = tt
table_fits PhaseB (listens rcp) s = tt
table_fits PhaseB (listens (pps ends page block last)) s = either (λ (a : AnswererAnswer). PprFits s (listens (pps ends page block last)) a.turn) (is_repeated s.accepted (record { page = page; block = block })) _ _ (λ h. confirms_fits s (listens (pps ends page block last))) (λ h. tt)
table_fits PhaseB (listens (ppr marks)) s = tt
table_fits PhaseB (listens mcf) s = tt
table_fits PhaseB (listens rnr) s = tt
table_fits PhaseB (listens rr) s = either (λ (a : AnswererAnswer). PprFits s (listens rr) a.turn) (is_some s.accepted && is_clear s.frames) _ _ (λ h. confirms_fits s (listens rr)) (λ h. tt)
table_fits PhaseB (listens dcn) s = tt
table_fits PhaseB (listens (other octet)) s = tt
table_fits PhaseB (trains octets) s = tt
table_fits PhaseB t2 s = tt
table_fits PhaseB t1 s = tt
table_fits PhaseB (is_busy busy) s = tt
table_fits InTraining (listens (dis caps)) s = tt
table_fits InTraining (listens (dcs params)) s = either (λ (a : AnswererAnswer). PprFits s (listens (dcs params)) a.turn) (allowed s.caps params) _ _ (λ h. tt) (λ h. tt)
table_fits InTraining (listens cfr) s = tt
table_fits InTraining (listens ftt) s = tt
table_fits InTraining (listens (fcd number octets)) s = tt
table_fits InTraining (listens rcp) s = tt
table_fits InTraining (listens (pps ends page block last)) s = either (λ (a : AnswererAnswer). PprFits s (listens (pps ends page block last)) a.turn) (is_repeated s.accepted (record { page = page; block = block })) _ _ (λ h. confirms_fits s (listens (pps ends page block last))) (λ h. tt)
table_fits InTraining (listens (ppr marks)) s = tt
table_fits InTraining (listens mcf) s = tt
table_fits InTraining (listens rnr) s = tt
table_fits InTraining (listens rr) s = either (λ (a : AnswererAnswer). PprFits s (listens rr) a.turn) (is_some s.accepted && is_clear s.frames) _ _ (λ h. confirms_fits s (listens rr)) (λ h. tt)
table_fits InTraining (listens dcn) s = tt
table_fits InTraining (listens (other octet)) s = tt
table_fits InTraining (trains octets) s = either (λ (a : AnswererAnswer). PprFits s (trains octets) a.turn) (is_good_training octets s.params) _ _ (λ h. tt) (λ h. tt)
table_fits InTraining t2 s = tt
table_fits InTraining t1 s = tt
table_fits InTraining (is_busy busy) s = tt
table_fits Message (listens (dis caps)) s = tt
table_fits Message (listens (dcs params)) s = either (λ (a : AnswererAnswer). PprFits s (listens (dcs params)) a.turn) (allowed s.caps params) _ _ (λ h. tt) (λ h. tt)
table_fits Message (listens cfr) s = tt
table_fits Message (listens ftt) s = tt
table_fits Message (listens (fcd number octets)) s = either (λ (a : AnswererAnswer). PprFits s (listens (fcd number octets)) a.turn) (within_frame_size s.params octets) _ _ (λ h. tt) (λ h. tt)
table_fits Message (listens rcp) s = tt
table_fits Message (listens (pps ends page block last)) s = pps_fits s ends page block last
table_fits Message (listens (ppr marks)) s = tt
table_fits Message (listens mcf) s = tt
table_fits Message (listens rnr) s = tt
table_fits Message (listens rr) s = either (λ (a : AnswererAnswer). PprFits s (listens rr) a.turn) (is_some s.accepted && is_clear s.frames) _ _ (λ h. confirms_fits s (listens rr)) (λ h. tt)
table_fits Message (listens dcn) s = tt
table_fits Message (listens (other octet)) s = tt
table_fits Message (trains octets) s = tt
table_fits Message t2 s = tt
table_fits Message t1 s = tt
table_fits Message (is_busy busy) s = tt

pub step_fits : (s : Answerer) (input : AnswererInput) → PprFits s input (answerer_step s input).turn
step_fits s input = at s.ending
  where
    at : (e : Option End) → PprFits s input (unless_answerer_ended e input s).turn
    at None = table_fits s.state input s
    at (Some why) = tt

-- ---- what such a PPR breaks: nothing

-- both rules hold of a PPR
abbrev pub IsRight : List PlainSaid → List ℕ → Type 0
IsRight before marks = (asks_nothing (ppr marks) before ≡ false) × (has_bad_map (ppr marks) before ≡ false)

-- a frame that isn't there
missing_below : (frames : Frames) (count : ℕ) → is_whole frames count ≡ false → (n : ℕ) × (n < count) × (has_frame frames n ≡ false)
missing_below frames zero h = cc
missing_below frames (suc count) h = at (is_whole frames count) refl (missing_below frames count)
  where
    at : (b : Bool) → is_whole frames count ≡ b → (is_whole frames count ≡ false → (n : ℕ) × (n < count) × (has_frame frames n ≡ false)) →
        (n : ℕ) × (n < suc count) × (has_frame frames n ≡ false)
    at true is earlier = (count, omega arith, sym (ap (λ b. b && has_frame frames count) is) ∙ h)
    at false is earlier = let found = earlier is in (found.0, omega (arith, found.1), found.2)

pub missing_one : (frames : Frames) (last : ℕ) → all_there frames last ≡ false → (n : ℕ) × (n < suc last) × (has_frame frames n ≡ false)
unfolding all_there
missing_one frames last h = missing_below frames (suc last) h

module _ (before : List PlainSaid) (frames : Frames) (last : ℕ) (low : last < 256)
    (told : (n : ℕ) (begun : Bool) → n ≤ last → look (tell (Reaches n)) begun before ≡ true) where
  asks_one : all_there frames last ≡ false → some_frame (IsAskedFor (ppr_map frames last)) before ≡ true
  asks_one h =
      let found = missing_one frames last h in
      let n = found.0 in
      let within : n < 256 = omega (arith, found.1, low) in
      let bit : bit_of (ppr_map frames last) n ≡ true =
      bit_in_map frames last n within ∙ (ap (λ b. nat_lt last n || not b) found.2 ∙ or_true (nat_lt last n)) in
      here (λ k. holds (IsAskedFor (ppr_map frames last)) k before) n within (rw bit (told n false (omega (arith, found.1))))

  marks_beyond : some_frame (BeyondUnmarked (ppr_map frames last)) before ≡ false
  marks_beyond = nowhere (λ k. holds (BeyondUnmarked (ppr_map frames last)) k before) (λ n within. by n within (nat_lt last n) refl)
    where
      by : (n : ℕ) → n < 256 → (b : Bool) → nat_lt last n ≡ b → holds (BeyondUnmarked (ppr_map frames last)) n before ≡ false
      by n within true is =
          let bit : bit_of (ppr_map frames last) n ≡ true =
          bit_in_map frames last n within ∙ ap (λ b. b || not (has_frame frames n)) is in
          rw bit refl
      by n within false is =
          let up : n ≤ last = ltb_not last n is in
          rw (told n false up) (ap (λ b. not (bit_of (ppr_map frames last) n) && b) (and_false (asked Counted before)) ∙ and_false (not (bit_of (ppr_map frames last) n)))

  is_right : all_there frames last ≡ false → IsRight before (ppr_map frames last)
  is_right h = (ap (λ b. asked Counted before && not b) (asks_one h) ∙ and_false (asked Counted before), marks_beyond)

-- ---- the PPS that an answerer is given

-- what is given to the answerer: a PPS was told, and its last frame is the one that counts
abbrev pub Given : Answerer → AnswererInput → List PlainSaid → Type 0
Given s (listens (pps ends page block last)) before =
    Told before (framed (pps ends page block last)) × (last_counted s.asked (record { page = page; block = block }) last ≡ last) × (last < 256)
Given s _ before = Unit {0}

pps_right : (s : Answerer) (ends : PageEnd) (page block last : ℕ) (before : List PlainSaid) (marks : List ℕ) →
    Given s (listens (pps ends page block last)) before → PprBy s (listens (pps ends page block last)) marks → IsRight before marks
pps_right s ends page block last before marks given by =
    let same = given.1 in
    let is : marks ≡ ppr_map s.frames last = by.0 ∙ ap (ppr_map s.frames) same in
    let missing : all_there s.frames last ≡ false = sym (ap (all_there s.frames) same) ∙ by.1 in
    subst (IsRight before) (sym is) (is_right before s.frames last given.2 given.0 missing)

by_input : (s : Answerer) (input : AnswererInput) (before : List PlainSaid) (marks : List ℕ) → Given s input before → PprBy s input marks →
    IsRight before marks
by_input s (listens (pps ends page block last)) before marks given by = pps_right s ends page block last before marks given by
by_input s (listens (dis caps)) before marks given by = absurd by
by_input s (listens (dcs params)) before marks given by = absurd by
by_input s (listens cfr) before marks given by = absurd by
by_input s (listens ftt) before marks given by = absurd by
by_input s (listens (fcd number octets)) before marks given by = absurd by
by_input s (listens rcp) before marks given by = absurd by
by_input s (listens (ppr map)) before marks given by = absurd by
by_input s (listens mcf) before marks given by = absurd by
by_input s (listens rnr) before marks given by = absurd by
by_input s (listens rr) before marks given by = absurd by
by_input s (listens dcn) before marks given by = absurd by
by_input s (listens (other octet)) before marks given by = absurd by
by_input s (trains octets) before marks given by = absurd by
by_input s t2 before marks given by = absurd by
by_input s t1 before marks given by = absurd by
by_input s (is_busy busy) before marks given by = absurd by

-- ---- one turn

-- both rules hold of all that was said
abbrev pub Both : List PlainSaid → Type 0
Both before = Keeps AsksNothing before × Keeps BadMap before

both_signal : (signal : PlainSignal) (before : List PlainSaid) → OfCaller (framed signal) → Both before →
    Both (record { by = CallerSide; signal = signal } ∷ before)
both_signal (dis caps) before own h = absurd own
both_signal (dcs params) before own h = ((refl, h.0), (refl, h.1))
both_signal cfr before own h = absurd own
both_signal ftt before own h = absurd own
both_signal (fcd number octets) before own h = ((refl, h.0), (refl, h.1))
both_signal rcp before own h = ((refl, h.0), (refl, h.1))
both_signal (pps ends page block last) before own h = ((refl, h.0), (refl, h.1))
both_signal (ppr map) before own h = absurd own
both_signal mcf before own h = absurd own
both_signal rnr before own h = absurd own
both_signal rr before own h = ((refl, h.0), (refl, h.1))
both_signal dcn before own h = ((refl, h.0), (refl, h.1))
both_signal (other octet) before own h = absurd own

both_items : (items : List PlainItem) (before : List PlainSaid) → Each OfCaller items → Both before → Both (and_said CallerSide items before)
both_items [] before own h = h
both_items (framed signal ∷ items) before own h =
    both_items items (record { by = CallerSide; signal = signal } ∷ before) own.1 (both_signal signal before own.0 h)
both_items (checked octets ∷ items) before own h = both_items items before own.1 h

-- a frame of the answerer alone, or nothing
one_said : (signal : PlainSignal) (outcome : Outcome) (before : List PlainSaid) → asks_nothing signal before ≡ false → has_bad_map signal before ≡ false →
    Both before → Both (and_said AnswererSide (sent outcome (framed signal ∷ [])) before)
one_said signal Done before a b h = ((a, h.0), (b, h.1))
one_said signal Nothing before a b h = ((a, h.0), (b, h.1))
one_said signal InputLost before a b h = ((a, h.0), (b, h.1))
one_said signal (Cut zero) before a b h = h
one_said signal (Cut (suc zero)) before a b h = ((a, h.0), (b, h.1))
one_said signal (Cut (suc (suc made))) before a b h = ((a, h.0), (b, h.1))

none_said : (outcome : Outcome) (before : List PlainSaid) → Both before → Both (and_said AnswererSide (sent outcome []) before)
none_said outcome before h = rw (sent_none outcome) h

-- what holds of a world and what was said in it
pub record Asks (w : World) (before : List PlainSaid) : Type 0 where
  pub told : Each (Told before) w.to_answerer
  pub both : Both before

silent_told : (outcome : Outcome) (w : World) (before : List PlainSaid) → Each (Told before) w.to_answerer →
    Each (Told (and_said AnswererSide (sent outcome []) before)) w.to_answerer
silent_told outcome w before h = rw (sent_none outcome) h

answerer_turn_asks : (t : Turn) (w : World) (next : Answerer) (outcome : Outcome) (before : List PlainSaid) →
    ((marks : List ℕ) → t ≡ turn.Ppr marks → IsRight before marks) → Asks w before →
    Asks (answerer_sends t w next (sent outcome (answerer_items next t))) (and_said AnswererSide (sent outcome (answerer_items next t)) before)
answerer_turn_asks turn.Silent w next outcome before right h =
    record { told = silent_told outcome w before h.told; both = none_said outcome before h.both }
answerer_turn_asks turn.Dis w next outcome before right h = record { told = tt; both = one_said (dis next.caps) outcome before refl refl h.both }
answerer_turn_asks turn.Training w next outcome before right h = record { told = tt; both = none_said outcome before h.both }
answerer_turn_asks turn.Cfr w next outcome before right h = record { told = tt; both = one_said cfr outcome before refl refl h.both }
answerer_turn_asks turn.Ftt w next outcome before right h = record { told = tt; both = one_said ftt outcome before refl refl h.both }
answerer_turn_asks (turn.Burst marks) w next outcome before right h = record { told = tt; both = none_said outcome before h.both }
answerer_turn_asks turn.Pps w next outcome before right h = record { told = tt; both = none_said outcome before h.both }
answerer_turn_asks turn.Mcf w next outcome before right h = record { told = tt; both = one_said mcf outcome before refl refl h.both }
answerer_turn_asks (turn.Ppr marks) w next outcome before right h =
    let is = right marks refl in record { told = tt; both = one_said (ppr marks) outcome before is.0 is.1 h.both }
answerer_turn_asks turn.Rnr w next outcome before right h = record { told = tt; both = one_said rnr outcome before refl refl h.both }
answerer_turn_asks turn.Rr w next outcome before right h = record { told = tt; both = none_said outcome before h.both }
answerer_turn_asks turn.Dcn w next outcome before right h = record { told = tt; both = one_said dcn outcome before refl refl h.both }

answerer_asks : (w : World) (outcome : Outcome) (input : AnswererInput) (before : List PlainSaid) → Given w.answerer input before → Asks w before →
    Asks (answerer_acts w outcome input) (answerer_speaks w.answerer outcome input before)
answerer_asks w outcome input before given h =
    answerer_turn_asks (answerer_step w.answerer input).turn w (answerer_step w.answerer input).next outcome before
    (λ marks is. by_input w.answerer input before marks given (subst (PprFits w.answerer input) is (step_fits w.answerer input))) h

caller_asks : (w : World) (outcome : Outcome) (input : CallerInput) (before : List PlainSaid) → Asks w before →
    Asks (caller_acts w outcome input) (caller_speaks w.caller outcome input before)
caller_asks w outcome input before h =
    let answer = caller_step w.caller input in
    let own : Each OfCaller (sent outcome (caller_items answer.next answer.turn)) = sent_each OfCaller outcome _ (caller_is answer.next answer.turn) in
    record {
      told = told_sent answer.turn w answer.next (sent outcome (caller_items answer.next answer.turn)) before own h.told;
      both = both_items (sent outcome (caller_items answer.next answer.turn)) before own h.both;
    }

-- ---- what is under way is given

pub pred_low : (n : ℕ) → n ≤ 256 → pred n < 256
pred_low zero h = omega arith
pred_low (suc n) h = omega (arith, h)

pub counted_last : (remembered : Option Asked) (b : Option Block) (place accepted : ℕ) (ends : PageEnd) (mark : Mark) (last : ℕ) →
    ((block : Block) → b ≡ Some block → length block.frames ≤ 256) → AskedFits remembered b place accepted → SaysBlock b ends mark last →
    (last_counted remembered mark last ≡ last) × (last < 256)
counted_last remembered None place accepted ends mark last few fits says = absurd says
counted_last remembered (Some block) place accepted ends mark last few fits says =
    let short : length block.frames ≤ 256 = few block refl in
    rw (says.1, says.2) (counted remembered block place accepted fits, pred_low (length block.frames) short)

pub few_frames : (c : Caller) → AreReadable (c.finished ++ c.present) c.document → (block : Block) → slice_get (blocks_of c) c.place ≡ Some block →
    length block.frames ≤ 256
few_frames c readable block e = (block_fits (c.finished ++ c.present) c.document readable c.place block e).sendable.2

given_item : (w : World) (f : LineFacts w) (signal : PlainSignal) (before : List PlainSaid) → MayReachAnswerer w.caller f.accepted (framed signal) →
    Told before (framed signal) → Given w.answerer (listens signal) before
given_item w f (dis caps) before may told = tt
given_item w f (dcs params) before may told = tt
given_item w f cfr before may told = tt
given_item w f ftt before may told = tt
given_item w f (fcd number octets) before may told = tt
given_item w f rcp before may told = tt
given_item w f (pps ends page block last) before may told =
    let both = counted_last w.answerer.asked (slice_get (blocks_of w.caller) w.caller.place) w.caller.place f.accepted ends
    (record { page = page; block = block }) last (few_frames w.caller f.stations.call.readable) f.stations.asked may.1 in
    (told, both.0, both.1)
given_item w f (ppr map) before may told = tt
given_item w f mcf before may told = tt
given_item w f rnr before may told = tt
given_item w f rr before may told = tt
given_item w f dcn before may told = tt
given_item w f (other octet) before may told = tt

-- ---- one event

given_by : (w : World) (f : LineFacts w) (input : AnswererInput) (rest : List PlainItem) (before : List PlainSaid) →
    ToAnswerer input w.to_answerer rest → KnownToAnswerer (Told before) input → Given w.answerer input before
given_by w f (listens signal) rest before is told =
    given_item w f signal before (subst (Each (MayReachAnswerer w.caller f.accepted)) is f.to_answerer).0 told
given_by w f (trains octets) rest before is told = tt
given_by w f t1 rest before is told = tt
given_by w f t2 rest before is told = tt
given_by w f (is_busy busy) rest before is told = tt

spoiled_told : (before : List PlainSaid) (items : List PlainItem) → Each (Told before) items → Each (Told before) (spoiled items)
spoiled_told before [] h = tt
spoiled_told before (framed signal ∷ items) h = h
spoiled_told before (checked octets ∷ items) h = h

asks_parts : PartsKeep Asks LineFacts Any
asks_parts = record {
  caller = λ w rest outcome input before fine f after is h.
      caller_asks (record w { to_caller = rest }) outcome input before (record { told = h.told; both = h.both });
  answerer = λ w rest outcome input before fine f after is h.
      let taken = answerer_takes (Told before) input w.to_answerer rest is h.told in
      answerer_asks (record w { to_answerer = rest }) outcome input before (given_by w f input rest before is taken.0)
      (record { told = taken.1; both = h.both });
  lost_to_caller = λ w item rest before is h. record { told = h.told; both = h.both };
  lost_to_answerer = λ w item rest before is h. record { told = each_rest (Told before) item w.to_answerer rest is h.told; both = h.both };
  spoil = λ w before h. record { told = spoiled_told before w.to_answerer h.told; both = h.both };
}

asked_right : LineHolds → (document : Document) (wish : Wish) (caps : Caps) (steps : List (Event × Outcome)) → Each IsFullPage document →
    Both (call_said document wish caps steps)
asked_right holds_facts document wish caps steps full =
    (run_keeps Asks LineFacts Any asks_parts steps (new_world document wish caps) (record { by = AnswererSide; signal = dis caps } ∷ [])
    (all_any steps) (λ more. holds_facts document wish caps more full) (record { told = tt; both = ((refl, tt), (refl, tt)) })).both

-- the laws
pub asks_something : LineHolds → RuleIsKeptOfPages AsksNothing
asks_something holds_facts document wish caps steps full = (asked_right holds_facts document wish caps steps full).0

pub maps_are_good : LineHolds → RuleIsKeptOfPages BadMap
maps_are_good holds_facts document wish caps steps full = (asked_right holds_facts document wish caps steps full).1
