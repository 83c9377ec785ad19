-- What a station says can be written.
use Rattle.std.proofs.Common.{◌≡◌, ◌≤◌, ◌<◌, ℕ, zero, suc, Bool, true, false, List, [], ◌∷◌, ◌++◌, length, drop, get_or, refl, ap, sym}
use Rattle.std.proofs.Common.{subst, arith}
use Rattle.std.proofs.Common.{inl, inr, ◌∙◌}
use Rattle.std.specs.Prelude.{◌&&◌, All, Option, Some, None, cond, is_some, not, slice_get}
use Rattle.partial_page.specs.Frames.{CutIsFullFrames, IsBlock, cut, frame_size}
use Rattle.partial_page.specs.Store.{bit_of}
use Rattle.raster.specs.Pages.{PagePixels}
use Rattle.signals.specs.Signals.{dcs, fcd, pps, rr}
use Rattle.signals.specs.declared.params.Params.{Params}
use Rattle.signals.specs.declared.signal.PageEnd.{PageEnd}
use Rattle.signals.specs.declared.signal.PageEnd.TheVariants.{Null, Mps, Eom, Eop}
use Rattle.signals.specs.declared.signal.Side.{Side}
use Rattle.signals.specs.declared.signal.Side.TheVariants.{Caller as CallerSide, Answerer as AnswererSide}
use Rattle.stations.proofs.PprMaps.{length_map}
use Rattle.stations.proofs.Progress.{either}
use Rattle.stations.specs.AnswererStep.{Answerer, AnswererAnswer, answerer_silent, answerer_step, answerer_table, answers_pps}
use Rattle.partial_page.specs.Assembling.{all_there}
use Rattle.stations.specs.AnswererStep.{answers_repeated}
use Rattle.stations.specs.AnswererStep.{answers_rr, is_clear, is_repeated, judges_block, stores, takes_block, unless_answerer_ended}
use Rattle.signals.specs.Agreement.{allowed}
use Rattle.stations.specs.Blocks.{Block, call_blocks, end_before, groups_after, page_blocks}
use Rattle.stations.specs.Bursts.{CutByCarrier, PlainBurst, bursts_of, items_of}
use Rattle.stations.specs.CallerStep.{Caller, blocks_of, burst_of, caller_items, fcds, pps_items, present_block, present_in, training_items}
use Rattle.stations.specs.Inputs.{AnswererInput, PlainItem, framed, checked, listens, trains}
use Rattle.stations.specs.Laws.{Each}
use Rattle.stations.specs.Layers.{code_blocks, code_octets, code_within_limit, is_good_training, within_page_limit}
use Rattle.partial_page.specs.Assembling.{within_frame_size}
use Rattle.stations.specs.Limiting.{LimitedFields, busy_answer, busy_while, filled, is_full, is_kept_out, limited_step, not_ready}
use Rattle.stations.specs.declared.limiting.Limits.{Limits}
use Rattle.signals.specs.declared.mark.Mark.{Mark}
use Rattle.stations.specs.declared.stopping.Cut.{Cut}
use Rattle.stations.specs.declared.turn.AnswererState.{AnswererState}
use Rattle.stations.specs.declared.turn.AnswererState.TheVariants.{PhaseB, WaitTraining, Message}
use Rattle.stations.specs.declared.turn.CallerState.{CallerState}
use Rattle.stations.specs.declared.turn.CallerState.TheVariants.{WaitDis, WaitCfr, WaitBlock, WaitReady}
use Rattle.stations.specs.declared.turn.End.{End}
use Rattle.stations.specs.declared.turn.Turn.{Turn}
use Rattle.stations.specs.declared.turn.Turn.TheVariants.{Silent, Dis, Training, Cfr, Ftt, Burst, Pps, Mcf, Ppr, Rnr, Rr, Dcn}
use Rattle.terminals.specs.Hearing.{PlainInput}
use Rattle.terminals.proofs.After.{heard_keeps}
use Rattle.terminals.specs.Runs.{TakesAll}
use Rattle.terminals.specs.Saying.{limited_lends}
use Rattle.terminals.specs.Sending.{AreBits, AreBitsOf}
use Rattle.terminals.specs.Speaking.{BurstsOf, Speaking, StepOf, is_silent, spoken}
use Rattle.terminals.specs.Stations.{AnswererLends, AnswererSteps, answerer_answers, answerer_takes}
use Rattle.terminals.specs.Stopping.{LimitedStepsUnlessCut, limited_answers}
use Rattle.terminals.specs.Writable.{AnswerersCanBeWritten, AnswerersSendWhole, AreFrameOf, AreFrames, CallersCanBeWritten}
use Rattle.terminals.specs.Writable.{CallersSendWhole}
use Rattle.terminals.specs.Writable.{CanBeWritten, HasWholeMap, KeptMapsAreWhole, MapsAreWhole}

-- ---- lists

each_joined : {A : Type 0} (P : A → Type 0) (xs ys : List A) → Each P xs → Each P ys → Each P (xs ++ ys)
each_joined P [] ys h k = k
each_joined P (x ∷ xs) ys h k = (h.0, each_joined P xs ys h.1 k)

each_front : {A : Type 0} (P : A → Type 0) (xs ys : List A) → Each P (xs ++ ys) → Each P xs
each_front P [] ys h = tt
each_front P (x ∷ xs) ys h = (h.0, each_front P xs ys h.1)

each_rest : {A : Type 0} (P : A → Type 0) (xs ys : List A) → Each P (xs ++ ys) → Each P ys
each_rest P [] ys h = h
each_rest P (x ∷ xs) ys h = each_rest P xs ys h.1

each_at : {A : Type 0} (P : A → Type 0) (xs : List A) (n : ℕ) (x : A) → Each P xs → slice_get xs n ≡ Some x → P x
each_at P [] n x h e = cc
each_at P (y ∷ xs) zero x h e = (let same : y ≡ x = cc in subst P same h.0)
each_at P (y ∷ xs) (suc n) x h e = each_at P xs n x h.1 e

-- ---- blocks

-- the data of a frame have 1 to 256 octets
abbrev pub FillsFrame : List ℕ → Type 0
FillsFrame octets = (1 ≤ length octets) × (length octets ≤ 256)

-- frames are those of a block: so have the data of each, and there are at most 256
abbrev pub FillBlock : List (List ℕ) → Type 0
FillBlock frames = Each FillsFrame frames × (length frames ≤ 256)

-- the frames of a block of a call are such
abbrev pub IsFilled : Block → Type 0
IsFilled block = FillBlock block.frames

size_fills : (small : Bool) → (1 ≤ frame_size small) × (frame_size small ≤ 256)
size_fills true = (omega arith, omega arith)
size_fills false = (omega arith, omega arith)

frames_fill : (small : Bool) (frames : List (List ℕ)) → All (λ frame. length frame ≡ frame_size small) frames → Each FillsFrame frames
frames_fill small [] h = tt
frames_fill small (frame ∷ frames) h =
    let size : length frame ≡ frame_size small = h 0 frame (omega arith) in
    let fits = size_fills small in (
      (omega (arith, size, fits.0), omega (arith, size, fits.1)),
      frames_fill small frames (λ k d within. h (suc k) d (omega arith)),
    )

blocks_fill :
    (small : Bool) (blocks : List (List (List ℕ))) → ((k : ℕ) → k < length blocks → IsBlock (frame_size small) (get_or blocks k [])) →
    Each FillBlock blocks
blocks_fill small [] h = tt
blocks_fill small (frames ∷ blocks) h =
    let block = h 0 (omega arith) in
    ((frames_fill small frames block.sizes, block.few), blocks_fill small blocks (λ k within. h (suc k) (omega arith)))

code_fills : CutIsFullFrames → (params : Params) (page : PagePixels) → Each FillBlock (code_blocks params page)
unfolding code_blocks
code_fills cuts params page =
    blocks_fill params.small (cut params.small (code_octets params page)) (cuts params.small (code_octets params page)).each

page_fills :
    (params : Params) (page : ℕ) (ends : PageEnd) (place : ℕ) (blocks : List (List (List ℕ))) → Each FillBlock blocks →
    Each IsFilled (page_blocks params page ends place blocks)
page_fills params page ends place [] h = tt
page_fills params page ends place (frames ∷ []) h = (h.0, tt)
page_fills params page ends place (frames ∷ next ∷ more) h = (h.0, page_fills params page ends (suc place) (next ∷ more) h.1)

call_fills : CutIsFullFrames → (groups : List Params) (number : ℕ) (pages : List PagePixels) →
    Each IsFilled (call_blocks groups number pages)
call_fills cuts groups number [] = tt
call_fills cuts [] number (page ∷ pages) = tt
call_fills cuts (params ∷ groups) number (page ∷ pages) =
    either (Each IsFilled) (code_within_limit params page) _ _
    (λ _. each_joined IsFilled (page_blocks params number (end_before page pages) 0 (code_blocks params page))
    (call_blocks (groups_after page pages (params ∷ groups)) (suc number) pages)
    (page_fills params number (end_before page pages) 0 (code_blocks params page) (code_fills cuts params page))
    (call_fills cuts (groups_after page pages (params ∷ groups)) (suc number) pages))
    (λ _. tt)

-- ---- a caller's turns

fcds_are : (map : List ℕ) (number : ℕ) (frames : List (List ℕ)) → Each FillsFrame frames → Each CanBeWritten (fcds map number frames)
fcds_are map number [] h = tt
fcds_are map number (octets ∷ frames) h =
    either (Each CanBeWritten) (bit_of map number) _ _ (λ _. (h.0, fcds_are map (suc number) frames h.1))
    (λ _. fcds_are map (suc number) frames h.1)

burst_is : (map : List ℕ) (at : Option Block) → ((block : Block) → at ≡ Some block → IsFilled block) → Each CanBeWritten (burst_of map at)
burst_is map None h = tt
burst_is map (Some block) h =
    each_joined CanBeWritten (fcds map 0 block.frames) _ (fcds_are map 0 block.frames (h block refl).0) (tt, (tt, (tt, (tt, tt))))

present_is : (state : CallerState) (ending : Option End) (at : Option Block) (block : Block) →
    present_in state ending at ≡ Some block → at ≡ Some block
present_is WaitBlock None at block e = e
present_is WaitReady None at block e = e
present_is WaitBlock (Some why) at block e = absurd (cc e)
present_is WaitReady (Some why) at block e = absurd (cc e)
present_is WaitDis ending at block e = absurd (cc e)
present_is WaitCfr ending at block e = absurd (cc e)

pub present_fills : CutIsFullFrames → (t : Caller) (block : Block) → present_block t ≡ Some block → IsFilled block
present_fills cuts t block e =
    each_at IsFilled (blocks_of t) t.place block (call_fills cuts (t.finished ++ t.present) 0 t.document)
    (present_is t.state t.ending (slice_get (blocks_of t) t.place) block e)

pps_is : (at : Option Block) → Each CanBeWritten (pps_items at)
pps_is None = tt
pps_is (Some block) = (tt, tt)

training_is : (state : CallerState) (params : Params) → Each CanBeWritten (training_items state params)
training_is WaitDis params = tt
training_is WaitCfr params = (tt, (tt, tt))
training_is WaitBlock params = (tt, (tt, tt))
training_is WaitReady params = (tt, (tt, tt))

pub callers_can_be_written : CutIsFullFrames → CallersCanBeWritten
callers_can_be_written cuts t Training = training_is t.state t.params
callers_can_be_written cuts t (Burst map) = burst_is map (present_block t) (present_fills cuts t)
callers_can_be_written cuts t Pps = pps_is (present_block t)
callers_can_be_written cuts t Rr = (tt, tt)
callers_can_be_written cuts t Dcn = (tt, tt)
callers_can_be_written cuts t Silent = tt
callers_can_be_written cuts t Dis = tt
callers_can_be_written cuts t Cfr = tt
callers_can_be_written cuts t Ftt = tt
callers_can_be_written cuts t Mcf = tt
callers_can_be_written cuts t (Ppr map) = tt
callers_can_be_written cuts t Rnr = tt

-- ---- an answerer's turns

pub answerers_can_be_written : AnswerersCanBeWritten
answerers_can_be_written s Dis h = (tt, tt)
answerers_can_be_written s Cfr h = (tt, tt)
answerers_can_be_written s Ftt h = (tt, tt)
answerers_can_be_written s Mcf h = (tt, tt)
answerers_can_be_written s (Ppr map) h = (h, tt)
answerers_can_be_written s Rnr h = (tt, tt)
answerers_can_be_written s Dcn h = (tt, tt)
answerers_can_be_written s Silent h = tt
answerers_can_be_written s Training h = tt
answerers_can_be_written s (Burst map) h = tt
answerers_can_be_written s Pps h = tt
answerers_can_be_written s Rr h = tt

-- the map of what is answered is whole
abbrev IsWhole : AnswererAnswer → Type 0
IsWhole answer = HasWholeMap answer.turn

confirms_so : (busy : Bool) → HasWholeMap (cond busy Rnr Mcf)
confirms_so true = tt
confirms_so false = tt

stores_so : (s : Answerer) (ends : PageEnd) (mark : Mark) (page : Option PagePixels) → HasWholeMap (stores s ends mark page).turn
stores_so s ends mark None = tt
stores_so s ends mark (Some page) = confirms_so s.busy

block_so : (s : Answerer) (ends : PageEnd) (mark : Mark) (octets : List ℕ) → HasWholeMap (takes_block s ends mark octets).turn
block_so s Null mark octets = either IsWhole (within_page_limit octets) _ _ (λ _. confirms_so s.busy) (λ _. tt)
block_so s Mps mark octets = stores_so s Mps mark _
block_so s Eom mark octets = stores_so s Eom mark _
block_so s Eop mark octets = stores_so s Eop mark _

judged_so : (s : Answerer) (ends : PageEnd) (mark : Mark) (last : ℕ) → HasWholeMap (judges_block s ends mark last).turn
judged_so s ends mark last =
    either IsWhole (all_there s.frames last) _ _ (λ _. block_so s ends mark _) (λ _. length_map s.frames last)

pps_so : (s : Answerer) (ends : PageEnd) (mark : Mark) (last : ℕ) → HasWholeMap (answers_pps s ends mark last).turn
pps_so s ends mark last =
    either IsWhole (is_repeated s.accepted mark) _ _ (λ _. confirms_so s.busy) (λ _. judged_so s ends mark _)

repeated_so : (s : Answerer) (mark : Mark) → HasWholeMap (answers_repeated s mark).turn
repeated_so s mark = either IsWhole (is_repeated s.accepted mark) _ _ (λ _. confirms_so s.busy) (λ _. tt)

rr_so : (s : Answerer) → HasWholeMap (answers_rr s).turn
rr_so s =
    either IsWhole (is_some s.accepted && is_clear s.frames) _ _
    (λ _. confirms_so s.busy) (λ _. tt)

table_so : (state : AnswererState) (input : AnswererInput) (s : Answerer) → HasWholeMap (answerer_table state input s).turn
table_so PhaseB (listens (dcs params)) s = either IsWhole (allowed s.caps params) _ _ (λ _. tt) (λ _. tt)
table_so WaitTraining (trains octets) s =
    either IsWhole (is_good_training octets s.params) _ _ (λ _. tt) (λ _. tt)
table_so WaitTraining (listens (dcs params)) s = either IsWhole (allowed s.caps params) _ _ (λ _. tt) (λ _. tt)
table_so Message (listens (dcs params)) s = either IsWhole (allowed s.caps params) _ _ (λ _. tt) (λ _. tt)
table_so Message (listens (fcd number octets)) s =
    either IsWhole (within_frame_size s.params octets) _ _ (λ _. tt) (λ _. tt)
table_so Message (listens (pps ends page block last)) s = pps_so s ends (record { page = page; block = block }) last
table_so Message (listens rr) s = rr_so s
table_so PhaseB (listens (pps ends page block last)) s = repeated_so s (record { page = page; block = block })
table_so WaitTraining (listens (pps ends page block last)) s = repeated_so s (record { page = page; block = block })
table_so PhaseB (listens rr) s = rr_so s
table_so WaitTraining (listens rr) s = rr_so s
table_so _ _ s = tt

running_so : (ending : Option End) (input : AnswererInput) (s : Answerer) → HasWholeMap (unless_answerer_ended ending input s).turn
running_so (Some why) input s = tt
running_so None input s = table_so s.state input s

step_so : (s : Answerer) (input : AnswererInput) → HasWholeMap (answerer_step s input).turn
step_so s input = running_so s.ending input s

answers_so : (s : Answerer) (taken : Option AnswererInput) → HasWholeMap (answerer_answers s taken).turn
answers_so s None = tt
answers_so s (Some input) = step_so s input

not_ready_so : (turn : Turn) → HasWholeMap turn → HasWholeMap (not_ready turn)
not_ready_so Mcf h = tt
not_ready_so Silent h = tt
not_ready_so Dis h = tt
not_ready_so Training h = tt
not_ready_so Cfr h = tt
not_ready_so Ftt h = tt
not_ready_so (Burst map) h = tt
not_ready_so Pps h = tt
not_ready_so (Ppr map) h = h
not_ready_so Rnr h = tt
not_ready_so Rr h = tt
not_ready_so Dcn h = tt

limited_step_so : (limits : Limits) (s : Answerer) (input : AnswererInput) → HasWholeMap (limited_step limits s input).turn
limited_step_so limits s input =
    let before = is_full limits s.pages in
    let answer = answerer_step s (busy_while before input) in
    let whole = step_so s (busy_while before input) in
    either IsWhole (before && is_kept_out s input) (answerer_silent s)
    (filled before (is_full limits answer.next.pages) answer) (λ _. tt)
    (λ _. either IsWhole (not before && is_full limits answer.next.pages) (busy_answer answer) answer
    (λ _. not_ready_so answer.turn whole) (λ _. whole))

limited_so : (limits : Limits) (s : Answerer) (taken : Option AnswererInput) → HasWholeMap (limited_answers limits s taken).turn
limited_so limits s None = tt
limited_so limits s (Some input) = limited_step_so limits s input

unless_cut_so : (cut : Option Cut) (old new : LimitedFields) (input : PlainInput) (turn : Turn) →
    LimitedStepsUnlessCut cut old input new turn → HasWholeMap turn
unless_cut_so None old new input turn h = subst HasWholeMap (sym h.0.1) (limited_so old.limits old.station (answerer_takes input))
unless_cut_so (Some why) old new input turn h = subst HasWholeMap (sym h.1) tt

pub maps_are_whole : MapsAreWhole
maps_are_whole = record {
  plain = λ old new input turn h. subst HasWholeMap (sym h.1) (answers_so old (answerer_takes input));
  limited = λ old new input turn h. unless_cut_so old.cut old new input turn h;
}

-- ---- the turn that is kept

either_turn : {S : Type 0} (silent : Bool) (one other : Speaking S) → HasWholeMap one.turn → HasWholeMap other.turn →
    HasWholeMap (cond silent one other).turn
either_turn true one other p q = p
either_turn false one other p q = q

spoken_so : {S : Type 0} (old : Speaking S) (station : S) (turn : Turn) → HasWholeMap old.turn → HasWholeMap turn →
    HasWholeMap (spoken old station turn).turn
spoken_so old station turn p q =
    either_turn (is_silent turn) (record { station = station; turn = old.turn; taken = old.taken })
    (record { station = station; turn = turn; taken = 0 }) p q

kept_so : {S : Type 0} (steps : StepOf S) (lends : BurstsOf S) →
    ((old new : S) (input : PlainInput) (turn : Turn) → steps old input new turn → HasWholeMap turn) →
    (old new : Speaking S) (inputs : List PlainInput) → TakesAll steps lends old inputs new → HasWholeMap old.turn →
    HasWholeMap new.turn
kept_so steps lends whole old new [] h p = subst (λ s. HasWholeMap s.turn) (sym h) p
kept_so steps lends whole old new (input ∷ inputs) h p =
    kept_so steps lends whole h.0 new inputs h.2
    (heard_keeps (λ s. HasWholeMap s.turn) steps lends old h.0 input h.1 p
    (λ takes.
    let one = whole old.station takes.station input takes.turn takes.steps_so in
    subst (λ s. HasWholeMap s.turn) (sym takes.is) (spoken_so old takes.station takes.turn p one)))

pub kept_maps_are_whole : KeptMapsAreWhole
kept_maps_are_whole = record {
  plain = kept_so AnswererSteps AnswererLends maps_are_whole.plain;
  limited = kept_so (λ was input is turn. LimitedStepsUnlessCut was.cut was input is turn) limited_lends maps_are_whole.limited;
}

-- ---- bits

frame_of : (side : Side) (item : PlainItem) (following : List PlainItem) (bits : List Bool) → CanBeWritten item →
    AreBitsOf side item following bits → AreFrameOf side item following bits
frame_of side (framed signal) following bits can are = elim are [
  | inl frame ↦ frame
  | inr none ↦ absurd (none.0 can)
]
frame_of side (checked octets) following bits can are = are

frames_of : (side : Side) (items later : List PlainItem) (bits : List Bool) → Each CanBeWritten items → AreBits side items later bits →
    AreFrames side items later bits
frames_of side [] later bits can are = are
frames_of side (item ∷ items) later bits can (front, rest, first, more, is) =
    (front, rest, frame_of side item (items ++ later) front can.0 first, frames_of side items later rest can.1 more, is)

-- the items of a burst among those of all
burst_among : (P : PlainItem → Type 0) (bursts : List PlainBurst) (taken : ℕ) (burst : PlainBurst) (later : List PlainBurst) →
    Each P (items_of bursts) → drop taken bursts ≡ burst ∷ later → Each P burst.items
burst_among P [] zero burst later h e = absurd (cc e)
burst_among P [] (suc taken) burst later h e = absurd (cc e)
burst_among P (first ∷ bursts) zero burst later h e =
    let same : first ≡ burst = cc in
    subst (λ (b : PlainBurst). Each P b.items) same (each_front P first.items (items_of bursts) h)
burst_among P (first ∷ bursts) (suc taken) burst later h e =
    burst_among P bursts taken burst later (each_rest P first.items (items_of bursts) h) e

sent_whole : CutByCarrier → (params : Params) (items : List PlainItem) (bursts : List PlainBurst) → Each CanBeWritten items →
    bursts ≡ bursts_of params.speed items → (taken : ℕ) (burst : PlainBurst) (later : List PlainBurst) → drop taken bursts ≡ burst ∷ later →
    Each CanBeWritten burst.items
sent_whole cut params items bursts can is taken burst later at =
    let all : items_of bursts ≡ items = ap items_of is ∙ (cut params.speed items).joined in
    burst_among CanBeWritten bursts taken burst later (subst (Each CanBeWritten) (sym all) can) at

pub callers_send_whole : CutIsFullFrames → CutByCarrier → CallersSendWhole
callers_send_whole cuts cut v t turn bursts r lends taken burst later sent at is =
    frames_of CallerSide burst.items (items_of later) is.bits
    (sent_whole cut t.params (caller_items t turn) bursts (callers_can_be_written cuts t turn) (lends t r) taken burst later at) is.are

pub answerers_send_whole : CutByCarrier → AnswerersSendWhole
answerers_send_whole cut s turn bursts map lends taken burst later sent at is =
    frames_of AnswererSide burst.items (items_of later) is.bits
    (sent_whole cut s.params _ bursts (answerers_can_be_written s turn map) lends taken burst later at) is.are
