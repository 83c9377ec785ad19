-- What an answerer keeps open stays within the limits.
use Rattle.std.proofs.Common.{◌≡◌, ℕ, zero, suc, ◌+◌, ◌*◌, ◌≤◌, Bool, true, false, cond, Option, Some, None, List, [], ◌∷◌, ◌++◌, length}
use Rattle.std.proofs.Common.{refl, ap, ◌∙◌, arith}
use Rattle.std.specs.Prelude.{slice_set, is_some, ◌&&◌, Result, Ok, Err}
use Rattle.std.proofs.lemmas.Bool.{leb-true}
use Rattle.raster.specs.Pages.{PagePixels}
use Rattle.signals.specs.Agreement.{allowed}
use Rattle.signals.specs.Signals.{dcs, fcd, pps, rr, dcn}
use Rattle.signals.specs.declared.params.Caps.{Caps}
use Rattle.signals.specs.declared.params.Params.{Params}
use Rattle.signals.specs.declared.signal.PageEnd.{PageEnd}
use Rattle.signals.specs.declared.signal.PageEnd.TheVariants.{Null, Mps, Eom, Eop}
use Rattle.partial_page.specs.Frames.{frame_size}
use Rattle.partial_page.specs.Store.{no_frames, joined_frames}
use Rattle.stations.specs.Layers.{within_page_limit, is_good_training, page_read}
use Rattle.partial_page.specs.Assembling.{within_frame_size}
use Rattle.stations.specs.Inputs.{AnswererInput, listens, trains, t2, t1, is_busy}
use Rattle.stations.specs.AnswererStep.{Answerer, AnswererAnswer, answerer_silent, answerer_step, answerer_table}
use Rattle.partial_page.specs.Assembling.{Frames}
use Rattle.stations.specs.AnswererStep.{unless_answerer_ended, first_dcs, later_dcs, judges_training, keeps_frame, accepts, stores}
use Rattle.stations.specs.AnswererStep.{takes_block, judges_block, answers_pps, answers_repeated, answers_rr, is_repeated}
use Rattle.partial_page.specs.Assembling.{all_there}
use Rattle.stations.specs.AnswererStep.{is_clear, confirms, StepsOrRefuses, new_answerer}
use Rattle.partial_page.specs.Assembling.{last_counted}
use Rattle.stations.specs.declared.turn.Turn.{Turn}
use Rattle.stations.specs.Limits.{open_octets, AreShort, IsLimited, OpenIsLimited, StepsKeepLimits}
use Rattle.stations.specs.Runs.{answerer_after}
use Rattle.signals.specs.declared.mark.Mark.{Mark}
use Rattle.stations.specs.declared.turn.AnswererState.{AnswererState}
use Rattle.stations.specs.declared.turn.AnswererState.TheVariants.{PhaseB, WaitTraining, Message}
use Rattle.stations.specs.declared.turn.End.{End}

either : {A : Type 0} (P : A → Type 0) (b : Bool) (x y : A) → (b ≡ true → P x) → (b ≡ false → P y) → P (cond b x y)
either P true x y f g = f refl
either P false x y f g = g refl

none_open : (length no_frames ≡ 256) × AreShort no_frames
unfolding no_frames
none_open = (refl, tt)

short_sum : (frames : Frames) → AreShort frames → open_octets frames ≤ 256 * length frames
short_sum [] h = omega arith
short_sum (None ∷ frames) h = let rest = short_sum frames h in omega (arith, rest)
short_sum (Some octets ∷ frames) h = let rest = short_sum frames h.1 in omega (arith, rest, h.0)

short_set :
    (frames : Frames) (n : ℕ) (octets : List ℕ) → AreShort frames → length octets ≤ 256 → AreShort (slice_set frames n (Some octets))
short_set [] n octets h few = tt
short_set (None ∷ frames) zero octets h few = (few, h)
short_set (Some kept ∷ frames) zero octets h few = (few, h.1)
short_set (None ∷ frames) (suc n) octets h few = short_set frames n octets h few
short_set (Some kept ∷ frames) (suc n) octets h few = (h.0, short_set frames n octets h.1 few)

length_set : (frames : Frames) (n : ℕ) (frame : Option (List ℕ)) → length (slice_set frames n frame) ≡ length frames
length_set [] n frame = refl
length_set (x ∷ frames) zero frame = refl
length_set (x ∷ frames) (suc n) frame = ap suc (length_set frames n frame)

most_of : (small : Bool) → frame_size small ≤ 256
most_of true = omega arith
most_of false = omega arith

frame_few : (params : Params) (octets : List ℕ) → within_frame_size params octets ≡ true → length octets ≤ 256
unfolding within_frame_size
frame_few params octets h =
    let few : length octets ≤ frame_size params.small = leb-true (length octets) (frame_size params.small) h in
    let most = most_of params.small in
    omega (arith, few, most)

page_few : (octets : List ℕ) → within_page_limit octets ≡ true → length octets ≤ 8388608
unfolding within_page_limit
page_few octets h = leb-true (length octets) 8388608 h

-- a step that leaves frames and octets
abbrev Keeps : AnswererAnswer → Type 0
Keeps answer = IsLimited answer.next

same_open : (s : Answerer) (next : Answerer) → IsLimited s → next.frames ≡ s.frames → next.octets ≡ s.octets → IsLimited next
same_open s next h frames octets = record { places = rw frames h.places; short = rw frames h.short; page = rw octets h.page }

accepts_limited :
    (s : Answerer) (ends : PageEnd) (mark : Mark) (octets : List ℕ) (pages : List PagePixels) → length octets ≤ 8388608 →
    Keeps (accepts s ends mark octets pages)
accepts_limited s ends mark octets pages few = record { places = none_open.0; short = none_open.1; page = few }

stores_limited : (s : Answerer) (ends : PageEnd) (mark : Mark) (page : Option PagePixels) → IsLimited s → Keeps (stores s ends mark page)
stores_limited s ends mark None h = same_open s _ h refl refl
stores_limited s ends mark (Some page) h = accepts_limited s ends mark [] (s.pages ++ page ∷ []) (omega arith)

takes_limited : (s : Answerer) (ends : PageEnd) (mark : Mark) (octets : List ℕ) → IsLimited s → Keeps (takes_block s ends mark octets)
takes_limited s Null mark octets h = either Keeps (within_page_limit octets) _ _
    (λ few. accepts_limited s Null mark octets s.pages (page_few octets few)) (λ long. same_open s _ h refl refl)
takes_limited s Mps mark octets h = stores_limited s Mps mark (page_read s.params octets) h
takes_limited s Eom mark octets h = stores_limited s Eom mark (page_read s.params octets) h
takes_limited s Eop mark octets h = stores_limited s Eop mark (page_read s.params octets) h

judges_limited : (s : Answerer) (ends : PageEnd) (mark : Mark) (last : ℕ) → IsLimited s → Keeps (judges_block s ends mark last)
judges_limited s ends mark last h =
    either Keeps (all_there s.frames last) _ _ (λ whole. takes_limited s ends mark (s.octets ++ joined_frames s.frames (last + 1)) h)
    (λ missing. same_open s _ h refl refl)

pps_limited : (s : Answerer) (ends : PageEnd) (mark : Mark) (last : ℕ) → IsLimited s → Keeps (answers_pps s ends mark last)
pps_limited s ends mark last h =
    either Keeps (is_repeated s.accepted mark) _ _ (λ repeated. same_open s _ h refl refl)
    (λ fresh. judges_limited s ends mark (last_counted s.asked mark last) h)

repeated_limited : (s : Answerer) (mark : Mark) → IsLimited s → Keeps (answers_repeated s mark)
repeated_limited s mark h = either Keeps (is_repeated s.accepted mark) _ _ (λ e. same_open s _ h refl refl) (λ e. same_open s _ h refl refl)

rr_limited : (s : Answerer) → IsLimited s → Keeps (answers_rr s)
rr_limited s h = either Keeps (is_some s.accepted && is_clear s.frames) (record { next = s; turn = confirms s }) (answerer_silent s)
    (λ e. h) (λ e. h)

first_limited : (s : Answerer) (params : Params) → IsLimited s → Keeps (first_dcs s params)
first_limited s params h = either Keeps (allowed s.caps params) _ _ (λ e. same_open s _ h refl refl) (λ e. same_open s _ h refl refl)

later_limited : (s : Answerer) (params : Params) → IsLimited s → Keeps (later_dcs s params)
later_limited s params h = either Keeps (allowed s.caps params) _ _
    (λ e. record { places = none_open.0; short = none_open.1; page = h.page }) (λ e. same_open s _ h refl refl)

training_limited : (s : Answerer) (octets : List ℕ) → IsLimited s → Keeps (judges_training s octets)
training_limited s octets h = either Keeps (is_good_training octets s.params) _ _ (λ e. same_open s _ h refl refl)
    (λ e. same_open s _ h refl refl)

fcd_limited : (s : Answerer) (number : ℕ) (octets : List ℕ) → IsLimited s → Keeps (keeps_frame s number octets)
fcd_limited s number octets h =
    either Keeps (within_frame_size s.params octets) _ _
    (λ few. record {
      places = length_set s.frames number (Some octets) ∙ h.places;
      short = short_set s.frames number octets h.short (frame_few s.params octets few);
      page = h.page;
    })
    (λ long. same_open s _ h refl refl)

table_limited : (state : AnswererState) (input : AnswererInput) (s : Answerer) → IsLimited s → Keeps (answerer_table state input s)
table_limited PhaseB (listens (dcs params)) s h = first_limited s params h
table_limited PhaseB t2 s h = same_open s _ h refl refl
table_limited WaitTraining t2 s h = same_open s _ h refl refl
table_limited WaitTraining (trains octets) s h = training_limited s octets h
table_limited WaitTraining (listens (dcs params)) s h = later_limited s params h
table_limited Message (listens (dcs params)) s h = later_limited s params h
table_limited Message (listens (fcd number octets)) s h = fcd_limited s number octets h
table_limited Message (listens (pps ends page block last)) s h = pps_limited s ends (record { page = page; block = block }) last h
table_limited Message (listens rr) s h = rr_limited s h
table_limited PhaseB (listens (pps ends page block last)) s h = repeated_limited s (record { page = page; block = block }) h
table_limited WaitTraining (listens (pps ends page block last)) s h = repeated_limited s (record { page = page; block = block }) h
table_limited PhaseB (listens rr) s h = rr_limited s h
table_limited WaitTraining (listens rr) s h = rr_limited s h
table_limited _ t1 s h = same_open s _ h refl refl
table_limited _ (listens dcn) s h = same_open s _ h refl refl
table_limited _ (is_busy busy) s h = same_open s _ h refl refl
table_limited _ input s h = same_open s _ h refl refl

pub steps_keep_limits : StepsKeepLimits
steps_keep_limits s input h = at s.ending
  where
    at : (ending : Option End) → Keeps (unless_answerer_ended ending input s)
    at (Some why) = h
    at None = table_limited s.state input s h

pub new_is_limited : (caps : Caps) (params : Params) → IsLimited (new_answerer caps params)
new_is_limited caps params = record { places = none_open.0; short = none_open.1; page = omega arith }

pub after_limited : (inputs : List AnswererInput) (s : Answerer) → IsLimited s → IsLimited (answerer_after inputs s)
after_limited [] s h = h
after_limited (input ∷ inputs) s h = after_limited inputs (answerer_step s input).next (steps_keep_limits s input h)

pub open_is_limited : OpenIsLimited
open_is_limited caps params inputs =
    let s : Answerer = answerer_after inputs (new_answerer caps params) in
    let h : IsLimited s = after_limited inputs (new_answerer caps params) (new_is_limited caps params) in
    let sum = short_sum s.frames h.short in
    (omega (arith, sum, h.places), h.page)

pub step_limited :
    {E : Type 0} → StepsKeepLimits → (old new : Answerer) (input : AnswererInput) (result : Result Turn E) →
    StepsOrRefuses old new result (answerer_step old input) → IsLimited old → IsLimited new
step_limited law old new input (Ok turn) h limited = rw h.0 (law old input limited)
step_limited law old new input (Err refused) h limited = rw h limited
