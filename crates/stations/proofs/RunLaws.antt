-- Runs of a station: an ended one stays as it is, and what an answerer stores was read of what it heard.
use Rattle.std.proofs.Common.{◌≡◌, ◌≢◌, ℕ, zero, suc, ◌+◌, true, Option, Some, None, List, [], ◌∷◌, ◌++◌, refl, ap, sym, subst, ◌∙◌, arith}
use Rattle.std.proofs.Common.{append_assoc, append-nil, inl, inr}
use Rattle.std.specs.Prelude.{◌⊎◌, slice_set, unwrap_or, is_some, IsSome, ◌&&◌, replicate}
use Rattle.std.specs.List.{Contains, flat_map, range_with_len}
use Rattle.raster.specs.Pages.{PagePixels}
use Rattle.signals.specs.Agreement.{allowed}
use Rattle.signals.specs.Signals.{dcs, fcd, pps, rr, dcn}
use Rattle.signals.specs.declared.params.Caps.{Caps}
use Rattle.signals.specs.declared.params.Params.{Params}
use Rattle.signals.specs.declared.signal.PageEnd.{PageEnd}
use Rattle.signals.specs.declared.signal.PageEnd.TheVariants.{Null, Mps, Eom, Eop}
use Rattle.partial_page.specs.Store.{no_frames, joined_frames, frame_of}
use Rattle.stations.specs.Layers.{IsPageOf, within_page_limit, is_good_training, page_read}
use Rattle.partial_page.specs.Assembling.{within_frame_size}
use Rattle.stations.specs.Blocks.{joined}
use Rattle.stations.specs.Laws.{Each, ReadsByGrammar}
use Rattle.stations.specs.Inputs.{CallerInput, AnswererInput, listens, trains, t2, t1, is_busy}
use Rattle.stations.specs.CallerStep.{Caller, caller_step, caller_silent, unless_caller_ended}
use Rattle.stations.specs.AnswererStep.{Answerer, AnswererAnswer, answerer_silent, answerer_step, answerer_table}
use Rattle.partial_page.specs.Assembling.{Frames}
use Rattle.stations.specs.AnswererStep.{unless_answerer_ended, first_dcs, later_dcs, judges_training, keeps_frame, accepts, stores}
use Rattle.stations.specs.AnswererStep.{takes_block, answers_pps, answers_repeated, answers_rr, is_repeated}
use Rattle.partial_page.specs.Assembling.{all_there, last_counted}
use Rattle.stations.specs.AnswererStep.{is_clear, confirms, new_answerer}
use Rattle.stations.specs.Runs.{answerer_after, EndedCallerStays, EndedAnswererStays, IsHeard, AreJoined, IsReadOf, StoredIsRead}
use Rattle.stations.specs.Runs.{StepsStoreOpen, IsAllowedDcs, KeptIsReady, StaysReady}
use Rattle.signals.specs.declared.mark.Mark.{Mark}
use Rattle.stations.specs.declared.turn.AnswererState.{AnswererState}
use Rattle.stations.specs.declared.turn.AnswererState.TheVariants.{PhaseB, WaitTraining, Message}
use Rattle.stations.specs.declared.turn.End.{End}
use Rattle.stations.specs.declared.turn.Turn.TheVariants.{Silent}
use Rattle.stations.proofs.Progress.{either}

caller_stays : (c : Caller) (input : CallerInput) → IsSome c.ending → caller_step c input ≡ caller_silent c
caller_stays c input h = at c.ending h
  where
    at : (ending : Option End) → IsSome ending → unless_caller_ended ending input c ≡ caller_silent c
    at None h = absurd (cc h)
    at (Some why) h = refl

pub ended_caller_stays : EndedCallerStays
ended_caller_stays c [] h = (refl, refl)
ended_caller_stays c (input ∷ inputs) h =
    let rest = ended_caller_stays c inputs h in
    rw (caller_stays c input h) (rest.0, ap (λ turns. Silent ∷ turns) rest.1)

answerer_stays : (s : Answerer) (input : AnswererInput) → IsSome s.ending → answerer_step s input ≡ answerer_silent s
answerer_stays s input h = at s.ending h
  where
    at : (ending : Option End) → IsSome ending → unless_answerer_ended ending input s ≡ answerer_silent s
    at None h = absurd (cc h)
    at (Some why) h = refl

pub ended_answerer_stays : EndedAnswererStays
ended_answerer_stays s [] h = (refl, refl)
ended_answerer_stays s (input ∷ inputs) h =
    let rest = ended_answerer_stays s inputs h in
    rw (answerer_stays s input h) (rest.0, ap (λ turns. Silent ∷ turns) rest.1)

-- each open frame was heard
abbrev OpenHeard : List AnswererInput → Option (List ℕ) → Type 0
OpenHeard all None = Unit {0}
OpenHeard all (Some octets) = IsHeard all octets

-- what an answerer holds was heard among all the inputs
record IsFrom (caps : Caps) (all : List AnswererInput) (s : Answerer) : Type 0 where
  own : s.caps ≡ caps
  dcs_heard : s.state ≢ PhaseB → Contains all (listens (dcs s.params)) × (allowed caps s.params ≡ true)
  frames : Each (OpenHeard all) s.frames
  octets : AreJoined all s.octets
  pages : Each (IsReadOf caps all) s.pages

Each_push : {A : Type 0} (P : A → Type 0) (xs : List A) (x : A) → Each P xs → P x → Each P (xs ++ x ∷ [])
Each_push P [] x h p = (p, tt)
Each_push P (y ∷ xs) x h p = (h.0, Each_push P xs x h.1 p)

Each_join : {A : Type 0} (P : A → Type 0) (xs ys : List A) → Each P xs → Each P ys → Each P (xs ++ ys)
Each_join P [] ys h g = g
Each_join P (x ∷ xs) ys h g = (h.0, Each_join P xs ys h.1 g)

joined_join : (xs ys : List (List ℕ)) → joined (xs ++ ys) ≡ joined xs ++ joined ys
joined_join [] ys = refl
joined_join (x ∷ xs) ys = ap (λ l. x ++ l) (joined_join xs ys) ∙ sym (append_assoc x (joined xs) (joined ys))

none_joined : (all : List AnswererInput) → AreJoined all []
none_joined all = record { parts = []; heard = tt; joined_is = refl }

both_joined : (all : List AnswererInput) (xs ys : List ℕ) → AreJoined all xs → AreJoined all ys → AreJoined all (xs ++ ys)
both_joined all xs ys h g =
    record {
      parts = h.parts ++ g.parts;
      heard = Each_join (IsHeard all) h.parts g.parts h.heard g.heard;
      joined_is = rw (h.joined_is, g.joined_is) (sym (joined_join h.parts g.parts));
    }

open_joined : (all : List AnswererInput) (frame : Option (List ℕ)) → OpenHeard all frame → AreJoined all (unwrap_or frame [])
open_joined all None h = none_joined all
open_joined all (Some octets) h = record { parts = octets ∷ []; heard = (h, tt); joined_is = sym (append-nil octets) }

frame_heard : (all : List AnswererInput) (frames : Frames) (n : ℕ) → Each (OpenHeard all) frames → OpenHeard all (frame_of frames n)
frame_heard all [] n h = tt
frame_heard all (x ∷ frames) zero h = h.0
frame_heard all (x ∷ frames) (suc n) h = frame_heard all frames n h.1

numbers_joined :
    (all : List AnswererInput) (frames : Frames) (numbers : List ℕ) → Each (OpenHeard all) frames →
    AreJoined all (flat_map (λ n. unwrap_or (frame_of frames n) []) numbers)
numbers_joined all frames [] h = none_joined all
numbers_joined all frames (n ∷ numbers) h =
    both_joined all _ _ (open_joined all (frame_of frames n) (frame_heard all frames n h)) (numbers_joined all frames numbers h)

frames_joined :
    (all : List AnswererInput) (frames : Frames) (count : ℕ) → Each (OpenHeard all) frames → AreJoined all (joined_frames frames count)
unfolding joined_frames
frames_joined all frames count h = numbers_joined all frames (range_with_len 0 count) h

set_heard :
    (all : List AnswererInput) (frames : Frames) (n : ℕ) (octets : List ℕ) → Each (OpenHeard all) frames → IsHeard all octets →
    Each (OpenHeard all) (slice_set frames n (Some octets))
set_heard all [] n octets h heard = tt
set_heard all (x ∷ frames) zero octets h heard = (heard, h.1)
set_heard all (x ∷ frames) (suc n) octets h heard = (h.0, set_heard all frames n octets h.1 heard)

none_heard : (all : List AnswererInput) → Each (OpenHeard all) no_frames
unfolding no_frames
none_heard all = go 256
  where
    go : (n : ℕ) → Each (OpenHeard all) (replicate n None)
    go zero = tt
    go (suc n) = (tt, go n)

-- parameters were heard and are allowed
abbrev Held : Caps → List AnswererInput → Params → Type 0
Held caps all params = Contains all (listens (dcs params)) × (allowed caps params ≡ true)

-- a row that changes none of it
stays :
    (caps : Caps) (all : List AnswererInput) (s next : Answerer) → IsFrom caps all s →
    next.caps ≡ s.caps → next.params ≡ s.params → (next.state ≢ PhaseB → s.state ≢ PhaseB) →
    next.frames ≡ s.frames → next.octets ≡ s.octets → next.pages ≡ s.pages → IsFrom caps all next
stays caps all s next h own params state frames octets pages =
    record {
      own = own ∙ h.own;
      dcs_heard = λ away. rw params (h.dcs_heard (state away));
      frames = rw frames h.frames;
      octets = rw octets h.octets;
      pages = rw pages h.pages;
    }

-- a row after which the state is the same
rests :
    (caps : Caps) (all : List AnswererInput) (s next : Answerer) → IsFrom caps all s →
    next.caps ≡ s.caps → next.params ≡ s.params → next.state ≡ s.state →
    next.frames ≡ s.frames → next.octets ≡ s.octets → next.pages ≡ s.pages → IsFrom caps all next
rests caps all s next h own params state frames octets pages =
    stays caps all s next h own params (λ away e. away (state ∙ e)) frames octets pages

abbrev From : Caps → List AnswererInput → AnswererAnswer → Type 0
From caps all answer = IsFrom caps all answer.next

accepts_from :
    (caps : Caps) (all : List AnswererInput) (s : Answerer) (ends : PageEnd) (mark : Mark) (octets : List ℕ) (pages : List PagePixels) →
    IsFrom caps all s → Held caps all s.params → AreJoined all octets → Each (IsReadOf caps all) pages →
    From caps all (accepts s ends mark octets pages)
accepts_from caps all s ends mark octets pages h held joined read =
    record { own = h.own; dcs_heard = λ away. held; frames = none_heard all; octets = joined; pages = read }

stores_from :
    ReadsByGrammar → (caps : Caps) (all : List AnswererInput) (s : Answerer) (ends : PageEnd) (mark : Mark) (octets : List ℕ)
    (page : Option PagePixels) →
    page_read s.params octets ≡ page → IsFrom caps all s → Held caps all s.params → AreJoined all octets →
    From caps all (stores s ends mark page)
stores_from law caps all s ends mark octets None reads h held joined = rests caps all s _ h refl refl refl refl refl refl
stores_from law caps all s ends mark octets (Some page) reads h held joined =
    let read : IsReadOf caps all page =
    record {
      params = s.params;
      dcs_heard = held.0;
      dcs_allowed = held.1;
      octets = octets;
      octets_joined = joined;
      reads = (law s.params octets page).0 reads;
    } in
    accepts_from caps all s ends mark [] (s.pages ++ page ∷ []) h held (none_joined all)
    (Each_push (IsReadOf caps all) s.pages page h.pages read)

takes_from :
    ReadsByGrammar → (caps : Caps) (all : List AnswererInput) (s : Answerer) (ends : PageEnd) (mark : Mark) (octets : List ℕ) →
    IsFrom caps all s → Held caps all s.params → AreJoined all octets → From caps all (takes_block s ends mark octets)
takes_from law caps all s Null mark octets h held joined =
    either (From caps all) (within_page_limit octets) _ _
    (λ few. accepts_from caps all s Null mark octets s.pages h held joined h.pages)
    (λ long. rests caps all s _ h refl refl refl refl refl refl)
takes_from law caps all s Mps mark octets h held joined =
    stores_from law caps all s Mps mark octets (page_read s.params octets) refl h held joined
takes_from law caps all s Eom mark octets h held joined =
    stores_from law caps all s Eom mark octets (page_read s.params octets) refl h held joined
takes_from law caps all s Eop mark octets h held joined =
    stores_from law caps all s Eop mark octets (page_read s.params octets) refl h held joined

pps_from :
    ReadsByGrammar → (caps : Caps) (all : List AnswererInput) (s : Answerer) (ends : PageEnd) (mark : Mark) (last : ℕ) →
    s.state ≡ Message → IsFrom caps all s → From caps all (answers_pps s ends mark last)
pps_from law caps all s ends mark last message h =
    let held : Held caps all s.params = h.dcs_heard (λ e. let both : Message ≡ PhaseB = sym message ∙ e in cc) in
    let counted : ℕ = last_counted s.asked mark last in
    either (From caps all) (is_repeated s.accepted mark) _ _
    (λ repeated. rests caps all s _ h refl refl refl refl refl refl)
    (λ new. either (From caps all) (all_there s.frames counted) _ _
    (λ whole. takes_from law caps all s ends mark (s.octets ++ joined_frames s.frames (counted + 1)) h held
    (both_joined all s.octets _ h.octets (frames_joined all s.frames (counted + 1) h.frames)))
    (λ missing. rests caps all s _ h refl refl refl refl refl refl))

first_from :
    (caps : Caps) (all : List AnswererInput) (s : Answerer) (params : Params) →
    Contains all (listens (dcs params)) → IsFrom caps all s → From caps all (first_dcs s params)
first_from caps all s params heard h =
    either (From caps all) (allowed s.caps params) _ _
    (λ e. record {
      own = h.own;
      dcs_heard = λ away. (heard, subst (λ own. allowed own params ≡ true) h.own e);
      frames = h.frames;
      octets = h.octets;
      pages = h.pages;
    })
    (λ e. h)

later_from :
    (caps : Caps) (all : List AnswererInput) (s : Answerer) (params : Params) →
    Contains all (listens (dcs params)) → IsFrom caps all s → From caps all (later_dcs s params)
later_from caps all s params heard h =
    either (From caps all) (allowed s.caps params) _ _
    (λ e. record {
      own = h.own;
      dcs_heard = λ away. (heard, subst (λ own. allowed own params ≡ true) h.own e);
      frames = none_heard all;
      octets = h.octets;
      pages = h.pages;
    })
    (λ e. h)

training_from :
    (caps : Caps) (all : List AnswererInput) (s : Answerer) (octets : List ℕ) →
    s.state ≡ WaitTraining → IsFrom caps all s → From caps all (judges_training s octets)
training_from caps all s octets waits h =
    either (From caps all) (is_good_training octets s.params) _ _
    (λ good. stays caps all s _ h refl refl (λ away e. let both : WaitTraining ≡ PhaseB = sym waits ∙ e in cc) refl refl refl)
    (λ bad. stays caps all s _ h refl refl (λ away. absurd (away refl)) refl refl refl)

fcd_from :
    (caps : Caps) (all : List AnswererInput) (s : Answerer) (number : ℕ) (octets : List ℕ) →
    Contains all (listens (fcd number octets)) → IsFrom caps all s → From caps all (keeps_frame s number octets)
fcd_from caps all s number octets heard h =
    either (From caps all) (within_frame_size s.params octets) _ _
    (λ few. record {
      own = h.own;
      dcs_heard = h.dcs_heard;
      frames = set_heard all s.frames number octets h.frames (number, heard);
      octets = h.octets;
      pages = h.pages;
    })
    (λ long. h)

repeated_from :
    (caps : Caps) (all : List AnswererInput) (s : Answerer) (mark : Mark) → IsFrom caps all s → From caps all (answers_repeated s mark)
repeated_from caps all s mark h = either (From caps all) (is_repeated s.accepted mark) (record { next = s; turn = confirms s })
    (answerer_silent s) (λ e. h) (λ e. h)

rr_from : (caps : Caps) (all : List AnswererInput) (s : Answerer) → IsFrom caps all s → From caps all (answers_rr s)
rr_from caps all s h = either (From caps all) (is_some s.accepted && is_clear s.frames) (record { next = s; turn = confirms s })
    (answerer_silent s) (λ e. h) (λ e. h)

table_from :
    ReadsByGrammar → (caps : Caps) (all : List AnswererInput) (state : AnswererState) (input : AnswererInput) (s : Answerer) →
    s.state ≡ state → Contains all input → IsFrom caps all s → From caps all (answerer_table state input s)
table_from law caps all PhaseB (listens (dcs params)) s e heard h = first_from caps all s params heard h
table_from law caps all PhaseB t2 s e heard h = stays caps all s _ h refl refl (λ away. absurd (away refl)) refl refl refl
table_from law caps all WaitTraining t2 s e heard h = stays caps all s _ h refl refl (λ away. absurd (away refl)) refl refl refl
table_from law caps all WaitTraining (trains octets) s e heard h = training_from caps all s octets e h
table_from law caps all WaitTraining (listens (dcs params)) s e heard h = later_from caps all s params heard h
table_from law caps all Message (listens (dcs params)) s e heard h = later_from caps all s params heard h
table_from law caps all Message (listens (fcd number octets)) s e heard h = fcd_from caps all s number octets heard h
table_from law caps all Message (listens (pps ends page block last)) s e heard h =
    pps_from law caps all s ends (record { page = page; block = block }) last e h
table_from law caps all Message (listens rr) s e heard h = rr_from caps all s h
table_from law caps all PhaseB (listens (pps ends page block last)) s e heard h =
    repeated_from caps all s (record { page = page; block = block }) h
table_from law caps all WaitTraining (listens (pps ends page block last)) s e heard h =
    repeated_from caps all s (record { page = page; block = block }) h
table_from law caps all PhaseB (listens rr) s e heard h = rr_from caps all s h
table_from law caps all WaitTraining (listens rr) s e heard h = rr_from caps all s h
table_from law caps all _ t1 s e heard h = rests caps all s _ h refl refl refl refl refl refl
table_from law caps all _ (listens dcn) s e heard h = rests caps all s _ h refl refl refl refl refl refl
table_from law caps all _ (is_busy busy) s e heard h = rests caps all s _ h refl refl refl refl refl refl
table_from law caps all _ input s e heard h = h

step_from :
    ReadsByGrammar → (caps : Caps) (all : List AnswererInput) (s : Answerer) (input : AnswererInput) →
    Contains all input → IsFrom caps all s → From caps all (answerer_step s input)
step_from law caps all s input heard h = at s.ending
  where
    at : (ending : Option End) → From caps all (unless_answerer_ended ending input s)
    at (Some why) = h
    at None = table_from law caps all s.state input s refl heard h

contains_first : {A : Type 0} (x : A) (xs : List A) → Contains (x ∷ xs) x
contains_first x xs = (0, omega arith, refl)

contains_later : {A : Type 0} (y x : A) (xs : List A) → Contains xs x → Contains (y ∷ xs) x
contains_later y x xs h = (suc h.0, omega (arith, h.1), h.2)

after_from :
    ReadsByGrammar → (caps : Caps) (all rest : List AnswererInput) (s : Answerer) →
    ((input : AnswererInput) → Contains rest input → Contains all input) → IsFrom caps all s → IsFrom caps all (answerer_after rest s)
after_from law caps all [] s among h = h
after_from law caps all (input ∷ rest) s among h =
    after_from law caps all rest (answerer_step s input).next (λ x later. among x (contains_later input x rest later))
    (step_from law caps all s input (among input (contains_first input rest)) h)

pub stored_is_read : ReadsByGrammar → StoredIsRead
stored_is_read law caps params inputs =
    let new : IsFrom caps inputs (new_answerer caps params) =
    record { own = refl; dcs_heard = λ away. absurd (away refl); frames = none_heard inputs; octets = none_joined inputs; pages = tt } in
    (after_from law caps inputs inputs (new_answerer caps params) (λ x heard. heard) new).pages

-- a step stores no page, or one of the open octets and frames
abbrev Stores : Answerer → AnswererAnswer → Type 0
Stores s answer =
    (answer.next.pages ≡ s.pages) ⊎
    ((page : PagePixels) × (last : ℕ) × IsPageOf s.params (s.octets ++ joined_frames s.frames (last + 1)) page ×
    (answer.next.pages ≡ s.pages ++ page ∷ []))

read_stores :
    ReadsByGrammar → (s : Answerer) (ends : PageEnd) (mark : Mark) (last : ℕ) (page : Option PagePixels) →
    page_read s.params (s.octets ++ joined_frames s.frames (last + 1)) ≡ page → Stores s (stores s ends mark page)
read_stores law s ends mark last None e = inl refl
read_stores law s ends mark last (Some page) e =
    inr (page, last, (law s.params (s.octets ++ joined_frames s.frames (last + 1)) page).0 e, refl)

block_stores :
    ReadsByGrammar → (s : Answerer) (ends : PageEnd) (mark : Mark) (last : ℕ) →
    Stores s (takes_block s ends mark (s.octets ++ joined_frames s.frames (last + 1)))
block_stores law s Null mark last = either (Stores s) (within_page_limit (s.octets ++ joined_frames s.frames (last + 1))) _ _
    (λ few. inl refl)
    (λ long. inl refl)
block_stores law s Mps mark last = read_stores law s Mps mark last (page_read s.params (s.octets ++ joined_frames s.frames (last + 1))) refl
block_stores law s Eom mark last = read_stores law s Eom mark last (page_read s.params (s.octets ++ joined_frames s.frames (last + 1))) refl
block_stores law s Eop mark last = read_stores law s Eop mark last (page_read s.params (s.octets ++ joined_frames s.frames (last + 1))) refl

pps_stores : ReadsByGrammar → (s : Answerer) (ends : PageEnd) (mark : Mark) (last : ℕ) → Stores s (answers_pps s ends mark last)
pps_stores law s ends mark last =
    either (Stores s) (is_repeated s.accepted mark) _ _ (λ repeated. inl refl)
    (λ new. either (Stores s) (all_there s.frames (last_counted s.asked mark last)) _ _
    (λ whole. block_stores law s ends mark (last_counted s.asked mark last)) (λ missing. inl refl))

table_stores : ReadsByGrammar → (state : AnswererState) (input : AnswererInput) (s : Answerer) → Stores s (answerer_table state input s)
table_stores law PhaseB (listens (dcs params)) s = either (Stores s) (allowed s.caps params) _ _ (λ e. inl refl) (λ e. inl refl)
table_stores law PhaseB t2 s = inl refl
table_stores law WaitTraining t2 s = inl refl
table_stores law WaitTraining (trains octets) s = either (Stores s) (is_good_training octets s.params) _ _ (λ e. inl refl) (λ e. inl refl)
table_stores law WaitTraining (listens (dcs params)) s = either (Stores s) (allowed s.caps params) _ _ (λ e. inl refl) (λ e. inl refl)
table_stores law Message (listens (dcs params)) s = either (Stores s) (allowed s.caps params) _ _ (λ e. inl refl) (λ e. inl refl)
table_stores law Message (listens (fcd number octets)) s =
    either (Stores s) (within_frame_size s.params octets) _ _ (λ e. inl refl) (λ e. inl refl)
table_stores law Message (listens (pps ends page block last)) s = pps_stores law s ends (record { page = page; block = block }) last
table_stores law Message (listens rr) s =
    either (Stores s) (is_some s.accepted && is_clear s.frames) (record { next = s; turn = confirms s })
    (answerer_silent s) (λ e. inl refl) (λ e. inl refl)
table_stores law PhaseB (listens (pps ends page block last)) s =
    either (Stores s) (is_repeated s.accepted (record { page = page; block = block })) (record { next = s; turn = confirms s })
    (answerer_silent s) (λ e. inl refl) (λ e. inl refl)
table_stores law WaitTraining (listens (pps ends page block last)) s =
    either (Stores s) (is_repeated s.accepted (record { page = page; block = block })) (record { next = s; turn = confirms s })
    (answerer_silent s) (λ e. inl refl) (λ e. inl refl)
table_stores law PhaseB (listens rr) s = either (Stores s) (is_some s.accepted && is_clear s.frames)
    (record { next = s; turn = confirms s })
    (answerer_silent s) (λ e. inl refl) (λ e. inl refl)
table_stores law WaitTraining (listens rr) s =
    either (Stores s) (is_some s.accepted && is_clear s.frames) (record { next = s; turn = confirms s }) (answerer_silent s) (λ e. inl refl)
    (λ e. inl refl)
table_stores law _ t1 s = inl refl
table_stores law _ (listens dcn) s = inl refl
table_stores law _ (is_busy busy) s = inl refl
table_stores law _ input s = inl refl

pub steps_store_open : ReadsByGrammar → StepsStoreOpen
steps_store_open law s input = at s.ending
  where
    at : (ending : Option End) → Stores s (unless_answerer_ended ending input s)
    at (Some why) = inl refl
    at None = table_stores law s.state input s

-- the memory is there, and the caps are the same
abbrev Ready : Answerer → AnswererAnswer → Type 0
Ready s answer = (answer.next.ready ≡ true) × (answer.next.caps ≡ s.caps)

stores_ready :
    (s : Answerer) (ends : PageEnd) (mark : Mark) (page : Option PagePixels) → s.ready ≡ true → Ready s (stores s ends mark page)
stores_ready s ends mark None ready = (ready, refl)
stores_ready s ends mark (Some page) ready = (ready, refl)

block_ready :
    (s : Answerer) (ends : PageEnd) (mark : Mark) (octets : List ℕ) → s.ready ≡ true → Ready s (takes_block s ends mark octets)
block_ready s Null mark octets ready = either (Ready s) (within_page_limit octets) _ _ (λ few. (ready, refl)) (λ long. (ready, refl))
block_ready s Mps mark octets ready = stores_ready s Mps mark (page_read s.params octets) ready
block_ready s Eom mark octets ready = stores_ready s Eom mark (page_read s.params octets) ready
block_ready s Eop mark octets ready = stores_ready s Eop mark (page_read s.params octets) ready

pps_ready : (s : Answerer) (ends : PageEnd) (mark : Mark) (last : ℕ) → s.ready ≡ true → Ready s (answers_pps s ends mark last)
pps_ready s ends mark last ready =
    let counted : ℕ = last_counted s.asked mark last in
    either (Ready s) (is_repeated s.accepted mark) _ _ (λ repeated. (ready, refl))
    (λ new. either (Ready s) (all_there s.frames counted) _ _
    (λ whole. block_ready s ends mark (s.octets ++ joined_frames s.frames (counted + 1)) ready) (λ missing. (ready, refl)))

repeated_ready : (s : Answerer) (mark : Mark) → s.ready ≡ true → Ready s (answers_repeated s mark)
repeated_ready s mark ready =
    either (Ready s) (is_repeated s.accepted mark) (record { next = s; turn = confirms s }) (answerer_silent s)
    (λ e. (ready, refl)) (λ e. (ready, refl))

rr_ready : (s : Answerer) → s.ready ≡ true → Ready s (answers_rr s)
rr_ready s ready =
    either (Ready s) (is_some s.accepted && is_clear s.frames) (record { next = s; turn = confirms s }) (answerer_silent s)
    (λ e. (ready, refl)) (λ e. (ready, refl))

table_ready :
    (state : AnswererState) (input : AnswererInput) (s : Answerer) →
    s.ready ≡ true → ¬ IsAllowedDcs s.caps input → Ready s (answerer_table state input s)
table_ready PhaseB (listens (dcs params)) s ready not =
    either (Ready s) (allowed s.caps params) _ _ (λ e. absurd (not e)) (λ e. (ready, refl))
table_ready PhaseB t2 s ready not = (ready, refl)
table_ready WaitTraining t2 s ready not = (ready, refl)
table_ready WaitTraining (trains octets) s ready not =
    either (Ready s) (is_good_training octets s.params) _ _ (λ e. (ready, refl)) (λ e. (ready, refl))
table_ready WaitTraining (listens (dcs params)) s ready not =
    either (Ready s) (allowed s.caps params) _ _ (λ e. absurd (not e)) (λ e. (ready, refl))
table_ready Message (listens (dcs params)) s ready not =
    either (Ready s) (allowed s.caps params) _ _ (λ e. absurd (not e)) (λ e. (ready, refl))
table_ready Message (listens (fcd number octets)) s ready not =
    either (Ready s) (within_frame_size s.params octets) _ _ (λ few. (refl, refl)) (λ long. (ready, refl))
table_ready Message (listens (pps ends page block last)) s ready not = pps_ready s ends (record { page = page; block = block }) last ready
table_ready Message (listens rr) s ready not = rr_ready s ready
table_ready PhaseB (listens (pps ends page block last)) s ready not = repeated_ready s (record { page = page; block = block }) ready
table_ready WaitTraining (listens (pps ends page block last)) s ready not = repeated_ready s (record { page = page; block = block }) ready
table_ready PhaseB (listens rr) s ready not = rr_ready s ready
table_ready WaitTraining (listens rr) s ready not = rr_ready s ready
table_ready _ t1 s ready not = (ready, refl)
table_ready _ (listens dcn) s ready not = (ready, refl)
table_ready _ (is_busy busy) s ready not = (ready, refl)
table_ready _ input s ready not = (ready, refl)

step_ready : (s : Answerer) (input : AnswererInput) → s.ready ≡ true → ¬ IsAllowedDcs s.caps input → Ready s (answerer_step s input)
step_ready s input ready not = at s.ending
  where
    at : (ending : Option End) → Ready s (unless_answerer_ended ending input s)
    at (Some why) = (ready, refl)
    at None = table_ready s.state input s ready not

pub stays_ready : StaysReady
stays_ready s [] ready none = ready
stays_ready s (input ∷ inputs) ready none =
    let next : Ready s (answerer_step s input) = step_ready s input ready none.0 in
    stays_ready (answerer_step s input).next inputs next.0
    (subst (λ caps. Each (λ input. ¬ IsAllowedDcs caps input) inputs) (sym next.1) none.1)

pub kept_is_ready : KeptIsReady
kept_is_ready s number octets going message few = rw (going, message, few) refl
