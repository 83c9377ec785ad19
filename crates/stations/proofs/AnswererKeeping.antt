-- What a step of an answerer may change, and where.
use Rattle.std.proofs.Common.{◌≡◌, ◌≢◌, ℕ, suc, ◌+◌, ◌++◌, inl, inr, Bool, true, false, cond, Option, Some, None, List, [], ◌∷◌, refl, sym}
use Rattle.std.proofs.Common.{◌∙◌, arith, zero, ◌<◌}
use Rattle.std.specs.Prelude.{slice_set, Result, Ok, Err}
use Rattle.std.proofs.lemmas.Bool.{and_from, false_from_ne_true}
use Rattle.raster.specs.Pages.{PagePixels}
use Rattle.signals.specs.Agreement.{allowed}
use Rattle.signals.specs.Signals.{dcs, fcd, pps, rr, dcn}
use Rattle.signals.specs.declared.params.Params.{Params}
use Rattle.signals.specs.declared.signal.PageEnd.{PageEnd}
use Rattle.signals.specs.declared.signal.PageEnd.TheVariants.{Null, Mps, Eom, Eop}
use Rattle.partial_page.specs.Store.{has_frame, joined_frames, no_frames}
use Rattle.stations.specs.Laws.{ReadsByGrammar}
use Rattle.stations.specs.Layers.{IsPageOf, page_read, within_page_limit, is_good_training}
use Rattle.partial_page.specs.Assembling.{within_frame_size}
use Rattle.stations.specs.Inputs.{AnswererInput, listens, trains, t2, t1, is_busy}
use Rattle.stations.specs.AnswererStep.{Answerer, AnswererAnswer, answerer_table, unless_answerer_ended, answerer_silent}
use Rattle.partial_page.specs.Assembling.{Frames, all_there}
use Rattle.stations.specs.AnswererStep.{StepsOrRefuses, answerer_step}
use Rattle.partial_page.specs.Assembling.{is_whole}
use Rattle.stations.specs.AnswererStep.{is_repeated, takes_block, stores, answers_pps, accepts, confirms}
use Rattle.partial_page.specs.Assembling.{last_counted}
use Rattle.stations.specs.AnswererKeeping.{AnswererKeeps, AnswerersKeep, MeetsBlock, MeetsDcs, MeetsFrame, TakesBlock}
use Rattle.partial_page.specs.Assembling.{IsTooLong}
use Rattle.signals.specs.declared.mark.Mark.{Mark}
use Rattle.stations.specs.declared.turn.AnswererState.{AnswererState}
use Rattle.stations.specs.declared.turn.AnswererState.TheVariants.{PhaseB, WaitTraining, Message}
use Rattle.stations.specs.declared.turn.End.{End}
use Rattle.stations.specs.declared.turn.Turn.{Turn}
use Rattle.stations.proofs.AnswerersEnds.{each_there, is_repeated_by}
use Rattle.stations.proofs.AnswerersTurns.{too_long}

either : {A : Type 0} (P : A → Type 0) (b : Bool) (x y : A) → (b ≡ true → P x) → (b ≡ false → P y) → P (cond b x y)
either P true x y f g = f refl
either P false x y f g = g refl

-- an answer keeps
abbrev Kept : Answerer → AnswererInput → AnswererAnswer → Type 0
Kept s input answer = AnswererKeeps s input answer.next

all_kept : (s : Answerer) (input : AnswererInput) (next : Answerer) → next.caps ≡ s.caps → next.busy ≡ s.busy → next.params ≡ s.params →
    next.accepted ≡ s.accepted → next.octets ≡ s.octets → next.pages ≡ s.pages → next.frames ≡ s.frames → next.asked ≡ s.asked →
    next.ready ≡ s.ready → AnswererKeeps s input next
all_kept s input next caps busy params accepted octets pages frames asked ready = record {
  caps = caps;
  busy = λ n. busy;
  params = λ n. params;
  block = inl (accepted, octets, pages);
  frames = inl frames;
  asked = inl asked;
  ready = inl ready;
}

either_kept : (s : Answerer) (input : AnswererInput) (b : Bool) →
    Kept s input (cond b (record { next = s; turn = confirms s }) (answerer_silent s))
either_kept s input b =
    either (Kept s input) b _ _ (λ e. all_kept s input s refl refl refl refl refl refl refl refl refl)
    (λ e. all_kept s input s refl refl refl refl refl refl refl refl refl)

-- what is known of the PPS of a new block that is all there
record New (s : Answerer) (ends : PageEnd) (mark : Mark) (last : ℕ) (octets : List ℕ) : Type 0 where
  in_message : s.state ≡ Message
  is_new : is_repeated s.accepted mark ≡ false
  there : all_there s.frames (last_counted s.asked mark last) ≡ true
  octets_are : octets ≡ s.octets ++ joined_frames s.frames (last_counted s.asked mark last + 1)

-- such a PPS comes
met : (s : Answerer) (ends : PageEnd) (mark : Mark) (last : ℕ) → s.state ≡ Message → is_repeated s.accepted mark ≡ false →
    MeetsBlock s (listens (pps ends mark.page mark.block last)) ends mark (last_counted s.asked mark last)
met s ends mark last in_message new = record {
  in_message = in_message;
  last = last;
  heard = refl;
  is_new = λ a. let both : true ≡ false = sym (is_repeated_by s mark.page mark.block a) ∙ new in cc;
  counted_is = refl;
}

took : (s : Answerer) (ends : PageEnd) (mark : Mark) (last : ℕ) (octets now : List ℕ) (pages : List PagePixels) →
    New s ends mark last octets →
    (ends ≡ Null → (now ≡ octets) × (pages ≡ s.pages)) →
    (ends ≢ Null → (now ≡ []) × ((stored : PagePixels) × IsPageOf s.params octets stored × (pages ≡ s.pages ++ stored ∷ []))) →
    Kept s (listens (pps ends mark.page mark.block last)) (accepts s ends mark now pages)
unfolding all_there
took s ends mark last octets now pages h inside stores =
    let counted = last_counted s.asked mark last in
    let next : Answerer = (accepts s ends mark now pages).next in
    let takes : TakesBlock s (listens (pps ends mark.page mark.block last)) next =
    record {
      ends = ends;
      mark = mark;
      counted = counted;
      meets = met s ends mark last h.in_message h.is_new;
      all_there = λ number most. each_there s.frames (suc counted) number h.there (omega (arith, most));
      accepted = refl;
      forgets = refl;
      clears = refl;
      octets = octets;
      octets_are = h.octets_are;
      inside = inside;
      stores = stores;
    } in
    record {
      caps = refl;
      busy = λ n. refl;
      params = λ n. refl;
      block = inr takes;
      frames = inr (inr (inr takes));
      asked = inr (inr (inr takes));
      ready = inl refl;
    }

stores_kept : ReadsByGrammar → (s : Answerer) (ends : PageEnd) (mark : Mark) (last : ℕ) (octets : List ℕ) (read : Option PagePixels) →
    ends ≢ Null →
    New s ends mark last octets → page_read s.params octets ≡ read →
    Kept s (listens (pps ends mark.page mark.block last)) (stores s ends mark read)
stores_kept law s ends mark last octets None other h e = all_kept s _ _ refl refl refl refl refl refl refl refl refl
stores_kept law s ends mark last octets (Some stored) other h e =
    took s ends mark last octets [] (s.pages ++ stored ∷ []) h (λ null. absurd (other null))
    (λ n. (refl, (stored, (law s.params octets stored).0 e, refl)))

takes_kept : ReadsByGrammar → (s : Answerer) (ends : PageEnd) (mark : Mark) (last : ℕ) (octets : List ℕ) → New s ends mark last octets →
    Kept s (listens (pps ends mark.page mark.block last)) (takes_block s ends mark octets)
takes_kept law s Null mark last octets h =
    either (Kept s (listens (pps Null mark.page mark.block last))) (within_page_limit octets) _ _
    (λ e. took s Null mark last octets octets s.pages h (λ n. (refl, refl)) (λ n. absurd (n refl)))
    (λ e. all_kept s _ _ refl refl refl refl refl refl refl refl refl)
takes_kept law s Mps mark last octets h = stores_kept law s Mps mark last octets _ (λ e. cc) h refl
takes_kept law s Eom mark last octets h = stores_kept law s Eom mark last octets _ (λ e. cc) h refl
takes_kept law s Eop mark last octets h = stores_kept law s Eop mark last octets _ (λ e. cc) h refl

-- a frame is missing, where not all are there
gap : (frames : Frames) (count : ℕ) → is_whole frames count ≡ false → (number : ℕ) × (number < count) × (has_frame frames number ≡ false)
gap frames zero e = cc
gap frames (suc count) e = at (gap frames count) (has_frame frames count) refl
  where
    at : (is_whole frames count ≡ false → (number : ℕ) × (number < count) × (has_frame frames number ≡ false)) →
        (b : Bool) → has_frame frames count ≡ b → (number : ℕ) × (number < suc count) × (has_frame frames number ≡ false)
    at before false is = (count, omega arith, is)
    at before true is =
        let fewer : is_whole frames count ≡ false =
        false_from_ne_true (is_whole frames count)
        (λ w. let both : true ≡ false = sym (and_from (is_whole frames count) (has_frame frames count) w is) ∙ e in cc) in
        let h = before fewer in (h.0, omega (arith, h.1), h.2)

pps_kept : ReadsByGrammar → (s : Answerer) (ends : PageEnd) (mark : Mark) (last : ℕ) → s.state ≡ Message →
    Kept s (listens (pps ends mark.page mark.block last)) (answers_pps s ends mark last)
unfolding all_there
pps_kept law s ends mark last is =
    let input : AnswererInput = listens (pps ends mark.page mark.block last) in
    let counted = last_counted s.asked mark last in
    either (Kept s input) (is_repeated s.accepted mark) _ _ (λ r. all_kept s input s refl refl refl refl refl refl refl refl refl)
    (λ r. either (Kept s input) (all_there s.frames counted) _ _
    (λ all. takes_kept law s ends mark last _ (record { in_message = is; is_new = r; there = all; octets_are = refl }))
    (λ missing.
    let h = gap s.frames (suc counted) missing in
    record {
      caps = refl;
      busy = λ n. refl;
      params = λ n. refl;
      block = inl (refl, refl, refl);
      frames = inl refl;
      asked = inr (inl (ends, mark, counted, met s ends mark last is r, (h.0, omega (arith, h.1), h.2)));
      ready = inl refl;
    }))

-- an FCD that is kept is no longer than agreed
short : (params : Params) (octets : List ℕ) → within_frame_size params octets ≡ true → ¬ IsTooLong params octets
short params octets within long = let both : true ≡ false = sym within ∙ too_long params octets long in cc

fcd_kept : (s : Answerer) (number : ℕ) (octets : List ℕ) → s.state ≡ Message → within_frame_size s.params octets ≡ true →
    AnswererKeeps s (listens (fcd number octets)) (record s { frames = slice_set s.frames number (Some octets); ready = true })
fcd_kept s number octets is within =
    let meets : MeetsFrame s (listens (fcd number octets)) = (is, (number, octets, refl, short s.params octets within)) in
    record {
      caps = refl;
      busy = λ n. refl;
      params = λ n. refl;
      block = inl (refl, refl, refl);
      frames = inr (inl meets);
      asked = inl refl;
      ready = inr (inl meets);
    }

-- a DCS that is allowed in phase B leaves the open frames
first_kept : (s : Answerer) (params : Params) → allowed s.caps params ≡ true →
    AnswererKeeps s (listens (dcs params)) (record s { state = WaitTraining; params = params; ready = false })
first_kept s params e = record {
  caps = refl;
  busy = λ n. refl;
  params = λ n. absurd (n (params, refl, e));
  block = inl (refl, refl, refl);
  frames = inl refl;
  asked = inl refl;
  ready = inr (inr (params, refl, e));
}

-- later it clears them
later_kept : (s : Answerer) (params : Params) → s.state ≢ PhaseB → allowed s.caps params ≡ true →
    AnswererKeeps s (listens (dcs params))
    (record s { state = WaitTraining; params = params; frames = no_frames; ready = false; asked = None })
later_kept s params past e =
    let meets : MeetsDcs s (listens (dcs params)) = (params, refl, e) in
    record {
      caps = refl;
      busy = λ n. refl;
      params = λ n. absurd (n meets);
      block = inl (refl, refl, refl);
      frames = inr (inr (inl (meets, past)));
      asked = inr (inr (inl (meets, past)));
      ready = inr (inr meets);
    }

table_kept : ReadsByGrammar → (state : AnswererState) (input : AnswererInput) (s : Answerer) → s.state ≡ state →
    Kept s input (answerer_table state input s)
table_kept law PhaseB (listens (dcs params)) s is =
    either (Kept s (listens (dcs params))) (allowed s.caps params) _ _
    (λ e. first_kept s params e)
    (λ e. all_kept s _ s refl refl refl refl refl refl refl refl refl)
table_kept law WaitTraining (listens (dcs params)) s is =
    either (Kept s (listens (dcs params))) (allowed s.caps params) _ _
    (λ e. later_kept s params (λ b. let no : WaitTraining ≡ PhaseB = sym is ∙ b in cc) e)
    (λ e. all_kept s _ s refl refl refl refl refl refl refl refl refl)
table_kept law Message (listens (dcs params)) s is =
    either (Kept s (listens (dcs params))) (allowed s.caps params) _ _
    (λ e. later_kept s params (λ b. let no : Message ≡ PhaseB = sym is ∙ b in cc) e)
    (λ e. all_kept s _ s refl refl refl refl refl refl refl refl refl)
table_kept law PhaseB t2 s is = all_kept s t2 _ refl refl refl refl refl refl refl refl refl
table_kept law WaitTraining t2 s is = all_kept s t2 _ refl refl refl refl refl refl refl refl refl
table_kept law WaitTraining (trains octets) s is =
    either (Kept s (trains octets)) (is_good_training octets s.params) _ _
    (λ e. all_kept s _ _ refl refl refl refl refl refl refl refl refl)
    (λ e. all_kept s _ _ refl refl refl refl refl refl refl refl refl)
table_kept law Message (listens (fcd number octets)) s is =
    either (Kept s (listens (fcd number octets))) (within_frame_size s.params octets) _ _
    (λ e. fcd_kept s number octets is e) (λ e. all_kept s _ s refl refl refl refl refl refl refl refl refl)
table_kept law Message (listens (pps ends page block last)) s is = pps_kept law s ends (record { page = page; block = block }) last is
table_kept law Message (listens rr) s is = either_kept s _ _
table_kept law PhaseB (listens (pps ends page block last)) s is = either_kept s _ _
table_kept law WaitTraining (listens (pps ends page block last)) s is = either_kept s _ _
table_kept law PhaseB (listens rr) s is = either_kept s _ _
table_kept law WaitTraining (listens rr) s is = either_kept s _ _
table_kept law _ t1 s is = all_kept s t1 _ refl refl refl refl refl refl refl refl refl
table_kept law _ (listens dcn) s is = all_kept s (listens dcn) _ refl refl refl refl refl refl refl refl refl
table_kept law _ (is_busy b) s is =
    record {
      caps = refl;
      busy = λ n. absurd (n b refl);
      params = λ n. refl;
      block = inl (refl, refl, refl);
      frames = inl refl;
      asked = inl refl;
      ready = inl refl;
    }
table_kept law _ input s is = all_kept s input s refl refl refl refl refl refl refl refl refl

ended_kept : ReadsByGrammar → (s : Answerer) (input : AnswererInput) (ending : Option End) →
    Kept s input (unless_answerer_ended ending input s)
ended_kept law s input (Some why) = all_kept s input s refl refl refl refl refl refl refl refl refl
ended_kept law s input None = table_kept law s.state input s refl

pub answerers_keep : ReadsByGrammar → AnswerersKeep
answerers_keep law s input = ended_kept law s input s.ending

pub keeps_by :
    {E : Type 0} → AnswerersKeep → (old new : Answerer) (input : AnswererInput) (result : Result Turn E) →
    StepsOrRefuses old new result (answerer_step old input) → AnswererKeeps old input new
keeps_by law old new input (Ok turn) h = rw h.0 (law old input)
keeps_by law old new input (Err refused) h = rw h (all_kept old input old refl refl refl refl refl refl refl refl refl)
