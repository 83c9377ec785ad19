-- What an answerer that runs takes, and which last frame of a block counts.
use Rattle.std.proofs.Common.{◌≡◌, ◌≢◌, ℕ, suc, ◌+◌, ◌≤◌, ◌<◌, ◌++◌, inl, inr, Bool, true, false, cond, Option, Some, None, List, refl}
use Rattle.std.proofs.Common.{sym}
use Rattle.std.proofs.Common.{subst, ap, ◌∙◌, arith, length}
use Rattle.std.specs.Prelude.{nat_eq, nat_le, nat_lt, ◌⊎◌, ◌↔◌, not, ◌||◌}
use Rattle.std.proofs.lemmas.Bool.{and_from, and_parts, eq-eqb, eqb-true, false_from_ne_true, leb-false, lt-ltb, ltb-true}
use Rattle.raster.specs.Pages.{PagePixels}
use Rattle.signals.specs.Agreement.{allowed}
use Rattle.signals.specs.Signals.{dcs, fcd, pps}
use Rattle.signals.specs.declared.params.Params.{Params}
use Rattle.signals.specs.declared.signal.PageEnd.{PageEnd}
use Rattle.signals.specs.declared.signal.PageEnd.TheVariants.{Null, Mps, Eom, Eop}
use Rattle.partial_page.specs.Frames.{frame_size}
use Rattle.partial_page.proofs.StoreLemmas.{is_kept}
use Rattle.partial_page.specs.Store.{IsKept, has_frame, joined_frames, no_frames}
use Rattle.stations.specs.Laws.{ReadsByGrammar}
use Rattle.stations.specs.Layers.{page_read, within_page_limit}
use Rattle.partial_page.specs.Assembling.{within_frame_size}
use Rattle.stations.specs.Inputs.{AnswererInput, listens}
use Rattle.stations.specs.AnswererStep.{Answerer, AnswererAnswer, answerer_table, answerer_step, is_repeated}
use Rattle.partial_page.specs.Assembling.{Frames, is_whole, all_there}
use Rattle.stations.specs.AnswererStep.{judges_block, stores, takes_block, confirms}
use Rattle.partial_page.specs.Assembling.{last_counted, ppr_map}
use Rattle.signals.specs.Marks.{same_mark}
use Rattle.stations.specs.AnswererKeeping.{AnswerersTake, CountsLast, MarksMissing, MeetsBlock}
use Rattle.stations.specs.EndsMean.{IsBad}
use Rattle.partial_page.specs.Assembling.{IsTooLong}
use Rattle.signals.specs.declared.mark.Mark.{Mark}
use Rattle.stations.specs.declared.turn.AnswererState.{AnswererState}
use Rattle.stations.specs.declared.turn.AnswererState.TheVariants.{PhaseB, WaitTraining, Message}
use Rattle.stations.specs.declared.turn.Turn.TheVariants.{Ppr as SendPpr}
use Rattle.stations.proofs.AnswerersEnds.{each_there, no_page, repeated_is, table_step, there_by_each, within_not}
use Rattle.stations.proofs.PprMaps.{bit_in_map, length_map}

short_enough : (params : Params) (octets : List ℕ) → (¬ IsTooLong params octets) → within_frame_size params octets ≡ true
unfolding within_frame_size
short_enough params octets short = at params.small refl (nat_le (length octets) (frame_size params.small)) refl
  where
    at : (small : Bool) → params.small ≡ small → (b : Bool) → nat_le (length octets) (frame_size params.small) ≡ b → b ≡ true
    at small is true e = refl
    at true is false e =
        absurd (short (inl (is, leb-false (length octets) 64 (subst (λ s. nat_le (length octets) (frame_size s) ≡ false) is e))))
    at false is false e =
        absurd (short (inr (is, leb-false (length octets) 256 (subst (λ s. nat_le (length octets) (frame_size s) ≡ false) is e))))

dcs_taken : (s : Answerer) (state : AnswererState) (params : Params) → allowed s.caps params ≡ true →
    let next : Answerer = (answerer_table state (listens (dcs params)) s).next in
    (next.params ≡ params) × (next.state ≡ WaitTraining) × (next.ready ≡ false)
dcs_taken s PhaseB params e = rw e (refl, refl, refl)
dcs_taken s WaitTraining params e = rw e (refl, refl, refl)
dcs_taken s Message params e = rw e (refl, refl, refl)

dcs_clears : (s : Answerer) (state : AnswererState) (params : Params) → allowed s.caps params ≡ true → state ≢ PhaseB →
    let next : Answerer = (answerer_table state (listens (dcs params)) s).next in
    (next.frames ≡ no_frames) × (next.asked ≡ None)
dcs_clears s PhaseB params e past = absurd (past refl)
dcs_clears s WaitTraining params e past = rw e (refl, refl)
dcs_clears s Message params e past = rw e (refl, refl)

frame_taken : (s : Answerer) (number : ℕ) (octets : List ℕ) → (¬ IsTooLong s.params octets) → number < length s.frames →
    let next : Answerer = (answerer_table Message (listens (fcd number octets)) s).next in
    IsKept s.frames number octets next.frames × (next.ready ≡ true)
frame_taken s number octets short within =
    rw (short_enough s.params octets short) (is_kept s.frames number octets within, refl)

-- the answer to the PPS of a new block is that of the frames counted
judged : (s : Answerer) (ends : PageEnd) (mark : Mark) (counted : ℕ) (input : AnswererInput) → s.ending ≡ None →
    MeetsBlock s input ends mark counted → answerer_step s input ≡ judges_block s ends mark counted
judged s ends mark counted input runs h =
    let new : is_repeated s.accepted mark ≡ false =
    false_from_ne_true (is_repeated s.accepted mark) (λ e. h.is_new (repeated_is s mark.page mark.block s.accepted refl e)) in
    table_step s Message input (listens (pps ends mark.page mark.block h.last)) runs h.in_message h.heard ∙
    (ap (λ b. cond b (record { next = s; turn = confirms s }) (judges_block s ends mark (last_counted s.asked mark h.last))) new ∙
    ap (λ n. judges_block s ends mark n) (sym h.counted_is))

not_whole : (frames : Frames) (last number : ℕ) → number ≤ last → has_frame frames number ≡ false → all_there frames last ≡ false
unfolding all_there
not_whole frames last number most e =
    false_from_ne_true (is_whole frames (suc last))
    (λ w. let both : true ≡ false = sym (each_there frames (suc last) number w (omega (arith, most))) ∙ e in cc)

or_no : (b : Bool) → (b || false) ≡ b
or_no true = refl
or_no false = refl

or_yes : (b : Bool) → (b || true) ≡ true
or_yes true = refl
or_yes false = refl

-- a bit of the map is 1 exactly so
marked_so : (counted n : ℕ) (there : Bool) → ((nat_lt counted n || not there) ≡ true) ↔ ((counted < n) ⊎ (there ≡ false))
marked_so counted n true = (λ e. inl (ltb-true counted n (sym (or_no (nat_lt counted n)) ∙ e)), by)
  where
    by : (counted < n) ⊎ (true ≡ false) → (nat_lt counted n || false) ≡ true
    by (inl less) = or_no (nat_lt counted n) ∙ lt-ltb counted n less
    by (inr never) = cc
marked_so counted n false = (λ e. inr refl, λ h. or_yes (nat_lt counted n))

gap_marked : (s : Answerer) (counted : ℕ) → MarksMissing s counted (SendPpr (ppr_map s.frames counted))
gap_marked s counted = record {
  map = ppr_map s.frames counted;
  turn_is = refl;
  size = length_map s.frames counted;
  bits = λ n few.
      let tells = marked_so counted n (has_frame s.frames n) in
      (λ e. tells.0 (sym (bit_in_map s.frames counted n few) ∙ e), λ h. bit_in_map s.frames counted n few ∙ tells.1 h);
}

gap_taken : (s : Answerer) (ends : PageEnd) (mark : Mark) (counted : ℕ) → all_there s.frames counted ≡ false →
    ((judges_block s ends mark counted).next.asked ≡ Some (record { mark = mark; last = counted })) ×
    MarksMissing s counted (judges_block s ends mark counted).turn
gap_taken s ends mark counted e = rw e (refl, gap_marked s counted)

-- octets that aren't bad are within the limit, and at a page's end a page
good_read : ReadsByGrammar → (s : Answerer) (ends : PageEnd) (octets : List ℕ) → ends ≢ Null → (¬ IsBad s ends octets) →
    (read : Option PagePixels) → page_read s.params octets ≡ read → (page : PagePixels) × (read ≡ Some page)
good_read law s ends octets end good (Some page) e = (page, refl)
good_read law s ends octets end good None e = absurd (good (inr (end, no_page law s octets e)))

-- a block is accepted, and the call goes on
abbrev Accepted : PageEnd → Mark → AnswererAnswer → Type 0
Accepted ends mark answer = (answer.next.accepted ≡ Some (record { mark = mark; ends = ends })) × (answer.next.ending ≡ None)

stores_taken : ReadsByGrammar → (s : Answerer) (ends : PageEnd) (mark : Mark) (octets : List ℕ) → s.ending ≡ None → ends ≢ Null →
    (¬ IsBad s ends octets) → Accepted ends mark (stores s ends mark (page_read s.params octets))
stores_taken law s ends mark octets runs end good =
    let read = good_read law s ends octets end good _ refl in rw read.1 (refl, runs)

block_taken : ReadsByGrammar → (s : Answerer) (ends : PageEnd) (mark : Mark) (octets : List ℕ) → s.ending ≡ None →
    (¬ IsBad s ends octets) → Accepted ends mark (takes_block s ends mark octets)
block_taken law s Null mark octets runs good =
    let within : within_page_limit octets ≡ true = at (within_page_limit octets) refl in rw within (refl, runs)
  where
    at : (b : Bool) → within_page_limit octets ≡ b → b ≡ true
    at true e = refl
    at false e = absurd (good (inl (within_not octets e)))
block_taken law s Mps mark octets runs good = stores_taken law s Mps mark octets runs (λ e. cc) good
block_taken law s Eom mark octets runs good = stores_taken law s Eom mark octets runs (λ e. cc) good
block_taken law s Eop mark octets runs good = stores_taken law s Eop mark octets runs (λ e. cc) good

whole_taken : ReadsByGrammar → (s : Answerer) (ends : PageEnd) (mark : Mark) (counted : ℕ) → s.ending ≡ None →
    all_there s.frames counted ≡ true → (¬ IsBad s ends (s.octets ++ joined_frames s.frames (counted + 1))) →
    Accepted ends mark (judges_block s ends mark counted)
whole_taken law s ends mark counted runs all good = rw all (block_taken law s ends mark _ runs good)

there : (frames : Frames) (last : ℕ) → ((number : ℕ) → number ≤ last → has_frame frames number ≡ true) → all_there frames last ≡ true
unfolding all_there
there frames last each = there_by_each frames (suc last) (λ n less. each n (omega (arith, less)))

pub answerers_take : ReadsByGrammar → AnswerersTake
answerers_take law s input runs = record {
  dcs = λ params heard e.
      subst (λ (a : AnswererAnswer). (a.next.params ≡ params) × (a.next.state ≡ WaitTraining) × (a.next.ready ≡ false))
      (sym (table_step s s.state input (listens (dcs params)) runs refl heard)) (dcs_taken s s.state params e);
  clears = λ h past.
      subst (λ (a : AnswererAnswer). (a.next.frames ≡ no_frames) × (a.next.asked ≡ None))
      (sym (table_step s s.state input (listens (dcs h.0)) runs refl h.1)) (dcs_clears s s.state h.0 h.2 past);
  frame = λ number octets is heard short within.
      subst (λ (a : AnswererAnswer). IsKept s.frames number octets a.next.frames × (a.next.ready ≡ true))
      (sym (table_step s Message input (listens (fcd number octets)) runs is heard)) (frame_taken s number octets short within);
  gap = λ ends mark counted number h most missing.
      subst
      (λ (a : AnswererAnswer). (a.next.asked ≡ Some (record { mark = mark; last = counted })) × MarksMissing s counted a.turn)
      (sym (judged s ends mark counted input runs h)) (gap_taken s ends mark counted (not_whole s.frames counted number most missing));
  block = λ ends mark counted h each good.
      subst (Accepted ends mark) (sym (judged s ends mark counted input runs h))
      (whole_taken law s ends mark counted runs (there s.frames counted each) good);
}

same_itself : (mark : Mark) → same_mark mark mark ≡ true
same_itself mark =
    and_from (nat_eq mark.page mark.page) (nat_eq mark.block mark.block) (eq-eqb mark.page mark.page refl)
    (eq-eqb mark.block mark.block refl)

pub counts_last : CountsLast
counts_last = record {
  unasked = λ mark last. refl;
  other = λ asked mark last differs.
      let e : same_mark asked.mark mark ≡ false =
      false_from_ne_true (same_mark asked.mark mark)
      (λ same.
      let parts = and_parts (nat_eq asked.mark.page mark.page) (nat_eq asked.mark.block mark.block) same in
      let page = eqb-true asked.mark.page mark.page parts.0 in
      let block = eqb-true asked.mark.block mark.block parts.1 in
      differs (rw (page, block) refl)) in
      rw e refl;
  smaller = λ asked last less. rw (same_itself asked.mark) (omega (arith, less));
  greater = λ asked last more. rw (same_itself asked.mark) (omega (arith, more));
}
