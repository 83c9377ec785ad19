-- Each end of an answerer comes from its cause.
use Rattle.std.proofs.Common.{◌≡◌, ◌≢◌, ℕ, zero, suc, ◌<◌, ◌+◌, ◌++◌, inl, inr, Bool, true, false, cond, ◌&&◌, Option, Some, None, List}
use Rattle.std.proofs.Common.{refl, sym}
use Rattle.std.proofs.Common.{subst, ap, ◌∙◌, arith, length}
use Rattle.std.specs.Prelude.{nat_eq, nat_le, is_some}
use Rattle.std.proofs.lemmas.Bool.{and_parts, and_from, cases_eq, eq-eqb, eqb-true, leb-true, leb-false, false_from_ne_true}
use Rattle.raster.specs.Pages.{PagePixels}
use Rattle.signals.specs.Agreement.{allowed}
use Rattle.signals.specs.Signals.{dcs, fcd, pps, rr, dcn}
use Rattle.signals.specs.declared.signal.PageEnd.{PageEnd}
use Rattle.signals.specs.declared.signal.PageEnd.TheVariants.{Null, Mps, Eom, Eop}
use Rattle.partial_page.specs.Store.{has_frame, joined_frames}
use Rattle.stations.specs.Laws.{ReadsByGrammar}
use Rattle.stations.specs.Layers.{IsPageOf, page_read, within_page_limit, is_good_training}
use Rattle.partial_page.specs.Assembling.{within_frame_size}
use Rattle.stations.specs.Inputs.{AnswererInput, listens, trains, t2, t1, is_busy}
use Rattle.stations.specs.AnswererStep.{Answerer, AnswererAnswer, answerer_table, unless_answerer_ended, answerer_step}
use Rattle.partial_page.specs.Assembling.{Frames, is_whole}
use Rattle.stations.specs.AnswererStep.{is_clear, is_repeated, takes_block, stores, judges_block, answers_pps}
use Rattle.partial_page.specs.Assembling.{all_there, last_counted}
use Rattle.stations.specs.AnswererStep.{end_after, leaves, confirms}
use Rattle.stations.specs.EndsMean.{IsAccepted, IsBad, TakesBadBlock, AnswererEndsBy, AnswerersEndsMean}
use Rattle.signals.specs.declared.mark.Mark.{Mark}
use Rattle.stations.specs.declared.mark.Accepted.{Accepted}
use Rattle.stations.specs.declared.turn.AnswererState.{AnswererState}
use Rattle.stations.specs.declared.turn.AnswererState.TheVariants.{PhaseB, WaitTraining, Message}
use Rattle.stations.specs.declared.turn.End.{End}
use Rattle.stations.specs.declared.turn.End.TheVariants.{Normal, NoAnswer, NotCompatible, Training, NoReply, Unreadable, StillBusy}
use Rattle.stations.specs.declared.turn.End.TheVariants.{PeerLeft, BadPage, PageTooLong}

either : {A : Type 0} (P : A → Type 0) (b : Bool) (x y : A) → (b ≡ true → P x) → (b ≡ false → P y) → P (cond b x y)
either P true x y f g = f refl
either P false x y f g = g refl

-- an answer ends for a reason, by its cause
abbrev Caused : Answerer → AnswererInput → AnswererAnswer → Type 0
Caused s input answer = (why : End) → answer.next.ending ≡ Some why → AnswererEndsBy s input why

leads : (s : Answerer) (input : AnswererInput) (end why : End) → AnswererEndsBy s input end → Some end ≡ Some why →
    AnswererEndsBy s input why
leads s input end why h e = let same : end ≡ why = cc in subst (λ w. AnswererEndsBy s input w) same h

runs_on : (s : Answerer) (input : AnswererInput) (why : End) → s.ending ≡ None → s.ending ≡ Some why → AnswererEndsBy s input why
runs_on s input why runs e = let not : None ≡ Some why = sym runs ∙ e in cc

-- the frames up to a number are there, by each
pub each_there : (frames : Frames) (count number : ℕ) → is_whole frames count ≡ true → number < count → has_frame frames number ≡ true
each_there frames zero number e less = absurd (omega (arith, less))
each_there frames (suc count) number e less =
    let parts = and_parts (is_whole frames count) (has_frame frames count) e in
    elim (cases_eq number count) [
      | inl is ↦ subst (λ n. has_frame frames n ≡ true) (sym is) parts.1
      | inr other ↦ each_there frames count number parts.0 (omega (arith, less, other))
    ]

pub there_by_each : (frames : Frames) (count : ℕ) → ((number : ℕ) → number < count → has_frame frames number ≡ true) →
    is_whole frames count ≡ true
there_by_each frames zero each = refl
there_by_each frames (suc count) each =
    and_from (is_whole frames count) (has_frame frames count) (there_by_each frames count (λ n less. each n (omega (arith, less))))
    (each count (omega arith))

-- a mark is the accepted one, by its test
pub repeated_is : (s : Answerer) (page block : ℕ) (accepted : Option Accepted) → s.accepted ≡ accepted →
    is_repeated accepted (record { page = page; block = block }) ≡ true → IsAccepted s page block
repeated_is s page block None is e = cc
repeated_is s page block (Some accepted) is e =
    let parts = and_parts (nat_eq accepted.mark.page page) (nat_eq accepted.mark.block block) e in
    (accepted, is, eqb-true accepted.mark.page page parts.0, eqb-true accepted.mark.block block parts.1)

pub is_repeated_by : (s : Answerer) (page block : ℕ) → IsAccepted s page block →
    is_repeated s.accepted (record { page = page; block = block }) ≡ true
is_repeated_by s page block h =
    ap (λ a. is_repeated a (record { page = page; block = block })) h.1
    ∙ and_from (nat_eq h.0.mark.page page) (nat_eq h.0.mark.block block) (eq-eqb h.0.mark.page page h.2) (eq-eqb h.0.mark.block block h.3)

pub within_not : (octets : List ℕ) → within_page_limit octets ≡ false → 8388608 < length octets
unfolding within_page_limit
within_not octets e = leb-false (length octets) 8388608 e

not_within : (octets : List ℕ) → 8388608 < length octets → within_page_limit octets ≡ false
unfolding within_page_limit
not_within octets long = false_from_ne_true (nat_le (length octets) 8388608) (λ e. omega (arith, leb-true (length octets) 8388608 e, long))

pub no_page : ReadsByGrammar → (s : Answerer) (octets : List ℕ) → page_read s.params octets ≡ None → (page : PagePixels) →
    ¬ IsPageOf s.params octets page
no_page law s octets none page is = let e : None ≡ Some page = sym none ∙ (law s.params octets page).1 is in cc

none_read : ReadsByGrammar → (s : Answerer) (octets : List ℕ) (read : Option PagePixels) → page_read s.params octets ≡ read →
    ((page : PagePixels) → ¬ IsPageOf s.params octets page) → page_read s.params octets ≡ None
none_read law s octets None e none = e
none_read law s octets (Some page) e none = absurd (none page ((law s.params octets page).0 e))

-- octets too many are no page's
too_many : (s : Answerer) (octets : List ℕ) → 8388608 < length octets → (page : PagePixels) → ¬ IsPageOf s.params octets page
too_many s octets long page is = omega (arith, is.few, long)

-- what a block that is all there ends
abbrev Blocked : Answerer → PageEnd → List ℕ → AnswererAnswer → Type 0
Blocked s ends octets answer = (why : End) → answer.next.ending ≡ Some why → (why ≡ BadPage) × IsBad s ends octets

stored_cause : ReadsByGrammar → (s : Answerer) (ends : PageEnd) (mark : Mark) (octets : List ℕ) (read : Option PagePixels) →
    s.ending ≡ None → ends ≢ Null → page_read s.params octets ≡ read → Blocked s ends octets (stores s ends mark read)
stored_cause law s ends mark octets None runs other e = λ why w.
    let same : BadPage ≡ why = cc in (sym same, inr (other, no_page law s octets e))
stored_cause law s ends mark octets (Some page) runs other e = λ why w. let not : None ≡ Some why = sym runs ∙ w in cc

block_cause : ReadsByGrammar → (s : Answerer) (ends : PageEnd) (mark : Mark) (octets : List ℕ) → s.ending ≡ None →
    Blocked s ends octets (takes_block s ends mark octets)
block_cause law s Null mark octets runs =
    either (Blocked s Null octets) (within_page_limit octets) _ _ (λ e why w. let not : None ≡ Some why = sym runs ∙ w in cc)
    (λ e why w. let same : BadPage ≡ why = cc in (sym same, inl (within_not octets e)))
block_cause law s Mps mark octets runs = stored_cause law s Mps mark octets _ runs (λ e. cc) refl
block_cause law s Eom mark octets runs = stored_cause law s Eom mark octets _ runs (λ e. cc) refl
block_cause law s Eop mark octets runs = stored_cause law s Eop mark octets _ runs (λ e. cc) refl

pps_cause : ReadsByGrammar → (s : Answerer) (ends : PageEnd) (page block last : ℕ) → s.state ≡ Message → s.ending ≡ None →
    Caused s (listens (pps ends page block last)) (answers_pps s ends (record { page = page; block = block }) last)
unfolding all_there
pps_cause law s ends page block last is runs =
    let mark : Mark = record { page = page; block = block } in
    let counted = last_counted s.asked mark last in
    let input : AnswererInput = listens (pps ends page block last) in
    either (Caused s input) (is_repeated s.accepted mark) _ _ (λ r why. runs_on s input why runs)
    (λ r. either (Caused s input) (all_there s.frames counted) _ _
    (λ all why e.
    let h = block_cause law s ends mark (s.octets ++ joined_frames s.frames (counted + 1)) runs why e in
    subst (λ w. AnswererEndsBy s input w) (sym h.0)
    (record {
      in_message = is;
      ends = ends;
      page = page;
      block = block;
      last = last;
      heard = refl;
      is_new = λ a. let both : true ≡ false = sym (is_repeated_by s page block a) ∙ r in cc;
      counted = counted;
      counted_is = refl;
      all_there = λ number most. each_there s.frames (suc counted) number all (omega (arith, most));
      bad = h.1;
    }))
    (λ missing why. runs_on s input why runs))

left_cause : (s : Answerer) (accepted : Option Accepted) → s.accepted ≡ accepted → (why : End) → Some (leaves accepted) ≡ Some why →
    AnswererEndsBy s (listens dcn) why
left_cause s None is why e =
    leads s (listens dcn) PeerLeft why (refl, λ accepted a. let not : None ≡ Some accepted = sym is ∙ a in cc) e
left_cause s (Some accepted) is why e = by_end accepted.ends refl e
  where
    none_last : (ends : PageEnd) → accepted.ends ≡ ends → ends ≢ Eop → (last : Accepted) → s.accepted ≡ Some last → last.ends ≢ Eop
    none_last ends ends_is differs last a eop =
        let some : Some accepted ≡ Some last = sym is ∙ a in
        let same : accepted ≡ last = cc in
        differs (sym ends_is ∙ (ap (λ (x : Accepted). x.ends) same ∙ eop))

    by_end : (ends : PageEnd) → accepted.ends ≡ ends → Some (end_after ends) ≡ Some why → AnswererEndsBy s (listens dcn) why
    by_end Eop ends_is e = leads s (listens dcn) Normal why (refl, (accepted, is, ends_is)) e
    by_end Null ends_is e = leads s (listens dcn) PeerLeft why (refl, none_last Null ends_is (λ e. cc)) e
    by_end Mps ends_is e = leads s (listens dcn) PeerLeft why (refl, none_last Mps ends_is (λ e. cc)) e
    by_end Eom ends_is e = leads s (listens dcn) PeerLeft why (refl, none_last Eom ends_is (λ e. cc)) e

table_cause : ReadsByGrammar → (state : AnswererState) (input : AnswererInput) (s : Answerer) → s.state ≡ state → s.ending ≡ None →
    Caused s input (answerer_table state input s)
table_cause law PhaseB (listens (dcs params)) s is runs =
    either (Caused s (listens (dcs params))) (allowed s.caps params) _ _ (λ e why. runs_on s _ why runs) (λ e why. runs_on s _ why runs)
table_cause law PhaseB t2 s is runs = λ why. runs_on s _ why runs
table_cause law WaitTraining t2 s is runs = λ why. runs_on s _ why runs
table_cause law WaitTraining (trains octets) s is runs =
    either (Caused s (trains octets)) (is_good_training octets s.params) _ _ (λ e why. runs_on s _ why runs) (λ e why. runs_on s _ why runs)
table_cause law WaitTraining (listens (dcs params)) s is runs =
    either (Caused s (listens (dcs params))) (allowed s.caps params) _ _ (λ e why. runs_on s _ why runs) (λ e why. runs_on s _ why runs)
table_cause law Message (listens (dcs params)) s is runs =
    either (Caused s (listens (dcs params))) (allowed s.caps params) _ _ (λ e why. runs_on s _ why runs) (λ e why. runs_on s _ why runs)
table_cause law Message (listens (fcd number octets)) s is runs =
    either (Caused s (listens (fcd number octets))) (within_frame_size s.params octets) _ _ (λ e why. runs_on s _ why runs)
    (λ e why. runs_on s _ why runs)
table_cause law Message (listens (pps ends page block last)) s is runs = pps_cause law s ends page block last is runs
table_cause law Message (listens rr) s is runs =
    either (Caused s (listens rr)) (is_some s.accepted && is_clear s.frames) _ _ (λ e why. runs_on s _ why runs)
    (λ e why. runs_on s _ why runs)
table_cause law PhaseB (listens (pps ends page block last)) s is runs =
    either (Caused s (listens (pps ends page block last))) (is_repeated s.accepted (record { page = page; block = block })) _ _
    (λ e why. runs_on s _ why runs) (λ e why. runs_on s _ why runs)
table_cause law WaitTraining (listens (pps ends page block last)) s is runs =
    either (Caused s (listens (pps ends page block last))) (is_repeated s.accepted (record { page = page; block = block })) _ _
    (λ e why. runs_on s _ why runs) (λ e why. runs_on s _ why runs)
table_cause law PhaseB (listens rr) s is runs =
    either (Caused s (listens rr)) (is_some s.accepted && is_clear s.frames) _ _ (λ e why. runs_on s _ why runs)
    (λ e why. runs_on s _ why runs)
table_cause law WaitTraining (listens rr) s is runs =
    either (Caused s (listens rr)) (is_some s.accepted && is_clear s.frames) _ _ (λ e why. runs_on s _ why runs)
    (λ e why. runs_on s _ why runs)
table_cause law _ t1 s is runs = λ why. leads s t1 NoAnswer why refl
table_cause law _ (listens dcn) s is runs = left_cause s s.accepted refl
table_cause law _ (is_busy busy) s is runs = λ why. runs_on s _ why runs
table_cause law _ input s is runs = λ why. runs_on s input why runs

-- the step of an answerer that runs is its table's
pub table_step :
    (s : Answerer) (state : AnswererState) (input heard : AnswererInput) → s.ending ≡ None → s.state ≡ state → input ≡ heard →
    answerer_step s input ≡ answerer_table state heard s
table_step s state input heard runs is heard_is =
    ap (λ e. unless_answerer_ended e input s) runs ∙
    (ap (λ st. answerer_table st input s) is ∙ ap (λ i. answerer_table state i s) heard_is)

ends_so :
    (s : Answerer) (state : AnswererState) (input heard : AnswererInput) (why : End) → s.ending ≡ None → s.state ≡ state → input ≡ heard →
    (answerer_table state heard s).next.ending ≡ Some why → (answerer_step s input).next.ending ≡ Some why
ends_so s state input heard why runs is heard_is e = ap (λ a. a.next.ending) (table_step s state input heard runs is heard_is) ∙ e

left : (s : Answerer) (state : AnswererState) → (answerer_table state (listens dcn) s).next.ending ≡ Some (leaves s.accepted)
left s PhaseB = refl
left s WaitTraining = refl
left s Message = refl

late : (s : Answerer) (state : AnswererState) → (answerer_table state t1 s).next.ending ≡ Some NoAnswer
late s PhaseB = refl
late s WaitTraining = refl
late s Message = refl

not_last : (s : Answerer) (accepted : Option Accepted) → s.accepted ≡ accepted →
    ((other : Accepted) → s.accepted ≡ Some other → other.ends ≢ Eop) → Some (leaves accepted) ≡ Some PeerLeft
not_last s None is h = refl
not_last s (Some accepted) is h = by_end accepted.ends (h accepted is)
  where
    by_end : (ends : PageEnd) → ends ≢ Eop → Some (end_after ends) ≡ Some PeerLeft
    by_end Null n = refl
    by_end Mps n = refl
    by_end Eom n = refl
    by_end Eop n = absurd (n refl)

unread : ReadsByGrammar → (s : Answerer) (octets : List ℕ) (ends : PageEnd) → IsBad s ends octets → (page : PagePixels) →
    ¬ IsPageOf s.params octets page
unread law s octets ends (inl long) = too_many s octets long
unread law s octets ends (inr none) = none.1

bad_takes : ReadsByGrammar → (s : Answerer) (ends : PageEnd) (mark : Mark) (octets : List ℕ) → IsBad s ends octets →
    (takes_block s ends mark octets).next.ending ≡ Some BadPage
bad_takes law s Null mark octets (inl long) = rw (not_within octets long) refl
bad_takes law s Null mark octets (inr none) = absurd (none.0 refl)
bad_takes law s Mps mark octets bad =
    ap (λ r. (stores s Mps mark r).next.ending) (none_read law s octets _ refl (unread law s octets Mps bad))
bad_takes law s Eom mark octets bad =
    ap (λ r. (stores s Eom mark r).next.ending) (none_read law s octets _ refl (unread law s octets Eom bad))
bad_takes law s Eop mark octets bad =
    ap (λ r. (stores s Eop mark r).next.ending) (none_read law s octets _ refl (unread law s octets Eop bad))

whole_takes : (s : Answerer) (ends : PageEnd) (mark : Mark) (last : ℕ) → all_there s.frames last ≡ true →
    judges_block s ends mark last ≡ takes_block s ends mark (s.octets ++ joined_frames s.frames (last + 1))
whole_takes s ends mark last all = rw all refl

bad_ends : ReadsByGrammar → (s : Answerer) (input : AnswererInput) → s.ending ≡ None → TakesBadBlock s input →
    (answerer_step s input).next.ending ≡ Some BadPage
unfolding all_there
bad_ends law s input runs h =
    let mark : Mark = record { page = h.page; block = h.block } in
    let counted = last_counted s.asked mark h.last in
    let new : is_repeated s.accepted mark ≡ false =
    false_from_ne_true (is_repeated s.accepted mark) (λ e. h.is_new (repeated_is s h.page h.block s.accepted refl e)) in
    let all : all_there s.frames counted ≡ true =
    there_by_each s.frames (suc counted) (λ n less. h.all_there n (omega (arith, less, h.counted_is))) in
    let bad : IsBad s h.ends (s.octets ++ joined_frames s.frames (counted + 1)) =
    subst (λ n. IsBad s h.ends (s.octets ++ joined_frames s.frames (n + 1))) h.counted_is h.bad in
    ends_so s Message input (listens (pps h.ends h.page h.block h.last)) BadPage runs h.in_message h.heard
    (ap (λ b. (cond b (record { next = s; turn = confirms s }) (judges_block s h.ends mark counted)).next.ending) new
    ∙ (ap (λ (a : AnswererAnswer). a.next.ending) (whole_takes s h.ends mark counted all)
    ∙ bad_takes law s h.ends mark (s.octets ++ joined_frames s.frames (counted + 1)) bad))

by_cause : ReadsByGrammar → (s : Answerer) (input : AnswererInput) (why : End) → s.ending ≡ None → AnswererEndsBy s input why →
    (answerer_step s input).next.ending ≡ Some why
by_cause law s input Normal runs h =
    ends_so s s.state input (listens dcn) Normal runs refl h.0
    (left s s.state ∙ (ap (λ a. Some (leaves a)) h.1.1 ∙ ap (λ e. Some (end_after e)) h.1.2))
by_cause law s input PeerLeft runs h =
    ends_so s s.state input (listens dcn) PeerLeft runs refl h.0 (left s s.state ∙ not_last s s.accepted refl h.1)
by_cause law s input NoAnswer runs h = ends_so s s.state input t1 NoAnswer runs refl h (late s s.state)
by_cause law s input BadPage runs h = bad_ends law s input runs h
by_cause law s input NotCompatible runs h = absurd h
by_cause law s input Training runs h = absurd h
by_cause law s input NoReply runs h = absurd h
by_cause law s input Unreadable runs h = absurd h
by_cause law s input StillBusy runs h = absurd h
by_cause law s input PageTooLong runs h = absurd h

pub answerers_ends_mean : ReadsByGrammar → AnswerersEndsMean
answerers_ends_mean law s input why runs = (
  λ e. table_cause law s.state input s refl runs why (ap (λ a. a.next.ending) (sym (table_step s s.state input input runs refl refl)) ∙ e),
  λ h. by_cause law s input why runs h,
)
