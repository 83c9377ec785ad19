-- No step depends on the pages that are stored.
use Rattle.std.proofs.Common.{◌≡◌, ℕ, ◌+◌, Bool, true, false, Option, Some, None, List, [], ◌∷◌, ◌++◌, refl, ap, sym, ◌∙◌, cond}
use Rattle.std.proofs.Common.{append_assoc, append-nil}
use Rattle.std.specs.Prelude.{is_some, ◌&&◌}
use Rattle.raster.specs.Pages.{PagePixels}
use Rattle.signals.specs.Agreement.{allowed}
use Rattle.signals.specs.Signals.{dcs, fcd, pps, rr, dcn}
use Rattle.signals.specs.declared.signal.PageEnd.{PageEnd}
use Rattle.signals.specs.declared.signal.PageEnd.TheVariants.{Null, Mps, Eom, Eop}
use Rattle.partial_page.specs.Store.{joined_frames}
use Rattle.stations.specs.Layers.{within_page_limit, is_good_training, page_read}
use Rattle.partial_page.specs.Assembling.{within_frame_size}
use Rattle.stations.specs.Inputs.{AnswererInput, listens, trains, t2, t1, is_busy}
use Rattle.stations.specs.AnswererStep.{Answerer, AnswererAnswer, answerer_step, answerer_table, unless_answerer_ended, stores}
use Rattle.stations.specs.AnswererStep.{takes_block, answers_pps, is_repeated, is_clear}
use Rattle.partial_page.specs.Assembling.{all_there, last_counted}
use Rattle.stations.specs.Runs.{answerer_after, answerer_turns}
use Rattle.signals.specs.declared.mark.Mark.{Mark}
use Rattle.stations.specs.declared.turn.AnswererState.{AnswererState}
use Rattle.stations.specs.declared.turn.AnswererState.TheVariants.{PhaseB, WaitTraining, Message}
use Rattle.stations.specs.declared.turn.End.{End}
use Rattle.stations.specs.Taken.{with_front, answered_with, FrontStays, given, taken, given_inputs, served, taken_pages}
use Rattle.stations.specs.Taken.{TakenAndThere}

-- of two answers of a test each is with the front
by_test : (front : List PagePixels) (b : Bool) (x y x' y' : AnswererAnswer) → x' ≡ answered_with front x → y' ≡ answered_with front y →
    cond b x' y' ≡ answered_with front (cond b x y)
by_test front true x y x' y' e f = e
by_test front false x y x' y' e f = f

stores_front : (front : List PagePixels) (s : Answerer) (ends : PageEnd) (mark : Mark) (page : Option PagePixels) →
    stores (with_front front s) ends mark page ≡ answered_with front (stores s ends mark page)
stores_front front s ends mark None = refl
stores_front front s ends mark (Some page) =
    ap (λ (l : List PagePixels). answered_with [] (record (stores s ends mark (Some page)) { next = record (stores s ends mark (Some page)).next { pages = l } }))
    (append_assoc front s.pages (page ∷ []))

block_front : (front : List PagePixels) (s : Answerer) (ends : PageEnd) (mark : Mark) (octets : List ℕ) →
    takes_block (with_front front s) ends mark octets ≡ answered_with front (takes_block s ends mark octets)
block_front front s Null mark octets = by_test front (within_page_limit octets) _ _ _ _ refl refl
block_front front s Mps mark octets = stores_front front s Mps mark (page_read s.params octets)
block_front front s Eom mark octets = stores_front front s Eom mark (page_read s.params octets)
block_front front s Eop mark octets = stores_front front s Eop mark (page_read s.params octets)

pps_front : (front : List PagePixels) (s : Answerer) (ends : PageEnd) (mark : Mark) (last : ℕ) →
    answers_pps (with_front front s) ends mark last ≡ answered_with front (answers_pps s ends mark last)
pps_front front s ends mark last =
    by_test front (is_repeated s.accepted mark) _ _ _ _ refl
    (by_test front (all_there s.frames (last_counted s.asked mark last)) _ _ _ _
    (block_front front s ends mark (s.octets ++ joined_frames s.frames (last_counted s.asked mark last + 1))) refl)

table_front : (front : List PagePixels) (state : AnswererState) (input : AnswererInput) (s : Answerer) →
    answerer_table state input (with_front front s) ≡ answered_with front (answerer_table state input s)
table_front front PhaseB (listens (dcs params)) s = by_test front (allowed s.caps params) _ _ _ _ refl refl
table_front front PhaseB t2 s = refl
table_front front WaitTraining t2 s = refl
table_front front WaitTraining (trains octets) s = by_test front (is_good_training octets s.params) _ _ _ _ refl refl
table_front front WaitTraining (listens (dcs params)) s = by_test front (allowed s.caps params) _ _ _ _ refl refl
table_front front Message (listens (dcs params)) s = by_test front (allowed s.caps params) _ _ _ _ refl refl
table_front front Message (listens (fcd number octets)) s = by_test front (within_frame_size s.params octets) _ _ _ _ refl refl
table_front front Message (listens (pps ends page block last)) s = pps_front front s ends (record { page = page; block = block }) last
table_front front Message (listens rr) s = by_test front (is_some s.accepted && is_clear s.frames) _ _ _ _ refl refl
table_front front PhaseB (listens (pps ends page block last)) s =
    by_test front (is_repeated s.accepted (record { page = page; block = block })) _ _ _ _ refl refl
table_front front WaitTraining (listens (pps ends page block last)) s =
    by_test front (is_repeated s.accepted (record { page = page; block = block })) _ _ _ _ refl refl
table_front front PhaseB (listens rr) s = by_test front (is_some s.accepted && is_clear s.frames) _ _ _ _ refl refl
table_front front WaitTraining (listens rr) s = by_test front (is_some s.accepted && is_clear s.frames) _ _ _ _ refl refl
table_front front _ t1 s = refl
table_front front _ (listens dcn) s = refl
table_front front _ (is_busy busy) s = refl
table_front front _ input s = refl

pub front_stays : FrontStays
front_stays front s input = at s.ending
  where
    at : (ending : Option End) → unless_answerer_ended ending input (with_front front s) ≡
        answered_with front (unless_answerer_ended ending input s)
    at (Some why) = refl
    at None = table_front front s.state input s

-- the same of inputs
after_front : (front : List PagePixels) (inputs : List AnswererInput) (s : Answerer) →
    answerer_after inputs (with_front front s) ≡ with_front front (answerer_after inputs s)
after_front front [] s = refl
after_front front (input ∷ inputs) s =
    ap (λ (a : AnswererAnswer). answerer_after inputs a.next) (front_stays front s input) ∙
    after_front front inputs (answerer_step s input).next

turns_front : (front : List PagePixels) (inputs : List AnswererInput) (s : Answerer) →
    answerer_turns inputs (with_front front s) ≡ answerer_turns inputs s
turns_front front [] s = refl
turns_front front (input ∷ inputs) s =
    ap (λ (a : AnswererAnswer). a.turn ∷ answerer_turns inputs a.next) (front_stays front s input) ∙
    ap (λ l. (answerer_step s input).turn ∷ l) (turns_front front inputs (answerer_step s input).next)

-- a station is its pages before it with none
emptied : (s : Answerer) → s ≡ with_front s.pages (record s { pages = [] })
emptied s = ap (λ (l : List PagePixels). record s { pages = l }) (sym (append-nil s.pages))

pub taken_and_there : TakenAndThere
taken_and_there [] s = (refl, refl)
taken_and_there (given input ∷ more) s =
    let h = taken_and_there more (answerer_step s input).next in
    (h.0, ap (λ l. (answerer_step s input).turn ∷ l) h.1)
taken_and_there (taken ∷ more) s =
    let none : Answerer = record s { pages = [] } in
    let h = taken_and_there more none in (
      ap (answerer_after (given_inputs more)) (emptied s) ∙ (after_front s.pages (given_inputs more) none ∙
          (ap (with_front s.pages) h.0 ∙
          ap (λ (l : List PagePixels). record (served more none) { pages = l })
          (sym (append_assoc s.pages (taken_pages more none) (served more none).pages)))),
      ap (answerer_turns (given_inputs more)) (emptied s) ∙ (turns_front s.pages (given_inputs more) none ∙ h.1),
    )
