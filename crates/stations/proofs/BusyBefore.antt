-- A station that was busy before an input.
use Rattle.std.proofs.Common.{◌≡◌, ℕ, ◌+◌, Bool, true, false, Option, Some, None, List, ◌++◌, refl, ap, cond}
use Rattle.std.specs.Prelude.{is_some, ◌&&◌}
use Rattle.raster.specs.Pages.{PagePixels}
use Rattle.signals.specs.Agreement.{allowed}
use Rattle.signals.specs.Signals.{dcs, fcd, pps, rr, dcn}
use Rattle.signals.specs.declared.signal.PageEnd.{PageEnd}
use Rattle.signals.specs.declared.signal.PageEnd.TheVariants.{Null, Mps, Eom, Eop}
use Rattle.partial_page.specs.Store.{joined_frames}
use Rattle.stations.specs.Layers.{within_page_limit, is_good_training, page_read}
use Rattle.partial_page.specs.Assembling.{within_frame_size}
use Rattle.stations.specs.Inputs.{AnswererInput, listens, trains, t2, t1, is_busy}
use Rattle.stations.specs.AnswererStep.{Answerer, AnswererAnswer, answerer_table, unless_answerer_ended, stores}
use Rattle.stations.specs.AnswererStep.{takes_block, answers_pps, is_repeated, is_clear, accepts}
use Rattle.partial_page.specs.Assembling.{all_there, last_counted}
use Rattle.signals.specs.declared.mark.Mark.{Mark}
use Rattle.stations.specs.declared.turn.AnswererState.{AnswererState}
use Rattle.stations.specs.declared.turn.AnswererState.TheVariants.{PhaseB, WaitTraining, Message}
use Rattle.stations.specs.declared.turn.End.{End}
use Rattle.stations.specs.declared.turn.Turn.{Turn}
use Rattle.stations.specs.declared.turn.Turn.TheVariants.{Mcf, Rnr}
use Rattle.stations.specs.Limiting.{IsNoBusy, busy_answer, not_ready, BusyBefore}

abbrev busied : Answerer → Answerer
busied s = record s { busy = true }

by_test : (b : Bool) (x y x' y' : AnswererAnswer) → x' ≡ busy_answer x → y' ≡ busy_answer y → cond b x' y' ≡ busy_answer (cond b x y)
by_test true x y x' y' e f = e
by_test false x y x' y' e f = f

-- MCF or RNR is RNR where it was busy
says_rnr : (busy : Bool) → Rnr ≡ not_ready (cond busy Rnr Mcf)
says_rnr true = refl
says_rnr false = refl

confirmed : (next : Answerer) (busy : Bool) →
    ◌≡◌ {A = AnswererAnswer} (record { next = record next { busy = true }; turn = Rnr }) (busy_answer (record { next = next; turn = cond busy Rnr Mcf }))
confirmed next busy = ap (λ (t : Turn). record { next = record next { busy = true }; turn = t }) (says_rnr busy)

stores_busy : (s : Answerer) (ends : PageEnd) (mark : Mark) (page : Option PagePixels) →
    stores (busied s) ends mark page ≡ busy_answer (stores s ends mark page)
stores_busy s ends mark None = refl
stores_busy s ends mark (Some page) = confirmed (stores s ends mark (Some page)).next s.busy

block_busy : (s : Answerer) (ends : PageEnd) (mark : Mark) (octets : List ℕ) →
    takes_block (busied s) ends mark octets ≡ busy_answer (takes_block s ends mark octets)
block_busy s Null mark octets =
    by_test (within_page_limit octets) _ _ _ _ (confirmed (accepts s Null mark octets s.pages).next s.busy) refl
block_busy s Mps mark octets = stores_busy s Mps mark (page_read s.params octets)
block_busy s Eom mark octets = stores_busy s Eom mark (page_read s.params octets)
block_busy s Eop mark octets = stores_busy s Eop mark (page_read s.params octets)

pps_busy : (s : Answerer) (ends : PageEnd) (mark : Mark) (last : ℕ) →
    answers_pps (busied s) ends mark last ≡ busy_answer (answers_pps s ends mark last)
pps_busy s ends mark last =
    by_test (is_repeated s.accepted mark) _ _ _ _ (confirmed s s.busy)
    (by_test (all_there s.frames (last_counted s.asked mark last)) _ _ _ _
    (block_busy s ends mark (s.octets ++ joined_frames s.frames (last_counted s.asked mark last + 1))) refl)

table_busy : (state : AnswererState) (input : AnswererInput) (s : Answerer) → IsNoBusy input →
    answerer_table state input (busied s) ≡ busy_answer (answerer_table state input s)
table_busy PhaseB (listens (dcs params)) s quiet = by_test (allowed s.caps params) _ _ _ _ refl refl
table_busy PhaseB t2 s quiet = refl
table_busy WaitTraining t2 s quiet = refl
table_busy WaitTraining (trains octets) s quiet = by_test (is_good_training octets s.params) _ _ _ _ refl refl
table_busy WaitTraining (listens (dcs params)) s quiet = by_test (allowed s.caps params) _ _ _ _ refl refl
table_busy Message (listens (dcs params)) s quiet = by_test (allowed s.caps params) _ _ _ _ refl refl
table_busy Message (listens (fcd number octets)) s quiet = by_test (within_frame_size s.params octets) _ _ _ _ refl refl
table_busy Message (listens (pps ends page block last)) s quiet = pps_busy s ends (record { page = page; block = block }) last
table_busy Message (listens rr) s quiet = by_test (is_some s.accepted && is_clear s.frames) _ _ _ _ (confirmed s s.busy) refl
table_busy PhaseB (listens (pps ends page block last)) s quiet =
    by_test (is_repeated s.accepted (record { page = page; block = block })) _ _ _ _ (confirmed s s.busy) refl
table_busy WaitTraining (listens (pps ends page block last)) s quiet =
    by_test (is_repeated s.accepted (record { page = page; block = block })) _ _ _ _ (confirmed s s.busy) refl
table_busy PhaseB (listens rr) s quiet = by_test (is_some s.accepted && is_clear s.frames) _ _ _ _ (confirmed s s.busy) refl
table_busy WaitTraining (listens rr) s quiet = by_test (is_some s.accepted && is_clear s.frames) _ _ _ _ (confirmed s s.busy) refl
table_busy _ t1 s quiet = refl
table_busy _ (listens dcn) s quiet = refl
table_busy _ (is_busy busy) s quiet = absurd quiet
table_busy _ input s quiet = refl

pub busy_before : BusyBefore
busy_before s input quiet = at s.ending
  where
    at : (ending : Option End) → unless_answerer_ended ending input (busied s) ≡ busy_answer (unless_answerer_ended ending input s)
    at (Some why) = refl
    at None = table_busy s.state input s quiet
