-- Each step of the answerer keeps the facts of the line.
use Rattle.std.proofs.Common.{◌≡◌, ◌≢◌, ℕ, suc, ◌+◌, ◌⊎◌, inl, inr, Bool, true, false, List, [], ◌∷◌, ◌++◌, length, take, Option, Some}
use Rattle.std.proofs.Common.{None, refl, sym, ap, subst, ◌∙◌, arith}
use Rattle.std.specs.Prelude.{slice_get, slice_set, max}
use Rattle.line_sim.specs.PageMachine.Move.{answerer_ends as page_answerer_ends}
use Rattle.raster.specs.Pages.{PagePixels}
use Rattle.signals.specs.Agreement.{allowed}
use Rattle.signals.specs.Signals.{PlainSignal, dis, dcs, cfr, ftt, fcd, pps, ppr, mcf, rnr, rr, dcn}
use Rattle.signals.specs.declared.params.Params.{Params}
use Rattle.signals.specs.declared.signal.PageEnd.{PageEnd}
use Rattle.signals.specs.declared.signal.PageEnd.TheVariants.{Null, Mps, Eom, Eop}
use Rattle.partial_page.specs.Store.{no_frames, joined_frames}
use Rattle.stations.specs.Layers.{is_good_training, page_read, within_page_limit}
use Rattle.partial_page.specs.Assembling.{within_frame_size}
use Rattle.stations.specs.Blocks.{Block, mark_of, last_frame_of, joined, pages_past, open_past, pages_before, open_before}
use Rattle.stations.specs.Inputs.{AnswererInput, listens, trains, t2, t1, is_busy, PlainItem, framed, checked}
use Rattle.stations.specs.Laws.{Each}
use Rattle.stations.specs.CallerFields.{IsSending}
use Rattle.stations.specs.CallerStep.{Caller, blocks_of}
use Rattle.stations.specs.AnswererStep.{Answerer, AnswererAnswer, answerer_silent, is_repeated}
use Rattle.partial_page.specs.Assembling.{all_there, last_counted}
use Rattle.signals.specs.Marks.{same_mark}
use Rattle.stations.specs.AnswererStep.{confirms, first_dcs, later_dcs, judges_training, keeps_frame, state_after, accepts, stores}
use Rattle.stations.specs.AnswererStep.{takes_block, judges_block, answers_pps, answers_repeated, answers_rr, leaves, answerer_table}
use Rattle.stations.specs.AnswererStep.{unless_answerer_ended, answerer_step, answerer_items}
use Rattle.signals.specs.declared.mark.Mark.{Mark}
use Rattle.partial_page.specs.Assembling.{Asked}
use Rattle.stations.specs.declared.turn.CallerState.{CallerState}
use Rattle.stations.specs.declared.turn.AnswererState.{AnswererState}
use Rattle.stations.specs.declared.turn.End.{End}
use Rattle.stations.specs.declared.turn.CallerState.TheVariants.{WaitDis, WaitCfr, WaitBlock, WaitReady}
use Rattle.stations.specs.declared.turn.AnswererState.TheVariants.{PhaseB, WaitTraining, Message}
use Rattle.stations.specs.declared.turn.End.TheVariants.{NoAnswer}
use Rattle.stations.specs.declared.turn.Turn.TheVariants.{Silent, Dis as SendDis, Mcf as SendMcf, Rnr as SendRnr}
use Rattle.line_sim.specs.LineFacts.{accepted_of, asked_of, frame_at, state_past, IsOneGroup, finished_of, BeforeGroup, InGroup, Phase}
use Rattle.line_sim.specs.LineFacts.{Alike, AskedFits, StationFacts, SaysBlock, MayReachAnswerer, MayReachCaller, IsDis}
use Rattle.line_sim.specs.PageMachine.{state_of}
use Rattle.line_sim.proofs.Lists.{take_one_more, either}
use Rattle.stations.proofs.Progress.{BlockFits, block_fits, place_before}
use Rattle.line_sim.proofs.Maps.{length_ppr_map}
use Rattle.line_sim.proofs.Marks.{same_mark_refl, not_repeated}
use Rattle.line_sim.proofs.Stores.{HoldsOnly, whole_holds_all, joined_is, put_holds, none_held, length_put, length_none}
use Rattle.line_sim.proofs.MovesOf.{AtMostOne, may_leave, store_move}
use Rattle.line_sim.proofs.CallerKeeps.{drop_some, fresh_facts, holds_finished, HoldsFinished, sending_phase, phase_sending}

-- what an answer of the answerer has to keep
pub record AnswererKeeps (c : Caller) (s : Answerer) (a : ℕ) (answer : AnswererAnswer) : Type 0 where
  pub accepted : ℕ
  pub stations : StationFacts c answer.next accepted
  pub items : Each (MayReachCaller c.place answer.next.state accepted) (answerer_items answer.next answer.turn)
  pub quiet : answer.turn ≡ Silent → accepted ≡ a
  pub moves : s.ending ≡ None → AtMostOne (length c.document) (state_of c s) (state_of c answer.next)

pub answerer_silent_keeps : (c : Caller) (s : Answerer) (a : ℕ) → StationFacts c s a → AnswererKeeps c s a (answerer_silent s)
answerer_silent_keeps c s a f = record { accepted = a; stations = f; items = tt; quiet = λ e. refl; moves = λ n. inl refl }

before_group :
    (c : Caller) (s : Answerer) (a : ℕ) → c.state ≡ WaitCfr → StationFacts c s a →
    (c.present ≡ c.params ∷ []) × BeforeGroup c.place (finished_of c) a s.frames s.asked
before_group c s a e f = subst (λ st. Phase st c a s) e f.phase

-- while the caller waits for CFR
training_facts :
    (c : Caller) (s next : Answerer) (a : ℕ) → c.state ≡ WaitCfr → StationFacts c s a →
    BeforeGroup c.place (finished_of c) a next.frames next.asked → HoldsFinished (finished_of c) c.document a next →
    Alike next.state next.params c.params → length next.frames ≡ 256 → StationFacts c next a
training_facts c s next a e f before holds same_params places =
    let phase = before_group c s a e f in
    fresh_facts c next a (c.params ∷ []) phase.0 tt before holds (λ w. (let h : WaitCfr ≡ WaitReady = sym e ∙ w in cc))
    (rw e (phase.0, before)) same_params f.call f.begun places

held : (c : Caller) (s : Answerer) (a : ℕ) → c.state ≡ WaitCfr → StationFacts c s a → HoldsFinished (finished_of c) c.document a s
held c s a e f =
    let phase = before_group c s a e f in
    holds_finished c s a (c.params ∷ []) phase.0 tt (omega (arith, phase.1.place_is, phase.1.accepted_is)) f

dcs_keeps :
    (c : Caller) (s : Answerer) (a : ℕ) (params : Params) → c.state ≡ WaitCfr → params ≡ c.params → StationFacts c s a →
    AnswererKeeps c s a (later_dcs s params)
dcs_keeps c s a params e same f =
    let before = (before_group c s a e f).1 in
    let holds = held c s a e f in
    either (AnswererKeeps c s a) (allowed s.caps params) _ _
    (λ h. record {
      accepted = a;
      stations = training_facts c s (record s {
        state = WaitTraining;
        params = params;
        frames = no_frames;
        ready = false;
        asked = None;
      }) a e f
          (record { place_is = before.place_is; accepted_is = before.accepted_is; none_open = refl; none_asked = refl })
          (record { pages = holds.pages; octets = holds.octets; last = holds.last })
          same length_none;
      items = tt;
      quiet = λ n. refl;
      moves = λ n. inl refl;
    })
    (λ h. answerer_silent_keeps c s a f)

first_dcs_keeps :
    (c : Caller) (s : Answerer) (a : ℕ) (params : Params) → c.state ≡ WaitCfr → params ≡ c.params → StationFacts c s a →
    AnswererKeeps c s a (first_dcs s params)
first_dcs_keeps c s a params e same f =
    let before = (before_group c s a e f).1 in
    let holds = held c s a e f in
    either (AnswererKeeps c s a) (allowed s.caps params) _ _
    (λ h. record {
      accepted = a;
      stations = training_facts c s (record s { state = WaitTraining; params = params; ready = false }) a e f
          (record {
            place_is = before.place_is;
            accepted_is = before.accepted_is;
            none_open = before.none_open;
            none_asked = before.none_asked;
          })
          (record { pages = holds.pages; octets = holds.octets; last = holds.last })
          same f.places;
      items = tt;
      quiet = λ n. refl;
      moves = λ n. inl refl;
    })
    (λ h. answerer_silent_keeps c s a f)

training_keeps :
    (c : Caller) (s : Answerer) (a : ℕ) (octets : List ℕ) → s.state ≡ WaitTraining → c.state ≡ WaitCfr → StationFacts c s a →
    AnswererKeeps c s a (judges_training s octets)
training_keeps c s a octets w e f =
    let before = (before_group c s a e f).1 in
    let holds = held c s a e f in
    either (AnswererKeeps c s a) (is_good_training octets s.params) _ _
    (λ h. record {
      accepted = a;
      stations = training_facts c s (record s { state = Message }) a e f before
          (record { pages = holds.pages; octets = holds.octets; last = holds.last })
          (subst (λ st. Alike st s.params c.params) w f.same_params) f.places;
      items = (refl, tt);
      quiet = λ n. cc;
      moves = λ n. inl refl;
    })
    (λ h. record {
      accepted = a;
      stations = training_facts c s (record s { state = PhaseB }) a e f before
          (record { pages = holds.pages; octets = holds.octets; last = holds.last }) tt f.places;
      items = (refl, tt);
      quiet = λ n. cc;
      moves = λ n. inl refl;
    })

frame_keeps :
    (c : Caller) (s : Answerer) (a number : ℕ) (octets : List ℕ) → IsSending c.state → a ≡ c.place →
    frame_at (slice_get (blocks_of c) c.place) number ≡ Some octets →
    StationFacts c s a → AnswererKeeps c s a (keeps_frame s number octets)
frame_keeps c s a number octets sending same is f =
    either (AnswererKeeps c s a) (within_frame_size s.params octets) _ _
    (λ h. record {
      accepted = a;
      stations = record {
        near = f.near;
        phase = sending_phase c.state c a (record s { frames = slice_set s.frames number (Some octets); ready = true }) sending
            (phase_sending c.state c a s sending f.phase);
        waits = f.waits;
        same_params = f.same_params;
        open_frames = put_holds s.frames number octets (λ n o. frame_at (slice_get (blocks_of c) c.place) n ≡ Some o) f.open_frames is;
        cleared = λ e. absurd (omega (arith, e, same));
        asked = f.asked;
        pages = f.pages;
        octets = f.octets;
        last = f.last;
        call = f.call;
        begun = f.begun;
        places = length_put s.frames number (Some octets) f.places;
      };
      items = tt;
      quiet = λ n. refl;
      moves = λ n. inl refl;
    })
    (λ h. answerer_silent_keeps c s a f)

-- MCF or RNR goes out on an accepted block
confirms_items :
    (place a : ℕ) (s next : Answerer) → a ≡ suc place → Each (MayReachCaller place next.state a) (answerer_items next (confirms s))
confirms_items place a s next e = either (λ turn. Each (MayReachCaller place next.state a)
    (answerer_items next turn)) s.busy SendRnr SendMcf (λ h. (e, tt)) (λ h. (e, tt))

confirms_speaks : (s : Answerer) → confirms s ≢ Silent
confirms_speaks s = either (λ turn. turn ≢ Silent) s.busy SendRnr SendMcf (λ h n. cc) (λ h n. cc)

confirms_keeps :
    (c : Caller) (s : Answerer) (a : ℕ) → a ≡ suc c.place → StationFacts c s a →
    AnswererKeeps c s a (record { next = s; turn = confirms s })
confirms_keeps c s a e f = record {
  accepted = a;
  stations = f;
  items = confirms_items c.place a s s e;
  quiet = λ n. absurd (confirms_speaks s n);
  moves = λ n. inl refl;
}

pub counted :
    (asked : Option Asked) (block : Block) (place a : ℕ) → AskedFits asked (Some block) place a →
    last_counted asked (mark_of block) (last_frame_of block) ≡ last_frame_of block
counted None block place a h = refl
counted (Some asked) block place a h =
    rw h.0 (either (λ n. n ≡ last_frame_of block) (same_mark (mark_of block) (mark_of block))
    (max (last_frame_of block) (last_frame_of block)) (last_frame_of block) (λ e. omega arith) (λ e. refl))

alike_after : (ends : PageEnd) (params others : Params) → params ≡ others → Alike (state_after ends) params others
alike_after Null params others e = e
alike_after Mps params others e = e
alike_after Eom params others e = tt
alike_after Eop params others e = e

-- the present block is accepted, with these pages stored and octets open
accepts_keeps :
    (c : Caller) (s : Answerer) (a : ℕ) (block : Block) (octets : List ℕ) (pages : List PagePixels) → s.params ≡ c.params →
    IsSending c.state → slice_get (blocks_of c) c.place ≡ Some block →
    octets ≡ open_past (Some block) (open_before (blocks_of c) c.place) → pages ≡
    take (pages_past (Some block) (pages_before (blocks_of c) c.place)) c.document →
    (s.ending ≡ None → AtMostOne (length c.document) (state_of c s) (record (state_of c s) { stored = length pages })) →
    StationFacts c s a → AnswererKeeps c s a (accepts s block.ends (mark_of block) octets pages)
accepts_keeps c s a block octets pages same_params sending is open_is pages_are moves f =
    let next = (accepts s block.ends (mark_of block) octets pages).next in
    record {
      accepted = suc c.place;
      stations = record {
        near = inr refl;
        phase = sending_phase c.state c (suc c.place) next sending
            (record {
              started = (phase_sending c.state c a s sending f.phase).started;
              same = (phase_sending c.state c a s sending f.phase).same;
              ready = λ h. absurd (omega (arith, h));
              past =
                  λ h. ap state_past (sym is);
              group = (phase_sending c.state c a s sending f.phase).group;
            });
        waits = λ e w. refl;
        same_params = alike_after block.ends s.params c.params same_params;
        open_frames = λ number o h. absurd (none_held no_frames number o refl h);
        cleared = λ e. refl;
        asked = tt;
        pages = rw is pages_are;
        octets = rw is open_is;
        last = rw is refl;
        call = f.call;
        begun = f.begun;
        places = length_none;
      };
      items = confirms_items c.place (suc c.place) s next refl;
      quiet = λ n. absurd (confirms_speaks s n);
      moves = moves;
    }

stores_keeps :
    (c : Caller) (s : Answerer) (a : ℕ) (block : Block) (page : Option PagePixels) (p : PagePixels) → s.params ≡ c.params →
    IsSending c.state → slice_get (blocks_of c) c.place ≡ Some block →
    page ≡ Some p → [] ≡ open_past (Some block) (open_before (blocks_of c) c.place) → s.pages ++ p ∷ [] ≡
    take (pages_past (Some block) (pages_before (blocks_of c) c.place)) c.document →
    (s.ending ≡ None → AtMostOne (length c.document) (state_of c s) (record (state_of c s) { stored = length (s.pages ++ p ∷ []) })) →
    StationFacts c s a → AnswererKeeps c s a (stores s block.ends (mark_of block) page)
stores_keeps c s a block None p same_params sending is e open_is pages_are moves f = cc
stores_keeps c s a block (Some page) p same_params sending is e open_is pages_are moves f =
    let same : p ≡ page = cc in
    accepts_keeps c s a block [] (s.pages ++ page ∷ []) same_params sending is open_is
    (subst (λ q. s.pages ++ q ∷ [] ≡ take (pages_past (Some block) (pages_before (blocks_of c) c.place)) c.document) same pages_are)
    (subst (λ q. s.ending ≡ None → AtMostOne (length c.document) (state_of c s)
    (record (state_of c s) { stored = length (s.pages ++ q ∷ []) })) same moves) f

-- a whole block that isn't accepted yet is accepted
takes_keeps :
    (c : Caller) (s : Answerer) (a : ℕ) (block : Block) (ends : PageEnd) (place : ℕ) → block.ends ≡ ends → a ≡ c.place → IsSending c.state →
    slice_get (blocks_of c) c.place ≡ Some block →
    BlockFits c.document block (pages_before (blocks_of c) c.place) place (open_before (blocks_of c) c.place) → s.params ≡ c.params →
    block.params ≡ c.params →
    StationFacts c s a → AnswererKeeps c s a (takes_block s ends (mark_of block) (open_before (blocks_of c) c.place ++ joined block.frames))
takes_keeps c s a block Null place e same sending is fits same_params own f =
    either (AnswererKeeps c s a) (within_page_limit (open_before (blocks_of c) c.place ++ joined block.frames)) _ _
    (λ h. subst (λ ends. AnswererKeeps c s a (accepts s ends (mark_of block)
    (open_before (blocks_of c) c.place ++ joined block.frames) s.pages)) e
    (accepts_keeps c s a block (open_before (blocks_of c) c.place ++ joined block.frames) s.pages same_params sending is (rw e refl)
    (rw e (rw same at f.pages)) (λ n. inl refl) f))
    (λ h. (let long : within_page_limit (open_before (blocks_of c) c.place ++ joined block.frames) ≡ true = fits.long e in let not : true ≡
    false = sym long ∙ h in cc))
takes_keeps c s a block Mps place e same sending is fits same_params own f =
    let reads = fits.read (rw e refl) in
    subst (λ ends. AnswererKeeps c s a (stores s ends (mark_of block)
    (page_read s.params (open_before (blocks_of c) c.place ++ joined block.frames)))) e
    (stores_keeps c s a block (page_read s.params (open_before (blocks_of c) c.place ++ joined block.frames)) reads.0 same_params sending is
    (ap (λ p. page_read p (open_before (blocks_of c) c.place ++ joined block.frames)) (same_params ∙ sym own) ∙ reads.2) (rw e refl)
    (rw e (ap (λ l. l ++ reads.0 ∷ []) (rw same at f.pages) ∙
    sym (take_one_more c.document (pages_before (blocks_of c) c.place) reads.0 reads.1))) (store_move c s a reads.0 same reads.1 f) f)
takes_keeps c s a block Eom place e same sending is fits same_params own f =
    let reads = fits.read (rw e refl) in
    subst (λ ends. AnswererKeeps c s a (stores s ends (mark_of block)
    (page_read s.params (open_before (blocks_of c) c.place ++ joined block.frames)))) e
    (stores_keeps c s a block (page_read s.params (open_before (blocks_of c) c.place ++ joined block.frames)) reads.0 same_params sending is
    (ap (λ p. page_read p (open_before (blocks_of c) c.place ++ joined block.frames)) (same_params ∙ sym own) ∙ reads.2) (rw e refl)
    (rw e (ap (λ l. l ++ reads.0 ∷ []) (rw same at f.pages) ∙
    sym (take_one_more c.document (pages_before (blocks_of c) c.place) reads.0 reads.1))) (store_move c s a reads.0 same reads.1 f) f)
takes_keeps c s a block Eop place e same sending is fits same_params own f =
    let reads = fits.read (rw e refl) in
    subst (λ ends. AnswererKeeps c s a (stores s ends (mark_of block)
    (page_read s.params (open_before (blocks_of c) c.place ++ joined block.frames)))) e
    (stores_keeps c s a block (page_read s.params (open_before (blocks_of c) c.place ++ joined block.frames)) reads.0 same_params sending is
    (ap (λ p. page_read p (open_before (blocks_of c) c.place ++ joined block.frames)) (same_params ∙ sym own) ∙ reads.2) (rw e refl)
    (rw e (ap (λ l. l ++ reads.0 ∷ []) (rw same at f.pages) ∙
    sym (take_one_more c.document (pages_before (blocks_of c) c.place) reads.0 reads.1))) (store_move c s a reads.0 same reads.1 f) f)

-- a PPS of the present block
new_block_keeps :
    (c : Caller) (s : Answerer) (a : ℕ) (block : Block) → a ≡ c.place → IsSending c.state → s.state ≡ Message →
    slice_get (blocks_of c) c.place ≡ Some block →
    StationFacts c s a → AnswererKeeps c s a (judges_block s block.ends (mark_of block) (last_frame_of block))
new_block_keeps c s a block same sending message is f =
    let fits = block_fits (c.finished ++ c.present) c.document f.call.readable c.place block is in
    let group = phase_sending c.state c a s sending f.phase in
    let own = subst (IsOneGroup c.params) (drop_some (blocks_of c) c.place block is) group.group in
    let only : HoldsOnly s.frames block.frames = λ n o h. (rw is at (f.open_frames n o h)) in
    either (AnswererKeeps c s a) (all_there s.frames (last_frame_of block)) _ _
    (λ whole.
    let all = whole_holds_all block.frames s.frames fits.sendable.0 only whole in
    let open_is : s.octets ++ joined_frames s.frames (last_frame_of block + 1) ≡ open_before (blocks_of c) c.place ++ joined block.frames =
    ap (λ o. s.octets ++ o) (joined_is block.frames s.frames fits.sendable.0 all) ∙
    ap (λ o. o ++ joined block.frames) (rw same at f.octets) in
    subst (λ octets. AnswererKeeps c s a (takes_block s block.ends (mark_of block) octets)) (sym open_is)
    (takes_keeps c s a block block.ends (place_before (blocks_of c) c.place) refl same sending is fits
    (subst (λ st. Alike st s.params c.params) message f.same_params) own.0 f))
    (λ part. record {
      accepted = a;
      stations = record {
        near = f.near;
        phase = sending_phase c.state c a (record s { asked = Some (asked_of block) }) sending group;
        waits = f.waits;
        same_params = f.same_params;
        open_frames = f.open_frames;
        cleared = f.cleared;
        asked = rw is (refl, same);
        pages = f.pages;
        octets = f.octets;
        last = f.last;
        call = f.call;
        begun = f.begun;
        places = f.places;
      };
      items = ((same, length_ppr_map s.frames (last_frame_of block)), tt);
      quiet = λ n. cc;
      moves = λ n. inl refl;
    })

block_keeps : (c : Caller) (s : Answerer) (a : ℕ) (block : Block) → IsSending c.state → slice_get (blocks_of c) c.place ≡ Some block →
    StationFacts c s a → (a ≡ c.place) ⊎ (a ≡ suc c.place) →
    AnswererKeeps c s a (answers_pps s block.ends (mark_of block) (last_frame_of block))
block_keeps c s a block sending is f (inl same) =
    either (AnswererKeeps c s a) (is_repeated s.accepted (mark_of block)) _ _
    (λ repeated. absurd (not_repeated (c.finished ++ c.present) c.document f.call.readable c.place block is
    (rw (f.last, same) at repeated)))
    (λ new. subst (λ last. AnswererKeeps c s a (judges_block s block.ends (mark_of block) last))
    (sym (counted s.asked block c.place a (rw is at f.asked)))
    (new_block_keeps c s a block same sending ((phase_sending c.state c a s sending f.phase).ready same) is f))
block_keeps c s a block sending is f (inr next) =
    let last : s.accepted ≡ Some (accepted_of block) = rw (next, is) at f.last in
    either (AnswererKeeps c s a) (is_repeated s.accepted (mark_of block)) _ _
    (λ repeated. confirms_keeps c s a next f)
    (λ new. (let h : is_repeated (Some (accepted_of block)) (mark_of block) ≡ false = rw last at new in
    let g = same_mark_refl (mark_of block) in cc))

pps_keeps :
    (c : Caller) (s : Answerer) (a : ℕ) (at : Option Block) (ends : PageEnd) (mark : Mark) (last : ℕ) → IsSending c.state →
    slice_get (blocks_of c) c.place ≡ at → SaysBlock at ends mark last →
    StationFacts c s a → AnswererKeeps c s a (answers_pps s ends mark last)
pps_keeps c s a None ends mark last sending is says f = absurd says
pps_keeps c s a (Some block) ends mark last sending is says f =
    subst (λ e. AnswererKeeps c s a (answers_pps s e mark last)) (sym says.0)
    (subst (λ m. AnswererKeeps c s a (answers_pps s block.ends m last)) (sym says.1)
    (subst (λ l. AnswererKeeps c s a (answers_pps s block.ends (mark_of block) l)) (sym says.2)
    (block_keeps c s a block sending is f f.near)))

rr_keeps : (c : Caller) (s : Answerer) (a : ℕ) → a ≡ suc c.place → StationFacts c s a → AnswererKeeps c s a (answers_rr s)
rr_keeps c s a e f =
    either (AnswererKeeps c s a) _ _ _ (λ h. confirms_keeps c s a e f) (λ h. answerer_silent_keeps c s a f)

-- outside Message only a repeated mark is answered
repeated_keeps :
    (c : Caller) (s : Answerer) (a : ℕ) (at : Option Block) (ends : PageEnd) (mark : Mark) (last : ℕ) → IsSending c.state →
    slice_get (blocks_of c) c.place ≡ at → SaysBlock at ends mark last →
    StationFacts c s a → (a ≡ c.place) ⊎ (a ≡ suc c.place) → AnswererKeeps c s a (answers_repeated s mark)
repeated_keeps c s a None ends mark last sending is says f near = absurd says
repeated_keeps c s a (Some block) ends mark last sending is says f (inl same) =
    either (AnswererKeeps c s a) (is_repeated s.accepted mark) _ _
    (λ repeated. absurd (not_repeated (c.finished ++ c.present) c.document f.call.readable c.place block is
    (rw (f.last, same, says.1) at repeated)))
    (λ new. answerer_silent_keeps c s a f)
repeated_keeps c s a (Some block) ends mark last sending is says f (inr next) =
    either (AnswererKeeps c s a) (is_repeated s.accepted mark) _ _ (λ repeated. confirms_keeps c s a next f)
    (λ new. answerer_silent_keeps c s a f)

-- the state stays, and what the facts speak of
phase_stays :
    (state : CallerState) (c : Caller) (a : ℕ) (s : Answerer) (busy : Bool) (ending : Option End) → Phase state c a s →
    Phase state c a (record s { busy = busy; ending = ending })
phase_stays WaitDis c a s busy ending h = h
phase_stays WaitCfr c a s busy ending h = h
phase_stays WaitBlock c a s busy ending h = h
phase_stays WaitReady c a s busy ending h = h

stays_keeps : (c : Caller) (s : Answerer) (a : ℕ) (busy : Bool) (ending : Option End) →
    (s.ending ≡ None → AtMostOne (length c.document) (state_of c s) (record (state_of c s) { answerer_end = ending })) →
    StationFacts c s a → AnswererKeeps c s a (record { next = record s { busy = busy; ending = ending }; turn = Silent })
stays_keeps c s a busy ending moves f =
    record {
      accepted = a;
      stations = record {
        near = f.near;
        phase = phase_stays c.state c a s busy ending f.phase;
        waits = f.waits;
        same_params = f.same_params;
        open_frames = f.open_frames;
        cleared = f.cleared;
        asked = f.asked;
        pages = f.pages;
        octets = f.octets;
        last = f.last;
        call = f.call;
        begun = f.begun;
        places = f.places;
      };
      items = tt;
      quiet = λ n. refl;
      moves = moves;
    }

-- every row of the answerer's table for what comes over the line
table_keeps : (state : AnswererState) (signal : PlainSignal) (c : Caller) (s : Answerer) (a : ℕ) → s.state ≡ state → StationFacts c s a →
    MayReachAnswerer c a (framed signal) → AnswererKeeps c s a (answerer_table state (listens signal) s)
table_keeps PhaseB (dcs params) c s a e f h = first_dcs_keeps c s a params h.0 h.1 f
table_keeps WaitTraining (dcs params) c s a e f h = dcs_keeps c s a params h.0 h.1 f
table_keeps Message (dcs params) c s a e f h = dcs_keeps c s a params h.0 h.1 f
table_keeps Message (fcd number octets) c s a e f h = frame_keeps c s a number octets h.0 h.1 h.2 f
table_keeps Message (pps ends page block last) c s a e f h =
    pps_keeps c s a (slice_get (blocks_of c) c.place) ends (record { page = page; block = block }) last h.0 refl h.1 f
table_keeps Message rr c s a e f h = rr_keeps c s a h.1 f
table_keeps PhaseB (pps ends page block last) c s a e f h =
    repeated_keeps c s a (slice_get (blocks_of c) c.place) ends (record { page = page; block = block }) last h.0 refl h.1 f f.near
table_keeps WaitTraining (pps ends page block last) c s a e f h =
    repeated_keeps c s a (slice_get (blocks_of c) c.place) ends (record { page = page; block = block }) last h.0 refl h.1 f f.near
table_keeps PhaseB rr c s a e f h = rr_keeps c s a h.1 f
table_keeps WaitTraining rr c s a e f h = rr_keeps c s a h.1 f
table_keeps _ dcn c s a e f h = stays_keeps c s a s.busy (Some (leaves s.accepted))
    (λ n. inr (page_answerer_ends (leaves s.accepted) n (may_leave c s a f))) f
table_keeps _ _ c s a e f h = answerer_silent_keeps c s a f

trains_keeps : (state : AnswererState) (octets : List ℕ) (c : Caller) (s : Answerer) (a : ℕ) → s.state ≡ state → StationFacts c s a →
    c.state ≡ WaitCfr → AnswererKeeps c s a (answerer_table state (trains octets) s)
trains_keeps WaitTraining octets c s a e f h = training_keeps c s a octets e h f
trains_keeps _ octets c s a e f h = answerer_silent_keeps c s a f

unless_hears_keeps : (ending : Option End) (signal : PlainSignal) (c : Caller) (s : Answerer) (a : ℕ) → StationFacts c s a →
    MayReachAnswerer c a (framed signal) → AnswererKeeps c s a (unless_answerer_ended ending (listens signal) s)
unless_hears_keeps (Some why) signal c s a f h = answerer_silent_keeps c s a f
unless_hears_keeps None signal c s a f h = table_keeps s.state signal c s a refl f h

unless_trains_keeps : (ending : Option End) (octets : List ℕ) (c : Caller) (s : Answerer) (a : ℕ) → StationFacts c s a →
    c.state ≡ WaitCfr → AnswererKeeps c s a (unless_answerer_ended ending (trains octets) s)
unless_trains_keeps (Some why) octets c s a f h = answerer_silent_keeps c s a f
unless_trains_keeps None octets c s a f h = trains_keeps s.state octets c s a refl f h

pub answerer_hears_keeps : (signal : PlainSignal) (c : Caller) (s : Answerer) (a : ℕ) → StationFacts c s a →
    MayReachAnswerer c a (framed signal) → AnswererKeeps c s a (answerer_step s (listens signal))
answerer_hears_keeps signal c s a f h = unless_hears_keeps s.ending signal c s a f h

pub answerer_trains_keeps : (octets : List ℕ) (c : Caller) (s : Answerer) (a : ℕ) → StationFacts c s a →
    c.state ≡ WaitCfr → AnswererKeeps c s a (answerer_step s (trains octets))
answerer_trains_keeps octets c s a f h = unless_trains_keeps s.ending octets c s a f h

-- the inputs that no item brings
pub data IsLocal : AnswererInput → Type 0 where
  of_t1 : IsLocal t1
  of_t2 : IsLocal t2
  of_busy : {b : Bool} → IsLocal (is_busy b)

-- after such an input what is under way to the caller may still be
pub record LocalKeeps (c : Caller) (s : Answerer) (a : ℕ) (answer : AnswererAnswer) : Type 0 where
  pub keeps : AnswererKeeps c s a answer
  pub old : (item : PlainItem) → MayReachCaller c.place s.state a item → MayReachCaller c.place answer.next.state keeps.accepted item
  pub dis : Each IsDis (answerer_items answer.next answer.turn)

past_in_b : (at : Option Block) (state : AnswererState) → state ≢ Message → state ≡ state_past at → PhaseB ≡ state_past at
past_in_b None state not e = absurd (not e)
past_in_b (Some block) state not e = go block.ends e
  where
    go : (ends : PageEnd) → state ≡ state_after ends → PhaseB ≡ state_after ends
    go Null h = absurd (not h)
    go Mps h = absurd (not h)
    go Eom h = refl
    go Eop h = absurd (not h)

in_group_b :
    (c : Caller) (a : ℕ) (state : AnswererState) (own : Params) → state ≢ Message →
    InGroup (length (finished_of c)) c.place c.params (blocks_of c) a state own →
    InGroup (length (finished_of c)) c.place c.params (blocks_of c) a PhaseB own
in_group_b c a state own not h =
    record {
      started = h.started;
      same = h.same;
      ready = λ e. absurd (not (h.ready e));
      past = λ e. past_in_b (slice_get (blocks_of c) c.place) state not (h.past e);
      group = h.group;
    }

phase_b :
    (state : CallerState) (c : Caller) (a : ℕ) (s : Answerer) → s.state ≢ Message → Phase state c a s →
    Phase state c a (record s { state = PhaseB })
phase_b WaitDis c a s not h = (refl, h.1, h.2)
phase_b WaitCfr c a s not h = h
phase_b WaitBlock c a s not h = in_group_b c a s.state s.params not h
phase_b WaitReady c a s not h = in_group_b c a s.state s.params not h

old_in_phase_b :
    (place a : ℕ) (state : AnswererState) (item : PlainItem) → state ≢ Message → MayReachCaller place state a item →
    MayReachCaller place PhaseB a item
old_in_phase_b place a state (checked octets) not h = absurd h
old_in_phase_b place a state (framed (dis caps)) not h = tt
old_in_phase_b place a state (framed cfr) not h = absurd (not h)
old_in_phase_b place a state (framed ftt) not h = refl
old_in_phase_b place a state (framed mcf) not h = h
old_in_phase_b place a state (framed rnr) not h = h
old_in_phase_b place a state (framed (ppr map)) not h = h
old_in_phase_b place a state (framed _) not h = absurd h

t2_keeps :
    (c : Caller) (s : Answerer) (a : ℕ) → s.state ≢ Message → StationFacts c s a →
    LocalKeeps c s a (record { next = record s { state = PhaseB }; turn = SendDis })
t2_keeps c s a not f =
    record {
      keeps = record {
        accepted = a;
        stations = record {
          near = f.near;
          phase = phase_b c.state c a s not f.phase;
          waits = f.waits;
          same_params = tt;
          open_frames = f.open_frames;
          cleared = f.cleared;
          asked = f.asked;
          pages = f.pages;
          octets = f.octets;
          last = f.last;
          call = f.call;
          begun = f.begun;
          places = f.places;
        };
        items = (tt, tt);
        quiet = λ n. cc;
        moves = λ n. inl refl;
      };
      old = λ item h. old_in_phase_b c.place a s.state item not h;
      dis = (tt, tt);
    }

silent_local : (c : Caller) (s : Answerer) (a : ℕ) → StationFacts c s a → LocalKeeps c s a (answerer_silent s)
unfolding answerer_silent_keeps
silent_local c s a f = record { keeps = answerer_silent_keeps c s a f; old = λ item h. h; dis = tt }

stays_local : (c : Caller) (s : Answerer) (a : ℕ) (busy : Bool) (ending : Option End) →
    (s.ending ≡ None → AtMostOne (length c.document) (state_of c s) (record (state_of c s) { answerer_end = ending })) →
    StationFacts c s a → LocalKeeps c s a (record { next = record s { busy = busy; ending = ending }; turn = Silent })
unfolding stays_keeps
stays_local c s a busy ending moves f = record { keeps = stays_keeps c s a busy ending moves f; old = λ item h. h; dis = tt }

local_table_keeps :
    (state : AnswererState) (input : AnswererInput) → IsLocal input → (c : Caller) (s : Answerer) (a : ℕ) → s.state ≡ state →
    StationFacts c s a →
    LocalKeeps c s a (answerer_table state input s)
local_table_keeps PhaseB t2 l c s a e f = t2_keeps c s a (λ m. (let h : PhaseB ≡ Message = sym e ∙ m in cc)) f
local_table_keeps WaitTraining t2 l c s a e f = t2_keeps c s a (λ m. (let h : WaitTraining ≡ Message = sym e ∙ m in cc)) f
local_table_keeps Message t2 l c s a e f = silent_local c s a f
local_table_keeps PhaseB t1 l c s a e f =
    stays_local c s a s.busy (Some NoAnswer) (λ n. inr (page_answerer_ends NoAnswer n (record { normal = λ h. cc; readable = λ h. cc }))) f
local_table_keeps WaitTraining t1 l c s a e f =
    stays_local c s a s.busy (Some NoAnswer) (λ n. inr (page_answerer_ends NoAnswer n (record { normal = λ h. cc; readable = λ h. cc }))) f
local_table_keeps Message t1 l c s a e f =
    stays_local c s a s.busy (Some NoAnswer) (λ n. inr (page_answerer_ends NoAnswer n (record { normal = λ h. cc; readable = λ h. cc }))) f
local_table_keeps PhaseB (is_busy b) l c s a e f = stays_local c s a b s.ending (λ n. inl refl) f
local_table_keeps WaitTraining (is_busy b) l c s a e f = stays_local c s a b s.ending (λ n. inl refl) f
local_table_keeps Message (is_busy b) l c s a e f = stays_local c s a b s.ending (λ n. inl refl) f
local_table_keeps _ (listens signal) l c s a e f = elim l [ ]
local_table_keeps _ (trains octets) l c s a e f = elim l [ ]

unless_local_keeps :
    (ending : Option End) (input : AnswererInput) → IsLocal input → (c : Caller) (s : Answerer) (a : ℕ) → StationFacts c s a →
    LocalKeeps c s a (unless_answerer_ended ending input s)
unless_local_keeps (Some why) input l c s a f = silent_local c s a f
unless_local_keeps None input l c s a f = local_table_keeps s.state input l c s a refl f

pub answerer_local_keeps :
    (input : AnswererInput) → IsLocal input → (c : Caller) (s : Answerer) (a : ℕ) → StationFacts c s a →
    LocalKeeps c s a (answerer_step s input)
answerer_local_keeps input l c s a f = unless_local_keeps s.ending input l c s a f
