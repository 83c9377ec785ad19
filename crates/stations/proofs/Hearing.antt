-- What an answerer hears at a message speed.
use Rattle.std.proofs.Common.{◌≡◌, ◌≢◌, ℕ, suc, ◌++◌, Bool, true, false, cond, List, [], ◌∷◌, Option, Some, None, inl, inr, refl, sym, ap, ◌∙◌, subst}
use Rattle.std.specs.Prelude.{◌⊎◌, slice_get}
use Rattle.raster.specs.Pages.{PagePixels}
use Rattle.signals.specs.Agreement.{allowed}
use Rattle.signals.specs.Signals.{dcs, fcd, mcf, pps, rnr, rr, dcn}
use Rattle.signals.specs.declared.mark.Mark.{Mark}
use Rattle.signals.specs.declared.params.Speed.{Speed}
use Rattle.signals.specs.declared.signal.PageEnd.{PageEnd}
use Rattle.signals.specs.declared.signal.PageEnd.TheVariants.{Null, Mps, Eom, Eop}
use Rattle.partial_page.specs.Assembling.{all_there, last_counted, within_frame_size}
use Rattle.stations.specs.AnswererStep.{Answerer, AnswererAnswer, accepts, answerer_silent, answerer_step, answerer_table}
use Rattle.stations.specs.AnswererStep.{answers_repeated, is_repeated, stores, takes_block, unless_answerer_ended}
use Rattle.stations.specs.Blocks.{Block}
use Rattle.stations.specs.CallerStep.{Caller, CallerAnswer, answers_mcf, blocks_of, caller_table, goes_on_or_waits}
use Rattle.stations.specs.EndsMean.{IsAccepted}
use Rattle.stations.specs.Inputs.{AnswererInput, hears, listens, trains, t2, t1, is_busy}
use Rattle.stations.specs.Layers.{is_good_training, within_page_limit}
use Rattle.stations.specs.Listening.{answerer_listens, ends_group, heard_after_block, is_v21_first, listens_after, listens_for, put_v21_first}
use Rattle.stations.specs.Listening.{unless_through, AnswerersHear, ComesFirst, PagesComeWhereHeard, RepliesLeaveEars}
use Rattle.stations.specs.Listening.{RepliesTellWhatIsFirst, SilenceLeavesWhatIsFirst}
use Rattle.stations.specs.TurnsMean.{AnswererSends}
use Rattle.stations.specs.declared.listening.Listening.{Listening}
use Rattle.stations.specs.declared.listening.Listening.TheVariants.{V21, Training, V21OrPage, V21ThenPage}
use Rattle.stations.specs.declared.turn.AnswererState.{AnswererState}
use Rattle.stations.specs.declared.turn.AnswererState.TheVariants.{PhaseB, WaitTraining, Message}
use Rattle.stations.specs.declared.turn.CallerState.{CallerState}
use Rattle.stations.specs.declared.turn.CallerState.TheVariants.{WaitDis, WaitCfr, WaitBlock, WaitReady}
use Rattle.stations.specs.declared.turn.End.{End}
use Rattle.stations.specs.declared.turn.Turn.{Turn}
use Rattle.stations.specs.declared.turn.Turn.TheVariants.{Silent, Cfr as SendCfr, Mcf as SendMcf, Ppr as SendPpr, Rnr as SendRnr, Burst}
use Rattle.stations.proofs.AnswerersEnds.{repeated_is, table_step}
use Rattle.stations.proofs.AnswerersTurns.{answerers_always_answer, answerers_turns_mean}
use Rattle.stations.proofs.CallersEnds.{table_step as caller_table_step}
use Rattle.stations.proofs.MarksTell.{none_after}

either : {A : Type 0} (P : A → Type 0) (b : Bool) (x y : A) → (b ≡ true → P x) → (b ≡ false → P y) → P (cond b x y)
either P true x y f g = f refl
either P false x y f g = g refl

check_in :
    (s : Answerer) (octets : List ℕ) (ending : Option End) (state : AnswererState) →
    (◌≡◌ {A = Option End} ending None → answerer_table state (trains octets) s ≢ record { next = s; turn = Silent }) →
    unless_answerer_ended ending (trains octets) s ≢ record { next = s; turn = Silent } →
    unless_through ending (listens_for state s.params.speed) ≡ Training s.params.speed
check_in s octets (Some why) state row h = absurd (h refl)
check_in s octets None PhaseB row h = absurd (row refl refl)
check_in s octets None WaitTraining row h = refl
check_in s octets None Message row h = absurd (row refl refl)

page_in :
    (s : Answerer) (number : ℕ) (octets : List ℕ) (ending : Option End) (state : AnswererState) →
    (◌≡◌ {A = Option End} ending None → answerer_table state (listens (fcd number octets)) s ≢ record { next = s; turn = Silent }) →
    unless_answerer_ended ending (listens (fcd number octets)) s ≢ record { next = s; turn = Silent } →
    unless_through ending (listens_for state s.params.speed) ≡ V21OrPage s.params.speed
page_in s number octets (Some why) state row h = absurd (h refl)
page_in s number octets None PhaseB row h = absurd (row refl refl)
page_in s number octets None WaitTraining row h = absurd (row refl refl)
page_in s number octets None Message row h = refl

-- where a station runs, its step is its state's row
running :
    (s : Answerer) (input : AnswererInput) (ending : Option End) → ending ≡ None →
    unless_answerer_ended ending input s ≡ answerer_table s.state input s
running s input ending runs = ap (λ e. unless_answerer_ended e input s) runs

pub answerers_hear : AnswerersHear
answerers_hear s =
    record {
      check = λ octets h. check_in s octets s.ending s.state (λ runs e. h (running s (trains octets) s.ending runs ∙ e)) h;
      page =
          λ number octets h.
          page_in s number octets s.ending s.state (λ runs e. h (running s (listens (fcd number octets)) s.ending runs ∙ e)) h;
    }

-- ---- whichever reply was the last

check_after : (first : Bool) (l : Listening) (speed : Speed) → l ≡ Training speed → cond first (put_v21_first l) l ≡ Training speed
check_after true l speed e = ap put_v21_first e
check_after false l speed e = e

page_after : (first : Bool) (l : Listening) (speed : Speed) → l ≡ V21OrPage speed →
    (cond first (put_v21_first l) l ≡ V21OrPage speed) ⊎ (cond first (put_v21_first l) l ≡ V21ThenPage speed)
page_after true l speed e = inr (ap put_v21_first e)
page_after false l speed e = inl e

pub replies_leave_ears : RepliesLeaveEars
replies_leave_ears reply s =
    record {
      check =
          λ octets h.
          check_after (is_v21_first reply s.accepted) (answerer_listens s) s.params.speed ((answerers_hear s).check octets h);
      page =
          λ number octets h.
          page_after (is_v21_first reply s.accepted) (answerer_listens s) s.params.speed ((answerers_hear s).page number octets h);
    }

-- ---- what a reply tells

in_message : (speed : Speed) (ending : Option End) (state : AnswererState) → ending ≡ None → state ≡ Message →
    unless_through ending (listens_for state speed) ≡ V21OrPage speed
in_message speed None Message runs is = refl
in_message speed (Some why) state runs is = cc
in_message speed None PhaseB runs is = cc
in_message speed None WaitTraining runs is = cc

takes_pages : (s : Answerer) → s.ending ≡ None → s.state ≡ Message → answerer_listens s ≡ V21OrPage s.params.speed
takes_pages s runs is = in_message s.params.speed s.ending s.state runs is

-- after the MCF of an answer a new block's end decides
abbrev EndDecides : PageEnd → AnswererAnswer → Type 0
EndDecides ends answer = answer.turn ≡ SendMcf → listens_after SendMcf answer.next ≡ heard_after_block ends answer.next.params.speed

accepts_so : (s : Answerer) (ends : PageEnd) (mark : Mark) (octets : List ℕ) (pages : List PagePixels) → s.ending ≡ None →
    EndDecides ends (accepts s ends mark octets pages)
accepts_so s Null mark octets pages runs turn = ap (λ e. unless_through e (V21OrPage s.params.speed)) runs
accepts_so s Mps mark octets pages runs turn = ap (λ e. unless_through e (V21OrPage s.params.speed)) runs
accepts_so s Eom mark octets pages runs turn = ap (λ e. put_v21_first (unless_through e V21)) runs
accepts_so s Eop mark octets pages runs turn = ap (λ e. put_v21_first (unless_through e (V21OrPage s.params.speed))) runs

stores_so : (s : Answerer) (ends : PageEnd) (mark : Mark) (read : Option PagePixels) → s.ending ≡ None →
    EndDecides ends (stores s ends mark read)
stores_so s ends mark None runs = λ turn. cc
stores_so s ends mark (Some page) runs = accepts_so s ends mark [] (s.pages ++ page ∷ []) runs

takes_so : (s : Answerer) (ends : PageEnd) (mark : Mark) (octets : List ℕ) → s.ending ≡ None → EndDecides ends (takes_block s ends mark octets)
takes_so s Null mark octets runs =
    either (EndDecides Null) (within_page_limit octets) _ _ (λ e. accepts_so s Null mark octets s.pages runs) (λ e turn. cc)
takes_so s Mps mark octets runs = stores_so s Mps mark _ runs
takes_so s Eom mark octets runs = stores_so s Eom mark _ runs
takes_so s Eop mark octets runs = stores_so s Eop mark _ runs

again_so : (s : Answerer) (ends : PageEnd) (page block : ℕ) → (¬ IsAccepted s page block) →
    EndDecides ends (answers_repeated s (record { page = page; block = block }))
again_so s ends page block new =
    either (EndDecides ends) (is_repeated s.accepted (record { page = page; block = block })) _ _
    (λ e. absurd (new (repeated_is s page block s.accepted refl e))) (λ e turn. cc)

block_so : (s : Answerer) (state : AnswererState) (ends : PageEnd) (page block last : ℕ) → s.ending ≡ None → (¬ IsAccepted s page block) →
    EndDecides ends (answerer_table state (listens (pps ends page block last)) s)
block_so s PhaseB ends page block last runs new = again_so s ends page block new
block_so s WaitTraining ends page block last runs new = again_so s ends page block new
block_so s Message ends page block last runs new =
    let mark : Mark = record { page = page; block = block } in
    either (EndDecides ends) (is_repeated s.accepted mark) _ _
    (λ e. absurd (new (repeated_is s page block s.accepted refl e)))
    (λ e.
    either (EndDecides ends) (all_there s.frames (last_counted s.asked mark last)) _ _ (λ f. takes_so s ends mark _ runs) (λ f turn. cc))

by_turn : (s next : Answerer) (input : AnswererInput) (turn : Turn) → AnswererSends s next turn →
    (turn ≡ SendMcf → (ends : PageEnd) (page block last : ℕ) → input ≡ listens (pps ends page block last) → (¬ IsAccepted s page block) →
    listens_after SendMcf next ≡ heard_after_block ends next.params.speed) →
    ComesFirst s input next turn
by_turn s next input SendRnr sends decides = λ is. ap put_v21_first (takes_pages next sends.1 is)
by_turn s next input SendCfr sends decides = takes_pages next sends.1 sends.0
by_turn s next input (SendPpr map) sends decides = takes_pages next sends.1 sends.0
by_turn s next input SendMcf sends decides = decides refl
by_turn s next input turn sends decides = tt

pub replies_tell_what_is_first : RepliesTellWhatIsFirst
replies_tell_what_is_first s input runs =
    by_turn s (answerer_step s input).next input (answerer_step s input).turn (answerers_turns_mean s input runs)
    (λ turn ends page block last is new.
    subst (EndDecides ends) (sym (table_step s s.state input (listens (pps ends page block last)) runs refl is))
    (block_so s s.state ends page block last runs new) turn)

-- ---- silence

-- a silent answer that leaves the answerer in the message leaves what it listens for
abbrev Stays : Answerer → Turn → AnswererAnswer → Type 0
Stays s reply answer =
    answer.turn ≡ Silent → answer.next.state ≡ Message → answer.next.ending ≡ None → listens_after reply answer.next ≡ listens_after reply s

either_stays : (s : Answerer) (reply : Turn) (b : Bool) (turn : Turn) →
    Stays s reply (cond b (record { next = s; turn = turn }) (answerer_silent s))
either_stays s reply true turn silent is runs = refl
either_stays s reply false turn silent is runs = refl

silent_so : (state : AnswererState) (input : AnswererInput) (s : Answerer) (reply : Turn) → s.state ≡ state → s.ending ≡ None →
    Stays s reply (answerer_table state input s)
silent_so PhaseB (listens (dcs params)) s reply is runs =
    either (Stays s reply) (allowed s.caps params) _ _ (λ e silent at on. cc) (λ e silent at on. refl)
silent_so PhaseB t2 s reply is runs = λ silent at on. cc
silent_so WaitTraining t2 s reply is runs = λ silent at on. cc
silent_so WaitTraining (trains octets) s reply is runs =
    either (Stays s reply) (is_good_training octets s.params) _ _ (λ e silent at on. cc) (λ e silent at on. cc)
silent_so WaitTraining (listens (dcs params)) s reply is runs =
    either (Stays s reply) (allowed s.caps params) _ _ (λ e silent at on. cc) (λ e silent at on. refl)
silent_so Message (listens (dcs params)) s reply is runs =
    either (Stays s reply) (allowed s.caps params) _ _ (λ e silent at on. cc) (λ e silent at on. refl)
silent_so Message (listens (fcd number octets)) s reply is runs =
    either (Stays s reply) (within_frame_size s.params octets) _ _ (λ e silent at on. refl) (λ e silent at on. refl)
silent_so Message (listens (pps ends page block last)) s reply is runs =
    λ silent at on.
    absurd ((answerers_always_answer s runs).block ends page block last is
    (ap (λ (a : AnswererAnswer). a.turn)
    (table_step s Message (listens (pps ends page block last)) (listens (pps ends page block last)) runs is refl) ∙ silent))
silent_so Message (listens rr) s reply is runs = either_stays s reply _ _
silent_so PhaseB (listens (pps ends page block last)) s reply is runs = either_stays s reply _ _
silent_so WaitTraining (listens (pps ends page block last)) s reply is runs = either_stays s reply _ _
silent_so PhaseB (listens rr) s reply is runs = either_stays s reply _ _
silent_so WaitTraining (listens rr) s reply is runs = either_stays s reply _ _
silent_so _ t1 s reply is runs = λ silent at on. cc
silent_so _ (listens dcn) s reply is runs = λ silent at on. cc
silent_so _ (is_busy busy) s reply is runs = λ silent at on. refl
silent_so _ _ s reply is runs = λ silent at on. refl

pub silence_leaves_what_is_first : SilenceLeavesWhatIsFirst
silence_leaves_what_is_first s input reply runs =
    subst (Stays s reply) (sym (table_step s s.state input input runs refl refl)) (silent_so s.state input s reply refl runs)

-- ---- the caller

next_so : (c : Caller) (ends : PageEnd) (next : Option Block) (map : List ℕ) → (ends ≡ Eop → next ≡ None) →
    (goes_on_or_waits c ends next).turn ≡ Burst map → ends_group ends ≡ false
next_so c Null next map last sends = refl
next_so c Mps next map last sends = refl
next_so c Eom next map last sends = cc
next_so c Eop None map last sends = cc
next_so c Eop (Some block) map last sends = let e : Some block ≡ None = last refl in cc

mcf_so : (c : Caller) (block : Block) (present : Option Block) (map : List ℕ) → present ≡ Some block →
    (block.ends ≡ Eop → slice_get (blocks_of c) (suc c.place) ≡ None) → (answers_mcf c present).turn ≡ Burst map →
    ends_group block.ends ≡ false
mcf_so c block None map e last sends = cc
mcf_so c block (Some present) map e last sends =
    let same : present ≡ block = cc in
    next_so (record c { place = suc c.place }) block.ends (slice_get (blocks_of c) (suc c.place)) map last
    (subst
    (λ (b : Block). (goes_on_or_waits (record c { place = suc c.place }) b.ends (slice_get (blocks_of c) (suc c.place))).turn ≡ Burst map)
    same sends)

mcf_in : (c : Caller) (state : CallerState) (block : Block) (map : List ℕ) → slice_get (blocks_of c) c.place ≡ Some block →
    (block.ends ≡ Eop → slice_get (blocks_of c) (suc c.place) ≡ None) → (caller_table state (hears mcf) c).turn ≡ Burst map →
    ends_group block.ends ≡ false
mcf_in c WaitDis block map here last sends = cc
mcf_in c WaitCfr block map here last sends = cc
mcf_in c WaitBlock block map here last sends = mcf_so c block (slice_get (blocks_of c) c.place) map here last sends
mcf_in c WaitReady block map here last sends = mcf_so c block (slice_get (blocks_of c) c.place) map here last sends

rnr_in : (c : Caller) (state : CallerState) (map : List ℕ) → (caller_table state (hears rnr) c).turn ≢ Burst map
rnr_in c WaitDis map sends = cc
rnr_in c WaitCfr map sends = cc
rnr_in c WaitBlock map sends = cc
rnr_in c WaitReady map sends = cc

pub pages_come_where_heard : PagesComeWhereHeard
pages_come_where_heard c block runs here =
    record {
      mcf =
          λ map sends.
          mcf_in c c.state block map here
          (λ e. none_after (c.finished ++ c.present) c.document c.place block here (λ rest stops. stops.eop e))
          (sym (ap (λ (a : CallerAnswer). a.turn) (caller_table_step c c.state (hears mcf) (hears mcf) runs refl refl)) ∙ sends);
      rnr =
          λ map sends.
          rnr_in c c.state map
          (sym (ap (λ (a : CallerAnswer). a.turn) (caller_table_step c c.state (hears rnr) (hears rnr) runs refl refl)) ∙ sends);
    }
