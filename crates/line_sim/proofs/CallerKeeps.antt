-- Each step of the caller keeps the facts of the line.
use Rattle.std.proofs.Common.{◌≡◌, ◌≢◌, ℕ, zero, suc, ◌+◌, ◌≤◌, inl, inr, List, [], ◌∷◌, ◌++◌, length, take, drop, Option, Some, None, refl}
use Rattle.std.proofs.Common.{sym, ap, subst, ◌∙◌, arith}
use Rattle.std.specs.Prelude.{slice_get, nat_lt}
use Rattle.raster.specs.Pages.{PagePixels}
use Rattle.signals.specs.Signals.{PlainSignal, dis, dcs, cfr, ftt, fcd, rcp, pps, ppr, mcf, rnr, rr, dcn}
use Rattle.signals.specs.declared.params.Caps.{Caps}
use Rattle.signals.specs.declared.params.Params.{Params}
use Rattle.signals.specs.declared.signal.PageEnd.{PageEnd}
use Rattle.signals.specs.declared.signal.PageEnd.TheVariants.{Null, Mps, Eom, Eop}
use Rattle.partial_page.specs.Store.{bit_of}
use Rattle.stations.specs.Layers.{Document, agreed_for, lowered, IsFullPage, Fits}
use Rattle.stations.specs.Blocks.{Block, call_blocks, pages_before, open_before}
use Rattle.stations.specs.Inputs.{CallerInput, hears, timeout, t5, PlainItem, framed, checked}
use Rattle.stations.specs.Laws.{Each, AreReadable}
use Rattle.stations.specs.CallerFields.{IsSending}
use Rattle.stations.specs.CallerStep.{Caller, CallerAnswer, blocks_of, confirmed, all_frames, caller_silent, caller_gives_up, tries_again}
use Rattle.stations.specs.CallerStep.{answers_dis, answers_ftt, goes_on, ends_group, goes_on_or_waits, answers_mcf, answers_ppr}
use Rattle.stations.specs.CallerStep.{caller_table, unless_caller_ended, caller_step, fcds, burst_of, pps_items, present_in, training_items}
use Rattle.stations.specs.CallerStep.{caller_items}
use Rattle.stations.specs.AnswererStep.{Answerer, state_after}
use Rattle.partial_page.specs.Assembling.{Asked}
use Rattle.stations.specs.declared.turn.CallerState.{CallerState}
use Rattle.stations.specs.declared.turn.End.{End}
use Rattle.stations.specs.declared.turn.Turn.{Turn}
use Rattle.stations.specs.declared.turn.CallerState.TheVariants.{WaitDis, WaitCfr, WaitBlock, WaitReady}
use Rattle.stations.specs.declared.turn.AnswererState.TheVariants.{PhaseB, Message}
use Rattle.stations.specs.declared.turn.End.TheVariants.{Normal, NoAnswer, NotCompatible, NoReply, Unreadable, StillBusy, PageTooLong}
use Rattle.stations.specs.declared.turn.End.TheVariants.{Training as BadTraining}
use Rattle.stations.specs.declared.turn.Turn.TheVariants.{Silent, Training as SendTraining, Pps as SendPps, Rr as SendRr}
use Rattle.line_sim.specs.LineFacts.{accepted_at, state_past, IsOneGroup, finished_of, due, GroupsThrough, CallFacts, GroupBegun}
use Rattle.line_sim.specs.LineFacts.{BeforeGroup, InGroup, Phase, Alike, AskedFits, StationFacts, MayReachAnswerer, MayReachCaller}
use Rattle.line_sim.specs.PageMachine.{AtMostTwo, state_of}
use Rattle.line_sim.specs.PageMachine.Move.{caller_ends}
use Rattle.line_sim.specs.PageMachine.AtMostTwo.{no_move, one_move}
use Rattle.line_sim.specs.Headline.{Promised}
use Rattle.line_sim.proofs.Lists.{append_nil, each_append, either}
use Rattle.stations.proofs.Progress.{readable_group}
use Rattle.line_sim.proofs.Groups.{one_group, drop_front, pages_front, open_front, accepted_front, group_through}
use Rattle.line_sim.proofs.Stores.{none_held}
use Rattle.line_sim.proofs.MovesOf.{AtMostOne, then_at_most, IsGivingUp, may_give_up, confirming, confirm_move, all_confirmed}

-- what an answer of the caller has to keep
pub record CallerKeeps (c : Caller) (s : Answerer) (a : ℕ) (answer : CallerAnswer) : Type 0 where
  pub stations : StationFacts answer.next s a
  pub items : Each (MayReachAnswerer answer.next a) (caller_items answer.next answer.turn)
  pub moves : c.ending ≡ None → AtMostTwo (length c.document) (state_of c s) (state_of answer.next s)
  pub same : answer.next.document ≡ c.document

pub silent_keeps : (c : Caller) (s : Answerer) (a : ℕ) → StationFacts c s a → CallerKeeps c s a (caller_silent c)
silent_keeps c s a f = record { stations = f; items = tt; moves = λ n. no_move; same = refl }

-- DCS and a training check are under way in WaitCfr alone
training_fits : (c : Caller) (a : ℕ) → c.state ≡ WaitCfr → Each (MayReachAnswerer c a) (training_items c.state c.params)
training_fits c a e = subst (λ state. Each (MayReachAnswerer c a) (training_items state c.params)) (sym e) ((e, refl), (e, tt))

-- tries and ends don't count
phase_same :
    (state : CallerState) (c : Caller) (try : ℕ) (ending : Option End) (a : ℕ) (s : Answerer) → Phase state c a s →
    Phase state (record c { try = try; ending = ending }) a s
phase_same WaitDis c try ending a s h = h
phase_same WaitCfr c try ending a s h = h
phase_same WaitBlock c try ending a s h = h
phase_same WaitReady c try ending a s h = h

-- an end changes nothing that the facts speak of
ended : (c : Caller) (s : Answerer) (a : ℕ) (why : End) → StationFacts c s a → StationFacts (record c { ending = Some why }) s a
ended c s a why f =
    record {
      near = f.near;
      phase = phase_same c.state c c.try (Some why) a s f.phase;
      waits = λ e. cc;
      same_params = f.same_params;
      open_frames = f.open_frames;
      cleared = f.cleared;
      asked = f.asked;
      pages = f.pages;
      octets = f.octets;
      last = f.last;
      call = f.call;
      begun = f.begun;
      places = f.places;
    }

gives_up_keeps :
    (c : Caller) (s : Answerer) (a : ℕ) (why : End) → IsGivingUp why → StationFacts c s a → CallerKeeps c s a (caller_gives_up c why)
gives_up_keeps c s a why may f =
    record {
      stations = ended c s a why f;
      items = (tt, tt);
      moves = λ n. one_move (caller_ends why n (may_give_up (length c.document) (state_of c s) why may));
      same = refl;
    }

-- the parameters of the present group, if it is begun
abbrev IsBegun : List Params → Type 0
IsBegun [] = Unit {0}
IsBegun (params ∷ []) = Unit {0}
IsBegun (params ∷ next ∷ more) = ⊥

-- what the first blocks leave doesn't hang on the present group
pub record FrontIs (c : Caller) (k : ℕ) : Type 0 where
  pub pages : pages_before (blocks_of c) k ≡ pages_before (finished_of c) k
  pub octets : open_before (blocks_of c) k ≡ open_before (finished_of c) k
  pub last : accepted_at (blocks_of c) k ≡ accepted_at (finished_of c) k

front_is :
    (c : Caller) → GroupsThrough c.finished c.document → (k : ℕ) (present : List Params) → c.present ≡ present → IsBegun present →
    k ≤ length (finished_of c) → FrontIs c k
front_is c through k [] e begun h =
    let same : blocks_of c ≡ finished_of c = ap (λ p. call_blocks (c.finished ++ p) 0 c.document) e ∙
    ap (λ g. call_blocks g 0 c.document) (append_nil c.finished) in
    record { pages = ap (λ bs. pages_before bs k) same; octets = ap (λ bs. open_before bs k) same; last = ap (λ bs. accepted_at bs k) same }
front_is c through k (params ∷ []) e begun h =
    let tail = call_blocks (params ∷ []) (due c.finished c.document) (drop (due c.finished c.document) c.document) in
    let same : blocks_of c ≡ finished_of c ++ tail = ap (λ p. call_blocks (c.finished ++ p) 0 c.document) e ∙
    through.blocks (params ∷ []) in
    record {
      pages = ap (λ bs. pages_before bs k) same ∙ pages_front (finished_of c) tail k h;
      octets = ap (λ bs. open_before bs k) same ∙ open_front (finished_of c) tail k h;
      last = ap (λ bs. accepted_at bs k) same ∙ accepted_front (finished_of c) tail k h;
    }
front_is c through k (params ∷ next ∷ more) e begun h = absurd begun

-- what an answerer holds after the groups that are through
pub record HoldsFinished (finished : List Block) (document : Document) (a : ℕ) (s : Answerer) : Type 0 where
  pub pages : s.pages ≡ take (pages_before finished a) document
  pub octets : s.octets ≡ open_before finished a
  pub last : s.accepted ≡ accepted_at finished a

pub holds_finished :
    (c : Caller) (s : Answerer) (a : ℕ) (present : List Params) → c.present ≡ present → IsBegun present → a ≤ length (finished_of c) →
    StationFacts c s a → HoldsFinished (finished_of c) c.document a s
holds_finished c s a present e begun h f =
    let front = front_is c f.call.through a present e begun h in
    record { pages = f.pages ∙ ap (λ n. take n c.document) front.pages; octets = f.octets ∙ front.octets; last = f.last ∙ front.last }

-- the facts before a group's first block, whatever was agreed
pub fresh_facts :
    (c : Caller) (s : Answerer) (a : ℕ) (present : List Params) → c.present ≡ present → IsBegun present →
    BeforeGroup c.place (finished_of c) a s.frames s.asked → HoldsFinished (finished_of c) c.document a s →
    c.state ≢ WaitReady → Phase c.state c a s → Alike s.state s.params c.params → CallFacts c.finished c.present c.document →
    (c.state ≢ WaitDis → GroupBegun c.finished c.present c.params c.document) → length s.frames ≡ 256 → StationFacts c s a
fresh_facts c s a present e begun before holds not phase same_params call groups places =
    let front = front_is c call.through a present e begun (omega (arith, before.place_is, before.accepted_is)) in
    record {
      near = inl before.accepted_is;
      phase = phase;
      waits = λ e w. absurd (not w);
      same_params = same_params;
      open_frames = λ number octets e. absurd (none_held s.frames number octets before.none_open e);
      cleared = λ e. before.none_open;
      asked = rw before.none_asked tt;
      pages = holds.pages ∙ ap (λ n. take n c.document) (sym front.pages);
      octets = holds.octets ∙ sym front.octets;
      last = holds.last ∙ sym front.last;
      call = call;
      begun = groups;
      places = places;
    }

-- another group, or other parameters of the present one, confirm no page
none_confirmed :
    (c : Caller) → GroupsThrough c.finished c.document → (s : Answerer) (params : Params) (present : List Params) → c.present ≡ present →
    IsBegun present → c.place ≡ length (finished_of c) →
    AtMostTwo (length c.document) (state_of c s)
    (confirming c s (pages_before (call_blocks (c.finished ++ params ∷ []) 0 c.document) c.place))
none_confirmed c through s params present e begun h =
    let old = front_is c through c.place present e begun (omega (arith, h)) in
    let new = front_is (record c { present = params ∷ [] }) through c.place (params ∷ []) refl tt (omega (arith, h)) in
    subst (λ k. AtMostTwo (length c.document) (state_of c s) (confirming c s k)) (old.pages ∙ sym new.pages) no_move

pub each_drop : {A : Type 0} (P : A → Type 0) (n : ℕ) (xs : List A) → Each P xs → Each P (drop n xs)
each_drop P zero xs h = h
each_drop P (suc n) [] h = tt
each_drop P (suc n) (x ∷ xs) h = each_drop P n xs h.1

first_dropped : {A : Type 0} (n : ℕ) (xs : List A) (x : A) → slice_get (drop n xs) 0 ≡ Some x → slice_get xs n ≡ Some x
first_dropped zero xs x e = e
first_dropped (suc n) [] x e = cc
first_dropped (suc n) (y ∷ xs) x e = first_dropped n xs x e

-- what another group's parameters make of the call
record BeginsGroup (finished : List Params) (params : Params) (document : Document) : Type 0 where
  pub call : CallFacts finished (params ∷ []) document
  pub group : GroupBegun finished (params ∷ []) params document

begins_group : Promised → (finished present : List Params) (params : Params) (document : Document) → CallFacts finished present document →
    ((page : PagePixels) → slice_get document (due finished document) ≡ Some page → Fits params page) → BeginsGroup finished params document
begins_group laws finished present params document call fits =
    let n = due finished document in
    let readable = readable_group laws.0 laws.1.alike_fits params (drop n document) (each_drop IsFullPage n document call.full)
    (λ page e. fits page (first_dropped n document page e)) in
    record {
      call = record { full = call.full; through = call.through; readable = call.through.readable (params ∷ []) readable };
      group = record { present_is = refl; fits = fits; readable = readable };
    }

dis_keeps :
    Promised → (c : Caller) (s : Answerer) (a : ℕ) (caps : Caps) (params : Option Params) →
    agreed_for caps c.wish (slice_get c.document (confirmed c)) ≡ params → c.state ≡ WaitDis → StationFacts c s a →
    CallerKeeps c s a (answers_dis c caps params)
dis_keeps laws c s a caps None is e f = gives_up_keeps c s a NotCompatible tt f
dis_keeps laws c s a caps (Some params) is e f =
    let phase = subst (λ st. Phase st c a s) e f.phase in
    let holds = holds_finished c s a [] phase.1 tt (omega (arith, phase.2.place_is, phase.2.accepted_is)) f in
    let front = front_is c f.call.through c.place [] phase.1 tt (omega (arith, phase.2.place_is)) in
    let page_due : confirmed c ≡ due c.finished c.document = front.pages ∙ ap (pages_before (finished_of c)) phase.2.place_is in
    let fits : (page : PagePixels) → slice_get c.document (due c.finished c.document) ≡ Some page → Fits params page =
    λ page there. laws.1.agreed_fits caps c.wish page params
    (ap (agreed_for caps c.wish) (sym (ap (slice_get c.document) page_due ∙ there)) ∙ is) in
    let begins = begins_group laws c.finished c.present params c.document f.call fits in
    record {
      stations = fresh_facts (record c { caps = caps; present = params ∷ []; params = params; state = WaitCfr; try = 1 }) s a
          (params ∷ []) refl tt phase.2 holds (λ e. cc) (refl, phase.2) (rw phase.0 tt) begins.call (λ n. begins.group) f.places;
      items = ((refl, refl), (refl, tt));
      moves = λ n. none_confirmed c f.call.through s params [] phase.1 tt phase.2.place_is;
      same = refl;
    }

not_dis_cfr : (state : CallerState) → state ≡ WaitCfr → state ≢ WaitDis
not_dis_cfr state e d = (let h : WaitCfr ≡ WaitDis = sym e ∙ d in cc)

ftt_keeps :
    Promised → (c : Caller) (s : Answerer) (a : ℕ) (params : Option Params) → lowered c.caps c.wish c.params ≡ params → c.state ≡ WaitCfr →
    s.state ≡ PhaseB → StationFacts c s a → CallerKeeps c s a (answers_ftt c params)
ftt_keeps laws c s a None is e b f = gives_up_keeps c s a BadTraining tt f
ftt_keeps laws c s a (Some params) is e b f =
    let phase = subst (λ st. Phase st c a s) e f.phase in
    let holds = holds_finished c s a (c.params ∷ []) phase.0 tt (omega (arith, phase.1.place_is, phase.1.accepted_is)) f in
    let now : Phase WaitCfr (record c { present = params ∷ []; params = params; try = 1 }) a s = (refl, phase.1) in
    let group = f.begun (not_dis_cfr c.state e) in
    let begins = begins_group laws c.finished c.present params c.document f.call
    (λ page there. laws.1.lowered_fits c.caps c.wish page c.params params is (group.fits page there)) in
    record {
      stations = fresh_facts (record c { present = params ∷ []; params = params; try = 1 }) s a (params ∷ []) refl tt phase.1 holds
          (λ w. (let h : WaitCfr ≡ WaitReady = sym e ∙ w in cc))
          (subst (λ st. Phase st (record c { present = params ∷ []; params = params; try = 1 }) a s) (sym e) now) (rw b tt) begins.call
          (λ n. begins.group) f.places;
      items = training_fits (record c { present = params ∷ []; params = params; try = 1 }) a e;
      moves = λ n. none_confirmed c f.call.through s params (c.params ∷ []) phase.0 tt phase.1.place_is;
      same = refl;
    }

-- the FCDs of a burst are frames of the block
fcds_fit : (c : Caller) (a : ℕ) (block : Block) (map : List ℕ) (number : ℕ) (frames : List (List ℕ)) →
    IsSending c.state → a ≡ c.place → slice_get (blocks_of c) c.place ≡ Some block →
    ((n : ℕ) (octets : List ℕ) → slice_get frames n ≡ Some octets → slice_get block.frames (n + number) ≡ Some octets) →
    Each (MayReachAnswerer c a) (fcds map number frames)
fcds_fit c a block map number [] sending same is part = tt
fcds_fit c a block map number (octets ∷ frames) sending same is part =
    let later = fcds_fit c a block map (suc number) frames sending same is
    (λ n data_n e. (let shift : suc n + number ≡ n + suc number = omega arith in rw shift at (part (suc n) data_n e))) in
    let first : slice_get block.frames (0 + number) ≡ Some octets = part 0 octets refl in
    let here : zero + number ≡ number = omega arith in
    either (Each (MayReachAnswerer c a)) (bit_of map number) _ _
    (λ e. ((sending, same, rw is (rw here at first)), later))
    (λ e. later)

burst_fits :
    (c : Caller) (a : ℕ) (map : List ℕ) (block : Option Block) → IsSending c.state → a ≡ c.place → slice_get (blocks_of c) c.place ≡ block →
    Each (MayReachAnswerer c a) (burst_of map block)
burst_fits c a map None sending same is = tt
burst_fits c a map (Some block) sending same is =
    each_append (MayReachAnswerer c a) _ _
    (fcds_fit c a block map 0 block.frames sending same is (λ n octets e. (let h : n + 0 ≡ n = omega arith in rw h e)))
    (tt, (tt, (tt, ((sending, rw is (refl, refl, refl)), tt))))

pps_fits : (c : Caller) (a : ℕ) (block : Option Block) → IsSending c.state → slice_get (blocks_of c) c.place ≡ block →
    Each (MayReachAnswerer c a) (pps_items block)
pps_fits c a None sending is = tt
pps_fits c a (Some block) sending is = ((sending, rw is (refl, refl, refl)), tt)

-- a caller that has ended sends no block
burst_present :
    (P : PlainItem → Type 0) (map : List ℕ) (state : CallerState) (ending : Option End) (block : Option Block) →
    Each P (burst_of map block) → Each P (burst_of map (present_in state ending block))
burst_present P map WaitDis ending block h = tt
burst_present P map WaitCfr ending block h = tt
burst_present P map WaitBlock None block h = h
burst_present P map WaitBlock (Some why) block h = tt
burst_present P map WaitReady None block h = h
burst_present P map WaitReady (Some why) block h = tt

pps_present :
    (P : PlainItem → Type 0) (state : CallerState) (ending : Option End) (block : Option Block) → Each P (pps_items block) →
    Each P (pps_items (present_in state ending block))
pps_present P WaitDis ending block h = tt
pps_present P WaitCfr ending block h = tt
pps_present P WaitBlock None block h = h
pps_present P WaitBlock (Some why) block h = tt
pps_present P WaitReady None block h = h
pps_present P WaitReady (Some why) block h = tt

-- where the next block would start
goes_on_keeps : (c : Caller) (place : ℕ) (s : Answerer) (a : ℕ) (ends : PageEnd) (next : Option Block) → a ≡ place →
    StationFacts (record c { place = place; state = WaitBlock; try = 1; pprs = 0 }) s a →
    ((why : End) → StationFacts (record c { place = place; ending = Some why }) s a) →
    (c.ending ≡ None → AtMostOne (length c.document) (state_of c s) (state_of (record c { place = place }) s)) →
    (ends ≡ Eop → pages_before (blocks_of c) place ≡ length c.document) →
    CallerKeeps c s a (goes_on (record c { place = place }) ends next)
goes_on_keeps c place s a ends (Some next) same first f step through =
    record {
      stations = first;
      items = burst_present _ all_frames WaitBlock c.ending (slice_get (blocks_of c) place)
          (burst_fits (record c { place = place; state = WaitBlock; try = 1; pprs = 0 }) a all_frames
          (slice_get (blocks_of c) place) tt same refl);
      moves = λ n. then_at_most _ _ (state_of (record c { place = place }) s) _ (step n) (inl refl);
      same = refl;
    }
goes_on_keeps c place s a Null None same first f step through =
    record {
      stations = f PageTooLong;
      items = (tt, tt);
      moves = λ n. then_at_most _ _ (state_of (record c { place = place }) s) _ (step n)
          (inr (caller_ends PageTooLong n (may_give_up _ _ PageTooLong tt)));
      same = refl;
    }
goes_on_keeps c place s a Mps None same first f step through =
    record {
      stations = f PageTooLong;
      items = (tt, tt);
      moves = λ n. then_at_most _ _ (state_of (record c { place = place }) s) _ (step n)
          (inr (caller_ends PageTooLong n (may_give_up _ _ PageTooLong tt)));
      same = refl;
    }
goes_on_keeps c place s a Eom None same first f step through =
    record {
      stations = f PageTooLong;
      items = (tt, tt);
      moves = λ n. then_at_most _ _ (state_of (record c { place = place }) s) _ (step n)
          (inr (caller_ends PageTooLong n (may_give_up _ _ PageTooLong tt)));
      same = refl;
    }
goes_on_keeps c place s a Eop None same first f step through =
    record {
      stations = f Normal;
      items = (tt, tt);
      moves = λ n. then_at_most _ _ (state_of (record c { place = place }) s) _ (step n)
          (inr (caller_ends Normal n (record { normal = λ e. through refl; stays = λ e. cc; readable = λ e. cc })));
      same = refl;
    }

cfr_keeps :
    (c : Caller) (s : Answerer) (a : ℕ) → c.state ≡ WaitCfr → s.state ≡ Message → StationFacts c s a →
    CallerKeeps c s a (goes_on c Mps (slice_get (blocks_of c) c.place))
cfr_keeps c s a e message f =
    let phase = subst (λ st. Phase st c a s) e f.phase in
    let holds = holds_finished c s a (c.params ∷ []) phase.0 tt (omega (arith, phase.1.place_is, phase.1.accepted_is)) f in
    let from = due c.finished c.document in
    let tail = call_blocks (c.params ∷ []) from (drop from c.document) in
    let same : blocks_of c ≡ finished_of c ++ tail = ap (λ p. call_blocks (c.finished ++ p) 0 c.document) phase.0 ∙
    f.call.through.blocks (c.params ∷ []) in
    let rest : drop c.place (blocks_of c) ≡ tail = ap (λ bs. drop c.place bs) same ∙
    ap (λ n. drop n (finished_of c ++ tail)) phase.1.place_is ∙ drop_front (finished_of c) tail in
    goes_on_keeps c c.place s a Mps (slice_get (blocks_of c) c.place) phase.1.accepted_is
    (fresh_facts (record c { state = WaitBlock; try = 1; pprs = 0 }) s a (c.params ∷ []) phase.0 tt phase.1 holds (λ w. cc)
    (record {
      started = omega (arith, phase.1.place_is);
      same = subst (λ st. Alike st s.params c.params) message f.same_params;
      ready = λ h. message;
      past = λ h. absurd (omega (arith, h, phase.1.accepted_is));
      group =
          subst (IsOneGroup c.params) (sym rest) (one_group c.params from (drop from c.document));
    }) f.same_params f.call
    (λ n. f.begun (not_dis_cfr c.state e)) f.places)
    (λ why. ended c s a why f)
    (λ n. inl refl) (λ h. cc)

not_dis : (state : CallerState) → IsSending state → state ≢ WaitDis
not_dis WaitDis sending e = absurd sending
not_dis WaitCfr sending e = absurd sending
not_dis WaitBlock sending e = cc
not_dis WaitReady sending e = cc

-- what was asked for isn't accepted
asked_moves :
    (asked : Option Asked) (block next : Option Block) (place a : ℕ) → a ≡ suc place → AskedFits asked block place a →
    AskedFits asked next (suc place) a
asked_moves None block next place a e h = tt
asked_moves (Some asked) None next place a e h = absurd h
asked_moves (Some asked) (Some block) next place a e h = absurd (omega (arith, h.1, e))

none_asked : (asked : Option Asked) (block : Option Block) (place a : ℕ) → a ≡ suc place → AskedFits asked block place a → asked ≡ None
none_asked None block place a e h = refl
none_asked (Some asked) None place a e h = absurd h
none_asked (Some asked) (Some block) place a e h = absurd (omega (arith, h.1, e))

pub sending_phase :
    (state : CallerState) (c : Caller) (a : ℕ) (s : Answerer) → IsSending state →
    InGroup (length (finished_of c)) c.place c.params (blocks_of c) a s.state s.params → Phase state c a s
sending_phase WaitDis c a s sending h = absurd sending
sending_phase WaitCfr c a s sending h = absurd sending
sending_phase WaitBlock c a s sending h = h
sending_phase WaitReady c a s sending h = h

pub phase_sending :
    (state : CallerState) (c : Caller) (a : ℕ) (s : Answerer) → IsSending state → Phase state c a s →
    InGroup (length (finished_of c)) c.place c.params (blocks_of c) a s.state s.params
phase_sending WaitDis c a s sending phase = absurd sending
phase_sending WaitCfr c a s sending phase = absurd sending
phase_sending WaitBlock c a s sending phase = phase
phase_sending WaitReady c a s sending phase = phase

pub drop_some :
    (blocks : List Block) (k : ℕ) (block : Block) → slice_get blocks k ≡ Some block → drop k blocks ≡ block ∷ drop (suc k) blocks
drop_some [] k block e = cc
drop_some (first ∷ blocks) zero block e = let h : first ≡ block = cc in ap (λ b. b ∷ blocks) h
drop_some (first ∷ blocks) (suc k) block e = drop_some blocks k block e

drop_length :
    (blocks : List Block) (k : ℕ) (block : Block) → slice_get blocks k ≡ Some block → drop (suc k) blocks ≡ [] → suc k ≡ length blocks
drop_length [] k block e h = cc
drop_length (first ∷ []) zero block e h = refl
drop_length (first ∷ next ∷ blocks) zero block e h = cc
drop_length (first ∷ blocks) (suc k) block e h = ap suc (drop_length blocks k block e h)

message_after : (ends : PageEnd) → ends ≢ Eom → state_after ends ≡ Message
message_after Null h = refl
message_after Mps h = refl
message_after Eom h = absurd (h refl)
message_after Eop h = refl

-- the facts at the next block of the group
moved :
    (c : Caller) (s : Answerer) (a : ℕ) (state : CallerState) (try pprs : ℕ) (ending : Option End) → IsSending c.state → IsSending state →
    (ending ≡ None → state ≢ WaitReady) → a ≡ suc c.place →
    InGroup (length (finished_of c)) (suc c.place) c.params (blocks_of c) a s.state s.params → StationFacts c s a →
    StationFacts (record c { place = suc c.place; state = state; try = try; pprs = pprs; ending = ending }) s a
moved c s a state try pprs ending was sending not e group f =
    record {
      near = inl e;
      phase = sending_phase state (record c {
        place = suc c.place;
        state = state;
        try = try;
        pprs = pprs;
        ending = ending;
      }) a s sending group;
      waits = λ h w. absurd (not h w);
      same_params = f.same_params;
      open_frames = λ number octets h. absurd (none_held s.frames number octets (f.cleared e) h);
      cleared = λ h. absurd (omega (arith, h, e));
      asked = asked_moves s.asked (slice_get (blocks_of c) c.place) (slice_get (blocks_of c) (suc c.place)) c.place a e f.asked;
      pages = f.pages;
      octets = f.octets;
      last = f.last;
      call = f.call;
      begun = λ n. f.begun (not_dis c.state was);
      places = f.places;
    }

-- a group's last block is confirmed
closes :
    (c : Caller) (s : Answerer) (a : ℕ) (block : Block) → slice_get (blocks_of c) c.place ≡ Some block → block.ends ≡ Eom →
    IsSending c.state → a ≡ suc c.place →
    InGroup (length (finished_of c)) c.place c.params (blocks_of c) a s.state s.params → StationFacts c s a →
    CallerKeeps c s a (ends_group (record c { place = suc c.place }))
closes c s a block is eom sending e group f =
    let rest = subst (IsOneGroup c.params) (drop_some (blocks_of c) c.place block is) group.group in
    let whole = drop_length (blocks_of c) c.place block is (rest.1 eom) in
    let in_b : s.state ≡ PhaseB = group.past e ∙ (ap state_past is ∙ ap state_after eom) in
    let before : BeforeGroup (suc c.place) (blocks_of c) a s.frames s.asked =
    record {
      place_is = whole;
      accepted_is = e;
      none_open = f.cleared e;
      none_asked = none_asked s.asked (slice_get (blocks_of c) c.place) c.place a e f.asked;
    } in
    let next = (ends_group (record c { place = suc c.place })).next in
    let begun = f.begun (not_dis c.state sending) in
    let last : drop c.place (blocks_of c) ≡ block ∷ [] = drop_some (blocks_of c) c.place block is ∙ ap (λ bs. block ∷ bs) (rest.1 eom) in
    let through : GroupsThrough (c.finished ++ c.params ∷ []) c.document =
    group_through c.finished c.params c.document f.call.through begun.readable c.place block group.started
    (subst (λ p. drop c.place (call_blocks (c.finished ++ p) 0 c.document) ≡ block ∷ []) begun.present_is last) eom in
    let call : CallFacts (c.finished ++ c.present) [] c.document =
    record {
      full = f.call.full;
      through = subst (λ p. GroupsThrough (c.finished ++ p) c.document) (sym begun.present_is) through;
      readable = subst (λ g. AreReadable g c.document) (sym (append_nil (c.finished ++ c.present))) f.call.readable;
    } in
    let same : blocks_of next ≡ blocks_of c = ap (λ g. call_blocks g 0 c.document) (append_nil (c.finished ++ c.present)) in
    record {
      stations = fresh_facts next s a [] refl tt before (record { pages = f.pages; octets = f.octets; last = f.last }) (λ w. cc)
          (in_b, refl, before) (rw in_b tt) call (λ n. absurd (n refl)) f.places;
      items = tt;
      moves = λ n. subst (λ k. AtMostTwo (length c.document) (state_of c s) (confirming c s k))
          (ap (λ bs. pages_before bs (suc c.place)) (sym same))
          (then_at_most _ _ (state_of (record c { place = suc c.place }) s) _ (confirm_move c s a block is e f n) (inl refl));
      same = refl;
    }

mcf_by_end :
    (c : Caller) (s : Answerer) (a : ℕ) (block : Block) (ends : PageEnd) → block.ends ≡ ends →
    slice_get (blocks_of c) c.place ≡ Some block → IsSending c.state → a ≡ suc c.place → StationFacts c s a →
    ends ≢ Eom → CallerKeeps c s a (goes_on (record c { place = suc c.place }) ends (slice_get (blocks_of c) (suc c.place)))
mcf_by_end c s a block ends ends_is is sending e f not =
    let group = phase_sending c.state c a s sending f.phase in
    let rest = subst (IsOneGroup c.params) (drop_some (blocks_of c) c.place block is) group.group in
    let message : s.state ≡ Message = group.past e ∙ (ap state_past is ∙ ap state_after ends_is ∙ message_after ends not) in
    let next : InGroup (length (finished_of c)) (suc c.place) c.params (blocks_of c) a s.state s.params =
    record {
      started = omega (arith, group.started);
      same = group.same;
      ready = λ h. message;
      past = λ h. absurd (omega (arith, h, e));
      group = rest.2;
    } in
    goes_on_keeps c (suc c.place) s a ends (slice_get (blocks_of c) (suc c.place)) e
    (moved c s a WaitBlock 1 0 c.ending sending tt (λ h w. cc) e next f)
    (λ why. moved c s a c.state c.try c.pprs (Some why) sending sending (λ h. cc) e next f)
    (confirm_move c s a block is e f) (λ h. all_confirmed c f.call.readable block is (ends_is ∙ h))

mcf_keeps :
    (c : Caller) (s : Answerer) (a : ℕ) (block : Option Block) → slice_get (blocks_of c) c.place ≡ block → IsSending c.state →
    a ≡ suc c.place → StationFacts c s a → CallerKeeps c s a (answers_mcf c block)
mcf_keeps c s a None is sending e f = silent_keeps c s a f
mcf_keeps c s a (Some block) is sending e f = go block.ends refl
  where
    go :
        (ends : PageEnd) → block.ends ≡ ends →
        CallerKeeps c s a (goes_on_or_waits (record c { place = suc c.place }) ends (slice_get (blocks_of c) (suc c.place)))
    go Null h = mcf_by_end c s a block Null h is sending e f (λ w. cc)
    go Mps h = mcf_by_end c s a block Mps h is sending e f (λ w. cc)
    go Eom h = closes c s a block is h sending e (phase_sending c.state c a s sending f.phase) f
    go Eop h = mcf_by_end c s a block Eop h is sending e f (λ w. cc)

-- the facts in another state past CFR
resent :
    (c : Caller) (s : Answerer) (a : ℕ) (state : CallerState) (try pprs : ℕ) → IsSending c.state → IsSending state →
    (c.ending ≡ None → state ≡ WaitReady → a ≡ suc c.place) → StationFacts c s a →
    StationFacts (record c { state = state; try = try; pprs = pprs }) s a
resent c s a state try pprs sending after waits f =
    record {
      near = f.near;
      phase = sending_phase state (record c { state = state; try = try; pprs = pprs }) a s after
          (phase_sending c.state c a s sending f.phase);
      waits = waits;
      same_params = f.same_params;
      open_frames = f.open_frames;
      cleared = f.cleared;
      asked = f.asked;
      pages = f.pages;
      octets = f.octets;
      last = f.last;
      call = f.call;
      begun = λ n. f.begun (not_dis c.state sending);
      places = f.places;
    }

ppr_keeps :
    (c : Caller) (s : Answerer) (a : ℕ) (map : List ℕ) → IsSending c.state → a ≡ c.place → StationFacts c s a →
    CallerKeeps c s a (answers_ppr c map)
ppr_keeps c s a map sending e f =
    either (CallerKeeps c s a) (nat_lt c.pprs 3) _ _
    (λ h. record {
      stations = resent c s a WaitBlock 1 (suc c.pprs) sending tt (λ n w. cc) f;
      items = burst_present _ map WaitBlock c.ending (slice_get (blocks_of c) c.place)
          (burst_fits (record c { state = WaitBlock; try = 1; pprs = suc c.pprs }) a map (slice_get (blocks_of c) c.place) tt e refl);
      moves = λ n. no_move;
      same = refl;
    })
    (λ h. gives_up_keeps c s a Unreadable tt f)

rnr_keeps :
    (c : Caller) (s : Answerer) (a : ℕ) → IsSending c.state → a ≡ suc c.place → StationFacts c s a →
    CallerKeeps c s a (record { next = record c { state = WaitReady; try = 1 }; turn = SendRr })
rnr_keeps c s a sending e f =
    record { stations = resent c s a WaitReady 1 c.pprs sending tt (λ n w. e) f; items = ((tt, e), tt); moves = λ n. no_move; same = refl }

-- another try: nothing that the facts speak of changes
tried : (c : Caller) (s : Answerer) (a : ℕ) (try : ℕ) → StationFacts c s a → StationFacts (record c { try = try }) s a
tried c s a try f =
    record {
      near = f.near;
      phase = phase_same c.state c try c.ending a s f.phase;
      waits = f.waits;
      same_params = f.same_params;
      open_frames = f.open_frames;
      cleared = f.cleared;
      asked = f.asked;
      pages = f.pages;
      octets = f.octets;
      last = f.last;
      call = f.call;
      begun = f.begun;
      places = f.places;
    }

tries_keeps :
    (c : Caller) (s : Answerer) (a : ℕ) (turn : Turn) →
    Each (MayReachAnswerer (record c { try = suc c.try }) a) (caller_items (record c { try = suc c.try }) turn) → StationFacts c s a →
    CallerKeeps c s a (tries_again c turn)
tries_keeps c s a turn items f =
    either (CallerKeeps c s a) (nat_lt c.try 3) _ _
    (λ h. record { stations = tried c s a (suc c.try) f; items = items; moves = λ n. no_move; same = refl })
    (λ h. gives_up_keeps c s a NoReply tt f)

-- every row of the caller's table keeps the facts
pub caller_table_keeps :
    Promised → (state : CallerState) (signal : PlainSignal) (c : Caller) (s : Answerer) (a : ℕ) → c.state ≡ state → StationFacts c s a →
    MayReachCaller c.place s.state a (framed signal) → CallerKeeps c s a (caller_table state (hears signal) c)
caller_table_keeps laws WaitDis (dis caps) c s a e f h =
    dis_keeps laws c s a caps (agreed_for caps c.wish (slice_get c.document (confirmed c))) refl e f
caller_table_keeps laws WaitCfr cfr c s a e f h = cfr_keeps c s a e h f
caller_table_keeps laws WaitCfr ftt c s a e f h = ftt_keeps laws c s a (lowered c.caps c.wish c.params) refl e h f
caller_table_keeps laws WaitCfr (dis caps) c s a e f h = tries_keeps c s a SendTraining (training_fits (record c { try = suc c.try }) a e) f
caller_table_keeps laws WaitBlock mcf c s a e f h = mcf_keeps c s a (slice_get (blocks_of c) c.place) refl (rw e tt) h f
caller_table_keeps laws WaitBlock (ppr map) c s a e f h = ppr_keeps c s a map (rw e tt) h.0 f
caller_table_keeps laws WaitBlock rnr c s a e f h = rnr_keeps c s a (rw e tt) h f
caller_table_keeps laws WaitReady mcf c s a e f h = mcf_keeps c s a (slice_get (blocks_of c) c.place) refl (rw e tt) h f
caller_table_keeps laws WaitReady (ppr map) c s a e f h = ppr_keeps c s a map (rw e tt) h.0 f
caller_table_keeps laws WaitReady rnr c s a e f h = rnr_keeps c s a (rw e tt) h f
caller_table_keeps laws _ dcn c s a e f h = absurd h
caller_table_keeps laws _ _ c s a e f h = silent_keeps c s a f

unless_keeps : Promised → (ending : Option End) (signal : PlainSignal) (c : Caller) (s : Answerer) (a : ℕ) → StationFacts c s a →
    MayReachCaller c.place s.state a (framed signal) → CallerKeeps c s a (unless_caller_ended ending (hears signal) c)
unless_keeps laws (Some why) signal c s a f h = silent_keeps c s a f
unless_keeps laws None signal c s a f h = caller_table_keeps laws c.state signal c s a refl f h

-- what the caller hears
pub caller_heard_keeps : Promised → (signal : PlainSignal) (c : Caller) (s : Answerer) (a : ℕ) → StationFacts c s a →
    MayReachCaller c.place s.state a (framed signal) → CallerKeeps c s a (caller_step c (hears signal))
caller_heard_keeps laws signal c s a f h = unless_keeps laws c.ending signal c s a f h

-- the caller's two timers
pub data IsTimer : CallerInput → Type 0 where
  of_timeout : IsTimer timeout
  of_t5 : IsTimer t5

-- after a timer what is under way to the answerer may still be
pub record TimerKeeps (c : Caller) (s : Answerer) (a : ℕ) (answer : CallerAnswer) : Type 0 where
  pub keeps : CallerKeeps c s a answer
  pub old : (item : PlainItem) → MayReachAnswerer c a item → MayReachAnswerer answer.next a item
  pub quiet : answer.turn ≡ Silent → answer.next.place ≡ c.place

silent_timer : (c : Caller) (s : Answerer) (a : ℕ) → StationFacts c s a → TimerKeeps c s a (caller_silent c)
silent_timer c s a f = record { keeps = silent_keeps c s a f; old = λ item h. h; quiet = λ e. refl }

-- an item's place doesn't hang on tries or ends
same_old :
    (c : Caller) (a : ℕ) (try : ℕ) (ending : Option End) (item : PlainItem) → MayReachAnswerer c a item →
    MayReachAnswerer (record c { try = try; ending = ending }) a item
same_old c a try ending (checked octets) h = h
same_old c a try ending (framed (dcs params)) h = h
same_old c a try ending (framed (fcd number octets)) h = h
same_old c a try ending (framed rcp) h = h
same_old c a try ending (framed (pps ends page block last)) h = h
same_old c a try ending (framed rr) h = h
same_old c a try ending (framed dcn) h = h
same_old c a try ending (framed _) h = absurd h

gives_up_timer :
    (c : Caller) (s : Answerer) (a : ℕ) (why : End) → IsGivingUp why → StationFacts c s a → TimerKeeps c s a (caller_gives_up c why)
gives_up_timer c s a why may f = record {
  keeps = gives_up_keeps c s a why may f;
  old = λ item h. same_old c a c.try (Some why) item h;
  quiet = λ e. cc;
}

tries_timer :
    (c : Caller) (s : Answerer) (a : ℕ) (turn : Turn) →
    Each (MayReachAnswerer (record c { try = suc c.try }) a) (caller_items (record c { try = suc c.try }) turn) → turn ≢ Silent →
    StationFacts c s a →
    TimerKeeps c s a (tries_again c turn)
tries_timer c s a turn items not f =
    either (TimerKeeps c s a) (nat_lt c.try 3) _ _
    (λ h. record {
      keeps = record { stations = tried c s a (suc c.try) f; items = items; moves = λ n. no_move; same = refl };
      old = λ item h. same_old c a (suc c.try) c.ending item h;
      quiet = λ e. refl;
    })
    (λ h. gives_up_timer c s a NoReply tt f)

timer_table_keeps :
    (state : CallerState) (input : CallerInput) → IsTimer input → (c : Caller) (s : Answerer) (a : ℕ) → c.state ≡ state → c.ending ≡ None →
    StationFacts c s a →
    TimerKeeps c s a (caller_table state input c)
timer_table_keeps WaitDis timeout t c s a e n f = gives_up_timer c s a NoAnswer tt f
timer_table_keeps WaitCfr timeout t c s a e n f =
    tries_timer c s a SendTraining (training_fits (record c { try = suc c.try }) a e) (λ e. cc) f
timer_table_keeps WaitBlock timeout t c s a e n f =
    tries_timer c s a SendPps (pps_present _ c.state c.ending (slice_get (blocks_of c) c.place)
    (pps_fits (record c { try = suc c.try }) a (slice_get (blocks_of c) c.place) (rw e tt) refl)) (λ e. cc) f
timer_table_keeps WaitReady timeout t c s a e n f = tries_timer c s a SendRr ((rw e tt, f.waits n e), tt) (λ e. cc) f
timer_table_keeps WaitReady t5 t c s a e n f = gives_up_timer c s a StillBusy tt f
timer_table_keeps _ t5 t c s a e n f = silent_timer c s a f
timer_table_keeps _ (hears signal) t c s a e n f = elim t [ ]

unless_timer_keeps :
    (ending : Option End) (input : CallerInput) → IsTimer input → (c : Caller) (s : Answerer) (a : ℕ) → c.ending ≡ ending →
    StationFacts c s a →
    TimerKeeps c s a (unless_caller_ended ending input c)
unless_timer_keeps (Some why) input t c s a e f = silent_timer c s a f
unless_timer_keeps None input t c s a e f = timer_table_keeps c.state input t c s a refl e f

pub caller_timer_keeps :
    (input : CallerInput) → IsTimer input → (c : Caller) (s : Answerer) (a : ℕ) → StationFacts c s a →
    TimerKeeps c s a (caller_step c input)
caller_timer_keeps input t c s a f = unless_timer_keeps c.ending input t c s a refl f
