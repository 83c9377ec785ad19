-- An undisturbed call, delivery after delivery.
use Rattle.std.proofs.Common.{◌≡◌, ◌≢◌, ℕ, zero, suc, ◌+◌, ◌≤◌, Bool, true, false, cond, List, [], ◌∷◌, ◌++◌, length, take, drop, Option}
use Rattle.std.proofs.Common.{Some, None, refl, sym, ap, subst, ◌∙◌, arith}
use Rattle.std.specs.Prelude.{slice_get, slice_set, min}
use Rattle.raster.specs.Pages.{PagePixels}
use Rattle.signals.specs.Agreement.{allowed}
use Rattle.signals.specs.Signals.{dis, dcs, cfr, fcd, rcp, mcf, dcn}
use Rattle.signals.specs.declared.params.Caps.{Caps}
use Rattle.signals.specs.declared.params.Params.{Params}
use Rattle.signals.specs.declared.params.Wish.{Wish}
use Rattle.signals.specs.declared.signal.PageEnd.{PageEnd}
use Rattle.signals.specs.declared.signal.PageEnd.TheVariants.{Null, Mps, Eom, Eop}
use Rattle.partial_page.specs.Store.{no_frames, joined_frames}
use Rattle.stations.specs.Layers.{Document, page_read, within_page_limit, agreed_for, training, is_good_training}
use Rattle.partial_page.specs.Assembling.{within_frame_size}
use Rattle.stations.specs.Blocks.{Block, mark_of, last_frame_of, joined, call_blocks, is_page_end, pages_past, pages_before, open_before}
use Rattle.stations.specs.Inputs.{PlainItem, framed, checked}
use Rattle.stations.specs.Laws.{Each, AreReadable, IsSendableFrame}
use Rattle.stations.specs.CallerStep.{Caller, all_frames, fcds, pps_of, burst_of}
use Rattle.stations.specs.AnswererStep.{Answerer, AnswererAnswer, is_repeated, state_after, accepts, stores, takes_block}
use Rattle.partial_page.specs.Assembling.{Frames, all_there}
use Rattle.stations.specs.AnswererStep.{answers_pps, answerer_items}
use Rattle.stations.specs.declared.turn.AnswererState.{AnswererState}
use Rattle.stations.specs.declared.turn.CallerState.TheVariants.{WaitDis, WaitCfr, WaitBlock}
use Rattle.stations.specs.declared.turn.AnswererState.TheVariants.{PhaseB, WaitTraining, Message}
use Rattle.stations.specs.declared.mark.Accepted.{Accepted}
use Rattle.stations.specs.declared.turn.End.TheVariants.{Normal}
use Rattle.stations.specs.declared.turn.Turn.TheVariants.{Mcf as SendMcf}
use Rattle.line_sim.specs.Line.{World, Outcome, answerer_sends, happens, run}
use Rattle.line_sim.specs.declared.event.Event.{Event}
use Rattle.line_sim.specs.declared.event.Event.TheVariants.{DeliverToAnswerer, DeliverToCaller, AnswererT2}
use Rattle.line_sim.specs.Line.Outcome.{Done}
use Rattle.line_sim.specs.LineFacts.{accepted_at, HoldsAll, IsOneGroup}
use Rattle.line_sim.specs.Polite.{is_between_groups, next_steps, and_on, polite_steps, polite, count_deliveries, deliveries, blocks_length}
use Rattle.line_sim.specs.Polite.{IsThrough}
use Rattle.line_sim.proofs.Bursts.{put_all, all_put, every_frame}
use Rattle.line_sim.proofs.Groups.{EndsIn, last_ends}
use Rattle.line_sim.proofs.Lists.{take_one_more}
use Rattle.stations.proofs.Progress.{block_fits}
use Rattle.line_sim.proofs.Marks.{not_repeated}
use Rattle.line_sim.proofs.Stores.{holds_all_whole, joined_is}

-- the world after the next delivery, if there is one
abbrev pub world_after : List (Event × Outcome) → World → Option World
world_after [] w = None
world_after (step ∷ steps) w = Some (run (step ∷ steps) w)

abbrev pub next_world : World → List PlainItem → List PlainItem → Option World
next_world w xs ys = world_after (next_steps w xs ys) w

-- what a polite run does after its first delivery
between_is :
    (w next : World) (b : Bool) (most : ℕ) → world_after (cond b ((AnswererT2, Done) ∷ (DeliverToCaller, Done) ∷ []) []) w ≡ Some next →
    (run (and_on (cond b ((AnswererT2, Done) ∷ (DeliverToCaller, Done) ∷ []) []) (polite_steps most) w) w ≡ polite most next)
    × (count_deliveries (and_on (cond b ((AnswererT2, Done) ∷ (DeliverToCaller, Done) ∷ []) []) (polite_steps most) w) ≡
    suc (deliveries most next))
between_is w next true most e =
    let same : happens (happens w AnswererT2 Done) DeliverToCaller Done ≡ next = cc in
    (ap (λ (v : World). polite most v) same, ap (λ (v : World). suc (deliveries most v)) same)
between_is w next false most e = cc

next_is : (w next : World) (xs ys : List PlainItem) (most : ℕ) → next_world w xs ys ≡ Some next →
    (run (and_on (next_steps w xs ys) (polite_steps most) w) w ≡ polite most next)
    × (count_deliveries (and_on (next_steps w xs ys) (polite_steps most) w) ≡ suc (deliveries most next))
next_is w next [] [] most e = between_is w next (is_between_groups w) most e
next_is w next [] (y ∷ ys) most e =
    let same : happens w DeliverToCaller Done ≡ next = cc in
    (ap (λ (v : World). polite most v) same, ap (λ (v : World). suc (deliveries most v)) same)
next_is w next (x ∷ xs) ys most e =
    let same : happens w DeliverToAnswerer Done ≡ next = cc in
    (ap (λ (v : World). polite most v) same, ap (λ (v : World). suc (deliveries most v)) same)

quiet_between :
    (w : World) (b : Bool) (rest : World → List (Event × Outcome)) →
    world_after (cond b ((AnswererT2, Done) ∷ (DeliverToCaller, Done) ∷ []) []) w ≡ None →
    and_on (cond b ((AnswererT2, Done) ∷ (DeliverToCaller, Done) ∷ []) []) rest w ≡ []
quiet_between w true rest e = cc
quiet_between w false rest e = refl

quiet_is :
    (w : World) (xs ys : List PlainItem) (rest : World → List (Event × Outcome)) → next_world w xs ys ≡ None →
    and_on (next_steps w xs ys) rest w ≡ []
quiet_is w [] [] rest e = quiet_between w (is_between_groups w) rest e
quiet_is w [] (y ∷ ys) rest e = cc
quiet_is w (x ∷ xs) ys rest e = cc

-- so many deliveries lead from a world to another
pub data Leads : ℕ → World → World → Type 0 where
  here : {w : World} → Leads zero w w
  by : {n : ℕ} {w next after : World} → next_world w w.to_answerer w.to_caller ≡ Some next → Leads n next after → Leads (suc n) w after

pub leads_then : (m n : ℕ) (v w x : World) → Leads m v w → Leads n w x → Leads (m + n) v x
leads_then _ n v w x here k = let e : n ≡ 0 + n = omega arith in subst (λ i. Leads i v x) e k
leads_then _ n v w x (by {n = m} {next = next} is h) k =
    let e : suc (m + n) ≡ suc m + n = omega arith in
    subst (λ i. Leads i v x) e (by is (leads_then m n next w x h k))

pub lead_one : (w next after : World) → next_world w w.to_answerer w.to_caller ≡ Some next → next ≡ after → Leads 1 w after
lead_one w next after is e = by is (subst (λ x. Leads 0 next x) e here)

-- what leads to a quiet world is what a polite run does
pub polite_is :
    (n : ℕ) (w after : World) → Leads n w after → next_world after after.to_answerer after.to_caller ≡ None → (most : ℕ) →
    (deliveries most w ≡ min n most) × (n ≤ most → polite most w ≡ after)
polite_is _ w after here quiet zero = (omega arith, λ h. refl)
polite_is _ w after here quiet (suc most) =
    let none = quiet_is w w.to_answerer w.to_caller (polite_steps most) quiet in
    let few : 0 ≡ min 0 (suc most) = omega arith in
    (ap count_deliveries none ∙ few, λ h. ap (λ steps. run steps w) none)
polite_is _ w after (by {n = n} {next = next} is rest) quiet zero = (omega arith, λ h. absurd (omega arith))
polite_is _ w after (by {n = n} {next = next} is rest) quiet (suc most) =
    let later = polite_is n next after rest quiet most in
    let first = next_is w next w.to_answerer w.to_caller most is in
    let more : suc (deliveries most next) ≡ min (suc n) (suc most) = omega (arith, later.0) in
    (first.1 ∙ more, λ h. first.0 ∙ later.1 (omega arith))

-- before a group the caller waits for a DIS
abbrev pub waiting :
    Document → Wish → Caps → List Params → Caps → Params → Bool → ℕ → ℕ → ℕ → Option Accepted → List ℕ → List PagePixels → List PlainItem →
    World
waiting document wish caps finished known old ready place try pprs accepted octets pages items =
    record {
      caller = record {
        document = document;
        wish = wish;
        caps = known;
        finished = finished;
        present = [];
        params = old;
        state = WaitDis;
        place = place;
        try = try;
        pprs = pprs;
        ending = None;
      };
      answerer = record {
        caps = caps;
        params = old;
        state = PhaseB;
        busy = false;
        accepted = accepted;
        asked = None;
        octets = octets;
        frames = no_frames;
        ready = ready;
        pages = pages;
        ending = None;
      };
      to_answerer = [];
      to_caller = items;
    }

-- a call that is through
pub record CallLeads (document : Document) (w : World) (count : ℕ) : Type 0 where
  pub after : World
  pub leads : Leads count w after
  pub quiet : next_world after after.to_answerer after.to_caller ≡ None
  pub through : IsThrough document after

-- blocks have one end
one_end : (blocks : List Block) (ends others : PageEnd) → EndsIn blocks ends → EndsIn blocks others → ends ≡ others
one_end [] ends others h k = absurd h
one_end (block ∷ []) ends others h k = sym h ∙ k
one_end (block ∷ next ∷ blocks) ends others h k = one_end (next ∷ blocks) ends others h k

-- the memory for the open frames is taken with the first of them
abbrev pub is_kept : Bool → List (List ℕ) → Bool
is_kept ready [] = ready
is_kept ready (octets ∷ frames) = is_kept true frames

module _ (document : Document) (wish : Wish) (caps : Caps) (finished : List Params) (params : Params)
    (readable : AreReadable (finished ++ params ∷ []) document) where
  caller_at : ℕ → Caller
  caller_at k = record {
    document = document;
    wish = wish;
    caps = caps;
    finished = finished;
    present = params ∷ [];
    params = params;
    state = WaitBlock;
    place = k;
    try = 1;
    pprs = 0;
    ending = None;
  }

  blocks : List Block
  blocks = call_blocks (finished ++ params ∷ []) 0 document

  answerer_at : AnswererState → ℕ → Bool → Frames → Answerer
  unfolding blocks
  answerer_at state k ready store =
      record {
        caps = caps;
        params = params;
        state = state;
        busy = false;
        accepted = accepted_at blocks k;
        asked = None;
        octets = open_before blocks k;
        frames = store;
        ready = ready;
        pages = take (pages_before blocks k) document;
        ending = None;
      }

  world_at : ℕ → Bool → Frames → List PlainItem → World
  unfolding caller_at answerer_at
  world_at k ready store items = record {
    caller = caller_at k;
    answerer = answerer_at Message k ready store;
    to_answerer = items;
    to_caller = [];
  }

  frame_comes :
      (k : ℕ) (ready : Bool) (store : Frames) (number : ℕ) (octets : List ℕ) (items : List PlainItem) →
      within_frame_size params octets ≡ true →
      happens (world_at k ready store (framed (fcd number octets) ∷ items)) DeliverToAnswerer Done ≡
      world_at k true (slice_set store number (Some octets)) items
  unfolding world_at
  frame_comes k ready store number octets items long = rw long refl

  frames_come :
      (k : ℕ) (frames : List (List ℕ)) (ready : Bool) (store : Frames) (number : ℕ) (items : List PlainItem) →
      Each (IsSendableFrame params) frames → number + length frames ≤ 256 →
      Leads (length frames) (world_at k ready store (fcds all_frames number frames ++ items))
      (world_at k (is_kept ready frames) (put_all store number frames) items)
  unfolding world_at
  frames_come k [] ready store number items long fits = here
  frames_come k (octets ∷ frames) ready store number items long fits =
      let rest = frames_come k frames true (slice_set store number (Some octets)) (suc number) items long.1 (omega arith) in
      subst (λ mark. Leads (suc (length frames))
      (world_at k ready store (cond mark (framed (fcd number octets) ∷ fcds all_frames (suc number) frames)
      (fcds all_frames (suc number) frames) ++ items))
      (world_at k (is_kept true frames) (put_all (slice_set store number (Some octets)) (suc number) frames) items))
      (sym (every_frame number (omega arith)))
      (by refl
      (subst (λ w. Leads (length frames) w (world_at k (is_kept true frames)
      (put_all (slice_set store number (Some octets)) (suc number) frames) items))
      (sym (frame_comes k ready store number octets (fcds all_frames (suc number) frames ++ items) long.0.agreed)) rest))

  stored_turn : (s : Answerer) (ends : PageEnd) (block : Block) (page : Option PagePixels) (p : PagePixels) → page ≡ Some p →
      stores s ends (mark_of block) page ≡ accepts s ends (mark_of block) [] (s.pages ++ p ∷ [])
  stored_turn s ends block None p e = cc
  stored_turn s ends block (Some page) p e = let same : page ≡ p = cc in rw same refl

  -- a page's last block
  taken_page :
      (k : ℕ) (ready : Bool) (store : Frames) (block : Block) (ends : PageEnd) (page : PagePixels) → block.ends ≡ ends →
      is_page_end ends ≡ true → slice_get blocks k ≡ Some block →
      slice_get document (pages_before blocks k) ≡ Some page → page_read params (open_before blocks k ++ joined block.frames) ≡ Some page →
      stores (answerer_at Message k ready store) ends (mark_of block) (page_read params (open_before blocks k ++ joined block.frames)) ≡
      record { next = answerer_at (state_after ends) (suc k) ready no_frames; turn = SendMcf }
  unfolding blocks answerer_at
  taken_page k ready store block ends page e end is at reads =
      stored_turn (answerer_at Message k ready store) ends block (page_read params (open_before blocks k ++ joined block.frames)) page reads
      ∙ rw (is, e, end) (ap (λ (pages : List PagePixels). accepts (answerer_at Message k ready store) ends (mark_of block) [] pages)
      (sym (take_one_more document (pages_before blocks k) page at)))

  -- the block is accepted
  taken :
      (k : ℕ) (ready : Bool) (store : Frames) (block : Block) (ends : PageEnd) → block.params ≡ params → block.ends ≡ ends →
      slice_get blocks k ≡ Some block →
      takes_block (answerer_at Message k ready store) ends (mark_of block) (open_before blocks k ++ joined block.frames) ≡
      record { next = answerer_at (state_after ends) (suc k) ready no_frames; turn = SendMcf }
  unfolding blocks answerer_at
  taken k ready store block Null own e is =
      let fits = block_fits (finished ++ params ∷ []) document readable k block is in
      let long : within_page_limit (open_before blocks k ++ joined block.frames) ≡ true = fits.long e in
      rw (long, is, e) refl
  taken k ready store block Mps own e is =
      let reads = (block_fits (finished ++ params ∷ []) document readable k block is).read (rw e refl) in
      taken_page k ready store block Mps reads.0 e refl is reads.1
      (ap (λ p. page_read p (open_before blocks k ++ joined block.frames)) (sym own) ∙ reads.2)
  taken k ready store block Eom own e is =
      let reads = (block_fits (finished ++ params ∷ []) document readable k block is).read (rw e refl) in
      taken_page k ready store block Eom reads.0 e refl is reads.1
      (ap (λ p. page_read p (open_before blocks k ++ joined block.frames)) (sym own) ∙ reads.2)
  taken k ready store block Eop own e is =
      let reads = (block_fits (finished ++ params ∷ []) document readable k block is).read (rw e refl) in
      taken_page k ready store block Eop reads.0 e refl is reads.1
      (ap (λ p. page_read p (open_before blocks k ++ joined block.frames)) (sym own) ∙ reads.2)

  picks_first : {A : Type 0} (b : Bool) (x y : A) → b ≡ true → cond b x y ≡ x
  picks_first true x y e = refl
  picks_first false x y e = cc

  picks_second : {A : Type 0} (b : Bool) (x y : A) → b ≡ false → cond b x y ≡ y
  picks_second true x y e = cc
  picks_second false x y e = refl

  bool_false : (b : Bool) → (b ≡ true → ⊥) → b ≡ false
  bool_false true h = absurd (h refl)
  bool_false false h = refl

  pps_answered :
      (k : ℕ) (ready : Bool) (store : Frames) (block : Block) → block.params ≡ params → slice_get blocks k ≡ Some block →
      HoldsAll store block.frames →
      answers_pps (answerer_at Message k ready store) block.ends (mark_of block) (last_frame_of block) ≡
      record { next = answerer_at (state_after block.ends) (suc k) ready no_frames; turn = SendMcf }
  unfolding blocks answerer_at
  pps_answered k ready store block own is all =
      let fits = block_fits (finished ++ params ∷ []) document readable k block is in
      let new : is_repeated (accepted_at blocks k) (mark_of block) ≡ false =
      bool_false _ (not_repeated (finished ++ params ∷ []) document readable k block is) in
      let whole : all_there store (last_frame_of block) ≡ true = holds_all_whole block.frames store fits.sendable.0 all in
      let octets : joined_frames store (last_frame_of block + 1) ≡ joined block.frames = joined_is block.frames store fits.sendable.0 all in
      picks_second (is_repeated (accepted_at blocks k) (mark_of block)) _ _ new
      ∙ picks_first (all_there store (last_frame_of block)) _ _ whole
      ∙ ap (λ (o : List ℕ). takes_block (answerer_at Message k ready store) block.ends (mark_of block) (open_before blocks k ++ o)) octets
      ∙ taken k ready store block block.ends own refl is

  -- MCF is under way
  confirming_at : PageEnd → ℕ → Bool → World
  unfolding caller_at answerer_at
  confirming_at ends k ready = record {
    caller = caller_at k;
    answerer = answerer_at (state_after ends) (suc k) ready no_frames;
    to_answerer = [];
    to_caller = framed mcf ∷ [];
  }

  pps_comes :
      (k : ℕ) (ready : Bool) (store : Frames) (block : Block) → block.params ≡ params → slice_get blocks k ≡ Some block →
      HoldsAll store block.frames →
      happens (world_at k ready store (pps_of block ∷ [])) DeliverToAnswerer Done ≡ confirming_at block.ends k ready
  unfolding world_at confirming_at
  pps_comes k ready store block own is all =
      ap (λ (answer : AnswererAnswer). answerer_sends answer.turn (world_at k ready store []) answer.next
      (answerer_items answer.next answer.turn)) (pps_answered k ready store block own is all)

  -- a whole block goes through
  block_comes : (k : ℕ) (ready : Bool) (block : Block) → block.params ≡ params → slice_get blocks k ≡ Some block →
      Leads (length block.frames + 4) (world_at k ready no_frames (burst_of all_frames (Some block)))
      (confirming_at block.ends k (is_kept ready block.frames))
  unfolding blocks world_at
  block_comes k ready block own is =
      let fits = block_fits (finished ++ params ∷ []) document readable k block is in
      let store = put_all no_frames 0 block.frames in
      let kept = is_kept ready block.frames in
      leads_then (length block.frames) 4 _ (world_at k kept store (framed rcp ∷ framed rcp ∷ framed rcp ∷ pps_of block ∷ [])) _
      (frames_come k block.frames ready no_frames 0 (framed rcp ∷ framed rcp ∷ framed rcp ∷ pps_of block ∷ [])
      (subst (λ p. Each (IsSendableFrame p) block.frames) own fits.sendable.1) (omega (arith, fits.sendable.2)))
      (by refl (by refl (by refl
      (lead_one (world_at k kept store (pps_of block ∷ [])) _ (confirming_at block.ends k kept) refl
      (pps_comes k kept store block own is (all_put block.frames fits.sendable.2))))))

  -- the group's next block goes out
  mcf_comes :
      (k : ℕ) (ready : Bool) (block next : Block) (ends : PageEnd) → block.ends ≡ ends → ends ≢ Eom → slice_get blocks k ≡ Some block →
      slice_get blocks (suc k) ≡ Some next →
      happens (confirming_at ends k ready) DeliverToCaller Done ≡ world_at (suc k) ready no_frames (burst_of all_frames (Some next))
  unfolding blocks world_at confirming_at
  mcf_comes k ready block next Null e not is then = rw (is, e, then) (rw then refl)
  mcf_comes k ready block next Mps e not is then = rw (is, e, then) (rw then refl)
  mcf_comes k ready block next Eom e not is then = absurd (not refl)
  mcf_comes k ready block next Eop e not is then = rw (is, e, then) (rw then refl)

  -- what the last MCF of a group leaves
  record EndOfGroup (count k : ℕ) (ready : Bool) : Type 0 where
    last : ℕ
    block : Block
    kept : Bool
    is : slice_get blocks last ≡ Some block
    over : drop (suc last) blocks ≡ []
    leads : Leads count (world_at k ready no_frames (burst_of all_frames (slice_get blocks k)))
        (happens (confirming_at block.ends last kept) DeliverToCaller Done)

  lead_mcf :
      (ends : PageEnd) (k : ℕ) (ready : Bool) (after : World) → happens (confirming_at ends k ready) DeliverToCaller Done ≡ after →
      Leads 1 (confirming_at ends k ready) after
  unfolding confirming_at
  lead_mcf ends k ready after e = lead_one (confirming_at ends k ready) _ after refl e

  head_at :
      (rest : List Block) (k : ℕ) (block : Block) (more : List Block) → drop k rest ≡ block ∷ more →
      (slice_get rest k ≡ Some block) × (drop (suc k) rest ≡ more)
  head_at [] zero block more e = cc
  head_at [] (suc k) block more e = cc
  head_at (first ∷ rest) zero block more e = (let same : first ≡ block = cc in ap Some same, cc)
  head_at (first ∷ rest) (suc k) block more e = head_at rest k block more e

  -- a group's blocks go through, from the burst of block k on
  group_comes :
      (rest : List Block) (k : ℕ) (ready : Bool) → drop k blocks ≡ rest → rest ≢ [] → IsOneGroup params rest →
      EndOfGroup (blocks_length rest) k ready
  unfolding blocks
  group_comes [] k ready at some group = absurd (some refl)
  group_comes (block ∷ []) k ready at some group =
      let here_is = head_at blocks k block [] at in
      let kept = is_kept ready block.frames in
      let number : (length block.frames + 4) + 1 ≡ (length block.frames + 5) + 0 = omega arith in
      record {
        last = k;
        block = block;
        kept = kept;
        is = here_is.0;
        over = here_is.1;
        leads = rw here_is.0 (subst (λ n. Leads n (world_at k ready no_frames (burst_of all_frames (Some block)))
            (happens (confirming_at block.ends k kept) DeliverToCaller Done)) number
            (leads_then (length block.frames + 4) 1 _ (confirming_at block.ends k kept) _ (block_comes k ready block group.0 here_is.0)
            (lead_mcf block.ends k kept _ refl)));
      }
  group_comes (block ∷ next ∷ more) k ready at some group =
      let here_is = head_at blocks k block (next ∷ more) at in
      let next_is = head_at blocks (suc k) next more here_is.1 in
      let kept = is_kept ready block.frames in
      let later = group_comes (next ∷ more) (suc k) kept here_is.1 (λ e. cc) group.2 in
      let not : block.ends ≢ Eom = λ e. (let none : next ∷ more ≡ [] = group.1 e in cc) in
      let number : (length block.frames + 4) + (1 + blocks_length (next ∷ more)) ≡ (length block.frames + 5) + blocks_length (next ∷ more) =
      omega arith in
      let after = happens (confirming_at later.block.ends later.last later.kept) DeliverToCaller Done in
      record {
        last = later.last;
        block = later.block;
        kept = later.kept;
        is = later.is;
        over = later.over;
        leads = rw here_is.0 (subst (λ n. Leads n (world_at k ready no_frames (burst_of all_frames (Some block))) after) number
            (leads_then (length block.frames + 4) (1 + blocks_length (next ∷ more)) _ (confirming_at block.ends k kept) _
            (block_comes k ready block group.0 here_is.0)
            (leads_then 1 (blocks_length (next ∷ more)) _ (world_at (suc k) kept no_frames (burst_of all_frames (Some next))) _
            (lead_mcf block.ends k kept (world_at (suc k) kept no_frames (burst_of all_frames (Some next)))
            (mcf_comes k kept block next block.ends refl not here_is.0 next_is.0))
            (subst (λ b. Leads (blocks_length (next ∷ more))
            (world_at (suc k) kept no_frames (burst_of all_frames b)) after) next_is.0 later.leads))));
      }

  -- a group's DIS came: the caller waits for CFR
  caller_asks : ℕ → ℕ → Caller
  caller_asks place pprs = record {
    document = document;
    wish = wish;
    caps = caps;
    finished = finished;
    present = params ∷ [];
    params = params;
    state = WaitCfr;
    place = place;
    try = 1;
    pprs = pprs;
    ending = None;
  }

  -- an answerer with no frame open, and what it remembers
  answerer_with : Params → AnswererState → Bool → Option Accepted → List ℕ → List PagePixels → Answerer
  answerer_with own state ready accepted octets pages =
      record {
        caps = caps;
        params = own;
        state = state;
        busy = false;
        accepted = accepted;
        asked = None;
        octets = octets;
        frames = no_frames;
        ready = ready;
        pages = pages;
        ending = None;
      }

  -- DCS and a training check are under way; then the training check alone; then CFR
  ordered : Params → Bool → ℕ → ℕ → Option Accepted → List ℕ → List PagePixels → World
  unfolding caller_asks answerer_with
  ordered own ready place pprs accepted octets pages =
      record {
        caller = caller_asks place pprs;
        answerer = answerer_with own PhaseB ready accepted octets pages;
        to_answerer = framed (dcs params) ∷ checked (training params) ∷ [];
        to_caller = [];
      }

  told : ℕ → ℕ → Option Accepted → List ℕ → List PagePixels → World
  unfolding caller_asks answerer_with
  told place pprs accepted octets pages =
      record {
        caller = caller_asks place pprs;
        answerer = answerer_with params WaitTraining false accepted octets pages;
        to_answerer = checked (training params) ∷ [];
        to_caller = [];
      }

  trained : ℕ → ℕ → Option Accepted → List ℕ → List PagePixels → World
  unfolding caller_asks answerer_with
  trained place pprs accepted octets pages =
      record {
        caller = caller_asks place pprs;
        answerer = answerer_with params Message false accepted octets pages;
        to_answerer = [];
        to_caller = framed cfr ∷ [];
      }

  -- the group's first block goes out
  begun : ℕ → Option Accepted → List ℕ → List PagePixels → World
  unfolding caller_at answerer_with blocks
  begun place accepted octets pages =
      record {
        caller = caller_at place;
        answerer = answerer_with params Message false accepted octets pages;
        to_answerer = burst_of all_frames (slice_get blocks place);
        to_caller = [];
      }

  dcs_comes :
      (own : Params) (ready : Bool) (place pprs : ℕ) (accepted : Option Accepted) (octets : List ℕ) (pages : List PagePixels) →
      allowed caps params ≡ true →
      happens (ordered own ready place pprs accepted octets pages) DeliverToAnswerer Done ≡ told place pprs accepted octets pages
  unfolding ordered told
  dcs_comes own ready place pprs accepted octets pages may = rw may refl

  training_comes :
      (place pprs : ℕ) (accepted : Option Accepted) (octets : List ℕ) (pages : List PagePixels) →
      is_good_training (training params) params ≡ true →
      happens (told place pprs accepted octets pages) DeliverToAnswerer Done ≡ trained place pprs accepted octets pages
  unfolding told trained
  training_comes place pprs accepted octets pages good = rw good refl

  cfr_comes :
      (place pprs : ℕ) (accepted : Option Accepted) (octets : List ℕ) (pages : List PagePixels) (block : Block) →
      slice_get blocks place ≡ Some block →
      happens (trained place pprs accepted octets pages) DeliverToCaller Done ≡ begun place accepted octets pages
  unfolding trained begun blocks
  cfr_comes place pprs accepted octets pages block is = rw is (rw is refl)

  begun_is :
      (place : ℕ) (accepted : Option Accepted) (octets : List ℕ) (pages : List PagePixels) → accepted ≡ accepted_at blocks place →
      octets ≡ open_before blocks place → pages ≡ take (pages_before blocks place) document →
      begun place accepted octets pages ≡ world_at place false no_frames (burst_of all_frames (slice_get blocks place))
  unfolding begun world_at blocks
  begun_is place accepted octets pages a o p = rw (a, o, p) refl

  opens :
      (own : Params) (ready : Bool) (place pprs : ℕ) (accepted : Option Accepted) (octets : List ℕ) (pages : List PagePixels)
      (block : Block) →
      allowed caps params ≡ true → is_good_training (training params) params ≡ true → slice_get blocks place ≡ Some block →
      Leads 3 (ordered own ready place pprs accepted octets pages) (begun place accepted octets pages)
  unfolding ordered told trained
  opens own ready place pprs accepted octets pages block may good is =
      leads_then 1 2 _ (told place pprs accepted octets pages) _
      (lead_one (ordered own ready place pprs accepted octets pages) _ (told place pprs accepted octets pages) refl
      (dcs_comes own ready place pprs accepted octets pages may))
      (leads_then 1 1 _ (trained place pprs accepted octets pages) _
      (lead_one (told place pprs accepted octets pages) _ (trained place pprs accepted octets pages) refl
      (training_comes place pprs accepted octets pages good))
      (lead_one (trained place pprs accepted octets pages) _ (begun place accepted octets pages) refl
      (cfr_comes place pprs accepted octets pages block is)))

  -- the caller's DCN is under way; then the call is through
  leaving : ℕ → Bool → World
  unfolding caller_at answerer_at
  leaving k ready = record {
    caller = record (caller_at k) { ending = Some Normal };
    answerer = answerer_at Message k ready no_frames;
    to_answerer = framed dcn ∷ [];
    to_caller = [];
  }

  left : ℕ → Bool → World
  unfolding caller_at answerer_at
  left k ready = record {
    caller = record (caller_at k) { ending = Some Normal };
    answerer = record (answerer_at Message k ready no_frames) { ending = Some Normal };
    to_answerer = [];
    to_caller = [];
  }

  last_mcf_comes :
      (k : ℕ) (ready : Bool) (block : Block) (ends : PageEnd) → block.ends ≡ ends → ends ≡ Eop → slice_get blocks k ≡ Some block →
      slice_get blocks (suc k) ≡ None →
      happens (confirming_at ends k ready) DeliverToCaller Done ≡ leaving (suc k) ready
  unfolding blocks confirming_at leaving
  last_mcf_comes k ready block Null e end is then = cc
  last_mcf_comes k ready block Mps e end is then = cc
  last_mcf_comes k ready block Eom e end is then = cc
  last_mcf_comes k ready block Eop e end is then = rw (is, e, then) refl

  dcn_comes :
      (k : ℕ) (ready : Bool) (block : Block) → slice_get blocks k ≡ Some block → block.ends ≡ Eop →
      happens (leaving (suc k) ready) DeliverToAnswerer Done ≡ left (suc k) ready
  unfolding blocks leaving left
  dcn_comes k ready block is e = rw (is, e) refl

  -- the group is through, and the caller waits for another DIS
  group_mcf_comes :
      (k : ℕ) (ready : Bool) (block : Block) (ends : PageEnd) → block.ends ≡ ends → ends ≡ Eom → slice_get blocks k ≡ Some block →
      happens (confirming_at ends k ready) DeliverToCaller Done
      ≡ waiting document wish caps (finished ++ params ∷ []) caps params ready (suc k) 1 0 (accepted_at blocks (suc k))
      (open_before blocks (suc k)) (take (pages_before blocks (suc k)) document) []
  unfolding blocks confirming_at
  group_mcf_comes k ready block Null e end is = cc
  group_mcf_comes k ready block Mps e end is = cc
  group_mcf_comes k ready block Eom e end is = rw (is, e) refl
  group_mcf_comes k ready block Eop e end is = cc

  dis_comes : (known : Caps) (old : Params) (ready : Bool) (place try pprs : ℕ) (accepted : Option Accepted) (octets : List ℕ)
      (pages : List PagePixels) →
      agreed_for caps wish (slice_get document (pages_before (call_blocks (finished ++ []) 0 document) place)) ≡ Some params →
      happens (waiting document wish caps finished known old ready place try pprs accepted octets pages
      (framed (dis caps) ∷ [])) DeliverToCaller Done ≡ ordered old ready place pprs accepted octets pages
  unfolding ordered
  dis_comes known old ready place try pprs accepted octets pages agree = rw agree refl

  -- how a group begins: its DIS comes to a caller that waits for it, and what both remember is that of the blocks so far
  pub record Begins (w : World) (place : ℕ) : Type 0 where
    pub known : Caps
    pub old : Params
    pub ready : Bool
    pub try : ℕ
    pub pprs : ℕ
    pub accepted : Option Accepted
    pub octets : List ℕ
    pub pages : List PagePixels
    pub next : next_world w w.to_answerer w.to_caller ≡
        Some (happens (waiting document wish caps finished known old ready place try pprs accepted octets pages
        (framed (dis caps) ∷ [])) DeliverToCaller Done)
    pub accepted_is : accepted ≡ accepted_at (call_blocks (finished ++ params ∷ []) 0 document) place
    pub octets_are : octets ≡ open_before (call_blocks (finished ++ params ∷ []) 0 document) place
    pub pages_are : pages ≡ take (pages_before (call_blocks (finished ++ params ∷ []) 0 document) place) document
    pub agree : agreed_for caps wish (slice_get document (pages_before (call_blocks (finished ++ []) 0 document) place)) ≡ Some params
    pub may : allowed caps params ≡ true
    pub good : is_good_training (training params) params ≡ true

  -- a whole group, from its DIS on, up to the MCF of its last block
  record GroupLeads (w : World) (count : ℕ) : Type 0 where
    last : ℕ
    block : Block
    kept : Bool
    is : slice_get blocks last ≡ Some block
    over : drop (suc last) blocks ≡ []
    leads : Leads count w (happens (confirming_at block.ends last kept) DeliverToCaller Done)

  group_leads :
      (w : World) (place : ℕ) (tail : List Block) → Begins w place → drop place blocks ≡ tail → tail ≢ [] → IsOneGroup params tail →
      GroupLeads w (4 + blocks_length tail)
  unfolding blocks
  group_leads w place [] b at some group = absurd (some refl)
  group_leads w place (block ∷ more) b at some group =
      let rest = group_comes (block ∷ more) place false at some group in
      let first = (head_at blocks place block more at).0 in
      let start = ordered b.old b.ready place b.pprs b.accepted b.octets b.pages in
      let after = happens (confirming_at rest.block.ends rest.last rest.kept) DeliverToCaller Done in
      let opened : Leads 3 start (world_at place false no_frames (burst_of all_frames (slice_get blocks place))) =
      subst (Leads 3 start) (begun_is place b.accepted b.octets b.pages b.accepted_is b.octets_are b.pages_are)
      (opens b.old b.ready place b.pprs b.accepted b.octets b.pages block b.may b.good first) in
      let number : 1 + (3 + blocks_length (block ∷ more)) ≡ 4 + blocks_length (block ∷ more) = omega arith in
      record {
        last = rest.last;
        block = rest.block;
        kept = rest.kept;
        is = rest.is;
        over = rest.over;
        leads = subst (λ n. Leads n w after) number
            (leads_then 1 (3 + blocks_length (block ∷ more)) w start after
            (lead_one w _ start b.next (dis_comes b.known b.old b.ready place b.try b.pprs b.accepted b.octets b.pages b.agree))
            (leads_then 3 (blocks_length (block ∷ more)) start _ after opened rest.leads));
      }

  -- a block after which there is none is the last
  length_at :
      (xs : List Block) (k : ℕ) (block : Block) → slice_get xs k ≡ Some block → drop (suc k) xs ≡ [] →
      (suc k ≡ length xs) × (drop k xs ≡ block ∷ [])
  length_at [] k block is over = cc
  length_at (x ∷ []) zero block is over = (refl, let same : x ≡ block = cc in ap (λ b. b ∷ []) same)
  length_at (x ∷ next ∷ xs) zero block is over = cc
  length_at (x ∷ xs) (suc k) block is over = (let rest = length_at xs k block is over in (ap suc rest.0, rest.1))

  none_after : (xs : List Block) (k : ℕ) → drop k xs ≡ [] → slice_get xs k ≡ None
  none_after [] k e = refl
  none_after (x ∷ xs) zero e = cc
  none_after (x ∷ xs) (suc k) e = none_after xs k e

  take_whole : {A : Type 0} (xs : List A) (n : ℕ) → n ≡ length xs → take n xs ≡ xs
  take_whole [] zero e = refl
  take_whole [] (suc n) e = refl
  take_whole (x ∷ xs) zero e = absurd (omega arith)
  take_whole (x ∷ xs) (suc n) e = ap (λ l. x ∷ l) (take_whole xs n (omega arith))

  left_through : (k : ℕ) (ready : Bool) → pages_before blocks k ≡ length document → IsThrough document (left k ready)
  unfolding left blocks
  left_through k ready all = record {
    caller_end = refl;
    answerer_end = refl;
    confirmed_all = all;
    stored_all = take_whole document (pages_before blocks k) all;
  }

  quiet_left : (k : ℕ) (ready : Bool) → next_world (left k ready) (left k ready).to_answerer (left k ready).to_caller ≡ None
  unfolding left
  quiet_left k ready = refl

  lead_dcn :
      (k : ℕ) (ready : Bool) (after : World) → happens (leaving k ready) DeliverToAnswerer Done ≡ after → Leads 1 (leaving k ready) after
  unfolding leaving
  lead_dcn k ready after e = lead_one (leaving k ready) _ after refl e

  -- the document's last group: the call is through
  pub last_group_leads :
      (w : World) (place : ℕ) (tail : List Block) → Begins w place → drop place (call_blocks (finished ++ params ∷ []) 0 document) ≡ tail →
      tail ≢ [] → IsOneGroup params tail →
      EndsIn (call_blocks (finished ++ params ∷ []) 0 document) Eop → CallLeads document w (5 + blocks_length tail)
  unfolding blocks
  last_group_leads w place tail b at some group ends =
      let g = group_leads w place tail b at some group in
      let end = length_at blocks g.last g.block g.is g.over in
      let eop : g.block.ends ≡ Eop = one_end blocks g.block.ends Eop (last_ends blocks g.last g.block end.1) ends in
      let fits = block_fits (finished ++ params ∷ []) document readable g.last g.block g.is in
      let all : pages_before blocks (suc g.last) ≡ length document = ap (λ x. pages_past x (pages_before blocks g.last)) g.is ∙
      rw eop (fits.eop eop) in
      let after = happens (confirming_at g.block.ends g.last g.kept) DeliverToCaller Done in
      let number : (4 + blocks_length tail) + 1 ≡ 5 + blocks_length tail = omega arith in
      let said : after ≡ leaving (suc g.last) g.kept =
      last_mcf_comes g.last g.kept g.block g.block.ends refl eop g.is (none_after blocks (suc g.last) g.over) in
      record {
        after = left (suc g.last) g.kept;
        leads = subst (λ n. Leads n w (left (suc g.last) g.kept)) number
            (leads_then (4 + blocks_length tail) 1 w (leaving (suc g.last) g.kept) (left (suc g.last) g.kept)
            (subst (Leads (4 + blocks_length tail) w) said g.leads)
            (lead_dcn (suc g.last) g.kept (left (suc g.last) g.kept) (dcn_comes g.last g.kept g.block g.is eop)));
        quiet = quiet_left (suc g.last) g.kept;
        through = left_through (suc g.last) g.kept all;
      }

  -- a group that another one follows: the caller waits for a DIS again
  pub record GroupPasses (w : World) (count : ℕ) : Type 0 where
    pub last : ℕ
    pub block : Block
    pub kept : Bool
    pub length_is : suc last ≡ length (call_blocks (finished ++ params ∷ []) 0 document)
    pub at_last : drop last (call_blocks (finished ++ params ∷ []) 0 document) ≡ block ∷ []
    pub eom : block.ends ≡ Eom
    pub leads : Leads count w
        (waiting document wish caps (finished ++ params ∷ []) caps params kept (suc last) 1 0
        (accepted_at (call_blocks (finished ++ params ∷ []) 0 document) (suc last))
        (open_before (call_blocks (finished ++ params ∷ []) 0 document) (suc last))
        (take (pages_before (call_blocks (finished ++ params ∷ []) 0 document) (suc last)) document) [])

  pub group_passes :
      (w : World) (place : ℕ) (tail : List Block) → Begins w place → drop place (call_blocks (finished ++ params ∷ []) 0 document) ≡ tail →
      tail ≢ [] → IsOneGroup params tail →
      EndsIn (call_blocks (finished ++ params ∷ []) 0 document) Eom → GroupPasses w (4 + blocks_length tail)
  unfolding blocks
  group_passes w place tail b at some group ends =
      let g = group_leads w place tail b at some group in
      let end = length_at blocks g.last g.block g.is g.over in
      let eom : g.block.ends ≡ Eom = one_end blocks g.block.ends Eom (last_ends blocks g.last g.block end.1) ends in
      record {
        last = g.last;
        block = g.block;
        kept = g.kept;
        length_is = end.0;
        at_last = end.1;
        eom = eom;
        leads = subst (Leads (4 + blocks_length tail) w) (group_mcf_comes g.last g.kept g.block g.block.ends refl eom g.is) g.leads;
      }
