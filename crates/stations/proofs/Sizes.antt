-- The groups and blocks of a call are few.
use Rattle.std.proofs.Common.{◌≡◌, ℕ, zero, suc, ◌*◌, ◌≤◌, inl, inr, Bool, true, false, cond, Option, Some, None, List, [], ◌∷◌, refl, arith}
use Rattle.std.proofs.Common.{◌++◌, length, subst, ap, ◌∙◌, length-append}
use Rattle.std.specs.Prelude.{slice_get, nat_lt, ◌⊎◌}
use Rattle.signals.specs.Signals.{dis, cfr, ftt, ppr, mcf, rnr, dcn}
use Rattle.signals.specs.declared.params.Caps.{Caps}
use Rattle.signals.specs.declared.params.Params.{Params}
use Rattle.signals.specs.declared.signal.PageEnd.{PageEnd}
use Rattle.signals.specs.declared.signal.PageEnd.TheVariants.{Null, Mps, Eom, Eop}
use Rattle.stations.specs.Layers.{Document, code_blocks, code_within_limit, in_one_group, agreed_for, lowered}
use Rattle.stations.specs.Blocks.{Block, call_blocks, page_blocks, end_before, groups_after}
use Rattle.stations.specs.Inputs.{CallerInput, hears, timeout, t5}
use Rattle.stations.specs.CallerStep.{Caller, CallerAnswer, blocks_of, confirmed, caller_table, caller_silent, caller_gives_up, tries_again, goes_on}
use Rattle.stations.specs.CallerStep.{goes_on_or_waits, answers_dis, answers_ftt, answers_mcf, answers_ppr, answers_rnr}
use Rattle.stations.specs.CallerStep.{unless_caller_ended, caller_step, new_caller}
use Rattle.stations.specs.Lasting.{HasGroup, groups_in, blocks_in, counted_to}
use Rattle.stations.specs.Sizes.{AllShort, BlocksAreFew, IsShort, AreShort, PlaceFits, IsPlaced, StepsArePlaced, PlacedAreFew, CallersAreFew}
use Rattle.stations.specs.Runs.{caller_after}
use Rattle.stations.specs.declared.turn.CallerState.{CallerState}
use Rattle.stations.specs.declared.turn.CallerState.TheVariants.{WaitDis, WaitCfr, WaitBlock, WaitReady}
use Rattle.stations.specs.declared.turn.End.{End}
use Rattle.stations.specs.declared.turn.End.TheVariants.{Normal, NoAnswer, NotCompatible, Training as BadTraining, NoReply, Unreadable}
use Rattle.stations.specs.declared.turn.End.TheVariants.{StillBusy, PeerLeft, PageTooLong}
use Rattle.stations.specs.declared.turn.Turn.{Turn}
use Rattle.stations.specs.declared.turn.Turn.TheVariants.{Training as SendTraining, Pps as SendPps, Rr as SendRr}

either : {A : Type 0} (P : A → Type 0) (b : Bool) (x y : A) → (b ≡ true → P x) → (b ≡ false → P y) → P (cond b x y)
either P true x y f g = f refl
either P false x y f g = g refl

-- blocks of a list are short
abbrev EachShort : List Block → Type 0
EachShort [] = Unit {0}
EachShort (block ∷ blocks) = (length block.frames ≤ 256) × EachShort blocks

short_at : (blocks : List Block) (k : ℕ) → EachShort blocks → IsShort (slice_get blocks k)
short_at [] k h = tt
short_at (block ∷ blocks) zero h = h.0
short_at (block ∷ blocks) (suc k) h = short_at blocks k h.1

short_joined : (blocks more : List Block) → EachShort blocks → EachShort more → EachShort (blocks ++ more)
short_joined [] more h g = g
short_joined (block ∷ blocks) more h g = (h.0, short_joined blocks more h.1 g)

page_short :
    (params : Params) (page : ℕ) (ends : PageEnd) (place : ℕ) (blocks : List (List (List ℕ))) → AllShort blocks →
    EachShort (page_blocks params page ends place blocks)
page_short params page ends place [] h = tt
page_short params page ends place (frames ∷ []) h = (h.0, tt)
page_short params page ends place (frames ∷ next ∷ more) h = (h.0, page_short params page ends (suc place) (next ∷ more) h.1)

call_short : BlocksAreFew → (groups : List Params) (number : ℕ) (pages : Document) → EachShort (call_blocks groups number pages)
call_short law groups number [] = tt
call_short law [] number (page ∷ pages) = tt
call_short law (params ∷ groups) number (page ∷ pages) =
    let rest = call_short law (groups_after page pages (params ∷ groups)) (suc number) pages in
    either EachShort (code_within_limit params page) _ _
    (λ h. short_joined (page_blocks params number (end_before page pages) 0 (code_blocks params page))
    (call_blocks (groups_after page pages (params ∷ groups)) (suc number) pages)
    (page_short params number (end_before page pages) 0 (code_blocks params page) (law.short params page)) rest)
    (λ h. tt)

pub callers_short : BlocksAreFew → (c : Caller) → AreShort c
callers_short law c k = short_at (blocks_of c) k (call_short law (c.finished ++ c.present) 0 c.document)

page_length :
    (params : Params) (page : ℕ) (ends : PageEnd) (place : ℕ) (blocks : List (List (List ℕ))) →
    length (page_blocks params page ends place blocks) ≡ length blocks
page_length params page ends place [] = refl
page_length params page ends place (frames ∷ []) = refl
page_length params page ends place (frames ∷ next ∷ more) = ap suc (page_length params page ends (suc place) (next ∷ more))

call_few : BlocksAreFew → (groups : List Params) (number : ℕ) (pages : Document) → length (call_blocks groups number pages) ≤ 512 * length pages
call_few law groups number [] = omega arith
call_few law [] number (page ∷ pages) = omega arith
call_few law (params ∷ groups) number (page ∷ pages) =
    let rest = call_few law (groups_after page pages (params ∷ groups)) (suc number) pages in
    either (λ (blocks : List Block). length blocks ≤ 512 * suc (length pages)) (code_within_limit params page) _ _
    (λ h. (let own = page_length params number (end_before page pages) 0 (code_blocks params page) in
    let few = law.few params page h in
    let both =
    length-append (page_blocks params number (end_before page pages) 0 (code_blocks params page))
    (call_blocks (groups_after page pages (params ∷ groups)) (suc number) pages) in
    omega arith))
    (λ h. omega arith)

-- a further group takes no block away
call_grows :
    (groups more : List Params) (number : ℕ) (pages : Document) →
    length (call_blocks groups number pages) ≤ length (call_blocks (groups ++ more) number pages)
call_grows groups more number [] = omega arith
call_grows [] more number (page ∷ pages) = omega arith
call_grows (params ∷ groups) more number (page ∷ pages) =
    at (code_within_limit params page)
    (after pages (call_grows (params ∷ groups) more (suc number) pages) (call_grows groups more (suc number) pages))
  where
    after :
        (pages : Document) →
        length (call_blocks (params ∷ groups) (suc number) pages) ≤ length (call_blocks (params ∷ groups ++ more) (suc number) pages) →
        length (call_blocks groups (suc number) pages) ≤ length (call_blocks (groups ++ more) (suc number) pages) →
        length (call_blocks (groups_after page pages (params ∷ groups)) (suc number) pages) ≤
        length (call_blocks (groups_after page pages (params ∷ groups ++ more)) (suc number) pages)
    after [] same other = omega arith
    after (next ∷ pages) same other = go (in_one_group page next)
      where
        go :
            (b : Bool) →
            length (call_blocks (cond b (params ∷ groups) groups) (suc number) (next ∷ pages)) ≤
            length (call_blocks (cond b (params ∷ groups ++ more) (groups ++ more)) (suc number) (next ∷ pages))
        go true = same
        go false = other

    at :
        (b : Bool) →
        length (call_blocks (groups_after page pages (params ∷ groups)) (suc number) pages) ≤
        length (call_blocks (groups_after page pages (params ∷ groups ++ more)) (suc number) pages) →
        length
        (cond b
        (page_blocks params number (end_before page pages) 0 (code_blocks params page) ++
        call_blocks (groups_after page pages (params ∷ groups)) (suc number) pages)
        []) ≤
        length
        (cond b
        (page_blocks params number (end_before page pages) 0 (code_blocks params page) ++
        call_blocks (groups_after page pages (params ∷ groups ++ more)) (suc number) pages)
        [])
    at true less =
        let own = page_blocks params number (end_before page pages) 0 (code_blocks params page) in
        let one = length-append own (call_blocks (groups_after page pages (params ∷ groups)) (suc number) pages) in
        let two = length-append own (call_blocks (groups_after page pages (params ∷ groups ++ more)) (suc number) pages) in
        omega arith
    at false less = omega arith

-- a block that is there comes before the end
within : (blocks : List Block) (k : ℕ) (block : Block) → slice_get blocks k ≡ Some block → suc k ≤ length blocks
within [] k block h = absurd (cc h)
within (first ∷ blocks) zero block h = omega arith
within (first ∷ blocks) (suc k) block h = let less = within blocks k block h in omega arith

counted_few : (blocks : List Block) (k : ℕ) (block : Option Block) → slice_get blocks k ≡ block → k ≤ length blocks → counted_to k block ≤ length blocks
counted_few blocks k None h few = few
counted_few blocks k (Some block) h few = within blocks k block h

pub placed_are_few : BlocksAreFew → PlacedAreFew
placed_are_few law c placed = at c.state refl
  where
    begun : (state : CallerState) → c.state ≡ state → PlaceFits state c → blocks_in state c ≤ 512 * length c.document
    begun WaitDis e fits = let few = call_few law c.finished 0 c.document in omega arith
    begun WaitCfr e fits = let few = call_few law c.finished 0 c.document in omega arith
    begun WaitBlock e fits =
        let few = call_few law (c.finished ++ c.present) 0 c.document in
        let most = counted_few (blocks_of c) c.place (slice_get (blocks_of c) c.place) refl fits in
        omega arith
    begun WaitReady e fits =
        let few = call_few law (c.finished ++ c.present) 0 c.document in
        let most = counted_few (blocks_of c) c.place (slice_get (blocks_of c) c.place) refl fits in
        omega arith

    placed_few : (state : CallerState) → PlaceFits state c → c.place ≤ 512 * length c.document
    placed_few WaitDis fits = let few = call_few law c.finished 0 c.document in omega arith
    placed_few WaitCfr fits = let few = call_few law c.finished 0 c.document in omega arith
    placed_few WaitBlock fits = let few = call_few law (c.finished ++ c.present) 0 c.document in omega arith
    placed_few WaitReady fits = let few = call_few law (c.finished ++ c.present) 0 c.document in omega arith

    groups_few : (state : CallerState) → groups_in state c ≤ suc (length c.finished)
    groups_few WaitDis = omega arith
    groups_few WaitCfr = omega arith
    groups_few WaitBlock = omega arith
    groups_few WaitReady = omega arith

    at :
        (state : CallerState) → c.state ≡ state →
        (blocks_in c.state c ≤ 512 * length c.document) × (groups_in c.state c ≤ suc (512 * length c.document)) ×
        (length c.finished ≤ 512 * length c.document)
    at state e =
        let most = placed_few c.state placed.place in
        let some = placed.groups in
        let few = groups_few c.state in
        (begun c.state refl placed.place, omega arith, omega arith)

-- the steps of a caller keep it

-- a caller with the same groups, document and place, that ends
stays_placed :
    (c : Caller) (why : End) → IsPlaced c → IsPlaced (record c { ending = Some why }) × (c.document ≡ c.document)
stays_placed c why placed = (record { group = placed.group; place = at c.state placed.place; groups = placed.groups }, refl)
  where
    at : (state : CallerState) → PlaceFits state c → PlaceFits state (record c { ending = Some why })
    at WaitDis h = h
    at WaitCfr h = h
    at WaitBlock h = h
    at WaitReady h = h

abbrev Kept : Caller → CallerAnswer → Type 0
Kept c answer = IsPlaced answer.next × (answer.next.document ≡ c.document)

stays : (c : Caller) → IsPlaced c → Kept c (caller_silent c)
stays c placed = (placed, refl)

again :
    (c : Caller) (turn : Turn) (state : CallerState) → c.state ≡ state → IsPlaced c → Kept c (tries_again c turn)
again c turn state e placed =
    either (Kept c) (nat_lt c.try 3) _ _
    (λ h. (record { group = placed.group; place = at c.state placed.place; groups = placed.groups }, refl))
    (λ h. stays_placed c NoReply placed)
  where
    at : (state : CallerState) → PlaceFits state c → PlaceFits state (record c { try = suc c.try })
    at WaitDis h = h
    at WaitCfr h = h
    at WaitBlock h = h
    at WaitReady h = h

dis_kept :
    (c : Caller) (caps : Caps) (params : Option Params) → c.state ≡ WaitDis → IsPlaced c → Kept c (answers_dis c caps params)
dis_kept c caps None e placed = stays_placed c NotCompatible placed
dis_kept c caps (Some params) e placed =
    (record { group = refl; place = subst (λ s. PlaceFits s c) e placed.place; groups = placed.groups }, refl)

ftt_kept : (c : Caller) (params : Option Params) → c.state ≡ WaitCfr → IsPlaced c → Kept c (answers_ftt c params)
ftt_kept c None e placed = stays_placed c BadTraining placed
ftt_kept c (Some params) e placed = (
  record {
    group = rw e refl;
    place = (let fits = subst (λ s. PlaceFits s c) e placed.place in rw e fits);
    groups = placed.groups;
  },
  refl,
)

cfr_kept : (c : Caller) (next : Option Block) → c.state ≡ WaitCfr → IsPlaced c → Kept c (goes_on c Mps next)
cfr_kept c None e placed = stays_placed c PageTooLong placed
cfr_kept c (Some next) e placed = (
  record {
    group = subst (λ s. HasGroup s c.present) e placed.group;
    place = (let fits = subst (λ s. PlaceFits s c) e placed.place in
        let more = call_grows c.finished c.present 0 c.document in omega arith);
    groups = placed.groups;
  },
  refl,
)

-- the caller sends a block
abbrev IsSendingNow : Caller → Type 0
IsSendingNow c = (HasGroup WaitBlock c.present) × (c.place ≤ length (blocks_of c)) × (length c.finished ≤ c.place)

ppr_kept : (c : Caller) (map : List ℕ) → IsSendingNow c → IsPlaced c → Kept c (answers_ppr c map)
ppr_kept c map now placed =
    either (Kept c) (nat_lt c.pprs 3) _ _
    (λ h. (record { group = now.0; place = now.1; groups = now.2 }, refl))
    (λ h. stays_placed c Unreadable placed)

past_kept :
    (c : Caller) (why : End) (block : Block) (state : CallerState) → c.state ≡ state → (state ≡ WaitBlock) ⊎ (state ≡ WaitReady) →
    IsSendingNow c → slice_get (blocks_of c) c.place ≡ Some block →
    Kept c (caller_gives_up (record c { place = suc c.place }) why)
past_kept c why block state e (inl w) now is =
    let less = within (blocks_of c) c.place block is in
    let some = now.2 in
    (record { group = rw (e, w) now.0; place = rw (e, w) less; groups = omega arith }, refl)
past_kept c why block state e (inr w) now is =
    let less = within (blocks_of c) c.place block is in
    let some = now.2 in
    (record { group = rw (e, w) now.0; place = rw (e, w) less; groups = omega arith }, refl)

next_kept :
    (c : Caller) (block : Block) (ends : PageEnd) (next : Option Block) (state : CallerState) → c.state ≡ state →
    (state ≡ WaitBlock) ⊎ (state ≡ WaitReady) → IsSendingNow c → slice_get (blocks_of c) c.place ≡ Some block →
    Kept c (goes_on_or_waits (record c { place = suc c.place }) ends next)
next_kept c block Eom next state e s now is =
    let less = within (blocks_of c) c.place block is in
    let some = now.2 in
    let one = now.0 in
    let both = length-append c.finished c.present in
    (record { group = refl; place = less; groups = omega arith }, refl)
next_kept c block Null (Some next) state e s now is =
    let less = within (blocks_of c) c.place block is in let some = now.2 in
    (record { group = now.0; place = less; groups = omega arith }, refl)
next_kept c block Mps (Some next) state e s now is =
    let less = within (blocks_of c) c.place block is in let some = now.2 in
    (record { group = now.0; place = less; groups = omega arith }, refl)
next_kept c block Eop (Some next) state e s now is =
    let less = within (blocks_of c) c.place block is in let some = now.2 in
    (record { group = now.0; place = less; groups = omega arith }, refl)
next_kept c block Null None state e s now is = past_kept c PageTooLong block state e s now is
next_kept c block Mps None state e s now is = past_kept c PageTooLong block state e s now is
next_kept c block Eop None state e s now is = past_kept c Normal block state e s now is

mcf_kept :
    (c : Caller) (block : Option Block) (state : CallerState) → c.state ≡ state → (state ≡ WaitBlock) ⊎ (state ≡ WaitReady) →
    IsSendingNow c → IsPlaced c → slice_get (blocks_of c) c.place ≡ block → Kept c (answers_mcf c block)
mcf_kept c None state e s now placed is = stays c placed
mcf_kept c (Some block) state e s now placed is =
    next_kept c block block.ends (slice_get (blocks_of c) (suc c.place)) state e s now is

now_block : (c : Caller) → c.state ≡ WaitBlock → IsPlaced c → IsSendingNow c
now_block c e placed =
    (subst (λ s. HasGroup s c.present) e placed.group, subst (λ s. PlaceFits s c) e placed.place, placed.groups)

now_ready : (c : Caller) → c.state ≡ WaitReady → IsPlaced c → IsSendingNow c
now_ready c e placed =
    (subst (λ s. HasGroup s c.present) e placed.group, subst (λ s. PlaceFits s c) e placed.place, placed.groups)

rnr_kept : (c : Caller) → IsSendingNow c → Kept c (answers_rnr c)
rnr_kept c now = (record { group = now.0; place = now.1; groups = now.2 }, refl)

table_kept : (state : CallerState) (input : CallerInput) (c : Caller) → c.state ≡ state → IsPlaced c → Kept c (caller_table state input c)
table_kept WaitDis (hears (dis caps)) c e placed = dis_kept c caps (agreed_for caps c.wish (slice_get c.document (confirmed c))) e placed
table_kept WaitDis timeout c e placed = stays_placed c NoAnswer placed
table_kept WaitCfr (hears cfr) c e placed = cfr_kept c (slice_get (blocks_of c) c.place) e placed
table_kept WaitCfr (hears ftt) c e placed = ftt_kept c (lowered c.caps c.wish c.params) e placed
table_kept WaitCfr (hears (dis caps)) c e placed = again c SendTraining WaitCfr e placed
table_kept WaitCfr timeout c e placed = again c SendTraining WaitCfr e placed
table_kept WaitBlock (hears mcf) c e placed =
    mcf_kept c (slice_get (blocks_of c) c.place) WaitBlock e (inl refl) (now_block c e placed) placed refl
table_kept WaitBlock (hears (ppr map)) c e placed = ppr_kept c map (now_block c e placed) placed
table_kept WaitBlock (hears rnr) c e placed = rnr_kept c (now_block c e placed)
table_kept WaitBlock timeout c e placed = again c SendPps WaitBlock e placed
table_kept WaitReady (hears mcf) c e placed =
    mcf_kept c (slice_get (blocks_of c) c.place) WaitReady e (inr refl) (now_ready c e placed) placed refl
table_kept WaitReady (hears (ppr map)) c e placed = ppr_kept c map (now_ready c e placed) placed
table_kept WaitReady (hears rnr) c e placed = rnr_kept c (now_ready c e placed)
table_kept WaitReady timeout c e placed = again c SendRr WaitReady e placed
table_kept WaitReady t5 c e placed = stays_placed c StillBusy placed
table_kept _ (hears dcn) c e placed = stays_placed c PeerLeft placed
table_kept _ input c e placed = stays c placed

pub steps_are_placed : StepsArePlaced
steps_are_placed c input placed = at c.ending
  where
    at : (ending : Option End) → Kept c (unless_caller_ended ending input c)
    at None = table_kept c.state input c refl placed
    at (Some why) = stays c placed

after_placed :
    StepsArePlaced → (inputs : List CallerInput) (c : Caller) → IsPlaced c →
    IsPlaced (caller_after inputs c) × ((caller_after inputs c).document ≡ c.document)
after_placed law [] c placed = (placed, refl)
after_placed law (input ∷ inputs) c placed =
    let step = law c input placed in
    let rest = after_placed law inputs (caller_step c input).next step.0 in
    (rest.0, rest.1 ∙ step.1)

pub callers_are_few : BlocksAreFew → CallersAreFew
callers_are_few law document wish caps params inputs =
    let new = new_caller document wish caps params in
    let after = after_placed steps_are_placed inputs new (record { group = refl; place = omega arith; groups = omega arith }) in
    let few = placed_are_few law (caller_after inputs new) after.0 in
    let same : length (caller_after inputs new).document ≡ length document = ap length after.1 in
    let blocks = few.0 in
    let groups = few.1 in
    (omega arith, omega arith)
