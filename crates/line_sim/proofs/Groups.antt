-- The blocks of the groups that are through stay as another group is begun, and a group ends where its blocks do.
use Rattle.std.proofs.Common.{◌≡◌, ◌≢◌, ℕ, zero, suc, ◌+◌, ◌≤◌, ◌<◌, Bool, true, false, cond, List, [], ◌∷◌, ◌++◌, length, drop, Some, None}
use Rattle.std.proofs.Common.{Option, refl, sym, ap, subst, ◌∙◌, arith}
use Rattle.std.specs.Prelude.{slice_get}
use Rattle.std.proofs.Common.{inl, inr, length-append}
use Rattle.std.proofs.lemmas.Bool.{cases_Bool}
use Rattle.raster.specs.Pages.{PagePixels}
use Rattle.signals.specs.declared.params.Params.{Params}
use Rattle.signals.specs.declared.signal.PageEnd.{PageEnd}
use Rattle.signals.specs.declared.signal.PageEnd.TheVariants.{Null, Mps, Eom, Eop}
use Rattle.stations.specs.Layers.{Document, in_one_group, code_blocks, code_within_limit}
use Rattle.stations.specs.Blocks.{Block, page_blocks, end_before, groups_after, call_blocks, is_page_end, pages_after, pages_past}
use Rattle.stations.specs.Blocks.{open_past, pages_before, open_before}
use Rattle.stations.specs.Laws.{AreReadable}
use Rattle.line_sim.specs.LineFacts.{accepted_at, IsOneGroup, due, GroupsThrough}
use Rattle.line_sim.proofs.Lists.{append_nil, append_assoc_lem, either, drop_nil}
use Rattle.stations.proofs.Progress.{end_before_page}
use Rattle.stations.proofs.CallerRows.{none_after_eop, groups_after_eom, groups_after_mps, page_first, page_too_long}

page_group :
    (params : Params) (number place : ℕ) (ends : PageEnd) (coding : List (List (List ℕ))) (rest : List Block) → (ends ≡ Eom → rest ≡ []) →
    IsOneGroup params rest →
    IsOneGroup params (page_blocks params number ends place coding ++ rest)
page_group params number place ends [] rest last h = h
page_group params number place ends (frames ∷ []) rest last h = (refl, last, h)
page_group params number place ends (frames ∷ next ∷ more) rest last h =
    (refl, λ e. cc, page_group params number (suc place) ends (next ∷ more) rest last h)

pub one_group : (params : Params) (number : ℕ) (pages : List PagePixels) → IsOneGroup params (call_blocks (params ∷ []) number pages)
one_group params number [] = tt
one_group params number (page ∷ []) =
    either (IsOneGroup params) (code_within_limit params page) _ _
    (λ h. page_group params number 0 Eop (code_blocks params page) [] (λ e. refl) tt) (λ h. tt)
one_group params number (page ∷ next ∷ pages) =
    let later = one_group params (suc number) (next ∷ pages) in
    either (IsOneGroup params) (code_within_limit params page) _ _ (λ h. go (in_one_group page next) later) (λ h. tt)
  where
    go : (b : Bool) → IsOneGroup params (call_blocks (params ∷ []) (suc number) (next ∷ pages)) →
        IsOneGroup params (page_blocks params number (cond b Mps Eom) 0 (code_blocks params page) ++
        call_blocks (cond b (params ∷ []) []) (suc number) (next ∷ pages))
    go true h = page_group params number 0 Mps (code_blocks params page) (call_blocks (params ∷ []) (suc number) (next ∷ pages)) (λ e. cc) h
    go false h = page_group params number 0 Eom (code_blocks params page) [] (λ e. refl) tt

pub get_front : {A : Type 0} (xs ys : List A) (k : ℕ) → k < length xs → slice_get (xs ++ ys) k ≡ slice_get xs k
get_front [] ys k h = absurd (omega arith)
get_front (x ∷ xs) ys zero h = refl
get_front (x ∷ xs) ys (suc k) h = get_front xs ys k (omega arith)

get_after : {A : Type 0} (xs ys : List A) (k : ℕ) → slice_get (xs ++ ys) (length xs + k) ≡ slice_get ys k
get_after [] ys k = (let none : 0 + k ≡ k = omega arith in ap (slice_get ys) none)
get_after (x ∷ xs) ys k = (let one : suc (length xs) + k ≡ suc (length xs + k) = omega arith in ap (slice_get (x ∷ xs ++ ys)) one ∙
    get_after xs ys k)

pub drop_front : {A : Type 0} (xs ys : List A) → drop (length xs) (xs ++ ys) ≡ ys
drop_front [] ys = refl
drop_front (x ∷ xs) ys = drop_front xs ys

pub drop_drop : {A : Type 0} (n m : ℕ) (xs : List A) → drop m (drop n xs) ≡ drop (n + m) xs
drop_drop zero m xs = (let none : m ≡ 0 + m = omega arith in ap (λ n. drop n xs) none)
drop_drop (suc n) m [] = drop_nil m [] refl ∙ sym (drop_nil (suc n + m) [] refl)
drop_drop (suc n) m (x ∷ xs) = (let one : suc (n + m) ≡ suc n + m = omega arith in drop_drop n m xs ∙ ap (λ i. drop i (x ∷ xs)) one)

pub pages_front : (xs ys : List Block) (k : ℕ) → k ≤ length xs → pages_before (xs ++ ys) k ≡ pages_before xs k
pages_front xs ys zero h = refl
pages_front xs ys (suc k) h = rw (get_front xs ys k h) (ap (pages_past (slice_get xs k)) (pages_front xs ys k (omega arith)))

pub open_front : (xs ys : List Block) (k : ℕ) → k ≤ length xs → open_before (xs ++ ys) k ≡ open_before xs k
open_front xs ys zero h = refl
open_front xs ys (suc k) h = rw (get_front xs ys k h) (ap (open_past (slice_get xs k)) (open_front xs ys k (omega arith)))

pub accepted_front : (xs ys : List Block) (k : ℕ) → k ≤ length xs → accepted_at (xs ++ ys) k ≡ accepted_at xs k
accepted_front xs ys zero h = refl
accepted_front xs ys (suc k) h = rw (get_front xs ys k h) refl

-- pages of blocks after others
past_shift : (at : Option Block) (n m : ℕ) → pages_past at (n + m) ≡ n + pages_past at m
past_shift None n m = refl
past_shift (Some block) n m = by_end block.ends
  where
    by_end : (ends : PageEnd) → pages_after ends (n + m) ≡ n + pages_after ends m
    by_end Null = refl
    by_end Mps = omega arith
    by_end Eom = omega arith
    by_end Eop = omega arith

pages_beyond : (xs ys : List Block) (k : ℕ) → pages_before (xs ++ ys) (length xs + k) ≡ pages_before xs (length xs) + pages_before ys k
pages_beyond xs ys zero =
    let none : length xs + 0 ≡ length xs = omega arith in
    let zero_more : pages_before xs (length xs) + 0 ≡ pages_before xs (length xs) = omega arith in
    ap (pages_before (xs ++ ys)) none ∙ (pages_front xs ys (length xs) (omega arith) ∙ sym zero_more)
pages_beyond xs ys (suc k) =
    let one : length xs + suc k ≡ suc (length xs + k) = omega arith in
    ap (pages_before (xs ++ ys)) one
    ∙ (ap (λ b. pages_past b (pages_before (xs ++ ys) (length xs + k))) (get_after xs ys k)
    ∙ (ap (pages_past (slice_get ys k)) (pages_beyond xs ys k) ∙
    past_shift (slice_get ys k) (pages_before xs (length xs)) (pages_before ys k)))

-- all pages of blocks
abbrev pub pages_in : List Block → ℕ
pages_in blocks = pages_before blocks (length blocks)

pub pages_both : (xs ys : List Block) → pages_in (xs ++ ys) ≡ pages_in xs + pages_in ys
pages_both xs ys = ap (pages_before (xs ++ ys)) (length-append xs ys) ∙ pages_beyond xs ys (length ys)

pub one_page :
    (params : Params) (number place : ℕ) (ends : PageEnd) (coding : List (List (List ℕ))) → coding ≢ [] → is_page_end ends ≡ true →
    pages_in (page_blocks params number ends place coding) ≡ 1
one_page params number place ends [] some end = absurd (some refl)
one_page params number place ends (frames ∷ []) some end = rw end refl
one_page params number place ends (frames ∷ next ∷ more) some end =
    pages_both (record { page = number; place = place; ends = Null; params = params; frames = frames } ∷ [])
    (page_blocks params number ends (suc place) (next ∷ more))
    ∙ (let later : pages_in (page_blocks params number ends (suc place) (next ∷ more)) ≡
    1 = one_page params number (suc place) ends (next ∷ more) (λ e. cc) end in omega (arith, later))

-- the last of some blocks has an end
abbrev pub EndsIn : List Block → PageEnd → Type 0
EndsIn [] ends = ⊥
EndsIn (block ∷ []) ends = block.ends ≡ ends
EndsIn (block ∷ next ∷ blocks) ends = EndsIn (next ∷ blocks) ends

pub last_ends : (ys : List Block) (k : ℕ) (block : Block) → drop k ys ≡ block ∷ [] → EndsIn ys block.ends
last_ends [] k block e = (let none : [] ≡ block ∷ [] = sym (drop_nil k [] refl) ∙ e in cc)
last_ends (first ∷ []) zero block e = (let same : first ≡ block = cc in ap (λ (b : Block). b.ends) same)
last_ends (first ∷ next ∷ blocks) zero block e = cc
last_ends (first ∷ []) (suc k) block e = (let none : [] ≡ block ∷ [] = sym (drop_nil k [] refl) ∙ e in cc)
last_ends (first ∷ next ∷ blocks) (suc k) block e = last_ends (next ∷ blocks) k block e

-- the last of blocks after others
pub ends_in : (xs ys : List Block) (k : ℕ) (block : Block) → length xs ≤ k → drop k (xs ++ ys) ≡ block ∷ [] → EndsIn ys block.ends
ends_in [] ys k block h e = last_ends ys k block e
ends_in (x ∷ xs) ys zero block h e = absurd (omega arith)
ends_in (x ∷ xs) ys (suc k) block h e = ends_in xs ys k block (omega arith) e

-- blocks after those of a page
ends_after : (xs ys : List Block) (ends : PageEnd) → ys ≢ [] → EndsIn (xs ++ ys) ends → EndsIn ys ends
ends_after [] ys ends some h = h
ends_after (x ∷ []) [] ends some h = absurd (some refl)
ends_after (x ∷ []) (y ∷ ys) ends some h = h
ends_after (x ∷ next ∷ xs) ys ends some h = ends_after (next ∷ xs) ys ends some h

page_ends :
    (params : Params) (number place : ℕ) (ends last : PageEnd) (coding : List (List (List ℕ))) →
    EndsIn (page_blocks params number ends place coding) last → ends ≡ last
page_ends params number place ends last [] h = absurd h
page_ends params number place ends last (frames ∷ []) h = h
page_ends params number place ends last (frames ∷ next ∷ []) h = h
page_ends params number place ends last (frames ∷ next ∷ third ∷ more) h =
    page_ends params number (suc place) ends last (next ∷ third ∷ more) h

-- a group ended: whatever groups follow, their blocks follow the group's, and all pages can be read if theirs can
pub record GroupEnds (params : Params) (number : ℕ) (pages : List PagePixels) (blocks : List Block) (count : ℕ) : Type 0 where
  pub blocks_are :
      (more : List Params) → call_blocks (params ∷ more) number pages ≡ blocks ++ call_blocks more (number + count) (drop count pages)
  pub readable : (more : List Params) → AreReadable more (drop count pages) → AreReadable (params ∷ more) pages

after_page :
    (params : Params) (number : ℕ) (page : PagePixels) (following : List PagePixels) (tail : List Block) (m : ℕ) →
    code_within_limit params page ≡ true → AreReadable (params ∷ []) (page ∷ following) →
    ((more : List Params) → call_blocks (groups_after page following (params ∷ more)) (suc number) following ≡ tail ++
    call_blocks more (suc number + m) (drop m following)) →
    ((more : List Params) → AreReadable more (drop m following) → AreReadable (groups_after page following (params ∷ more)) following) →
    GroupEnds params number (page ∷ following) (page_blocks params number (end_before page following) 0 (code_blocks params page) ++ tail)
    (suc m)
after_page params number page following tail m short readable blocks read =
    let first = page_blocks params number (end_before page following) 0 (code_blocks params page) in
    let shift : suc number + m ≡ number + suc m = omega arith in
    record {
      blocks_are = λ more. page_first params more number page following short ∙
          (ap (λ bs. first ++ bs) (blocks more) ∙ (sym (append_assoc_lem first tail _) ∙
          ap (λ n. (first ++ tail) ++ call_blocks more n (drop m following)) shift));
      readable = λ more r. (readable.0, read more r);
    }

pub no_groups : (number : ℕ) (pages : List PagePixels) → call_blocks [] number pages ≡ []
no_groups number [] = refl
no_groups number (page ∷ pages) = refl

-- a group whose last block ends it
pub group_ends :
    (params : Params) (number : ℕ) (pages : List PagePixels) → AreReadable (params ∷ []) pages →
    EndsIn (call_blocks (params ∷ []) number pages) Eom →
    GroupEnds params number pages (call_blocks (params ∷ []) number pages) (pages_in (call_blocks (params ∷ []) number pages))
group_ends params number [] readable h = absurd h
group_ends params number (page ∷ following) readable h =
    elim (cases_Bool (code_within_limit params page)) [
      | inl short ↦ started short (end_before page following) refl (λ r e. group_ends params (suc number) following r e)
      | inr long ↦ absurd (subst (λ bs. EndsIn bs Eom) (page_too_long params [] number page following long) h)
    ]
  where
    whole :
        (tail : List Block) → code_within_limit params page ≡ true →
        call_blocks (groups_after page following (params ∷ [])) (suc number) following ≡ tail →
        GroupEnds params number (page ∷ following)
        (page_blocks params number (end_before page following) 0 (code_blocks params page) ++ tail) (suc (pages_in tail)) →
        GroupEnds params number (page ∷ following) (call_blocks (params ∷ []) number (page ∷ following))
        (pages_in (call_blocks (params ∷ []) number (page ∷ following)))
    whole tail short tail_is ends =
        let first = page_blocks params number (end_before page following) 0 (code_blocks params page) in
        let is : call_blocks (params ∷ []) number (page ∷ following) ≡ first ++ tail = page_first params [] number page following short ∙
        ap (λ bs. first ++ bs) tail_is in
        let count : pages_in (first ++ tail) ≡ suc (pages_in tail) = pages_both first tail ∙
        ap (λ n. n + pages_in tail) (one_page params number 0 (end_before page following) (code_blocks params page) (readable.0 short).some
        (end_before_page page following)) ∙ (let one : 1 + pages_in tail ≡ suc (pages_in tail) = omega arith in one) in
        subst (λ bs. GroupEnds params number (page ∷ following) bs (pages_in bs)) (sym is)
        (subst (GroupEnds params number (page ∷ following) (first ++ tail)) (sym count) ends)

    last_in :
        (tail : List Block) → code_within_limit params page ≡ true →
        call_blocks (groups_after page following (params ∷ [])) (suc number) following ≡ tail →
        EndsIn (page_blocks params number (end_before page following) 0 (code_blocks params page) ++ tail) Eom
    last_in tail short tail_is = subst (λ bs. EndsIn bs Eom)
        (page_first params [] number page following short ∙
        ap (λ bs. page_blocks params number (end_before page following) 0 (code_blocks params page) ++ bs) tail_is) h

    page_last :
        code_within_limit params page ≡ true → call_blocks (groups_after page following (params ∷ [])) (suc number) following ≡ [] →
        end_before page following ≡ Eom
    page_last short none =
        page_ends params number 0 (end_before page following) Eom (code_blocks params page)
        (subst (λ bs. EndsIn bs Eom) (append_nil (page_blocks params number (end_before page following) 0 (code_blocks params page)))
        (last_in [] short none))

    goes_on :
        (tail : List Block) → call_blocks (params ∷ []) (suc number) following ≡ tail → code_within_limit params page ≡ true →
        end_before page following ≡ Mps →
        (AreReadable (params ∷ []) following → EndsIn (call_blocks (params ∷ []) (suc number) following) Eom →
        GroupEnds params (suc number) following (call_blocks (params ∷ []) (suc number) following)
        (pages_in (call_blocks (params ∷ []) (suc number) following))) →
        GroupEnds params number (page ∷ following) (call_blocks (params ∷ []) number (page ∷ following))
        (pages_in (call_blocks (params ∷ []) number (page ∷ following)))
    goes_on [] tail_is short mps later =
        let none = ap (λ g. call_blocks g (suc number) following) (groups_after_mps page following params [] mps) ∙ tail_is in
        let not : Mps ≡ Eom = sym mps ∙ page_last short none in cc
    goes_on (block ∷ blocks) tail_is short mps later =
        let tail = block ∷ blocks in
        let there = ap (λ g. call_blocks g (suc number) following) (groups_after_mps page following params [] mps) ∙ tail_is in
        let ends : EndsIn (call_blocks (params ∷ []) (suc number) following) Eom =
        subst (λ bs. EndsIn bs Eom) (sym tail_is)
        (ends_after (page_blocks params number (end_before page following) 0 (code_blocks params page)) tail Eom (λ e. cc)
        (last_in tail short there)) in
        let read : AreReadable (params ∷ []) following =
        subst (λ g. AreReadable g following) (groups_after_mps page following params [] mps) readable.1 in
        let g : GroupEnds params (suc number) following tail (pages_in tail) =
        subst (λ bs. GroupEnds params (suc number) following bs (pages_in bs)) tail_is (later read ends) in
        whole tail short there
        (after_page params number page following tail (pages_in tail) short readable
        (λ more. ap (λ groups. call_blocks groups (suc number) following) (groups_after_mps page following params more mps) ∙
        g.blocks_are more)
        (λ more r. subst (λ groups. AreReadable groups following) (sym (groups_after_mps page following params more mps))
        (g.readable more r)))

    started : code_within_limit params page ≡ true → (ends : PageEnd) → end_before page following ≡ ends →
        (AreReadable (params ∷ []) following → EndsIn (call_blocks (params ∷ []) (suc number) following) Eom →
        GroupEnds params (suc number) following (call_blocks (params ∷ []) (suc number) following)
        (pages_in (call_blocks (params ∷ []) (suc number) following))) →
        GroupEnds params number (page ∷ following) (call_blocks (params ∷ []) number (page ∷ following))
        (pages_in (call_blocks (params ∷ []) number (page ∷ following)))
    started short Null e later = (let end : is_page_end Null ≡
        true = subst (λ p. is_page_end p ≡ true) e (end_before_page page following) in cc)
    started short Mps e later = goes_on (call_blocks (params ∷ []) (suc number) following) refl short e later
    started short Eom e later =
        let none = ap (λ g. call_blocks g (suc number) following) (groups_after_eom page following params [] e) ∙
        no_groups (suc number) following in
        let shift : suc number + 0 ≡ suc number = omega arith in
        whole [] short none
        (after_page params number page following [] 0 short readable
        (λ more. ap (λ groups. call_blocks groups (suc number) following) (groups_after_eom page following params more e) ∙
        ap (λ n. call_blocks more n following) (sym shift))
        (λ more r. subst (λ groups. AreReadable groups following) (sym (groups_after_eom page following params more e)) r))
    started short Eop e later =
        let pages = none_after_eop page following e in
        let none : call_blocks (groups_after page following (params ∷ [])) (suc number) following ≡ [] =
        ap (λ ps. call_blocks (groups_after page ps (params ∷ [])) (suc number) ps) pages in
        let not : Eop ≡ Eom = sym e ∙ page_last short none in cc

-- a group is through
pub group_through :
    (finished : List Params) (params : Params) (document : Document) → GroupsThrough finished document →
    AreReadable (params ∷ []) (drop (due finished document) document) →
    (k : ℕ) (block : Block) → length (call_blocks finished 0 document) ≤ k → drop k (call_blocks (finished ++ params ∷ []) 0 document) ≡
    block ∷ [] → block.ends ≡ Eom →
    GroupsThrough (finished ++ params ∷ []) document
group_through finished params document through readable k block started last eom =
    let old = call_blocks finished 0 document in
    let d = due finished document in
    let tail = call_blocks (params ∷ []) d (drop d document) in
    let is : call_blocks (finished ++ params ∷ []) 0 document ≡ old ++ tail = through.blocks (params ∷ []) in
    let ends : EndsIn tail Eom = subst (EndsIn tail) eom (ends_in old tail k block started (ap (drop k) (sym is) ∙ last)) in
    let g = group_ends params d (drop d document) readable ends in
    let m = pages_in tail in
    let due_is : due (finished ++ params ∷ []) document ≡ d + m = ap pages_in is ∙ pages_both old tail in
    let dropped : drop m (drop d document) ≡ drop (d + m) document = drop_drop d m document in
    let joins :
    (more : List Params) →
    (finished ++ params ∷ []) ++ more ≡ finished ++ params ∷ more = λ more. append_assoc_lem finished (params ∷ []) more in
    record {
      blocks = λ more.
          ap (λ groups. call_blocks groups 0 document) (joins more)
          ∙ (through.blocks (params ∷ more)
          ∙ (ap (λ bs. old ++ bs) (g.blocks_are more)
          ∙ (sym (append_assoc_lem old tail _)
          ∙ (ap (λ bs. bs ++ call_blocks more (d + m) (drop m (drop d document))) (sym is)
          ∙ (ap (λ pages. call_blocks (finished ++ params ∷ []) 0 document ++ call_blocks more (d + m) pages) dropped
          ∙ ap (λ n. call_blocks (finished ++ params ∷ []) 0 document ++ call_blocks more n (drop n document)) (sym due_is))))));
      readable = λ more r.
          subst (λ groups. AreReadable groups document) (sym (joins more))
          (through.readable (params ∷ more) (g.readable more
          (subst (AreReadable more) (ap (λ n. drop n document) due_is ∙ sym dropped) r)));
    }

-- before the first group
pub none_through : (document : Document) → GroupsThrough [] document
none_through document =
    let none : call_blocks [] 0 document ≡ [] = no_groups 0 document in
    record {
      blocks = λ more. rw none refl;
      readable = λ more r. subst (λ (bs : List Block). AreReadable more (drop (pages_in bs) document)) none r;
    }
