-- What holds of each call block: its place, and what the octets before it and its own read as.
use Rattle.std.proofs.Common.{◌≡◌, ◌≢◌, ℕ, zero, suc, true, false, cond, Bool, List, [], ◌∷◌, ◌++◌, length, drop, Option, Some, None, refl}
use Rattle.std.proofs.Common.{sym, ap, subst, ◌∙◌, append-nil, append_assoc}
use Rattle.std.specs.Prelude.{slice_get}
use Rattle.raster.specs.Pages.{PagePixels}
use Rattle.signals.specs.declared.params.Params.{Params}
use Rattle.signals.specs.declared.signal.PageEnd.{PageEnd}
use Rattle.signals.specs.declared.signal.PageEnd.TheVariants.{Null, Mps, Eom, Eop}
use Rattle.stations.specs.Layers.{Document, IsFullPage, Fits, in_one_group, code_blocks, code_within_limit, page_read, within_page_limit}
use Rattle.stations.specs.Blocks.{Block, joined, page_blocks, end_before, groups_after, call_blocks, is_page_end, pages_after, place_after}
use Rattle.stations.specs.Blocks.{open_after, pages_before, open_before}
use Rattle.stations.specs.Laws.{Each, joined_all, IsSendable, AreReadable, LayersHold}
use Rattle.stations.proofs.CallerRows.{length_snoc}

-- what holds of both parts of a choice holds of it
pub either : {A : Type 0} (P : A → Type 0) (b : Bool) (x y : A) → (b ≡ true → P x) → (b ≡ false → P y) → P (cond b x y)
either P true x y f g = f refl
either P false x y f g = g refl

get_middle : {A : Type 0} (xs : List A) (x : A) (ys : List A) → slice_get (xs ++ x ∷ ys) (length xs) ≡ Some x
get_middle [] x ys = refl
get_middle (y ∷ xs) x ys = get_middle xs x ys

-- what holds of a block that follows so many whole pages, so many blocks of its page and their octets
pub record BlockFits (document : Document) (block : Block) (pages place : ℕ) (octets : List ℕ) : Type 0 where
  pub page_is : block.page ≡ pages
  pub place_is : block.place ≡ place
  pub sendable : IsSendable block.params block.frames
  pub long : block.ends ≡ Null → within_page_limit (octets ++ joined block.frames) ≡ true
  pub read :
      is_page_end block.ends ≡ true →
      (page : PagePixels) × (slice_get document pages ≡ Some page) × (page_read block.params (octets ++ joined block.frames) ≡ Some page)
  pub eop : block.ends ≡ Eop → suc pages ≡ length document

-- what holds of the blocks still to come
abbrev pub Ahead : Document → List Block → ℕ → ℕ → List ℕ → Type 0
Ahead document [] pages place octets = Unit {0}
Ahead document (block ∷ blocks) pages place octets =
    BlockFits document block pages place octets ×
    Ahead document blocks (pages_after block.ends pages) (place_after block.ends place)
    (open_after block.ends (octets ++ joined block.frames))

-- the blocks of a page, with those of the pages after it
pub page_ahead :
    (params : Params) (document : Document) (page : PagePixels) (number place : ℕ) (ends : PageEnd) (octets : List ℕ)
    (coding : List (List (List ℕ))) (following : List Block) →
    coding ≢ [] → Each (IsSendable params) coding →
    page_read params (octets ++ joined_all coding) ≡ Some page →
    ((front rest : List ℕ) → front ++ rest ≡ octets ++ joined_all coding → within_page_limit front ≡ true) →
    slice_get document number ≡ Some page → is_page_end ends ≡ true → (ends ≡ Eop → suc number ≡ length document) →
    Ahead document following (suc number) 0 [] →
    Ahead document (page_blocks params number ends place coding ++ following) number place octets
page_ahead params document page number place ends octets [] following some sendable read fronts is end eop ahead = absurd (some refl)
page_ahead params document page number place Null octets (frames ∷ []) following some sendable read fronts is end eop ahead = cc
page_ahead params document page number place Mps octets (frames ∷ []) following some sendable read fronts is end eop ahead = (
  record {
    page_is = refl;
    place_is = refl;
    sendable = sendable.0;
    long = λ e. cc;
    read = λ e. (page, is, rw append-nil at read);
    eop = λ e. cc;
  },
  ahead,
)
page_ahead params document page number place Eom octets (frames ∷ []) following some sendable read fronts is end eop ahead = (
  record {
    page_is = refl;
    place_is = refl;
    sendable = sendable.0;
    long = λ e. cc;
    read = λ e. (page, is, rw append-nil at read);
    eop = λ e. cc;
  },
  ahead,
)
page_ahead params document page number place Eop octets (frames ∷ []) following some sendable read fronts is end eop ahead = (
  record {
    page_is = refl;
    place_is = refl;
    sendable = sendable.0;
    long = λ e. cc;
    read = λ e. (page, is, rw append-nil at read);
    eop = eop;
  },
  ahead,
)
page_ahead params document page number place ends octets (frames ∷ next ∷ more) following some sendable read fronts is end eop ahead =
    let joins : (octets ++ joined frames) ++ joined_all (next ∷ more) ≡ octets ++ joined_all (frames ∷ next ∷ more) =
    append_assoc octets (joined frames) (joined_all (next ∷ more)) in (
      record {
        page_is = refl;
        place_is = refl;
        sendable = sendable.0;
        long = λ e. fronts (octets ++ joined frames) (joined_all (next ∷ more)) joins;
        read = λ e. cc;
        eop = λ e. cc;
      },
      page_ahead params document page number (suc place) ends (octets ++ joined frames) (next ∷ more) following (λ e. cc) sendable.1
          (ap (page_read params) joins ∙ read) (λ front rest e. fronts front rest (e ∙ joins)) is end eop ahead,
    )

pub end_before_page : (page : PagePixels) (pages : List PagePixels) → is_page_end (end_before page pages) ≡ true
end_before_page page [] = refl
end_before_page page (next ∷ pages) = either (λ ends. is_page_end ends ≡ true) (in_one_group page next) Mps Eom (λ h. refl) (λ h. refl)

pub end_before_eop :
    (front : List PagePixels) (page : PagePixels) (pages : List PagePixels) → end_before page pages ≡ Eop →
    suc (length front) ≡ length (front ++ page ∷ pages)
end_before_eop front page [] e = sym (length_snoc front page)
end_before_eop front page (next ∷ pages) e =
    absurd (either (λ ends. ends ≡ Eop → ⊥) (in_one_group page next) Mps Eom (λ h g. cc) (λ h g. cc) e)

pub pages_ahead :
    (groups : List Params) (front pages : List PagePixels) → AreReadable groups pages →
    Ahead (front ++ pages) (call_blocks groups (length front) pages) (length front) 0 []
pages_ahead groups front [] readable = tt
pages_ahead [] front (page ∷ pages) readable = tt
pages_ahead (params ∷ groups) front (page ∷ pages) readable =
    either (λ blocks. Ahead (front ++ page ∷ pages) blocks (length front) 0 []) (code_within_limit params page) _ _
    (λ short.
    let holds = readable.0 short in
    let joins : (front ++ page ∷ []) ++ pages ≡ front ++ page ∷ pages = append_assoc front (page ∷ []) pages in
    let later = groups_after page pages (params ∷ groups) in
    page_ahead params (front ++ page ∷ pages) page (length front) 0 (end_before page pages) [] (code_blocks params page)
    (call_blocks later (suc (length front)) pages)
    holds.some holds.sendable holds.read holds.fronts (get_middle front page pages) (end_before_page page pages)
    (end_before_eop front page pages)
    (subst (λ document. Ahead document (call_blocks later (suc (length front)) pages) (suc (length front)) 0 []) joins
    (rw length_snoc at (pages_ahead later (front ++ page ∷ []) pages readable.1))))
    (λ long. tt)

abbrev pub place_past : Option Block → ℕ → ℕ
place_past None place = place
place_past (Some block) place = place_after block.ends place

-- the place of block k in its page
abbrev pub place_before : List Block → ℕ → ℕ
place_before blocks zero = 0
place_before blocks (suc k) = place_past (slice_get blocks k) (place_before blocks k)

drop_some : (blocks : List Block) (k : ℕ) (block : Block) → slice_get blocks k ≡ Some block → drop k blocks ≡ block ∷ drop (suc k) blocks
drop_some [] k block e = cc
drop_some (first ∷ blocks) zero block e = let h : first ≡ block = cc in ap (λ b. b ∷ blocks) h
drop_some (first ∷ blocks) (suc k) block e = drop_some blocks k block e

drop_none : (blocks : List Block) (k : ℕ) → slice_get blocks k ≡ None → drop (suc k) blocks ≡ []
drop_none [] k e = refl
drop_none (first ∷ blocks) zero e = cc
drop_none (first ∷ blocks) (suc k) e = drop_none blocks k e

abbrev pub AheadAt : Document → List Block → ℕ → Type 0
AheadAt document blocks k = Ahead document (drop k blocks) (pages_before blocks k) (place_before blocks k) (open_before blocks k)

ahead_next : (document : Document) (blocks : List Block) (k : ℕ) (at : Option Block) → slice_get blocks k ≡ at →
    AheadAt document blocks k → AheadAt document blocks (suc k)
ahead_next document blocks k None e h =
    rw (e, drop_none blocks k e) tt
ahead_next document blocks k (Some block) e h =
    let g : Ahead document (block ∷ drop (suc k) blocks) (pages_before blocks k) (place_before blocks k) (open_before blocks k) =
    subst (λ bs. Ahead document bs (pages_before blocks k) (place_before blocks k) (open_before blocks k)) (drop_some blocks k block e) h in
    rw e g.1

ahead_at : (document : Document) (blocks : List Block) → Ahead document blocks 0 0 [] → (k : ℕ) → AheadAt document blocks k
ahead_at document blocks h zero = h
ahead_at document blocks h (suc k) = ahead_next document blocks k (slice_get blocks k) refl (ahead_at document blocks h k)

-- what holds of block k of a document's call
pub block_fits :
    (groups : List Params) (document : Document) → AreReadable groups document → (k : ℕ) (block : Block) →
    slice_get (call_blocks groups 0 document) k ≡ Some block →
    BlockFits document block (pages_before (call_blocks groups 0 document) k) (place_before (call_blocks groups 0 document) k)
    (open_before (call_blocks groups 0 document) k)
block_fits groups document readable k block e =
    let blocks = call_blocks groups 0 document in
    let h = ahead_at document blocks (pages_ahead groups [] document readable) k in
    let g : Ahead document (block ∷ drop (suc k) blocks) (pages_before blocks k) (place_before blocks k) (open_before blocks k) =
    subst (λ bs. Ahead document bs (pages_before blocks k) (place_before blocks k) (open_before blocks k)) (drop_some blocks k block e) h in
    g.0

-- a group whose parameters fit its first page is readable
pub readable_group :
    LayersHold → ((params : Params) (page next : PagePixels) → in_one_group page next ≡ true → Fits params page → Fits params next) →
    (params : Params) (pages : List PagePixels) → Each IsFullPage pages →
    ((page : PagePixels) → slice_get pages 0 ≡ Some page → Fits params page) → AreReadable (params ∷ []) pages
readable_group layers same params [] full fits = tt
readable_group layers same params (page ∷ []) full fits = (layers params page full.0 (fits page refl), tt)
readable_group layers same params (page ∷ next ∷ pages) full fits =
    let later :
    Fits params next →
    AreReadable (params ∷ []) (next ∷ pages) =
    λ fit. readable_group layers same params (next ∷ pages) full.1 (λ p h. let is : next ≡ p = cc in subst (Fits params) is fit) in
    (layers params page full.0 (fits page refl), go (in_one_group page next) refl later)
  where
    go :
        (b : Bool) → in_one_group page next ≡ b → (Fits params next → AreReadable (params ∷ []) (next ∷ pages)) →
        AreReadable (cond b (params ∷ []) []) (next ∷ pages)
    go true e later = later (same params page next e (fits page refl))
    go false e later = tt
