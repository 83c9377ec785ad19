-- What marks tell, how blocks follow each other, and where a call's list ends.
use Rattle.std.proofs.Common.{◌≡◌, ◌≢◌, ℕ, zero, suc, pred, ◌+◌, ◌-◌, ◌%◌, ◌≤◌, ◌<◌, Bool, true, false, cond, List, [], ◌∷◌, ◌++◌, length}
use Rattle.std.proofs.Common.{Some, None}
use Rattle.std.proofs.Common.{refl, sym, ap, ◌∙◌, subst, arith}
use Rattle.std.specs.Prelude.{slice_get}
use Rattle.raster.specs.Pages.{PagePixels}
use Rattle.signals.specs.declared.params.Params.{Params}
use Rattle.signals.specs.declared.signal.PageEnd.{PageEnd}
use Rattle.signals.specs.declared.signal.PageEnd.TheVariants.{Null, Mps, Eom, Eop}
use Rattle.partial_page.specs.Frames.{OctetsHaveABlock}
use Rattle.stations.specs.Layers.{Document, in_one_group, code_blocks, code_within_limit}
use Rattle.stations.specs.Blocks.{Block, mark_of, page_blocks, end_before, groups_after, call_blocks, pages_after, place_after}
use Rattle.stations.specs.Marks.{MarksTell, Follows, NeighboursDiffer, IsLast, ListsEndSo}
use Rattle.signals.specs.declared.mark.Mark.{Mark}
use Rattle.stations.proofs.LayerLaws.{coded_some}

either : {A : Type 0} (P : A → Type 0) (b : Bool) (x y : A) → (b ≡ true → P x) → (b ≡ false → P y) → P (cond b x y)
either P true x y f g = f refl
either P false x y f g = g refl

again : (n : ℕ) → (n + 256) % 256 ≡ n % 256
again n = omega arith

low : (n : ℕ) → n < 256 → n % 256 ≡ n
low n less = omega (arith, less)

apart : (m n : ℕ) → m % 256 ≡ n % 256 → m < n → m + 256 ≤ n
apart m n e less = omega (arith, e, less)

less_one : (n : ℕ) → pred n ≡ n - 1
less_one zero = refl
less_one (suc n) = omega arith

pub marks_tell : MarksTell
marks_tell = record {
  page_low = λ b less. low b.page less;
  place_low = λ b less. low b.place less;
  page_again = λ b. ap (λ (n : ℕ). record { page = n; block = b.place % 256 }) (again b.page);
  place_again = λ b. ap (λ (n : ℕ). record { page = b.page % 256; block = n }) (again b.place);
  pages_apart = λ a b e less. apart a.page b.page (ap (λ (m : Mark). m.page) e) less;
  places_apart = λ a b e less. apart a.place b.place (ap (λ (m : Mark). m.block) e) less;
  sent = λ b. rw (less_one (length b.frames)) refl;
}

-- the first block of a list has a page and a place
abbrev StartsAt : ℕ → ℕ → List Block → Type 0
StartsAt page place [] = Unit {0}
StartsAt page place (b ∷ bs) = (b.page ≡ page) × (b.place ≡ place)

-- neighbours follow each other
abbrev Linked : List Block → Type 0
Linked [] = Unit {0}
Linked (m ∷ []) = Unit {0}
Linked (m ∷ n ∷ more) = Follows m n × Linked (n ∷ more)

follows : (ends : PageEnd) (m n : Block) → m.ends ≡ ends → n.page ≡ pages_after ends m.page → n.place ≡ place_after ends m.place →
    Follows m n
follows Null m n is e f = record { inside = λ h. (e, f); after = λ h. absurd (h is) }
follows Mps m n is e f = record { inside = λ h. let g : Mps ≡ Null = sym is ∙ h in cc; after = λ h. (e, f) }
follows Eom m n is e f = record { inside = λ h. let g : Eom ≡ Null = sym is ∙ h in cc; after = λ h. (e, f) }
follows Eop m n is e f = record { inside = λ h. let g : Eop ≡ Null = sym is ∙ h in cc; after = λ h. (e, f) }

link : (m : Block) (xs : List Block) → Linked xs → StartsAt (pages_after m.ends m.page) (place_after m.ends m.place) xs → Linked (m ∷ xs)
link m [] linked starts = tt
link m (n ∷ more) linked starts = (follows m.ends m n refl starts.0 starts.1, linked)

-- a page's blocks, with those after them
page_linked : (params : Params) (number place : ℕ) (ends : PageEnd) (coding : List (List (List ℕ))) (following : List Block) →
    coding ≢ [] → pages_after ends number ≡ suc number → place_after ends place ≡ 0 →
    ((at : ℕ) → place_after ends at ≡ 0) → Linked following → StartsAt (suc number) 0 following →
    Linked (page_blocks params number ends place coding ++ following) ×
    StartsAt number place (page_blocks params number ends place coding ++ following)
page_linked params number place ends [] following some page_is place_is at linked starts = absurd (some refl)
page_linked params number place ends (frames ∷ []) following some page_is place_is at linked starts = (
  link (record { page = number; place = place; ends = ends; params = params; frames = frames }) following linked
      (rw (page_is, place_is) starts),
  (refl, refl),
)
page_linked params number place ends (frames ∷ next ∷ more) following some page_is place_is at linked starts =
    let rest = page_linked params number (suc place) ends (next ∷ more) following (λ e. cc) page_is (at (suc place)) at linked starts in (
      link (record { page = number; place = place; ends = Null; params = params; frames = frames })
          (page_blocks params number ends (suc place) (next ∷ more) ++ following) rest.0 rest.1,
      (refl, refl),
    )

end_page : (page : PagePixels) (pages : List PagePixels) (n : ℕ) → pages_after (end_before page pages) n ≡ suc n
end_page page [] n = refl
end_page page (next ∷ pages) n = either (λ ends. pages_after ends n ≡ suc n) (in_one_group page next) Mps Eom (λ h. refl) (λ h. refl)

end_place : (page : PagePixels) (pages : List PagePixels) (n : ℕ) → place_after (end_before page pages) n ≡ 0
end_place page [] n = refl
end_place page (next ∷ pages) n = either (λ ends. place_after ends n ≡ 0) (in_one_group page next) Mps Eom (λ h. refl) (λ h. refl)

call_linked : OctetsHaveABlock → (groups : List Params) (number : ℕ) (pages : List PagePixels) →
    Linked (call_blocks groups number pages) × StartsAt number 0 (call_blocks groups number pages)
call_linked law groups number [] = (tt, tt)
call_linked law [] number (page ∷ pages) = (tt, tt)
call_linked law (params ∷ groups) number (page ∷ pages) =
    either (λ blocks. Linked blocks × StartsAt number 0 blocks) (code_within_limit params page) _ _
    (λ e.
    let rest = call_linked law (groups_after page pages (params ∷ groups)) (suc number) pages in
    page_linked params number 0 (end_before page pages) (code_blocks params page) _ (coded_some law params page)
    (end_page page pages number) (end_place page pages 0) (end_place page pages) rest.0 rest.1)
    (λ e. (tt, tt))

linked_at : (blocks : List Block) (k : ℕ) (m n : Block) → Linked blocks → slice_get blocks k ≡ Some m → slice_get blocks (suc k) ≡ Some n →
    Follows m n
linked_at [] k m n linked e f = cc
linked_at (a ∷ []) zero m n linked e f = cc
linked_at (a ∷ []) (suc k) m n linked e f = cc
linked_at (a ∷ b ∷ more) zero m n linked e f =
    let first : a ≡ m = cc in
    let second : b ≡ n = cc in
    subst (λ x. Follows x n) first (subst (λ x. Follows a x) second linked.0)
linked_at (a ∷ b ∷ more) (suc k) m n linked e f = linked_at (b ∷ more) k m n linked.1 e f

next_differs : (n : ℕ) → n % 256 ≢ suc n % 256
next_differs n e = omega arith

differ : (ends : PageEnd) (m n : Block) → m.ends ≡ ends → Follows m n → mark_of m ≢ mark_of n
differ Null m n is h e =
    next_differs m.place (ap (λ (x : Mark). x.block) e ∙ ap (λ p. p % 256) (h.inside is).1)
differ Mps m n is h e =
    next_differs m.page (ap (λ (x : Mark). x.page) e ∙ ap (λ p. p % 256) (h.after (λ f. let g : Mps ≡ Null = sym is ∙ f in cc)).0)
differ Eom m n is h e =
    next_differs m.page (ap (λ (x : Mark). x.page) e ∙ ap (λ p. p % 256) (h.after (λ f. let g : Eom ≡ Null = sym is ∙ f in cc)).0)
differ Eop m n is h e =
    next_differs m.page (ap (λ (x : Mark). x.page) e ∙ ap (λ p. p % 256) (h.after (λ f. let g : Eop ≡ Null = sym is ∙ f in cc)).0)

pub neighbours_differ : OctetsHaveABlock → NeighboursDiffer
neighbours_differ law groups document k m n e f =
    let h = linked_at (call_blocks groups 0 document) k m n (call_linked law groups 0 document).0 e f in
    (h, differ m.ends m n refl h)

-- the last block of a list is of a kind
abbrev LastIs : (Block → Type 0) → List Block → Type 0
LastIs P [] = Unit {0}
LastIs P (m ∷ []) = P m
LastIs P (m ∷ n ∷ more) = LastIs P (n ∷ more)

last_at : (P : Block → Type 0) (blocks : List Block) (k : ℕ) (m : Block) → LastIs P blocks → slice_get blocks k ≡ Some m →
    slice_get blocks (suc k) ≡ None → P m
last_at P [] k m h e f = cc
last_at P (a ∷ []) zero m h e f = let same : a ≡ m = cc in subst P same h
last_at P (a ∷ []) (suc k) m h e f = cc
last_at P (a ∷ b ∷ more) zero m h e f = cc
last_at P (a ∷ b ∷ more) (suc k) m h e f = last_at P (b ∷ more) k m h e f

-- a list with another one after it: the last is that one's, or its own
last_after : (P : Block → Type 0) (m : Block) (xs : List Block) → LastIs P xs → (xs ≡ [] → P m) → LastIs P (m ∷ xs)
last_after P m [] h none = none refl
last_after P m (x ∷ xs) h none = h

page_last : (P : Block → Type 0) (params : Params) (number place : ℕ) (ends : PageEnd) (coding : List (List (List ℕ)))
    (following : List Block) →
    LastIs P following →
    (following ≡ [] → (at : ℕ) (frames : List (List ℕ)) → P
    (record { page = number; place = at; ends = ends; params = params; frames = frames })) →
    LastIs P (page_blocks params number ends place coding ++ following)
page_last P params number place ends [] following last none = last
page_last P params number place ends (frames ∷ []) following last none =
    last_after P (record { page = number; place = place; ends = ends; params = params; frames = frames }) following last
    (λ e. none e place frames)
page_last P params number place ends (frames ∷ next ∷ []) following last none =
    page_last P params number (suc place) ends (next ∷ []) following last none
page_last P params number place ends (frames ∷ next ∷ more ∷ others) following last none =
    page_last P params number (suc place) ends (next ∷ more ∷ others) following last none

-- pages stand in a document from a number on
abbrev StandAt : Document → ℕ → List PagePixels → Type 0
StandAt document number pages = (i : ℕ) → slice_get document (i + number) ≡ slice_get pages i

after_stands : (document : Document) (number : ℕ) (page : PagePixels) (pages : List PagePixels) → StandAt document number (page ∷ pages) →
    StandAt document (suc number) pages
after_stands document number page pages at i =
    let same : i + suc number ≡ suc i + number = omega arith in ap (slice_get document) same ∙ at (suc i)

second_stands : (document : Document) (number : ℕ) (page : PagePixels) (pages : List PagePixels) → StandAt document number (page ∷ pages) →
    slice_get document (suc number) ≡ slice_get pages 0
second_stands document number page pages at =
    let same : suc number ≡ 1 + number = omega arith in ap (slice_get document) same ∙ at 1

not_none : (params : Params) (number place : ℕ) (ends : PageEnd) (coding : List (List (List ℕ))) (following : List Block) → coding ≢ [] →
    page_blocks params number ends place coding ++ following ≢ []
not_none params number place ends [] following some e = some refl
not_none params number place ends (frames ∷ []) following some e = cc
not_none params number place ends (frames ∷ next ∷ more) following some e = cc

-- no block of a page comes where the list ends: its code is too long
too_long : OctetsHaveABlock → (params : Params) (groups : List Params) (number : ℕ) (page : PagePixels) (pages : List PagePixels) →
    call_blocks (params ∷ groups) number (page ∷ pages) ≡ [] → code_within_limit params page ≡ false
too_long law params groups number page pages =
    either (λ blocks. blocks ≡ [] → code_within_limit params page ≡ false) (code_within_limit params page) _ _
    (λ within e. absurd (not_none params number 0 (end_before page pages) (code_blocks params page) _ (coded_some law params page) e))
    (λ long e. long)

-- the last block of a page after which the list ends
ends_so : OctetsHaveABlock → (document : Document) (params : Params) (groups : List Params) (number : ℕ) (page : PagePixels)
    (pages : List PagePixels) → StandAt document number (page ∷ pages) →
    call_blocks (groups_after page pages (params ∷ groups)) (suc number) pages ≡ [] → (place : ℕ) (frames : List (List ℕ)) →
    IsLast document (record { page = number; place = place; ends = end_before page pages; params = params; frames = frames })
ends_so law document params groups number page [] at none place frames = record {
  eop = λ e. second_stands document number page [] at;
  not_null = λ e. cc;
  mps = λ e. cc;
}
ends_so law document params groups number page (next ∷ more) at none place frames =
    by_group (in_one_group page next) none
  where
    by_group : (one : Bool) → call_blocks (cond one (params ∷ groups) groups) (suc number) (next ∷ more) ≡ [] →
        IsLast document (record { page = number; place = place; ends = cond one Mps Eom; params = params; frames = frames })
    by_group true none = record {
      eop = λ e. cc;
      not_null = λ e. cc;
      mps = λ e. (next, second_stands document number page (next ∷ more) at, too_long law params groups (suc number) next more none);
    }
    by_group false none = record { eop = λ e. cc; not_null = λ e. cc; mps = λ e. cc }

call_last : OctetsHaveABlock → (document : Document) (groups : List Params) (number : ℕ) (pages : List PagePixels) →
    StandAt document number pages → LastIs (IsLast document) (call_blocks groups number pages)
call_last law document groups number [] at = tt
call_last law document [] number (page ∷ pages) at = tt
call_last law document (params ∷ groups) number (page ∷ pages) at =
    either (LastIs (IsLast document)) (code_within_limit params page) _ _
    (λ e.
    page_last (IsLast document) params number 0 (end_before page pages) (code_blocks params page) _
    (call_last law document (groups_after page pages (params ∷ groups)) (suc number) pages (after_stands document number page pages at))
    (ends_so law document params groups number page pages at))
    (λ e. tt)

pub lists_end_so : OctetsHaveABlock → ListsEndSo
lists_end_so law groups document k m e f =
    last_at (IsLast document) (call_blocks groups 0 document) k m
    (call_last law document groups 0 document (λ i. let same : i + 0 ≡ i = omega arith in ap (slice_get document) same)) e f

-- each block of a list and those after it
abbrev Heads : (Block → List Block → Type 0) → List Block → Type 0
Heads P [] = Unit {0}
Heads P (m ∷ rest) = P m rest × Heads P rest

-- what is known of a block and those after it
heads_at : (P : Block → List Block → Type 0) (blocks : List Block) (k : ℕ) (m : Block) → Heads P blocks → slice_get blocks k ≡ Some m →
    (rest : List Block) × P m rest × (slice_get blocks (suc k) ≡ slice_get rest 0)
heads_at P [] k m h e = cc
heads_at P (a ∷ rest) zero m h e = let same : a ≡ m = cc in (rest, subst (λ b. P b rest) same h.0, refl)
heads_at P (a ∷ rest) (suc k) m h e = heads_at P rest k m h.1 e

-- nothing comes after EOP, and nothing after MPS where the code of the next page is too long
pub record Stops (document : Document) (m : Block) (rest : List Block) : Type 0 where
  pub eop : m.ends ≡ Eop → rest ≡ []
  pub mps : m.ends ≡ Mps → (page : PagePixels) → slice_get document (suc m.page) ≡ Some page → code_within_limit m.params page ≡ false →
      rest ≡ []

page_heads : (document : Document) (params : Params) (number place : ℕ) (ends : PageEnd) (coding : List (List (List ℕ)))
    (following : List Block) →
    Heads (Stops document) following →
    ((at : ℕ) (frames : List (List ℕ)) →
    Stops document (record { page = number; place = at; ends = ends; params = params; frames = frames }) following) →
    Heads (Stops document) (page_blocks params number ends place coding ++ following)
page_heads document params number place ends [] following heads last = heads
page_heads document params number place ends (frames ∷ []) following heads last = (last place frames, heads)
page_heads document params number place ends (frames ∷ next ∷ more) following heads last =
    (record { eop = λ e. cc; mps = λ e. cc }, page_heads document params number (suc place) ends (next ∷ more) following heads last)

stops_so : (document : Document) (params : Params) (groups : List Params) (number : ℕ) (page : PagePixels) (pages : List PagePixels) →
    StandAt document number (page ∷ pages) → (place : ℕ) (frames : List (List ℕ)) →
    Stops document (record { page = number; place = place; ends = end_before page pages; params = params; frames = frames })
    (call_blocks (groups_after page pages (params ∷ groups)) (suc number) pages)
stops_so document params groups number page [] at place frames = record { eop = λ e. refl; mps = λ e. cc }
stops_so document params groups number page (next ∷ more) at place frames = by_group (in_one_group page next)
  where
    by_group : (one : Bool) →
        Stops document (record { page = number; place = place; ends = cond one Mps Eom; params = params; frames = frames })
        (call_blocks (cond one (params ∷ groups) groups) (suc number) (next ∷ more))
    by_group true = record {
      eop = λ e. cc;
      mps = λ e other due long.
          let some : Some next ≡ Some other = sym (second_stands document number page (next ∷ more) at) ∙ due in
          let same : next ≡ other = cc in
          let far : code_within_limit params next ≡ false = ap (code_within_limit params) same ∙ long in
          rw far refl;
    }
    by_group false = record { eop = λ e. cc; mps = λ e. cc }

call_heads : (document : Document) (groups : List Params) (number : ℕ) (pages : List PagePixels) → StandAt document number pages →
    Heads (Stops document) (call_blocks groups number pages)
call_heads document groups number [] at = tt
call_heads document [] number (page ∷ pages) at = tt
call_heads document (params ∷ groups) number (page ∷ pages) at =
    either (Heads (Stops document)) (code_within_limit params page) _ _
    (λ e.
    page_heads document params number 0 (end_before page pages) (code_blocks params page) _
    (call_heads document (groups_after page pages (params ∷ groups)) (suc number) pages (after_stands document number page pages at))
    (stops_so document params groups number page pages at))
    (λ e. tt)

-- where a block stops the list, none comes after it
pub none_after : (groups : List Params) (document : Document) (k : ℕ) (m : Block) → slice_get (call_blocks groups 0 document) k ≡ Some m →
    ((rest : List Block) → Stops document m rest → rest ≡ []) → slice_get (call_blocks groups 0 document) (suc k) ≡ None
none_after groups document k m e stop =
    let h = heads_at (Stops document) (call_blocks groups 0 document) k m
    (call_heads document groups 0 document (λ i. let same : i + 0 ≡ i = omega arith in ap (slice_get document) same)) e in
    h.2 ∙ ap (λ l. slice_get l 0) (stop h.0 h.1)
