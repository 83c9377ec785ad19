-- Each row of the caller's table, on the fields: they represent the answer's tuple.
use Rattle.std.proofs.Common.{◌≡◌, ◌≢◌, ℕ, zero, suc, ◌+◌, ◌≤◌, ◌<◌, Bool, true, false, cond, List, [], ◌∷◌, ◌++◌, length, drop, Option}
use Rattle.std.proofs.Common.{Some, None, refl, ap, sym, subst, ◌∙◌, arith, append_assoc, nat_lt, inl, inr}
use Rattle.std.specs.Prelude.{slice_get, slice_index_or, ◌⊎◌}
use Rattle.raster.specs.Pages.{PagePixels}
use Rattle.signals.specs.declared.params.Caps.{Caps}
use Rattle.signals.specs.declared.params.Params.{Params}
use Rattle.signals.specs.declared.signal.PageEnd.{PageEnd}
use Rattle.signals.specs.declared.signal.PageEnd.TheVariants.{Null, Mps, Eom, Eop}
use Rattle.stations.specs.declared.turn.End.TheVariants.{Normal, PageTooLong}
use Rattle.stations.specs.Layers.{agreed_for, lowered, in_one_group, code_blocks, code_blocks_at, code_within_limit}
use Rattle.partial_page.specs.Frames.{OctetsHaveABlock}
use Rattle.stations.proofs.LayerLaws.{coded_some}
use Rattle.std.proofs.lemmas.Bool.{cases_Bool, ltb-false, ltb-true}
use Rattle.stations.specs.Blocks.{Block, page_blocks, end_before, groups_after, call_blocks, pages_past, pages_after, pages_before}
use Rattle.stations.specs.CallerStep.{Caller, blocks_of, confirmed, answers_dis, answers_ftt, answers_rnr, goes_on, answers_mcf, all_frames}
use Rattle.stations.specs.CallerFields.{CallerFields, AtGroup, AtBlock, HasPlace, Represents, IsSending, next_in_page, end_of_first, end_by}
use Rattle.stations.specs.CallerFields.{end_of_fields, block_of_fields}
use Rattle.stations.specs.declared.turn.CallerState.{CallerState}
use Rattle.stations.specs.declared.turn.CallerState.TheVariants.{WaitDis, WaitCfr, WaitBlock, WaitReady}
use Rattle.stations.specs.declared.turn.Turn.TheVariants.{Silent, Training as SendTraining, Burst, Rr as SendRr, Dcn as SendDcn}

pub get_front : {A : Type 0} (xs ys : List A) (k : ℕ) → k < length xs → slice_get (xs ++ ys) k ≡ slice_get xs k
get_front [] ys k h = absurd (omega arith)
get_front (x ∷ xs) ys zero h = refl
get_front (x ∷ xs) ys (suc k) h = get_front xs ys k (omega arith)

pub pages_front : (xs ys : List Block) (k : ℕ) → k ≤ length xs → pages_before (xs ++ ys) k ≡ pages_before xs k
pages_front xs ys zero h = refl
pages_front xs ys (suc k) h = rw (get_front xs ys k h) (ap (pages_past (slice_get xs k)) (pages_front xs ys k (omega arith)))

-- the pages confirmed at the place after the blocks so far
pub confirms_at :
    (blocks front rest : List Block) (place page : ℕ) → blocks ≡ front ++ rest → place ≡ length front →
    pages_before front (length front) ≡ page → pages_before blocks place ≡ page
confirms_at blocks front rest place page is at pages = rw (is, at) (pages_front front rest (length front) (omega arith) ∙ pages)

-- what is held of a state is held of it under its name
pub place_in : (v : CallerFields) (t : Caller) (state : CallerState) → v.state ≡ state → HasPlace v.state v t → HasPlace state v t
place_in v t state e h = subst (λ s. HasPlace s v t) e h

pub dis_agrees :
    (v : CallerFields) (t : Caller) (caps : Caps) (params : Params) → v.state ≡ WaitDis → v.ending ≡ None → Represents v t →
    agreed_for caps v.wish (slice_get v.document v.page) ≡ Some params →
    Represents (record v { caps = caps; params = params; state = WaitCfr; try = 1 })
    (answers_dis t caps (agreed_for caps t.wish (slice_get t.document (confirmed t)))).next ×
    (SendTraining ≡ (answers_dis t caps (agreed_for caps t.wish (slice_get t.document (confirmed t)))).turn)
dis_agrees v t caps params waits on h agrees =
    let is : agreed_for caps t.wish (slice_get t.document (confirmed t)) ≡ Some params = rw (h.confirms, h.document, h.wish) agrees in
    let at : AtGroup v t = (place_in v t WaitDis waits (h.place on)).1 in
    rw is (
      record {
        document = h.document;
        wish = h.wish;
        caps = refl;
        params = refl;
        state = refl;
        try = refl;
        pprs = h.pprs;
        ending = h.ending;
        confirms = confirms_at _ at.front _ t.place v.page (at.ahead (params ∷ [])) at.place at.pages;
        place = λ none. (refl, record { front = at.front; place = at.place; pages = at.pages; ahead = at.ahead });
      },
      refl,
    )

pub ftt_lowers :
    (v : CallerFields) (t : Caller) (params : Params) → v.state ≡ WaitCfr → v.ending ≡ None → Represents v t →
    lowered v.caps v.wish v.params ≡ Some params →
    Represents (record v { params = params; try = 1 }) (answers_ftt t (lowered t.caps t.wish t.params)).next ×
    (SendTraining ≡ (answers_ftt t (lowered t.caps t.wish t.params)).turn)
ftt_lowers v t params waits on h lowers =
    let is : lowered t.caps t.wish t.params ≡ Some params = rw (h.caps, h.wish, h.params) lowers in
    let at : AtGroup v t = (place_in v t WaitCfr waits (h.place on)).1 in
    rw is (
      record {
        document = h.document;
        wish = h.wish;
        caps = h.caps;
        params = refl;
        state = h.state;
        try = refl;
        pprs = h.pprs;
        ending = h.ending;
        confirms = confirms_at _ at.front _ t.place v.page (at.ahead (params ∷ [])) at.place at.pages;
        place = λ none. subst (λ s. HasPlace s (record v { params = params; try = 1 })
            (record t { present = params ∷ []; params = params; try = 1 })) (sym waits)
            (refl, record { front = at.front; place = at.place; pages = at.pages; ahead = at.ahead });
      },
      refl,
    )

pub at_block :
    (v : CallerFields) (t : Caller) (state : CallerState) → v.state ≡ state → IsSending state → HasPlace v.state v t → AtBlock v t
at_block v t WaitDis e sending h = absurd sending
at_block v t WaitCfr e sending h = absurd sending
at_block v t WaitBlock e sending h = place_in v t WaitBlock e h
at_block v t WaitReady e sending h = place_in v t WaitReady e h

pub rnr_waits : (v : CallerFields) (t : Caller) → IsSending v.state → v.ending ≡ None → Represents v t →
    Represents (record v { state = WaitReady; try = 1 }) (answers_rnr t).next × (SendRr ≡ (answers_rnr t).turn)
rnr_waits v t sending on h =
    let at : AtBlock v t = at_block v t v.state refl sending (h.place on) in (
      record {
        document = h.document;
        wish = h.wish;
        caps = h.caps;
        params = h.params;
        state = refl;
        try = refl;
        pprs = h.pprs;
        ending = h.ending;
        confirms = h.confirms;
        place = λ none. record {
          front = at.front;
          place = at.place;
          pages = at.pages;
          page = at.page;
          following = at.following;
          page_is = at.page_is;
          encoded = at.encoded;
          within = at.within;
          present = at.present;
          ahead = at.ahead;
        };
      },
      refl,
    )

-- the first element and the others
pub record Split {A : Type 0} (xs : List A) : Type 0 where
  pub first : A
  pub rest : List A
  pub is : xs ≡ first ∷ rest

pub first_block :
    (params : Params) (page : ℕ) (ends : PageEnd) (place : ℕ) (encoded : List (List (List ℕ))) (following : List Block) → encoded ≢ [] →
    Split (page_blocks params page ends place encoded ++ following)
first_block params page ends place [] following some = absurd (some refl)
first_block params page ends place (frames ∷ []) following some = record { first = _; rest = _; is = refl }
first_block params page ends place (frames ∷ next ∷ more) following some = record { first = _; rest = _; is = refl }

pub get_after : {A : Type 0} (xs ys : List A) → slice_get (xs ++ ys) (length xs) ≡ slice_get ys 0
get_after [] ys = refl
get_after (x ∷ xs) ys = get_after xs ys

pub drop_get :
    (pages : List PagePixels) (n : ℕ) (page : PagePixels) → slice_get pages n ≡ Some page → drop n pages ≡ page ∷ drop (suc n) pages
drop_get [] n page e = cc
drop_get (first ∷ pages) zero page e = let same : first ≡ page = cc in ap (λ p. p ∷ pages) same
drop_get (first ∷ pages) (suc n) page e = drop_get pages n page e

pub drop_none : (pages : List PagePixels) (n : ℕ) → slice_get pages n ≡ None → drop n pages ≡ []
drop_none [] zero e = refl
drop_none [] (suc n) e = refl
drop_none (first ∷ pages) zero e = cc
drop_none (first ∷ pages) (suc n) e = drop_none pages n e

-- the blocks of a group's next page and of the pages after it
pub page_first :
    (params : Params) (more : List Params) (number : ℕ) (page : PagePixels) (following : List PagePixels) →
    code_within_limit params page ≡ true →
    call_blocks (params ∷ more) number (page ∷ following) ≡
    page_blocks params number (end_before page following) 0 (code_blocks params page) ++
    call_blocks (groups_after page following (params ∷ more)) (suc number) following
page_first params more number page following short = rw short refl

pub page_too_long :
    (params : Params) (more : List Params) (number : ℕ) (page : PagePixels) (following : List PagePixels) →
    code_within_limit params page ≡ false → call_blocks (params ∷ more) number (page ∷ following) ≡ []
page_too_long params more number page following long = rw long refl

-- a page that starts: it is at its number, and its code is within the limit
pub record Starts (params : Params) (document : List PagePixels) (number : ℕ) (encoded : List (List (List ℕ))) : Type 0 where
  pub page : PagePixels
  pub following : List PagePixels
  pub page_is : drop number document ≡ page ∷ following
  pub short : code_within_limit params page ≡ true
  pub coding_is : encoded ≡ code_blocks params page

pub starts :
    (params : Params) (document : List PagePixels) (number : ℕ) (encoded : List (List (List ℕ))) →
    code_blocks_at params (slice_get document number) ≡ Some encoded → Starts params document number encoded
starts params document number encoded e = at (slice_get document number) refl e
  where
    coded_so :
        (page : PagePixels) → (b : Bool) → code_within_limit params page ≡ b → cond b (Some (code_blocks params page)) None ≡ Some encoded →
        (code_within_limit params page ≡ true) × (encoded ≡ code_blocks params page)
    coded_so page true short e = let same : code_blocks params page ≡ encoded = cc in (short, sym same)
    coded_so page false short e = cc

    at :
        (o : Option PagePixels) → slice_get document number ≡ o → code_blocks_at params o ≡ Some encoded →
        Starts params document number encoded
    at None is e = cc
    at (Some page) is e =
        let so = coded_so page (code_within_limit params page) refl e in
        record {
          page = page;
          following = drop (suc number) document;
          page_is = drop_get document number page is;
          short = so.0;
          coding_is = so.1;
        }

-- no page starts there: no block is ahead
pub none_starts :
    (params : Params) (more : List Params) (document : List PagePixels) (number : ℕ) →
    code_blocks_at params (slice_get document number) ≡ None → call_blocks (params ∷ more) number (drop number document) ≡ []
none_starts params more document number e = at (slice_get document number) refl e
  where
    long :
        (page : PagePixels) → (b : Bool) → code_within_limit params page ≡ b → cond b (Some (code_blocks params page)) None ≡ None →
        code_within_limit params page ≡ false
    long page true short e = cc
    long page false short e = short

    at :
        (o : Option PagePixels) → slice_get document number ≡ o → code_blocks_at params o ≡ None →
        call_blocks (params ∷ more) number (drop number document) ≡ []
    at None is e = ap (call_blocks (params ∷ more) number) (drop_none document number is)
    at (Some page) is e =
        ap (call_blocks (params ∷ more) number) (drop_get document number page is) ∙
        page_too_long params more number page (drop (suc number) document) (long page (code_within_limit params page) refl e)

-- the block at the caller's place
block_there :
    (blocks front tail : List Block) (place : ℕ) (o : Option Block) → blocks ≡ front ++ tail → place ≡ length front → slice_get tail 0 ≡ o →
    slice_get blocks place ≡ o
block_there blocks front tail place o is at e = rw (is, at) (get_after front tail ∙ e)

-- the blocks of a caller whose present group has these parameters
blocks_with : (t : Caller) (params : Params) → t.present ≡ params ∷ [] → blocks_of t ≡ call_blocks (t.finished ++ params ∷ []) 0 t.document
blocks_with t params e = ap (λ present. call_blocks (t.finished ++ present) 0 t.document) e

pub cfr_too_long :
    (v : CallerFields) (t : Caller) → v.state ≡ WaitCfr → v.ending ≡ None → Represents v t →
    code_blocks_at v.params (slice_get v.document v.page) ≡ None → slice_get (blocks_of t) t.place ≡ None
cfr_too_long v t waits on h none =
    let there = place_in v t WaitCfr waits (h.place on) in
    let at : AtGroup v t = there.1 in
    let tail : call_blocks (v.params ∷ []) v.page (drop v.page t.document) ≡ [] =
    rw h.document (none_starts v.params [] v.document v.page none) in
    block_there (blocks_of t) at.front _ t.place None (blocks_with t v.params there.0 ∙ at.ahead (v.params ∷ [])) at.place
    (ap (λ l. slice_get l 0) tail)

some_within : (xs : List (List (List ℕ))) → xs ≢ [] → 0 < length xs
some_within [] some = absurd (some refl)
some_within (x ∷ xs) some = omega arith

pub cfr_starts :
    OctetsHaveABlock → (v : CallerFields) (t : Caller) (encoded : List (List (List ℕ))) → v.state ≡ WaitCfr → v.ending ≡ None →
    Represents v t →
    code_blocks_at v.params (slice_get v.document v.page) ≡ Some encoded →
    Represents (record v { state = WaitBlock; block = 0; encoded = Some encoded; try = 1; pprs = 0 })
    (goes_on t Mps (slice_get (blocks_of t) t.place)).next ×
    (Burst all_frames ≡ (goes_on t Mps (slice_get (blocks_of t) t.place)).turn)
cfr_starts law v t encoded waits on h some =
    let there = place_in v t WaitCfr waits (h.place on) in
    let at : AtGroup v t = there.1 in
    let page = starts v.params v.document v.page encoded some in
    let ahead :
    (more : List Params) →
    call_blocks (t.finished ++ v.params ∷ more) 0 t.document ≡ at.front ++
    (page_blocks v.params v.page (end_before page.page page.following) 0 (code_blocks v.params page.page) ++
    call_blocks (groups_after page.page page.following (v.params ∷ more)) (suc v.page) page.following) =
    λ more. at.ahead (v.params ∷ more) ∙ ap (λ l. at.front ++ l)
    (rw (h.document, page.page_is) (page_first v.params more v.page page.page page.following page.short)) in
    let split = first_block v.params v.page (end_before page.page page.following) 0 (code_blocks v.params page.page)
    (call_blocks (groups_after page.page page.following (v.params ∷ [])) (suc v.page) page.following) (coded_some law v.params page.page) in
    let is : slice_get (blocks_of t) t.place ≡ Some split.first =
    block_there (blocks_of t) at.front _ t.place (Some split.first) (blocks_with t v.params there.0 ∙ ahead []) at.place
    (ap (λ l. slice_get l 0) split.is) in
    rw is (
      record {
        document = h.document;
        wish = h.wish;
        caps = h.caps;
        params = h.params;
        state = refl;
        try = refl;
        pprs = refl;
        ending = h.ending;
        confirms = h.confirms;
        place = λ none. record {
          front = at.front;
          place = at.place;
          pages = at.pages;
          page = page.page;
          following = page.following;
          page_is = page.page_is;
          encoded = ap Some page.coding_is;
          within = some_within (code_blocks v.params page.page) (coded_some law v.params page.page);
          present = there.0;
          ahead = ahead;
        };
      },
      refl,
    )

pub length_snoc : {A : Type 0} (xs : List A) (x : A) → length (xs ++ x ∷ []) ≡ suc (length xs)
length_snoc [] x = refl
length_snoc (y ∷ xs) x = ap suc (length_snoc xs x)

-- the pages confirmed after one more block
pub pages_snoc :
    (front : List Block) (block : Block) →
    pages_before (front ++ block ∷ []) (length (front ++ block ∷ [])) ≡ pages_after block.ends (pages_before front (length front))
pages_snoc front block =
    ap (pages_before (front ++ block ∷ [])) (length_snoc front block) ∙
    (ap (λ o. pages_past o (pages_before (front ++ block ∷ []) (length front))) (get_after front (block ∷ [])) ∙
    ap (pages_after block.ends) (pages_front front (block ∷ []) (length front) (omega arith)))

pub drop_next : {A : Type 0} (xs : List A) (n : ℕ) → n < length xs → (x : A) × (drop n xs ≡ x ∷ drop (suc n) xs)
drop_next [] n h = absurd (omega arith)
drop_next (x ∷ xs) zero h = (x, refl)
drop_next (x ∷ xs) (suc n) h = drop_next xs n (omega arith)

pub drop_over : {A : Type 0} (xs : List A) (n : ℕ) → length xs ≤ n → drop n xs ≡ []
drop_over [] zero h = refl
drop_over [] (suc n) h = refl
drop_over (x ∷ xs) zero h = absurd (omega arith)
drop_over (x ∷ xs) (suc n) h = drop_over xs n (omega arith)

-- the block at the caller's place, the blocks after it whichever groups follow, and the pages that are confirmed with it
record Present (v : CallerFields) (t : Caller) (at : AtBlock v t) (block : Block) (rest : List Params → List Block) : Type 0 where
  there : slice_get (blocks_of t) t.place ≡ Some block
  next : slice_get (blocks_of t) (suc t.place) ≡ slice_get (rest []) 0
  place : suc t.place ≡ length (at.front ++ block ∷ [])
  pages : pages_before (at.front ++ block ∷ []) (length (at.front ++ block ∷ [])) ≡ pages_after block.ends v.page
  ahead : (more : List Params) → call_blocks (t.finished ++ v.params ∷ more) 0 t.document ≡ (at.front ++ block ∷ []) ++ rest more

present : (v : CallerFields) (t : Caller) (at : AtBlock v t) (block : Block) (rest : List Params → List Block) →
    ((more : List Params) → page_blocks v.params v.page (end_before at.page at.following) v.block
    (drop v.block (code_blocks v.params at.page)) ++
    call_blocks (groups_after at.page at.following (v.params ∷ more)) (suc v.page) at.following ≡ block ∷ rest more) →
    Present v t at block rest
present v t at block rest first =
    let ahead : (more : List Params) → call_blocks (t.finished ++ v.params ∷ more) 0 t.document ≡ (at.front ++ block ∷ []) ++ rest more =
    λ more. at.ahead more ∙ (ap (λ l. at.front ++ l) (first more) ∙ sym (append_assoc at.front (block ∷ []) (rest more))) in
    let size : length (at.front ++ block ∷ []) ≡ suc (length at.front) = length_snoc at.front block in
    let place : suc t.place ≡ length (at.front ++ block ∷ []) = ap suc at.place ∙ sym size in
    let blocks : blocks_of t ≡ (at.front ++ block ∷ []) ++ rest [] = blocks_with t v.params at.present ∙ ahead [] in
    record {
      there = block_there (blocks_of t) at.front (block ∷ rest []) t.place (Some block)
          (blocks ∙ append_assoc at.front (block ∷ []) (rest [])) at.place refl;
      next = block_there (blocks_of t) (at.front ++ block ∷ []) (rest []) (suc t.place) (slice_get (rest []) 0) blocks place refl;
      place = place;
      pages = pages_snoc at.front block ∙ ap (pages_after block.ends) at.pages;
      ahead = ahead;
    }

-- MCF for a block that isn't the page's last
pub mcf_within :
    (v : CallerFields) (t : Caller) (encoded : List (List (List ℕ))) → IsSending v.state → v.ending ≡ None → Represents v t →
    v.encoded ≡ Some encoded → suc v.block < length encoded →
    Represents (record v { state = WaitBlock; block = suc v.block; try = 1; pprs = 0 })
    (answers_mcf t (slice_get (blocks_of t) t.place)).next ×
    (Burst all_frames ≡ (answers_mcf t (slice_get (blocks_of t) t.place)).turn)
mcf_within v t encoded sending on h held more =
    let at : AtBlock v t = at_block v t v.state refl sending (h.place on) in
    let code : List (List (List ℕ)) = code_blocks v.params at.page in
    let same : Some encoded ≡ Some code = sym held ∙ at.encoded in
    let is : encoded ≡ code = cc in
    let size : suc v.block < length code = subst (λ (l : List (List (List ℕ))). suc v.block < length l) is more in
    let x = drop_next code v.block (omega arith) in
    let y = drop_next code (suc v.block) size in
    let ends : PageEnd = end_before at.page at.following in
    let block : Block = record { page = v.page; place = v.block; ends = Null; params = v.params; frames = x.0 } in
    let tail :
    List Params → List Block = λ more. call_blocks (groups_after at.page at.following (v.params ∷ more)) (suc v.page) at.following in
    let rest : List Params → List Block = λ more. page_blocks v.params v.page ends (suc v.block) (drop (suc v.block) code) ++ tail more in
    let drops : drop v.block code ≡ x.0 ∷ y.0 ∷ drop (suc (suc v.block)) code = x.1 ∙ ap (λ l. x.0 ∷ l) y.1 in
    let p = present v t at block rest (λ more. ap (λ l. page_blocks v.params v.page ends v.block l ++ tail more) drops ∙
    ap (λ l. block ∷ (page_blocks v.params v.page ends (suc v.block) l ++ tail more)) (sym y.1)) in
    let first = first_block v.params v.page ends (suc v.block) (drop (suc v.block) code) (tail [])
    (λ e. let f : y.0 ∷ drop (suc (suc v.block)) code ≡ [] = sym y.1 ∙ e in cc) in
    let next : slice_get (blocks_of t) (suc t.place) ≡ Some first.first = p.next ∙ ap (λ l. slice_get l 0) first.is in
    rw (p.there, next) (
      record {
        document = h.document;
        wish = h.wish;
        caps = h.caps;
        params = h.params;
        state = refl;
        try = refl;
        pprs = refl;
        ending = h.ending;
        confirms = confirms_at (blocks_of t) (at.front ++ block ∷ []) (rest []) (suc t.place) v.page
            (blocks_with t v.params at.present ∙ p.ahead []) p.place p.pages;
        place = λ none. record {
          front = at.front ++ block ∷ [];
          place = p.place;
          pages = p.pages;
          page = at.page;
          following = at.following;
          page_is = at.page_is;
          encoded = at.encoded;
          within = size;
          present = at.present;
          ahead = p.ahead;
        };
      },
      refl,
    )

-- the number of the next page
pub number_is : (b : Bool) (n m : ℕ) → cond b (Some (n + 1)) None ≡ Some m → m ≡ suc n
number_is true n m e = let same : n + 1 ≡ m = cc in omega arith
number_is false n m e = cc

drop_after : {A : Type 0} (xs : List A) (n : ℕ) (x : A) (rest : List A) → drop n xs ≡ x ∷ rest → drop (suc n) xs ≡ rest
drop_after [] zero x rest e = cc
drop_after [] (suc n) x rest e = cc
drop_after (y ∷ xs) zero x rest e = cc
drop_after (y ∷ xs) (suc n) x rest e = drop_after xs n x rest e

-- after a page's last block none is left
none_after :
    (encoded : Option (List (List (List ℕ)))) (code : List (List (List ℕ))) (block : ℕ) → encoded ≡ Some code →
    next_in_page encoded block ≡ None → length code ≤ suc block
none_after None code block e none = cc
none_after (Some blocks) code block e none =
    let same : blocks ≡ code = cc in
    elim (cases_Bool (nat_lt (block + 1) (length blocks))) [
      | inl more ↦ let other : Some (block + 1) ≡ None = rw more at none in cc
      | inr less ↦ subst (λ (l : List (List (List ℕ))). length l ≤ suc block) same
          (let h : length blocks ≤ block + 1 = ltb-false (block + 1) (length blocks) less in omega arith)
    ]

abbrev blocks_after_page : (v : CallerFields) (t : Caller) → AtBlock v t → List Params → List Block
blocks_after_page v t at more = call_blocks (groups_after at.page at.following (v.params ∷ more)) (suc v.page) at.following

-- the last block of a page
record LastBlock (v : CallerFields) (t : Caller) (at : AtBlock v t) : Type 0 where
  block : Block
  ends : block.ends ≡ end_before at.page at.following
  is_present : Present v t at block (blocks_after_page v t at)

last_block : (v : CallerFields) (t : Caller) (at : AtBlock v t) → next_in_page v.encoded v.block ≡ None → LastBlock v t at
last_block v t at none =
    let code : List (List (List ℕ)) = code_blocks v.params at.page in
    let x = drop_next code v.block at.within in
    let ends : PageEnd = end_before at.page at.following in
    let drops : drop v.block code ≡ x.0 ∷ [] = x.1 ∙
    ap (λ l. x.0 ∷ l) (drop_over code (suc v.block) (none_after v.encoded code v.block at.encoded none)) in
    let block : Block = record { page = v.page; place = v.block; ends = ends; params = v.params; frames = x.0 } in
    record {
      block = block;
      ends = refl;
      is_present = present v t at block (blocks_after_page v t at)
          (λ more. ap (λ l. page_blocks v.params v.page ends v.block l ++ blocks_after_page v t at more) drops);
    }

-- what follows a page, by its end
pub none_after_eop : (page : PagePixels) (following : List PagePixels) → end_before page following ≡ Eop → following ≡ []
none_after_eop page [] e = refl
none_after_eop page (next ∷ pages) e = absurd (at (in_one_group page next) e)
  where
    at : (b : Bool) → cond b Mps Eom ≡ Eop → ⊥
    at true e = cc
    at false e = cc

pub groups_after_eom :
    (page : PagePixels) (following : List PagePixels) (params : Params) (more : List Params) → end_before page following ≡ Eom →
    groups_after page following (params ∷ more) ≡ more
groups_after_eom page [] params more e = cc
groups_after_eom page (next ∷ pages) params more e = at (in_one_group page next) e
  where
    at : (b : Bool) → cond b Mps Eom ≡ Eom → cond b (params ∷ more) more ≡ more
    at true e = cc
    at false e = refl

pub groups_after_mps :
    (page : PagePixels) (following : List PagePixels) (params : Params) (more : List Params) → end_before page following ≡ Mps →
    groups_after page following (params ∷ more) ≡ params ∷ more
groups_after_mps page [] params more e = cc
groups_after_mps page (next ∷ pages) params more e = at (in_one_group page next) e
  where
    at : (b : Bool) → cond b Mps Eom ≡ Mps → cond b (params ∷ more) more ≡ params ∷ more
    at true e = refl
    at false e = cc

pub mcf_eop :
    (v : CallerFields) (t : Caller) (number : ℕ) → IsSending v.state → v.ending ≡ None → Represents v t →
    next_in_page v.encoded v.block ≡ None → number ≡ suc v.page → end_of_first (drop v.page v.document) ≡ Eop →
    Represents (record v { page = number; ending = Some Normal }) (answers_mcf t (slice_get (blocks_of t) t.place)).next ×
    (SendDcn ≡ (answers_mcf t (slice_get (blocks_of t) t.place)).turn)
mcf_eop v t number sending on h none next eop =
    let at : AtBlock v t = at_block v t v.state refl sending (h.place on) in
    let last = last_block v t at none in
    let p = last.is_present in
    let ends : end_before at.page at.following ≡ Eop = sym (ap end_of_first at.page_is) ∙ eop in
    let is : last.block.ends ≡ Eop = last.ends ∙ ends in
    let over : blocks_after_page v t at [] ≡ [] =
    ap (λ l. call_blocks (groups_after at.page l (v.params ∷ [])) (suc v.page) l) (none_after_eop at.page at.following ends) in
    let through : slice_get (blocks_of t) (suc t.place) ≡ None = p.next ∙ ap (λ l. slice_get l 0) over in
    let pages : pages_before (at.front ++ last.block ∷ []) (length (at.front ++ last.block ∷ [])) ≡ number = p.pages ∙
    (ap (λ e. pages_after e v.page) is ∙ sym next) in
    rw (p.there, is, through) (
      record {
        document = h.document;
        wish = h.wish;
        caps = h.caps;
        params = h.params;
        state = h.state;
        try = h.try;
        pprs = h.pprs;
        ending = refl;
        confirms = confirms_at (blocks_of t) (at.front ++ last.block ∷ []) (blocks_after_page v t at []) (suc t.place) number
            (blocks_with t v.params at.present ∙ p.ahead []) p.place pages;
        place = λ e. cc;
      },
      refl,
    )

pub mcf_too_long :
    (v : CallerFields) (t : Caller) (number : ℕ) → IsSending v.state → v.ending ≡ None → Represents v t →
    next_in_page v.encoded v.block ≡ None → number ≡ suc v.page → end_of_first (drop v.page v.document) ≡ Mps →
    code_blocks_at v.params (slice_get v.document number) ≡ None →
    Represents (record v { page = number; ending = Some PageTooLong }) (answers_mcf t (slice_get (blocks_of t) t.place)).next ×
    (SendDcn ≡ (answers_mcf t (slice_get (blocks_of t) t.place)).turn)
mcf_too_long v t number sending on h none next mps long =
    let at : AtBlock v t = at_block v t v.state refl sending (h.place on) in
    let last = last_block v t at none in
    let p = last.is_present in
    let ends : end_before at.page at.following ≡ Mps = sym (ap end_of_first at.page_is) ∙ mps in
    let is : last.block.ends ≡ Mps = last.ends ∙ ends in
    let following : drop (suc v.page) v.document ≡ at.following = drop_after v.document v.page at.page at.following at.page_is in
    let over : blocks_after_page v t at [] ≡ [] =
    ap (λ g. call_blocks g (suc v.page) at.following) (groups_after_mps at.page at.following v.params [] ends) ∙
    (ap (call_blocks (v.params ∷ []) (suc v.page)) (sym following) ∙
    none_starts v.params [] v.document (suc v.page) (subst (λ n. code_blocks_at v.params (slice_get v.document n) ≡ None) next long)) in
    let through : slice_get (blocks_of t) (suc t.place) ≡ None = p.next ∙ ap (λ l. slice_get l 0) over in
    let pages : pages_before (at.front ++ last.block ∷ []) (length (at.front ++ last.block ∷ [])) ≡ number = p.pages ∙
    (ap (λ e. pages_after e v.page) is ∙ sym next) in
    rw (p.there, is, through) (
      record {
        document = h.document;
        wish = h.wish;
        caps = h.caps;
        params = h.params;
        state = h.state;
        try = h.try;
        pprs = h.pprs;
        ending = refl;
        confirms = confirms_at (blocks_of t) (at.front ++ last.block ∷ []) (blocks_after_page v t at []) (suc t.place) number
            (blocks_with t v.params at.present ∙ p.ahead []) p.place pages;
        place = λ e. cc;
      },
      refl,
    )

pub mcf_next_page :
    OctetsHaveABlock → (v : CallerFields) (t : Caller) (number : ℕ) (encoded : List (List (List ℕ))) → IsSending v.state → v.ending ≡ None →
    Represents v t →
    next_in_page v.encoded v.block ≡ None → number ≡ suc v.page → end_of_first (drop v.page v.document) ≡ Mps →
    code_blocks_at v.params (slice_get v.document number) ≡ Some encoded →
    Represents (record v { state = WaitBlock; page = number; block = 0; encoded = Some encoded; try = 1; pprs = 0 })
    (answers_mcf t (slice_get (blocks_of t) t.place)).next × (Burst all_frames ≡ (answers_mcf t (slice_get (blocks_of t) t.place)).turn)
mcf_next_page law v t number encoded sending on h none next mps some =
    let at : AtBlock v t = at_block v t v.state refl sending (h.place on) in
    let last = last_block v t at none in
    let p = last.is_present in
    let ends : end_before at.page at.following ≡ Mps = sym (ap end_of_first at.page_is) ∙ mps in
    let is : last.block.ends ≡ Mps = last.ends ∙ ends in
    let page = starts v.params v.document number encoded some in
    let following : drop number v.document ≡ at.following = ap (λ n. drop n v.document) next ∙
    drop_after v.document v.page at.page at.following at.page_is in
    let tail :
    (more : List Params) →
    blocks_after_page v t at more ≡ page_blocks v.params number (end_before page.page page.following) 0
    (code_blocks v.params page.page) ++ call_blocks (groups_after page.page page.following (v.params ∷ more))
    (suc number) page.following = λ more.
    ap (λ g. call_blocks g (suc v.page) at.following) (groups_after_mps at.page at.following v.params more ends) ∙
    (ap (λ n. call_blocks (v.params ∷ more) n at.following) (sym next) ∙
    (ap (call_blocks (v.params ∷ more) number) (sym following ∙ page.page_is) ∙
    page_first v.params more number page.page page.following page.short)) in
    let split = first_block v.params number (end_before page.page page.following) 0 (code_blocks v.params page.page)
    (call_blocks (groups_after page.page page.following (v.params ∷ [])) (suc number) page.following) (coded_some law v.params page.page) in
    let through : slice_get (blocks_of t) (suc t.place) ≡ Some split.first = p.next ∙ ap (λ l. slice_get l 0) (tail [] ∙ split.is) in
    let pages : pages_before (at.front ++ last.block ∷ []) (length (at.front ++ last.block ∷ [])) ≡ number = p.pages ∙
    (ap (λ e. pages_after e v.page) is ∙ sym next) in
    rw (p.there, is, through) (
      record {
        document = h.document;
        wish = h.wish;
        caps = h.caps;
        params = h.params;
        state = refl;
        try = refl;
        pprs = refl;
        ending = h.ending;
        confirms = confirms_at (blocks_of t) (at.front ++ last.block ∷ []) (blocks_after_page v t at []) (suc t.place) number
            (blocks_with t v.params at.present ∙ p.ahead []) p.place pages;
        place = λ e. record {
          front = at.front ++ last.block ∷ [];
          place = p.place;
          pages = pages;
          page = page.page;
          following = page.following;
          page_is = page.page_is;
          encoded = ap Some page.coding_is;
          within = some_within (code_blocks v.params page.page) (coded_some law v.params page.page);
          present = at.present;
          ahead = λ more. p.ahead more ∙ ap (λ l. (at.front ++ last.block ∷ []) ++ l) (tail more);
        };
      },
      refl,
    )

pub mcf_eom :
    (v : CallerFields) (t : Caller) (number : ℕ) → IsSending v.state → v.ending ≡ None → Represents v t →
    next_in_page v.encoded v.block ≡ None → number ≡ suc v.page → end_of_first (drop v.page v.document) ≡ Eom →
    Represents (record v { state = WaitDis; page = number }) (answers_mcf t (slice_get (blocks_of t) t.place)).next ×
    (Silent ≡ (answers_mcf t (slice_get (blocks_of t) t.place)).turn)
mcf_eom v t number sending on h none next eom =
    let at : AtBlock v t = at_block v t v.state refl sending (h.place on) in
    let last = last_block v t at none in
    let p = last.is_present in
    let ends : end_before at.page at.following ≡ Eom = sym (ap end_of_first at.page_is) ∙ eom in
    let is : last.block.ends ≡ Eom = last.ends ∙ ends in
    let following : drop number t.document ≡ at.following = ap (drop number) h.document ∙
    (ap (λ n. drop n v.document) next ∙ drop_after v.document v.page at.page at.following at.page_is) in
    let tail : (more : List Params) → blocks_after_page v t at more ≡ call_blocks more number (drop number t.document) = λ more.
    ap (λ g. call_blocks g (suc v.page) at.following) (groups_after_eom at.page at.following v.params more ends) ∙
    (ap (λ n. call_blocks more n at.following) (sym next) ∙ ap (call_blocks more number) (sym following)) in
    let pages : pages_before (at.front ++ last.block ∷ []) (length (at.front ++ last.block ∷ [])) ≡ number = p.pages ∙
    (ap (λ e. pages_after e v.page) is ∙ sym next) in
    let groups :
    (more : List Params) →
    (t.finished ++ t.present) ++ more ≡ t.finished ++ v.params ∷ more = λ more. append_assoc t.finished t.present more ∙
    ap (λ l. t.finished ++ (l ++ more)) at.present in
    let ahead :
    (more : List Params) →
    call_blocks ((t.finished ++ t.present) ++ more) 0 t.document ≡ (at.front ++ last.block ∷ []) ++
    call_blocks more number (drop number t.document) = λ more.
    ap (λ g. call_blocks g 0 t.document) (groups more) ∙ (p.ahead more ∙ ap (λ l. (at.front ++ last.block ∷ []) ++ l) (tail more)) in
    rw (p.there, is) (
      record {
        document = h.document;
        wish = h.wish;
        caps = h.caps;
        params = h.params;
        state = refl;
        try = h.try;
        pprs = h.pprs;
        ending = h.ending;
        confirms = confirms_at (call_blocks ((t.finished ++ t.present) ++ []) 0 t.document) (at.front ++ last.block ∷ [])
            (call_blocks [] number (drop number t.document)) (suc t.place) number (ahead []) p.place pages;
        place = λ e. (refl, record { front = at.front ++ last.block ∷ []; place = p.place; pages = pages; ahead = ahead });
      },
      refl,
    )

-- the next block of a page is there
record IsWithin (encoded : Option (List (List (List ℕ)))) (block next : ℕ) : Type 0 where
  blocks : List (List (List ℕ))
  coding_is : encoded ≡ Some blocks
  less : suc block < length blocks
  next_is : next ≡ suc block

within_is :
    (encoded : Option (List (List (List ℕ)))) (block next : ℕ) → next_in_page encoded block ≡ Some next → IsWithin encoded block next
within_is None block next e = cc
within_is (Some blocks) block next e =
    elim (cases_Bool (nat_lt (block + 1) (length blocks))) [
      | inl more ↦ let is : Some (block + 1) ≡ Some next = rw more at e in let same : block + 1 ≡ next = cc in
          let less : block + 1 < length blocks = ltb-true (block + 1) (length blocks) more in
          record { blocks = blocks; coding_is = refl; less = omega arith; next_is = omega arith }
      | inr less ↦ let other : None ≡ Some next = rw less at e in cc
    ]

pub mcf_next_block :
    (v : CallerFields) (t : Caller) (next : ℕ) → IsSending v.state → v.ending ≡ None → Represents v t →
    next_in_page v.encoded v.block ≡ Some next →
    Represents (record v { state = WaitBlock; block = next; try = 1; pprs = 0 }) (answers_mcf t (slice_get (blocks_of t) t.place)).next ×
    (Burst all_frames ≡ (answers_mcf t (slice_get (blocks_of t) t.place)).turn)
mcf_next_block v t next sending on h e =
    let in_page = within_is v.encoded v.block next e in
    rw in_page.next_is (mcf_within v t in_page.blocks sending on h in_page.coding_is in_page.less)

pub never_null : (pages : List PagePixels) → end_of_first pages ≡ Null → ⊥
never_null [] e = cc
never_null (page ∷ []) e = cc
never_null (page ∷ next ∷ pages) e = at (in_one_group page next) e
  where
    at : (b : Bool) → cond b Mps Eom ≡ Null → ⊥
    at true e = cc
    at false e = cc

some_or_none : {A : Type 0} (o : Option A) → (o ≡ None) ⊎ ((x : A) × (o ≡ Some x))
some_or_none None = inl refl
some_or_none (Some x) = inr (x, refl)

-- a block follows in the page
more_after :
    (encoded : Option (List (List (List ℕ)))) (code : List (List (List ℕ))) (block next : ℕ) → encoded ≡ Some code →
    next_in_page encoded block ≡ Some next → suc block < length code
more_after None code block next e some = cc
more_after (Some blocks) code block next e some =
    let same : blocks ≡ code = cc in
    elim (cases_Bool (nat_lt (block + 1) (length blocks))) [
      | inl more ↦ subst (λ (l : List (List (List ℕ))). suc block < length l) same
          (let h : block + 1 < length blocks = ltb-true (block + 1) (length blocks) more in omega arith)
      | inr less ↦ let other : None ≡ Some next = rw less at some in cc
    ]

drop_head :
    (all : List (List (List ℕ))) (n : ℕ) (x : List (List ℕ)) (rest : List (List (List ℕ))) → drop n all ≡ x ∷ rest →
    slice_index_or all n [] ≡ x
drop_head [] zero x rest e = cc
drop_head [] (suc n) x rest e = cc
drop_head (y ∷ all) zero x rest e = cc
drop_head (y ∷ all) (suc n) x rest e = drop_head all n x rest e

-- the block at the place of a caller that is sending, by its fields
pub block_is_of_fields :
    (v : CallerFields) (t : Caller) (blocks : List (List (List ℕ))) → IsSending v.state → v.ending ≡ None → Represents v t →
    v.encoded ≡ Some blocks → v.block < length blocks → slice_get (blocks_of t) t.place ≡ Some (block_of_fields v blocks)
block_is_of_fields v t blocks sending on h held within =
    let at : AtBlock v t = at_block v t v.state refl sending (h.place on) in
    let code : List (List (List ℕ)) = code_blocks v.params at.page in
    let same : Some blocks ≡ Some code = sym held ∙ at.encoded in
    let is : blocks ≡ code = cc in
    let pages : end_of_first (drop v.page v.document) ≡ end_before at.page at.following = ap end_of_first at.page_is in
    elim (some_or_none (next_in_page v.encoded v.block)) [
      | inl none ↦
          let x = drop_next code v.block at.within in
          let ends : PageEnd = end_before at.page at.following in
          let drops : drop v.block code ≡ x.0 ∷ [] = x.1 ∙
          ap (λ l. x.0 ∷ l) (drop_over code (suc v.block) (none_after v.encoded code v.block at.encoded none)) in
          let block : Block = record { page = v.page; place = v.block; ends = ends; params = v.params; frames = x.0 } in
          let p = present v t at block (blocks_after_page v t at)
          (λ more. ap (λ l. page_blocks v.params v.page ends v.block l ++ blocks_after_page v t at more) drops) in
          let frames : slice_index_or blocks v.block [] ≡ x.0 = ap (λ l. slice_index_or l v.block []) is ∙
          drop_head code v.block x.0 _ x.1 in
          let shown : end_of_fields v ≡ ends = ap (λ o. end_by o (end_of_first (drop v.page v.document))) none ∙ pages in
          rw (frames, shown) p.there
      | inr some ↦
          let size : suc v.block < length code = more_after v.encoded code v.block some.0 at.encoded some.1 in
          let x = drop_next code v.block at.within in
          let y = drop_next code (suc v.block) size in
          let ends : PageEnd = end_before at.page at.following in
          let block : Block = record { page = v.page; place = v.block; ends = Null; params = v.params; frames = x.0 } in
          let tail :
          List Params →
          List Block = λ more. call_blocks (groups_after at.page at.following (v.params ∷ more)) (suc v.page) at.following in
          let rest :
          List Params → List Block = λ more. page_blocks v.params v.page ends (suc v.block) (drop (suc v.block) code) ++ tail more in
          let drops : drop v.block code ≡ x.0 ∷ y.0 ∷ drop (suc (suc v.block)) code = x.1 ∙ ap (λ l. x.0 ∷ l) y.1 in
          let p = present v t at block rest (λ more. ap (λ l. page_blocks v.params v.page ends v.block l ++ tail more) drops ∙
          ap (λ l. block ∷ (page_blocks v.params v.page ends (suc v.block) l ++ tail more)) (sym y.1)) in
          let frames : slice_index_or blocks v.block [] ≡ x.0 = ap (λ l. slice_index_or l v.block []) is ∙
          drop_head code v.block x.0 _ x.1 in
          let shown : end_of_fields v ≡ Null = ap (λ o. end_by o (end_of_first (drop v.page v.document))) some.1 in
          rw (frames, shown) p.there
    ]
