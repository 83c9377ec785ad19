-- A whole undisturbed call, group after group.
use Rattle.std.proofs.Common.{◌≡◌, ◌≢◌, ℕ, zero, suc, ◌+◌, ◌*◌, ◌≤◌, ◌<◌, ◌⊎◌, inl, inr, Bool, true, false, List, [], ◌∷◌, ◌++◌, length}
use Rattle.std.proofs.Common.{take, drop, Option, Some, refl, sym, ap, subst, ◌∙◌, arith}
use Rattle.std.specs.Prelude.{slice_get, nat_lt, ◌&&◌, cond}
use Rattle.std.proofs.lemmas.Bool.{lt-ltb}
use Rattle.std.proofs.Common.{length-append}
use Rattle.raster.specs.Pages.{PagePixels}
use Rattle.signals.specs.Agreement.{allowed}
use Rattle.signals.specs.Signals.{dis}
use Rattle.signals.specs.declared.params.Caps.{Caps}
use Rattle.signals.specs.declared.params.Params.{Params}
use Rattle.signals.specs.declared.params.Wish.{Wish}
use Rattle.signals.specs.declared.signal.PageEnd.{PageEnd}
use Rattle.signals.specs.declared.signal.PageEnd.TheVariants.{Null, Mps, Eom, Eop}
use Rattle.stations.specs.Layers.{Document, IsFullPage, Fits, code_blocks, agreed_for}
use Rattle.stations.specs.Blocks.{Block, page_blocks, end_before, call_blocks, is_page_end, pages_before, open_before}
use Rattle.stations.specs.Inputs.{framed}
use Rattle.stations.specs.Laws.{Each, AreReadable}
use Rattle.stations.specs.declared.mark.Accepted.{Accepted}
use Rattle.stations.specs.CallerStep.{no_caps, no_params}
use Rattle.stations.proofs.CallerRows.{none_after_eop, groups_after_eom, groups_after_mps, page_first}
use Rattle.stations.proofs.Progress.{end_before_page, readable_group}
use Rattle.line_sim.specs.declared.event.Event.TheVariants.{DeliverToCaller, AnswererT2}
use Rattle.line_sim.specs.Line.Outcome.{Done}
use Rattle.line_sim.specs.Line.{World, happens, new_world}
use Rattle.line_sim.specs.LineFacts.{accepted_at, due, GroupsThrough}
use Rattle.line_sim.specs.Polite.{AreAgreed, blocks_length, call_length, IsThrough, PoliteCalls}
use Rattle.line_sim.specs.Headline.{Promised}
use Rattle.line_sim.proofs.CallerKeeps.{each_drop}
use Rattle.line_sim.proofs.Lists.{append_nil}
use Rattle.line_sim.proofs.Groups.{EndsIn, one_group, drop_front, drop_drop, pages_front, open_front, accepted_front, pages_in, pages_both}
use Rattle.line_sim.proofs.Groups.{one_page, no_groups, none_through, group_ends, group_through}
use Rattle.line_sim.proofs.PoliteCall.{Leads, leads_then, polite_is, world_after, next_world, waiting, CallLeads, Begins, last_group_leads}
use Rattle.line_sim.proofs.PoliteCall.{group_passes}

-- blocks of a page that has some, and how they end
page_some :
    (params : Params) (number place : ℕ) (ends : PageEnd) (coding : List (List (List ℕ))) → coding ≢ [] →
    page_blocks params number ends place coding ≢ []
page_some params number place ends [] some = absurd (some refl)
page_some params number place ends (frames ∷ []) some = λ e. cc
page_some params number place ends (frames ∷ next ∷ more) some = λ e. cc

ends_of_page :
    (params : Params) (number place : ℕ) (ends : PageEnd) (coding : List (List (List ℕ))) → coding ≢ [] →
    EndsIn (page_blocks params number ends place coding) ends
ends_of_page params number place ends [] some = absurd (some refl)
ends_of_page params number place ends (frames ∷ []) some = refl
ends_of_page params number place ends (frames ∷ next ∷ []) some = refl
ends_of_page params number place ends (frames ∷ next ∷ third ∷ more) some =
    ends_of_page params number (suc place) ends (next ∷ third ∷ more) (λ e. cc)

ends_before : (xs ys : List Block) (ends : PageEnd) → EndsIn ys ends → EndsIn (xs ++ ys) ends
ends_before [] ys ends h = h
ends_before (x ∷ []) [] ends h = absurd h
ends_before (x ∷ []) (y ∷ ys) ends h = h
ends_before (x ∷ next ∷ xs) ys ends h = ends_before (next ∷ xs) ys ends h

some_after : (xs ys : List Block) → xs ≢ [] → xs ++ ys ≢ []
some_after [] ys some = absurd (some refl)
some_after (x ∷ xs) ys some = λ e. cc

-- after a group that was agreed on no page is left; or it ends by EOM, and the pages left are agreed on for the groups left
abbrev pub GroupsGoOn : Caps → Wish → List Params → List Block → List PagePixels → Type 0
GroupsGoOn caps wish more tail rest = ((more ≡ []) × EndsIn tail Eop) ⊎ (EndsIn tail Eom × (rest ≢ []) × AreAgreed caps wish more rest)

goes_past :
    (caps : Caps) (wish : Wish) (more : List Params) (first tail : List Block) (rest others : List PagePixels) → rest ≡ others →
    GroupsGoOn caps wish more tail rest → GroupsGoOn caps wish more (first ++ tail) others
goes_past caps wish more first tail rest others e (inl h) = inl (h.0, ends_before first tail Eop h.1)
goes_past caps wish more first tail rest others e (inr h) =
    inr (ends_before first tail Eom h.0, subst (λ ps. ps ≢ []) e h.1, subst (AreAgreed caps wish more) e h.2)

agreed_group : (caps : Caps) (wish : Wish) (params : Params) (more : List Params) (number : ℕ) (page : PagePixels)
    (following : List PagePixels) →
    AreReadable (params ∷ []) (page ∷ following) → AreAgreed caps wish (params ∷ more) (page ∷ following) →
    (call_blocks (params ∷ []) number (page ∷ following) ≢ [])
    × GroupsGoOn caps wish more (call_blocks (params ∷ []) number (page ∷ following))
    (drop (pages_in (call_blocks (params ∷ []) number (page ∷ following))) (page ∷ following))
agreed_group caps wish params more number page [] readable agreed =
    let short = agreed.1 in
    let first = page_blocks params number Eop 0 (code_blocks params page) in
    let some = (readable.0 short).some in
    let is : call_blocks (params ∷ []) number (page ∷ []) ≡ first = page_first params [] number page [] short ∙ append_nil first in
    let single : more ≡ [] = none_more more agreed.2 in (
      subst (λ bs. bs ≢ []) (sym is) (page_some params number 0 Eop (code_blocks params page) some),
      inl (single, subst (λ bs. EndsIn bs Eop) (sym is) (ends_of_page params number 0 Eop (code_blocks params page) some)),
    )
  where
    none_more : (groups : List Params) → length (params ∷ groups) ≡ 1 → groups ≡ []
    none_more [] e = refl
    none_more (next ∷ groups) e = absurd (omega (arith, e))
agreed_group caps wish params more number page (next ∷ pages) readable agreed =
    by_end (end_before page (next ∷ pages)) refl (λ r a. agreed_group caps wish params more (suc number) next pages r a)
  where
    following : List PagePixels
    following = next ∷ pages

    by_end : (ends : PageEnd) → end_before page (next ∷ pages) ≡ ends →
        (AreReadable (params ∷ []) (next ∷ pages) → AreAgreed caps wish (params ∷ more) (next ∷ pages) →
        (call_blocks (params ∷ []) (suc number) (next ∷ pages) ≢ [])
        × GroupsGoOn caps wish more (call_blocks (params ∷ []) (suc number) (next ∷ pages))
        (drop (pages_in (call_blocks (params ∷ []) (suc number) (next ∷ pages))) (next ∷ pages))) →
        (call_blocks (params ∷ []) number (page ∷ next ∷ pages) ≢ [])
        × GroupsGoOn caps wish more (call_blocks (params ∷ []) number (page ∷ next ∷ pages))
        (drop (pages_in (call_blocks (params ∷ []) number (page ∷ next ∷ pages))) (page ∷ next ∷ pages))
    by_end Null e later = (let end : is_page_end Null ≡ true = subst (λ p. is_page_end p ≡ true) e (end_before_page page (next ∷ pages)) in
        cc)
    by_end Eop e later = (let none : next ∷ pages ≡ [] = none_after_eop page (next ∷ pages) e in cc)
    by_end Mps e later =
        let short = agreed.1 in
        let first = page_blocks params number (end_before page (next ∷ pages)) 0 (code_blocks params page) in
        let some = (readable.0 short).some in
        let tail = call_blocks (params ∷ []) (suc number) (next ∷ pages) in
        let is : call_blocks (params ∷ []) number (page ∷ next ∷ pages) ≡ first ++ tail =
        page_first params [] number page (next ∷ pages) short ∙
        ap (λ g. first ++ call_blocks g (suc number) (next ∷ pages)) (groups_after_mps page (next ∷ pages) params [] e) in
        let count : pages_in (first ++ tail) ≡ suc (pages_in tail) =
        pages_both first tail ∙ ap (λ n. n + pages_in tail)
        (one_page params number 0 (end_before page (next ∷ pages)) (code_blocks params page) some (end_before_page page (next ∷ pages)))
        ∙ (let one : 1 + pages_in tail ≡ suc (pages_in tail) = omega arith in one) in
        let h = later (subst (λ g. AreReadable g (next ∷ pages)) (groups_after_mps page (next ∷ pages) params [] e) readable.1)
        (subst (λ g. AreAgreed caps wish g (next ∷ pages)) (groups_after_mps page (next ∷ pages) params more e) agreed.2) in
        let rest : drop (pages_in tail) (next ∷ pages) ≡ drop (pages_in (first ++ tail)) (page ∷ next ∷ pages) =
        sym (ap (λ n. drop n (page ∷ next ∷ pages)) count) in
        subst (λ bs. (bs ≢ []) × GroupsGoOn caps wish more bs (drop (pages_in bs) (page ∷ next ∷ pages))) (sym is) (
          some_after first tail (page_some params number 0 (end_before page (next ∷ pages)) (code_blocks params page) some),
          goes_past caps wish more first tail _ _ rest h.1,
        )
    by_end Eom e later =
        let short = agreed.1 in
        let first = page_blocks params number (end_before page (next ∷ pages)) 0 (code_blocks params page) in
        let some = (readable.0 short).some in
        let is : call_blocks (params ∷ []) number (page ∷ next ∷ pages) ≡ first =
        page_first params [] number page (next ∷ pages) short
        ∙ (ap (λ g. first ++ call_blocks g (suc number) (next ∷ pages)) (groups_after_eom page (next ∷ pages) params [] e)
        ∙ (ap (λ bs. first ++ bs) (no_groups (suc number) (next ∷ pages)) ∙ append_nil first)) in
        let count : pages_in first ≡ 1 = one_page params number 0 (end_before page (next ∷ pages)) (code_blocks params page) some
        (end_before_page page (next ∷ pages)) in
        let rest : next ∷ pages ≡ drop (pages_in first) (page ∷ next ∷ pages) = sym (ap (λ n. drop n (page ∷ next ∷ pages)) count) in
        subst (λ bs. (bs ≢ []) × GroupsGoOn caps wish more bs (drop (pages_in bs) (page ∷ next ∷ pages))) (sym is) (
          page_some params number 0 (end_before page (next ∷ pages)) (code_blocks params page) some,
          inr (
            subst (EndsIn first) e (ends_of_page params number 0 (end_before page (next ∷ pages)) (code_blocks params page) some),
            subst (λ ps. ps ≢ []) rest (λ n. cc),
            subst (AreAgreed caps wish more) rest
                (subst (λ g. AreAgreed caps wish g (next ∷ pages)) (groups_after_eom page (next ∷ pages) params more e) agreed.2),
          ),
        )

-- the first of the pages left
head_dropped :
    (pages : List PagePixels) (n : ℕ) (page : PagePixels) (following : List PagePixels) → drop n pages ≡ page ∷ following →
    slice_get pages n ≡ Some page
head_dropped [] zero page following e = cc
head_dropped [] (suc n) page following e = cc
head_dropped (first ∷ pages) zero page following e = (let same : first ≡ page = cc in ap Some same)
head_dropped (first ∷ pages) (suc n) page following e = head_dropped pages n page following e

-- blocks of one part and another
length_both : (xs ys : List Block) → blocks_length (xs ++ ys) ≡ blocks_length xs + blocks_length ys
length_both [] ys = omega arith
length_both (x ∷ xs) ys = (let later = length_both xs ys in omega (arith, later))

-- what both remember at a group's beginning is that of the blocks so far
record IsAt (document : Document) (wish : Wish) (caps : Caps) (finished : List Params) (w : World) (place : ℕ) : Type 0 where
  known : Caps
  old : Params
  ready : Bool
  try : ℕ
  pprs : ℕ
  next : next_world w w.to_answerer w.to_caller ≡
      Some (happens (waiting document wish caps finished known old ready place try pprs
      (accepted_at (call_blocks finished 0 document) place) (open_before (call_blocks finished 0 document) place)
      (take (pages_before (call_blocks finished 0 document) place) document) (framed (dis caps) ∷ [])) DeliverToCaller Done)
  place_is : place ≡ length (call_blocks finished 0 document)

-- the first page of the group, and what holds of it
record GroupIs (document : Document) (wish : Wish) (caps : Caps) (finished : List Params) (params : Params)
    (more : List Params) : Type 0 where
  readable : AreReadable (params ∷ []) (drop (due finished document) document)
  agree : agreed_for caps wish (slice_get document (due finished document)) ≡ Some params
  may : allowed caps params ≡ true
  some : call_blocks (params ∷ []) (due finished document) (drop (due finished document) document) ≢ []
  go_on : GroupsGoOn caps wish more (call_blocks (params ∷ []) (due finished document) (drop (due finished document) document))
      (drop (pages_in (call_blocks (params ∷ []) (due finished document) (drop (due finished document) document)))
      (drop (due finished document) document))

group_is :
    Promised → (document : Document) (wish : Wish) (caps : Caps) (finished : List Params) (params : Params) (more : List Params) →
    Each IsFullPage document →
    (pages : List PagePixels) → drop (due finished document) document ≡ pages → pages ≢ [] → AreAgreed caps wish (params ∷ more) pages →
    GroupIs document wish caps finished params more
group_is laws document wish caps finished params more full [] is some agreed = absurd (some refl)
group_is laws document wish caps finished params more full (page ∷ following) is some agreed =
    let d = due finished document in
    let fits : (p : PagePixels) → slice_get (page ∷ following) 0 ≡ Some p → Fits params p =
    λ p e. (let same : page ≡ p = cc in subst (Fits params) same (laws.1.agreed_fits caps wish page params agreed.0)) in
    let readable : AreReadable (params ∷ []) (page ∷ following) =
    readable_group laws.0 laws.1.alike_fits params (page ∷ following)
    (subst (Each IsFullPage) is (each_drop IsFullPage d document full)) fits in
    let goes = agreed_group caps wish params more d page following readable agreed in
    record {
      readable = subst (AreReadable (params ∷ [])) (sym is) readable;
      agree = ap (agreed_for caps wish) (head_dropped document d page following is) ∙ agreed.0;
      may = laws.1.agreed_allowed caps wish page params agreed.0;
      some = subst (λ ps. call_blocks (params ∷ []) d ps ≢ []) (sym is) goes.0;
      go_on = subst (λ ps. GroupsGoOn caps wish more (call_blocks (params ∷ []) d ps) (drop (pages_in (call_blocks (params ∷ []) d ps)) ps))
          (sym is) goes.1;
    }

-- a group begins
group_begins :
    Promised →
    (document : Document) (wish : Wish) (caps : Caps) (finished : List Params) (params : Params) (more : List Params) (w : World)
    (place : ℕ) →
    GroupsThrough finished document → (readable : AreReadable (finished ++ params ∷ []) document) →
    GroupIs document wish caps finished params more → IsAt document wish caps finished w place →
    Begins document wish caps finished params readable w place
group_begins laws document wish caps finished params more w place through readable g at =
    let front = call_blocks finished 0 document in
    let tail = call_blocks (params ∷ []) (due finished document) (drop (due finished document) document) in
    let is : front ++ tail ≡ call_blocks (finished ++ params ∷ []) 0 document = sym (through.blocks (params ∷ [])) in
    let within : place ≤ length front = omega (arith, at.place_is) in
    let confirmed_is : pages_before (call_blocks (finished ++ []) 0 document) place ≡ due finished document =
    ap (λ fs. pages_before (call_blocks fs 0 document) place) (append_nil finished) ∙ ap (pages_before front) at.place_is in
    let agree : agreed_for caps wish (slice_get document (pages_before (call_blocks (finished ++ []) 0 document) place)) ≡ Some params =
    ap (λ n. agreed_for caps wish (slice_get document n)) confirmed_is ∙ g.agree in
    record {
      known = at.known;
      old = at.old;
      ready = at.ready;
      try = at.try;
      pprs = at.pprs;
      accepted = accepted_at front place;
      octets = open_before front place;
      pages = take (pages_before front place) document;
      next = at.next;
      accepted_is = sym (accepted_front front tail place within) ∙ ap (λ bs. accepted_at bs place) is;
      octets_are = sym (open_front front tail place within) ∙ ap (λ bs. open_before bs place) is;
      pages_are = ap (λ n. take n document) (sym (pages_front front tail place within) ∙ ap (λ bs. pages_before bs place) is);
      agree = agree;
      may = g.may;
      good = laws.1.good params;
    }

none_agreed : (caps : Caps) (wish : Wish) (pages : List PagePixels) → pages ≢ [] → AreAgreed caps wish [] pages → ⊥
none_agreed caps wish [] some h = some refl
none_agreed caps wish (page ∷ pages) some h = h

-- the T2 between groups sends the DIS that begins the next one
between_next : (document : Document) (wish : Wish) (caps : Caps) (finished : List Params) (params : Params) (ready : Bool) (last : ℕ)
    (accepted : Option Accepted) (octets : List ℕ) (pages : List PagePixels) →
    next_world (waiting document wish caps finished caps params ready (suc last) 1 0 accepted octets pages []) [] []
    ≡ Some (happens (waiting document wish caps finished caps params ready (suc last) 1 0 accepted octets pages
    (framed (dis caps) ∷ [])) DeliverToCaller Done)
between_next document wish caps finished params ready last accepted octets pages =
    let w = waiting document wish caps finished caps params ready (suc last) 1 0 accepted octets pages [] in
    let confirmed_one : nat_lt 0 (suc last) ≡ true = lt-ltb 0 (suc last) (omega arith) in
    ap (λ b. world_after (cond (b && true) ((AnswererT2, Done) ∷ (DeliverToCaller, Done) ∷ []) []) w) confirmed_one

some_length : (blocks : List Block) → blocks ≢ [] → 1 ≤ length blocks
some_length [] some = absurd (some refl)
some_length (block ∷ blocks) some = omega arith

-- from a group's beginning on
groups_lead :
    Promised → (document : Document) (wish : Wish) (caps : Caps) → Each IsFullPage document →
    (more : List Params) (params : Params) (finished : List Params) (w : World) (place : ℕ) →
    GroupsThrough finished document → IsAt document wish caps finished w place → drop (due finished document) document ≢ [] →
    AreAgreed caps wish (params ∷ more) (drop (due finished document) document) →
    CallLeads document w ((4 * length (params ∷ more) + 1) + blocks_length
    (call_blocks (params ∷ more) (due finished document) (drop (due finished document) document)))
groups_lead laws document wish caps full [] params finished w place through at some agreed =
    let d = due finished document in
    let pages = drop d document in
    let g = group_is laws document wish caps finished params [] full pages refl some agreed in
    let front = call_blocks finished 0 document in
    let tail = call_blocks (params ∷ []) d pages in
    let readable : AreReadable (finished ++ params ∷ []) document = through.readable (params ∷ []) g.readable in
    let begins = group_begins laws document wish caps finished params [] w place through readable g at in
    let is : call_blocks (finished ++ params ∷ []) 0 document ≡ front ++ tail = through.blocks (params ∷ []) in
    let dropped : drop place (call_blocks (finished ++ params ∷ []) 0 document) ≡ tail = ap (drop place) is ∙
    (ap (λ n. drop n (front ++ tail)) at.place_is ∙ drop_front front tail) in
    go g.go_on (λ eop. last_group_leads document wish caps finished params readable w place tail begins dropped g.some
    (one_group params d pages) (subst (λ bs. EndsIn bs Eop) (sym is) (ends_before front tail Eop eop)))
  where
    go : GroupsGoOn caps wish [] (call_blocks (params ∷ []) (due finished document) (drop (due finished document) document))
        (drop (pages_in (call_blocks (params ∷ []) (due finished document) (drop (due finished document) document)))
        (drop (due finished document) document)) →
        (EndsIn (call_blocks (params ∷ []) (due finished document) (drop (due finished document) document)) Eop →
        CallLeads document w (5 + blocks_length (call_blocks (params ∷ []) (due finished document)
        (drop (due finished document) document)))) →
        CallLeads document w ((4 * length (params ∷ []) + 1) + blocks_length
        (call_blocks (params ∷ []) (due finished document) (drop (due finished document) document)))
    go (inl h) leads =
        let number : 5 + blocks_length (call_blocks (params ∷ []) (due finished document) (drop (due finished document) document)) ≡
        (4 * length (params ∷ []) + 1) + blocks_length
        (call_blocks (params ∷ []) (due finished document) (drop (due finished document) document)) = omega arith in
        subst (CallLeads document w) number (leads h.1)
    go (inr h) leads = absurd (none_agreed caps wish _ h.1 h.2)
groups_lead laws document wish caps full (next ∷ more) params finished w place through at some agreed =
    let d = due finished document in
    let pages = drop d document in
    let g = group_is laws document wish caps finished params (next ∷ more) full pages refl some agreed in
    let front = call_blocks finished 0 document in
    let tail = call_blocks (params ∷ []) d pages in
    let readable : AreReadable (finished ++ params ∷ []) document = through.readable (params ∷ []) g.readable in
    let begins = group_begins laws document wish caps finished params (next ∷ more) w place through readable g at in
    let is : call_blocks (finished ++ params ∷ []) 0 document ≡ front ++ tail = through.blocks (params ∷ []) in
    let dropped : drop place (call_blocks (finished ++ params ∷ []) 0 document) ≡ tail = ap (drop place) is ∙
    (ap (λ n. drop n (front ++ tail)) at.place_is ∙ drop_front front tail) in
    let rest = goes_on tail (drop (pages_in tail) pages) g.go_on in
    let p = group_passes document wish caps finished params readable w place tail begins dropped g.some (one_group params d pages)
    (subst (λ bs. EndsIn bs Eom) (sym is) (ends_before front tail Eom rest.0)) in
    let all : suc p.last ≡ length front + length tail = p.length_is ∙ (ap length is ∙ length-append front tail) in
    let started : length front ≤ p.last = (let one = some_length tail g.some in omega (arith, all, one)) in
    let finished_next = finished ++ params ∷ [] in
    let through_next : GroupsThrough finished_next document =
    group_through finished params document through g.readable p.last p.block started p.at_last p.eom in
    let m = pages_in tail in
    let due_is : due finished_next document ≡ d + m = ap pages_in is ∙ pages_both front tail in
    let dropped_next : drop (due finished_next document) document ≡ drop m pages = ap (λ n. drop n document) due_is ∙
    sym (drop_drop d m document) in
    let bs = call_blocks finished_next 0 document in
    let after_group = waiting document wish caps finished_next caps params p.kept (suc p.last) 1 0 (accepted_at bs (suc p.last))
    (open_before bs (suc p.last)) (take (pages_before bs (suc p.last)) document) [] in
    let at_next : IsAt document wish caps finished_next after_group (suc p.last) =
    record {
      known = caps;
      old = params;
      ready = p.kept;
      try = 1;
      pprs = 0;
      next = between_next document wish caps finished_next params p.kept p.last (accepted_at bs (suc p.last))
          (open_before bs (suc p.last)) (take (pages_before bs (suc p.last)) document);
      place_is = p.length_is;
    } in
    let later = groups_lead laws document wish caps full more next finished_next after_group (suc p.last) through_next at_next
    (subst (λ ps. ps ≢ []) (sym dropped_next) rest.1) (subst (AreAgreed caps wish (next ∷ more)) (sym dropped_next) rest.2) in
    let following = call_blocks (next ∷ more) (due finished_next document) (drop (due finished_next document) document) in
    let following_is : call_blocks (next ∷ more) (d + m) (drop m pages) ≡ following =
    ap (λ n. call_blocks (next ∷ more) n (drop m pages)) (sym due_is) ∙
    ap (call_blocks (next ∷ more) (due finished_next document)) (sym dropped_next) in
    let blocks_are : call_blocks (params ∷ next ∷ more) d pages ≡ tail ++ following =
    (group_ends params d pages g.readable rest.0).blocks_are (next ∷ more) ∙ ap (λ b. tail ++ b) following_is in
    let long : blocks_length (call_blocks (params ∷ next ∷ more) d pages) ≡ blocks_length tail + blocks_length following =
    ap blocks_length blocks_are ∙ length_both tail following in
    let number : (4 + blocks_length tail) + ((4 * length (next ∷ more) + 1) + blocks_length following) ≡
    (4 * length (params ∷ next ∷ more) + 1) + blocks_length (call_blocks (params ∷ next ∷ more) d pages) = omega (arith, long) in
    record {
      after = later.after;
      leads = subst (λ n. Leads n w later.after) number
          (leads_then (4 + blocks_length tail) ((4 * length
          (next ∷ more) + 1) + blocks_length following) w after_group later.after p.leads later.leads);
      quiet = later.quiet;
      through = later.through;
    }
  where
    goes_on :
        (tail : List Block) (rest : List PagePixels) → GroupsGoOn caps wish (next ∷ more) tail rest →
        EndsIn tail Eom × (rest ≢ []) × AreAgreed caps wish (next ∷ more) rest
    goes_on tail rest (inl h) = (let none : next ∷ more ≡ [] = h.0 in cc)
    goes_on tail rest (inr h) = h

-- a whole call
call_leads :
    Promised → (document : Document) (wish : Wish) (caps : Caps) (groups : List Params) → Each IsFullPage document → document ≢ [] →
    AreAgreed caps wish groups document →
    CallLeads document (new_world document wish caps) (call_length groups document)
call_leads laws document wish caps [] full some agreed = absurd (none_agreed caps wish document some agreed)
call_leads laws document wish caps (params ∷ more) full some agreed =
    let none : call_blocks [] 0 document ≡ [] = no_groups 0 document in
    let due_none : due [] document ≡ 0 = ap pages_in none in
    let w = new_world document wish caps in
    let at : IsAt document wish caps [] w 0 =
    record { known = no_caps; old = no_params; ready = false; try = 0; pprs = 0; next = refl; place_is = sym (ap length none) } in
    let h = groups_lead laws document wish caps full more params [] w 0 (none_through document) at
    (subst (λ n. drop n document ≢ []) (sym due_none) some)
    (subst (λ n. AreAgreed caps wish (params ∷ more) (drop n document)) (sym due_none) agreed) in
    subst (λ n. CallLeads document w ((4 * length (params ∷ more) + 1) + blocks_length
    (call_blocks (params ∷ more) n (drop n document)))) due_none h

some_pages : (document : Document) → 0 < length document → document ≢ []
some_pages [] h = absurd (omega arith)
some_pages (page ∷ pages) h = λ e. cc

pub polite_calls : Promised → PoliteCalls
polite_calls laws document wish caps groups most some full agreed =
    let w = new_world document wish caps in
    let call = call_leads laws document wish caps groups full (some_pages document some) agreed in
    let runs = polite_is (call_length groups document) w call.after call.leads call.quiet most in
    record { number = runs.0; through = λ h. subst (IsThrough document) (sym (runs.1 h)) call.through }
