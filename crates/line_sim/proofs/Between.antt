-- Between groups, by the stations' own tests.
use Rattle.std.proofs.Common.{◌≡◌, ℕ, zero, suc, ◌+◌, ◌<◌, ◌↔◌, Bool, true, false, cond, not, ◌&&◌, nat_lt, List, [], ◌∷◌, ◌++◌, length}
use Rattle.std.proofs.Common.{drop, Option, Some, None, is_some, refl, ap, sym, subst, ◌∙◌, arith}
use Rattle.std.specs.Prelude.{IsTrue}
use Rattle.std.proofs.lemmas.Bool.{lt-ltb}
use Rattle.raster.specs.Pages.{PagePixels}
use Rattle.signals.specs.declared.params.Params.{Params}
use Rattle.stations.specs.Blocks.{Block, page_blocks, end_before, groups_after, call_blocks, pages_before}
use Rattle.stations.specs.CallerFields.{CallerFields, AtGroup, Represents}
use Rattle.stations.specs.CallerStep.{Caller, blocks_of, confirmed}
use Rattle.stations.specs.Layers.{code_within_limit, code_blocks}
use Rattle.stations.specs.declared.turn.AnswererState.{AnswererState}
use Rattle.stations.specs.declared.turn.AnswererState.TheVariants.{PhaseB, WaitTraining, Message}
use Rattle.stations.specs.declared.turn.CallerState.{CallerState}
use Rattle.stations.specs.declared.turn.CallerState.TheVariants.{WaitDis, WaitCfr, WaitBlock, WaitReady}
use Rattle.stations.proofs.CallerRows.{place_in}
use Rattle.stations.proofs.Progress.{end_before_page}
use Rattle.line_sim.specs.Line.{World}
use Rattle.line_sim.specs.Polite.{waits_for_dis, waits_for_dcs, is_between_groups}
use Rattle.line_sim.proofs.Groups.{pages_in, pages_both, one_page, no_groups}
use Rattle.line_sim.proofs.Lists.{append_nil}

-- where there are blocks, a page is whole
first_page : (b : Bool) (params : Params) (number : ℕ) (page : PagePixels) (pages : List PagePixels) (coding : List (List (List ℕ)))
    (tail : List Block) → (0 < length tail → 0 < pages_in tail) →
    0 < length (cond b (page_blocks params number (end_before page pages) 0 coding ++ tail) []) →
    0 < pages_in (cond b (page_blocks params number (end_before page pages) 0 coding ++ tail) [])
first_page false params number page pages coding tail later h = absurd (omega arith)
first_page true params number page pages [] tail later h = later h
first_page true params number page pages (frames ∷ coding) tail later h =
    let first : List Block = page_blocks params number (end_before page pages) 0 (frames ∷ coding) in
    let one : pages_in first ≡ 1 =
    one_page params number 0 (end_before page pages) (frames ∷ coding) (λ e. cc) (end_before_page page pages) in
    let sum : pages_in (first ++ tail) ≡ pages_in first + pages_in tail = pages_both first tail in
    omega arith

some_pages : (groups : List Params) (number : ℕ) (pages : List PagePixels) → 0 < length (call_blocks groups number pages) →
    0 < pages_in (call_blocks groups number pages)
some_pages groups number [] h = absurd (omega arith)
some_pages [] number (page ∷ pages) h = absurd (omega arith)
some_pages (params ∷ groups) number (page ∷ pages) h =
    first_page (code_within_limit params page) params number page pages (code_blocks params page)
    (call_blocks (groups_after page pages (params ∷ groups)) (suc number) pages)
    (some_pages (groups_after page pages (params ∷ groups)) (suc number) pages) h

-- a caller that waits for a DIS past a block has confirmed a page
page_confirmed : (v : CallerFields) (t : Caller) → Represents v t → v.ending ≡ None → t.state ≡ WaitDis → 0 < t.place → 0 < confirmed t
page_confirmed v t r on waits more =
    let at : AtGroup v t = (place_in v t WaitDis (sym r.state ∙ waits) (r.place on)).1 in
    let blocks : List Block = call_blocks (t.finished ++ []) 0 t.document in
    let front : blocks ≡ at.front = at.ahead [] ∙
    (ap (λ l. at.front ++ l) (no_groups v.page (drop v.page t.document)) ∙ append_nil at.front) in
    let some : 0 < length blocks = subst (λ l. 0 < length l) (sym front) (subst (λ n. 0 < n) at.place more) in
    let pages : pages_in blocks ≡ confirmed t = ap pages_in front ∙ (at.pages ∙ sym r.confirms) in
    subst (λ n. 0 < n) pages (some_pages (t.finished ++ []) 0 t.document some)

place_past : (blocks : List Block) (n : ℕ) → 0 < pages_before blocks n → 0 < n
place_past blocks zero h = h
place_past blocks (suc n) h = omega arith

waits_true : (state : CallerState) (place : ℕ) → state ≡ WaitDis → 0 < place → true ≡ (waits_for_dis state && nat_lt 0 place)
waits_true state place waits more = rw (waits, lt-ltb 0 place more) refl

waits_false : (state : CallerState) (place : ℕ) → (state ≡ WaitDis → 0 < place → ⊥) → false ≡ (waits_for_dis state && nat_lt 0 place)
waits_false WaitDis zero fails = refl
waits_false WaitDis (suc n) fails = absurd (fails refl (omega arith))
waits_false WaitCfr place fails = refl
waits_false WaitBlock place fails = refl
waits_false WaitReady place fails = refl

waits_is : (v : CallerFields) (t : Caller) (b : Bool) → Represents v t → v.ending ≡ None →
    (IsTrue b ↔ ((t.state ≡ WaitDis) × (0 < confirmed t))) → b ≡ (waits_for_dis t.state && nat_lt 0 t.place)
waits_is v t true r on h = let w = h.0 refl in waits_true t.state t.place w.0 (place_past (blocks_of t) t.place w.1)
waits_is v t false r on h =
    waits_false t.state t.place (λ waits more. let fails : false ≡ true = h.1 (waits, page_confirmed v t r on waits more) in cc)

phase_is : (state : AnswererState) (b : Bool) → (IsTrue b ↔ (state ≡ PhaseB)) → b ≡ waits_for_dcs state
phase_is state true h = rw (h.0 refl) refl
phase_is PhaseB false h = (let fails : false ≡ true = h.1 refl in cc)
phase_is WaitTraining false h = refl
phase_is Message false h = refl

test_3 : (a b c d e : Bool) → (c && d) ≡ false → false ≡ (not a && not b && c && d && e)
test_3 true b c d e h = refl
test_3 false true c d e h = refl
test_3 false false false d e h = refl
test_3 false false true false e h = refl
test_3 false false true true e h = cc

test_4 : (a b c d e : Bool) → a ≡ false → b ≡ false → (c && d) ≡ true → e ≡ (not a && not b && c && d && e)
test_4 true b c d e h i k = cc
test_4 false true c d e h i k = cc
test_4 false false false d e h i k = cc
test_4 false false true false e h i k = cc
test_4 false false true true e h i k = refl

none_is : {A : Type 0} (o : Option A) → is_some o ≡ false → o ≡ None
none_is None e = refl
none_is (Some x) e = cc

pub not_waiting : (w : World) (v : CallerFields) (b : Bool) → Represents v w.caller → is_some w.caller.ending ≡ false →
    (IsTrue b ↔ ((w.caller.state ≡ WaitDis) × (0 < confirmed w.caller))) → b ≡ false → false ≡ is_between_groups w
not_waiting w v b r on h fails =
    test_3 (is_some w.caller.ending) (is_some w.answerer.ending) (waits_for_dis w.caller.state) (nat_lt 0 w.caller.place)
    (waits_for_dcs w.answerer.state)
    (sym (waits_is v w.caller b r (sym r.ending ∙ none_is w.caller.ending on) h) ∙ fails)

pub waiting : (w : World) (v : CallerFields) (b phase : Bool) → Represents v w.caller → is_some w.caller.ending ≡ false →
    is_some w.answerer.ending ≡ false → (IsTrue b ↔ ((w.caller.state ≡ WaitDis) × (0 < confirmed w.caller))) → b ≡ true →
    (IsTrue phase ↔ (w.answerer.state ≡ PhaseB)) → phase ≡ is_between_groups w
waiting w v b phase r on going h holds p =
    phase_is w.answerer.state phase p ∙
    test_4 (is_some w.caller.ending) (is_some w.answerer.ending) (waits_for_dis w.caller.state) (nat_lt 0 w.caller.place)
    (waits_for_dcs w.answerer.state) on going
    (sym (waits_is v w.caller b r (sym r.ending ∙ none_is w.caller.ending on) h) ∙ holds)
