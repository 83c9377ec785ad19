-- The items of a turn, one after the other.
use Rattle.std.proofs.Common.{◌≡◌, ◌≢◌, ℕ, zero, suc, ◌+◌, ◌-◌, ◌≤◌, ◌<◌, true, false, cond, List, [], ◌∷◌, ◌++◌, length, drop, replicate}
use Rattle.std.proofs.Common.{Option, Some, None, refl, ap, sym, subst, ◌∙◌, arith}
use Rattle.std.specs.Prelude.{slice_index_or, slice_get, is_some}
use Rattle.partial_page.specs.Store.{bit_of}
use Rattle.signals.specs.Signals.{fcd, rcp}
use Rattle.signals.specs.declared.signal.Signal.{Signal}
use Rattle.std.specs.Borrow.{Bor}
use Rattle.stations.specs.CallerStep.{Caller, fcds, blocks_of, present_in, present_block}
use Rattle.stations.specs.Layers.{code_blocks}
use Rattle.stations.specs.CallerFields.{CallerFields, Represents, AtBlock, IsSending, HasBlock, GivesPresent}
use Rattle.stations.specs.declared.turn.CallerState.{CallerState}
use Rattle.stations.specs.declared.turn.CallerState.TheVariants.{WaitDis, WaitCfr, WaitBlock, WaitReady}
use Rattle.stations.specs.declared.turn.End.{End}
use Rattle.stations.specs.Inputs.{PlainItem, framed, checked}
use Rattle.stations.specs.Lending.{has_no_frame, end_left, training_left}
use Rattle.stations.proofs.CallerRows.{drop_over, at_block, block_is_of_fields}

drop_at : (all : List (List ℕ)) (n : ℕ) → n < length all → drop n all ≡ slice_index_or all n [] ∷ drop (suc n) all
drop_at [] n h = absurd (omega arith)
drop_at (x ∷ all) zero h = refl
drop_at (x ∷ all) (suc n) h = drop_at all n (omega arith)

-- over frames that aren't marked
skip_by :
    (map : List ℕ) (all : List (List ℕ)) (from k : ℕ) → from + k ≤ length all → ((n : ℕ) → from ≤ n → n < from + k → bit_of map n ≡ false) →
    fcds map from (drop from all) ≡ fcds map (from + k) (drop (from + k) all)
skip_by map all from zero within none = let e : from ≡ from + 0 = omega arith in ap (λ n. fcds map n (drop n all)) e
skip_by map all from (suc k) within none =
    let e : suc from + k ≡ from + suc k = omega arith in
    ap (fcds map from) (drop_at all from (omega arith)) ∙
    (ap (λ b. cond b (framed (fcd from (slice_index_or all from [])) ∷ fcds map (suc from) (drop (suc from) all))
    (fcds map (suc from) (drop (suc from) all))) (none from (omega arith) (omega arith)) ∙
    (skip_by map all (suc from) k (omega arith) (λ n a b. none n (omega arith) (omega arith)) ∙
    ap (λ n. fcds map n (drop n all)) e))

skip_to :
    (map : List ℕ) (all : List (List ℕ)) (from number : ℕ) → from ≤ number → number ≤ length all →
    ((n : ℕ) → from ≤ n → n < number → bit_of map n ≡ false) → fcds map from (drop from all) ≡ fcds map number (drop number all)
skip_to map all from number order within none =
    let e : from + (number - from) ≡ number = omega arith in
    skip_by map all from (number - from) (omega arith) (λ n a b. none n a (omega arith)) ∙ ap (λ n. fcds map n (drop n all)) e

-- the next marked frame is the first of the FCDs left
pub gives_next :
    (map : List ℕ) (all : List (List ℕ)) (from number : ℕ) (octets : List ℕ) → from ≤ number → number < length all →
    ((n : ℕ) → from ≤ n → n < number → bit_of map n ≡ false) → bit_of map number ≡ true → octets ≡ slice_index_or all number [] →
    fcds map from (drop from all) ≡ framed (fcd number octets) ∷ fcds map (number + 1) (drop (number + 1) all)
gives_next map all from number octets order within none marked is =
    let e : suc number ≡ number + 1 = omega arith in
    skip_to map all from number order (omega arith) none ∙
    (ap (fcds map number) (drop_at all number within) ∙
    (ap (λ b. cond b (framed (fcd number (slice_index_or all number [])) ∷ fcds map (suc number) (drop (suc number) all))
    (fcds map (suc number) (drop (suc number) all))) marked ∙
    (ap (λ o. framed (fcd number o) ∷ fcds map (suc number) (drop (suc number) all)) (sym is) ∙
    ap (λ n. framed (fcd number octets) ∷ fcds map n (drop n all)) e)))

-- after the last frame no FCD is left
pub gives_none : (map : List ℕ) (all : List (List ℕ)) (count : ℕ) → length all ≤ count → fcds map count (drop count all) ≡ []
gives_none map all count past = ap (fcds map count) (drop_over all count past)

pub gives_none_from :
    (map : List ℕ) (all : List (List ℕ)) (from number : ℕ) → from ≤ number → number ≡ length all →
    ((n : ℕ) → from ≤ n → n < number → bit_of map n ≡ false) → fcds map from (drop from all) ≡ []
gives_none_from map all from number order is none = skip_to map all from number order (omega arith) none ∙
    gives_none map all number (omega arith)

-- a frame follows
pub frame_follows : (items following : List PlainItem) → has_no_frame following ≡ false → has_no_frame (items ++ following) ≡ false
frame_follows [] following h = h
frame_follows (framed signal ∷ items) following h = refl
frame_follows (checked octets ∷ items) following h = frame_follows items following h

-- the turn's last frame follows, where it is left
pub end_follows : (end : Option Signal) (training : Option ℕ) → end ≢ None → has_no_frame (end_left end ++ training_left training) ≡ false
end_follows None training some = absurd (some refl)
end_follows (Some signal) training some = refl

-- an FCD is the first of a turn's items left, and not its last frame
pub more_follows :
    (old new : List PlainItem) (rcps : ℕ) (end : Option Signal) (training : Option ℕ) → (end ≡ None → old ≡ []) → (item : PlainItem) →
    old ≡ item ∷ new →
    (old ++ (replicate rcps (framed rcp) ++ (end_left end ++ training_left training)) ≡ item ∷
    (new ++ (replicate rcps (framed rcp) ++ (end_left end ++ training_left training)))) ×
    (false ≡ has_no_frame (new ++ (replicate rcps (framed rcp) ++ (end_left end ++ training_left training))))
more_follows old new rcps end training none item first =
    let some : end ≢ None = λ e. let both : item ∷ new ≡ [] = sym first ∙ none e in absurd (cc both) in (
      ap (λ l. l ++ (replicate rcps (framed rcp) ++ (end_left end ++ training_left training))) first,
      sym (frame_follows new _ (frame_follows (replicate rcps (framed rcp)) _ (end_follows end training some))),
    )

-- the block at the place of a caller that is sending is its present one
is_shown :
    (v : CallerFields) (t : Caller) → IsSending v.state → v.ending ≡ None → Represents v t →
    present_block t ≡ slice_get (blocks_of t) t.place
is_shown v t sending on h = at t.state t.ending (subst IsSending (sym h.state) sending) (h.ending ∙ on)
  where
    at :
        (state : CallerState) (ending : Option End) → IsSending state → ending ≡ None →
        present_in state ending (slice_get (blocks_of t) t.place) ≡ slice_get (blocks_of t) t.place
    at WaitDis ending sending on = absurd sending
    at WaitCfr ending sending on = absurd sending
    at WaitBlock None sending on = refl
    at WaitBlock (Some why) sending on = absurd (cc on)
    at WaitReady None sending on = refl
    at WaitReady (Some why) sending on = absurd (cc on)

pub shows_sending :
    (v : CallerFields) (blocks : Option (Bor (List (List (List ℕ))))) → IsSending v.state → v.ending ≡ None → HasBlock v blocks →
    GivesPresent v blocks
shows_sending v None sending on has = λ t h.
    let at : AtBlock v t = at_block v t v.state refl sending (h.place on) in
    absurd (let past : length (code_blocks v.params at.page) ≤ v.block = has (code_blocks v.params at.page) at.encoded in
    omega (arith, past, at.within))
shows_sending v (Some blocks) sending on has =
    (has.1, λ t h. is_shown v t sending on h ∙ block_is_of_fields v t blocks.now sending on h has.0 has.1)

pub not_some : {A : Type 0} (o : Option A) → is_some o ≡ false → o ≡ None
not_some None e = refl
not_some (Some x) e = absurd (cc e)
