-- The open frames, by their numbers, against the frames of a block.
use Rattle.std.proofs.Common.{◌≡◌, ◌≢◌, ℕ, zero, suc, ◌+◌, ◌≤◌, ◌<◌, true, List, [], ◌∷◌, ◌++◌, length, replicate, Option, Some, None, refl}
use Rattle.std.proofs.Common.{sym, ap, subst, ◌∙◌, arith, inl, inr, ◌⊎◌}
use Rattle.std.specs.Prelude.{slice_get, slice_set, is_some, pred, unwrap_or}
use Rattle.std.specs.List.{flat_map, range_with_len}
use Rattle.std.proofs.lemmas.Bool.{and_parts}
use Rattle.std.proofs.lemmas.List.{length-set}
use Rattle.partial_page.specs.Store.{no_frames, frame_of, has_frame, joined_frames}
use Rattle.stations.specs.Blocks.{joined}
use Rattle.partial_page.specs.Assembling.{Frames, is_whole, all_there}
use Rattle.line_sim.specs.LineFacts.{HoldsAll}
use Rattle.line_sim.proofs.Lists.{get_within}

-- the store holds frames of the list alone
abbrev pub HoldsOnly : Frames → List (List ℕ) → Type 0
HoldsOnly store frames = (n : ℕ) (octets : List ℕ) → frame_of store n ≡ Some octets → slice_get frames n ≡ Some octets

whole_has : (store : Frames) (count n : ℕ) → is_whole store count ≡ true → n < count → has_frame store n ≡ true
whole_has store zero n whole h = absurd (omega arith)
whole_has store (suc count) n whole h =
    let parts = and_parts (is_whole store count) (has_frame store count) whole in
    elim (last n count h) [
      | inl e ↦ subst (λ k. has_frame store k ≡ true) (sym e) parts.1
      | inr below ↦ whole_has store count n parts.0 below
    ]
  where
    last : (n count : ℕ) → n < suc count → (n ≡ count) ⊎ (n < count)
    last zero zero h = inl refl
    last zero (suc count) h = inr (omega arith)
    last (suc n) zero h = absurd (omega arith)
    last (suc n) (suc count) h = elim (last n count (omega arith)) [
      | inl e ↦ inl (ap suc e)
      | inr below ↦ inr (omega arith)
    ]

first_held :
    (at : Option (List ℕ)) (octets : List ℕ) → is_some at ≡ true → ((o : List ℕ) → at ≡ Some o → Some octets ≡ Some o) → at ≡ Some octets
first_held None octets e h = cc
first_held (Some o) octets e h = sym (h o refl)

count_is : (frames : List (List ℕ)) → frames ≢ [] → suc (pred (length frames)) ≡ length frames
count_is [] some = absurd (some refl)
count_is (frame ∷ frames) some = refl

pub whole_holds_all :
    (frames : List (List ℕ)) (store : Frames) → frames ≢ [] → HoldsOnly store frames → all_there store (pred (length frames)) ≡ true →
    HoldsAll store frames
unfolding all_there
whole_holds_all frames store some only whole n octets e =
    let there = whole_has store (suc (pred (length frames))) n whole
    (subst (λ k. n < k) (sym (count_is frames some)) (get_within frames n octets e)) in
    first_held (frame_of store n) octets there (λ o h. sym e ∙ only n o h)

get_there : {A : Type 0} (xs : List A) (k : ℕ) → k < length xs → (x : A) × (slice_get xs k ≡ Some x)
get_there [] k h = absurd (omega arith)
get_there (x ∷ xs) zero h = (x, refl)
get_there (x ∷ xs) (suc k) h = get_there xs k (omega arith)

all_whole : (frames : List (List ℕ)) (store : Frames) → HoldsAll store frames → (k : ℕ) → k ≤ length frames → is_whole store k ≡ true
all_whole frames store all zero h = refl
all_whole frames store all (suc k) h =
    let there = get_there frames k h in
    rw (all_whole frames store all k (omega arith), all k there.0 there.1) refl

pub holds_all_whole :
    (frames : List (List ℕ)) (store : Frames) → frames ≢ [] → HoldsAll store frames → all_there store (pred (length frames)) ≡ true
unfolding all_there
holds_all_whole frames store some all = all_whole frames store all (suc (pred (length frames))) (omega (arith, count_is frames some))

joined_from :
    (frames : List (List ℕ)) (store : Frames) (start : ℕ) →
    ((n : ℕ) (octets : List ℕ) → slice_get frames n ≡ Some octets → frame_of store (n + start) ≡ Some octets) →
    flat_map (λ n. unwrap_or (frame_of store n) []) (range_with_len start (length frames)) ≡ joined frames
joined_from [] store start all = refl
joined_from (frame ∷ frames) store start all =
    let here : 0 + start ≡ start = omega arith in
    let first : frame_of store start ≡ Some frame = subst (λ k. frame_of store k ≡ Some frame) here (all 0 frame refl) in
    let later = joined_from frames store (start + 1)
    (λ n octets e. (let shift : suc n + start ≡ n + (start + 1) = omega arith in
    subst (λ k. frame_of store k ≡ Some octets) shift (all (suc n) octets e))) in
    rw first (ap (λ l. frame ++ l) later)

pub joined_is :
    (frames : List (List ℕ)) (store : Frames) → frames ≢ [] → HoldsAll store frames →
    joined_frames store (pred (length frames) + 1) ≡ joined frames
unfolding joined_frames
joined_is frames store some all =
    let count : pred (length frames) + 1 ≡ length frames = omega (arith, count_is frames some) in
    ap (joined_frames store) count ∙ joined_from frames store 0
    (λ n octets e. (let here : n ≡ n + 0 = omega arith in subst (λ k. frame_of store k ≡ Some octets) here (all n octets e)))

pub put_holds :
    (store : Frames) (number : ℕ) (octets : List ℕ) (P : ℕ → List ℕ → Type 0) → ((n : ℕ) (o : List ℕ) → frame_of store n ≡ Some o → P n o) →
    P number octets →
    (n : ℕ) (o : List ℕ) → frame_of (slice_set store number (Some octets)) n ≡ Some o → P n o
put_holds [] number octets P old new n o e = cc
put_holds (frame ∷ store) zero octets P old new zero o e = (let same : octets ≡ o = cc in subst (P 0) same new)
put_holds (frame ∷ store) zero octets P old new (suc n) o e = old (suc n) o e
put_holds (frame ∷ store) (suc number) octets P old new zero o e = old 0 o e
put_holds (frame ∷ store) (suc number) octets P old new (suc n) o e =
    put_holds store number octets (λ k. P (suc k)) (λ k x h. old (suc k) x h) new n o e

none_in : (m n : ℕ) (octets : List ℕ) → frame_of (replicate m None) n ≡ Some octets → ⊥
none_in zero n octets e = cc
none_in (suc m) zero octets e = cc
none_in (suc m) (suc n) octets e = none_in m n octets e

-- where no frame is open, no number has one
pub none_held : (frames : Frames) (n : ℕ) (octets : List ℕ) → frames ≡ no_frames → frame_of frames n ≡ Some octets → ⊥
unfolding no_frames
none_held frames n octets none e = none_in 256 n octets (ap (λ fs. frame_of fs n) (sym none) ∙ e)

pub length_put :
    (frames : Frames) (number : ℕ) (frame : Option (List ℕ)) → length frames ≡ 256 → length (slice_set frames number frame) ≡ 256
length_put frames number frame h = length-set frames number frame ∙ h

pub length_none : length no_frames ≡ 256
unfolding no_frames
length_none = refl
