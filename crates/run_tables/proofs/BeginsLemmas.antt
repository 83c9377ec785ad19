-- Code words that begin bits, and the item of a list whose code word is there.
use Rattle.std.proofs.Common.{ℕ, zero, suc, ◌≡◌, ◌+◌, ◌<◌, ◌≤◌, inl, inr, Bool, true, false, ◌&&◌, ◌||◌, not, List, [], ◌∷◌, ◌++◌, map}
use Rattle.std.proofs.Common.{length, get_or, nat_eq, slice_get, drop, Some, None, refl, ap, sym, ◌∙◌, arith, cond}
use mathlib.Core.Bool.{beq}
use Rattle.std.specs.Prelude.{Option, Contains, IfNone, is_some}
use Rattle.std.specs.List.{list_all}
use Rattle.std.proofs.lemmas.Bool.{and_parts, false≢true, not-true, cases_Bool, and_from}
use Rattle.std.proofs.lemmas.List.{get_or-map, length-map, drop_more, drop_all}
use Rattle.std.proofs.lemmas.Option.{get_or_from_slice_get, slice_get_within}
use Rattle.run_tables.specs.Codes.{text}
use Rattle.run_tables.specs.Texts.{begins, apart, pick}

pub list_all_at : {X : Type 0} (p : X → Bool) (xs : List X) (k : ℕ) (d : X) → list_all p xs ≡ true → k < length xs
    → p (get_or xs k d) ≡ true
list_all_at p [] k d e h = absurd (omega arith)
list_all_at p (x ∷ xs) zero d e h = (and_parts (p x) (list_all p xs) e).0
list_all_at p (x ∷ xs) (suc k) d e h = list_all_at p xs k d (and_parts (p x) (list_all p xs) e).1 (omega arith)

-- what a test finds of each is so of each
pub all_test : {X : Type 0} (p : X → Bool) (xs : List X) (x : X) → list_all p xs ≡ true → Contains xs x → p x ≡ true
all_test p xs x e c = rw c.2 at (list_all_at p xs c.0 x e c.1)

beq_same : (b : Bool) → beq b b ≡ true
beq_same true = refl
beq_same false = refl

beq_is : (a b : Bool) → beq a b ≡ true → a ≡ b
beq_is true true e = refl
beq_is true false e = absurd (false≢true e)
beq_is false true e = absurd (false≢true e)
beq_is false false e = refl

pub begins_own : (a z : List Bool) → begins a (a ++ z) ≡ true
begins_own [] z = refl
begins_own (x ∷ a) z = and_from (beq x x) (begins a (a ++ z)) (beq_same x) (begins_own a z)

-- what begins the bits is before the rest of them
pub begins_split : (a x : List Bool) → begins a x ≡ true → x ≡ a ++ drop (length a) x
begins_split [] x e = refl
begins_split (b ∷ a) [] e = absurd (false≢true e)
begins_split (b ∷ a) (c ∷ x) e =
    let parts = and_parts (beq c b) (begins a x) e in
    rw (beq_is c b parts.0) (ap (λ l. b ∷ l) (begins_split a x parts.1))

and_assoc : (x y z : Bool) → (x && (y && z)) ≡ ((x && y) && z)
and_assoc true y z = refl
and_assoc false y z = refl

-- one code word and then another
pub begins-append : (a b z : List Bool) → begins (a ++ b) z ≡ (begins a z && begins b (drop (length a) z))
begins-append [] b z = refl
begins-append (x ∷ a) b [] = refl
begins-append (x ∷ a) b (y ∷ z) = ap (λ t. beq y x && t) (begins-append a b z) ∙
    and_assoc (beq y x) (begins a z) (begins b (drop (length a) z))

pub begins_both : (a b z : List Bool) → begins a z ≡ true → begins b (drop (length a) z) ≡ true → begins (a ++ b) z ≡ true
begins_both a b z p q = begins-append a b z ∙ (ap (λ t. t && begins b (drop (length a) z)) p ∙ q)

-- a code word that begins another code word's bits begins that code word, or is begun by it
pub either_begins : (a b z : List Bool) → begins a (b ++ z) ≡ true → (begins a b || begins b a) ≡ true
either_begins [] b z e = refl
either_begins (x ∷ a) [] z e = refl
either_begins (x ∷ a) (y ∷ b) z e =
    let parts = and_parts (beq y x) (begins a (b ++ z)) e in
    let equal : y ≡ x = beq_is y x parts.0 in
    rw (equal, beq_same x) (either_begins a b z parts.1)

apart_from : (x : List Bool) (ys : List (List Bool)) (k : ℕ) (d : List Bool) → list_all (λ y. not (begins x y || begins y x)) ys ≡ true
    → k < length ys → (begins x (get_or ys k d) || begins (get_or ys k d) x) ≡ false
apart_from x ys k d e h = not-true _ (list_all_at (λ y. not (begins x y || begins y x)) ys k d e h)

-- an item is found where its code word is
pub pick_found : {Item : Type 0} (word : Item → List Bool) (items : List Item) (i : Item) (z : List Bool)
    → apart (map word items) ≡ true → Contains items i → pick word items (word i ++ z) ≡ Some i
pick_found word items i z separate c = at items separate c.0 c.1 c.2
  where
    at : (js : List _) → apart (map word js) ≡ true → (k : ℕ) → k < length js → get_or js k i ≡ i → pick word js (word i ++ z) ≡ Some i
    at [] e k h is = absurd (omega arith)
    at (j ∷ js) e zero h is = rw (is, begins_own (word i) z) refl
    at (j ∷ js) e (suc k) h is =
        let parts = and_parts (list_all (λ y. not (begins (word j) y || begins y (word j))) (map word js)) (apart (map word js)) e in
        let within : k < length (map word js) = rw length-map (omega arith) in
        let here : get_or (map word js) k (word i) ≡ word i = get_or-map word js k i (word i) (omega arith) ∙ ap word is in
        let none : (begins (word j) (word i) || begins (word i) (word j)) ≡ false = rw here at (apart_from (word j) (map word js) k (word i)
        parts.0 within) in
        elim (cases_Bool (begins (word j) (word i ++ z))) [
          | inl t ↦ absurd (false≢true (sym none ∙ either_begins (word j) (word i) z t))
          | inr f ↦ rw f (at js parts.1 k (omega arith) is)
        ]

pub pick_begun : {Item : Type 0} (word : Item → List Bool) (items : List Item) (i : Item) (x : List Bool)
    → apart (map word items) ≡ true → Contains items i → begins (word i) x ≡ true → pick word items x ≡ Some i
pick_begun word items i x separate c e =
    ap (λ z. pick word items z) (begins_split (word i) x e) ∙ pick_found word items i (drop (length (word i)) x) separate c

-- what is found is listed, and its code words begin the bits
pub pick_begins : {Item : Type 0} (word : Item → List Bool) (items : List Item) (i : Item) (x : List Bool) → pick word items x ≡ Some i
    → Contains items i × (begins (word i) x ≡ true)
pick_begins word [] i x e = cc
pick_begins {Item} word (j ∷ js) i x e = seen (begins (word j) x) refl e (λ e'. pick_begins word js i x e')
  where
    seen : (b : Bool) → begins (word j) x ≡ b → cond b (Some j) (pick word js x) ≡ Some i → (pick word js x ≡ Some i
        → Contains js i × (begins (word i) x ≡ true)) → Contains (j ∷ js) i × (begins (word i) x ≡ true)
    seen true b e later =
        let is : j ≡ i = cc in
        ((zero, omega arith, is), rw (← is) b)
    seen false b e later =
        let there = later e in
        ((suc there.0.0, omega (arith, there.0.1), there.0.2), there.1)

-- one bit on, code word and bits
pub begins_more : (digits : List ℕ) (bits : List Bool) (i p : ℕ) (bit : Bool) → i < length digits → slice_get bits (p + i) ≡ Some bit
    → begins (text (drop i digits)) (drop (p + i) bits) ≡ (beq bit (nat_eq (get_or digits i 0) 49) && begins (text (drop (i + 1) digits))
    (drop (p + (i + 1)) bits))
begins_more digits bits i p bit h e =
    let within : p + i < length bits = slice_get_within bits (p + i) bit e in
    let next : p + i + 1 ≡ p + (i + 1) = omega arith in
    rw (drop_more digits i 0 h, drop_more bits (p + i) bit within, get_or_from_slice_get bits (p + i) bit bit e, next) refl

-- the same the other way round
pub cut_more : (digits : List ℕ) (bits : List Bool) (i p : ℕ) (bit : Bool) → i < length digits → slice_get bits (p + i) ≡ Some bit
    → begins (drop (p + i) bits) (text (drop i digits)) ≡ (beq (nat_eq (get_or digits i 0) 49) bit && begins (drop (p + (i + 1)) bits) (text
    (drop (i + 1) digits)))
cut_more digits bits i p bit h e =
    let within : p + i < length bits = slice_get_within bits (p + i) bit e in
    let next : p + i + 1 ≡ p + (i + 1) = omega arith in
    rw (drop_more digits i 0 h, drop_more bits (p + i) bit within, get_or_from_slice_get bits (p + i) bit bit e, next) refl

pub cut_past : (digits : List ℕ) (bits : List Bool) (i p : ℕ) → length bits ≤ p + i
    → begins (drop (p + i) bits) (text (drop i digits)) ≡ true
cut_past digits bits i p past = rw (drop_all (p + i) bits past) refl

-- more bits than digits
pub cut_short : (digits : List ℕ) (bits : List Bool) (i p : ℕ) (bit : Bool) → length digits ≤ i → slice_get bits (p + i) ≡ Some bit
    → begins (drop (p + i) bits) (text (drop i digits)) ≡ false
cut_short digits bits i p bit h e =
    let within : p + i < length bits = slice_get_within bits (p + i) bit e in
    rw (drop_all i digits h, drop_more bits (p + i) bit within) refl

-- at the end of the digits
pub cut_end : (digits : List ℕ) (bits : List Bool) (i p : ℕ) (end : Option Bool) (none : Bool) → length digits ≤ i
    → end ≡ slice_get bits (p + i) → IfNone end (length bits ≤ p + i) → is_some end ≡ not none
    → none ≡ begins (drop (p + i) bits) (text (drop i digits))
cut_end digits bits i p None true h get past e = sym (cut_past digits bits i p past)
cut_end digits bits i p None false h get past e = absurd (false≢true e)
cut_end digits bits i p (Some bit) true h get past e = absurd (false≢true (sym e))
cut_end digits bits i p (Some bit) false h get past e = sym (cut_short digits bits i p bit h (sym get))

-- what is found is listed, and its code word is before the rest of the bits
pub pick_sound : {Item : Type 0} (word : Item → List Bool) (items : List Item) (i : Item) (x : List Bool) → pick word items x ≡ Some i
    → Contains items i × (x ≡ word i ++ drop (length (word i)) x)
pick_sound word items i x e =
    let found = pick_begins word items i x e in
    (found.0, begins_split (word i) x found.1)
