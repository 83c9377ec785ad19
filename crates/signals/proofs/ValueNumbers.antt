-- Values that numbers tell apart.
use Rattle.std.proofs.Common.{◌≡◌, ℕ, Bool, true, false, nat_eq, Option, Some, None, refl, sym, ◌∙◌, ap}
use Rattle.std.proofs.lemmas.Bool.{eqb-true, eq-eqb}

-- values of one number are the same, where each number leads back to its value
pub same_value : {X : Type 0} → (place : X → ℕ) (at : ℕ → X) → ((x : X) → at (place x) ≡ x) → (x y : X) → nat_eq (place x) (place y) ≡ true
    → x ≡ y
same_value place at back x y e = sym (back x) ∙ ap at (eqb-true (place x) (place y) e) ∙ back y

-- a value was found, by its number
abbrev pub is_found : {X : Type 0} → (X → ℕ) → X → Option X → Bool
is_found place x None = false
is_found place x (Some y) = nat_eq (place y) (place x)

pub found : {X : Type 0} → (place : X → ℕ) (at : ℕ → X) → ((x : X) → at (place x) ≡ x) → (x : X) (o : Option X) → is_found place x o ≡ true
    → o ≡ Some x
found place at back x None e = cc
found place at back x (Some y) e = ap Some (same_value place at back y x e)

pub is-found : {X : Type 0} → (place : X → ℕ) (x : X) (o : Option X) → o ≡ Some x → is_found place x o ≡ true
is-found place x o e = ap (is_found place x) e ∙ eq-eqb (place x) (place x) refl
