-- Octets that have no separator, and the pieces that they begin.
use Rattle.std.proofs.Common.{◌≡◌, ◌<◌, ◌≤◌, ◌+◌, ◌-◌, ◌++◌, ◌∷◌, [], ℕ, List, false, true, ap, ◌∙◌, sym, subst, arith, drop, get_or, length, refl, take}
use Rattle.std.specs.Prelude.{nat_eq}
use Rattle.std.proofs.lemmas.List.{at_drop_more, take_all, take_more}
use Rattle.std.proofs.lemmas.List.{take-append-drop}
use Rattle.std.proofs.lemmas.Bool.{eq-eqb, eqb-true}
use Rattle.std.proofs.lemmas.List.{length-drop}
use Rattle.call_logs.specs.Logs.{pieces}

-- no octet is the separator
unfoldable pub HasNone : ℕ → List ℕ → Type 0
HasNone separator [] = Unit {0}
HasNone separator (octet ∷ octets) = (nat_eq octet separator ≡ false) × HasNone separator octets

-- then they are a piece, before what follows the separator
first_piece : (separator octet : ℕ) (front rest : List ℕ) → HasNone separator front → nat_eq octet separator ≡ true
    → pieces separator (front ++ octet ∷ rest) ≡ front ∷ pieces separator rest
unfolding HasNone pieces
first_piece separator octet [] rest none is = rw is refl
first_piece separator octet (first ∷ front) rest none is =
    rw (none.0, first_piece separator octet front rest none.1 is) refl

-- or the only piece
only_piece : (separator : ℕ) (front : List ℕ) → HasNone separator front → pieces separator front ≡ front ∷ []
unfolding HasNone pieces
only_piece separator [] none = refl
only_piece separator (first ∷ front) none = rw (none.0, only_piece separator front none.1) refl

one_more : (separator octet : ℕ) (front : List ℕ) → HasNone separator front → nat_eq octet separator ≡ false
    → HasNone separator (front ++ octet ∷ [])
unfolding HasNone
one_more separator octet [] none is = (is, tt)
one_more separator octet (first ∷ front) none is = (none.0, one_more separator octet front none.1 is)

pub none_yet : (separator : ℕ) (octets : List ℕ) → HasNone separator (take 0 octets)
unfolding HasNone
none_yet separator octets = tt

other_octet : (a b : ℕ) → (a ≡ b → ⊥) → nat_eq a b ≡ false
other_octet a b differ = go (nat_eq a b) refl
  where
    go : (t : _) → nat_eq a b ≡ t → nat_eq a b ≡ false
    go true e = absurd (differ (eqb-true a b e))
    go false e = e

pub none_here : (separator : ℕ) (octets : List ℕ) (place d : ℕ) → place < length octets → (get_or octets place d ≡ separator → ⊥)
    → HasNone separator (take place octets) → HasNone separator (take (place + 1) octets)
none_here separator octets place d within is none =
    subst (HasNone separator) (sym (take_more octets place d within))
    (one_more separator (get_or octets place d) (take place octets) none (other_octet _ _ is))

cut : (separator : ℕ) (octets : List ℕ) (place d : ℕ) → place < length octets → get_or octets place d ≡ separator
    → HasNone separator (take place octets)
    → pieces separator octets ≡ take place octets ∷ pieces separator (drop (place + 1) octets)
cut separator octets place d within is none =
    ap (pieces separator) (sym (take-append-drop place octets) ∙ at_drop_more (λ rest. take place octets ++ rest) octets place d within)
    ∙ first_piece separator (get_or octets place d) (take place octets) (drop (place + 1) octets) none (eq-eqb _ _ is)

enough : (place : ℕ) (octets : List ℕ) → length (drop (place + 1) octets) ≤ length octets - (place + 1)
enough place octets =
    let same = length-drop (place + 1) octets in
    omega (arith, same)

pub cut_here : (separator : ℕ) (octets : List ℕ) (place d : ℕ) → place < length octets → get_or octets place d ≡ separator
    → HasNone separator (take place octets)
    → pieces separator octets ≡ take place octets ∷ pieces separator (take (length octets - (place + 1)) (drop (place + 1) octets))
cut_here separator octets place d within is none =
    cut separator octets place d within is none
    ∙ ap (λ rest. take place octets ∷ pieces separator rest) (sym (take_all (length octets - (place + 1)) (drop (place + 1) octets) (enough place octets)))

pub cut_nowhere : (separator : ℕ) (octets : List ℕ) (place : ℕ) → length octets ≤ place → HasNone separator (take place octets)
    → pieces separator octets ≡ octets ∷ []
cut_nowhere separator octets place past none = only_piece separator octets (subst (HasNone separator) (take_all place octets past) none)
