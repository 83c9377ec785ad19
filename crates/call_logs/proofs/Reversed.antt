-- A list of images, turned round.
use Rattle.std.proofs.Common.{◌≡◌, ◌∷◌, [], List, map, refl, reverse}
use mathlib.Core.List.{reverse_aux}

onto : {A B : Type 0} (f : A → B) (xs ys : List A) → map f (reverse_aux xs ys) ≡ reverse_aux (map f xs) (map f ys)
onto f [] ys = refl
onto f (x ∷ xs) ys = onto f xs (x ∷ ys)

pub map_reverse : {A B : Type 0} (f : A → B) (xs : List A) → map f (reverse xs) ≡ reverse (map f xs)
map_reverse f xs = onto f xs []
