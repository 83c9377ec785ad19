-- Bits that begin bits: code words, and the items that have them.
use mathlib.Core.Bool.{beq}
use Rattle.std.specs.Prelude.{Bool, true, false, ◌&&◌, ◌||◌, not, List, [], ◌∷◌, if◌then◌else◌, Option, Some, None}
use Rattle.std.specs.List.{list_all}

-- the first list of bits begins the second
abbrev pub begins : List Bool → List Bool → Bool
begins [] bits = true
begins (x ∷ xs) [] = false
begins (x ∷ xs) (y ∷ ys) = beq y x && begins xs ys

-- no code word of the list begins another one of it
abbrev pub apart : List (List Bool) → Bool
apart [] = true
apart (x ∷ xs) = list_all (λ y. not (begins x y || begins y x)) xs && apart xs

-- the bits are all 0, or there are no bits
abbrev pub all_zero : List Bool → Bool
all_zero [] = true
all_zero (x ∷ xs) = not x && all_zero xs

-- the item whose code word begins the bits
abbrev pub pick : {Item : Type 0} → (Item → List Bool) → List Item → List Bool → Option Item
pick word [] x = None
pick word (i ∷ is) x = if begins (word i) x then Some i else pick word is x

-- the bits are the beginning of an item's code word, or all of it
abbrev pub is_cut : {Item : Type 0} → (Item → List Bool) → List Item → List Bool → Bool
is_cut word [] x = false
is_cut word (i ∷ is) x = begins x (word i) || is_cut word is x
