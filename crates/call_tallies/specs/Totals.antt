-- Sums over lists.
use Rattle.std.specs.Prelude.{◌+◌, ℕ, Bool, true, false, List, [], ◌∷◌}

-- what the elements of a list have of something, all together
abbrev pub total : {A : Type 0} → (A → ℕ) → List A → ℕ
total of [] = 0
total of (x ∷ xs) = of x + total of xs

-- 1 if true, 0 if false
abbrev pub one_if : Bool → ℕ
one_if true = 1
one_if false = 0
