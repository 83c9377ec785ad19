-- Lists of numbers below a count, as they are written and looked through.
use Rattle.std.specs.Prelude.{ℕ, suc, zero, ◌++◌, ◌||◌, [], Bool, false, List}

-- the texts of the numbers below a count, one after the other
unfoldable pub texts_below : (ℕ → List ℕ) → ℕ → List ℕ
texts_below text zero = []
texts_below text (suc n) = texts_below text n ++ text n

-- something holds for a number below a count
unfoldable pub some_below : (ℕ → Bool) → ℕ → Bool
some_below holds zero = false
some_below holds (suc n) = holds n || some_below holds n
