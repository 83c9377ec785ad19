-- Fronts: whole items at the beginning of bits, each valid after the ones before it. One theory for every code finds the bit where no
-- valid code can go on; it is proved once. Its automaton has states, items with the bits that write them, and `Step`: which items are valid
-- in a state, and the state that each leads to; `look` says what is seen in the bits: an item, the end, or a refusal with its kind. The only
-- premise is that looking finds exactly the valid items (`Finds`). Then reading ends after whole items; an end that items lead to is read; a
-- refusal is at the end of the longest front (`Longest`); and of two fronts of the same bits, one begins the other. There are three such
-- automata: rows of one dimension (`RowFronts` here), pages of one dimension and pages of T.6 (`OneDimension.Fronts`, `TwoDimensions.Fronts`
-- of page_code).
use Rattle.std.specs.Prelude.{ℕ, zero, suc, ◌≡◌, ◌+◌, ◌<◌, Bool, List, [], ◌∷◌, ◌++◌, length, drop, Result, Ok, Err, ◌⊎◌}

-- What is seen in the bits in a state: `go`, an item, and the state that it leads to; `stop`, the end, with the result and the number of
-- bits that belong to it; `refuse`, no valid item, for this reason.
pub data Look (State Item Answer Kind : Type 0) : Type 0 where
  go : Item → State → Look State Item Answer Kind
  stop : Answer → ℕ → Look State Item Answer Kind
  refuse : Kind → Look State Item Answer Kind

-- the code words of items, one after the other
abbrev pub spell : {Item : Type 0} → (Item → List Bool) → List Item → List Bool
spell word [] = []
spell word (i ∷ is) = word i ++ spell word is

-- items that are valid, each after the ones before it, and the state that they lead to
abbrev pub Walk : {State Item : Type 0} → (State → Item → State → Type 0) → State → List Item → State → Type 0
Walk Step s [] t = s ≡ t
Walk Step s (i ∷ is) t = (m : _) × Step s i m × Walk Step m is t

-- a front of the bits: whole items that begin them, each valid after the ones before it
pub record IsFront {State Item : Type 0} (word : Item → List Bool) (Step : State → Item → State
    → Type 0) (s : State) (x : List Bool) (items : List Item) : Type 0 where
  pub end : State
  pub rest : List Bool
  pub walk : Walk Step s items end
  pub spelled : x ≡ spell word items ++ rest

-- a step of reading, by what is seen: after an item it goes on, at the end it returns the result, else it is refused here
abbrev pub act : {State Item Answer Kind : Type 0} → Look State Item Answer Kind → ℕ → (Item → State → Result (Answer × ℕ) (ℕ × Kind))
    → Result (Answer × ℕ) (ℕ × Kind)
act (go i t) place next = next i t
act (stop a n) place next = Ok (a, place + n)
act (refuse k) place next = Err (place, k)

-- reading item by item, with one step more than there are bits
abbrev pub read_from : {State Item Answer Kind : Type 0} → (Item → List Bool) → (State → List Bool → Look State Item Answer Kind) → Kind
    → ℕ → State → ℕ → List Bool → Result (Answer × ℕ) (ℕ × Kind)
read_from word look spent zero s place x = Err (place, spent)
read_from word look spent (suc fuel) s place x = act (look s x) place (λ i t. read_from word look spent fuel t (place + length (word i))
    (drop (length (word i)) x))

-- looking finds exactly the items that are valid; an item has a bit or more
pub record Finds {State Item Answer Kind : Type 0} (word : Item → List Bool) (Step : State → Item → State → Type 0) (look : State
    → List Bool → Look State Item Answer Kind) : Type 0 where
  pub sound : (s : State) (x : List Bool) (i : Item) (t : State) → look s x ≡ go i t
      → Step s i t × ((rest : List Bool) × (x ≡ word i ++ rest))
  pub complete : (s : State) (i : Item) (t : State) (rest : List Bool) → Step s i t → look s (word i ++ rest) ≡ go i t
  pub positive : (s : State) (i : Item) (t : State) → Step s i t → 0 < length (word i)

-- reading that stops where this is seen returns this result
abbrev pub Answers : {State Item Answer Kind : Type 0} → Look State Item Answer Kind → ℕ → Result (Answer × ℕ) (ℕ × Kind) → Type 0
Answers (go i t) place result = ⊥
Answers (stop a n) place result = result ≡ Ok (a, place + n)
Answers (refuse k) place result = result ≡ Err (place, k)

-- whole items were read, and then reading ends with this result
pub record Halts {State Item Answer Kind : Type 0} (word : Item → List Bool) (Step : State → Item → State → Type 0) (look : State
    → List Bool → Look State Item Answer Kind) (s : State) (place : ℕ) (x : List Bool) (result : Result (Answer × ℕ) (ℕ
    × Kind)) : Type 0 where
  pub items : List Item
  pub end : State
  pub rest : List Bool
  pub walk : Walk Step s items end
  pub spelled : x ≡ spell word items ++ rest
  pub answers : Answers (look end rest) (place + length (spell word items)) result

-- one of two lists begins the other
abbrev pub Nested : {X : Type 0} → List X → List X → Type 0
Nested a b = ((c : List _) × (b ≡ a ++ c)) ⊎ ((c : List _) × (a ≡ b ++ c))
