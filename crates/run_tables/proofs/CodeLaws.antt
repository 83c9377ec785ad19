-- The laws of the run codes, by computing over the tables.
use Rattle.std.proofs.Common.{ℕ, zero, suc, ◌≡◌, ◌<◌, inl, inr, Bool, true, false, ◌&&◌, ◌||◌, ◌⊎◌, List, [], ◌∷◌, map, length, replicate}
use Rattle.std.proofs.Common.{get_or, Some, refl, ap, sym, ◌∙◌, arith}
use mathlib.Core.Bool.{beq}
use Rattle.std.specs.Prelude.{Contains, if◌then◌else◌}
use Rattle.std.proofs.lemmas.Bool.{and_parts, or_cases, false≢true}
use Rattle.raster.specs.declared.row.Color.{Color}
use Rattle.raster.specs.declared.row.Color.TheVariants.{White, Black}
use Rattle.run_tables.specs.Codes.{codes_of}
use Rattle.run_tables.specs.Texts.{begins, apart}
use Rattle.run_tables.specs.Laws.{OneCode, CodesCover}
use Rattle.run_tables.proofs.BeginsLemmas.{pick_begun}

-- the code word of a line of the table
abbrev word_of : ℕ × List Bool → List Bool
word_of code = code.1

words_apart : (color : Color) → apart (map word_of (codes_of color)) ≡ true
words_apart White = refl
words_apart Black = refl

pub one_code : OneCode
one_code color m n a b bits ca cb p q =
    let first = pick_begun word_of (codes_of color) (m, a) bits (words_apart color) ca p in
    let second = pick_begun word_of (codes_of color) (n, b) bits (words_apart color) cb q in
    let found : Some (m, a) ≡ Some (n, b) = sym first ∙ second in
    let same : (m, a) ≡ (n, b) = cc in
    (ap (λ (code : ℕ × List Bool). code.0) same, ap word_of same)

abbrev has_empty : List (List Bool) → Bool
has_empty [] = false
has_empty ([] ∷ xs) = true
has_empty ((b ∷ bs) ∷ xs) = has_empty xs

-- what follows the bit, in each code word that begins with it
abbrev after : Bool → List (List Bool) → List (List Bool)
after bit [] = []
after bit ([] ∷ xs) = after bit xs
after bit ((b ∷ bs) ∷ xs) = if beq bit b then bs ∷ after bit xs else after bit xs

-- every code word of so many bits begins with one of the code words
abbrev covers : ℕ → List (List Bool) → Bool
covers zero xs = has_empty xs
covers (suc n) xs = has_empty xs || (covers n (after false xs) && covers n (after true xs))

words_cover : (color : Color) → covers 13 (replicate 8 false ∷ map word_of (codes_of color)) ≡ true
words_cover White = refl
words_cover Black = refl

listed_later : {X : Type 0} (y : X) (xs : List X) (x : X) → Contains xs x → Contains (y ∷ xs) x
listed_later y xs x c = (suc c.0, omega (arith, c.1), c.2)

first_or_later : {X : Type 0} (y : X) (xs : List X) (x : X) → Contains (y ∷ xs) x → (y ≡ x) ⊎ Contains xs x
first_or_later y xs x c = at c.0 c.1 c.2
  where
    at : (k : ℕ) → k < length (y ∷ xs) → get_or (y ∷ xs) k x ≡ x → (y ≡ x) ⊎ Contains xs x
    at zero h e = inl e
    at (suc k) h e = inr (k, omega (arith, h), e)

empty_listed : (xs : List (List Bool)) → has_empty xs ≡ true → Contains xs []
empty_listed [] e = absurd (false≢true e)
empty_listed ([] ∷ xs) e = (zero, omega arith, refl)
empty_listed ((b ∷ bs) ∷ xs) e = listed_later (b ∷ bs) xs [] (empty_listed xs e)

after_listed : (bit : Bool) (xs : List (List Bool)) (t : List Bool) → Contains (after bit xs) t → Contains xs (bit ∷ t)
after_listed bit [] t c = absurd (omega (arith, c.1))
after_listed bit ([] ∷ xs) t c = listed_later [] xs (bit ∷ t) (after_listed bit xs t c)
after_listed true ((true ∷ bs) ∷ xs) t c = elim (first_or_later bs (after true xs) t c) [
  | inl e ↦ (zero, omega arith, ap (λ l. true ∷ l) e)
  | inr later ↦ listed_later (true ∷ bs) xs (true ∷ t) (after_listed true xs t later)
]
after_listed false ((false ∷ bs) ∷ xs) t c = elim (first_or_later bs (after false xs) t c) [
  | inl e ↦ (zero, omega arith, ap (λ l. false ∷ l) e)
  | inr later ↦ listed_later (false ∷ bs) xs (false ∷ t) (after_listed false xs t later)
]
after_listed true ((false ∷ bs) ∷ xs) t c = listed_later (false ∷ bs) xs (true ∷ t) (after_listed true xs t c)
after_listed false ((true ∷ bs) ∷ xs) t c = listed_later (true ∷ bs) xs (false ∷ t) (after_listed false xs t c)

covered : (n : ℕ) (xs : List (List Bool)) (bits : List Bool) → covers n xs ≡ true → length bits ≡ n
    → (t : List Bool) × Contains xs t × (begins t bits ≡ true)
covered zero xs bits e l = ([], empty_listed xs e, refl)
covered (suc n) xs [] e l = absurd (omega arith)
covered (suc n) xs (true ∷ bits) e l = elim (or_cases (has_empty xs) (covers n (after false xs) && covers n (after true xs)) e) [
  | inl here ↦ ([], empty_listed xs here, refl)
  | inr both ↦
      let found = covered n (after true xs) bits (and_parts (covers n (after false xs)) (covers n (after true xs)) both).1 (omega arith) in
      (true ∷ found.0, after_listed true xs found.0 found.1, found.2)
]
covered (suc n) xs (false ∷ bits) e l = elim (or_cases (has_empty xs) (covers n (after false xs) && covers n (after true xs)) e) [
  | inl here ↦ ([], empty_listed xs here, refl)
  | inr both ↦
      let found = covered n (after false xs) bits (and_parts (covers n (after false xs)) (covers n (after true xs)) both).0 (omega arith) in
      (false ∷ found.0, after_listed false xs found.0 found.1, found.2)
]

-- the run of a code word in the table
run_listed : (held : List (ℕ × List Bool)) (t : List Bool) → Contains (map word_of held) t → (run : ℕ) × Contains held (run, t)
run_listed [] t c = absurd (omega (arith, c.1))
run_listed (code ∷ held) t c = elim (first_or_later (word_of code) (map word_of held) t c) [
  | inl e ↦ (code.0, (zero, omega arith, ap (λ (l : List Bool). (code.0, l)) e))
  | inr later ↦
      let there = run_listed held t later in
      (there.0, listed_later code held (there.0, t) there.1)
]

pub codes_cover : CodesCover
codes_cover color bits l no_zeros =
    let found = covered 13 (replicate 8 false ∷ map word_of (codes_of color)) bits (words_cover color) l in
    elim (first_or_later (replicate 8 false) (map word_of (codes_of color)) found.0 found.1) [
      | inl e ↦ absurd (false≢true (sym no_zeros ∙ (ap (λ t. begins t bits) e ∙ found.2)))
      | inr listed ↦
          let there = run_listed (codes_of color) found.0 listed in
          (there.0, found.0, there.1, found.2)
    ]
