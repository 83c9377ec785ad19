-- Where a line ends, and where the next one begins.
use Rattle.std.proofs.Common.{ℕ, zero, suc, ◌≡◌, ◌+◌, ◌<◌, ◌≤◌, ◌-◌, Bool, true, false, List, [], ◌∷◌, ◌++◌, length, drop, replicate}
use Rattle.std.proofs.Common.{Some, None, inl, inr, refl, ap, sym, ◌∙◌, subst, arith, length-append, append_assoc}
use Rattle.std.specs.Prelude.{Option, ◌⊎◌}
use Rattle.std.specs.Option.{option_map}
use Rattle.std.proofs.lemmas.List.{drop_at, drop-drop, length-replicate}
use Rattle.page_code.specs.OneDimension.Pages.{eol_word}
use Rattle.page_code.specs.OneDimension.Fronts.{zeros_before, CodeBegins}
use Rattle.page_code.specs.OneDimension.Reading.{SeesEol}
use Rattle.page_code.specs.declared.one_dim.eol.Eol.{Eol}
use Rattle.page_code.specs.declared.one_dim.eol.Eol.TheVariants.{Present, Absent, OnlyZeros}
use Rattle.raster.specs.declared.row.Color.{Color}
use Rattle.raster.specs.declared.row.Color.TheVariants.{White}
use Rattle.run_tables.specs.Codes.{code_word, run_words}
use Rattle.raster.specs.Words.{number_bits}
use Rattle.run_tables.specs.Texts.{begins}
use Rattle.run_tables.proofs.BeginsLemmas.{begins_own, begins_split}
use Rattle.run_tables.proofs.NumberLemmas.{begins_within}
use Rattle.std.proofs.lemmas.Bool.{false≢true}
use Rattle.page_code.specs.OneDimension.Repairs.{EndsAfterWhite, EndsInBlack, EndsLine, EndsPage, EndsRow, EolEndsAfter, IsFirstLine}
use Rattle.page_code.specs.OneDimension.Repairs.{IsSkipped}
use Rattle.page_code.specs.OneDimension.Repairing.{FindsEnd, FindsRowEnd}
use Rattle.page_code.proofs.OneDimension.ZerosBefore.{zeros_eol, zeros_split, none_zeros, zeros_none, length-eol}

pub none_some : (o : Option ℕ) (n : ℕ) → o ≡ None → o ≡ Some n → ⊥
none_some o n none some = let both : ◌≡◌ {A = Option ℕ} None (Some n) = sym none ∙ some in cc

pub same_count : (o : Option ℕ) (n m : ℕ) → o ≡ Some n → o ≡ Some m → n ≡ m
same_count o n m one two = let both : ◌≡◌ {A = Option ℕ} (Some n) (Some m) = sym one ∙ two in cc

-- the bits after the first 1
after_one : (x : List Bool) (n : ℕ) → zeros_before x ≡ Some n → x ≡ eol_word n ++ drop (n + 1) x
after_one x n is =
    let there = zeros_split x n is in
    let rest : drop (n + 1) x ≡ there.0 = ap (drop (n + 1)) there.1 ∙ drop_at (eol_word n) there.0 (n + 1) (length-eol n) in
    there.1 ∙ ap (λ (l : List Bool). eol_word n ++ l) (sym rest)

-- The end of a page

pub code_no_end : (x : List Bool) → CodeBegins x → ¬ EndsPage x
code_no_end x begins (inl zeros) = none_some (zeros_before x) begins.0 (zeros_none x zeros) begins.1
code_no_end x begins (inr eol) =
    let same = same_count (zeros_before x) begins.0 eol.0 begins.1 (ap zeros_before eol.3 ∙ zeros_eol eol.0 eol.1) in
    absurd (omega (arith, same, begins.2, eol.2))

pub zeros_end : (x : List Bool) → zeros_before x ≡ None → EndsPage x
zeros_end x is = inl (none_zeros x is)

pub eol_end : (x : List Bool) (used : ℕ) → SeesEol x (Present used) → EndsPage x
eol_end x used sees = let there = zeros_split x sees.0 sees.1 in inr (sees.0, there.0, sees.2, there.1)

-- The first line

pub first_after : (x : List Bool) (used : ℕ) → SeesEol x (Present used) → IsFirstLine x used
first_after x used sees = let there = zeros_split x sees.0 sees.1 in inl (sees.0, there.0, sees.2, there.1, sees.3)

pub first_code : (x : List Bool) → CodeBegins x → IsFirstLine x 0
first_code x begins = inr (λ eol. code_no_end x begins (inr eol), refl)

pub first_zeros : (x : List Bool) → zeros_before x ≡ None → IsFirstLine x 0
first_zeros x is = inr (
  λ eol. none_some (zeros_before x) eol.0 is (ap zeros_before eol.3 ∙ zeros_eol eol.0 eol.1),
  refl,
)

-- The end of a line

-- what is seen where a line ends
abbrev pub Seen : List Bool → ℕ → Type 0
Seen x used =
    ((zeros_before x ≡ None) × (used ≡ 0)) ⊎
    (((n : ℕ) × (zeros_before x ≡ Some n) × (11 ≤ n) × (used ≡ n + 1)) ⊎
    ((n : ℕ) × (m : ℕ) × (zeros_before x ≡ Some n) × (n < 11) × (zeros_before (drop (n + 1) x) ≡ Some m) × (10 ≤ n + m)
    × (used ≡ n + m + 2)))

pub end_seen : (x : List Bool) (used : ℕ) → EndsLine x used → Seen x used
end_seen x used (inl end) = inl (zeros_none x end.0, end.1)
end_seen x used (inr (inl end)) = inr (inl (end.0, ap zeros_before end.3 ∙ zeros_eol end.0 end.1, end.2, end.4))
end_seen x used (inr (inr end)) =
    let after : drop (end.0 + 1) x ≡ eol_word end.1 ++ end.2 = ap (drop (end.0 + 1)) end.5 ∙
    drop_at (eol_word end.0) (eol_word end.1 ++ end.2) (end.0 + 1) (length-eol end.0) in
    inr (inr (
      end.0,
      end.1,
      ap zeros_before end.5 ∙ zeros_eol end.0 (eol_word end.1 ++ end.2),
      end.3,
      ap zeros_before after ∙ zeros_eol end.1 end.2,
      end.4,
      end.6,
    ))

-- a line ends in one way
pub one_end : (x : List Bool) (a b : ℕ) → EndsLine x a → EndsLine x b → a ≡ b
one_end x a b one two = seen (end_seen x a one) (end_seen x b two)
  where
    seen : Seen x a → Seen x b → a ≡ b
    seen (inl p) (inl q) = p.1 ∙ sym q.1
    seen (inl p) (inr (inl q)) = absurd (none_some (zeros_before x) q.0 p.0 q.1)
    seen (inl p) (inr (inr q)) = absurd (none_some (zeros_before x) q.0 p.0 q.2)
    seen (inr (inl p)) (inl q) = absurd (none_some (zeros_before x) p.0 q.0 p.1)
    seen (inr (inl p)) (inr (inl q)) = omega (arith, p.3, q.3, same_count (zeros_before x) p.0 q.0 p.1 q.1)
    seen (inr (inl p)) (inr (inr q)) = absurd (omega (arith, p.2, q.3, same_count (zeros_before x) p.0 q.0 p.1 q.2))
    seen (inr (inr p)) (inl q) = absurd (none_some (zeros_before x) p.0 q.0 p.2)
    seen (inr (inr p)) (inr (inl q)) = absurd (omega (arith, p.3, q.2, same_count (zeros_before x) p.0 q.0 p.2 q.1))
    seen (inr (inr p)) (inr (inr q)) =
        let n : p.0 ≡ q.0 = same_count (zeros_before x) p.0 q.0 p.2 q.2 in
        let there : zeros_before (drop (p.0 + 1) x) ≡ Some q.1 = ap (λ (k : ℕ). zeros_before (drop (k + 1) x)) n ∙ q.4 in
        omega (arith, n, p.6, q.6, same_count (zeros_before (drop (p.0 + 1) x)) p.1 q.1 p.4 there)

module _ (bits : List Bool) (place : ℕ) where
  pub finds_zeros : place ≤ length bits → zeros_before (drop place bits) ≡ None → FindsEnd bits place (Some place)
  finds_zeros within is = (0, inl (none_zeros (drop place bits) is, refl), omega arith, within)

  pub finds_eol : (n : ℕ) → zeros_before (drop place bits) ≡ Some n → 11 ≤ n → place + n + 1 ≤ length bits
      → FindsEnd bits place (Some (place + n + 1))
  finds_eol n is long within =
      let there = zeros_split (drop place bits) n is in
      (n + 1, inr (inl (n, there.0, long, there.1, refl)), omega arith, within)

  after_there : (n : ℕ) → drop (place + n + 1) bits ≡ drop (n + 1) (drop place bits)
  after_there n =
      let same : place + (n + 1) ≡ place + n + 1 = omega arith in
      sym (drop-drop (n + 1) place bits ∙ ap (λ (k : ℕ). drop k bits) same)

  pub finds_torn : (n m : ℕ) → zeros_before (drop place bits) ≡ Some n → n < 11 → zeros_before (drop (place + n + 1) bits) ≡ Some m
      → 10 ≤ n + m → place + n + 1 + m + 1 ≤ length bits → FindsEnd bits place (Some (place + n + 1 + m + 1))
  finds_torn n m is short then most within =
      let there = zeros_split (drop (place + n + 1) bits) m then in
      let split : drop place bits ≡ eol_word n ++ (eol_word m ++ there.0) = after_one (drop place bits) n is ∙
      ap (λ (l : List Bool). eol_word n ++ l) (sym (after_there n) ∙ there.1) in
      (n + m + 2, inr (inr (n, m, there.0, short, most, split, refl)), omega arith, within)

  -- no end is there
  pub finds_none : (n : ℕ) → zeros_before (drop place bits) ≡ Some n → n < 11 → ((m : ℕ)
      → zeros_before (drop (place + n + 1) bits) ≡ Some m → n + m < 10) → FindsEnd bits place None
  finds_none n is short few used end = seen (end_seen (drop place bits) used end)
    where
      seen : Seen (drop place bits) used → ⊥
      seen (inl p) = none_some (zeros_before (drop place bits)) n p.0 is
      seen (inr (inl p)) = omega (arith, p.2, same_count (zeros_before (drop place bits)) n p.0 is p.1)
      seen (inr (inr p)) =
          let same : n ≡ p.0 = same_count (zeros_before (drop place bits)) n p.0 is p.2 in
          let there : zeros_before (drop (place + n + 1) bits) ≡ Some p.1 = ap zeros_before (after_there n) ∙
          (ap (λ (k : ℕ). zeros_before (drop (k + 1) (drop place bits))) same ∙ p.4) in
          omega (arith, few p.1 there, p.5, same)

  pub finds_none_left : (n : ℕ) → zeros_before (drop place bits) ≡ Some n → n < 11 → zeros_before (drop (place + n + 1) bits) ≡ None
      → FindsEnd bits place None
  finds_none_left n is short none = finds_none n is short (λ m some. absurd (none_some (zeros_before (drop (place + n + 1) bits)) m none
      some))

  pub finds_none_few : (n m : ℕ) → zeros_before (drop place bits) ≡ Some n → n < 11 → zeros_before (drop (place + n + 1) bits) ≡ Some m
      → n + m < 10 → FindsEnd bits place None
  finds_none_few n m is short then few = finds_none n is short (λ k some. omega (
    arith,
    few,
    same_count (zeros_before (drop (place + n + 1) bits)) m k then some,
  ))

-- The end of a row's line

-- the code of a white run of 0 pixels, by its digits
pub white_0 : (rest : List Bool) → run_words White 0 ++ rest ≡ number_bits 8 53 ++ rest
unfolding code_word
white_0 rest = refl

-- a line doesn't end at once where a white run of 0 pixels is
pub no_line_end : (rest : List Bool) (used : ℕ) → EndsLine (number_bits 8 53 ++ rest) used → ⊥
no_line_end rest used ends = seen (end_seen x used ends)
  where
    x : List Bool
    x = number_bits 8 53 ++ rest

    seen : Seen x used → ⊥
    seen (inl p) = none_some (zeros_before x) 2 p.0 refl
    seen (inr (inl p)) = omega (arith, p.2, same_count (zeros_before x) p.0 2 p.1 refl)
    seen (inr (inr p)) =
        let zeros : p.0 ≡ 2 = same_count (zeros_before x) p.0 2 p.2 refl in
        let there : zeros_before (drop 3 x) ≡ Some p.1 = ap (λ (n : ℕ). zeros_before (drop (n + 1) x)) (sym zeros) ∙ p.4 in
        omega (arith, zeros, p.5, same_count (zeros_before (drop 3 x)) p.1 0 there refl)

pub not_both : (x : List Bool) (a b : ℕ) → EndsLine x a → EndsAfterWhite x b → ⊥
not_both x a b ends white = no_line_end white.0 a (subst (λ (l : List Bool). EndsLine l a) (white.2 ∙ white_0 white.0) ends)

-- a row's line ends in one way
pub one_row_end : (row : List Color) (x : List Bool) (a b : ℕ) → EndsRow row x a → EndsRow row x b → a ≡ b
one_row_end row x a b (inl one) (inl two) = one_end x a b one two
one_row_end row x a b (inl one) (inr two) = absurd (not_both x a b one two.1)
one_row_end row x a b (inr one) (inl two) = absurd (not_both x b a two one.1)
one_row_end row x a b (inr (black, one)) (inr (black_too, two)) =
    let rest : one.0 ≡ two.0 = ap (drop 8) (sym (white_0 one.0) ∙ (sym one.2 ∙ (two.2 ∙ white_0 two.0))) in
    let ends : EndsLine one.0 two.1 = subst (λ (l : List Bool). EndsLine l two.1) (sym rest) two.3 in
    omega (arith, one.4, two.4, one_end one.0 one.1 two.1 one.3 ends)

-- the code of a white run of 0 pixels is there, or isn't
abbrev pub HasWhite : List Bool → Bool → Type 0
HasWhite x there = there ≡ begins (number_bits 8 53) x

module _ (row : List Color) (bits : List Bool) (place : ℕ) where
  pub row_ends_at_once : (next : ℕ) → FindsEnd bits place (Some next) → FindsRowEnd row bits place (Some next)
  row_ends_at_once next ends = (ends.0, inl ends.1, ends.2, ends.3)

  pub white_within : (there : Bool) → HasWhite (drop place bits) there → there ≡ true → 8 ≤ length (drop place bits)
  white_within there has is = begins_within (number_bits 8 53) (drop place bits) (sym has ∙ is)

  pub row_ends_after_white : (there : Bool) (next : ℕ) → HasWhite (drop place bits) there → there ≡ true → EndsInBlack row
      → FindsEnd bits (place + 8) (Some next) → FindsRowEnd row bits place (Some next)
  row_ends_after_white there next has is black ends =
      let split : drop place bits ≡ run_words White 0 ++ drop 8 (drop place bits) = begins_split (number_bits 8 53) (drop place bits)
      (sym has ∙ is) ∙ sym (white_0 (drop 8 (drop place bits))) in
      let rest : drop 8 (drop place bits) ≡ drop (place + 8) bits = drop-drop 8 place bits in
      let after : EndsLine (drop 8 (drop place bits)) ends.0 = subst (λ (l : List Bool). EndsLine l ends.0) (sym rest) ends.1 in
      (8 + ends.0, inr (black, (drop 8 (drop place bits), ends.0, split, after, refl)), omega (arith, ends.2), ends.3)

  no_white : (used : ℕ) → EndsAfterWhite (drop place bits) used → begins (number_bits 8 53) (drop place bits) ≡ true
  no_white used white = ap (begins (number_bits 8 53)) (white.2 ∙ white_0 white.0) ∙ begins_own (number_bits 8 53) white.0

  pub row_goes_on : (there : Bool) → HasWhite (drop place bits) there → there ≡ false → FindsEnd bits place None
      → FindsRowEnd row bits place None
  row_goes_on there has is none used (inl ends) = none used ends
  row_goes_on there has is none used (inr white) = false≢true (sym is ∙ (has ∙ no_white used white.1))

  pub row_is_white : ¬ EndsInBlack row → FindsEnd bits place None → FindsRowEnd row bits place None
  row_is_white other none used (inl ends) = none used ends
  row_is_white other none used (inr white) = other white.0

  pub row_has_no_end : FindsEnd bits place None → FindsEnd bits (place + 8) None → FindsRowEnd row bits place None
  row_has_no_end none after used (inl ends) = none used ends
  row_has_no_end none after used (inr white) =
      let rest : drop 8 (drop place bits) ≡ white.1.0 = ap (drop 8) (white.1.2 ∙ white_0 white.1.0) in
      let same : white.1.0 ≡ drop (place + 8) bits = sym rest ∙ drop-drop 8 place bits in
      after white.1.1 (subst (λ (l : List Bool). EndsLine l white.1.1) same white.1.3)

  pub row_ends_as : (there : Bool) (result : Option ℕ) → HasWhite (drop place bits) there → there ≡ true → EndsInBlack row
      → FindsEnd bits place None → FindsEnd bits (place + 8) result → FindsRowEnd row bits place result
  row_ends_as there (Some next) has is black none ends = row_ends_after_white there next has is black ends
  row_ends_as there None has is black none ends = row_has_no_end none ends

-- The first EOL

-- a 1 after few 0 bits is before each EOL
ends_later : (k : ℕ) (y front rest : List Bool) → k < 11 → eol_word k ++ y ≡ front ++ (eol_word 11 ++ rest)
    → (tail : List Bool) × (front ≡ eol_word k ++ tail) × (y ≡ tail ++ (eol_word 11 ++ rest))
ends_later k y [] rest few e =
    let same = same_count (zeros_before (eol_word k ++ y)) k 11 (zeros_eol k y) (ap zeros_before e ∙ zeros_eol 11 rest) in
    absurd (omega (arith, same, few))
ends_later zero y (b ∷ front) rest few e =
    let bit : true ≡ b = cc in
    let tail : y ≡ front ++ (eol_word 11 ++ rest) = cc in
    (front, ap (λ (c : Bool). c ∷ front) (sym bit), tail)
ends_later (suc k) y (b ∷ front) rest few e =
    let bit : false ≡ b = cc in
    let more : eol_word k ++ y ≡ front ++ (eol_word 11 ++ rest) = cc in
    let there = ends_later k y front rest (omega (arith, few)) more in
    (there.0, ap (λ (c : Bool). c ∷ front) (sym bit) ∙ ap (λ (l : List Bool). false ∷ l) there.1, there.2)

-- a 1 is at the end of an EOL, and none is later than the first
first_one : (front y : List Bool) (n : ℕ) → zeros_before y ≡ Some n
    → (m : ℕ) × (zeros_before (front ++ y) ≡ Some m) × (m ≤ length front + n)
first_one [] y n is = (n, is, omega arith)
first_one (true ∷ front) y n is = (0, refl, omega arith)
first_one (false ∷ front) y n is =
    let there = first_one front y n is in
    (suc there.0, ap (option_map suc) there.1, omega (arith, there.2))

eol_there : (x : List Bool) (count : ℕ) → EolEndsAfter x count → (m : ℕ) × (zeros_before x ≡ Some m) × (m + 1 ≤ count)
eol_there x count ends =
    let there = first_one ends.0 (eol_word 11 ++ ends.1) 11 (zeros_eol 11 ends.1) in
    (there.0, ap zeros_before ends.2 ∙ there.1, omega (arith, there.2, ends.3))

pub skips_all : (x : List Bool) → zeros_before x ≡ None → IsSkipped x (length x)
skips_all x is = inr (λ other ends. let there = eol_there x other ends in none_some (zeros_before x) there.0 is there.1, refl)

replicate_more : (n k : ℕ) → replicate (n + k) false ≡ replicate n false ++ replicate k false
replicate_more zero k = let same : 0 + k ≡ k = omega arith in ap (λ (m : ℕ). replicate m false) same
replicate_more (suc n) k =
    let same : suc n + k ≡ suc (n + k) = omega arith in
    ap (λ (m : ℕ). replicate m false) same ∙ ap (λ (l : List Bool). false ∷ l) (replicate_more n k)

pub skips_eol : (x : List Bool) (n : ℕ) → zeros_before x ≡ Some n → 11 ≤ n → IsSkipped x (n + 1)
skips_eol x n is long =
    let there = zeros_split x n is in
    let fill : List Bool = replicate (n - 11) false in
    let whole : n - 11 + 11 ≡ n = omega arith in
    let word : eol_word n ≡ fill ++ eol_word 11 = ap (λ (k : ℕ). replicate k false ++ true ∷ []) (sym whole) ∙
    (ap (λ (l : List Bool). l ++ true ∷ []) (replicate_more (n - 11) 11) ∙ append_assoc fill (replicate 11 false) (true ∷ [])) in
    let split : x ≡ fill ++ (eol_word 11 ++ there.0) = there.1 ∙ (ap (λ (l : List Bool). l ++ there.0) word ∙
    append_assoc fill (eol_word 11) there.0) in
    let count : n + 1 ≡ length fill + 12 = omega (arith, length-replicate (n - 11) false) in
    inl (
      (fill, there.0, split, count),
      λ other ends. let one = eol_there x other ends in omega (arith, one.2, same_count (zeros_before x) n one.0 is one.1),
    )

pub skips_on : (x : List Bool) (k n : ℕ) → zeros_before x ≡ Some k → k < 11 → IsSkipped (drop (k + 1) x) n → IsSkipped x (k + 1 + n)
skips_on x k n is few skipped = seen skipped
  where
    y : List Bool
    y = drop (k + 1) x

    split : x ≡ eol_word k ++ y
    split = after_one x k is

    later : (other : ℕ) → EolEndsAfter x other → (m : ℕ) × (other ≡ k + 1 + m) × EolEndsAfter y m
    later other ends =
        let there = ends_later k y ends.0 ends.1 few (sym split ∙ ends.2) in (
          length there.0 + 12,
          omega (arith, ends.3, ap length there.1, length-append (eol_word k) there.0, length-eol k),
          (there.0, ends.1, there.2, refl),
        )

    seen : IsSkipped y n → IsSkipped x (k + 1 + n)
    seen (inl found) = inl (
      (
        eol_word k ++ found.0.0,
        found.0.1,
        split ∙ (ap (λ (l : List Bool). eol_word k ++ l) found.0.2 ∙ sym (append_assoc (eol_word k) found.0.0 (eol_word 11 ++ found.0.1))),
        omega (arith, found.0.3, length-append (eol_word k) found.0.0, length-eol k),
      ),
      λ other ends. let there = later other ends in omega (arith, there.1, found.1 there.0 there.2),
    )
    seen (inr none) = inr (
      λ other ends. let there = later other ends in none.0 there.0 there.2,
      omega (arith, none.1, ap length split, length-append (eol_word k) y, length-eol k),
    )

-- so many bits are skipped and no others
pub one_skip : (x : List Bool) (a b : ℕ) → IsSkipped x a → IsSkipped x b → a ≡ b
one_skip x a b (inl one) (inl two) = omega (arith, one.1 b two.0, two.1 a one.0)
one_skip x a b (inl one) (inr two) = absurd (two.0 a one.0)
one_skip x a b (inr one) (inl two) = absurd (one.0 b two.0)
one_skip x a b (inr one) (inr two) = one.1 ∙ sym two.1

-- Where no row begins, or no EOL is

pub first_other : (x : List Bool) (eol : Eol) → SeesEol x eol → (eol ≡ Absent) ⊎ (eol ≡ OnlyZeros) → IsFirstLine x 0
first_other x eol sees (inl e) = first_code x (subst (λ (seen : Eol). SeesEol x seen) e sees)
first_other x eol sees (inr e) = first_zeros x (subst (λ (seen : Eol). SeesEol x seen) e sees)

pub line_off : (x : List Bool) (eol : Eol) → SeesEol x eol → ((n : ℕ) × (eol ≡ Present n)) ⊎ (eol ≡ OnlyZeros) → EndsPage x
line_off x eol sees (inl e) = eol_end x e.0 (subst (λ (seen : Eol). SeesEol x seen) e.1 sees)
line_off x eol sees (inr e) = zeros_end x (subst (λ (seen : Eol). SeesEol x seen) e sees)

-- The first EOL, from one 1 to the next

abbrev pub SkipsOn : List Bool → ℕ → ℕ → Type 0
SkipsOn bits place at = (n : ℕ) → IsSkipped (drop at bits) n → IsSkipped (drop place bits) (at - place + n)

pub skip_start : (bits : List Bool) (place : ℕ) → SkipsOn bits place place
skip_start bits place n skipped =
    let same : n ≡ place - place + n = omega arith in
    subst (λ (m : ℕ). IsSkipped (drop place bits) m) same skipped

module _ (bits : List Bool) (place at : ℕ) (past : place ≤ at) (on : SkipsOn bits place at) where
  pub skip_next : (k : ℕ) → zeros_before (drop at bits) ≡ Some k → k < 11 → SkipsOn bits place (at + (k + 1))
  skip_next k is few n skipped =
      let here : IsSkipped (drop (k + 1) (drop at bits)) n = subst (λ (l : List Bool). IsSkipped l n) (sym (drop-drop (k + 1) at bits))
      skipped in
      let same : at - place + (k + 1 + n) ≡ at + (k + 1) - place + n = omega (arith, past) in
      subst (λ (m : ℕ). IsSkipped (drop place bits) m) same (on (k + 1 + n) (skips_on (drop at bits) k n is few here))

  pub skip_found : (k : ℕ) → zeros_before (drop at bits) ≡ Some k → 11 ≤ k
      → (more : ℕ) × IsSkipped (drop place bits) more × (at + k + 1 ≡ place + more)
  skip_found k is long = (at - place + (k + 1), on (k + 1) (skips_eol (drop at bits) k is long), omega (arith, past))

  pub skip_none : (all : ℕ) → zeros_before (drop at bits) ≡ None → at ≤ all → length (drop at bits) ≡ all - at
      → (more : ℕ) × IsSkipped (drop place bits) more × (all ≡ place + more)
  skip_none all is within left = (
    at - place + length (drop at bits),
    on (length (drop at bits)) (skips_all (drop at bits) is),
    omega (arith, past, within, left),
  )
