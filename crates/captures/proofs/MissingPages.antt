-- The pages that are missing before another one.
use Rattle.std.proofs.Common.{◌≡◌, ◌+◌, ◌%◌, ℕ, List, [], ◌∷◌, ◌++◌, map, ap, sym, ◌∙◌, arith, append_assoc}
use Rattle.std.specs.List.{range_with_len}
use Rattle.std.proofs.lemmas.List.{append-nil, map-append}
use Rattle.std.proofs.lemmas.List.FromFn.{map-range_with_len_more}
use Rattle.captures.specs.Captured.{ahead, pages_before}
use Rattle.captures.specs.declared.captured.Captured.{Captured}
use Rattle.captures.specs.declared.captured.Captured.TheVariants.{MissingPage}

-- so many pages from one on
abbrev pub pages_from : ℕ → ℕ → List Captured
pages_from from count = map (λ number. MissingPage number) (map (λ n. (from + n) % 256) (range_with_len 0 count))

pub no_page : (from : ℕ) (before : List Captured) → before ≡ before ++ pages_from from 0
no_page from before = sym (append-nil before)

pub one_page : (from count : ℕ) (before old new : List Captured) → old ≡ before ++ pages_from from count
    → new ≡ old ++ MissingPage ((from + count) % 256) ∷ [] → new ≡ before ++ pages_from from (count + 1)
one_page from count before old new was is =
    is ∙ (ap (λ (xs : List Captured). xs ++ MissingPage ((from + count) % 256) ∷ []) was
    ∙ (append_assoc before (pages_from from count) (MissingPage ((from + count) % 256) ∷ [])
    ∙ ap (λ (xs : List Captured). before ++ xs) (sym more)))
  where
    more : pages_from from (count + 1) ≡ pages_from from count ++ MissingPage ((from + count) % 256) ∷ []
    more = ap (map (λ number. MissingPage number)) (map-range_with_len_more (λ n. (from + n) % 256) 0 count count (omega arith))
        ∙ map-append (λ number. MissingPage number) (map (λ n. (from + n) % 256) (range_with_len 0 count)) ((from + count) % 256 ∷ [])

pub all_pages : (from page count : ℕ) (before after : List Captured) → count ≡ ahead page from → after ≡ before ++ pages_from from count
    → after ≡ before ++ map (λ number. MissingPage number) (pages_before from page)
unfolding pages_before
all_pages from page count before after e is = is ∙ ap (λ (n : ℕ). before ++ pages_from from n) e
