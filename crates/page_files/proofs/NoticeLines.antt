-- The notices of the lines of a text.
use Rattle.std.proofs.Common.{◌≡◌, ◌<◌, ◌++◌, ◌∷◌, [], ℕ, Bool, true, false, List, Option, Some, None, Bor, length, refl, ap, sym, ◌∙◌}
use Rattle.std.proofs.Common.{subst, arith}
use Rattle.std.specs.Prelude.{◌==◌, flat_map}
use Rattle.std.specs.List.{after_first, before_first, position_or_len, slice_split}
use Rattle.std.specs.Io.KnownBytes.{Appends}
use Rattle.std.proofs.KnownBytes.{Appends-nil, Appends-trans}
use Rattle.std.proofs.lemmas.List.Splits.{length-slice_split, slice_split_first, slice_split_none}
use Rattle.std.proofs.lemmas.List.Sums.{fails_before_first}
use Rattle.std.proofs.lemmas.Str.Pattern.{IsSplitOnceResult, split_once_first}
use Rattle.page_files.specs.DecodeRecords.{as_told, but_last, lines_in, notice_line, notices}

abbrev ends_line : ℕ → Bool
ends_line octet = octet == 10

first_part : (f : List ℕ → List ℕ) (part : List ℕ) (parts : List (List ℕ)) → 0 < length parts
    → flat_map f (but_last (part ∷ parts)) ≡ f part ++ flat_map f (but_last parts)
unfolding but_last
first_part f part [] some = absurd (omega (arith, some))
first_part f part (next ∷ parts) some = refl

some_part : (text : List ℕ) → 0 < length (slice_split ends_line text)
some_part text = omega (arith, length-slice_split ends_line text)

-- the first line, and then the others
pub first_line : (f : List ℕ → List ℕ) (text line rest : List ℕ) → position_or_len ends_line text < length text
    → line ≡ before_first ends_line text → rest ≡ after_first ends_line text
    → flat_map f (lines_in text) ≡ f line ++ flat_map f (lines_in rest)
first_line f text line rest within line_is rest_is =
    ap (λ (parts : List (List ℕ)). flat_map f (but_last parts)) (slice_split_first ends_line text 0 within)
    ∙ (first_part f (before_first ends_line text) (slice_split ends_line (after_first ends_line text))
    (some_part (after_first ends_line text))
    ∙ (ap (λ (l : List ℕ). f l ++ flat_map f (lines_in (after_first ends_line text))) (sym line_is)
    ∙ ap (λ (l : List ℕ). f line ++ flat_map f (lines_in l)) (sym rest_is)))

-- a text in which no line ends
pub no_line : (f : List ℕ → List ℕ) (text : List ℕ) → position_or_len ends_line text ≡ length text → flat_map f (lines_in text) ≡ []
unfolding but_last
no_line f text is = ap (λ (parts : List (List ℕ)). flat_map f (but_last parts))
    (slice_split_none ends_line text (λ k e m. fails_before_first ends_line text k e (omega (arith, is, m))))

-- the notice of the first line, and then those of the others
pub notices_more : (before now after : Option (List ℕ)) (text : List ℕ) (line rest : Bor (List ℕ))
    → IsSplitOnceResult 10 text (Some (line, rest)) → Appends before now (notice_line line.now) → Appends now after (notices rest.now)
    → Appends before after (notices text)
notices_more before now after text line rest split one more =
    let first = split_once_first 10 text (Some (line, rest)) split (omega arith) in
    subst (Appends before after) (sym (first_line notice_line text line.now rest.now first.0 first.1 first.2))
    (Appends-trans before now after (notice_line line.now) (notices rest.now) one more)

-- none is left
pub notices_end : (known : Option (List ℕ)) (text : List ℕ) → IsSplitOnceResult 10 text None → Appends known known (notices text)
notices_end known text split =
    subst (Appends known known) (sym (no_line notice_line text (split_once_first 10 text None split (omega arith)))) (Appends-nil known)

-- of no lines nothing is told
pub nothing_told : (records : Bool) (lines : List ℕ) → lines ≡ [] → as_told records lines ≡ []
unfolding but_last
nothing_told true lines none = ap (as_told true) none
nothing_told false lines none = none
