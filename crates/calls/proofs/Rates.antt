-- Rates: a text says one share at most.
use Rattle.std.proofs.Common.{◌≡◌, ◌≢◌, ◌<◌, ◌+◌, ◌-◌, ℕ, zero, suc, List, [], ◌∷◌, ◌++◌, Option, Some, Bor, length, get_or, refl}
use Rattle.std.proofs.Common.{ap, sym, ◌∙◌, subst, arith, inl, inr, length-append, get_or-append-add}
use Rattle.std.specs.Char.{digit_value}
use Rattle.std.specs.Str.Parse.{AllDigits, IsNumeral}
use Rattle.std.proofs.lemmas.List.{append_cancel_right, get_or_at}
use Rattle.std.proofs.lemmas.Str.Pattern.{IsSplitOnceResult, split_after}
use Rattle.calls.specs.Losses.{IsFraction, IsPercent, IsRate}

-- an octet that is no digit is none of a number's
lack_octet : (octet : ℕ) → (digit_value octet < 10 → ⊥) → (xs : List ℕ) → AllDigits 10 xs → (i : ℕ) → i < length xs → get_or xs i 0 ≢ octet
lack_octet octet none [] all i within e = absurd (omega (arith, within))
lack_octet octet none (x ∷ xs) all zero within e = none (subst (λ c. digit_value c < 10) e all.0)
lack_octet octet none (x ∷ xs) all (suc i) within e = lack_octet octet none xs all.1 i (omega (arith, within)) e

no_percent : digit_value 37 < 10 → ⊥
no_percent few =
    let e : digit_value 37 ≡ 36 = refl in
    absurd (omega (arith, few, e))

no_slash : digit_value 47 < 10 → ⊥
no_slash few =
    let e : digit_value 47 ≡ 36 = refl in
    absurd (omega (arith, few, e))

-- a text that ends with % is no fraction
no_fraction : (digits above below : List ℕ) → digits ++ 37 ∷ [] ≡ above ++ 47 ∷ below → IsNumeral 10 below → ⊥
no_fraction digits above below e number =
    let some : 0 < length below = number.0 in
    let left : length (digits ++ 37 ∷ []) ≡ length digits + 1 = length-append digits (37 ∷ []) in
    let right : length (above ++ 47 ∷ below) ≡ length above + suc (length below) = length-append above (47 ∷ below) in
    let same : length (digits ++ 37 ∷ []) ≡ length (above ++ 47 ∷ below) = ap length e in
    let place : length digits ≡ length above + suc (length below - 1) = omega (arith, some, left, right, same) in
    let there : get_or below (length below - 1) 0 ≡ 37 =
    sym (get_or-append-add above (47 ∷ below) (suc (length below - 1)) 0) ∙
    (ap (λ l. get_or l (length above + suc (length below - 1)) 0) (sym e) ∙
    (ap (λ k. get_or (digits ++ 37 ∷ []) k 0) (sym place) ∙ get_or_at digits 37 [] 0 (length digits) refl)) in
    lack_octet 37 no_percent below number.1 (length below - 1) (omega (arith, some)) there

-- a text that ends with % is a percentage, if a rate
pub only_percent : (text digits : List ℕ) (result : Option ℕ) → text ≡ digits ++ 37 ∷ [] →
    ((share : ℕ) → IsPercent digits share → result ≡ Some share) → (share : ℕ) → IsRate text share → result ≡ Some share
only_percent text digits result is only share (inl (others, same, percent)) =
    only share (subst (λ d. IsPercent d share) (append_cancel_right others digits (37 ∷ []) (sym same ∙ is)) percent)
only_percent text digits result is only share (inr (above, below, same, fraction)) =
    absurd (no_fraction digits above below (sym is ∙ same) fraction.whole_is.numeral)

-- one that doesn't, and has no /, is none
pub no_rate : (text : List ℕ) → ((front : List ℕ) → text ≢ front ++ 37 ∷ []) → ((i : ℕ) → i < length text → get_or text i 0 ≢ 47) →
    (share : ℕ) → IsRate text share → ⊥
no_rate text open_end whole share (inl (digits, same, percent)) = open_end digits same
no_rate text open_end whole share (inr (above, below, same, fraction)) =
    let size : length text ≡ length above + suc (length below) = ap length same ∙ length-append above (47 ∷ below) in
    whole (length above) (omega (arith, size))
    (ap (λ l. get_or l (length above) 0) same ∙ get_or_at above 47 below 0 (length above) refl)

-- one that has a / is a fraction, if a rate
pub only_fraction : (text : List ℕ) (x : Bor (List ℕ) × Bor (List ℕ)) (result : Option ℕ) → ((front : List ℕ) → text ≢ front ++ 37 ∷ []) →
    IsSplitOnceResult 47 text (Some x) → ((share : ℕ) → IsFraction x.0.now x.1.now share → result ≡ Some share) →
    (share : ℕ) → IsRate text share → result ≡ Some share
only_fraction text x result open_end split only share (inl (digits, same, percent)) = absurd (open_end digits same)
only_fraction text x result open_end split only share (inr (above, below, same, fraction)) =
    let parts = split_after 47 text above below (Some x) split (omega arith) same
    (lack_octet 47 no_slash above fraction.part_is.numeral.1) in
    only share (subst (λ a. IsFraction a x.1.now share) (sym parts.0) (subst (λ b. IsFraction above b share) (sym parts.1) fraction))
