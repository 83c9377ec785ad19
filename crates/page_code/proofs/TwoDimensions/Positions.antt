-- The least places b1, b2, a1 and a2 exist, are the ones that the search finds, and are the only ones.
use Rattle.std.proofs.Common.{ℕ, zero, suc, ◌≡◌, ◌+◌, ◌-◌, ◌<◌, ◌≤◌, inl, inr, min, Bool, true, false, not, List, length, refl, ap, sym}
use Rattle.std.proofs.Common.{◌∙◌, arith, cond}
use Rattle.std.specs.Prelude.{◌≢◌}
use Rattle.std.proofs.lemmas.Bool.{false≢true, cases_order, and_parts, and_from}
use Rattle.raster.specs.declared.row.Color.{Color}
use Rattle.raster.specs.declared.row.Color.TheVariants.{White, Black}
use Rattle.raster.specs.Pixels.{other}
use Rattle.raster.specs.Changes.{color_at, color_before, IsNextChange}
use Rattle.page_code.specs.TwoDimensions.Positions.{CodingLine, right_of_a0, IsB1, IsB2, first_place, same_color, changes, changes_to}
use Rattle.page_code.specs.TwoDimensions.Positions.{change_from, b1_of, b2_of}

-- Least places where a test holds

record IsLeast (test : ℕ → Bool) (from end place : ℕ) : Type 0 where
  bound : place ≤ end
  holds : place < end → (from ≤ place) × (test place ≡ true)
  least : (k : ℕ) → from ≤ k → k < place → test k ≡ false

-- what the search finds
record Search (test : ℕ → Bool) (n at place : ℕ) : Type 0 where
  from : at ≤ place
  to : place ≤ at + n
  holds : place < at + n → test place ≡ true
  least : (k : ℕ) → at ≤ k → k < place → test k ≡ false

search_first : (test : ℕ → Bool) (n at : ℕ) → Search test n at (first_place test n at)
search_first test zero at = record {
  from = omega arith;
  to = omega arith;
  holds = λ h. absurd (omega arith);
  least = λ k a b. absurd (omega
      arith);
}
search_first test (suc n) at = seen (test at) refl (search_first test n (at + 1))
  where
    seen : (b : Bool) → test at ≡ b → Search test n (at + 1) (first_place test n (at + 1))
        → Search test (suc n) at (cond b at (first_place test n (at + 1)))
    seen true is later = record { from = omega arith; to = omega arith; holds = λ h. is; least = λ k a b. absurd (omega arith) }
    seen false is later = record {
      from = omega (arith, later.from);
      to = omega (arith, later.to);
      holds = λ h. later.holds (omega arith);
      least = λ k a b. elim (cases_order k at) [
        | inl e ↦ ap test e ∙ is
        | inr o ↦ elim o [ inl l ↦ absurd (omega arith) | inr g ↦ later.least k (omega arith) b ]
      ];
    }

least_found : (test : ℕ → Bool) (from end : ℕ) → IsLeast test from end (min end (first_place test (end - from) from))
least_found test from end =
    let place : ℕ = first_place test (end - from) from in
    let found : Search test (end - from) from place = search_first test (end - from) from in
    record {
      bound = omega arith;
      holds = λ h.
          let same : min end place ≡ place = omega arith in
          (omega (arith, found.from), rw same (found.holds (omega (arith, found.from))));
      least = λ k a b. found.least k a (omega arith);
    }

least_is : (test : ℕ → Bool) (from end p q : ℕ) → IsLeast test from end p → IsLeast test from end q → p ≡ q
least_is test from end p q a b = elim (cases_order p q) [
  | inl e ↦ e
  | inr o ↦ elim o [
    | inl l ↦ let h : p < end = omega (arith, b.bound) in absurd (false≢true (sym (b.least p (a.holds h).0 l) ∙ (a.holds h).1))
    | inr g ↦ let h : q < end = omega (arith, a.bound) in absurd (false≢true (sym (a.least q (b.holds h).0 g) ∙ (b.holds h).1))
  ]
]

-- Colors

pub same_is : (a b : Color) → same_color a b ≡ true → a ≡ b
same_is White White e = refl
same_is White Black e = cc
same_is Black White e = cc
same_is Black Black e = refl

is_same : (a b : Color) → a ≡ b → same_color a b ≡ true
is_same White White e = refl
is_same White Black e = cc
is_same Black White e = cc
is_same Black Black e = refl

differ : (a b : Color) → not (same_color a b) ≡ true → a ≢ b
differ White White e h = cc
differ White Black e h = cc
differ Black White e h = cc
differ Black Black e h = cc

is_other : (a b : Color) → a ≢ b → not (same_color a b) ≡ true
is_other White White h = absurd (h refl)
is_other White Black h = refl
is_other Black White h = refl
is_other Black Black h = absurd (h refl)

pub other_than : (a b : Color) → a ≢ b → a ≡ other b
other_than White White h = absurd (h refl)
other_than White Black h = refl
other_than Black White h = refl
other_than Black Black h = absurd (h refl)

-- what is not so leaves the color
pub same_unless : (a b : Color) → (a ≢ b → ⊥) → a ≡ b
same_unless White White h = refl
same_unless White Black h = absurd (h (λ e. cc))
same_unless Black White h = absurd (h (λ e. cc))
same_unless Black Black h = refl

-- a test that doesn't hold
false_unless : (b : Bool) → (b ≡ true → ⊥) → b ≡ false
false_unless true h = absurd (h refl)
false_unless false h = refl

-- Changing elements of a row

to_next : (row : List Color) (from place : ℕ) → IsLeast (changes row) from (length row) place → IsNextChange row from place
to_next row from place found = record {
  bound = found.bound;
  changing = λ h. ((found.holds h).0, (h, differ (color_at row place) (color_before row place) (found.holds h).1));
  least = λ k a b is. false≢true (sym (found.least k a b) ∙ is_other (color_at row k) (color_before row k) is.1);
}

from_next : (row : List Color) (from place : ℕ) → IsNextChange row from place → IsLeast (changes row) from (length row) place
from_next row from place next = record {
  bound = next.bound;
  holds = λ h. ((next.changing h).0, is_other (color_at row place) (color_before row place) (next.changing h).1.1);
  least = λ k a b. false_unless (changes row k) (λ e. next.least k a b (
    omega (arith, next.bound),
    differ (color_at row k) (color_before row
        k) e,
  ));
}

-- the next changing element is found
pub change_found : (row : List Color) (from : ℕ) → IsNextChange row from (change_from row from)
unfolding change_from
change_found row from = to_next row from (min (length row) (first_place (changes row) (length row - from) from)) (least_found (changes row)
    from (length row))

-- and no other place is it
pub change_is : (row : List Color) (from place : ℕ) → IsNextChange row from place → place ≡ change_from row from
change_is row from place next = least_is (changes row) from (length row) place (change_from row from) (from_next row from place next)
    (from_next row from (change_from row from) (change_found row from))

-- b1

to_b1 : (reference : List Color) (line : CodingLine) (b1 : ℕ)
    → IsLeast (changes_to reference (other line.color)) (right_of_a0 line) (length reference) b1 → IsB1 reference line b1
to_b1 reference line b1 found = record {
  bound = found.bound;
  changing = λ h.
      let parts = and_parts (same_color (color_at reference b1) (other line.color)) (changes reference b1) (found.holds h).1 in (
        (found.holds h).0,
        (
          (h, differ (color_at reference b1) (color_before reference b1) parts.1),
          same_is (color_at reference b1) (other
              line.color) parts.0,
        ),
      );
  least = λ k a b is. false≢true (sym (found.least k a b) ∙
      and_from (same_color (color_at reference k) (other line.color)) (changes reference k) (is_same (color_at reference k) (other
      line.color) is.1) (is_other (color_at reference k) (color_before reference k) is.0.1));
}

from_b1 : (reference : List Color) (line : CodingLine) (b1 : ℕ) → IsB1 reference line b1
    → IsLeast (changes_to reference (other line.color)) (right_of_a0 line) (length reference) b1
from_b1 reference line b1 is = record {
  bound = is.bound;
  holds = λ h.
      let facts = is.changing h in (
        facts.0,
        and_from (same_color (color_at reference b1) (other line.color)) (changes reference b1) (is_same (color_at reference b1)
            (other line.color) facts.1.1) (is_other (color_at reference b1) (color_before reference b1) facts.1.0.1),
      );
  least = λ k a b. false_unless (changes_to reference (other line.color) k) (λ e.
      let parts = and_parts (same_color (color_at reference k) (other line.color)) (changes reference k) e in
      is.least k a b (
        (omega (arith, is.bound), differ (color_at reference k) (color_before reference k) parts.1),
        same_is (color_at
            reference k) (other line.color) parts.0,
      ));
}

-- b1 is found
pub b1_found : (reference : List Color) (line : CodingLine) → IsB1 reference line (b1_of reference line)
unfolding b1_of
b1_found reference line = to_b1 reference line (min (length reference) (first_place (changes_to reference (other line.color)) (length
    reference - right_of_a0 line) (right_of_a0 line))) (least_found (changes_to reference (other line.color)) (right_of_a0 line) (length
    reference))

-- and no other place is it
pub b1_is : (reference : List Color) (line : CodingLine) (b1 : ℕ) → IsB1 reference line b1 → b1 ≡ b1_of reference line
b1_is reference line b1 is = least_is (changes_to reference (other line.color)) (right_of_a0 line) (length reference) b1 (b1_of reference
    line) (from_b1 reference line b1 is) (from_b1 reference line (b1_of reference line) (b1_found reference line))

-- b2 is found
pub b2_found : (reference : List Color) (line : CodingLine) → IsB2 reference (b1_of reference line) (b2_of reference line)
b2_found reference line = change_found reference (b1_of reference line + 1)

-- and no other place is it
pub b2_is : (reference : List Color) (line : CodingLine) (b1 b2 : ℕ) → IsB1 reference line b1 → IsB2 reference b1 b2
    → b2 ≡ b2_of reference line
b2_is reference line b1 b2 is1 is2 = change_is reference (b1 + 1) b2 is2 ∙
    ap (λ n. change_from reference (n + 1)) (b1_is reference line b1 is1)
