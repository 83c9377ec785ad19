-- The prescribed modes by places, and the mode codes by value.
use Rattle.std.proofs.Common.{◌≢◌, ℕ, ◌+◌, ◌-◌, ◌<◌, ◌≤◌, ◌⊎◌, length, refl, arith, inl, inr, eq-eqb}
use Rattle.std.proofs.lemmas.Bool.{cases_eq, cases_lt, lt-ltb, le-ltb, ne_eqb}
use Rattle.run_tables.specs.Numbers.{number_text}
use Rattle.page_code.specs.TwoDimensions.ByPlaces.{Elements, IsModeFor, PrescribesByPlaces, ModesByValue}
use Rattle.page_code.specs.TwoDimensions.Code.{a1_of, a2_of, vertical_to, vertical_or, verticals}
use Rattle.page_code.specs.TwoDimensions.Positions.{b1_of, b2_of}

-- a vertical mode, or horizontal mode where a1 is too far from b1
by_shift : (e : Elements) → e.a1 ≤ e.b2 → IsModeFor e (vertical_or (vertical_to e.b1 e.a1 verticals) (e.a1 - e.a0) (e.a2 - e.a1))
by_shift e h =
    elim (cases_eq (e.a1 + 0) (e.b1 + 0)) [
      | inl is ↦ rw (eq-eqb (e.a1 + 0) (e.b1 + 0) is) (h, omega arith)
      | inr v0 ↦ rw (ne_eqb (e.a1 + 0) (e.b1 + 0) v0) (elim (cases_eq (e.a1 + 0) (e.b1 + 1)) [
        | inl is ↦ rw (eq-eqb (e.a1 + 0) (e.b1 + 1) is) (h, omega arith)
        | inr vr1 ↦ rw (ne_eqb (e.a1 + 0) (e.b1 + 1) vr1) (elim (cases_eq (e.a1 + 0) (e.b1 + 2)) [
          | inl is ↦ rw (eq-eqb (e.a1 + 0) (e.b1 + 2) is) (h, omega arith)
          | inr vr2 ↦ rw (ne_eqb (e.a1 + 0) (e.b1 + 2) vr2) (elim (cases_eq (e.a1 + 0) (e.b1 + 3)) [
            | inl is ↦ rw (eq-eqb (e.a1 + 0) (e.b1 + 3) is) (h, omega arith)
            | inr vr3 ↦ rw (ne_eqb (e.a1 + 0) (e.b1 + 3) vr3) (elim (cases_eq (e.a1 + 1) (e.b1 + 0)) [
              | inl is ↦ rw (eq-eqb (e.a1 + 1) (e.b1 + 0) is) (h, omega arith)
              | inr vl1 ↦ rw (ne_eqb (e.a1 + 1) (e.b1 + 0) vl1) (elim (cases_eq (e.a1 + 2) (e.b1 + 0)) [
                | inl is ↦ rw (eq-eqb (e.a1 + 2) (e.b1 + 0) is) (h, omega arith)
                | inr vl2 ↦ rw (ne_eqb (e.a1 + 2) (e.b1 + 0) vl2) (elim (cases_eq (e.a1 + 3) (e.b1 + 0)) [
                  | inl is ↦ rw (eq-eqb (e.a1 + 3) (e.b1 + 0) is) (h, omega arith)
                  | inr vl3 ↦ rw (ne_eqb (e.a1 + 3) (e.b1 + 0) vl3)
                      (h, far e.a1 e.b1 v0 vr1 vr2 vr3 vl1 vl2 vl3, refl, refl)
                ])
              ])
            ])
          ])
        ])
      ])
    ]
  where
    far : (a1 b1 : ℕ) → a1 + 0 ≢ b1 + 0 → a1 + 0 ≢ b1 + 1 → a1 + 0 ≢ b1 + 2 → a1 + 0 ≢ b1 + 3 → a1 + 1 ≢ b1 + 0 → a1 + 2 ≢ b1 + 0 →
        a1 + 3 ≢ b1 + 0 → (b1 + 3 < a1) ⊎ (a1 + 3 < b1)
    far a1 b1 v0 vr1 vr2 vr3 vl1 vl2 vl3 = elim (cases_lt b1 a1) [
      | inl right ↦ inl (omega (arith, right, vr1, vr2, vr3))
      | inr left ↦ inr (omega (arith, left, v0, vl1, vl2, vl3))
    ]

pub prescribes_by_places : PrescribesByPlaces
prescribes_by_places reference row line =
    elim (cases_lt (b2_of reference line) (a1_of row line)) [
      | inl before ↦ rw (lt-ltb (b2_of reference line) (a1_of row line) before) before
      | inr after ↦ rw (le-ltb (b2_of reference line) (a1_of row line) after) (by_shift (record {
        a0 = length line.pixels;
        a1 = a1_of row line;
        a2 = a2_of row line;
        b1 = b1_of reference line;
        b2 = b2_of reference line;
      }) after)
    ]

pub modes_by_value : ModesByValue
unfolding number_text
modes_by_value = record {
  v0 = refl;
  horizontal_flag = refl;
  pass_code = refl;
  right_1 = refl;
  left_1 = refl;
  right_2 = refl;
  left_2 = refl;
  right_3 = refl;
  left_3 = refl;
  extension = refl;
}
