-- A row's changing elements as a list: the next one from a place.
use Rattle.std.proofs.Common.{ℕ, zero, suc, ◌≡◌, ◌≢◌, ◌+◌, ◌-◌, ◌%◌, ◌<◌, ◌≤◌, ◌++◌, ◌∷◌, [], inl, inr, List, length}
use Rattle.std.proofs.Common.{length-append, arith, refl}
use Rattle.std.proofs.Common.{sym, ap, subst, ◌∙◌}
use Rattle.std.specs.Prelude.{slice_index_or}
use Rattle.std.proofs.lemmas.Bool.{cases_lt, cases_eq}
use Rattle.std.proofs.lemmas.List.{get_or_default, get_or_past}
use Rattle.raster.specs.declared.row.Color.{Color}
use Rattle.raster.specs.declared.row.Color.TheVariants.{White, Black}
use Rattle.raster.specs.Changes.{color_at, color_before, AreChanges, IsNextChange}
use Rattle.raster.specs.Pixels.{other}
use Rattle.raster.proofs.RowLemmas.{other_from_ne}
use Rattle.run_tables.proofs.RowWriting.{change_after, first_change}
use Rattle.page_code.proofs.TwoDimensions.Prescribed.{before_next, before_to}
use Rattle.page_code.specs.TwoDimensions.Changes.{AreHeld, IsFirstFrom, IsFirstHeld, IsIndexOf, turned}
use Rattle.page_code.specs.TwoDimensions.Positions.{IsFirstTo}
use Rattle.page_code.proofs.TwoDimensions.WritesMode.{first_to_next}

-- in a list in rising order, what is after another index isn't less
pub not_less : (row : List Color) (places : List ℕ) (i j : ℕ) → AreChanges row places → i ≤ j → j < length places
    → slice_index_or places i 0 ≤ slice_index_or places j 0
not_less row places i j all up h = elim (cases_lt i j) [
  | inl l ↦ omega (arith, all.rising i j l h)
  | inr g ↦ let same : i ≡ j = omega arith in rw same (omega arith)
]

-- the place at an index of the first from a place on, or the row's end where there is none, is the next changing element
pub change_at : (row : List Color) (places : List ℕ) (from at place : ℕ) → AreChanges row places → IsFirstFrom places from at
    → place ≡ slice_index_or places at (length row) → IsNextChange row from place
change_at row places from at place all index is = record {
  bound = elim (cases_lt at (length places)) [
    | inl l ↦ omega (arith, is, get_or_default places at (length row) 0 l, (all.changing at l).0)
    | inr g ↦ omega (arith, is, get_or_past places at (length row) (omega arith))
  ];
  changing = λ h. elim (cases_lt at (length places)) [
    | inl l ↦
        let here : place ≡ slice_index_or places at 0 = omega (arith, is, get_or_default places at (length row) 0 l) in
        rw here (index.reached l, all.changing at l)
    | inr g ↦ absurd (omega (arith, h, is, get_or_past places at (length row) (omega arith)))
  ];
  least = λ k low below changing. none_before k low below (all.all k changing);
}
  where
    none_before : (k : ℕ) → from ≤ k → k < place → (i : ℕ) × (i < length places) × (slice_index_or places i k ≡ k) → ⊥
    none_before k low below there =
        let i = there.0 in
        let here : slice_index_or places i 0 ≡ k = omega (arith, there.2, get_or_default places i k 0 there.1) in
        elim (cases_lt i at) [
          | inl early ↦ omega (
            arith,
            here,
            low,
            index.left (omega arith),
            not_less row places i (at - 1) all (omega arith) (omega (arith, index.within)),
          )
          | inr late ↦ omega (
            arith,
            here,
            below,
            is,
            not_less row places at i all (omega arith) there.1,
            get_or_default places at (length row) 0 (omega (arith, there.1)),
          )
        ]

-- ---- colors alternate

-- the first changing element is black
first_black : (row : List Color) (places : List ℕ) → AreChanges row places → 0 < length places → color_at row (slice_index_or places 0 0)
    ≡ Black
first_black row places all some =
    let place : ℕ = slice_index_or places 0 0 in
    let next : IsNextChange row 0 place = first_change row places place all (sym (get_or_default places 0 (length row) 0 some)) in
    let before : color_before row place ≡ White = before_to row 0 place White next.bound next.least refl (omega arith) in
    other_from_ne (color_at row place) White (λ e. (all.changing 0 some).1 (e ∙ sym before))

-- the next one is of the other color
next_other : (row : List Color) (places : List ℕ) (index : ℕ) → AreChanges row places → index + 1 < length places
    → color_at row (slice_index_or places (index + 1) 0) ≡ other (color_at row (slice_index_or places index 0))
next_other row places index all h =
    let at : ℕ = slice_index_or places index 0 in
    let place : ℕ = slice_index_or places (index + 1) 0 in
    let here : index < length places = omega arith in
    let back : index + 1 - 1 ≡ index = omega arith in
    let next : IsNextChange row (at + 1) place = change_after row places (index + 1) at place all (omega arith)
    (sym (get_or_default places index (length row) 0 here) ∙ ap (λ (i : ℕ). slice_index_or places i (length row)) (sym back))
    (all.changing index here).0 (sym (get_or_default places (index + 1) (length row) 0 h)) in
    let before : color_before row place ≡ color_at row at = before_to row (at + 1) place (color_at row at)
    next.bound next.least (before_next row at) (omega (arith, all.rising index (index + 1) (omega arith) h)) in
    other_from_ne (color_at row place) (color_at row at) (λ e. (all.changing (index + 1) h).1 (e ∙ sym before))

pub turned_at : (row : List Color) (places : List ℕ) (index : ℕ) → AreChanges row places → index < length places
    → color_at row (slice_index_or places index 0) ≡ turned index
turned_at row places zero all h = first_black row places all h
turned_at row places (suc index) all h =
    let e : index + 1 ≡ suc index = omega arith in
    ap (λ (i : ℕ). color_at row (slice_index_or places i 0)) (sym e) ∙
    (next_other row places index all (omega arith) ∙ ap other (turned_at row places index all (omega arith)))

other-is : (a b : Color) → a ≡ other b → a ≢ b
other-is White White e f = cc
other-is White Black e f = cc
other-is Black White e f = cc
other-is Black Black e f = cc

-- the first changing element of a color
pub first_to_at : (row : List Color) (places : List ℕ) (color : Color) (from at index place : ℕ) → AreChanges row places
    → IsFirstFrom places from at → IsIndexOf color at index → place ≡ slice_index_or places index (length row)
    → IsFirstTo row color from place
first_to_at row places color from at index place all first (inl here) is =
    let there : place ≡ slice_index_or places at (length row) = is ∙ ap (λ (i : ℕ). slice_index_or places i (length row)) here.1 in
    let next : IsNextChange row from place = change_at row places from at place all first there in
    record {
      bound = next.bound;
      changing = λ h. elim (cases_lt at (length places)) [
        | inl l ↦ (
          (next.changing h).0,
          (
            (next.changing h).1,
            ap (color_at row) (there ∙ get_or_default places at (length row) 0 l) ∙ (turned_at row places at all l ∙ here.0),
          ),
        )
        | inr g ↦ absurd (omega (arith, h, there, get_or_past places at (length row) g))
      ];
      least = λ k low below to. next.least k low below to.0;
    }
first_to_at row places color from at index place all first (inr other_one) is =
    let there : place ≡ slice_index_or places (at + 1) (length row) = is ∙ ap (λ (i : ℕ). slice_index_or places i (length row)) other_one.1
    in
    elim (cases_lt at (length places)) [
      | inl l ↦
          let passed : ℕ = slice_index_or places at 0 in
          let back : at + 1 - 1 ≡ at = omega arith in
          let one : IsNextChange row from passed = change_at row places from at passed all first
          (sym (get_or_default places at (length row) 0
          l)) in
          let two : IsNextChange row (passed + 1) place = change_after row places (at + 1) passed place all (omega arith)
          (sym (get_or_default places at (length row) 0 l) ∙ ap (λ (i : ℕ). slice_index_or places i (length row)) (sym back))
          (all.changing at l).0 there in
          first_to_next row color from passed place one (all.changing at l).0
          (other-is (color_at row passed) color (turned_at row places at all l ∙ other_one.0)) two
      | inr g ↦
          let end : place ≡ length row = there ∙ get_or_past places (at + 1) (length row) (omega arith) in
          let next : IsNextChange row from place = change_at row places from at place all first (end ∙ sym (get_or_past places at (length
          row) g)) in
          record {
            bound = next.bound;
            changing = λ h. absurd (omega (arith, h, end));
            least = λ k low below to. next.least k low below to.0;
          }
    ]

-- an index of an even number is that of a black one
pub turned_even : (index : ℕ) → index % 2 ≡ 0 → turned index ≡ Black
turned_even zero e = refl
turned_even (suc zero) e = absurd (omega arith)
turned_even (suc (suc index)) e = twice (turned index) ∙ turned_even index (omega arith)
  where
    twice : (color : Color) → other (other color) ≡ color
    twice White = refl
    twice Black = refl

pub turned_odd : (index : ℕ) → index % 2 ≢ 0 → turned index ≡ White
turned_odd zero ne = absurd (ne refl)
turned_odd (suc zero) ne = refl
turned_odd (suc (suc index)) ne = twice (turned index) ∙ turned_odd index (λ e. ne (omega arith))
  where
    twice : (color : Color) → other (other color) ≡ color
    twice White = refl
    twice Black = refl

pub index_of_black : (at : ℕ) → IsIndexOf Black at (at + at % 2)
index_of_black at = elim (cases_eq (at % 2) 0) [
  | inl e ↦ inl (turned_even at e, omega arith)
  | inr ne ↦ inr (turned_odd at ne, omega arith)
]

pub index_of_white : (at : ℕ) → IsIndexOf White at (at + (at + 1) % 2)
index_of_white at = elim (cases_eq (at % 2) 0) [
  | inl e ↦ inr (turned_even at e, omega arith)
  | inr ne ↦ inl (turned_odd at ne, omega arith)
]

-- the place at the next index, or the row's end where there is none, is the next changing element after a place
pub next_at : (row : List Color) (places : List ℕ) (index place next : ℕ) → AreChanges row places
    → place ≡ slice_index_or places index (length row) → next ≡ slice_index_or places (index + 1) (length row)
    → IsNextChange row (place + 1) next
next_at row places index place next all is next_is = elim (cases_lt index (length places)) [
  | inl l ↦
      let back : index + 1 - 1 ≡ index = omega arith in
      change_after row places (index + 1) place next all (omega arith)
      (is ∙ ap (λ (i : ℕ). slice_index_or places i (length row)) (sym back))
      (subst (λ (p : ℕ). p < length row) (sym (is ∙ get_or_default places index (length row) 0 l)) (all.changing index l).0) next_is
  | inr g ↦
      let end : place ≡ length row = is ∙ get_or_past places index (length row) g in
      let after : next ≡ length row = next_is ∙ get_or_past places (index + 1) (length row) (omega arith) in
      record {
        bound = omega (arith, after);
        changing = λ h. absurd (omega (arith, h, after));
        least = λ k low below changing. absurd (omega (arith, low, below, end, after));
      }
]

-- ---- the width held after the places

held_at : (places : List ℕ) (width index d : ℕ) → index < length places + 3
    → slice_index_or (places ++ width ∷ width ∷ width ∷ []) index d ≡ slice_index_or places index width
held_at [] width zero d h = refl
held_at [] width (suc zero) d h = refl
held_at [] width (suc (suc zero)) d h = refl
held_at [] width (suc (suc (suc index))) d h = absurd (omega arith)
held_at (x ∷ places) width zero d h = refl
held_at (x ∷ places) width (suc index) d h = held_at places width index d (omega arith)

-- how many are held
pub count_held : (row : List Color) (held : List ℕ) (is : AreHeld row held) → length held ≡ length is.places + 3
count_held row held is = ap length is.ends ∙ length-append is.places (length row ∷ length row ∷ length row ∷ [])

-- what is held at an index
pub at_held : (row : List Color) (held : List ℕ) (is : AreHeld row held) (index d : ℕ) → index < length held
    → slice_index_or held index d ≡ slice_index_or is.places index (length row)
at_held row held is index d h = ap (λ (l : List ℕ). slice_index_or l index d) is.ends ∙
    held_at is.places (length row) index d (omega (arith, h, count_held row held is))

first_held : (row : List Color) (held : List ℕ) (is : AreHeld row held) (from at : ℕ) → IsFirstHeld held from at
    → IsFirstFrom is.places from at
first_held row held is from at first =
    let count = count_held row held is in
    record {
      within = omega (arith, count, first.within);
      left = λ some. omega (
        arith,
        first.left some,
        at_held row held is (at - 1) 0 (omega (arith, count, first.within)),
        get_or_default is.places (at - 1) (length row) 0 (omega (arith, some, count, first.within)),
      );
      reached = λ inside. omega (
        arith,
        first.reached,
        at_held row held is at 0 (omega (arith, count, first.within)),
        get_or_default is.places at (length row) 0 inside,
      );
    }

-- the first two changing elements from a place on
pub two_held : (row : List Color) (held : List ℕ) (from at one two : ℕ) → AreHeld row held → IsFirstHeld held from at
    → one ≡ slice_index_or held at 0 → two ≡ slice_index_or held (at + 1) 0 → IsNextChange row from one × IsNextChange row (one + 1) two
two_held row held from at one two is first one_is two_is =
    let here : one ≡ slice_index_or is.places at (length row) = one_is ∙ at_held row held is at 0 (omega (arith, first.within)) in
    let next : two ≡ slice_index_or is.places (at + 1) (length row) = two_is ∙ at_held row held is (at + 1) 0 (omega (arith, first.within))
    in (
      change_at row is.places from at one is.changes (first_held row held is from at first) here,
      next_at row is.places at one two is.changes here next,
    )

-- the first one of a color from a place on, and the next
pub two_held_to : (row : List Color) (held : List ℕ) (color : Color) (from at index one two : ℕ) → AreHeld row held
    → IsFirstHeld held from at → IsIndexOf color at index → index ≤ at + 1 → one ≡ slice_index_or held index 0
    → two ≡ slice_index_or held (index + 1) 0 → IsFirstTo row color from one × IsNextChange row (one + 1) two
two_held_to row held color from at index one two is first index_is near one_is two_is =
    let here : one ≡ slice_index_or is.places index (length row) = one_is ∙ at_held row held is index 0 (omega (
      arith,
      near,
      first.within,
    )) in
    let next : two ≡ slice_index_or is.places (index + 1) (length row) = two_is ∙ at_held row held is (index + 1) 0 (omega (
      arith,
      near,
      first.within,
    )) in (
      first_to_at row is.places color from at index one is.changes (first_held row held is from at first) index_is here,
      next_at row is.places index one two is.changes here next,
    )
