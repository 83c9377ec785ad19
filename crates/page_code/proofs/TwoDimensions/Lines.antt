-- The lines of a row that is read, as lists of places.
use Rattle.std.proofs.Common.{
  ℕ,
  zero,
  suc,
  ◌≡◌,
  ◌≢◌,
  ◌+◌,
  ◌-◌,
  ◌%◌,
  ◌<◌,
  ◌≤◌,
  ◌++◌,
  ◌∷◌,
  [],
  inl,
  inr,
  List,
  length,
  take,
  replicate,
  get_or,
}
use Rattle.std.proofs.Common.{arith, refl, sym, ap, subst, ◌∙◌, true, length-append}
use Rattle.std.specs.Prelude.{All, slice_index_or, nat_lt}
use Rattle.std.proofs.lemmas.Bool.{cases_lt, cases_eq, lt-ltb, le-ltb}
use Rattle.std.proofs.lemmas.List.{get_or_append_left, get_or_default, get_or_past}
use Rattle.std.proofs.Math.Seq.{get_or-append_seam}
use Rattle.raster.specs.declared.row.Color.{Color}
use Rattle.raster.specs.declared.row.Color.TheVariants.{White, Black}
use Rattle.raster.specs.Changes.{IsNextChange, IsRising, turned, turning}
use Rattle.raster.specs.Pixels.{other}
use Rattle.raster.proofs.TurningLemmas.{length-turning, rising_push, turned_turn, turning_extend, turning_turn}
use Rattle.page_code.proofs.TwoDimensions.ChangeLists.{at_held, count_held, not_less, two_held_to}
use Rattle.page_code.specs.declared.t6.a0.A0.{A0}
use Rattle.page_code.specs.declared.t6.front.Front.{Front}
use Rattle.page_code.specs.TwoDimensions.Changes.{AreHeld, IsFirstHeld}
use Rattle.page_code.specs.TwoDimensions.Changes.{turned as turned_at}
use Rattle.page_code.specs.TwoDimensions.Lines.{AreApart, AreLeftOf, EndsWith, IsFoundAt, TurnsAt, line_before, line_of}
use Rattle.page_code.specs.TwoDimensions.Modes.{runs_added}
use Rattle.page_code.specs.TwoDimensions.Positions.{CodingLine, IsFirstTo, a0_of, right_of_a0}

-- a coding line with a0 on it
abbrev pub begun_line : List Color → Color → CodingLine
begun_line pixels color = record { pixels = pixels; begun = true; color = color }

-- ---- the coding line

-- the color after an even and an odd number of turns
pub turned_even : (color : Color) (places : List ℕ) → length places % 2 ≡ 0 → turned color places ≡ color
turned_even color [] e = refl
turned_even color (p ∷ []) e = absurd (omega arith)
turned_even color (p ∷ q ∷ places) e = turned_even (other (other color)) places (omega arith) ∙ twice color
  where
    twice : (c : Color) → other (other c) ≡ c
    twice White = refl
    twice Black = refl

pub turned_odd : (color : Color) (places : List ℕ) → length places % 2 ≢ 0 → turned color places ≡ other color
turned_odd color [] ne = absurd (ne refl)
turned_odd color (p ∷ places) ne = turned_even (other color) places (omega arith)

-- rising places are at least as many as their indexes
at_least : (places : List ℕ) (i : ℕ) → IsRising places → i < length places → i ≤ get_or places i 0
at_least places zero rising h = omega arith
at_least places (suc i) rising h =
    let less : i ≤ get_or places i 0 = at_least places i rising (omega arith) in
    omega (arith, less, rising i (suc i) (omega arith) h)

-- there are no more places to the left of one than pixels
pub few_left : (places : List ℕ) (from : ℕ) → AreLeftOf places from → length places ≤ from
few_left places from left = elim (cases_eq (length places) 0) [
  | inl none ↦ omega arith
  | inr some ↦
      let last : ℕ = length places - 1 in
      let within : last < length places = omega arith in
      omega (arith, at_least places last left.rising within, left.below last 0 within)
]

-- the places are at or before the one that is just to the left
pub before_left : (places : List ℕ) (from : ℕ) → AreLeftOf places from → All (λ p. p ≤ from - 1) places
before_left places from left k d h = let less = left.below k d h in omega arith

pub length_line : (places : List ℕ) (from : ℕ) → AreLeftOf places from → length (turning White 0 places (from - 1)) ≡ from - 1
length_line places from left = length-turning places (from - 1) left.rising (before_left places from left)

pub right_line : (places : List ℕ) (from : ℕ) → AreLeftOf places from → right_of_a0 (line_before places from) ≡ from
right_line places from left = elim (cases_lt 0 from) [
  | inl some ↦ rw (lt-ltb 0 from some, length_line places from left) (omega arith)
  | inr none ↦ rw (le-ltb 0 from none, length_line places from left) (omega arith)
]

-- a0 at a later place of the same color
pub line_on : (places : List ℕ) (from place : ℕ) → AreLeftOf places from → from - 1 ≤ place
    → line_before places (place + 1) ≡ record {
      pixels = (line_before places from).pixels ++ replicate (place - (from - 1)) (line_before places from).color;
      begun = true;
      color = turned White places;
    }
line_on places from place left up =
    let here : place + 1 - 1 ≡ place = omega arith in
    rw (
      here,
      lt-ltb 0 (place + 1) (omega arith),
      turning_extend White 0 places (from - 1) place (omega arith) (before_left places from left)
          up,
    ) refl

-- a0 at a later place, of the other color
pub line_turned : (places : List ℕ) (from place : ℕ) → AreLeftOf places from → from - 1 ≤ place
    → line_before (places ++ place ∷ []) (place + 1) ≡ record {
      pixels = (line_before places from).pixels ++ replicate (place - (from - 1)) (line_before places from).color;
      begun = true;
      color = other (turned White places);
    }
line_turned places from place left up =
    let here : place + 1 - 1 ≡ place = omega arith in
    rw (
      here,
      lt-ltb 0 (place + 1) (omega arith),
      turning_turn White 0 places place,
      turned_turn White places place,
      turning_extend White 0 places (from - 1) place (omega arith) (before_left places from left) up,
    ) refl

pub left_later : (places : List ℕ) (from later : ℕ) → AreLeftOf places from → from ≤ later → AreLeftOf places later
left_later places from later left up = record {
  rising = left.rising;
  below = λ k d h. let less = left.below k d h in omega arith;
}

all_pushed : (P : ℕ → Type 0) (places : List ℕ) (place : ℕ) → All P places → P place → All P (places ++ place ∷ [])
all_pushed P places place all last k d h = elim (cases_lt k (length places)) [
  | inl before ↦ subst P (sym (get_or_append_left places (place ∷ []) d k before)) (all k d before)
  | inr after ↦
      let long : length (places ++ place ∷ []) ≡ length places + 1 = length-append places (place ∷ []) in
      let is : k ≡ length places = omega (arith, long) in
      subst P (sym (ap (λ (i : ℕ). get_or (places ++ place ∷ []) i d) is ∙ get_or-append_seam places place [] d)) last
]

pub left_turned : (places : List ℕ) (from place : ℕ) → AreLeftOf places from → from ≤ place
    → AreLeftOf (places ++ place ∷ []) (place + 1)
left_turned places from place left up = record {
  rising = rising_push places place left.rising (left_later places from place left up).below;
  below = all_pushed (λ p. p < place + 1) places place (left_later places from (place + 1) left (omega arith)).below (omega arith);
}

-- ---- one turn more

below_place : (places : List ℕ) (place : ℕ) → IsRising places → All (λ p. p ≤ place) places
    → (0 < length places → slice_index_or places (length places - 1) 0 ≢ place) → All (λ p. p < place) places
below_place places place rising below ne k d h =
    let last : ℕ = length places - 1 in
    let within : last < length places = omega arith in
    let here = get_or_default places k d 0 h in
    elim (cases_eq k last) [
      | inl e ↦ omega (arith, here, ap (λ (i : ℕ). slice_index_or places i 0) e, below last 0 within, ne (omega arith))
      | inr other_one ↦ omega (arith, here, rising k last (omega arith) within, below last 0 within)
    ]

pub turn_more : (places : List ℕ) (place : ℕ) → IsRising places → All (λ p. p ≤ place) places
    → (0 < length places → slice_index_or places (length places - 1) 0 ≢ place) → TurnsAt places (places ++ place ∷ []) place
turn_more places place rising below ne = record {
  rising = rising_push places place rising (below_place places place rising below ne);
  below = all_pushed (λ p. p ≤ place) places place below (omega arith);
  pixels = turning_turn White 0 places place;
  color = turned_turn White places place;
}

pub turn_less : (places : List ℕ) (place : ℕ) → IsRising (places ++ place ∷ []) → All (λ p. p ≤ place) (places ++ place ∷ [])
    → TurnsAt (places ++ place ∷ []) places place
turn_less places place rising below = record {
  rising = λ i j up h.
      let long = length-append places (place ∷ []) in
      omega (
        arith,
        rising i j up (omega (arith, long)),
        get_or_append_left places (place ∷ []) 0 i (omega arith),
        get_or_append_left places (place ∷ []) 0 j h,
      );
  below = λ k d h.
      let long = length-append places (place ∷ []) in
      omega (arith, below k d (omega (arith, long)), get_or_append_left places (place ∷ []) d k h);
  pixels = sym (turning_turn White 0 places place);
  color = twice (turned White places) ∙ ap other (sym (turned_turn White places place));
}
  where
    twice : (c : Color) → c ≡ other (other c)
    twice White = refl
    twice Black = refl

-- ---- b1

-- what is held is at most the width, and less than that only where it is a changing element
most_held : (row : List Color) (held : List ℕ) (is : AreHeld row held) (i : ℕ) → i < length held → slice_index_or held i 0 ≤ length row
most_held row held is i h = elim (cases_lt i (length is.places)) [
  | inl l ↦ omega (
    arith,
    at_held row held is i 0 h,
    get_or_default is.places i (length row) 0 l,
    (is.changes.changing i l).0,
  )
  | inr g ↦ omega (arith, at_held row held is i 0 h, get_or_past is.places i (length row) g)
]

real_held : (row : List Color) (held : List ℕ) (is : AreHeld row held) (i : ℕ) → i < length held
    → slice_index_or held i 0 < length row → i < length is.places
real_held row held is i h less = elim (cases_lt i (length is.places)) [
  | inl l ↦ l
  | inr g ↦ absurd (omega (arith, less, at_held row held is i 0 h, get_or_past is.places i (length row) g))
]

pub ends_held : (row : List Color) (held : List ℕ) → AreHeld row held → EndsWith held (length row)
ends_held row held is = record {
  some = omega (arith, count_held row held is);
  rising = λ i j up h. elim (cases_lt j (length is.places)) [
    | inl l ↦ omega (
      arith,
      not_less row is.places i j is.changes up l,
      at_held row held is i 0 (omega arith),
      at_held row held is j 0 h,
      get_or_default is.places i (length row) 0 (omega arith),
      get_or_default is.places j (length row) 0 l,
    )
    | inr g ↦ omega (
      arith,
      most_held row held is i (omega arith),
      at_held row held is j 0 h,
      get_or_past is.places j (length row) g,
    )
  ];
  ends = λ k low h. at_held row held is k 0 h ∙ get_or_past is.places k (length row) (omega (arith, count_held row held is));
}

-- places of such a list to the left of its width differ
pub apart_held : (row : List Color) (held : List ℕ) → AreHeld row held → AreApart held (length row)
apart_held row held is i j up h less =
    let within : j < length is.places = real_held row held is j h less in
    omega (
      arith,
      is.changes.rising i j up within,
      at_held row held is i 0 (omega arith),
      at_held row held is j 0 h,
      get_or_default is.places i (length row) 0 (omega arith),
      get_or_default is.places j (length row) 0 within,
    )

turned_before : (at : ℕ) → 0 < at → turned_at (at - 1) ≡ other (turned_at at)
turned_before zero some = absurd (omega arith)
turned_before (suc at) some =
    let back : suc at - 1 ≡ at = omega arith in
    ap turned_at back ∙ twice (turned_at at)
  where
    twice : (c : Color) → c ≡ other (other c)
    twice White = refl
    twice Black = refl

-- the index where every second place is sought is that of b1, whose color is the index's
pub found_first : (row : List Color) (held : List ℕ) (from at : ℕ) → AreHeld row held → IsFoundAt held from at
    → IsFirstTo row (turned_at at) from (slice_index_or held at 0)
    × IsNextChange row (slice_index_or held at 0 + 1) (slice_index_or held (at + 1) 0)
found_first row held from at is found = elim (cases_eq at 0) [
  | inl none ↦ here (record {
    within = omega (arith, count_held row held is);
    left = λ some. absurd (omega arith);
    reached = found.reached;
  })
  | inr some ↦
      elim (cases_lt (slice_index_or held (at - 1) 0) from) [
        | inl less ↦
            let real = real_held row held is (at - 1) (omega (arith, found.within)) (omega (arith, less, reached)) in
            here (record {
              within = omega (arith, real, count_held row held is);
              left = λ positive. less;
              reached = found.reached;
            })
        | inr not_less ↦
            let back : at - 1 - 1 ≡ at - 2 = omega arith in
            let first : IsFirstHeld held from (at - 1) = record {
              within = elim (cases_lt at 2) [
                | inl one ↦ omega (arith, count_held row held is)
                | inr two ↦
                    let real = real_held row held is (at - 2) (omega (arith, found.within)) (omega (arith, found.left two, reached)) in
                    omega (arith, real, count_held row held is)
              ];
              left = λ positive. subst (λ (i : ℕ). slice_index_or held i 0 < from) (sym back) (found.left (omega arith));
              reached = not_less;
            } in
            two_held_to row held (turned_at at) from (at - 1) at (slice_index_or held at 0) (slice_index_or held (at + 1) 0) is first
            (inr (turned_before at (omega arith), omega arith)) (omega arith) refl refl
      ]
]
  where
    reached : from ≤ length row
    reached = omega (arith, found.reached, most_held row held is at (omega (arith, found.within)))

    here : IsFirstHeld held from at → IsFirstTo row (turned_at at) from (slice_index_or held at 0)
        × IsNextChange row (slice_index_or held at 0 + 1) (slice_index_or held (at + 1) 0)
    here first =
        two_held_to row held (turned_at at) from at at (slice_index_or held at 0) (slice_index_or held (at + 1) 0) is first
        (inl (refl, refl)) (omega arith) refl refl

-- ---- a0, and horizontal mode

pub a0_line : (list : List ℕ) (front : Front) (place : ℕ) (color : Color) → front.turns ≤ length list
    → AreLeftOf (take front.turns list) front.from → place ≡ front.from - 1 → color ≡ turned White (take front.turns list)
    → record { place = place; begun = nat_lt 0 front.from; color = color } ≡ a0_of (line_of list front)
a0_line list front place color fits left is_place is_color =
    let at : ℕ → Color → A0 = λ p c. record { place = p; begun = nat_lt 0 front.from; color = c } in
    ap (λ p. at p color) (is_place ∙ sym (length_line (take front.turns list) front.from left)) ∙
    ap (at (length (turning White 0 (take front.turns list) (front.from - 1)))) is_color

pub two_runs : (places one two : List ℕ) (from a1 a2 a0a1 a1a2 : ℕ) → AreLeftOf places from → a1 ≡ from - 1 + a0a1 → a2 ≡ a1 + a1a2
    → TurnsAt places one a1 → TurnsAt one two a2 → line_before two (a2 + 1) ≡ runs_added (line_before places from) a0a1 a1a2
two_runs places one two from a1 a2 a0a1 a1a2 left is_a1 is_a2 first second =
    let here : a2 + 1 - 1 ≡ a2 = omega arith in
    let run : a1 - (from - 1) ≡ a0a1 = omega arith in
    let next : a2 - a1 ≡ a1a2 = omega arith in
    let on = turning_extend White 0 places (from - 1) a1 (omega arith) (before_left places from left) (omega arith) in
    let more = turning_extend White 0 one a1 a2 (omega arith) first.below (omega arith) in
    rw (here, lt-ltb 0 (a2 + 1) (omega arith), second.pixels, more, first.pixels, on, second.color, first.color, run, next)
    (ap (begun_line _) (twice (turned White places)))
  where
    twice : (c : Color) → other (other c) ≡ c
    twice White = refl
    twice Black = refl

-- ---- a whole line

pub within_less : (places : List ℕ) (width : ℕ) → AreLeftOf (places ++ width ∷ []) (width + 1) → AreLeftOf places width
within_less places width left =
    let long = length-append places (width ∷ []) in
    let less = turn_less places width left.rising (λ k d h. let most = left.below k d h in omega arith) in
    record {
      rising = less.rising;
      below = λ k d h. omega (
        arith,
        left.rising k (length places) h (omega (arith, long)),
        get_or_append_left places (width ∷ []) 0 k h,
        get_or-append_seam places width [] 0,
        get_or_default places k d 0 h,
      );
    }

pub within_all : (places : List ℕ) (width : ℕ) → AreLeftOf places (width + 1)
    → (0 < length places → slice_index_or places (length places - 1) 0 ≢ width) → AreLeftOf places width
within_all places width left ne = record {
  rising = left.rising;
  below = below_place places width left.rising (λ k d h. let most = left.below k d h in omega arith) ne;
}
