-- The reference line and the coding line in their lists.
use Rattle.std.proofs.Common.{ℕ, zero, suc, ◌≡◌, ◌≢◌, ◌+◌, ◌-◌, ◌%◌, ◌<◌, ◌≤◌, ◌⊎◌, ◌++◌, ◌∷◌, [], inl, inr, List, length, take}
use Rattle.std.proofs.Common.{arith, refl, sym, ap, subst, ◌∙◌}
use Rattle.std.specs.Bool.{OnFalse, OnTrue}
use Rattle.std.specs.Prelude.{nat_le, slice_index_or}
use Rattle.std.specs.List.{Contains}
use Rattle.std.proofs.lemmas.Bool.{cases_lt, le-leb, lt-leb}
use Rattle.std.proofs.lemmas.List.{get_or_default, length-take-le, same_lists, take-take, take_all, take_at}
use Rattle.raster.specs.declared.row.Color.{Color}
use Rattle.raster.specs.declared.row.Color.TheVariants.{White, Black}
use Rattle.raster.specs.Changes.{AppendsChanges, AreChanges, color_at, color_before, turning}
use Rattle.raster.specs.Pixels.{IsWidth, other}
use Rattle.raster.proofs.RowLemmas.{other_from_ne}
use Rattle.raster.proofs.TurningLemmas.{changes-turning, length-turning}
use Rattle.page_code.specs.declared.t6.front.Front.{Front}
use Rattle.page_code.specs.TwoDimensions.Changes.{AreHeld}
use Rattle.page_code.specs.TwoDimensions.Lines.{AreApart, AreLeftOf, EndsWith, FitsLists}
use Rattle.page_code.proofs.TwoDimensions.Lines.{apart_held, ends_held, few_left}

-- ---- a row from its changing elements

differ_or_not : (a b : Color) → (a ≡ b) ⊎ (a ≢ b)
differ_or_not White White = inl refl
differ_or_not White Black = inr (λ e. cc)
differ_or_not Black White = inr (λ e. cc)
differ_or_not Black Black = inl refl

-- where the color doesn't change there is no changing element
none_at : (row : List Color) (places : List ℕ) (k : ℕ) → AreChanges row places → Contains places k → color_at row k ≡ color_before row k → ⊥
none_at row places k all there same =
    let here : slice_index_or places there.0 0 ≡ k = sym (get_or_default places there.0 k 0 there.1) ∙ there.2 in
    subst (λ (p : ℕ). color_at row p ≢ color_before row p) here (all.changing there.0 there.1).1 same

same_at : (a b : List Color) (places : List ℕ) (k : ℕ) → AreChanges a places → AreChanges b places → length a ≡ length b → k < length a
    → color_before a k ≡ color_before b k → color_at a k ≡ color_at b k
same_at a b places k of_a of_b long h before = elim (differ_or_not (color_at a k) (color_before a k)) [
  | inl same ↦
      elim (differ_or_not (color_at b k) (color_before b k)) [
        | inl also ↦ same ∙ (before ∙ sym also)
        | inr other_one ↦ absurd (none_at a places k of_a (of_b.all k (omega (arith, long, h), other_one)) same)
      ]
  | inr differs ↦
      elim (differ_or_not (color_at b k) (color_before b k)) [
        | inl also ↦ absurd (none_at b places k of_b (of_a.all k (h, differs)) also)
        | inr other_one ↦
            other_from_ne (color_at a k) (color_before a k) differs ∙ (ap other before ∙
            sym (other_from_ne (color_at b k) (color_before b k) other_one))
      ]
]

same_colors : (a b : List Color) (places : List ℕ) (k : ℕ) → AreChanges a places → AreChanges b places → length a ≡ length b
    → k < length a → color_at a k ≡ color_at b k
same_colors a b places zero of_a of_b long h = same_at a b places zero of_a of_b long h refl
same_colors a b places (suc k) of_a of_b long h =
    same_at a b places (suc k) of_a of_b long h (same_colors a b places k of_a of_b long (omega arith))

-- a row is the one that turns at its changing elements
pub turning_changes : (row : List Color) (places : List ℕ) → AreLeftOf places (length row) → AreChanges row places
    → turning White 0 places (length row) ≡ row
turning_changes row places left all =
    let other_row = turning White 0 places (length row) in
    let of_other = changes-turning places (length row) left.rising left.below in
    let long : length other_row ≡ length row = length-turning places (length row) left.rising (λ k d h.
    let less = left.below k d h in omega arith) in
    same_lists other_row row long (λ k d h. get_or_default other_row k d White h ∙
    (same_colors other_row row places k of_other all long h ∙ sym (get_or_default row k d White (omega (arith, long)))))

pub left_changes : (row : List Color) (places : List ℕ) → AreChanges row places → AreLeftOf places (length row)
left_changes row places all = record {
  rising = all.rising;
  below = λ k d h. omega (arith, get_or_default places k d 0 h, (all.changing k h).0);
}

pub listed_row : (row : List Color) (old new : List ℕ) → old ≡ [] → AppendsChanges row old new → AreChanges row new
listed_row row old new none appends =
    subst (AreChanges row) (sym (appends.1 ∙ ap (λ (l : List ℕ). l ++ appends.0) none)) appends.2

-- ---- lists of lines

-- the front of a list that was made longer
pub front_kept : (items longer pad : List ℕ) (count n : ℕ) → longer ≡ take n items ++ pad → length items ≤ n → count ≡ length items
    → take count longer ≡ items
front_kept items longer pad count n is few count_is =
    ap (take count) (is ∙ ap (λ (l : List ℕ). l ++ pad) (take_all n items few)) ∙ take_at items pad count (sym count_is)

-- of a list that begins with a row's places and the width three times
pub places_held : (list : List ℕ) (places : List ℕ) (width : ℕ)
    → take (length places + 3) list ≡ places ++ width ∷ width ∷ width ∷ [] → take (length places + 3 - 3) list ≡ places
places_held list places width ends =
    let back : length places + 3 - 3 ≡ length places = omega arith in
    rw back (sym (take-take (length places) (length places + 3) list (omega arith)) ∙ (ap (take (length places)) ends ∙
    take_at places (width ∷ width ∷ width ∷ []) (length places) refl))

pub held_whole : (list : List ℕ) (places : List ℕ) (width : ℕ) → AreLeftOf places width
    → take (length places + 3) list ≡ places ++ width ∷ width ∷ width ∷ []
    → AreHeld (turning White 0 (take (length places + 3 - 3) list) width) (take (length places + 3) list)
held_whole list places width left ends =
    let long : length (turning White 0 places width) ≡ width = length-turning places width left.rising (λ k d h.
    let less = left.below k d h in omega arith) in
    rw (places_held list places width ends, ends) (record {
      places = places;
      changes = changes-turning places width left.rising left.below;
      ends = rw long refl;
    })

pub held_after : (list : List ℕ) (places : List ℕ) (count width : ℕ) → length places ≡ count → AreLeftOf places width
    → take (count + 3) list ≡ places ++ width ∷ width ∷ width ∷ []
    → AreHeld (turning White 0 (take (count + 3 - 3) list) width) (take (count + 3) list)
    × (length (turning White 0 (take (count + 3 - 3) list) width) ≡ width)
    × (turning White 0 (take (count + 3 - 3) list) width ≡ turning White 0 places width)
held_after list places count width long left ends =
    let there : take (length places + 3) list ≡ places ++ width ∷ width ∷ width ∷ [] = rw long ends in
    let same : take (count + 3 - 3) list ≡ places = ap (λ (n : ℕ). take (n + 3 - 3) list) (sym long) ∙
    places_held list places width there in (
      subst (λ (n : ℕ). AreHeld (turning White 0 (take (n + 3 - 3) list) width) (take (n + 3) list)) long (held_whole list places width left
          there),
      rw same (length-turning places width left.rising (λ k d h. let less = left.below k d h in omega arith)),
      rw same refl,
    )

-- a front before the first pixel
pub begin_fits : (row : List Color) (held list : List ℕ) (width : ℕ) → IsWidth width → AreHeld row held → length row ≡ width
    → width + 4 ≤ length list → FitsLists held list width (record { from = 0; at = 0; turns = 0 })
begin_fits row held list width wide is long room = record {
  wide = wide;
  ended = subst (EndsWith held) long (ends_held row held is);
  apart = subst (AreApart held) long (apart_held row held is);
  turns = omega arith;
  line = record {
    rising = λ i j before h. absurd (omega arith);
    below = λ k d h. absurd (omega arith);
  };
  room = room;
  low = omega arith;
  index = omega (arith, (ends_held row held is).some);
  sought = λ two. absurd (omega arith);
  even = omega arith;
}

-- a front after two runs
pub runs_fit : (held list next : List ℕ) (width : ℕ) (front after : Front) (a0a1 a1a2 : ℕ) → FitsLists held list width front
    → length next ≡ length list → AreLeftOf (take after.turns next) after.from → after.from ≡ front.from - 1 + a0a1 + a1a2 + 1
    → after.from ≤ width + 1 → after.at ≡ front.at → (after.turns + front.turns) % 2 ≡ 0 → after.turns ≤ front.turns + 2
    → FitsLists held next width after
runs_fit held list next width front after a0a1 a1a2 fits same left from low at even most =
    let few = few_left (take front.turns list) front.from fits.line in
    let count = length-take-le front.turns list fits.turns in
    record {
      wide = fits.wide;
      ended = fits.ended;
      apart = fits.apart;
      turns = omega (arith, same, few, count, fits.room, fits.low, most);
      line = left;
      room = omega (arith, same, fits.room);
      low = low;
      index = rw at fits.index;
      sought = rw at (λ two. let before = fits.sought two in omega (arith, before, from));
      even = omega (arith, at, even, fits.even);
    }

-- ---- whether a line is short

pub short_yes : (from width pixels all : ℕ) → pixels ≡ from - 1 → all ≡ width → 0 < width → OnTrue (nat_le from width) (pixels < all)
short_yes from width pixels all is whole some = elim (cases_lt width from) [
  | inl more ↦ rw (lt-leb from width more) tt
  | inr less ↦ rw (le-leb from width less) (omega arith)
]

pub short_no : (from width pixels all : ℕ) → pixels ≡ from - 1 → all ≡ width → from ≤ width + 1 → OnFalse (nat_le from width) (pixels ≡ all)
short_no from width pixels all is whole most = elim (cases_lt width from) [
  | inl more ↦ rw (lt-leb from width more) (omega arith)
  | inr less ↦ rw (le-leb from width less) tt
]
