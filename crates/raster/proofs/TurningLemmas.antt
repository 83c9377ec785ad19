-- Pixels whose color turns at places.
use Rattle.std.proofs.Common.{◌≡◌, ◌≢◌, ℕ, zero, suc, ◌+◌, ◌-◌, ◌<◌, ◌≤◌, List, [], ◌∷◌, ◌++◌, length, replicate, get_or}
use Rattle.std.proofs.Common.{refl, sym, ap, ◌∙◌, add-one, arith, inl, inr, append_assoc, length-append}
use Rattle.std.specs.Prelude.{All, nat_lt, if◌then◌else◌}
use Rattle.std.specs.List.{Contains}
use Rattle.std.proofs.lemmas.Bool.{cases_lt, lt-ltb, le-ltb}
use Rattle.std.proofs.lemmas.List.{append-nil, length-replicate, replicate-append-replicate, get_or-replicate, get_or_append_left}
use Rattle.std.proofs.lemmas.List.{get_or-append_right}
use Rattle.raster.specs.declared.row.Color.{Color}
use Rattle.raster.specs.declared.row.Color.TheVariants.{White, Black}
use Rattle.raster.specs.Changes.{AreChanges, IsRising, color_at, color_before, turned, turning}
use Rattle.raster.specs.Pixels.{other}

-- ---- rising places

-- places from one on, each above the one before, and none above an end
abbrev pub Climbs : ℕ → List ℕ → ℕ → Type 0
Climbs from [] end = from ≤ end
Climbs from (place ∷ places) end = (from ≤ place) × (place ≤ end) × IsRising (place ∷ places) × Climbs place places end

-- the places after the first
pub rising_rest : (place : ℕ) (places : List ℕ) → IsRising (place ∷ places) → IsRising places
rising_rest place places rising i j h within = rising (suc i) (suc j) (omega arith) (omega arith)

-- the places but the first few
pub all_rest : (P : ℕ → Type 0) (place : ℕ) (places : List ℕ) → All P (place ∷ places) → All P places
all_rest P place places all k d h = all (suc k) d (omega arith)

pub climbs : (from : ℕ) (places : List ℕ) (end : ℕ) → IsRising places → All (λ place. place ≤ end) places
    → ((k : ℕ) → k < length places → from ≤ get_or places k 0) → from ≤ end → Climbs from places end
climbs from [] end rising below above h = h
climbs from (place ∷ places) end rising below above h = (
  above 0 (omega arith),
  below 0 0 (omega arith),
  rising,
  climbs place places end (rising_rest place places rising) (all_rest (λ place. place ≤ end) place places below)
      (λ k lt. let up : place < get_or places k 0 = rising 0 (suc k) (omega arith) (omega arith) in omega arith) (below 0 0 (omega arith)),
)

-- what is said of places that rise from 0
pub climbs_from_0 : (places : List ℕ) (end : ℕ) → IsRising places → All (λ place. place ≤ end) places → Climbs 0 places end
climbs_from_0 places end rising below = climbs 0 places end rising below (λ k h. omega arith) (omega arith)

-- a place more
pub rising_push : (places : List ℕ) (at : ℕ) → IsRising places → All (λ place. place < at) places → IsRising (places ++ at ∷ [])
rising_push places at rising below i j lt within =
    let long : length (places ++ at ∷ []) ≡ length places + 1 = length-append places (at ∷ []) in
    let front : get_or (places ++ at ∷ []) i 0 ≡ get_or places i 0 = get_or_append_left places (at ∷ []) 0 i (omega (arith, long)) in
    elim (cases_lt j (length places)) [
      | inl h ↦ rw (front, get_or_append_left places (at ∷ []) 0 j h) (rising i j lt h)
      | inr h ↦
          let last : j ≡ length places = omega (arith, long) in
          let none : length places - length places ≡ 0 = omega arith in
          rw (front, last, get_or-append_right places (at ∷ []) (length places) (length places) 0 refl (omega arith), none)
          (below i 0 (omega arith))
    ]

-- the same of places that may be equal
abbrev pub Follows : ℕ → List ℕ → ℕ → Type 0
Follows from [] end = from ≤ end
Follows from (place ∷ places) end = (from ≤ place) × (place ≤ end) × Follows place places end

pub follows : (from : ℕ) (places : List ℕ) (end : ℕ) → Climbs from places end → Follows from places end
follows from [] end climb = climb
follows from (place ∷ places) end climb = (climb.0, climb.1, follows place places end climb.3)

-- ---- lengths and ends

pub turning_long : (color : Color) (from : ℕ) (places : List ℕ) (end : ℕ) → Follows from places end
    → length (turning color from places end) ≡ end - from
turning_long color from [] end after = length-replicate (end - from) color
turning_long color from (place ∷ places) end after =
    length-append (replicate (place - from) color) (turning (other color) place places end) ∙
    omega (arith, length-replicate (place - from) color, turning_long (other color) place places end after.2, after.0, after.1)

-- the pixels go up to the end
pub length-turning : (places : List ℕ) (end : ℕ) → IsRising places → All (λ place. place ≤ end) places
    → length (turning White 0 places end) ≡ end
length-turning places end rising below =
    let whole : end - 0 ≡ end = omega arith in
    turning_long White 0 places end (follows 0 places end (climbs_from_0 places end rising below)) ∙ whole

-- pixels with no turn at a later end: more of the last color
pub turning_extend : (color : Color) (from : ℕ) (places : List ℕ) (end more : ℕ) → from ≤ end → All (λ place. place ≤ end) places → end ≤ more
    → turning color from places more ≡ turning color from places end ++ replicate (more - end) (turned color places)
turning_extend color from [] end more low below later =
    let parts : (end - from) + (more - end) ≡ more - from = omega arith in
    ap (λ n. replicate n color) (sym parts) ∙ sym (replicate-append-replicate (end - from) (more - end) color)
turning_extend color from (place ∷ places) end more low below later =
    ap (λ (xs : List Color). replicate (place - from) color ++ xs)
    (turning_extend (other color) place places end more (below 0 0 (omega arith)) (all_rest (λ p. p ≤ end) place places below) later) ∙
    sym (append_assoc (replicate (place - from) color) (turning (other color) place places end)
    (replicate (more - end) (turned (other color) places)))

-- a turn at the end is no pixel yet
pub turning_turn : (color : Color) (from : ℕ) (places : List ℕ) (end : ℕ)
    → turning color from (places ++ end ∷ []) end ≡ turning color from places end
turning_turn color from [] end =
    let none : end - end ≡ 0 = omega arith in
    rw (none, append-nil) refl
turning_turn color from (place ∷ places) end =
    ap (λ (xs : List Color). replicate (place - from) color ++ xs) (turning_turn (other color) place places end)

-- the color after one turn more
pub turned_turn : (color : Color) (places : List ℕ) (at : ℕ) → turned color (places ++ at ∷ []) ≡ other (turned color places)
turned_turn color [] at = refl
turned_turn color (place ∷ places) at = turned_turn (other color) places at

-- ---- changing positions

-- the color at a place, of pixels that turn at these places
abbrev pub color_in : Color → List ℕ → ℕ → Color
color_in color [] k = color
color_in color (place ∷ places) k = if nat_lt k place then color else color_in (other color) places k

pub at_turning : (color : Color) (from : ℕ) (places : List ℕ) (end k : ℕ) → Follows from places end → from ≤ k → k < end
    → get_or (turning color from places end) (k - from) White ≡ color_in color places k
at_turning color from [] end k after low h = get_or-replicate (end - from) (k - from) color White (omega arith)
at_turning color from (place ∷ places) end k after low h = elim (cases_lt k place) [
  | inl lt ↦
      let long = length-replicate (place - from) color in
      rw (lt-ltb k place lt)
      (get_or_append_left (replicate (place - from) color) (turning (other color) place places end) White (k - from) (omega (arith, long)) ∙
      get_or-replicate (place - from) (k - from) color White (omega arith))
  | inr le ↦
      let long = length-replicate (place - from) color in
      let back : k - from - (place - from) ≡ k - place = omega (arith, after.0) in
      rw (le-ltb k place le)
      (get_or-append_right (replicate (place - from) color) (turning (other color) place places end) (place - from) (k - from) White long
      (omega arith) ∙ (ap (λ n. get_or (turning (other color) place places end) n White) back ∙
      at_turning (other color) place places end k after.2 le h))
]

-- the color before the first place
in_front : (color : Color) (place : ℕ) (places : List ℕ) (k : ℕ) → k < place → color_in color (place ∷ places) k ≡ color
in_front color place places k lt = rw (lt-ltb k place lt) refl

-- the color from the first place on is the one that the rest says
in_rest : (color : Color) (place : ℕ) (places : List ℕ) (k : ℕ) → place ≤ k
    → color_in color (place ∷ places) k ≡ color_in (other color) places k
in_rest color place places k le = rw (le-ltb k place le) refl

-- the color at the first place
at_first : (color : Color) (place : ℕ) (places : List ℕ) → IsRising (place ∷ places) → color_in color (place ∷ places) place ≡ other color
at_first color place [] rising = in_rest color place [] place (omega arith)
at_first color place (next ∷ places) rising =
    in_rest color place (next ∷ places) place (omega arith) ∙
    in_front (other color) next places place (rising 0 1 (omega arith) (omega arith))

other-differs : (color : Color) → other color ≢ color
other-differs White e = cc
other-differs Black e = cc

contains_more : (place : ℕ) (places : List ℕ) (k : ℕ) → Contains places k → Contains (place ∷ places) k
contains_more place places k (i, within, is) = (suc i, omega arith, is)

-- a place that is none of them has the color of the one before
no_turn : (color : Color) (from : ℕ) (places : List ℕ) (end k : ℕ) → Climbs from places end
    → color_in color places (k + 1) ≢ color_in color places k → Contains places (k + 1)
no_turn color from [] end k climb differs = absurd (differs refl)
no_turn color from (place ∷ places) end k climb differs = elim (cases_lt (k + 1) place) [
  | inl before ↦ absurd (differs (in_front color place places (k + 1) before ∙ sym (in_front color place places k (omega arith))))
  | inr le ↦
      elim (cases_lt k place) [
        | inl here ↦ let same : place ≡ k + 1 = omega arith in (0, omega arith, same)
        | inr after ↦
            contains_more place places (k + 1) (no_turn (other color) place places end k climb.3
            (λ e. differs (in_rest color place places (k + 1) le ∙ (e ∙ sym (in_rest color place places k after)))))
      ]
]

-- each of them has another color than the one before
turn_differs : (color : Color) (from : ℕ) (places : List ℕ) (end i k : ℕ) → Climbs from places end → i < length places
    → get_or places i 0 ≡ k + 1 → color_in color places (k + 1) ≢ color_in color places k
turn_differs color from [] end i k climb within is e = absurd (omega arith)
turn_differs color from (place ∷ places) end zero k climb within is e =
    other-differs color (sym (at_first color place places climb.2) ∙ (ap (color_in color (place ∷ places)) is ∙ (e ∙
    in_front color place places k (omega arith))))
turn_differs color from (place ∷ places) end (suc i) k climb within is e =
    let later : place < get_or places i 0 = climb.2 0 (suc i) (omega arith) (omega arith) in
    turn_differs (other color) place places end i k climb.3 (omega arith) is
    (sym (in_rest color place places (k + 1) (omega arith)) ∙ (e ∙ in_rest color place places k (omega arith)))

-- the first pixel is white, or the first place is 0
first_turn : (places : List ℕ) (end : ℕ) → Climbs 0 places end → color_in White places 0 ≢ White → Contains places 0
first_turn [] end climb differs = absurd (differs refl)
first_turn (place ∷ places) end climb differs = elim (cases_lt 0 place) [
  | inl some ↦ absurd (differs (in_front White place places 0 some))
  | inr none ↦ let same : place ≡ 0 = omega arith in (0, omega arith, same)
]

-- a place 0 is the first one, and the first pixel is black then
turned_first : (places : List ℕ) (end i : ℕ) → Climbs 0 places end → i < length places → get_or places i 0 ≡ 0
    → color_in White places 0 ≢ White
turned_first [] end i climb within is e = absurd (omega arith)
turned_first (place ∷ places) end zero climb within is e =
    other-differs White (sym (at_first White place places climb.2) ∙ (ap (color_in White (place ∷ places)) is ∙ e))
turned_first (place ∷ places) end (suc i) climb within is e = absurd (omega (arith, climb.2 0 (suc i) (omega arith) within))

color_at_turning : (places : List ℕ) (end k : ℕ) → Climbs 0 places end → k < end
    → color_at (turning White 0 places end) k ≡ color_in White places k
color_at_turning places end k climb h =
    let same : k - 0 ≡ k = omega arith in
    ap (λ n. get_or (turning White 0 places end) n White) (sym same) ∙ at_turning White 0 places end k (follows 0 places end climb) (omega arith) h

before_next : (row : List Color) (k : ℕ) → color_before row (k + 1) ≡ color_at row k
before_next row k = rw add-one refl

changing_at : (places : List ℕ) (end i k : ℕ) → Climbs 0 places end → i < length places → get_or places i 0 ≡ k → k < end
    → color_at (turning White 0 places end) k ≢ color_before (turning White 0 places end) k
changing_at places end i zero climb within is h e =
    turned_first places end i climb within is (sym (color_at_turning places end 0 climb h) ∙ e)
changing_at places end i (suc k) climb within is h e =
    let next : suc k ≡ k + 1 = omega arith in
    turn_differs White 0 places end i k climb within (is ∙ next)
    (ap (color_in White places) (sym next) ∙ (sym (color_at_turning places end (suc k) climb h) ∙ (e ∙
    color_at_turning places end k climb (omega arith))))

contained : (places : List ℕ) (end k : ℕ) → Climbs 0 places end → k < end
    → color_at (turning White 0 places end) k ≢ color_before (turning White 0 places end) k → Contains places k
contained places end zero climb h differs =
    first_turn places end climb (λ e. differs (color_at_turning places end 0 climb h ∙ e))
contained places end (suc k) climb h differs =
    let next : suc k ≡ k + 1 = omega arith in
    rw next (no_turn White 0 places end k climb
    (λ e. differs (color_at_turning places end (suc k) climb h ∙ (ap (color_in White places) next ∙ (e ∙
    sym (color_at_turning places end k climb (omega arith)))))))

-- the changing positions of the pixels are the places where they turn
pub changes-turning : (places : List ℕ) (width : ℕ) → IsRising places → All (λ place. place < width) places
    → AreChanges (turning White 0 places width) places
changes-turning places width rising below =
    let most : All (λ place. place ≤ width) places = λ k d h. let lt = below k d h in omega arith in
    let climb : Climbs 0 places width = climbs_from_0 places width rising most in
    let long : length (turning White 0 places width) ≡ width = length-turning places width rising most in
    record {
      rising = rising;
      changing = λ i h. (rw long (below i 0 h), changing_at places width i (get_or places i 0) climb h refl (below i 0 h));
      all = λ k changing. contained places width k climb (rw long at changing.0) changing.1;
    }
