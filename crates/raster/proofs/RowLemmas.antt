-- Rows of runs, and their changing positions.
use Rattle.std.proofs.Common.{map, Bool, true, false, ◌≡◌, ℕ, ◌+◌, ◌<◌, List, [], ◌∷◌, ◌++◌, length, replicate, sum, refl, sym, ap, ◌∙◌}
use Rattle.std.proofs.Common.{arith, length-append, append_assoc, take, slice_get, Some, ◌≢◌, drop, add-one}
use Rattle.std.specs.Prelude.{All, not}
use Rattle.std.proofs.Common.{◌-◌, ◌≤◌, inl, inr, zero, suc}
use Rattle.std.proofs.lemmas.Bool.{cases_lt}
use Rattle.raster.specs.Words.{IsFirstOtherBit, EndsRun}
use Rattle.raster.specs.Changes.{color_at, color_before, IsChanging, IsNextChange}
use Rattle.std.proofs.lemmas.List.{length-map, map-append, length-replicate, take_more, replicate_more, append-nil}
use Rattle.std.proofs.lemmas.Option.{get_or_from_slice_get, slice_get-map}
use Rattle.std.specs.Option.{option_map}
use Rattle.std.proofs.lemmas.List.Elements.{All-push}
use Rattle.std.proofs.lemmas.Bool.{false≢true}
use Rattle.std.proofs.lemmas.Grind.{common_steps}
use Rattle.raster.specs.declared.row.Color.{Color}
use Rattle.raster.specs.declared.row.Color.TheVariants.{White, Black}
use Rattle.raster.specs.Runs.{colored}
use Rattle.raster.specs.Pixels.{other, color_of, colors}

pub length-colored : (color : Color) (runs : List ℕ) → length (colored color runs) ≡ sum runs
length-colored color [] = refl
length-colored color (run ∷ runs) =
    simp (length-append, length-replicate) (grind (arith, common_steps, length-colored (other color) runs))

pub length-colors : (bits : List Bool) → length (colors bits) ≡ length bits
unfolding colors
length-colors bits = length-map bits color_of

pub colors-none : colors [] ≡ []
unfolding colors
colors-none = refl

pub slice_get-colors : (bits : List Bool) (k : ℕ) (bit : Bool) → slice_get bits k ≡ Some bit
    → slice_get (colors bits) k ≡ Some (color_of bit)
unfolding colors
slice_get-colors bits k bit e = slice_get-map color_of bits k ∙ ap (option_map color_of) e

-- bits that are all alike are pixels that are
pub colors_run : (bits : List Bool) (n : ℕ) (bit : Bool) (color : Color) → color_of bit ≡ color
    → colors (bits ++ replicate n bit) ≡ colors bits ++ replicate n color
unfolding colors
colors_run bits n bit color same = map-append color_of bits (replicate n bit) ∙ ap (λ (xs : List Color). map color_of bits ++ xs) (alike n)
  where
    alike : (m : ℕ) → map color_of (replicate m bit) ≡ replicate m color
    alike zero = refl
    alike (suc m) = ap (λ (c : Color). c ∷ map color_of (replicate m bit)) same ∙ ap (λ (xs : List Color). color ∷ xs) (alike m)

pub sum_more : (x : ℕ) (xs : List ℕ) → sum (x ∷ xs) ≡ x + sum xs
sum_more x xs = grind (arith, common_steps)

pub color_of-is : (color : Color) (bit : Bool) → (bit ≡ true → color ≡ Black) × (color ≡ Black → bit ≡ true) → color_of bit ≡ color
color_of-is White true is = sym (is.0 refl)
color_of-is Black true is = refl
color_of-is White false is = refl
color_of-is Black false is = absurd (false≢true (is.1 refl))

pub ruleset lengths = (length-colored, length-colors, colors-none)

pub other_from_ne : (a b : Color) → (a ≡ b → ⊥) → a ≡ other b
other_from_ne White White h = absurd (h refl)
other_from_ne White Black h = refl
other_from_ne Black White h = refl
other_from_ne Black Black h = absurd (h refl)

pub take_next : (row : List Color) (at : ℕ) (color : Color) → at < length row → slice_get row at ≡ Some color
    → take (at + 1) row ≡ take at row ++ color ∷ []
take_next row at color h e = take_more row at color h ∙ ap (λ c. take at row ++ c ∷ []) (get_or_from_slice_get row at color color e)

-- the colors of what follows
abbrev pub Follows : List ℕ → Color → Type 0
Follows runs color = (tail : List ℕ) → colored White (runs ++ tail) ≡ colored White runs ++ colored color tail

pub colored_push : (runs : List ℕ) (run : ℕ) (color : Color) → Follows runs color → colored White (runs ++ run ∷ []) ≡ colored White runs ++
    replicate run color
colored_push runs run color follows = follows (run ∷ []) ∙ ap (λ xs. colored White runs ++ xs) (append-nil (replicate run color))

pub follows_push : (runs : List ℕ) (run : ℕ) (color : Color) → Follows runs color → Follows (runs ++ run ∷ []) (other color)
follows_push runs run color follows tail =
    ap (colored White) (append_assoc runs (run ∷ []) tail) ∙
    (follows (run ∷ tail) ∙
    (sym (append_assoc (colored White runs) (replicate run color) (colored (other color) tail)) ∙
    ap (λ xs. xs ++ colored (other color) tail) (sym (colored_push runs run color follows))))

pub later_push : (runs : List ℕ) (run : ℕ) → (runs ≢ [] → 0 < run) → All (λ n. 0 < n) (drop 1 runs)
    → All (λ n. 0 < n) (drop 1 (runs ++ run ∷ []))
later_push [] run positive all = λ k d h. absurd (omega arith)
later_push (x ∷ runs) run positive all = All-push (λ n. 0 < n) runs run all (positive (λ e. cc))

pub color_at_get : (row : List Color) (at : ℕ) (color : Color) → slice_get row at ≡ Some color → color ≡ color_at row at
color_at_get row at color e = sym (get_or_from_slice_get row at color White e)

pub before_next : (row : List Color) (at : ℕ) (color : Color) → slice_get row at ≡ Some color → color ≡ color_before row (at + 1)
before_next row at color e = rw add-one (color_at_get row at color e)

pub not_changing : (row : List Color) (at : ℕ) (color : Color) → slice_get row at ≡ Some color → color ≡ color_before row at
    → IsChanging row at → ⊥
not_changing row at color e same changing = changing.1 (sym (color_at_get row at color e) ∙ same)

-- ---- the next change

before_at : (bits : List Bool) (from place k : ℕ) (bit : Bool) → color_before (colors bits) from ≡ color_of bit
    → IsFirstOtherBit bits from bit place → from ≤ k → k ≤ place → color_of bit ≡ color_before (colors bits) k
before_at bits from place k bit begins first low high =
    elim (cases_lt from k) [
      | inl later ↦
          let back : k - 1 + 1 ≡ k = omega arith in
          before_next (colors bits) (k - 1) (color_of bit) (slice_get-colors bits (k - 1) bit (first.before (k - 1) (omega arith) (omega
          arith))) ∙ ap (color_before (colors bits)) back
      | inr here ↦
          let same : from ≡ k = omega arith in
          sym begins ∙ ap (color_before (colors bits)) same
    ]

differs : (bit : Bool) → color_of (not bit) ≡ color_of bit → ⊥
differs true e = cc
differs false e = cc

changes : (bits : List Bool) (from place : ℕ) (bit : Bool) → color_before (colors bits) from ≡ color_of bit
    → IsFirstOtherBit bits from bit place → place < length bits → place < length (colors bits) → IsChanging (colors bits) place
changes bits from place bit begins first within inside = (
  inside,
  λ e. differs bit (color_at_get (colors bits) place (color_of (not bit)) (slice_get-colors bits place (not bit) (first.hit
      within)) ∙ (e ∙ sym (before_at bits from place place bit begins first first.low (omega arith)))),
)

pub next_from : (bits : List Bool) (from place : ℕ) (bit : Bool) → color_before (colors bits) from ≡ color_of bit
    → IsFirstOtherBit bits from bit place → IsNextChange (colors bits) from place
next_from bits from place bit begins first = record {
  bound = rw length-colors first.high;
  changing = λ h.
      let within : place < length bits = omega (arith, h, length-colors bits) in
      (first.low, changes bits from place bit begins first within h);
  least = λ k low h changing. not_changing (colors bits) k (color_of bit) (slice_get-colors bits k bit (first.before k low h)) (before_at
      bits from place k bit begins first low (omega arith)) changing;
}

-- ---- the end of a run

other_of : (bit : Bool) → color_of (not bit) ≡ other (color_of bit)
other_of true = refl
other_of false = refl

ends_run_of : (bits : List Bool) (from place : ℕ) (bit : Bool) → IsFirstOtherBit bits from bit place
    → EndsRun (colors bits) from (color_of bit) place
ends_run_of bits from place bit first = record {
  low = first.low;
  high = rw length-colors first.high;
  before = λ k low h. slice_get-colors bits k bit (first.before k low h);
  hit = λ h. let within : place < length bits = omega (arith, h, length-colors bits) in slice_get-colors bits place (not bit) (first.hit
      within) ∙ ap (λ (c : Color). Some c) (other_of bit);
}

pub ends_run : (bits : List Bool) (row : List Color) (from place : ℕ) (bit : Bool) (color : Color) → colors bits ≡ row
    → color_of bit ≡ color → IsFirstOtherBit bits from bit place → EndsRun row from color place
ends_run bits row from place bit color is same first = rw (← is, ← same) (ends_run_of bits from place bit first)

pub take_run : (row : List Color) (at n : ℕ) (color : Color) → at + n ≤ length row → ((k : ℕ) → at ≤ k → k < at + n
    → slice_get row k ≡ Some color) → take (at + n) row ≡ take at row ++ replicate n color
take_run row at zero color h all =
    let e : at + 0 ≡ at = omega arith in
    rw (e, append-nil) refl
take_run row at (suc n) color h all =
    let e : at + suc n ≡ (at + n) + 1 = omega arith in
    let f : n + 1 ≡ suc n = omega arith in
    rw e (take_next row (at + n) color (omega arith) (all (at + n) (omega arith) (omega arith)) ∙
    (ap (λ (xs : List Color). xs ++ color ∷ []) (take_run row at n color (omega arith) (λ k low lt. all k low (omega arith))) ∙
    (append_assoc (take at row) (replicate n color) (color ∷ []) ∙ (ap (λ (xs : List Color). take at row ++ xs) (replicate_more n color)
    ∙ ap (λ m. take at row ++ replicate m color) f))))

-- one run more, up to its end
pub spelled_run : (row : List Color) (at end : ℕ) (runs : List ℕ) (color : Color) → EndsRun row at color end → Follows runs color
    → colored White runs ≡ take at row → colored White (runs ++ (end - at) ∷ []) ≡ take end row
spelled_run row at end runs color ends follows spelled =
    let e : at + (end - at) ≡ end = omega (arith, ends.low) in
    colored_push runs (end - at) color follows ∙
    (ap (λ (xs : List Color). xs ++ replicate (end - at) color) spelled ∙
    (sym (take_run row at (end - at) color (omega (arith, ends.low, ends.high)) (λ k low h. ends.before k low (omega (arith, ends.low))))
    ∙ ap (λ m. take m row) e))

other-other : (color : Color) → other color ≡ color → ⊥
other-other White e = cc
other-other Black e = cc

-- a run that begins with its color is not empty
pub run_goes_on : (row : List Color) (at end : ℕ) (color : Color) → at < length row → slice_get row at ≡ Some color
    → EndsRun row at color end → at < end
run_goes_on row at end color h begins ends =
    elim (cases_lt at end) [
      | inl lt ↦ lt
      | inr le ↦
          let same : end ≡ at = omega (arith, ends.low) in
          let hit : slice_get row end ≡ Some (other color) = ends.hit (omega arith) in
          absurd (other-other color (same_some (other color) color (sym hit ∙ (ap (slice_get row) same ∙ begins))))
    ]
  where
    same_some : (a b : Color) → Some a ≡ Some b → a ≡ b
    same_some a b e = cc

-- the runs up to a place where the next, of this color, begins
pub record RunsTo (row : List Color) (runs : List ℕ) (at : ℕ) (color : Color) : Type 0 where
  pub follows : Follows runs color
  pub spelled : colored White runs ≡ take at row
  pub later : All (λ n. 0 < n) (drop 1 runs)
  pub some : runs ≢ []
  pub turned : at < length row → slice_get row at ≡ Some color
  pub within : at ≤ length row

follows_none : Follows [] White
follows_none tail = refl

pub runs_first : (row : List Color) (end : ℕ) → EndsRun row 0 White end → RunsTo row (end ∷ []) end Black
runs_first row end ends =
    let e : end - 0 ≡ end = omega arith in
    record {
      follows = follows_push [] end White follows_none;
      spelled = ap (λ n. colored White (n ∷ [])) (sym e) ∙ spelled_run row 0 end [] White ends follows_none refl;
      later = λ k d h. absurd (omega arith);
      some = λ e. cc;
      turned = ends.hit;
      within = ends.high;
    }

pub runs_more : (row : List Color) (runs : List ℕ) (at end : ℕ) (color : Color) → RunsTo row runs at color → at < length row
    → EndsRun row at color end → RunsTo row (runs ++ (end - at) ∷ []) end (other color)
runs_more row runs at end color to h ends =
    let positive : 0 < end - at = omega (arith, run_goes_on row at end color h (to.turned h) ends) in
    record {
      follows = follows_push runs (end - at) color to.follows;
      spelled = spelled_run row at end runs color ends to.follows to.spelled;
      later = later_push runs (end - at) (λ ne. positive) to.later;
      some = not_none runs (end - at);
      turned = ends.hit;
      within = ends.high;
    }
  where
    not_none : (xs : List ℕ) (x : ℕ) → xs ++ x ∷ [] ≢ []
    not_none [] x e = cc
    not_none (y ∷ ys) x e = cc
