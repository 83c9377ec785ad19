-- Writing of a row's own runs, each when its end, the next changing position, is found.
use Rattle.std.proofs.Common.{ℕ, ◌≡◌, ◌≢◌, ◌+◌, ◌-◌, ◌<◌, ◌≤◌, Bool, List, [], ◌∷◌, ◌++◌, length, refl, sym, ap, ◌∙◌, arith, append_assoc}
use Rattle.std.proofs.Common.{slice_get, Some, inl, inr}
use Rattle.std.proofs.lemmas.Bool.{cases_lt}
use Rattle.std.proofs.lemmas.List.{append-nil}
use Rattle.std.proofs.lemmas.Option.{slice_get-get_or}
use Rattle.std.proofs.Common.{zero, suc}
use Rattle.raster.specs.declared.row.Color.{Color}
use Rattle.raster.specs.declared.row.Color.TheVariants.{White, Black}
use Rattle.raster.specs.Changes.{color_at, color_before, AreChanges, IsNextChange}
use Rattle.std.specs.Prelude.{slice_index_or}
use Rattle.std.proofs.lemmas.List.{get_or_default, get_or_past}
use Rattle.raster.specs.Packed.{Bits}
use Rattle.raster.specs.Pixels.{other}
use Rattle.raster.specs.Words.{EndsRun}
use Rattle.raster.proofs.RowLemmas.{RunsTo, runs_first, runs_more, before_next, other_from_ne}
use Rattle.run_tables.specs.Codes.{run_words}
use Rattle.run_tables.specs.RunWords.{runs_words}
use Rattle.run_tables.specs.Written.{Appends, AppendsRow, KeepsBits}
use Rattle.std.proofs.Math.Seq.{take-length}
use Rattle.std.specs.Prelude.{take}

-- two colors that don't differ are one
same_or_not : (a b : Color) → ((a ≢ b) → ⊥) → a ≡ b
same_or_not White White h = refl
same_or_not White Black h = absurd (h (λ e. cc))
same_or_not Black White h = absurd (h (λ e. cc))
same_or_not Black Black h = refl

-- a pixel within the row
pixel_at : (row : List Color) (k : ℕ) (color : Color) → k < length row → color_at row k ≡ color → slice_get row k ≡ Some color
pixel_at row k color h e = slice_get-get_or row k White h ∙ ap (λ (c : Color). Some c) e

-- a pixel that is no changing one is as the one before
same_as_before : (row : List Color) (from end k : ℕ) (color : Color) → IsNextChange row from end → from ≤ k → k < end
    → color_before row k ≡ color → slice_get row k ≡ Some color
same_as_before row from end k color next low h before =
    let inside : k < length row = omega (arith, h, next.bound) in
    pixel_at row k color inside (same_or_not (color_at row k) (color_before row k) (λ ne. next.least k low h (inside, ne)) ∙ before)

-- up to the next changing position the pixels are all as the one before
pixels_same : (row : List Color) (from end : ℕ) (color : Color) → color_before row from ≡ color → IsNextChange row from end → (n : ℕ)
    → from + n < end → slice_get row (from + n) ≡ Some color
pixels_same row from end color begins next zero h =
    let e : from + 0 ≡ from = omega arith in
    rw e (same_as_before row from end from color next (omega arith) (omega (arith, h)) begins)
pixels_same row from end color begins next (suc n) h =
    let e : from + suc n ≡ from + n + 1 = omega arith in
    let last : slice_get row (from + n) ≡ Some color = pixels_same row from end color begins next n (omega (arith, h)) in
    rw e (same_as_before row from end (from + n + 1) color next (omega arith) (omega (arith, h)) (sym (before_next row (from
    + n) color last)))

-- the pixel before a place that all from another on are alike up to
before_end : (row : List Color) (from end : ℕ) (color : Color) → from ≤ end → color_before row from ≡ color → IsNextChange row from end
    → color_before row end ≡ color
before_end row from end color low begins next = elim (cases_lt from end) [
  | inl l ↦
      let e : from + (end - 1 - from) + 1 ≡ end = omega arith in
      ap (color_before row) (sym e) ∙ sym (before_next row (from + (end - 1 - from)) color (pixels_same row from end color begins next (end
      - 1 - from) (omega arith)))
  | inr g ↦
      let e : end ≡ from = omega arith in
      ap (color_before row) e ∙ begins
]

-- a run ends at the next changing position
run_ends : (row : List Color) (from end : ℕ) (color : Color) → from ≤ length row → color_before row from ≡ color
    → IsNextChange row from end → EndsRun row from color end
run_ends row from end color within begins next =
    let low : from ≤ end = elim (cases_lt end (length row)) [
      | inl l ↦ (next.changing l).0
      | inr g ↦ omega (arith, within)
    ] in
    record {
      low = low;
      high = next.bound;
      before = λ k under h.
          let e : from + (k - from) ≡ k = omega arith in
          ap (slice_get row) (sym e) ∙ pixels_same row from end color begins next (k - from) (omega arith);
      hit = λ h. pixel_at row end (other color) h (other_from_ne (color_at row end) color (λ e. (next.changing h).1.1 (e
          ∙ sym (before_end row from end color low begins next))));
    }

-- the run that begins at a place, from the next one on
run_from : (row : List Color) (at end : ℕ) (color : Color) → at < length row → slice_get row at ≡ Some color
    → IsNextChange row (at + 1) end → EndsRun row at color end
run_from row at end color h begins next =
    let ends : EndsRun row (at + 1) color end
    = run_ends row (at + 1) end color (omega (arith, h)) (sym (before_next row at color begins)) next in
    record {
      low = omega (arith, ends.low);
      high = ends.high;
      before = λ k low under. elim (cases_lt at k) [
        | inl l ↦ ends.before k (omega arith) under
        | inr g ↦
            let e : k ≡ at = omega arith in
            ap (slice_get row) e ∙ begins
      ];
      hit = ends.hit;
    }

-- in a list in rising order, what is after another index isn't less
not_less : (row : List Color) (places : List ℕ) (i j : ℕ) → AreChanges row places → i ≤ j → j < length places
    → slice_index_or places i 0 ≤ slice_index_or places j 0
not_less row places i j all up h = elim (cases_lt i j) [
  | inl l ↦ omega (arith, all.rising i j l h)
  | inr g ↦ let same : i ≡ j = omega arith in rw same (omega arith)
]

-- of a row's changing positions, the one at an index, or the row's end where there is none, is the first from a place on that is after
-- all those before the index
pub change_at : (row : List Color) (places : List ℕ) (from index place : ℕ) → AreChanges row places → index ≤ length places
    → ((i : ℕ) → i < index → slice_index_or places i 0 < from) → (index < length places → from ≤ slice_index_or places index 0)
    → place ≡ slice_index_or places index (length row) → IsNextChange row from place
change_at row places from index place all within left reached is = record {
  bound = elim (cases_lt index (length places)) [
    | inl l ↦ omega (arith, is, get_or_default places index (length row) 0 l, (all.changing index l).0)
    | inr g ↦ omega (arith, is, get_or_past places index (length row) g)
  ];
  changing = λ h. elim (cases_lt index (length places)) [
    | inl l ↦
        let here : place ≡ slice_index_or places index 0 = omega (arith, is, get_or_default places index (length row) 0 l) in
        rw here (reached l, all.changing index l)
    | inr g ↦ absurd (omega (arith, h, is, get_or_past places index (length row) g))
  ];
  least = λ k low below changing. none_before k low below (all.all k changing);
}
  where
    none_before : (k : ℕ) → from ≤ k → k < place → (i : ℕ) × (i < length places) × (slice_index_or places i k ≡ k) → ⊥
    none_before k low below there =
        let i = there.0 in
        let here : slice_index_or places i 0 ≡ k = omega (arith, there.2, get_or_default places i k 0 there.1) in
        elim (cases_lt i index) [
          | inl early ↦ omega (arith, here, low, left i early)
          | inr late ↦ omega (
            arith,
            here,
            below,
            is,
            not_less row places index i all late there.1,
            get_or_default places index (length row) 0 (omega (arith, late, there.1)),
          )
        ]

-- the first changing position, or the row's end
pub first_change : (row : List Color) (places : List ℕ) (place : ℕ) → AreChanges row places
    → place ≡ slice_index_or places 0 (length row) → IsNextChange row 0 place
first_change row places place all is =
    change_at row places 0 0 place all (omega arith) (λ i h. absurd (omega arith)) (λ h. omega arith) is

-- the one after another
pub change_after : (row : List Color) (places : List ℕ) (index at place : ℕ) → AreChanges row places → 0 < index
    → at ≡ slice_index_or places (index - 1) (length row) → at < length row → place ≡ slice_index_or places index (length row)
    → IsNextChange row (at + 1) place
change_after row places index at place all some before h is =
    let there : index - 1 < length places = elim (cases_lt (index - 1) (length places)) [
      | inl l ↦ l
      | inr g ↦ absurd (omega (arith, h, before, get_or_past places (index - 1) (length row) g))
    ] in
    let last : at ≡ slice_index_or places (index - 1) 0 = before ∙ get_or_default places (index - 1) (length row) 0 there in
    change_at row places (at + 1) index place all (omega (arith, some, there))
    (λ i early. omega (arith, last, not_less row places i (index - 1) all (omega (arith, early)) there))
    (λ l. omega (arith, last, all.rising (index - 1) index (omega (arith, some)) l)) is

-- the changing position at an index that isn't the first one, after the one before it
pub change_on : (row : List Color) (places : List ℕ) (width index at place : ℕ) → AreChanges row places → length row ≡ width → 0 < index
    → index < length places → at ≡ slice_index_or places (index - 1) width → place ≡ slice_index_or places index 0
    → (at < length row) × (at < place) × (place < length row) × IsNextChange row (at + 1) place
change_on row places width index at place all wide some h before is =
    let there : at ≡ slice_index_or places (index - 1) (length row) = before ∙ ap (λ (w : ℕ). slice_index_or places (index - 1) w) (sym wide) in
    let early : index - 1 < length places = omega (arith, some, h) in
    let last : at ≡ slice_index_or places (index - 1) 0 = there ∙ get_or_default places (index - 1) (length row) 0 early in
    let low : at < length row = omega (arith, last, (all.changing (index - 1) early).0) in (
      low,
      omega (arith, last, is, all.rising (index - 1) index (omega (arith, some)) h),
      omega (arith, is, (all.changing index h).0),
      change_after row places index at place all some there low (is ∙ sym (get_or_default places index (length row) 0 h)),
    )

-- after the last changing position the next one is the row's end
pub change_none : (row : List Color) (places : List ℕ) (width index at : ℕ) → AreChanges row places → length row ≡ width → 0 < index
    → length places ≤ index → at ≡ slice_index_or places (index - 1) width → at < width → IsNextChange row (at + 1) width
change_none row places width index at all wide some h before low =
    change_after row places index at width all some (before ∙ ap (λ (w : ℕ). slice_index_or places (index - 1) w) (sym wide))
    (omega (arith, low, wide)) (sym wide ∙ sym (get_or_past places index (length row) h))

pub is_after : (row : List Color) (at end : ℕ) → at < length row → IsNextChange row (at + 1) end → at < end
is_after row at end h next = elim (cases_lt end (length row)) [
  | inl l ↦ omega (arith, (next.changing l).0)
  | inr g ↦ omega (arith, h, g)
]

-- the color of the run that follows runs, by their code words
abbrev pub WordsFollow : List ℕ → Color → Type 0
WordsFollow runs color = (tail : List ℕ) → runs_words White (runs ++ tail) ≡ runs_words White runs ++ runs_words color tail

words_push : (runs : List ℕ) (run : ℕ) (color : Color) → WordsFollow runs color
    → runs_words White (runs ++ run ∷ []) ≡ runs_words White runs ++ run_words color run
words_push runs run color follows = follows (run ∷ []) ∙ ap (λ (x : List Bool). runs_words White runs ++ x) (append-nil (run_words color
    run))

follow_push : (runs : List ℕ) (run : ℕ) (color : Color) → WordsFollow runs color → WordsFollow (runs ++ run ∷ []) (other color)
follow_push runs run color follows tail =
    ap (runs_words White) (append_assoc runs (run ∷ []) tail) ∙
    (follows (run ∷ tail) ∙
    (sym (append_assoc (runs_words White runs) (run_words color run) (runs_words (other color) tail)) ∙
    ap (λ (x : List Bool). x ++ runs_words (other color) tail) (sym (words_push runs run color follows))))

-- the code words of the row's own runs up to a place, where the next, of this color, begins, were appended
pub record WritesTo (row : List Color) (old now : Bits) (at : ℕ) (color : Color) : Type 0 where
  pub runs : List ℕ
  pub to : RunsTo row runs at color
  pub follow : WordsFollow runs color
  pub wrote : Appends (runs_words White runs) old now

pub first_written : (row : List Color) (old now : Bits) (end : ℕ) → IsNextChange row 0 end → Appends (run_words White end) old now
    → WritesTo row old now end Black
first_written row old now end next wrote = record {
  runs = end ∷ [];
  to = runs_first row end (run_ends row 0 end White (omega arith) refl next);
  follow = follow_push [] end White (λ tail. refl);
  wrote = wrote ∙ ap (λ (x : List Bool). record old { bits = old.bits ++ x }) (sym (append-nil (run_words White end)));
}

pub next_written : (row : List Color) (old mid now : Bits) (at end : ℕ) (color : Color) → WritesTo row old mid at color → at < length row
    → IsNextChange row (at + 1) end → Appends (run_words color (end - at)) mid now → WritesTo row old now end (other color)
next_written row old mid now at end color so_far h next wrote = record {
  runs = so_far.runs ++ (end - at) ∷ [];
  to = runs_more row so_far.runs at end color so_far.to h (run_from row at end color h (so_far.to.turned h) next);
  follow = follow_push so_far.runs (end - at) color so_far.follow;
  wrote = wrote ∙
      (ap (λ (b : Bits). record b { bits = b.bits ++ run_words color (end - at) }) so_far.wrote ∙
      ap (λ (x : List Bool). record old { bits = x }) (append_assoc old.bits (runs_words White so_far.runs) (run_words color (end - at)) ∙
      ap (λ (x : List Bool). old.bits ++ x) (sym (words_push so_far.runs (end - at) color so_far.follow))));
}

-- all of the row's own runs are written
pub all_written : (row : List Color) (old now : Bits) (at : ℕ) (color : Color) → WritesTo row old now at color → at ≡ length row
    → AppendsRow row old now
all_written row old now at color done full = (
  done.runs,
  record {
    spelled = sym (done.to.spelled ∙ (ap (λ (n : ℕ). take n row) full ∙ take-length row));
    later = done.to.later;
  },
  done.wrote,
)

-- a list has the same at an index whatever stands for none
pub same_at : (places : List ℕ) (i j default : ℕ) → i < length places → i ≡ j → slice_index_or places i 0 ≡ slice_index_or places j default
same_at places i j default h e =
    sym (get_or_default places i default 0 h) ∙ ap (λ (n : ℕ). slice_index_or places n default) e

pub keeps_on : (old mid now : Bits) (bits : List Bool) → KeepsBits old mid → Appends bits mid now → KeepsBits old now
keeps_on old mid now bits kept wrote = (
  kept.0 ++ bits,
  wrote ∙ (ap (λ (b : Bits). record b { bits = b.bits ++ bits }) kept.1
      ∙ ap (λ (x : List Bool). record old { bits = x }) (append_assoc old.bits kept.0 bits)),
)

-- one more run is written, up to the changing position at an index
pub written_on : (row : List Color) (places : List ℕ) (width index at place : ℕ) (old mid now : Bits) (color : Color)
    → WritesTo row old mid at color → AreChanges row places → length row ≡ width → 0 < index → index < length places
    → at ≡ slice_index_or places (index - 1) width → place ≡ slice_index_or places index 0
    → Appends (run_words color (place - at)) mid now → WritesTo row old now place (other color)
written_on row places width index at place old mid now color done all wide some h before is wrote =
    let step = change_on row places width index at place all wide some h before is in
    next_written row old mid now at place color done step.0 step.3 wrote

-- two texts are written at once: the second one after the first
pub both_written : (old now : Bits) (first second : List Bool) → Appends (first ++ second) old now
    → Appends second (record old { bits = old.bits ++ first }) now
both_written old now first second wrote =
    wrote ∙ ap (λ (x : List Bool). record old { bits = x }) (sym (append_assoc old.bits first second))

-- the last run is written, after the last changing position
pub last_written : (row : List Color) (places : List ℕ) (width index at : ℕ) (old mid now : Bits) (color : Color)
    → WritesTo row old mid at color → AreChanges row places → length row ≡ width → 0 < index → length places ≤ index
    → at ≡ slice_index_or places (index - 1) width → at < width → Appends (run_words color (width - at)) mid now → AppendsRow row old now
last_written row places width index at old mid now color done all wide some h before low wrote =
    all_written row old now width (other color) (next_written row old mid now at width color done (omega (arith, low, wide))
    (change_none row places width index at all wide some h before low) wrote) (sym wide)
