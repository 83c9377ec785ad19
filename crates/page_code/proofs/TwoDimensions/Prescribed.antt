-- The prescribed modes of a row spell it, so the code of a page reads as the page (ITU-T T.6, 2.2.3).
use Rattle.std.proofs.Common.{ltb, ℕ, zero, suc, ◌≡◌, ◌+◌, ◌-◌, ◌<◌, ◌≤◌, inl, inr, Bool, true, false, List, [], ◌∷◌, ◌++◌, length, take}
use Rattle.std.proofs.Common.{replicate, get_or, Some, None, refl, ap, subst, sym, ◌∙◌, arith, cond, nat_eq, length-append, append_assoc}
use Rattle.std.proofs.Common.{add-one, add-zero}
use Rattle.std.specs.Prelude.{Option}
use Rattle.std.specs.List.{AllByRecursion}
use Rattle.std.proofs.lemmas.Bool.{ltb-true, eqb-true, eqb-false, cases_eq, cases_lt}
use Rattle.std.proofs.lemmas.List.{length-replicate, length-take-le, take_more, replicate_more, append-nil, take_all}
use Rattle.raster.specs.declared.row.Color.{Color}
use Rattle.raster.specs.declared.row.Color.TheVariants.{White, Black}
use Rattle.raster.specs.Pixels.{other}
use Rattle.raster.specs.Changes.{color_at, color_before, IsChanging, IsNextChange}
use Rattle.page_code.specs.TwoDimensions.Positions.{CodingLine, line_begin, white_line, right_of_a0, filled_to, IsB1, IsB2, b1_of, b2_of}
use Rattle.page_code.specs.declared.t6.mode.Shift.{Shift}
use Rattle.page_code.specs.TwoDimensions.Modes.{to_right, to_left, eofb, Mode, mode_words, IsStep, SpellsLine, SpellsRow, SpellsRows}
use Rattle.page_code.specs.TwoDimensions.Modes.{ReadsAsPage}
use Rattle.page_code.specs.TwoDimensions.Modes.Mode.{pass, vertical, horizontal}
use Rattle.page_code.specs.TwoDimensions.Code.{verticals, vertical_to, vertical_or, a1_of, a2_of, prescribed, moved, line_code, row_code}
use Rattle.page_code.specs.TwoDimensions.Code.{rows_code, page_code}
use Rattle.page_code.specs.TwoDimensions.Laws.{RoundTrip}
use Rattle.page_code.specs.TwoDimensions.Writing.{IsUpTo}
use Rattle.page_code.proofs.TwoDimensions.Positions.{b1_found, b2_found, change_found, other_than, same_unless}
use Rattle.page_code.proofs.TwoDimensions.ReadsAll.{reads_all}

-- Colors along a row

pub other_twice : (c : Color) → other (other c) ≡ c
other_twice White = refl
other_twice Black = refl

pub before_next : (row : List Color) (k : ℕ) → color_before row (k + 1) ≡ color_at row k
before_next row k = rw add-one refl

-- a place that isn't changing has the color before it
pub stays : (row : List Color) (k : ℕ) → k < length row → (IsChanging row k → ⊥) → color_at row k ≡ color_before row k
stays row k within none = same_unless (color_at row k) (color_before row k) (λ ne. none (within, ne))

-- where nothing changes the color stays
stretch : (row : List Color) (from to : ℕ) (c : Color) → to ≤ length row → ((k : ℕ) → from ≤ k → k < to → IsChanging row k → ⊥)
    → color_before row from ≡ c → (d : ℕ) → from + d < to → color_at row (from + d) ≡ c
stretch row from to c within none before zero h =
    let start : from + 0 ≡ from = omega arith in
    rw start (stays row from (omega arith) (none from (omega arith) (omega arith)) ∙ before)
stretch row from to c within none before (suc d) h =
    let next : from + suc d ≡ (from + d) + 1 = omega arith in
    let last : color_at row (from + d) ≡ c = stretch row from to c within none before d (omega arith) in
    rw next (stays row ((from + d) + 1) (omega arith) (none ((from + d) + 1) (omega arith) (omega arith)) ∙ (before_next row (from + d) ∙
    last))

pub stretch_at : (row : List Color) (from to : ℕ) (c : Color) → to ≤ length row → ((k : ℕ) → from ≤ k → k < to → IsChanging row k → ⊥)
    → color_before row from ≡ c → (k : ℕ) → from ≤ k → k < to → color_at row k ≡ c
stretch_at row from to c within none before k low high =
    let place : from + (k - from) ≡ k = omega arith in
    rw place at (stretch row from to c within none before (k - from) (omega arith))

-- before the place where it changes is the same color still
pub before_to : (row : List Color) (from to : ℕ) (c : Color) → to ≤ length row → ((k : ℕ) → from ≤ k → k < to → IsChanging row k → ⊥)
    → color_before row from ≡ c → from ≤ to → color_before row to ≡ c
before_to row from to c within none before h = elim (cases_eq from to) [
  | inl e ↦ rw (← e) before
  | inr ne ↦
      let next : to ≡ (to - 1) + 1 = omega arith in
      let last : color_at row (to - 1) ≡ c = stretch_at row from to c within none before (to - 1) (omega arith) (omega arith) in
      ap (color_before row) next ∙ (before_next row (to - 1) ∙ last)
]

-- pixels of one color are a run
run_from : (row : List Color) (s d : ℕ) (c : Color) → s + d ≤ length row → ((k : ℕ) → s ≤ k → k < s + d → color_at row k ≡ c)
    → take s row ++ replicate d c ≡ take (s + d) row
run_from row s zero c h all = append-nil (take s row) ∙ ap (λ n. take n row) (sym (add-zero s))
run_from row s (suc d) c h all =
    let next : s + suc d ≡ (s + d) + 1 = omega arith in
    let count : suc d ≡ d + 1 = omega arith in
    let before = run_from row s d c (omega arith) (λ k a b. all k a (omega arith)) in
    let pixel : get_or row (s + d) White ≡ c = all (s + d) (omega arith) (omega arith) in
    ap (λ n. take s row ++ replicate n c) count ∙
    (ap (λ l. take s row ++ l) (sym (replicate_more d c)) ∙
    (sym (append_assoc (take s row) (replicate d c) (c ∷ [])) ∙
    (ap (λ l. l ++ c ∷ []) before ∙
    (ap (λ x. take (s + d) row ++ x ∷ []) (sym pixel) ∙
    (sym (take_more row (s + d) White (omega arith)) ∙
    ap (λ n. take n row) (sym next))))))

run_to : (row : List Color) (s t : ℕ) (c : Color) → s ≤ t → t ≤ length row → ((k : ℕ) → s ≤ k → k < t → color_at row k ≡ c)
    → take s row ++ replicate (t - s) c ≡ take t row
run_to row s t c h l all =
    let place : s + (t - s) ≡ t = omega arith in
    rw place at (run_from row s (t - s) c (omega arith) (λ k a b. all k a (omega arith)))

-- Lines that are in a row

-- a place up to which the row was coded
reached : (row : List Color) (place : ℕ) (c : Color) → place ≤ length row → (place < length row → color_at row place ≡ c)
    → IsUpTo row (record { pixels = take place row; begun = true; color = c })
reached row place c h here =
    let count : length (take place row) ≡ place = length-take-le place row h in
    record {
      taken = rw count refl;
      within = omega arith;
      before = λ l. rw count (before_next row place ∙ here (omega arith));
    }

-- a mode that leads along the row
pub record Moves (reference row : List Color) (line : CodingLine) (mode : Mode) (next : CodingLine) : Type 0 where
  pub step : IsStep (length row) reference line mode next
  pub stands : IsUpTo row next
  pub on : right_of_a0 line < right_of_a0 next

module _ (reference row : List Color) (even : length reference ≡ length row) (line : CodingLine) (stands : IsUpTo row line) (short : length
    line.pixels < length row) (a1 : ℕ) (is_a1 : IsNextChange row (right_of_a0 line) a1) where
  from_a0 : length line.pixels ≤ right_of_a0 line × (right_of_a0 line ≤ length line.pixels + 1)
  from_a0 = seen line.begun
    where
      seen : (b : Bool) → length line.pixels ≤ length line.pixels + cond b 1 0 × (length line.pixels + cond b 1 0 ≤ length line.pixels + 1)
      seen true = (omega arith, omega arith)
      seen false = (omega arith, omega arith)

  a1_right : right_of_a0 line ≤ a1
  a1_right = elim (cases_eq a1 (length row)) [
    | inl e ↦ omega (arith, from_a0.1)
    | inr ne ↦ (is_a1.changing (omega (arith, is_a1.bound))).0
  ]

  color_to_a1 : (k : ℕ) → length line.pixels ≤ k → k < a1 → color_at row k ≡ line.color
  color_to_a1 k low high = elim (cases_lt k (right_of_a0 line)) [
    | inl l ↦
        let next : right_of_a0 line ≡ k + 1 = omega (arith, from_a0.1) in
        sym (before_next row k) ∙ (ap (color_before row) (sym next) ∙ stands.before short)
    | inr g ↦ stretch_at row (right_of_a0 line) a1 line.color is_a1.bound is_a1.least (stands.before short) k g high
  ]

  -- the row up to a place that is no later than a1
  filled : (t : ℕ) → length line.pixels ≤ t → t ≤ a1 → filled_to line t ≡ take t row
  filled t low high =
      let within : t ≤ length row = omega (arith, is_a1.bound) in
      ap (λ l. l ++ replicate (t - length line.pixels) line.color) stands.taken ∙
      run_to row (length line.pixels) t line.color low within (λ k a b. color_to_a1 k a (omega arith))

  -- at a1 is the other color
  color_at_a1 : a1 < length row → color_at row a1 ≡ other line.color
  color_at_a1 h =
      let changing : IsChanging row a1 = (is_a1.changing h).1 in
      other_than (color_at row a1) (color_before row a1) changing.1 ∙
      ap other (before_to row (right_of_a0 line) a1 line.color is_a1.bound is_a1.least (stands.before short) a1_right)

  pass_moves : (b1 b2 : ℕ) → IsB1 reference line b1 → IsB2 reference b1 b2 → b2 < a1
      → Moves reference row line pass (record { pixels = take b2 row; begun = true; color = line.color })
  pass_moves b1 b2 is1 is2 h =
      let low : right_of_a0 line ≤ b1 = elim (cases_eq b1 (length reference)) [
        | inl e ↦ omega (arith, from_a0.1)
        | inr ne ↦ (is1.changing
            (omega (arith, is1.bound))).0
      ] in
      let up : b1 ≤ b2 = elim (cases_eq b2 (length reference)) [
        | inl e ↦ omega (arith, is1.bound)
        | inr ne ↦ omega (
          arith,
          (is2.changing
              (omega (arith, is2.bound))).0,
        )
      ] in
      let within : b2 ≤ length row = omega (arith, is2.bound) in
      let from : length line.pixels ≤ b2 = omega (arith, from_a0.0) in
      let count : length (take b2 row) ≡ b2 = length-take-le b2 row within in
      record {
        step = (
          b1,
          b2,
          is1,
          is2,
          omega arith,
          within,
          ap (λ p. record { pixels = p; begun = true; color = line.color }) (sym (filled b2
              from (omega arith))),
        );
        stands = reached row b2 line.color within (λ l. color_to_a1 b2 from h);
        on = omega (arith, count);
      }

  vertical_moves : (b1 : ℕ) (shift : Shift) → IsB1 reference line b1 → a1 + to_left shift ≡ b1 + to_right shift
      → Moves reference row line (vertical shift) (record { pixels = take a1 row; begun = true; color = other line.color })
  vertical_moves b1 shift is1 e =
      let from : length line.pixels ≤ a1 = omega (arith, from_a0.0, a1_right) in
      let count : length (take a1 row) ≡ a1 = length-take-le a1 row is_a1.bound in
      record {
        step = (
          b1,
          a1,
          is1,
          e,
          a1_right,
          is_a1.bound,
          ap (λ p. record { pixels = p; begun = true; color = other line.color }) (sym (filled
              a1 from (omega arith))),
        );
        stands = reached row a1 (other line.color) is_a1.bound color_at_a1;
        on = omega (arith, count, a1_right);
      }

  horizontal_moves : (a2 : ℕ) → IsNextChange row (a1 + 1) a2
      → Moves reference row line (horizontal (a1 - length line.pixels) (a2 - a1)) (record {
        pixels = take a2 row;
        begun = true;
        color =
            line.color;
      })
  horizontal_moves a2 is_a2 =
      let from : length line.pixels ≤ a1 = omega (arith, from_a0.0, a1_right) in
      let up : a1 ≤ a2 = elim (cases_eq a2 (length row)) [
        | inl e ↦ omega (arith, is_a1.bound)
        | inr ne ↦ omega (
          arith,
          (is_a2.changing
              (omega (arith, is_a2.bound))).0,
        )
      ] in
      let more : a1 < length row → a1 < a2 = λ (h : a1 < length row). elim (cases_eq a2 (length row)) [
        | inl e ↦ omega arith
        | inr ne ↦ omega
            (arith, (is_a2.changing (omega (arith, is_a2.bound))).0)
      ] in
      let before : a1 < length row → color_before row (a1 + 1) ≡ other line.color = λ (h : a1 < length row). before_next row a1 ∙
      color_at_a1 h in
      let second : (k : ℕ) → a1 ≤ k → k < a2 → color_at row k ≡ other line.color = λ (k : ℕ) (l : a1 ≤ k) (g : k < a2).
      let inside : a1 < length row = omega (arith, is_a2.bound) in
      elim (cases_eq k a1) [
        | inl e ↦ rw e (color_at_a1 inside)
        | inr ne ↦ stretch_at row (a1 + 1) a2 (other line.color) is_a2.bound is_a2.least (before inside) k (omega arith) g
      ] in
      let first_run : filled_to line a1 ≡ take a1 row = filled a1 from (omega arith) in
      let second_run : take a1 row ++ replicate (a2 - a1) (other line.color) ≡ take a2 row = run_to row a1 a2 (other line.color) up
      is_a2.bound second in
      let whole : line.pixels ++ replicate (a1 - length line.pixels) line.color ++ replicate (a2 - a1) (other line.color) ≡ take a2 row = ap
      (λ l. l ++ replicate (a2 - a1) (other line.color)) first_run ∙ second_run in
      let count : length (take a2 row) ≡ a2 = length-take-le a2 row is_a2.bound in
      let some : 0 < a1 - length line.pixels + (a2 - a1) = elim (cases_eq a1 (length row)) [
        | inl e ↦ omega arith
        | inr ne ↦ omega (
          arith,
          more (omega (arith, is_a1.bound)),
        )
      ] in
      let here : a2 < length row → color_at row a2 ≡ line.color = λ (h : a2 < length row).
      let inside : a1 < length row = omega arith in
      let changing : IsChanging row a2 = (is_a2.changing h).1 in
      other_than (color_at row a2) (color_before row a2) changing.1 ∙
      (ap other (before_to row (a1 + 1) a2 (other line.color) is_a2.bound is_a2.least (before inside) (omega (arith, more inside))) ∙
      other_twice line.color) in
      record {
        step = (some, omega (arith, is_a2.bound), ap (λ p. record { pixels = p; begun = true; color = line.color }) (sym whole));
        stands = reached row a2 line.color is_a2.bound here;
        on = omega (arith, count, a1_right, some, from_a0.1);
      }

-- the vertical mode that is found leads from b1 to a1
vertical_found : (b1 a1 : ℕ) (all : List Shift) (shift : Shift) → vertical_to b1 a1 all ≡ Some shift
    → a1 + to_left shift ≡ b1 + to_right shift
vertical_found b1 a1 [] shift e = cc
vertical_found b1 a1 (s ∷ all) shift e = seen (nat_eq (a1 + to_left s) (b1 + to_right s)) refl e (vertical_found b1 a1 all shift)
  where
    seen : (b : Bool) → nat_eq (a1 + to_left s) (b1 + to_right s) ≡ b → cond b (Some s) (vertical_to b1 a1 all) ≡ Some shift
        → (vertical_to b1 a1 all ≡ Some shift → a1 + to_left shift ≡ b1 + to_right shift) → a1 + to_left shift ≡ b1 + to_right shift
    seen true is e later = let one : s ≡ shift = cc in rw (← one) (eqb-true (a1 + to_left s) (b1 + to_right s) is)
    seen false is e later = later e

-- the prescribed mode leads along the row
pub prescribed_moves : (reference row : List Color) (line : CodingLine) → length reference ≡ length row → IsUpTo row line
    → length line.pixels < length row
    → Moves reference row line (prescribed reference row line) (moved reference row line (prescribed reference row line))
prescribed_moves reference row line even stands short = seen (ltb (b2_of reference line) (a1_of row line)) refl
  where
    near : (o : Option Shift) → vertical_to (b1_of reference line) (a1_of row line) verticals ≡ o
        → Moves reference row line (vertical_or o (a1_of row line - length line.pixels) (a2_of row line - a1_of row line)) (moved reference
        row line (vertical_or o (a1_of row line - length line.pixels) (a2_of row line - a1_of row line)))
    near (Some shift) is = vertical_moves reference row even line stands short (a1_of row line) (change_found row (right_of_a0 line)) (b1_of
        reference line) shift (b1_found reference line) (vertical_found (b1_of reference line) (a1_of row line) verticals shift is)
    near None is = horizontal_moves reference row even line stands short (a1_of row line) (change_found row (right_of_a0 line)) (a2_of row
        line) (change_found row (a1_of row line + 1))

    seen : (b : Bool) → ltb (b2_of reference line) (a1_of row line) ≡ b
        → Moves reference row line (cond b pass (vertical_or (vertical_to (b1_of reference line) (a1_of row line) verticals) (a1_of row line
        - length line.pixels) (a2_of row line - a1_of row line))) (moved reference row line (cond b pass (vertical_or (vertical_to (b1_of
        reference line) (a1_of row line) verticals) (a1_of row line - length line.pixels) (a2_of row line - a1_of row line))))
    seen true is = pass_moves reference row even line stands short (a1_of row line) (change_found row (right_of_a0 line)) (b1_of reference
        line) (b2_of reference line) (b1_found reference line) (b2_found reference line) (ltb-true (b2_of reference line) (a1_of row line)
        is)
    seen false is = near (vertical_to (b1_of reference line) (a1_of row line) verticals) refl

-- where a line begins
pub begin_stands : (row : List Color) → IsUpTo row line_begin
begin_stands row = record { taken = refl; within = omega arith; before = λ h. refl }

-- the rest of a row, coded
code_spells : (reference row : List Color) (most : ℕ) (line : CodingLine) → length reference ≡ length row → IsUpTo row line
    → length row + 1 ≤ most + right_of_a0 line
    → (modes : List Mode) × SpellsLine (length row) reference line modes row (line_code most reference row line)
code_spells reference row zero line even stands enough = (
  [],
  (
    stands.taken ∙
        take_all (length line.pixels) row (omega (arith, at_most line.begun)),
    refl,
    refl,
  ),
)
  where
    at_most : (b : Bool) → length line.pixels + cond b 1 0 ≤ length line.pixels + 1
    at_most true = omega arith
    at_most false = omega arith
code_spells reference row (suc most) line even stands enough = seen (nat_eq (length line.pixels) (length row)) refl (λ next s h. code_spells
    reference row most next even s h)
  where
    seen : (b : Bool) → nat_eq (length line.pixels) (length row) ≡ b → ((next : CodingLine) → IsUpTo row next
        → length row + 1 ≤ most + right_of_a0 next
        → (modes : List Mode) × SpellsLine (length row) reference next modes row (line_code most reference row next))
        → (modes : List Mode) × SpellsLine (length row) reference line modes row (cond b [] (mode_words line.color (prescribed reference row
        line) ++ line_code most reference row (moved reference row line (prescribed reference row line))))
    seen true is again =
        let full : length line.pixels ≡ length row = eqb-true (length line.pixels) (length row) is in
        ([], (stands.taken ∙ take_all (length line.pixels) row (omega arith), refl, refl))
    seen false is again =
        let short : length line.pixels < length row = omega (arith, eqb-false (length line.pixels) (length row) is, stands.within) in
        let moves = prescribed_moves reference row line even stands short in
        let next : CodingLine = moved reference row line (prescribed reference row line) in
        let later = again next moves.stands (omega (arith, moves.on)) in
        (prescribed reference row line ∷ later.0, (next, line_code most reference row next, moves.step, refl, later.1))

pub row_spells : (reference row : List Color) → length reference ≡ length row
    → SpellsRow (length row) reference row (row_code reference row)
row_spells reference row even = code_spells reference row (length row + 1) line_begin even (begin_stands row) (omega arith)

pub rows_spell : (width : ℕ) (reference : List Color) (rows : List (List Color)) → length reference ≡ width
    → AllByRecursion (λ row. length row ≡ width) rows → SpellsRows width reference rows (rows_code reference rows)
rows_spell width reference [] even all = refl
rows_spell width reference (row ∷ rows) even all =
    let spells : SpellsRow width reference row (row_code reference row) = subst (λ w. SpellsRow w reference row (row_code reference row))
    all.0 (row_spells reference row (even ∙ sym all.0)) in
    (row_code reference row, rows_code row rows, spells, rows_spell width row rows all.0 all.1, refl)

-- the code of a page reads as the page
pub code_reads : (width : ℕ) (rows : List (List Color)) (rest : List Bool) → 0 < length rows → length rows ≤ 20000
    → AllByRecursion (λ row. length row ≡ width) rows
    → ReadsAsPage width (page_code width rows ++ rest) rows (length (page_code width rows))
unfolding page_code
code_reads width rows rest some few all = record {
  some = some;
  few = few;
  front = rows_code (white_line width) rows;
  rest = rest;
  spells = rows_spell width (white_line width) rows (length-replicate width White) all;
  split = append_assoc (rows_code (white_line width) rows) eofb rest;
  used_is = length-append (rows_code (white_line width) rows) eofb;
}

pub reads_own_code : RoundTrip
reads_own_code width rows rest wide some few all = reads_all width (page_code width rows ++ rest) rows (length (page_code width rows))
    (omega (arith, wide.0)) wide.1 (code_reads width rows rest some few all)
