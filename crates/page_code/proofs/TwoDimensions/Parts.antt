-- What the whole items of a T.6 page spell: rows, modes of a row, and runs of horizontal mode.
use Rattle.std.proofs.Common.{ltb, ℕ, ◌≡◌, ◌+◌, ◌-◌, ◌*◌, ◌<◌, ◌≤◌, inl, inr, Bool, true, false, List, [], ◌∷◌, ◌++◌, length, Some, None}
use Rattle.std.proofs.Common.{refl, ap, subst, sym, ◌∙◌, arith, cond, nat_eq, append_assoc}
use Rattle.std.specs.Prelude.{Option, Result, Ok}
use Rattle.std.proofs.lemmas.Bool.{ltb-true, ltb-false, eqb-true, eqb-false, cases_lt}
use Rattle.std.proofs.lemmas.List.{length_push, append-nil}
use Rattle.raster.specs.declared.row.Color.{Color}
use Rattle.raster.specs.Pixels.{other}
use Rattle.run_tables.specs.declared.fault.CodeFaultKind.{CodeFaultKind}
use Rattle.run_tables.specs.declared.fault.CodeFaultKind.TheVariants.{PastEnd, Backwards, EmptyHorizontal}
use Rattle.run_tables.specs.Codes.{code_word, run_words, run_at}
use Rattle.run_tables.specs.Fronts.{Walk, spell}
use Rattle.run_tables.specs.RowFronts.{codes_after, amount}
use Rattle.run_tables.specs.RowFronts.RunItem.{run_item as run_code}
use Rattle.run_tables.proofs.CodeLooks.{listed}
use Rattle.run_tables.proofs.RowReadings.{table_words}
use Rattle.run_tables.proofs.RowSpelling.{rest_low, rest_high, run_at_low, run_at_high}
use Rattle.page_code.specs.declared.t6.mode.ModeCode.{ModeCode}
use Rattle.page_code.specs.declared.t6.mode.ModeCode.TheVariants.{Pass, Horizontal, Vertical}
use Rattle.page_code.specs.TwoDimensions.Positions.{CodingLine, line_begin, white_line, right_of_a0, filled_to, b1_of, b2_of}
use Rattle.page_code.specs.TwoDimensions.Modes.{to_right, to_left, horizontal_word, runs_added, Mode, mode_words, IsStep, SpellsLine}
use Rattle.page_code.specs.TwoDimensions.Modes.{SpellsRow}
use Rattle.page_code.specs.TwoDimensions.Modes.{SpellsRows}
use Rattle.page_code.specs.TwoDimensions.Modes.Mode.{pass, vertical, horizontal}
use Rattle.page_code.specs.TwoDimensions.Fronts.{mode_word, PageItem, page_item_word, PageSoFar, PageState, page_begin, row_added}
use Rattle.page_code.specs.TwoDimensions.Fronts.{mode_ended}
use Rattle.page_code.specs.TwoDimensions.Fronts.{after_mode, run_color, run_ended, after_run, PageStep}
use Rattle.page_code.specs.TwoDimensions.Fronts.PageItem.{mode_item, run_item}
use Rattle.page_code.specs.TwoDimensions.Fronts.PageState.{between, inside, running}
use Rattle.page_code.specs.TwoDimensions.Kinds.{AreRows, SpellsModes, AreModes, first_words, IsMakeup, AreRuns, IsPagePart}
use Rattle.page_code.specs.TwoDimensions.Writing.{reference_at}
use Rattle.page_code.proofs.TwoDimensions.Positions.{b1_found, b2_found}
use Rattle.page_code.proofs.TwoDimensions.ReadsAll.{begun_after}
use Rattle.page_code.proofs.TwoDimensions.Standing.{filled_count, runs_count, not_refused}
use Rattle.page_code.proofs.TwoDimensions.StepsOn.{last_added}

-- ---- one row and one mode more

rows_snoc : (width : ℕ) (reference : List Color) (rows : List (List Color)) (front bits : List Bool) (row : List Color)
    → SpellsRows width reference rows front → SpellsRow width (reference_at reference rows (length rows)) row bits
    → SpellsRows width reference (rows ++ row ∷ []) (front ++ bits)
rows_snoc width reference [] front bits row spells last = (bits, [], last, refl, ap (λ l. l ++ bits) spells ∙ sym (append-nil bits))
rows_snoc width reference (r ∷ rows) front bits row spells last = (
  spells.0,
  spells.1 ++ bits,
  spells.2,
  rows_snoc width r rows spells.1 bits row spells.3 last,
  ap (λ l. l ++ bits) spells.4 ∙ append_assoc spells.0 spells.1 bits,
)

modes_snoc : (width : ℕ) (reference : List Color) (line : CodingLine) (modes : List Mode) (next : CodingLine) (bits : List Bool) (mode :
    Mode)
    (moved : CodingLine) → SpellsModes width reference line modes next bits → IsStep width reference next mode moved
    → SpellsModes width reference line (modes ++ mode ∷ []) moved (bits ++ mode_words next.color mode)
modes_snoc width reference line [] next bits mode moved spells step =
    let words : bits ++ mode_words next.color mode ≡ mode_words line.color mode ++ [] = ap (λ b. b ++ mode_words next.color mode) spells.1 ∙
    (ap (λ (l : CodingLine). mode_words l.color mode) (sym spells.0) ∙ sym (append-nil (mode_words line.color mode))) in
    (moved, [], subst (λ (l : CodingLine). IsStep width reference l mode moved) (sym spells.0) step, words, (refl, refl))
modes_snoc width reference line (m ∷ modes) next bits mode moved spells step = (
  spells.0,
  spells.1 ++ mode_words next.color mode,
  spells.2,
  ap (λ b. b ++ mode_words next.color mode) spells.3 ∙ append_assoc (mode_words line.color m) spells.1 (mode_words next.color mode),
  modes_snoc width reference spells.0 modes next spells.1 mode moved spells.4 step,
)

-- modes that lead to a row's end
modes_line : (width : ℕ) (reference : List Color) (line : CodingLine) (modes : List Mode) (next : CodingLine) (bits : List Bool)
    → SpellsModes width reference line modes next bits → length next.pixels ≡ width
    → SpellsLine width reference line modes next.pixels bits
modes_line width reference line [] next bits spells full = (ap (λ (l : CodingLine). l.pixels) spells.0, full, spells.1)
modes_line width reference line (mode ∷ modes) next bits spells full = (
  spells.0,
  spells.1,
  spells.2,
  spells.3,
  modes_line width reference spells.0 modes next spells.1 spells.4 full,
)

-- ---- after a mode

pub step_fits : (width : ℕ) (reference : List Color) (line next : CodingLine) (mode : Mode) → IsStep width reference line mode next
    → length line.pixels ≤ width → length next.pixels ≤ width
step_fits width reference line next pass step fits = rw step.6 (omega (arith, filled_count line step.1, step.5, fits))
step_fits width reference line next (vertical shift) step fits = rw step.6 (omega (arith, filled_count line step.1, step.5, fits))
step_fits width reference line next (horizontal a0a1 a1a2) step fits = rw step.2 (omega (arith, runs_count line a0a1 a1a2, step.1))

module _ (width : ℕ) (front : List Bool) (page : PageSoFar) (line : CodingLine) (part : AreModes width front page line) where
  longer : List Bool → List Bool
  longer word = part.later ++ word

  regroup : (word : List Bool) → front ++ word ≡ part.before ++ (part.later ++ word)
  regroup word = ap (λ l. l ++ word) part.split ∙ append_assoc part.before part.later word

  mode_part : (next : CodingLine) (mode : Mode) → IsStep width page.reference line mode next
      → IsPagePart width (front ++ mode_words line.color mode) (mode_ended width page next)
  mode_part next mode step = seen (nat_eq (length next.pixels) width) refl
    where
      word : List Bool
      word = mode_words line.color mode

      seen : (b : Bool) → nat_eq (length next.pixels) width ≡ b
          → IsPagePart width (front ++ mode_words line.color mode) (cond b (between (row_added page next.pixels)) (inside page next))
      seen true is =
          let full = eqb-true (length next.pixels) width is in
          let spelled = modes_snoc width page.reference line_begin part.modes line part.later mode next part.spells step in
          let row = modes_line width page.reference line_begin (part.modes ++ mode ∷ []) next (part.later ++ mode_words line.color mode)
          spelled full in
          record {
            few = omega (arith, part.room, length_push page.rows next.pixels);
            spells = rw (regroup (mode_words line.color mode)) (rows_snoc width (white_line width) page.rows part.before (part.later ++
                mode_words line.color mode) next.pixels part.rows.spells (subst (λ r. SpellsRow width r next.pixels (part.later ++
                mode_words line.color mode)) part.rows.reference_is (part.modes ++ mode ∷ [], row)));
            reference_is = sym (last_added (white_line width) next.pixels page.rows);
          }
      seen false is = (
        record {
          before = part.before;
          later = part.later ++ mode_words line.color mode;
          modes = part.modes ++ mode ∷ [];
          rows = part.rows;
          room = part.room;
          spells = modes_snoc width page.reference line_begin part.modes line part.later mode next part.spells step;
          short = omega (
            arith,
            step_fits width page.reference line next mode step (omega (arith, part.short)),
            eqb-false (length next.pixels) width is,
          );
          split = regroup (mode_words line.color mode);
        },
        begun_after width page.reference line next mode step,
      )

  mode_led : (next : CodingLine) (mode : Mode) (t : PageState) → IsStep width page.reference line mode next
      → ◌≡◌ {A = Result PageState CodeFaultKind} (Ok (mode_ended width page next)) (Ok t)
      → IsPagePart width (front ++ mode_words line.color mode) t
  mode_led next mode t step e =
      let led : mode_ended width page next ≡ t = cc in
      subst (IsPagePart width (front ++ mode_words line.color mode)) led (mode_part next mode step)

  code_part : (code : ModeCode) (t : PageState) → after_mode width page line code ≡ Ok t → IsPagePart width (front ++ mode_word code) t
  unfolding after_mode
  code_part Pass t e =
      let b2 : ℕ = b2_of page.reference line in
      let next : CodingLine = record { pixels = filled_to line b2; begun = true; color = line.color } in
      let on = not_refused (ltb b2 (right_of_a0 line)) Backwards _ t e in
      let fits = not_refused (ltb width b2) PastEnd (Ok (mode_ended width page next)) t on.1 in
      mode_led next pass t (
        b1_of page.reference line,
        b2,
        b1_found page.reference line,
        b2_found page.reference line,
        ltb-false b2 (right_of_a0 line) on.0,
        ltb-false width b2 fits.0,
        refl,
      ) fits.1
  code_part Horizontal t e =
      let led : running page line None None ≡ t = cc in
      subst (IsPagePart width (front ++ horizontal_word)) led (record {
        before = front;
        later = [];
        modes = part;
        makeup_is = refl;
        within = omega (arith, part.short);
        split = refl;
      })
  code_part (Vertical shift) t e =
      let b1 : ℕ = b1_of page.reference line in
      let a1 : ℕ = b1 + to_right shift - to_left shift in
      let next : CodingLine = record { pixels = filled_to line a1; begun = true; color = other line.color } in
      let on = not_refused (ltb (b1 + to_right shift) (right_of_a0 line + to_left shift)) Backwards _ t e in
      let fits = not_refused (ltb (width + to_left shift) (b1 + to_right shift)) PastEnd (Ok (mode_ended width page next)) t on.1 in
      let low = ltb-false (b1 + to_right shift) (right_of_a0 line + to_left shift) on.0 in
      let high = ltb-false (width + to_left shift) (b1 + to_right shift) fits.0 in
      mode_led next (vertical shift) t (
        b1,
        a1,
        b1_found page.reference line,
        omega (arith, low),
        omega (arith, low),
        omega (arith, high),
        refl,
      ) fits.1

-- ---- after a run code

-- the run of a make-up code is a multiple of 64
pub makeup_long : (color : Color) (m : ℕ) (later : List Bool) → IsMakeup color (Some m) later
    → (q : ℕ) × (0 < q) × (q < 41) × (m ≡ 64 * q) × (later ≡ code_word color (64 * q))
makeup_long color m later is =
    let at = (table_words color m later).0 is.0 in
    elim (cases_lt at.0 64) [
      | inl l ↦ absurd (omega (arith, is.1, at.2, run_at_low at.0 l))
      | inr g ↦ (
        at.0 - 63,
        omega arith,
        omega (arith, at.1),
        at.2 ∙ run_at_high at.0 g,
        at.3 ∙ ap (code_word color) (run_at_high at.0 g),
      )
    ]

high_run : (color : Color) (q m : ℕ) (later : List Bool) (run : ℕ) → 0 < q → m ≡ 64 * q → later ≡ code_word color (64 * q) → run < 64
    → later ++ code_word color run ≡ run_words color (m + run)
high_run color q m later run some is word low =
    let both = rest_high color q (64 * q + run) (code_word color run) some (rest_low color (Some (64 * q)) run low) in
    rw (word, is) both

-- a make-up code and a terminating code are the code words of their run
whole_run : (color : Color) (makeup : Option ℕ) (later : List Bool) (run : ℕ) → IsMakeup color makeup later → run < 64
    → later ++ code_word color run ≡ run_words color (amount makeup + run)
whole_run color None later run is low = ap (λ l. l ++ code_word color run) is ∙ rest_low color None run low
whole_run color (Some m) later run is low =
    let long = makeup_long color m later is in
    high_run color long.0 m later run long.1 long.3 long.4 low

module _ (width : ℕ) (front : List Bool) (page : PageSoFar) (line : CodingLine) (makeup : Option ℕ) where
  -- the first run is whole
  first_part : (part : AreRuns width front page line None makeup) (run : ℕ) → run < 64
      → length line.pixels + 0 + (amount makeup + run) ≤ width
      → AreRuns width (front ++ code_word line.color run) page line (Some (amount makeup + run)) None
  first_part part run low fits =
      let words = whole_run line.color makeup part.later run part.makeup_is low in
      record {
        before = part.before;
        later = [];
        modes = part.modes;
        makeup_is = refl;
        within = omega (arith, fits);
        split = ap (λ l. l ++ code_word line.color run) part.split ∙ (append_assoc part.before (horizontal_word ++ part.later) (code_word
            line.color run) ∙ ap (λ w. part.before ++ (horizontal_word ++ w)) (words ∙ sym (append-nil (run_words line.color (amount makeup
            +
            run)))));
      }

  -- the second run is whole
  second_part : (a0a1 : ℕ) (part : AreRuns width front page line (Some a0a1) makeup) (run : ℕ) (t : PageState) → run < 64
      → length line.pixels + a0a1 + (amount makeup + run) ≤ width → run_ended width page line (Some a0a1) (amount makeup + run) ≡ Ok t
      → IsPagePart width (front ++ code_word (other line.color) run) t
  second_part a0a1 part run t low fits e =
      let n : ℕ = amount makeup + run in
      let on = not_refused (nat_eq (a0a1 + n) 0) EmptyHorizontal (Ok (mode_ended width page (runs_added line a0a1 n))) t e in
      let some : 0 < a0a1 + n = omega (arith, eqb-false (a0a1 + n) 0 on.0) in
      let words = whole_run (other line.color) makeup part.later run part.makeup_is low in
      let a : List Bool = run_words line.color a0a1 in
      let split : front ++ code_word (other line.color) run ≡ part.before ++ mode_words line.color (horizontal a0a1 n) = ap (λ l. l ++
      code_word (other line.color) run) part.split ∙ (append_assoc part.before (horizontal_word ++ (a ++ part.later)) (code_word (other
      line.color) run) ∙ ap (λ w. part.before ++ (horizontal_word ++ w)) (append_assoc a part.later (code_word (other line.color) run) ∙
      ap (λ w. a ++ w) words)) in
      subst (λ l. IsPagePart width l t) (sym split) (mode_led width part.before page line part.modes (runs_added line a0a1 n) (horizontal
      a0a1
      n) t (some, fits, refl) on.1)

-- a make-up code
makeup_part : (width : ℕ) (front : List Bool) (page : PageSoFar) (line : CodingLine) (first : Option ℕ) (k : ℕ)
    → AreRuns width front page line first None → k < 104 → 64 ≤ run_at k → length line.pixels + amount first + (0 + run_at k) ≤ width
    → AreRuns width (front ++ code_word (run_color line first) (run_at k)) page line first (Some (run_at k))
makeup_part width front page line first k part within long fits =
    let word : List Bool = code_word (run_color line first) (run_at k) in
    let words : List Bool = first_words line.color first in
    record {
      before = part.before;
      later = word;
      modes = part.modes;
      makeup_is = ((table_words (run_color line first) (run_at k) word).1 (k, within, refl, refl), long);
      within = omega (arith, fits);
      split = ap (λ l. l ++ word) part.split ∙ (append_assoc part.before (horizontal_word ++ (words ++ part.later)) word ∙
          ap (λ w. part.before ++ (horizontal_word ++ w)) (append_assoc words part.later word ∙ ap (λ w. words ++ (w ++ word))
          part.makeup_is));
    }

run_part : (width : ℕ) (front : List Bool) (page : PageSoFar) (line : CodingLine) (first makeup : Option ℕ) (k : ℕ) (t : PageState)
    → AreRuns width front page line first makeup → k < codes_after makeup → after_run width page line first makeup (run_at k) ≡ Ok t
    → IsPagePart width (front ++ code_word (run_color line first) (run_at k)) t
unfolding after_run
run_part width front page line first makeup k t part within e =
    let on = not_refused (ltb width (length line.pixels + amount first + (amount makeup + run_at k))) PastEnd _ t e in
    let fits = ltb-false width (length line.pixels + amount first + (amount makeup + run_at k)) on.0 in
    seen fits (ltb (run_at k) 64) refl on.1
  where
    ended : (f : Option ℕ) → AreRuns width front page line f makeup → run_at k < 64
        → length line.pixels + amount f + (amount makeup + run_at k) ≤ width → run_ended width page line f (amount makeup + run_at k) ≡ Ok t
        → IsPagePart width (front ++ code_word (run_color line f) (run_at k)) t
    ended None p low fits e =
        let led : running page line (Some (amount makeup + run_at k)) None ≡ t = cc in
        subst (IsPagePart width (front ++ code_word line.color (run_at k))) led (first_part width front page line makeup p (run_at k) low
        fits)
    ended (Some a0a1) p low fits e = second_part width front page line makeup a0a1 p (run_at k) t low fits e

    raised : (m : Option ℕ) → AreRuns width front page line first m → k < codes_after m → 64 ≤ run_at k
        → length line.pixels + amount first + (amount m + run_at k) ≤ width
        → ◌≡◌ {A = Result PageState CodeFaultKind} (Ok (running page line first (Some (run_at k)))) (Ok t)
        → IsPagePart width (front ++ code_word (run_color line first) (run_at k)) t
    raised None p room long fits e =
        let led : running page line first (Some (run_at k)) ≡ t = cc in
        subst (IsPagePart width (front ++ code_word (run_color line first) (run_at k))) led (makeup_part width front page line first k p
        room
        long fits)
    raised (Some m) p room long fits e = absurd (omega (arith, run_at_low k room))

    seen : length line.pixels + amount first + (amount makeup + run_at k) ≤ width → (b : Bool) → ltb (run_at k) 64 ≡ b
        → cond b (run_ended width page line first (amount makeup + run_at k)) (Ok (running page line first (Some (run_at k)))) ≡ Ok t
        → IsPagePart width (front ++ code_word (run_color line first) (run_at k)) t
    seen fits true is e = ended first part (ltb-true (run_at k) 64 is) fits e
    seen fits false is e = raised makeup part within (ltb-false (run_at k) 64 is) fits e

-- ---- all items

-- before a row's first mode
row_part : (width : ℕ) (front : List Bool) (page : PageSoFar) → 0 < width → length page.rows < 20000 → AreRows width front page
    → AreModes width front page line_begin
row_part width front page some room rows = record {
  before = front;
  later = [];
  modes = [];
  rows = rows;
  room = room;
  spells = (refl, refl);
  short = some;
  split = sym (append-nil front);
}

run_item_part : (width : ℕ) (front : List Bool) (page : PageSoFar) (line : CodingLine) (first makeup : Option ℕ) (color : Color) (run k : ℕ)
    (t : PageState) → color ≡ run_color line first → run ≡ run_at k → AreRuns width front page line first makeup → k < codes_after makeup
    → after_run width page line first makeup run ≡ Ok t → IsPagePart width (front ++ code_word color run) t
run_item_part width front page line first makeup color run k t color_is run_is part within e = rw (color_is, run_is) (run_part width front
    page line first makeup k t part within (rw run_is at e))

item_part : (width : ℕ) (front : List Bool) (s : PageState) (i : PageItem) (t : PageState) → 0 < width → PageStep width s i t
    → IsPagePart width front s → IsPagePart width (front ++ page_item_word i) t
item_part width front (between page) (mode_item code) t some step part = code_part width front page line_begin (row_part width front page
    some
    step.0 part) code t step.1.leads
item_part width front (inside page line) (mode_item code) t some step part = code_part width front page line part.0 code t step.leads
item_part width front (running page line first makeup) (mode_item code) t some step part = absurd step
item_part width front (between page) (run_item code) t some step part = absurd step
item_part width front (inside page line) (run_item code) t some step part = absurd step
item_part width front (running page line first makeup) (run_item (run_code color run)) t some step part =
    let one = listed (run_color line first) (codes_after makeup) (run_code color run) step.stands in
    run_item_part width front page line first makeup color run one.0 t (cc) (cc) part one.1 step.leads

pub walk_part : (width : ℕ) (items : List PageItem) (front : List Bool) (s t : PageState) → 0 < width → Walk (PageStep width) s items t
    → IsPagePart width front s → IsPagePart width (front ++ spell page_item_word items) t
walk_part width [] front s t some walk part = rw (append-nil front, ← walk) part
walk_part width (i ∷ items) front s t some walk part = subst (λ l. IsPagePart width l t) (append_assoc front (page_item_word i) (spell
    page_item_word items)) (walk_part width items (front ++ page_item_word i) walk.0 t some walk.2 (item_part width front s i walk.0 some
    walk.1 part))

-- the whole items of a page's front
pub front_part : (width : ℕ) (items : List PageItem) (t : PageState) → 0 < width → Walk (PageStep width) (page_begin width) items t
    → IsPagePart width (spell page_item_word items) t
front_part width items t some walk = walk_part width items [] (page_begin width) t some walk (record {
  few = omega arith;
  spells = refl;
  reference_is = refl;
})
