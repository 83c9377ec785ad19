-- What is spelled is read (ITU-T T.6, 2.2).
use Rattle.std.proofs.Common.{ℕ, suc, ◌≡◌, ◌+◌, ◌-◌, ◌*◌, ◌/◌, ◌%◌, ◌<◌, ◌≤◌, inl, inr, Bool, true, false, List, [], ◌∷◌, ◌++◌, length}
use Rattle.std.proofs.Common.{Some, None, refl, ap, sym, ◌∙◌, arith, cond, nat_eq, append_assoc}
use Rattle.std.specs.Prelude.{Option, Ok, Contains}
use Rattle.std.proofs.lemmas.Bool.{lt-ltb, le-ltb, ne_eqb, eqb-true, eqb-false, cases_lt}
use Rattle.std.proofs.lemmas.List.{length_push, append-nil}
use Rattle.raster.specs.declared.row.Color.{Color}
use Rattle.raster.specs.Pixels.{other}
use Rattle.run_tables.specs.declared.fault.CodeFaultKind.TheVariants.{BadCode}
use Rattle.run_tables.specs.Codes.{code_word, run_words, run_at}
use Rattle.run_tables.specs.Fronts.{spell}
use Rattle.run_tables.specs.Fronts.Look.{stop}
use Rattle.run_tables.specs.RowFronts.{allowed, amount}
use Rattle.run_tables.specs.RowFronts.RunItem.{run_item as run_code}
use Rattle.run_tables.proofs.FrontLaws.{answers_there}
use Rattle.run_tables.proofs.FrontWalks.{Way, way_none, way_on, way_by}
use Rattle.run_tables.proofs.CodeLooks.{listed_at}
use Rattle.run_tables.proofs.RowSpelling.{run_at_low, run_at_high}
use Rattle.page_code.specs.TwoDimensions.Positions.{CodingLine, line_begin, right_of_a0, white_line, b1_of, b2_of}
use Rattle.page_code.specs.declared.t6.mode.Shift.{Shift}
use Rattle.page_code.specs.TwoDimensions.Modes.{to_right, to_left, horizontal_word, eofb, Mode, mode_words, IsStep, SpellsLine, SpellsRow}
use Rattle.page_code.specs.TwoDimensions.Modes.{SpellsRows, ReadsAsPage}
use Rattle.page_code.specs.declared.t6.mode.Shift.TheVariants.{V0, VR1, VR2, VR3, VL1, VL2, VL3}
use Rattle.page_code.specs.TwoDimensions.Modes.Mode.{pass, vertical, horizontal}
use Rattle.page_code.specs.declared.t6.mode.ModeCode.{ModeCode}
use Rattle.page_code.specs.TwoDimensions.Fronts.{mode_word, mode_codes, page_item_word, PageSoFar, PageState, page_begin, row_added}
use Rattle.page_code.specs.TwoDimensions.Fronts.{mode_ended, after_mode, run_color, run_ended, after_run, ModeStep, PageStep, page_end}
use Rattle.page_code.specs.TwoDimensions.Fronts.{page_look, reading, read_page}
use Rattle.page_code.specs.declared.t6.mode.ModeCode.TheVariants.{Pass, Horizontal, Vertical}
use Rattle.page_code.specs.TwoDimensions.Fronts.PageItem.{mode_item, run_item}
use Rattle.page_code.specs.TwoDimensions.Fronts.PageState.{between, inside, running}
use Rattle.page_code.proofs.TwoDimensions.PageLook.{finds}
use Rattle.page_code.proofs.TwoDimensions.Positions.{b1_is, b2_is}

abbrev pub PageWay : ℕ → PageState → PageState → List Bool → Type 0
PageWay width s t bits = Way page_item_word (PageStep width) s t bits

-- Runs

low_stands : (color : Color) (makeup : Option ℕ) (n : ℕ) → n < 64 → Contains (allowed color makeup) (run_code color n)
low_stands color None n h = rw (run_at_low n h) at (listed_at color 104 n (omega arith))
low_stands color (Some m) n h = rw (run_at_low n h) at (listed_at color 64 n h)

low_step : (width : ℕ) (page : PageSoFar) (line : CodingLine) (first makeup : Option ℕ) (run : ℕ) (t : PageState) → run < 64
    → length line.pixels + amount first + (amount makeup + run) ≤ width → run_ended width page line first (amount makeup + run) ≡ Ok t
    → PageStep width (running page line first makeup) (run_item (run_code (run_color line first) run)) t
unfolding after_run
low_step width page line first makeup run t low fits e = record {
  stands = low_stands (run_color line first) makeup run low;
  leads = rw (le-ltb width (length line.pixels + amount first + (amount makeup + run)) fits, lt-ltb run 64 low) e;
}

pub high_step : (width : ℕ) (page : PageSoFar) (line : CodingLine) (first : Option ℕ) (q : ℕ) → 0 < q → q < 41
    → length line.pixels + amount first + (0 + 64 * q) ≤ width
    → PageStep width (running page line first None) (run_item (run_code (run_color line first) (64 * q))) (running page line first (Some (64
    * q)))
unfolding after_run
high_step width page line first q some few fits =
    let same : 63 + q - 63 ≡ q = omega arith in
    let run : run_at (63 + q) ≡ 64 * q = run_at_high (63 + q) (omega arith) ∙ ap (λ k. 64 * k) same in
    record {
      stands = rw run at (listed_at (run_color line first) 104 (63 + q) (omega arith));
      leads = rw (le-ltb width (length line.pixels + amount first + (0 + 64 * q)) fits, le-ltb (64 * q) 64 (omega arith)) refl;
    }

pub run_way : (width : ℕ) (page : PageSoFar) (line : CodingLine) (first : Option ℕ) (n : ℕ) (t : PageState) → n < 2624
    → length line.pixels + amount first + n ≤ width → run_ended width page line first n ≡ Ok t
    → PageWay width (running page line first None) t (run_words (run_color line first) n)
run_way width page line first n t small fits e = elim (cases_lt n 64) [
  | inl low ↦
      let same : 0 + n ≡ n = omega arith in
      rw (lt-ltb n 64 low) (way_by page_item_word (PageStep width) (running page line first None) t (run_item (run_code (run_color line
      first) n)) (low_step width page line first None n t low (omega arith) (rw same e)))
  | inr up ↦
      let whole : 64 * (n / 64) + n % 64 ≡ n = omega arith in
      let between_codes : PageState = running page line first (Some (64 * (n / 64))) in
      rw (le-ltb n 64 up) (way_on page_item_word (PageStep width) (running page line first None) between_codes t (code_word (run_color line
      first) (64 * (n / 64))) (code_word (run_color line first) (n % 64))
      (way_by page_item_word (PageStep width) (running page line first None) between_codes (run_item (run_code (run_color line first) (64 *
      (n / 64)))) (high_step width page line first (n / 64) (omega arith) (omega arith) (omega arith)))
      (way_by page_item_word (PageStep width) between_codes t (run_item (run_code (run_color line first) (n % 64))) (low_step width page
      line first (Some (64 * (n / 64))) (n % 64) t (omega arith) (omega arith) (rw whole e))))
]

-- Modes

-- a state where a mode code may come
pub record TakesMode (width : ℕ) (page : PageSoFar) (line : CodingLine) (s : PageState) : Type 0 where
  pub takes : (code : ModeCode) (t : PageState) → ModeStep width page line code t → PageStep width s (mode_item code) t

pub by_mode : (width : ℕ) (page : PageSoFar) (line : CodingLine) (s t : PageState) (code : ModeCode) → TakesMode width page line s
    → Contains mode_codes code → after_mode width page line code ≡ Ok t → PageWay width s t (mode_word code)
by_mode width page line s t code at stands e = way_by page_item_word (PageStep width) s t (mode_item code) (at.takes code t (record {
  stands
      = stands;
  leads = e;
}))

pub vertical_stands : (shift : Shift) → Contains mode_codes (Vertical shift)
vertical_stands V0 = (2, omega arith, refl)
vertical_stands VR1 = (3, omega arith, refl)
vertical_stands VR2 = (4, omega arith, refl)
vertical_stands VR3 = (5, omega arith, refl)
vertical_stands VL1 = (6, omega arith, refl)
vertical_stands VL2 = (7, omega arith, refl)
vertical_stands VL3 = (8, omega arith, refl)

pub mode_way : (width : ℕ) (page : PageSoFar) (line next : CodingLine) (mode : Mode) (s : PageState) → width ≤ 2432
    → TakesMode width page line s → IsStep width page.reference line mode next
    → PageWay width s (mode_ended width page next) (mode_words line.color mode)
unfolding after_mode
mode_way width page line next pass s wide at step =
    let b2 : step.1 ≡ b2_of page.reference line = b2_is page.reference line step.0 step.1 step.2 step.3 in
    let leads : after_mode width page line Pass ≡ Ok (mode_ended width page next) = rw (
      step.6,
      ← b2,
      le-ltb step.1 (right_of_a0 line)
          step.4,
      le-ltb width step.1 step.5,
    ) refl in
    by_mode width page line s (mode_ended width page next) Pass at (0, omega arith, refl) leads
mode_way width page line next (vertical shift) s wide at step =
    let b1 : step.0 ≡ b1_of page.reference line = b1_is page.reference line step.0 step.2 in
    let low : right_of_a0 line + to_left shift ≤ step.0 + to_right shift = omega (arith, step.3, step.4) in
    let high : step.0 + to_right shift ≤ width + to_left shift = omega (arith, step.3, step.5) in
    let a1 : step.0 + to_right shift - to_left shift ≡ step.1 = omega (arith, step.3) in
    let leads : after_mode width page line (Vertical shift) ≡ Ok (mode_ended width page next) = rw (
      step.6,
      ← b1,
      le-ltb (step.0 + to_right
          shift) (right_of_a0 line + to_left shift) low,
      le-ltb (width + to_left shift) (step.0 + to_right shift) high,
      a1,
    ) refl in
    by_mode width page line s (mode_ended width page next) (Vertical shift) at (vertical_stands shift) leads
mode_way width page line next (horizontal a0a1 a1a2) s wide at step =
    let fits : length line.pixels + a0a1 + a1a2 ≤ width = step.1 in
    let some : 0 < a0a1 + a1a2 = step.0 in
    let last : run_ended width page line (Some a0a1) a1a2 ≡ Ok (mode_ended width page next) = rw (
      step.2,
      ne_eqb (a0a1 + a1a2) 0 (λ e. omega
          arith),
    ) refl in
    way_on page_item_word (PageStep width) s (running page line None None) (mode_ended width page next) horizontal_word (run_words
    line.color a0a1 ++ run_words (other line.color) a1a2)
    (by_mode width page line s (running page line None None) Horizontal at (1, omega arith, refl) refl)
    (way_on page_item_word (PageStep width) (running page line None None) (running page line (Some a0a1) None) (mode_ended width page next)
    (run_words line.color a0a1) (run_words (other line.color) a1a2)
    (run_way width page line None a0a1 (running page line (Some a0a1) None) (omega arith) (omega arith) refl)
    (run_way width page line (Some a0a1) a1a2 (mode_ended width page next) (omega arith) (omega arith) last))

-- Rows

pub begun_after : (width : ℕ) (reference : List Color) (line next : CodingLine) (mode : Mode) → IsStep width reference line mode next
    → next.begun ≡ true
begun_after width reference line next pass step = rw step.6 refl
begun_after width reference line next (vertical shift) step = rw step.6 refl
begun_after width reference line next (horizontal a0a1 a1a2) step = rw step.2 refl

-- no mode leads on from a row's end
pub full_stuck : (width : ℕ) (reference : List Color) (line next : CodingLine) (mode : Mode) → IsStep width reference line mode next
    → line.begun ≡ true → length line.pixels ≡ width → ⊥
full_stuck width reference line next pass step begun full =
    let from : length line.pixels + 1 ≤ step.1 = rw begun at step.4 in omega (arith, step.5, from)
full_stuck width reference line next (vertical shift) step begun full =
    let from : length line.pixels + 1 ≤ step.1 = rw begun at step.4 in omega (arith, step.5, from)
full_stuck width reference line next (horizontal a0a1 a1a2) step begun full = omega (arith, step.0, step.1)

pub inside_takes : (width : ℕ) (page : PageSoFar) (line : CodingLine) → TakesMode width page line (inside page line)
inside_takes width page line = record { takes = λ code t step. step }

pub between_takes : (width : ℕ) (page : PageSoFar) → length page.rows < 20000 → TakesMode width page line_begin (between page)
between_takes width page h = record { takes = λ code t step. (h, step) }

line_way : (width : ℕ) (page : PageSoFar) (modes : List Mode) (line : CodingLine) (s : PageState) (row : List Color) (bits : List Bool)
    → width ≤ 2432 → TakesMode width page line s → (length line.pixels ≡ width → ⊥)
    → SpellsLine width page.reference line modes row bits → PageWay width s (between (row_added page row)) bits
line_way width page [] line s row bits wide at short spells = absurd (short (ap length spells.0 ∙ spells.1))
line_way width page (mode ∷ modes) line s row bits wide at short spells =
    rw spells.3 (way_on page_item_word (PageStep width) s (mode_ended width page spells.0) (between (row_added page row)) (mode_words
    line.color mode) spells.1 (mode_way width page line spells.0 mode s wide at spells.2)
    (after (nat_eq (length spells.0.pixels) width) refl (λ h. line_way width page modes spells.0 (inside page spells.0) row spells.1 wide
    (inside_takes width page spells.0) h spells.4)))
  where
    ended : (js : List Mode) → length spells.0.pixels ≡ width → SpellsLine width page.reference spells.0 js row spells.1
        → (spells.0.pixels ≡ row) × (spells.1 ≡ [])
    ended [] full tail = (tail.0, tail.2)
    ended (j ∷ js) full tail = absurd (full_stuck width page.reference spells.0 tail.0 j tail.2 (begun_after width page.reference line
        spells.0 mode spells.2) full)

    after : (b : Bool) → nat_eq (length spells.0.pixels) width ≡ b → ((length spells.0.pixels ≡ width → ⊥)
        → PageWay width (inside page spells.0) (between (row_added page row)) spells.1)
        → PageWay width (cond b (between (row_added page spells.0.pixels)) (inside page spells.0)) (between (row_added page row)) spells.1
    after true is again =
        let end = ended modes (eqb-true (length spells.0.pixels) width is) spells.4 in
        rw (end.0, end.1) (way_none page_item_word (PageStep width) (between (row_added page row)))
    after false is again = again (eqb-false (length spells.0.pixels) width is)

pub row_way : (width : ℕ) (page : PageSoFar) (row : List Color) (bits : List Bool) → 0 < width → width ≤ 2432 → length page.rows < 20000
    → SpellsRow width page.reference row bits → PageWay width (between page) (between (row_added page row)) bits
row_way width page row bits some wide room spells = line_way width page spells.0 line_begin (between page) row bits wide (between_takes
    width page room) (λ e. absurd (omega arith)) spells.1

pub rows_way : (width : ℕ) (more : List (List Color)) (page : PageSoFar) (bits : List Bool) → 0 < width → width ≤ 2432
    → length page.rows + length more ≤ 20000 → SpellsRows width page.reference more bits
    → (reference : List Color) × PageWay width (between page) (between (record { rows = page.rows ++ more; reference = reference })) bits
rows_way width [] page bits some wide few spells = (
  page.reference,
  rw (spells, append-nil) (way_none page_item_word (PageStep width)
      (between page)),
)
rows_way width (row ∷ more) page bits some wide few spells =
    let first = row_way width page row spells.0 some wide (omega arith) spells.2 in
    let later = rows_way width more (row_added page row) spells.1 some wide (omega (arith, length_push page.rows row)) spells.3 in
    let regroup : (page.rows ++ row ∷ []) ++ more ≡ page.rows ++ row ∷ more = append_assoc page.rows (row ∷ []) more in (
      later.0,
      rw spells.4 (way_on page_item_word (PageStep width) (between page) (between (row_added page row)) (between (record {
        rows =
            page.rows ++ row ∷ more;
        reference = later.0;
      })) spells.0 spells.1 first (rw regroup at later.1)),
    )

-- what is spelled is read
pub reads_all : (width : ℕ) (x : List Bool) (rows : List (List Color)) (used : ℕ) → 0 < width → width ≤ 2432
    → ReadsAsPage width x rows used → read_page width x ≡ Ok (rows, used)
unfolding reading
reads_all width x rows used some wide reads =
    let ways = rows_way width rows (record { rows = []; reference = white_line width }) reads.front some wide (omega (arith, reads.few))
    reads.spells in
    let end : PageState = between (record { rows = rows; reference = ways.0 }) in
    let split : spell page_item_word ways.1.items ++ (eofb ++ reads.rest) ≡ x = ap (λ l. l ++ (eofb ++ reads.rest)) ways.1.spelled ∙
    sym reads.split in
    let less : length (spell page_item_word ways.1.items ++ (eofb ++ reads.rest)) < suc (length x) = omega (arith, ap length split) in
    let last = answers_there page_item_word (PageStep width) (page_look width) BadCode (finds width) ways.1.items (suc (length x))
    (page_begin width) end 0 (eofb ++ reads.rest) rows 24 ways.1.walk less (ending rows reads.some) in
    let places : 0 + length (spell page_item_word ways.1.items) + 24 ≡ used = omega (arith, ap length ways.1.spelled, reads.used_is) in
    rw (split, places) at last
  where
    ending : (all : List (List Color)) → 0 < length all → page_end all ≡ stop all 24
    ending [] h = absurd (omega arith)
    ending (row ∷ all) h = refl
