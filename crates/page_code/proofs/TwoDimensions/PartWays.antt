-- Whole codes of a T.6 page lead, item by item, to where they say.
use Rattle.std.proofs.Common.{ℕ, ◌≡◌, ◌+◌, ◌*◌, ◌<◌, ◌≤◌, inl, inr, Bool, true, List, [], ◌∷◌, ◌++◌, length, Some, None, refl, ap}
use Rattle.std.proofs.Common.{subst, sym, ◌∙◌, arith, append_assoc}
use Rattle.std.specs.Prelude.{Option, Ok}
use Rattle.std.proofs.lemmas.Bool.{cases_eq, false≢true}
use Rattle.std.proofs.lemmas.List.{length_push, append-nil}
use Rattle.raster.specs.declared.row.Color.{Color}
use Rattle.raster.specs.Pixels.{IsWidth}
use Rattle.run_tables.specs.Codes.{code_word}
use Rattle.run_tables.specs.RowFronts.{amount}
use Rattle.run_tables.specs.RowFronts.RunItem.{run_item as run_code}
use Rattle.run_tables.proofs.FrontWalks.{way_none, way_on, way_by}
use Rattle.page_code.specs.declared.t6.mode.ModeCode.TheVariants.{Horizontal}
use Rattle.page_code.specs.TwoDimensions.Positions.{CodingLine, line_begin, white_line}
use Rattle.page_code.specs.TwoDimensions.Modes.{horizontal_word, Mode, mode_words, SpellsRows}
use Rattle.page_code.specs.TwoDimensions.Fronts.{page_item_word, PageSoFar, PageState, page_begin, row_added, after_mode, run_color}
use Rattle.page_code.specs.TwoDimensions.Fronts.{PageStep}
use Rattle.page_code.specs.TwoDimensions.Fronts.PageItem.{run_item}
use Rattle.page_code.specs.TwoDimensions.Fronts.PageState.{between, inside, running}
use Rattle.page_code.specs.TwoDimensions.Kinds.{AreRows, SpellsModes, AreModes, first_words, IsMakeup, AreRuns, IsPagePart}
use Rattle.page_code.specs.TwoDimensions.Writing.{reference_at}
use Rattle.page_code.proofs.TwoDimensions.Parts.{step_fits, makeup_long}
use Rattle.page_code.proofs.TwoDimensions.Reading.{mode_ended_short}
use Rattle.page_code.proofs.TwoDimensions.ReadsAll.{PageWay, TakesMode, begun_after, full_stuck, by_mode, mode_way, run_way, high_step}
use Rattle.page_code.proofs.TwoDimensions.ReadsAll.{row_way}
use Rattle.page_code.proofs.TwoDimensions.ReadsAll.{inside_takes, between_takes}
use Rattle.page_code.proofs.TwoDimensions.StepsOn.{mode_stands}

-- ---- rows

rows_lead : (width : ℕ) (more : List (List Color)) (page : PageSoFar) (bits : List Bool) → 0 < width → width ≤ 2432
    → length page.rows + length more ≤ 20000 → SpellsRows width page.reference more bits
    → PageWay width (between page) (between (record {
      rows = page.rows ++ more;
      reference = reference_at page.reference more (length more);
    })) bits
rows_lead width [] page bits some wide few spells = rw (spells, append-nil) (way_none page_item_word (PageStep width) (between page))
rows_lead width (row ∷ more) page bits some wide few spells =
    let first = row_way width page row spells.0 some wide (omega arith) spells.2 in
    let later = rows_lead width more (row_added page row) spells.1 some wide (omega (arith, length_push page.rows row)) spells.3 in
    let regroup : (page.rows ++ row ∷ []) ++ more ≡ page.rows ++ row ∷ more = append_assoc page.rows (row ∷ []) more in
    rw spells.4 (way_on page_item_word (PageStep width) (between page) (between (row_added page row)) (between (record {
      rows = page.rows ++ row ∷ more;
      reference = reference_at row more (length more);
    })) spells.0 spells.1 first (rw regroup at later))

rows_way_to : (width : ℕ) (front : List Bool) (page : PageSoFar) → IsWidth width → AreRows width front page
    → PageWay width (page_begin width) (between page) front
rows_way_to width front page wide rows =
    let there = rows_lead width page.rows (record { rows = []; reference = white_line width }) front (omega (arith, wide.0)) wide.1 (omega
    (arith, rows.few)) rows.spells in
    let same : ◌≡◌ {A = PageSoFar} (record {
      rows = page.rows;
      reference = reference_at (white_line width) page.rows (length page.rows);
    }) page = ap (λ (r : List Color). record { rows = page.rows; reference = r }) (sym rows.reference_is) in
    subst (λ (p : PageSoFar). PageWay width (page_begin width) (between p) front) same there

-- ---- modes

modes_lead : (width : ℕ) (page : PageSoFar) (modes : List Mode) (line next : CodingLine) (s : PageState) (bits : List Bool) → width ≤ 2432
    → TakesMode width page line s → length line.pixels ≤ width → (modes ≡ [] → ⊥) → length next.pixels < width
    → SpellsModes width page.reference line modes next bits → PageWay width s (inside page next) bits
modes_lead width page [] line next s bits wide at fits some short spells = absurd (some refl)
modes_lead width page (mode ∷ modes) line next s bits wide at fits some short spells =
    let moved : CodingLine = spells.0 in
    let on = step_fits width page.reference line moved mode spells.2 fits in
    let less : length moved.pixels < width = elim (cases_eq (length moved.pixels) width) [
      | inl full ↦ absurd (ended modes full spells.4)
      | inr ne ↦ omega (arith, on)
    ] in
    let step = mode_way width page line moved mode s wide at spells.2 in
    let here : PageWay width s (inside page moved) (mode_words line.color mode) = rw (mode_ended_short width page moved less) at step in
    rw spells.3 (way_on page_item_word (PageStep width) s (inside page moved) (inside page next) (mode_words line.color mode) spells.1 here
    (after modes refl on (λ other. modes_lead width page modes moved next (inside page moved) spells.1 wide (inside_takes width page moved)
    on
    other short spells.4)))
  where
    ended : (js : List Mode) → length spells.0.pixels ≡ width → SpellsModes width page.reference spells.0 js next spells.1 → ⊥
    ended [] full tail = omega (arith, short, full, ap (λ (l : CodingLine). length l.pixels) tail.0)
    ended (j ∷ js) full tail = full_stuck width page.reference spells.0 tail.0 j tail.2 (begun_after width page.reference line spells.0 mode
        spells.2) full

    after : (js : List Mode) → js ≡ modes → length spells.0.pixels ≤ width → ((modes ≡ [] → ⊥)
        → PageWay width (inside page spells.0) (inside page next) spells.1) → PageWay width (inside page spells.0) (inside page next)
        spells.1
    after [] is on again =
        let tail : SpellsModes width page.reference spells.0 [] next spells.1 = subst (λ js. SpellsModes width page.reference spells.0 js
        next
        spells.1) (sym is) spells.4 in
        rw (← tail.0, tail.1) (way_none page_item_word (PageStep width) (inside page spells.0))
    after (j ∷ js) is on again = again (λ none. let both : j ∷ js ≡ [] = is ∙ none in cc)

-- where a mode code may come, after rows and modes
record LinePlace (width : ℕ) (front : List Bool) (page : PageSoFar) (line : CodingLine) : Type 0 where
  state : PageState
  way : PageWay width (page_begin width) state front
  takes : TakesMode width page line state

modes_place : (width : ℕ) (front : List Bool) (page : PageSoFar) (line : CodingLine) → IsWidth width
    → (part : AreModes width front page line) → (modes : List Mode) → modes ≡ part.modes → LinePlace width front page line
modes_place width front page line wide part [] is =
    let tail : SpellsModes width page.reference line_begin [] line part.later = subst (λ js. SpellsModes width page.reference line_begin js
    line
    part.later) (sym is) part.spells in
    let split : front ≡ part.before = part.split ∙ (ap (λ l. part.before ++ l) tail.1 ∙ append-nil part.before) in
    record {
      state = between page;
      way = rw split (rows_way_to width part.before page wide part.rows);
      takes = subst (λ (l : CodingLine). TakesMode width page l (between page)) tail.0 (between_takes width page part.room);
    }
modes_place width front page line wide part (mode ∷ modes) is = record {
  state = inside page line;
  way = rw part.split (way_on page_item_word (PageStep width) (page_begin width) (between page) (inside page line) part.before part.later
      (rows_way_to width part.before page wide part.rows) (modes_lead width page part.modes line_begin line (between page) part.later wide.1
      (between_takes width page part.room) (omega arith) (λ none. let both : mode ∷ modes ≡ [] = is ∙ none in cc) part.short part.spells));
  takes = inside_takes width page line;
}

modes_inside : (width : ℕ) (front : List Bool) (page : PageSoFar) (line : CodingLine) → IsWidth width
    → (part : AreModes width front page line) → line.begun ≡ true → (modes : List Mode) → modes ≡ part.modes
    → PageWay width (page_begin width) (inside page line) front
unfolding modes_place
modes_inside width front page line wide part begun [] is =
    let tail : SpellsModes width page.reference line_begin [] line part.later = subst (λ js. SpellsModes width page.reference line_begin js
    line
    part.later) (sym is) part.spells in
    absurd (false≢true (ap (λ (l : CodingLine). l.begun) tail.0 ∙ begun))
modes_inside width front page line wide part begun (mode ∷ modes) is = (modes_place width front page line wide part (mode ∷ modes) is).way

-- ---- runs

first_way : (width : ℕ) (page : PageSoFar) (line : CodingLine) (first : Option ℕ) → width ≤ 2432
    → length line.pixels + amount first ≤ width
    → PageWay width (running page line None None) (running page line first None) (first_words line.color first)
first_way width page line None wide fits = way_none page_item_word (PageStep width) (running page line None None)
first_way width page line (Some run) wide fits = run_way width page line None run (running page line (Some run) None) (omega arith) (omega
    arith) refl

makeup_way : (width : ℕ) (page : PageSoFar) (line : CodingLine) (first makeup : Option ℕ) (bits : List Bool)
    → IsMakeup (run_color line first) makeup bits → length line.pixels + amount first + amount makeup ≤ width
    → PageWay width (running page line first None) (running page line first makeup) bits
makeup_way width page line first None bits is fits = rw is (way_none page_item_word (PageStep width) (running page line first None))
makeup_way width page line first (Some m) bits is fits =
    let long = makeup_long (run_color line first) m bits is in
    high_way long.0 m bits long.1 long.2 long.3 long.4 fits
  where
    high_way : (q n : ℕ) (word : List Bool) → 0 < q → q < 41 → n ≡ 64 * q → word ≡ code_word (run_color line first) (64 * q)
        → length line.pixels + amount first + n ≤ width
        → PageWay width (running page line first None) (running page line first (Some n)) word
    high_way q n word some few is_q word_is fits = rw (word_is, is_q) (way_by page_item_word (PageStep width) (running page line first
        None) (running page line first (Some (64 * q))) (run_item (run_code (run_color line first) (64 * q))) (high_step width page line
        first
        q some few (omega (arith, fits, is_q))))

flag_leads : (width : ℕ) (page : PageSoFar) (line : CodingLine) → after_mode width page line Horizontal ≡ Ok (running page line None None)
unfolding after_mode
flag_leads width page line = refl

runs_way : (width : ℕ) (front : List Bool) (page : PageSoFar) (line : CodingLine) (first makeup : Option ℕ) → IsWidth width
    → AreRuns width front page line first makeup → PageWay width (page_begin width) (running page line first makeup) front
runs_way width front page line first makeup wide part =
    let at : LinePlace width part.before page line = modes_place width part.before page line wide part.modes part.modes.modes refl in
    let words : List Bool = first_words line.color first in
    let flag = by_mode width page line at.state (running page line None None) Horizontal at.takes (mode_stands Horizontal) (flag_leads width
    page line) in
    let runs = way_on page_item_word (PageStep width) (running page line None None) (running page line first None) (running page line first
    makeup) words part.later (first_way width page line first wide.1 (omega (arith, part.within))) (makeup_way width page line first makeup
    part.later part.makeup_is part.within) in
    rw part.split (way_on page_item_word (PageStep width) (page_begin width) at.state (running page line first makeup) part.before
    (horizontal_word ++ (words ++ part.later)) at.way (way_on page_item_word (PageStep width) at.state (running page line None None)
    (running
    page line first makeup) horizontal_word (words ++ part.later) flag runs))

-- whole codes lead to where they say
pub part_way : (width : ℕ) (front : List Bool) (s : PageState) → IsWidth width → IsPagePart width front s
    → PageWay width (page_begin width) s front
part_way width front (between page) wide part = rows_way_to width front page wide part
part_way width front (inside page line) wide part = modes_inside width front page line wide part.0 part.1 part.0.modes refl
part_way width front (running page line first makeup) wide part = runs_way width front page line first makeup wide part
