-- Where the grammar is after whole items of a T.6 page: the reference line has the width, a line that isn't whole is shorter, and runs fit.
use Rattle.std.proofs.Common.{ltb, ℕ, ◌≡◌, ◌+◌, ◌-◌, ◌<◌, ◌≤◌, Bool, true, false, List, [], ◌∷◌, ◌++◌, length, replicate, Some, None, refl}
use Rattle.std.proofs.Common.{arith, cond, nat_eq, length-append}
use Rattle.std.specs.Prelude.{Option, Result, Ok, Err}
use Rattle.std.proofs.lemmas.Bool.{ltb-false, eqb-true, eqb-false}
use Rattle.std.proofs.lemmas.List.{length_push, length-replicate}
use Rattle.raster.specs.declared.row.Color.{Color}
use Rattle.raster.specs.Pixels.{other}
use Rattle.run_tables.specs.declared.fault.CodeFaultKind.{CodeFaultKind}
use Rattle.run_tables.specs.declared.fault.CodeFaultKind.TheVariants.{PastEnd, Backwards, EmptyHorizontal}
use Rattle.run_tables.specs.Fronts.{Walk}
use Rattle.run_tables.specs.RowFronts.{run_of, amount}
use Rattle.page_code.specs.declared.t6.mode.ModeCode.{ModeCode}
use Rattle.page_code.specs.declared.t6.mode.ModeCode.TheVariants.{Pass, Horizontal, Vertical}
use Rattle.page_code.specs.TwoDimensions.Positions.{CodingLine, line_begin, right_of_a0, filled_to, b1_of, b2_of}
use Rattle.page_code.specs.TwoDimensions.Modes.{to_right, to_left, runs_added}
use Rattle.page_code.specs.TwoDimensions.Fronts.{PageItem, PageSoFar, PageState, page_begin, row_added, mode_ended, after_mode, run_ended}
use Rattle.page_code.specs.TwoDimensions.Fronts.{after_run, PageStep}
use Rattle.page_code.specs.TwoDimensions.Fronts.PageItem.{mode_item, run_item}
use Rattle.page_code.specs.TwoDimensions.Fronts.PageState.{between, inside, running}

-- a make-up code has pixels
abbrev pub HasPixels : Option ℕ → Type 0
HasPixels None = Unit {0}
HasPixels (Some makeup) = 0 < makeup

-- a row of the page is read: so many rows before it, and the line up to a0
pub record InRow (width : ℕ) (page : PageSoFar) (line : CodingLine) : Type 0 where
  pub wide : length page.reference ≡ width
  pub short : length line.pixels < width
  pub room : length page.rows < 20000

abbrev pub Stands : ℕ → PageState → Type 0
Stands width (between page) = (length page.reference ≡ width) × (length page.rows ≤ 20000)
Stands width (inside page line) = InRow width page line
Stands width (running page line first makeup) =
    InRow width page line × (length line.pixels + amount first + amount makeup ≤ width) × HasPixels makeup

-- the pixels of a line that was filled, or to which runs were added
pub filled_count : (line : CodingLine) (place : ℕ) → length (filled_to line place) ≡ length line.pixels + (place - length line.pixels)
filled_count line place = omega (
  arith,
  length-append line.pixels (replicate (place - length line.pixels) line.color),
  length-replicate (place - length line.pixels) line.color,
)

pub runs_count : (line : CodingLine) (a0a1 a1a2 : ℕ) → length (runs_added line a0a1 a1a2).pixels ≡ length line.pixels + a0a1 + a1a2
runs_count line a0a1 a1a2 =
    let one : List Color = line.pixels ++ replicate a0a1 line.color in
    let two : List Color = replicate a1a2 (other line.color) in
    let sum : length (one ++ two) ≡ length line.pixels + a0a1 + a1a2 = omega (
      arith,
      length-append one two,
      length-append line.pixels (replicate a0a1 line.color),
      length-replicate a0a1 line.color,
      length-replicate a1a2 (other line.color),
    ) in
    sum

-- after a mode
ended_stands : (width : ℕ) (page : PageSoFar) (line : CodingLine) (t : PageState) → length page.reference ≡ width
    → length page.rows < 20000 → length line.pixels ≤ width
    → ◌≡◌ {A = Result PageState CodeFaultKind} (Ok (mode_ended width page line)) (Ok t) → Stands width t
ended_stands width page line t wide room fits e =
    let led : mode_ended width page line ≡ t = cc in
    rw (← led) (seen (nat_eq (length line.pixels) width) refl)
  where
    seen : (b : Bool) → nat_eq (length line.pixels) width ≡ b → Stands width (cond b (between (row_added page line.pixels)) (inside page
        line))
    seen true is = (eqb-true (length line.pixels) width is, omega (arith, length_push page.rows line.pixels))
    seen false is = record { wide = wide; short = omega (arith, eqb-false (length line.pixels) width is); room = room }

-- what isn't refused goes on, and the test doesn't hold
pub not_refused : (b : Bool) (k : CodeFaultKind) (r : Result PageState CodeFaultKind) (t : PageState) → cond b (Err k) r ≡ Ok t
    → (b ≡ false) × (r ≡ Ok t)
not_refused true k r t e = cc
not_refused false k r t e = (refl, e)

mode_stands : (width : ℕ) (page : PageSoFar) (line : CodingLine) (code : ModeCode) (t : PageState) → InRow width page line
    → after_mode width page line code ≡ Ok t → Stands width t
unfolding after_mode
mode_stands width page line Pass t row e =
    let b2 : ℕ = b2_of page.reference line in
    let next : CodingLine = record { pixels = filled_to line b2; begun = true; color = line.color } in
    let on = not_refused (ltb b2 (right_of_a0 line)) Backwards _ t e in
    let fits = not_refused (ltb width b2) PastEnd (Ok (mode_ended width page next)) t on.1 in
    ended_stands width page next t row.wide row.room (omega (arith, filled_count line b2, row.short, ltb-false width b2 fits.0)) fits.1
mode_stands width page line Horizontal t row e =
    let led : running page line None None ≡ t = cc in
    rw (← led) (row, omega (arith, row.short), tt)
mode_stands width page line (Vertical shift) t row e =
    let b1 : ℕ = b1_of page.reference line in
    let a1 : ℕ = b1 + to_right shift - to_left shift in
    let next : CodingLine = record { pixels = filled_to line a1; begun = true; color = other line.color } in
    let on = not_refused (ltb (b1 + to_right shift) (right_of_a0 line + to_left shift)) Backwards _ t e in
    let fits = not_refused (ltb (width + to_left shift) (b1 + to_right shift)) PastEnd (Ok (mode_ended width page next)) t on.1 in
    let far = ltb-false (width + to_left shift) (b1 + to_right shift) fits.0 in
    ended_stands width page next t row.wide row.room (omega (arith, filled_count line a1, row.short, far)) fits.1

run_ended_stands : (width : ℕ) (page : PageSoFar) (line : CodingLine) (first : Option ℕ) (run : ℕ) (t : PageState) → InRow width page line
    → length line.pixels + amount first + run ≤ width → run_ended width page line first run ≡ Ok t → Stands width t
run_ended_stands width page line None run t row fits e =
    let led : running page line (Some run) None ≡ t = cc in
    rw (← led) (row, omega (arith, fits), tt)
run_ended_stands width page line (Some a0a1) run t row fits e =
    let on = not_refused (nat_eq (a0a1 + run) 0) EmptyHorizontal (Ok (mode_ended width page (runs_added line a0a1 run))) t e in
    ended_stands width page (runs_added line a0a1 run) t row.wide row.room (omega (arith, runs_count line a0a1 run, fits)) on.1

run_stands : (width : ℕ) (page : PageSoFar) (line : CodingLine) (first makeup : Option ℕ) (run : ℕ) (t : PageState) → InRow width page line
    → after_run width page line first makeup run ≡ Ok t → Stands width t
unfolding after_run
run_stands width page line first makeup run t row e =
    let on = not_refused (ltb width (length line.pixels + amount first + (amount makeup + run))) PastEnd (cond (ltb run 64) (run_ended width
    page line first (amount makeup + run)) (Ok (running page line first (Some run)))) t e in
    let fits = ltb-false width (length line.pixels + amount first + (amount makeup + run)) on.0 in
    seen fits (ltb run 64) refl on.1
  where
    seen : length line.pixels + amount first + (amount makeup + run) ≤ width → (b : Bool) → ltb run 64 ≡ b
        → cond b (run_ended width page line first (amount makeup + run)) (Ok (running page line first (Some run))) ≡ Ok t
        → Stands width t
    seen fits true is e = run_ended_stands width page line first (amount makeup + run) t row fits e
    seen fits false is e =
        let led : running page line first (Some run) ≡ t = cc in
        rw (← led) (row, omega (arith, fits), omega (arith, ltb-false run 64 is))

-- where a row may begin
pub row_start : (width : ℕ) (page : PageSoFar) → 0 < width → length page.reference ≡ width → length page.rows < 20000
    → InRow width page line_begin
row_start width page some wide room = record { wide = wide; short = some; room = room }

step_stands : (width : ℕ) (s : PageState) (i : PageItem) (t : PageState) → 0 < width → PageStep width s i t → Stands width s
    → Stands width t
step_stands width (between page) (mode_item code) t some step h = mode_stands width page line_begin code t (row_start width page some h.0
    step.0) step.1.leads
step_stands width (inside page line) (mode_item code) t some step h = mode_stands width page line code t h step.leads
step_stands width (running page line first makeup) (mode_item code) t some step h = absurd step
step_stands width (between page) (run_item code) t some step h = absurd step
step_stands width (inside page line) (run_item code) t some step h = absurd step
step_stands width (running page line first makeup) (run_item code) t some step h = run_stands width page line first makeup (run_of code) t
    h.0 step.leads

pub walk_stands : (width : ℕ) (items : List PageItem) (s t : PageState) → 0 < width → Walk (PageStep width) s items t → Stands width s
    → Stands width t
walk_stands width [] s t some walk h = rw walk at h
walk_stands width (i ∷ items) s t some walk h = walk_stands width items walk.0 t some walk.2 (step_stands width s i walk.0 some walk.1 h)

-- after whole items of a page
pub front_stands : (width : ℕ) (items : List PageItem) (t : PageState) → 0 < width → Walk (PageStep width) (page_begin width) items t
    → Stands width t
front_stands width items t some walk = walk_stands width items (page_begin width) t some walk (length-replicate width _, omega arith)
