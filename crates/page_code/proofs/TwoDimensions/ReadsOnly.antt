-- What is read is so spelled (ITU-T T.6, 2.2).
use Rattle.std.proofs.Common.{ltb, ℕ, suc, ◌≡◌, ◌+◌, ◌-◌, ◌<◌, ◌≤◌, Bool, true, false, List, [], ◌∷◌, ◌++◌, length, drop, Some, None, refl}
use Rattle.std.proofs.Common.{sym, ◌∙◌, arith, cond, nat_eq, length-append, append_assoc}
use Rattle.std.specs.Prelude.{Option, Result, Ok, Err}
use Rattle.std.proofs.lemmas.List.{length_push, append-nil}
use Rattle.raster.specs.declared.row.Color.{Color}
use Rattle.raster.specs.Pixels.{other}
use Rattle.run_tables.specs.declared.fault.CodeFaultKind.{CodeFaultKind}
use Rattle.run_tables.specs.declared.fault.CodeFaultKind.TheVariants.{BadCode, Truncated, MissingEofb, TooManyCodedRows, PastEnd, Backwards}
use Rattle.run_tables.specs.declared.fault.CodeFaultKind.TheVariants.{EmptyHorizontal}
use Rattle.run_tables.specs.Texts.{begins, all_zero}
use Rattle.run_tables.specs.Fronts.{Walk, spell}
use Rattle.run_tables.specs.Fronts.Look.{stop, refuse}
use Rattle.run_tables.specs.RowFronts.{run_of, amount}
use Rattle.run_tables.proofs.BeginsLemmas.{begins_split}
use Rattle.run_tables.proofs.FrontLaws.{halts}
use Rattle.run_tables.proofs.FrontWalks.{stops}
use Rattle.page_code.specs.TwoDimensions.Positions.{CodingLine, line_begin, right_of_a0, filled_to, white_line, b1_of, b2_of}
use Rattle.page_code.specs.TwoDimensions.Modes.{to_right, to_left, eofb, runs_added, ReadsAsPage}
use Rattle.page_code.specs.declared.t6.mode.ModeCode.{ModeCode}
use Rattle.page_code.specs.TwoDimensions.Fronts.{PageItem, page_item_word, PageSoFar, PageState, page_begin, row_added, mode_ended}
use Rattle.page_code.specs.TwoDimensions.Fronts.{after_mode, run_ended, after_run, PageStep, look_mode, page_end, page_look, reading}
use Rattle.page_code.specs.TwoDimensions.Fronts.{read_page}
use Rattle.page_code.specs.declared.t6.mode.ModeCode.TheVariants.{Pass, Horizontal, Vertical}
use Rattle.page_code.specs.TwoDimensions.Fronts.PageItem.{mode_item, run_item}
use Rattle.page_code.specs.TwoDimensions.Fronts.PageState.{between, inside, running}
use Rattle.page_code.proofs.TwoDimensions.PageLook.{finds, mode_never_stops, run_never_stops}
use Rattle.page_code.proofs.TwoDimensions.WhatIsLeft.{PageLeft, Left, item_left}

-- No more rows than a page may have

abbrev Bounded : PageState → Type 0
Bounded (between page) = length page.rows ≤ 20000
Bounded (inside page line) = length page.rows < 20000
Bounded (running page line first makeup) = length page.rows < 20000

pub let_pass : (b : Bool) (k : CodeFaultKind) (r : Result PageState CodeFaultKind) (t : PageState) → cond b (Err k) r ≡ Ok t → r ≡ Ok t
let_pass true k r t e = cc
let_pass false k r t e = e

after_bounded : (width : ℕ) (page : PageSoFar) (line : CodingLine) (t : PageState) → length page.rows < 20000
    → ◌≡◌ {A = Result PageState CodeFaultKind} (Ok (mode_ended width page line)) (Ok t) → Bounded t
after_bounded width page line t h e =
    let led : mode_ended width page line ≡ t = cc in
    rw (← led) (seen (nat_eq (length line.pixels) width))
  where
    seen : (b : Bool) → Bounded (cond b (between (row_added page line.pixels)) (inside page line))
    seen true = omega (arith, length_push page.rows line.pixels)
    seen false = h

mode_bounded : (width : ℕ) (page : PageSoFar) (line : CodingLine) (code : ModeCode) (t : PageState) → length page.rows < 20000
    → after_mode width page line code ≡ Ok t → Bounded t
unfolding after_mode
mode_bounded width page line Pass t h e =
    let b2 : ℕ = b2_of page.reference line in
    let next : CodingLine = record { pixels = filled_to line b2; begun = true; color = line.color } in
    after_bounded width page next t h (let_pass (ltb width b2) PastEnd (Ok (mode_ended width page next)) t (let_pass (ltb b2 (right_of_a0
    line)) Backwards _ t e))
mode_bounded width page line Horizontal t h e = let led : t ≡ running page line None None = cc in rw led h
mode_bounded width page line (Vertical shift) t h e =
    let b1 : ℕ = b1_of page.reference line in
    let next : CodingLine = record { pixels = filled_to line (b1 + to_right shift - to_left shift); begun = true; color = other line.color }
    in
    after_bounded width page next t h (let_pass (ltb (width + to_left shift) (b1 + to_right shift)) PastEnd (Ok (mode_ended width page
    next)) t (let_pass (ltb (b1 + to_right shift) (right_of_a0 line + to_left shift)) Backwards _ t e))

run_ended_bounded : (width : ℕ) (page : PageSoFar) (line : CodingLine) (first : Option ℕ) (run : ℕ) (t : PageState)
    → length page.rows < 20000 → run_ended width page line first run ≡ Ok t → Bounded t
run_ended_bounded width page line None run t h e = let led : t ≡ running page line (Some run) None = cc in rw led h
run_ended_bounded width page line (Some a0a1) run t h e = after_bounded width page (runs_added line a0a1 run) t h (let_pass (nat_eq (a0a1 +
    run) 0) EmptyHorizontal (Ok (mode_ended width page (runs_added line a0a1 run))) t e)

run_bounded : (width : ℕ) (page : PageSoFar) (line : CodingLine) (first makeup : Option ℕ) (run : ℕ) (t : PageState)
    → length page.rows < 20000 → after_run width page line first makeup run ≡ Ok t → Bounded t
unfolding after_run
run_bounded width page line first makeup run t h e = seen (ltb run 64) (let_pass (ltb width (length line.pixels + amount first + (amount
    makeup + run))) PastEnd (cond (ltb run 64) (run_ended width page line first (amount makeup + run)) (Ok (running page line first (Some
    run)))) t e)
  where
    seen : (b : Bool) → cond b (run_ended width page line first (amount makeup + run)) (Ok (running page line first (Some run))) ≡ Ok t
        → Bounded t
    seen true e = run_ended_bounded width page line first (amount makeup + run) t h e
    seen false e = let led : t ≡ running page line first (Some run) = cc in rw led h

step_bounded : (width : ℕ) (s : PageState) (i : PageItem) (t : PageState) → PageStep width s i t → Bounded s → Bounded t
step_bounded width (between page) (mode_item code) t step h = mode_bounded width page line_begin code t step.0 step.1.leads
step_bounded width (inside page line) (mode_item code) t step h = mode_bounded width page line code t h step.leads
step_bounded width (running page line first makeup) (mode_item code) t step h = absurd step
step_bounded width (between page) (run_item code) t step h = absurd step
step_bounded width (inside page line) (run_item code) t step h = absurd step
step_bounded width (running page line first makeup) (run_item code) t step h = run_bounded width page line first makeup (run_of code) t h
    step.leads

-- The end

at_end : (width : ℕ) (s : PageState) (x : List Bool) (rows : List (List Color)) (n : ℕ) → Bounded s → page_look width s x ≡ stop rows n
    → Left width s x rows n
at_end width (between page) x rows n bounded e = seen (begins eofb x) (all_zero x) (begins x eofb) (ltb (length page.rows) 20000) refl e
  where
    ended : (all : List (List Color)) → page_end all ≡ stop rows n → (rows ≡ all) × (0 < length all) × (n ≡ 24)
    ended [] e = cc
    ended (row ∷ all) e = (cc, omega arith, cc)

    seen : (a b c d : Bool) → begins eofb x ≡ a
        → cond a (page_end page.rows) (cond b (refuse MissingEofb) (cond c (refuse Truncated) (cond d (look_mode width page line_begin x)
        (refuse TooManyCodedRows)))) ≡ stop rows n → PageLeft width page x rows n
    seen true b c d is e =
        let end = ended page.rows e in
        record {
          more = [];
          bits = [];
          rest = drop (length eofb) x;
          spells = refl;
          split = begins_split eofb x is;
          rows_are = end.0 ∙
              sym (append-nil page.rows);
          some = rw end.0 end.1;
          few = rw end.0 bounded;
          used_is = omega (arith, end.2);
        }
    seen false true c d is e = cc
    seen false false true d is e = cc
    seen false false false false is e = cc
    seen false false false true is e = absurd (mode_never_stops width page line_begin x rows n e)
at_end width (inside page line) x rows n bounded e = absurd (mode_never_stops width page line x rows n e)
at_end width (running page line first makeup) x rows n bounded e = absurd (run_never_stops width page line first makeup x rows n e)

walk_left : (width : ℕ) (items : List PageItem) (s t : PageState) (y : List Bool) (rows : List (List Color)) (n : ℕ)
    → Walk (PageStep width) s items t → Bounded s → page_look width t y ≡ stop rows n
    → Left width s (spell page_item_word items ++ y) rows (length (spell page_item_word items) + n)
walk_left width [] s t y rows n walk bounded e =
    let zero_more : 0 + n ≡ n = omega arith in
    rw zero_more (at_end width s y rows n bounded (rw (← walk) at e))
walk_left width (i ∷ is) s t y rows n walk bounded e =
    let left = walk_left width is walk.0 t y rows n walk.2 (step_bounded width s i walk.0 walk.1 bounded) e in
    let whole = item_left width s i walk.0 (spell page_item_word is ++ y) rows (length (spell page_item_word is) + n) walk.1 left in
    let places : length (page_item_word i) + (length (spell page_item_word is) + n) ≡ length (page_item_word i ++ spell page_item_word is) +
    n = omega (arith, length-append (page_item_word i) (spell page_item_word is)) in
    rw (append_assoc, ← places) whole

-- what is read is so spelled
pub reads_only : (width : ℕ) (x : List Bool) (rows : List (List Color)) (used : ℕ) → read_page width x ≡ Ok (rows, used)
    → ReadsAsPage width x rows used
unfolding reading
reads_only width x rows used e =
    let h = halts page_item_word (PageStep width) (page_look width) BadCode (finds width) (suc (length x)) (page_begin width) 0 x (omega
    arith) in
    let answer = stops (page_look width h.end h.rest) (0 + length (spell page_item_word h.items)) used rows (rw e at h.answers) in
    let left : PageLeft width (record { rows = []; reference = white_line width }) (spell page_item_word h.items ++ h.rest) rows (length
    (spell page_item_word h.items) + answer.0) = walk_left width h.items (page_begin width) h.end h.rest rows answer.0 h.walk (omega
    arith) answer.1 in
    let split : spell page_item_word h.items ++ h.rest ≡ left.bits ++ (eofb ++ left.rest) = left.split in
    record {
      some = left.some;
      few = left.few;
      front = left.bits;
      rest = left.rest;
      spells = rw (← left.rows_are) at left.spells;
      split = rw
          (← split) h.spelled;
      used_is = omega (arith, answer.2, left.used_is);
    }
