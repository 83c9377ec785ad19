-- What a T.6 reader has left of a page at each state: an item that may be there, before what is left after it, is what was left.
use Rattle.std.proofs.Common.{ltb, ℕ, ◌≡◌, ◌+◌, ◌-◌, ◌*◌, ◌<◌, ◌≤◌, inl, inr, Bool, true, false, List, [], ◌∷◌, ◌++◌, length, Some, None}
use Rattle.std.proofs.Common.{refl, ap, sym, ◌∙◌, arith, cond, nat_eq, length-append, append_assoc}
use Rattle.std.specs.Prelude.{Option, Result, Ok, Err}
use Rattle.std.proofs.lemmas.Bool.{ltb-true, ltb-false, eqb-true, eqb-false, cases_lt}
use Rattle.raster.specs.declared.row.Color.{Color}
use Rattle.raster.specs.Pixels.{other}
use Rattle.run_tables.specs.declared.fault.CodeFaultKind.{CodeFaultKind}
use Rattle.run_tables.specs.declared.fault.CodeFaultKind.TheVariants.{PastEnd, Backwards, EmptyHorizontal}
use Rattle.run_tables.specs.Codes.{code_word, run_words, run_at}
use Rattle.run_tables.specs.RowFronts.{codes_after, amount}
use Rattle.run_tables.specs.RowFronts.RunItem.{run_item as run_code}
use Rattle.run_tables.proofs.CodeLooks.{listed}
use Rattle.run_tables.proofs.RowSpelling.{IsRunRest, rest_low, rest_high, run_at_low, run_at_high}
use Rattle.page_code.specs.TwoDimensions.Positions.{CodingLine, line_begin, right_of_a0, filled_to, IsB1, IsB2, b1_of, b2_of}
use Rattle.page_code.specs.declared.t6.mode.Shift.{Shift}
use Rattle.page_code.specs.TwoDimensions.Modes.{to_right, to_left, pass_word, horizontal_word, vertical_word, eofb, Mode, mode_words}
use Rattle.page_code.specs.TwoDimensions.Modes.{runs_added, IsStep, SpellsLine, SpellsRows}
use Rattle.page_code.specs.TwoDimensions.Modes.Mode.{pass, vertical, horizontal}
use Rattle.page_code.specs.declared.t6.mode.ModeCode.{ModeCode}
use Rattle.page_code.specs.TwoDimensions.Fronts.{mode_word, PageItem, page_item_word, PageSoFar, PageState, row_added, mode_ended}
use Rattle.page_code.specs.TwoDimensions.Fronts.{after_mode, run_color, run_ended, after_run, PageStep}
use Rattle.page_code.specs.declared.t6.mode.ModeCode.TheVariants.{Pass, Horizontal, Vertical}
use Rattle.page_code.specs.TwoDimensions.Fronts.PageItem.{mode_item, run_item}
use Rattle.page_code.specs.TwoDimensions.Fronts.PageState.{between, inside, running}
use Rattle.page_code.proofs.TwoDimensions.Positions.{b1_found, b2_found}

-- between rows: further rows, and EOFB
pub record PageLeft (width : ℕ) (page : PageSoFar) (x : List Bool) (rows : List (List Color)) (used : ℕ) : Type 0 where
  pub more : List (List Color)
  pub bits : List Bool
  pub rest : List Bool
  pub spells : SpellsRows width page.reference more bits
  pub split : x ≡ bits ++ (eofb ++ rest)
  pub rows_are : rows ≡ page.rows ++ more
  pub some : 0 < length rows
  pub few : length rows ≤ 20000
  pub used_is : used ≡ length bits + 24

-- inside a row: the rest of the row, and what is left after it
pub record LineLeft (width : ℕ) (page : PageSoFar) (line : CodingLine) (x : List Bool) (rows : List (List Color)) (used : ℕ) : Type 0 where
  pub modes : List Mode
  pub row : List Color
  pub bits : List Bool
  pub rest : List Bool
  pub after : ℕ
  pub spells : SpellsLine width page.reference line modes row bits
  pub split : x ≡ bits ++ rest
  pub later : PageLeft width (row_added page row) rest rows after
  pub used_is : used ≡ length bits + after

-- inside horizontal mode's second run
pub record SecondLeft (width : ℕ) (page : PageSoFar) (line : CodingLine) (a0a1 : ℕ) (makeup : Option ℕ) (x : List Bool) (rows : List (List
    Color)) (used : ℕ) : Type 0 where
  pub a1a2 : ℕ
  pub bits : List Bool
  pub rest : List Bool
  pub after : ℕ
  pub word : IsRunRest (other line.color) makeup a1a2 bits
  pub split : x ≡ bits ++ rest
  pub some : 0 < a0a1 + a1a2
  pub fits : length line.pixels + a0a1 + a1a2 ≤ width
  pub later : LineLeft width page (runs_added line a0a1 a1a2) rest rows after
  pub used_is : used ≡ length bits + after

-- inside its first run
pub record FirstLeft (width : ℕ) (page : PageSoFar) (line : CodingLine) (makeup : Option ℕ) (x : List Bool) (rows : List (List Color)) (used
    : ℕ) : Type 0 where
  pub a0a1 : ℕ
  pub bits : List Bool
  pub rest : List Bool
  pub after : ℕ
  pub word : IsRunRest line.color makeup a0a1 bits
  pub split : x ≡ bits ++ rest
  pub later : SecondLeft width page line a0a1 None rest rows after
  pub used_is : used ≡ length bits + after

abbrev pub Left : ℕ → PageState → List Bool → List (List Color) → ℕ → Type 0
Left width (between page) x rows used = PageLeft width page x rows used
Left width (inside page line) x rows used = LineLeft width page line x rows used
Left width (running page line None makeup) x rows used = FirstLeft width page line makeup x rows used
Left width (running page line (Some a0a1) makeup) x rows used = SecondLeft width page line a0a1 makeup x rows used

-- a row that is whole, or goes on
landed : (width : ℕ) (page : PageSoFar) (line : CodingLine) (x : List Bool) (rows : List (List Color)) (used : ℕ)
    → Left width (mode_ended width page line) x rows used → LineLeft width page line x rows used
landed width page line x rows used left = seen (nat_eq (length line.pixels) width) refl left
  where
    seen : (b : Bool) → nat_eq (length line.pixels) width ≡ b
        → Left width (cond b (between (row_added page line.pixels)) (inside page line)) x rows used → LineLeft width page line x rows used
    seen true is left = record {
      modes = [];
      row = line.pixels;
      bits = [];
      rest = x;
      after = used;
      spells = (
        refl,
        eqb-true (length
            line.pixels) width is,
        refl,
      );
      split = refl;
      later = left;
      used_is = omega arith;
    }
    seen false is left = left

-- a mode before what is left
stepped : (width : ℕ) (page : PageSoFar) (line next : CodingLine) (mode : Mode) (x : List Bool) (rows : List (List Color)) (used : ℕ)
    → IsStep width page.reference line mode next → LineLeft width page next x rows used
    → LineLeft width page line (mode_words line.color mode ++ x) rows (length (mode_words line.color mode) + used)
stepped width page line next mode x rows used step later =
    let front : List Bool = mode_words line.color mode in
    record {
      modes = mode ∷ later.modes;
      row = later.row;
      bits = front ++ later.bits;
      rest = later.rest;
      after = later.after;
      spells = (next, later.bits, step, refl, later.spells);
      split = ap (λ l. front ++ l) later.split ∙ sym (append_assoc front later.bits later.rest);
      later = later.later;
      used_is = omega (arith, later.used_is, length-append front later.bits);
    }

-- a row before what is left
row_before : (width : ℕ) (page : PageSoFar) (x : List Bool) (rows : List (List Color)) (used : ℕ)
    → LineLeft width page line_begin x rows used → PageLeft width page x rows used
row_before width page x rows used left =
    let later : PageLeft width (row_added page left.row) left.rest rows left.after = left.later in
    record {
      more = left.row ∷ later.more;
      bits = left.bits ++ later.bits;
      rest = later.rest;
      spells = (left.bits, later.bits, (left.modes, left.spells), later.spells, refl);
      split = left.split ∙ (ap (λ l. left.bits ++ l) later.split ∙ sym (append_assoc left.bits later.bits (eofb ++ later.rest)));
      rows_are = later.rows_are ∙ append_assoc page.rows (left.row ∷ []) later.more;
      some = later.some;
      few = later.few;
      used_is = omega (arith, left.used_is, later.used_is, length-append left.bits later.bits);
    }

-- Mode codes

pass_left : (width : ℕ) (page : PageSoFar) (line : CodingLine) (t : PageState) (x : List Bool) (rows : List (List Color)) (used b1 b2 : ℕ) →
    IsB1 page.reference line b1 → IsB2 page.reference b1 b2 → (a b : Bool) → ltb b2 (right_of_a0 line) ≡ a → ltb width b2 ≡ b
    → cond a (Err Backwards) (cond b (Err PastEnd) (Ok (mode_ended width page (record {
      pixels = filled_to line b2;
      begun = true;
      color =
          line.color;
    })))) ≡ Ok t → Left width t x rows used → LineLeft width page line (pass_word ++ x) rows (length pass_word + used)
pass_left width page line t x rows used b1 b2 is1 is2 true b is is' e left = cc
pass_left width page line t x rows used b1 b2 is1 is2 false true is is' e left = cc
pass_left width page line t x rows used b1 b2 is1 is2 false false is is' e left =
    let next : CodingLine = record { pixels = filled_to line b2; begun = true; color = line.color } in
    let led : mode_ended width page next ≡ t = cc in
    stepped width page line next pass x rows used (b1, b2, is1, is2, ltb-false b2 (right_of_a0 line) is, ltb-false width b2 is', refl)
    (landed width page next x rows used (rw led left))

vertical_left : (width : ℕ) (page : PageSoFar) (line : CodingLine) (t : PageState) (x : List Bool) (rows : List (List Color)) (used b1 : ℕ)
    (shift : Shift) → IsB1 page.reference line b1 → (a b : Bool) → ltb (b1 + to_right shift) (right_of_a0 line + to_left shift) ≡ a
    → ltb (width + to_left shift) (b1 + to_right shift) ≡ b
    → cond a (Err Backwards) (cond b (Err PastEnd) (Ok (mode_ended width page (record {
      pixels = filled_to line (b1 + to_right shift -
          to_left shift);
      begun = true;
      color = other line.color;
    })))) ≡ Ok t → Left width t x rows used
    → LineLeft width page line (vertical_word shift ++ x) rows (length (vertical_word shift) + used)
vertical_left width page line t x rows used b1 shift is1 true b is is' e left = cc
vertical_left width page line t x rows used b1 shift is1 false true is is' e left = cc
vertical_left width page line t x rows used b1 shift is1 false false is is' e left =
    let next : CodingLine = record { pixels = filled_to line (b1 + to_right shift - to_left shift); begun = true; color = other line.color }
    in
    let led : mode_ended width page next ≡ t = cc in
    let low : right_of_a0 line + to_left shift ≤ b1 + to_right shift = ltb-false (b1 + to_right shift) (right_of_a0 line + to_left shift) is
    in
    let high : b1 + to_right shift ≤ width + to_left shift = ltb-false (width + to_left shift) (b1 + to_right shift) is' in
    stepped width page line next (vertical shift) x rows used (
      b1,
      b1 + to_right shift - to_left shift,
      is1,
      omega arith,
      omega arith,
      omega
          arith,
      refl,
    ) (landed width page next x rows used (rw led left))

horizontal_left : (width : ℕ) (page : PageSoFar) (line : CodingLine) (x : List Bool) (rows : List (List Color)) (used : ℕ)
    → FirstLeft width page line None x rows used → LineLeft width page line (horizontal_word ++ x) rows (length horizontal_word + used)
horizontal_left width page line x rows used first =
    let second : SecondLeft width page line first.a0a1 None first.rest rows first.after = first.later in
    let bits : List Bool = first.bits ++ second.bits in
    let words : bits ≡ run_words line.color first.a0a1 ++ run_words (other line.color) second.a1a2 = rw (first.word, second.word) refl in
    let split : x ≡ bits ++ second.rest = first.split ∙ (ap (λ l. first.bits ++ l) second.split ∙
    sym (append_assoc first.bits second.bits second.rest)) in
    let used_is : used ≡ length bits + second.after = omega (arith, first.used_is, second.used_is, length-append first.bits second.bits) in
    let row = stepped width page line (runs_added line first.a0a1 second.a1a2) (horizontal first.a0a1 second.a1a2) second.rest rows
    second.after (second.some, second.fits, refl) second.later in
    let whole : LineLeft width page line ((horizontal_word ++ bits) ++ second.rest) rows (length (horizontal_word ++ bits) + second.after) =
    rw words row in
    let places : length (horizontal_word ++ bits) + second.after ≡ length horizontal_word + used = omega (
      arith,
      length-append
          horizontal_word bits,
      used_is,
    ) in
    let regroup : (horizontal_word ++ bits) ++ second.rest ≡ horizontal_word ++ x = append_assoc horizontal_word bits second.rest ∙
    ap (λ l. horizontal_word ++ l) (sym split) in
    rw (regroup, places) at whole

mode_left : (width : ℕ) (page : PageSoFar) (line : CodingLine) (code : ModeCode) (t : PageState) (x : List Bool) (rows : List (List Color))
    (used : ℕ) → after_mode width page line code ≡ Ok t → Left width t x rows used
    → LineLeft width page line (mode_word code ++ x) rows (length (mode_word code) + used)
unfolding after_mode
mode_left width page line Pass t x rows used e left =
    pass_left width page line t x rows used (b1_of page.reference line) (b2_of page.reference line) (b1_found page.reference line) (b2_found
    page.reference line) (ltb (b2_of page.reference line) (right_of_a0 line)) (ltb width (b2_of page.reference line)) refl refl e left
mode_left width page line (Vertical shift) t x rows used e left =
    vertical_left width page line t x rows used (b1_of page.reference line) shift (b1_found page.reference line) (ltb (b1_of page.reference
    line + to_right shift) (right_of_a0 line + to_left shift)) (ltb (width + to_left shift) (b1_of page.reference line + to_right
    shift)) refl refl e left
mode_left width page line Horizontal t x rows used e left =
    let led : t ≡ running page line None None = cc in
    horizontal_left width page line x rows used (rw led at left)

-- Run codes

-- a terminating code before what is left
low_left : (width : ℕ) (page : PageSoFar) (line : CodingLine) (first makeup : Option ℕ) (run : ℕ) (t : PageState) (x : List Bool) (rows :
    List (List Color)) (used : ℕ) → run < 64 → length line.pixels + amount first + (amount makeup + run) ≤ width
    → run_ended width page line first (amount makeup + run) ≡ Ok t → Left width t x rows used
    → Left width (running page line first makeup) (code_word (run_color line first) run ++ x) rows (length (code_word (run_color line first)
    run) + used)
low_left width page line None makeup run t x rows used low fits e left =
    let led : t ≡ running page line (Some (amount makeup + run)) None = cc in
    record {
      a0a1 = amount makeup + run;
      bits = code_word line.color run;
      rest = x;
      after = used;
      word = rest_low line.color makeup run low;
      split = refl;
      later = rw led at left;
      used_is = refl;
    }
low_left width page line (Some a0a1) makeup run t x rows used low fits e left = seen (nat_eq (a0a1 + (amount makeup + run)) 0) refl e
  where
    seen : (b : Bool) → nat_eq (a0a1 + (amount makeup + run)) 0 ≡ b
        → cond b (Err EmptyHorizontal) (Ok (mode_ended width page (runs_added line a0a1 (amount makeup + run)))) ≡ Ok t
        → SecondLeft width page line a0a1 makeup (code_word (other line.color) run ++ x) rows (length (code_word (other line.color) run) +
        used)
    seen true is e = cc
    seen false is e =
        let led : mode_ended width page (runs_added line a0a1 (amount makeup + run)) ≡ t = cc in
        let some : 0 < a0a1 + (amount makeup + run) = omega (arith, eqb-false (a0a1 + (amount makeup + run)) 0 is) in
        record {
          a1a2 = amount makeup + run;
          bits = code_word (other line.color) run;
          rest = x;
          after = used;
          word = rest_low (other
              line.color) makeup run low;
          split = refl;
          some = some;
          fits = fits;
          later = landed width page (runs_added line a0a1 (amount
              makeup + run)) x rows used (rw led left);
          used_is = refl;
        }

-- a make-up code before what is left
high_left : (width : ℕ) (page : PageSoFar) (line : CodingLine) (first : Option ℕ) (q : ℕ) (x : List Bool) (rows : List (List Color)) (used :
    ℕ) → 0 < q → Left width (running page line first (Some (64 * q))) x rows used
    → Left width (running page line first None) (code_word (run_color line first) (64 * q) ++ x) rows (length (code_word (run_color line
    first) (64 * q)) + used)
high_left width page line None q x rows used h left =
    let front : List Bool = code_word line.color (64 * q) in
    record {
      a0a1 = left.a0a1;
      bits = front ++ left.bits;
      rest = left.rest;
      after = left.after;
      word = rest_high line.color q left.a0a1
          left.bits h left.word;
      split = ap (λ l. front ++ l) left.split ∙
          sym (append_assoc front left.bits left.rest);
      later = left.later;
      used_is = omega (
        arith,
        left.used_is,
        length-append front
            left.bits,
      );
    }
high_left width page line (Some a0a1) q x rows used h left =
    let front : List Bool = code_word (other line.color) (64 * q) in
    record {
      a1a2 = left.a1a2;
      bits = front ++ left.bits;
      rest = left.rest;
      after = left.after;
      word = rest_high (other line.color) q
          left.a1a2 left.bits h left.word;
      split = ap (λ l. front ++ l) left.split ∙
          sym (append_assoc front left.bits left.rest);
      some = left.some;
      fits = left.fits;
      later = left.later;
      used_is = omega (
        arith,
        left.used_is,
        length-append front left.bits,
      );
    }

code_left : (width : ℕ) (page : PageSoFar) (line : CodingLine) (first makeup : Option ℕ) (k : ℕ) (t : PageState) (x : List Bool) (rows :
    List (List Color)) (used : ℕ) → k < codes_after makeup → after_run width page line first makeup (run_at k) ≡ Ok t
    → Left width t x rows used → Left width (running page line first makeup) (code_word (run_color line first) (run_at k) ++ x) rows (length
    (code_word (run_color line first) (run_at k)) + used)
unfolding after_run
code_left width page line first makeup k t x rows used within e left = seen (ltb width (length line.pixels + amount first + (amount makeup +
    run_at k))) (ltb (run_at k) 64) refl refl e
  where
    raised : (o : Option ℕ) → k < codes_after o → 64 ≤ run_at k
        → ◌≡◌ {A = Result PageState CodeFaultKind} (Ok (running page line first (Some (run_at k)))) (Ok t)
        → Left width (running page line first o) (code_word (run_color line first) (run_at k) ++ x) rows (length (code_word (run_color line
        first) (run_at k)) + used)
    raised (Some h) l big e = absurd (omega (arith, run_at_low k l))
    raised None l big e =
        let led : t ≡ running page line first (Some (run_at k)) = cc in
        elim (cases_lt k 64) [
          | inl low ↦ absurd (omega (arith, run_at_low k low))
          | inr up ↦
              let run : run_at k ≡ 64 * (k - 63) = run_at_high k up in
              rw run (high_left width page line first (k - 63) x rows used (omega arith) (rw (led, run) at left))
        ]

    seen : (a b : Bool) → ltb width (length line.pixels + amount first + (amount makeup + run_at k)) ≡ a → ltb (run_at k) 64 ≡ b
        → cond a (Err PastEnd) (cond b (run_ended width page line first (amount makeup + run_at k)) (Ok (running page line first (Some
        (run_at k))))) ≡ Ok t → Left width (running page line first makeup) (code_word (run_color line first) (run_at k) ++ x) rows (length
        (code_word (run_color line first) (run_at k)) + used)
    seen true b is is' e = cc
    seen false true is is' e = low_left width page line first makeup (run_at k) t x rows used (ltb-true (run_at k) 64 is') (ltb-false width
        (length line.pixels + amount first + (amount makeup + run_at k)) is) e left
    seen false false is is' e = raised makeup within (ltb-false (run_at k) 64 is') e

-- All items

run_left : (width : ℕ) (page : PageSoFar) (line : CodingLine) (first makeup : Option ℕ) (color : Color) (run k : ℕ) (t : PageState) (x :
    List Bool) (rows : List (List Color)) (used : ℕ) → color ≡ run_color line first → run ≡ run_at k → k < codes_after makeup
    → after_run width page line first makeup run ≡ Ok t → Left width t x rows used
    → Left width (running page line first makeup) (code_word color run ++ x) rows (length (code_word color run) + used)
run_left width page line first makeup color run k t x rows used color_is run_is within leads left = rw (color_is, run_is) (code_left width
    page line first makeup k t x rows used within (rw run_is at leads) left)

-- an item before what is left
pub item_left : (width : ℕ) (s : PageState) (i : PageItem) (t : PageState) (x : List Bool) (rows : List (List Color)) (used : ℕ)
    → PageStep width s i t → Left width t x rows used → Left width s (page_item_word i ++ x) rows (length (page_item_word i) + used)
item_left width (between page) (mode_item code) t x rows used step left = row_before width page (mode_word code ++ x) rows (length
    (mode_word code) + used) (mode_left width page line_begin code t x rows used step.1.leads left)
item_left width (inside page line) (mode_item code) t x rows used step left = mode_left width page line code t x rows used step.leads left
item_left width (running page line first makeup) (mode_item code) t x rows used step left = absurd step
item_left width (between page) (run_item code) t x rows used step left = absurd step
item_left width (inside page line) (run_item code) t x rows used step left = absurd step
item_left width (running page line first makeup) (run_item (run_code color run)) t x rows used step left =
    let one = listed (run_color line first) (codes_after makeup) (run_code color run) step.stands in
    run_left width page line first makeup color run one.0 t x rows used (cc) (cc) one.1 step.leads left
