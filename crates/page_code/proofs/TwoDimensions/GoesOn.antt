-- After whole items of a T.6 page that may be there, some text completes the page.
use Rattle.std.proofs.Common.{ℕ, ◌≡◌, ◌+◌, ◌-◌, ◌<◌, ◌≤◌, inl, inr, Bool, List, [], ◌∷◌, ◌++◌, length, Some, None, refl, ap, sym}
use Rattle.std.proofs.Common.{◌∙◌, arith, length-append, append_assoc}
use Rattle.std.specs.Prelude.{Option}
use Rattle.std.proofs.lemmas.Bool.{cases_eq}
use Rattle.std.proofs.lemmas.List.{append-nil}
use Rattle.raster.specs.declared.row.Color.{Color}
use Rattle.raster.specs.Pixels.{other, IsWidth}
use Rattle.run_tables.specs.Codes.{code_word, run_words}
use Rattle.run_tables.specs.Fronts.{Walk, spell}
use Rattle.page_code.specs.TwoDimensions.Positions.{CodingLine, line_begin, white_line}
use Rattle.page_code.specs.TwoDimensions.Modes.{eofb, runs_added, mode_words, ReadsAsPage}
use Rattle.page_code.specs.TwoDimensions.Modes.Mode.{horizontal}
use Rattle.page_code.specs.TwoDimensions.Fronts.{PageItem, page_item_word, PageSoFar, PageState, page_begin, row_added, PageStep}
use Rattle.page_code.specs.TwoDimensions.Fronts.PageState.{between, inside, running}
use Rattle.page_code.specs.TwoDimensions.KindLaws.{rows_before}
use Rattle.page_code.proofs.TwoDimensions.Standing.{Stands, InRow, row_start, runs_count, front_stands}
use Rattle.page_code.proofs.TwoDimensions.WhatIsLeft.{PageLeft, LineLeft, SecondLeft, FirstLeft, Left, item_left}

-- text that completes a page from a state on
record Completion (width : ℕ) (s : PageState) : Type 0 where
  text : List Bool
  rows : List (List Color)
  left : Left width s text rows (length text)
  first : (more : List (List Color)) × (rows ≡ rows_before s ++ more)

-- EOFB after whole rows
end_left : (width : ℕ) (page : PageSoFar) → 0 < length page.rows → length page.rows ≤ 20000 → PageLeft width page eofb page.rows 24
end_left width page some few = record {
  more = [];
  bits = [];
  rest = [];
  spells = refl;
  split = refl;
  rows_are = sym (append-nil page.rows);
  some = some;
  few = few;
  used_is = refl;
}

-- what completes a row, and the page after it
record RowCompletion (width : ℕ) (page : PageSoFar) (line : CodingLine) : Type 0 where
  text : List Bool
  row : List Color
  left : LineLeft width page line text (page.rows ++ row ∷ []) (length text)

row_end : (width : ℕ) (page : PageSoFar) (row : List Color) → length page.rows < 20000
    → PageLeft width (row_added page row) eofb (page.rows ++ row ∷ []) 24
row_end width page row room = end_left width (row_added page row) (omega (arith, length-append page.rows (row ∷ []))) (omega (
  arith,
  length-append page.rows (row ∷ []),
))

-- the line is whole, or horizontal mode with the rest of the row and a run of 0 completes it
complete_row : (width : ℕ) (page : PageSoFar) (line : CodingLine) → length line.pixels ≤ width → length page.rows < 20000
    → RowCompletion width page line
complete_row width page line fits room = elim (cases_eq (length line.pixels) width) [
  | inl full ↦ record {
    text = eofb;
    row = line.pixels;
    left = record {
      modes = [];
      row = line.pixels;
      bits = [];
      rest = eofb;
      after = 24;
      spells = (refl, full, refl);
      split = refl;
      later = row_end width page line.pixels room;
      used_is = refl;
    };
  }
  | inr short ↦
      let run : ℕ = width - length line.pixels in
      let next : CodingLine = runs_added line run 0 in
      let word : List Bool = mode_words line.color (horizontal run 0) in
      record {
        text = word ++ eofb;
        row = next.pixels;
        left = record {
          modes = horizontal run 0 ∷ [];
          row = next.pixels;
          bits = word ++ [];
          rest = eofb;
          after = 24;
          spells = (
            next,
            [],
            (omega arith, omega arith, refl),
            refl,
            (refl, omega (arith, runs_count line run 0), refl),
          );
          split = ap (λ l. l ++ eofb) (sym (append-nil word));
          later = row_end width page next.pixels room;
          used_is = omega (arith, length-append word eofb, length-append word []);
        };
      }
]

-- the second run of horizontal mode, and the row after it
record SecondCompletion (width : ℕ) (page : PageSoFar) (line : CodingLine) (a0a1 : ℕ) (makeup : Option ℕ) : Type 0 where
  text : List Bool
  row : List Color
  left : SecondLeft width page line a0a1 makeup text (page.rows ++ row ∷ []) (length text)

second_run : (width : ℕ) (page : PageSoFar) (line : CodingLine) (a0a1 : ℕ) (makeup : Option ℕ) → Stands width (running page line (Some a0a1)
    makeup) → SecondCompletion width page line a0a1 makeup
second_run width page line a0a1 None h =
    let run : ℕ = width - length line.pixels - a0a1 in
    let next : CodingLine = runs_added line a0a1 run in
    let later = complete_row width page next (omega (arith, runs_count line a0a1 run, h.1)) h.0.room in
    let word : List Bool = run_words (other line.color) run in
    record {
      text = word ++ later.text;
      row = later.row;
      left = record {
        a1a2 = run;
        bits = word;
        rest = later.text;
        after = length later.text;
        word = refl;
        split = refl;
        some = omega (arith, h.0.short);
        fits = omega (arith, h.1);
        later = later.left;
        used_is = length-append word later.text;
      };
    }
second_run width page line a0a1 (Some makeup) h =
    let next : CodingLine = runs_added line a0a1 makeup in
    let later = complete_row width page next (omega (arith, runs_count line a0a1 makeup, h.1)) h.0.room in
    let none : makeup - makeup ≡ 0 = omega arith in
    let word : List Bool = code_word (other line.color) 0 in
    record {
      text = word ++ later.text;
      row = later.row;
      left = record {
        a1a2 = makeup;
        bits = word;
        rest = later.text;
        after = length later.text;
        word = (omega arith, omega arith, ap (code_word (other line.color)) (sym none));
        split = refl;
        some = omega (arith, h.2);
        fits = omega (arith, h.1);
        later = later.left;
        used_is = length-append word later.text;
      };
    }

-- the first run of horizontal mode, and what comes after it
record FirstCompletion (width : ℕ) (page : PageSoFar) (line : CodingLine) (makeup : Option ℕ) : Type 0 where
  text : List Bool
  row : List Color
  left : FirstLeft width page line makeup text (page.rows ++ row ∷ []) (length text)

first_run : (width : ℕ) (page : PageSoFar) (line : CodingLine) (makeup : Option ℕ) → Stands width (running page line None makeup)
    → FirstCompletion width page line makeup
first_run width page line None h =
    let run : ℕ = width - length line.pixels in
    let later = second_run width page line run None (h.0, omega (arith, h.0.short), tt) in
    let word : List Bool = run_words line.color run in
    record {
      text = word ++ later.text;
      row = later.row;
      left = record {
        a0a1 = run;
        bits = word;
        rest = later.text;
        after = length later.text;
        word = refl;
        split = refl;
        later = later.left;
        used_is = length-append word later.text;
      };
    }
first_run width page line (Some makeup) h =
    let later = second_run width page line makeup None (h.0, omega (arith, h.1), tt) in
    let none : makeup - makeup ≡ 0 = omega arith in
    let word : List Bool = code_word line.color 0 in
    record {
      text = word ++ later.text;
      row = later.row;
      left = record {
        a0a1 = makeup;
        bits = word;
        rest = later.text;
        after = length later.text;
        word = (omega arith, omega arith, ap (code_word line.color) (sym none));
        split = refl;
        later = later.left;
        used_is = length-append word later.text;
      };
    }

-- a row, and EOFB
new_row : (width : ℕ) (page : PageSoFar) → InRow width page line_begin → Completion width (between page)
new_row width page start =
    let later = complete_row width page line_begin (omega (arith, start.short)) start.room in
    let line : LineLeft width page line_begin later.text (page.rows ++ later.row ∷ []) (length later.text) = later.left in
    let rest : PageLeft width (row_added page line.row) line.rest (page.rows ++ later.row ∷ []) line.after = line.later in
    record {
      text = later.text;
      rows = page.rows ++ later.row ∷ [];
      left = record {
        more = line.row ∷ rest.more;
        bits = line.bits ++ rest.bits;
        rest = rest.rest;
        spells = (line.bits, rest.bits, (line.modes, line.spells), rest.spells, refl);
        split = line.split ∙ (ap (λ l. line.bits ++ l) rest.split ∙ sym (append_assoc line.bits rest.bits (eofb ++ rest.rest)));
        rows_are = rest.rows_are ∙ append_assoc page.rows (line.row ∷ []) rest.more;
        some = rest.some;
        few = rest.few;
        used_is = omega (arith, line.used_is, rest.used_is, length-append line.bits rest.bits);
      };
      first = (later.row ∷ [], refl);
    }

completes : (width : ℕ) (s : PageState) → 0 < width → Stands width s → Completion width s
completes width (between page) some h = by_rows page.rows refl
  where
    by_rows : (rows : List (List Color)) → page.rows ≡ rows → Completion width (between page)
    by_rows [] none = new_row width page (row_start width page some h.0 (omega (arith, ap length none)))
    by_rows (row ∷ rows) are = record {
      text = eofb;
      rows = page.rows;
      left = end_left width page (omega (arith, ap length are)) h.1;
      first = ([], sym (append-nil page.rows));
    }
completes width (inside page line) some h =
    let row = complete_row width page line (omega (arith, h.short)) h.room in
    record { text = row.text; rows = page.rows ++ row.row ∷ []; left = row.left; first = (row.row ∷ [], refl) }
completes width (running page line None makeup) some h =
    let run = first_run width page line makeup h in
    record { text = run.text; rows = page.rows ++ run.row ∷ []; left = run.left; first = (run.row ∷ [], refl) }
completes width (running page line (Some a0a1) makeup) some h =
    let run = second_run width page line a0a1 makeup h in
    record { text = run.text; rows = page.rows ++ run.row ∷ []; left = run.left; first = (run.row ∷ [], refl) }

-- items before what is left
items_left : (width : ℕ) (items : List PageItem) (s t : PageState) (x : List Bool) (rows : List (List Color)) (used : ℕ)
    → Walk (PageStep width) s items t → Left width t x rows used
    → Left width s (spell page_item_word items ++ x) rows (length (spell page_item_word items) + used)
items_left width [] s t x rows used walk left =
    let none : 0 + used ≡ used = omega arith in
    rw (walk, none) left
items_left width (i ∷ items) s t x rows used walk left =
    let later = items_left width items walk.0 t x rows used walk.2 left in
    let whole = item_left width s i walk.0 (spell page_item_word items ++ x) rows (length (spell page_item_word items) + used) walk.1 later
    in
    let places : length (page_item_word i) + (length (spell page_item_word items) + used) ≡ length (page_item_word i ++ spell page_item_word
    items) + used = omega (arith, length-append (page_item_word i) (spell page_item_word items)) in
    rw (append_assoc, ← places) whole

-- after whole items some text completes a page
pub front_goes_on : (width : ℕ) (items : List PageItem) (t : PageState) → IsWidth width → Walk (PageStep width) (page_begin width) items t
    → (text : List Bool) × (rows : List (List Color))
    × ReadsAsPage width (spell page_item_word items ++ text) rows (length (spell page_item_word items ++ text))
    × ((later : List (List Color)) × (rows ≡ rows_before t ++ later))
front_goes_on width items t wide walk =
    let rest = completes width t (omega (arith, wide.0)) (front_stands width items t (omega (arith, wide.0)) walk) in
    let left : PageLeft width (record { rows = []; reference = white_line width }) (spell page_item_word items ++ rest.text) rest.rows
    (length (spell page_item_word items) + length rest.text) = items_left width items (page_begin width) t rest.text rest.rows (length
    rest.text) walk rest.left in (
      rest.text,
      rest.rows,
      record {
        some = left.some;
        few = left.few;
        front = left.bits;
        rest = left.rest;
        spells = rw (← left.rows_are) at left.spells;
        split = left.split;
        used_is = omega (arith, length-append (spell page_item_word items) rest.text, left.used_is);
      },
      rest.first,
    )
