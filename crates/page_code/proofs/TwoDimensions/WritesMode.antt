-- Writing the prescribed modes one after the other gives the row's code.
use Rattle.std.proofs.Common.{ℕ, zero, suc, ◌≡◌, ◌+◌, ◌-◌, ◌<◌, ◌≤◌, inl, inr, Bool, true, false, List, [], ◌∷◌, ◌++◌, length, take, drop}
use Rattle.std.proofs.Common.{replicate, Some, None, refl, ap, subst, sym, ◌∙◌, arith, cond, nat_eq, append_assoc, add-one}
use Rattle.std.specs.Prelude.{◌≢◌, Result, Ok, Err, OnOk}
use Rattle.std.proofs.lemmas.Bool.{lt-ltb, le-ltb, ne_eqb, eq-eqb, eqb-false, cases_eq, cases_lt}
use Rattle.std.proofs.lemmas.List.{append-nil, length-take-le, drop_more}
use Rattle.raster.specs.declared.row.Color.{Color}
use Rattle.raster.specs.declared.row.Color.TheVariants.{White, Black}
use Rattle.raster.specs.Pixels.{other}
use Rattle.raster.specs.Runs.{colored}
use Rattle.raster.specs.Packed.{Bits}
use Rattle.raster.specs.Changes.{color_at, color_before, IsNextChange}
use Rattle.run_tables.specs.Codes.{run_words}
use Rattle.run_tables.specs.Written.{Appends}
use Rattle.page_code.specs.declared.t6.a0.A0.{A0}
use Rattle.page_code.specs.declared.t6.mode.Shift.{Shift}
use Rattle.page_code.specs.declared.t6.mode.Shift.TheVariants.{V0}
use Rattle.page_code.specs.TwoDimensions.Positions.{CodingLine, white_line, right_of_a0, right_of, IsFirstTo, IsB1, IsB2, b1_of, b2_of}
use Rattle.page_code.specs.TwoDimensions.Modes.{vertical_word, pass_word, horizontal_word, eofb, Mode, mode_words}
use Rattle.page_code.specs.TwoDimensions.Modes.Mode.{pass, vertical, horizontal}
use Rattle.page_code.specs.TwoDimensions.Code.{verticals, vertical_to, a1_of, prescribed, moved, line_code, row_code, rows_code, page_code}
use Rattle.page_code.specs.TwoDimensions.Writing.{IsUpTo, line_to, IsCodedTo, WritesMode, reference_at, row_at}
use Rattle.page_code.proofs.TwoDimensions.Positions.{b1_is, b2_is, change_is, other_than}
use Rattle.page_code.proofs.TwoDimensions.Prescribed.{before_next, before_to, prescribed_moves}

-- V0, where a1 is b1
pub straight : (b1 a1 : ℕ) → a1 ≡ b1 → vertical_to b1 a1 verticals ≡ Some V0
straight b1 a1 same = rw (eq-eqb (a1 + 0) (b1 + 0) (omega (arith, same))) refl

other_of_other : (a b : Color) → a ≢ b → b ≡ other a
other_of_other White White h = absurd (h refl)
other_of_other White Black h = refl
other_of_other Black White h = refl
other_of_other Black Black h = absurd (h refl)

-- a changing element of the other color is passed by
pub first_to_next : (row : List Color) (color : Color) (from p q : ℕ) → IsNextChange row from p → p < length row
    → color_at row p ≢ color → IsNextChange row (p + 1) q → IsFirstTo row color from q
first_to_next row color from p q first inside differs next = record {
  bound = next.bound;
  changing = λ h.
      let facts = next.changing h in
      let past : p + 1 ≤ q = facts.0 in
      let before : color_before row q ≡ color_at row p = before_to row (p + 1) q (color_at row p) next.bound next.least (before_next row p)
      past in
      let is : color_at row q ≡ color = other_than (color_at row q) (color_before row q) facts.1.1 ∙ (ap other before ∙
      sym (other_of_other (color_at row p) color differs)) in
      (omega (arith, (first.changing inside).0), (facts.1, is));
  least = λ k a b is. elim (cases_lt k p) [
    | inl l ↦ first.least k a l is.0
    | inr g ↦ elim (cases_eq k p) [
      | inl e ↦ differs (subst (λ n. color_at row n ≡ color) e is.1)
      | inr ne ↦ next.least k (omega arith) b is.0
    ]
  ];
}

-- Which mode is prescribed

module _ (reference row : List Color) (line : CodingLine) (a1 b1 b2 : ℕ) (is_a1 : IsNextChange row (right_of_a0 line) a1) (is_b1 : IsB1
    reference line b1) (is_b2 : IsB2 reference b1 b2) where
  a1_found : a1_of row line ≡ a1
  a1_found = sym (change_is row (right_of_a0 line) a1 is_a1)

  b1_there : b1_of reference line ≡ b1
  b1_there = sym (b1_is reference line b1 is_b1)

  b2_there : b2_of reference line ≡ b2
  b2_there = sym (b2_is reference line b1 b2 is_b1 is_b2)

  -- pass mode, if b2 is to the left of a1
  pub pass_prescribed : b2 < a1 → prescribed reference row line ≡ pass
  pass_prescribed h = rw (a1_found, b2_there, lt-ltb b2 a1 h) refl

  -- else a vertical mode, if it leads from b1 to a1
  pub vertical_prescribed : (shift : Shift) → a1 ≤ b2 → vertical_to b1 a1 verticals ≡ Some shift
      → prescribed reference row line ≡ vertical shift
  vertical_prescribed shift h e = rw (a1_found, b2_there, le-ltb b2 a1 h, b1_there, e) refl

  -- else horizontal mode
  pub horizontal_prescribed : (a2 : ℕ) → IsNextChange row (a1 + 1) a2 → a1 ≤ b2 → vertical_to b1 a1 verticals ≡ None
      → prescribed reference row line ≡ horizontal (a1 - length line.pixels) (a2 - a1)
  horizontal_prescribed a2 is_a2 h e = rw (a1_found, b2_there, le-ltb b2 a1 h, b1_there, e, ← change_is row (a1 + 1) a2 is_a2) refl

  pub pass_moved : moved reference row line pass ≡ record { pixels = take b2 row; begun = true; color = line.color }
  pass_moved = ap (λ n. record { pixels = take n row; begun = true; color = line.color }) b2_there

  pub vertical_moved : (shift : Shift)
      → moved reference row line (vertical shift) ≡ record { pixels = take a1 row; begun = true; color = other line.color }
  vertical_moved shift = ap (λ n. record { pixels = take n row; begun = true; color = other line.color }) a1_found

  pub horizontal_moved : (a0a1 a1a2 a2 : ℕ) → IsNextChange row (a1 + 1) a2
      → moved reference row line (horizontal a0a1 a1a2) ≡ record { pixels = take a2 row; begun = true; color = line.color }
  horizontal_moved a0a1 a1a2 a2 is_a2 = rw (a1_found, ← change_is row (a1 + 1) a2 is_a2) refl

-- The rest of a row's code

line_full : (reference row : List Color) (most : ℕ) (line : CodingLine) → length line.pixels ≡ length row
    → line_code most reference row line ≡ []
line_full reference row zero line full = refl
line_full reference row (suc most) line full = rw (eq-eqb (length line.pixels) (length row) full) refl

right_at_most : (line : CodingLine) → right_of_a0 line ≤ length line.pixels + 1
right_at_most line = seen line.begun
  where
    seen : (b : Bool) → length line.pixels + cond b 1 0 ≤ length line.pixels + 1
    seen true = omega arith
    seen false = omega arith

-- enough modes are enough
line_enough : (reference row : List Color) (f g : ℕ) (line : CodingLine) → length reference ≡ length row → IsUpTo row line
    → length row + 1 ≤ f + right_of_a0 line → length row + 1 ≤ g + right_of_a0 line
    → line_code f reference row line ≡ line_code g reference row line
line_enough reference row zero g line even stands a b = sym (line_full reference row g line (omega (
  arith,
  right_at_most line,
  stands.within,
)))
line_enough reference row (suc f) zero line even stands a b = line_full reference row (suc f) line (omega (
  arith,
  right_at_most line,
  stands.within,
))
line_enough reference row (suc f) (suc g) line even stands a b = seen (nat_eq (length line.pixels) (length row)) refl (λ next s h h'.
    line_enough reference row f g next even s h h')
  where
    seen : (full : Bool) → nat_eq (length line.pixels) (length row) ≡ full → ((next : CodingLine) → IsUpTo row next
        → length row + 1 ≤ f + right_of_a0 next → length row + 1 ≤ g + right_of_a0 next
        → line_code f reference row next ≡ line_code g reference row next)
        → cond full [] (mode_words line.color (prescribed reference row line) ++ line_code f reference row (moved reference row line
        (prescribed reference row line))) ≡ cond full [] (mode_words line.color (prescribed reference row line) ++ line_code g reference row
        (moved reference row line (prescribed reference row line)))
    seen true is again = refl
    seen false is again =
        let short : length line.pixels < length row = omega (arith, eqb-false (length line.pixels) (length row) is, stands.within) in
        let moves = prescribed_moves reference row line even stands short in
        ap (λ l. mode_words line.color (prescribed reference row line) ++ l) (again (moved reference row line (prescribed reference row
        line)) moves.stands (omega (arith, moves.on)) (omega (arith, moves.on)))

-- one mode of a row's code
pub line_code_on : (reference row : List Color) (line next : CodingLine) → length reference ≡ length row → IsUpTo row line
    → length line.pixels < length row → next ≡ moved reference row line (prescribed reference row line)
    → line_code (length row + 1) reference row line ≡ mode_words line.color (prescribed reference row line) ++ line_code (length row + 1)
    reference row next
line_code_on reference row line next even stands short is =
    line_enough reference row (length row + 1) (suc (length row + 1)) line even stands (omega arith) (omega arith) ∙
    (rw (ne_eqb (length line.pixels) (length row) (λ e. omega arith)) refl ∙
    ap (λ l. mode_words line.color (prescribed reference row line) ++ line_code (length row + 1) reference row l) (sym is))

-- a whole row has no further code
pub line_code_end : (reference row : List Color) (line : CodingLine) → length line.pixels ≡ length row
    → line_code (length row + 1) reference row line ≡ []
line_code_end reference row line full = line_full reference row (length row + 1) line full

-- where the prescribed mode leads the line is in the row, further on
pub moved_stands : (reference row : List Color) (line next : CodingLine) → length reference ≡ length row → IsUpTo row line
    → length line.pixels < length row → next ≡ moved reference row line (prescribed reference row line)
    → IsUpTo row next × (right_of_a0 line < right_of_a0 next)
moved_stands reference row line next even stands short is =
    let moves = prescribed_moves reference row line even stands short in
    (subst (λ l. IsUpTo row l) (sym is) moves.stands, subst (λ (l : CodingLine). right_of_a0 line < right_of_a0 l) (sym is) moves.on)

-- The modes as they are written

-- one code word after another
pub appends_on : (a b : List Bool) (x y z : Bits) → Appends a x y → Appends b y z → Appends (a ++ b) x z
appends_on a b x y z one two =
    let with_bits : List Bool → Bits = λ l. record { order = x.order; bits = l } in
    two ∙ (ap (λ (w : Bits). record w { bits = w.bits ++ b }) one ∙ ap with_bits (append_assoc x.bits a b))

module _ (reference row : List Color) (even : length reference ≡ length row) (to : A0) (coded : IsCodedTo row to) (from a1 b1 b2 : ℕ)
    (from_is : from ≡ right_of to) (is_a1 : IsNextChange row from a1) (is_b1 : IsFirstTo reference (other to.color) (right_of to) b1) (is_b2
    : IsNextChange reference (b1 + 1) b2) where
  count : length (take to.place row) ≡ to.place
  count = length-take-le to.place row coded.within

  right_is : right_of_a0 (line_to row to) ≡ from
  right_is = ap (λ (n : ℕ). n + cond to.begun 1 0) count ∙ sym from_is

  next_a1 : IsNextChange row (right_of_a0 (line_to row to)) a1
  next_a1 = subst (λ n. IsNextChange row n a1) (sym right_is) is_a1

  first_b1 : IsB1 reference (line_to row to) b1
  first_b1 = subst (λ n. IsFirstTo reference (other to.color) n b1) (ap (λ (n : ℕ). n + cond to.begun 1 0) (sym count)) is_b1

  -- a mode that is prescribed was written
  wrote : (mode : Mode) (word : List Bool) (next : A0) (before after : Bits) → prescribed reference row (line_to row to) ≡ mode
      → mode_words to.color mode ≡ word → Appends word before after → moved reference row (line_to row to) mode ≡ line_to row next
      → next.place ≤ length row → WritesMode reference row to next before after
  wrote mode word next before after is spells appends moves within = record {
    writes = subst (λ (t : List Bool). Appends t before after) (sym (ap (mode_words to.color) is ∙ spells)) appends;
    moves = sym (ap (moved reference row (line_to row to)) is ∙ moves);
    within = within;
  }

  pub wrote_pass : (word : List Bool) (before after : Bits) → word ≡ pass_word → Appends word before after → b2 < a1
      → WritesMode reference row to (record { place = b2; begun = true; color = to.color }) before after
  wrote_pass word before after spells appends left =
      wrote pass word (record { place = b2; begun = true; color = to.color }) before after (pass_prescribed reference row (line_to row to)
      a1 b1 b2 next_a1 first_b1 is_b2 left) (sym spells) appends (pass_moved reference row (line_to row to) a1 b1 b2 next_a1 first_b1
      is_b2) (omega (arith, is_b2.bound))

  pub wrote_vertical : (shift : Shift) (word : List Bool) (color : Color) (before after : Bits) → word ≡ vertical_word shift
      → color ≡ other to.color → Appends word before after → a1 ≤ b2 → vertical_to b1 a1 verticals ≡ Some shift
      → WritesMode reference row to (record { place = a1; begun = true; color = color }) before after
  wrote_vertical shift word color before after spells changed appends right found =
      let turned : moved reference row (line_to row to) (vertical shift) ≡ record { pixels = take a1 row; begun = true; color = color } =
      vertical_moved reference row (line_to row to) a1 b1 b2 next_a1 first_b1 is_b2 shift ∙
      ap (λ (c : Color). record { pixels = take a1 row; begun = true; color = c }) (sym changed) in
      wrote (vertical shift) word (record { place = a1; begun = true; color = color }) before after (vertical_prescribed reference row
      (line_to row to) a1 b1 b2 next_a1 first_b1 is_b2 shift right found) (sym spells) appends turned is_a1.bound

  pub wrote_horizontal : (a2 : ℕ) (word : List Bool) (color : Color) (before mid last after : Bits) → IsNextChange row (a1 + 1) a2
      → word ≡ horizontal_word → color ≡ other to.color → Appends word before mid
      → Appends (run_words to.color (a1 - to.place)) mid last → Appends (run_words color (a2 - a1)) last after → a1 ≤ b2
      → vertical_to b1 a1 verticals ≡ None
      → WritesMode reference row to (record { place = a2; begun = true; color = to.color }) before after
  wrote_horizontal a2 word color before mid last after is_a2 spells changed one two three right none =
      let mode : Mode = horizontal (a1 - length (take to.place row)) (a2 - a1) in
      let words : mode_words to.color mode ≡ word ++ (run_words to.color (a1 - to.place) ++ run_words color (a2 - a1)) = rw (
        spells,
        changed,
        count,
      ) refl in
      wrote mode (word ++ (run_words to.color (a1 - to.place) ++ run_words color (a2 - a1))) (record {
        place = a2;
        begun = true;
        color =
            to.color;
      }) before after (horizontal_prescribed reference row (line_to row to) a1 b1 b2 next_a1 first_b1 is_b2 a2 is_a2 right
      none) words (appends_on word (run_words to.color (a1 - to.place) ++ run_words color (a2 - a1)) before mid after one (appends_on
      (run_words to.color (a1 - to.place)) (run_words color (a2 - a1)) mid last after two three)) (horizontal_moved reference row
      (line_to row to) a1 b1 b2 next_a1 first_b1 is_b2 (a1 - length (take to.place row)) (a2 - a1) a2 is_a2) is_a2.bound

-- one mode more of a row
pub row_on : (reference row : List Color) (old new : A0) (before after start : Bits) (so_far : List Bool)
    → length reference ≡ length row → IsCodedTo row old → old.place < length row → WritesMode reference row old new before after
    → before ≡ record start { bits = start.bits ++ so_far }
    → so_far ++ line_code (length row + 1) reference row (line_to row old) ≡ row_code reference row
    → IsCodedTo row new × (length row + 1 - right_of_a0 (line_to row new) < length row + 1 - right_of_a0 (line_to row old))
    × ((all : List Bool) × (after ≡ record start { bits = start.bits ++ all })
    × (all ++ line_code (length row + 1) reference row (line_to row new) ≡ row_code reference row))
row_on reference row old new before after start so_far even coded short wrote is rest =
    let line : CodingLine = line_to row old in
    let inside : length line.pixels < length row = omega (arith, length-take-le old.place row coded.within) in
    let on = moved_stands reference row line (line_to row new) even coded.stands inside wrote.moves in
    let word : List Bool = mode_words old.color (prescribed reference row line) in
    let later : List Bool = line_code (length row + 1) reference row (line_to row new) in
    let code : line_code (length row + 1) reference row line ≡ word ++ later = line_code_on reference row line (line_to row new) even
    coded.stands inside wrote.moves in (
      record { within = wrote.within; stands = on.0 },
      omega (arith, on.1, right_at_most line, inside),
      (
        so_far ++ word,
        appends_on so_far word start before after is wrote.writes,
        append_assoc so_far word later ∙
            (ap (λ l. so_far ++ l) (sym code) ∙ rest),
      ),
    )

-- a whole row
pub row_end : (reference row : List Color) (to : A0) (after start : Bits) (so_far : List Bool) → IsCodedTo row to
    → length row ≤ to.place → after ≡ record start { bits = start.bits ++ so_far }
    → so_far ++ line_code (length row + 1) reference row (line_to row to) ≡ row_code reference row
    → Appends (row_code reference row) start after
row_end reference row to after start so_far coded whole is rest =
    let full : length (take to.place row) ≡ length row = length-take-le to.place row coded.within ∙ omega (arith, coded.within) in
    let all : so_far ≡ row_code reference row = sym (append-nil so_far) ∙
    (ap (λ l. so_far ++ l) (sym (line_code_end reference row (line_to row to) full)) ∙ rest) in
    rw (← all) is

-- each row is the reference line of the next
pub reference_next : (white : List Color) (rows : List (List Color)) (at : ℕ) → reference_at white rows (at + 1) ≡ row_at rows at
reference_next white rows at = rw add-one refl

-- one row more of a page
pub rows_on : (white reference row : List Color) (rows : List (List Color)) (at : ℕ) (before after start : Bits) (so_far : List Bool)
    → at < length rows → reference ≡ reference_at white rows at → row ≡ row_at rows at → Appends (row_code reference row) before after
    → before ≡ record start { bits = start.bits ++ so_far }
    → so_far ++ rows_code (reference_at white rows at) (drop at rows) ≡ rows_code white rows
    → (all : List Bool) × (after ≡ record start { bits = start.bits ++ all })
    × (all ++ rows_code (reference_at white rows (at + 1)) (drop (at + 1) rows) ≡ rows_code white rows)
rows_on white reference row rows at before after start so_far inside is_reference is_row coded is rest =
    let word : List Bool = row_code (reference_at white rows at) (row_at rows at) in
    let later : List Bool = rows_code (row_at rows at) (drop (at + 1) rows) in
    let next : rows_code (reference_at white rows (at + 1)) (drop (at + 1) rows) ≡ later = ap (λ (r : List Color).
    rows_code r (drop (at + 1) rows)) (reference_next white rows at) in
    let written : Appends word before after = subst (λ (r : List Color). Appends (row_code (reference_at white rows at) r) before after)
    is_row (subst (λ (r : List Color). Appends (row_code r row) before after) is_reference coded) in
    let code : rows_code (reference_at white rows at) (drop at rows) ≡ word ++ later = ap (λ (l : List (List Color)).
    rows_code (reference_at white rows at) l) (drop_more rows at [] inside) in (
      so_far ++ word,
      appends_on so_far word start before after is written,
      ap (λ l. so_far ++ word ++ l) next ∙ (append_assoc so_far word later ∙ (ap (λ l. so_far ++ l) (sym code) ∙ rest)),
    )

-- the rows' codes and EOFB are the page's code
pub wrote_page : (width count : ℕ) (white : List Color) (rows all : List (List Color)) (before mid after : Bits) → count ≡ width
    → white ≡ colored White (count ∷ []) → all ≡ rows → Appends (rows_code white all) before mid → Appends eofb mid after
    → Appends (page_code width rows) before after
unfolding page_code
wrote_page width count white rows all before mid after same is given one two =
    let line : white ≡ white_line width = is ∙ (append-nil (replicate count White) ∙ ap (λ n. replicate n White) same) in
    appends_on (rows_code (white_line width) rows) eofb before mid after (subst (λ w. Appends (rows_code w rows) before mid) line (subst (λ
    r. Appends (rows_code white r) before mid) given one)) two

pub on_ok_map : {T E : Type 0} (r : Result T E) (P Q : Type 0) → (P → Q) → OnOk r P → OnOk r Q
on_ok_map (Ok x) P Q f h = f h
on_ok_map (Err y) P Q f h = h
