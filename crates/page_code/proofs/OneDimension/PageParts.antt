-- Whole items of a page: where the items of a walk lead, and which items lead there.
use Rattle.std.proofs.Common.{ℕ, ◌≡◌, ◌≢◌, ◌+◌, ◌<◌, ◌≤◌, inl, inr, Bool, List, [], ◌∷◌, ◌++◌, length, map, None, refl, ap, sym, ◌∙◌, arith}
use Rattle.std.proofs.Common.{append_assoc, length-append}
use Rattle.std.proofs.lemmas.List.{length_push, append-nil}
use Rattle.raster.specs.declared.row.Color.{Color}
use Rattle.raster.specs.declared.row.Color.TheVariants.{White}
use Rattle.raster.specs.Pages.{max_rows}
use Rattle.raster.specs.Pixels.{IsWidth}
use Rattle.run_tables.specs.declared.reader.Among.{Among}
use Rattle.run_tables.specs.Fronts.{Walk, spell}
use Rattle.run_tables.specs.Kinds.{IsRowPart}
use Rattle.run_tables.specs.RowFronts.{RunItem, RowState, row_begin, amount}
use Rattle.run_tables.specs.RowFronts.{item_word as code_bits, Step as RowStep}
use Rattle.run_tables.specs.RowFronts.RowState.{inside, whole}
use Rattle.run_tables.specs.RunWords.{SpellsRow}
use Rattle.run_tables.proofs.CodeLooks.{code_positive, step_from_put}
use Rattle.run_tables.proofs.FrontWalks.{way_none, way_on, way_by, walk_on, spell-append}
use Rattle.run_tables.proofs.RowKinds.{among_after}
use Rattle.run_tables.proofs.RowParts.{part_way, part_from}
use Rattle.run_tables.proofs.RowReadings.{walk_left}
use Rattle.run_tables.proofs.RowSpelling.{row_spelled}
use Rattle.page_code.specs.OneDimension.Fronts.{PageItem, item_word, PageState, put, CodeThere, Step, MayBegin}
use Rattle.page_code.specs.OneDimension.Fronts.PageItem.{eol, coded}
use Rattle.page_code.specs.OneDimension.Fronts.PageState.{first, row_start, row_end}
use Rattle.page_code.specs.OneDimension.Fronts.PageState.{in_row as row_state}
use Rattle.page_code.specs.OneDimension.Kinds.{PagePlace, AreRows, IsLineBegin, MayBeginRow, IsPagePart}
use Rattle.page_code.specs.OneDimension.Kinds.PagePlace.{page_begin, line_begin, in_row, line_end}
use Rattle.page_code.specs.OneDimension.Pages.{eol_word, SpellsLater, SpellsRows}
use Rattle.page_code.proofs.OneDimension.PageKinds.{place_of}
use Rattle.page_code.proofs.OneDimension.ReadsAll.{PageWay, later_way, lead_way}
use Rattle.page_code.proofs.OneDimension.RowInPage.{begin_walk, spell-coded}

-- ---- parts lead on

rows_way : (width : ℕ) (front : List Bool) (rows : List (List Color)) → IsWidth width → length rows ≤ max_rows → AreRows width front rows
    → PageWay width first (row_end rows) front
rows_way width front rows wide few are =
    let spells : SpellsRows width rows are.1 = are.3 in
    let all : List (List Color) = spells.row ∷ spells.later in
    let few_all : length all ≤ 20000 = rw spells.rows_are at few in
    let begun = lead_way width spells.row are.0 spells.front (omega (arith, wide.0)) wide.1 are.2 spells.wide spells.spells in
    let more = later_way width spells.later (spells.row ∷ []) spells.after (omega (arith, wide.0)) wide.1 (omega arith) spells.each in
    let way : PageWay width first (row_end all) ((are.0 ++ spells.front) ++ spells.after) = way_on item_word (Step width) first (row_end
    (spells.row ∷ [])) (row_end all) (are.0 ++ spells.front) spells.after begun more in
    rw (are.4, spells.rows_are, spells.split, ← append_assoc are.0 spells.front spells.after) way

line_way : (width : ℕ) (front : List Bool) (rows : List (List Color)) → IsWidth width → length rows ≤ max_rows
    → IsLineBegin width front rows → PageWay width first (row_start rows) front
line_way width front rows wide few (inl lead) = rw (lead.2, lead.3) (way_by item_word (Step width) first (row_start []) (eol lead.0) (
  lead.1,
  refl,
))
line_way width front rows wide few (inr after) =
    rw after.4 (way_on item_word (Step width) first (row_end rows) (row_start rows) after.0 (eol_word after.1) (rows_way width after.0 rows
    wide few after.2) (way_by item_word (Step width) (row_end rows) (row_start rows) (eol after.1) (after.3, refl)))

-- where a row may begin
begin_way : (width : ℕ) (front : List Bool) (rows : List (List Color)) → IsWidth width → length rows < max_rows
    → MayBeginRow width front rows → (s : PageState) × PageWay width first s front × MayBegin s rows
begin_way width front rows wide room (inl none) = (first, rw none.0 (way_none item_word (Step width) first), sym none.1)
begin_way width front rows wide room (inr line) = (row_start rows, line_way width front rows wide (omega (arith, room)) line, (room, refl))

-- the items of a part, and the state that they lead to
abbrev pub ToPlace : ℕ → List Bool → PagePlace → Type 0
ToPlace width front at = (s : PageState) × PageWay width first s front × (at ≡ place_of s)

row_part_way : (width : ℕ) (before codes : List Bool) (rows : List (List Color)) (so_far : ℕ) (color : Color) (among : Among)
    → IsWidth width → length rows < max_rows → MayBeginRow width before rows → IsRowPart width codes so_far color among → codes ≢ []
    → ToPlace width (before ++ codes) (in_row so_far color among)
row_part_way width before codes rows so_far color among wide room may part some =
    let row = part_way width codes so_far color among wide.1 part in
    from row.0 row.1 row.2.items row.2.walk row.2.spelled row.3 row.4
  where
    from : (pixels : List Color) (makeup : _) (items : List RunItem) → Walk (RowStep width) row_begin items (inside pixels color makeup)
        → spell code_bits items ≡ codes → so_far ≡ length pixels + amount makeup → among ≡ among_after makeup
        → ToPlace width (before ++ codes) (in_row so_far color among)
    from pixels makeup [] walk spelled sum_is among_is = absurd (some (sym spelled))
    from pixels makeup (code ∷ items) walk spelled sum_is among_is =
        let begun = begin_way width before rows wide room may in
        let on : PageWay width begun.0 (row_state rows pixels color makeup) codes = record {
          items = map coded (code ∷ items);
          walk = begin_walk width begun.0 rows code items (inside pixels color makeup) begun.2 walk;
          spelled = spell-coded (code ∷ items) ∙ spelled;
        } in (
          row_state rows pixels color makeup,
          way_on item_word (Step width) first begun.0 (row_state rows pixels color makeup) before codes begun.1 on,
          rw (sum_is, among_is) refl,
        )

pub page_part_way : (width : ℕ) (front : List Bool) (at : PagePlace) → IsWidth width → IsPagePart width front at → ToPlace width front at
page_part_way width front page_begin wide part = (first, rw part (way_none item_word (Step width) first), refl)
page_part_way width front (line_begin count) wide part = (
  row_start part.0,
  line_way width front part.0 wide part.2 part.1,
  ap line_begin part.3,
)
page_part_way width front (in_row so_far color among) wide part =
    rw part.7 (row_part_way width part.1 part.2 part.0 so_far color among wide part.4 part.3 part.5 part.6)
page_part_way width front line_end wide part = (row_end part.0, rows_way width front part.0 wide part.2 part.1, refl)

-- ---- items are parts

-- one row more
later_more : (width : ℕ) (rows : List (List Color)) (bits : List Bool) (row : List Color) (front : List Bool) (count : ℕ)
    → SpellsLater width rows bits → 11 ≤ count → SpellsRow row front → length row ≡ width
    → SpellsLater width (rows ++ row ∷ []) (bits ++ (eol_word count ++ front))
later_more width [] bits row front count later long spells wide = (
  count,
  front,
  [],
  long,
  spells,
  wide,
  refl,
  rw later (ap (λ l. eol_word count ++ l) (sym (append-nil front))),
)
later_more width (r ∷ rows) bits row front count later long spells wide =
    let end : List Bool = eol_word count ++ front in (
      later.0,
      later.1,
      later.2 ++ end,
      later.3,
      later.4,
      later.5,
      later_more width rows later.2 row front count later.6 long spells wide,
      ap (λ l. l ++ end) later.7 ∙ (append_assoc (eol_word later.0) (later.1 ++ later.2) end ∙
          ap (λ l. eol_word later.0 ++ l) (append_assoc later.1 later.2 end)),
    )

rows_more : (width : ℕ) (rows : List (List Color)) (bits : List Bool) (row : List Color) (front : List Bool) (count : ℕ)
    → SpellsRows width rows bits → 11 ≤ count → SpellsRow row front → length row ≡ width
    → SpellsRows width (rows ++ row ∷ []) (bits ++ (eol_word count ++ front))
rows_more width rows bits row front count are long spells wide = record {
  row = are.row;
  later = are.later ++ row ∷ [];
  front = are.front;
  after = are.after ++ (eol_word count ++ front);
  rows_are = ap (λ (rs : List (List Color)). rs ++ row ∷ []) are.rows_are;
  spells = are.spells;
  wide = are.wide;
  each = later_more width are.later are.after row front count are.each long spells wide;
  split = ap (λ l. l ++ (eol_word count ++ front)) are.split ∙ append_assoc are.front are.after (eol_word count ++ front);
}

one_row : (width : ℕ) (row : List Color) (front : List Bool) → SpellsRow row front → length row ≡ width
    → SpellsRows width (row ∷ []) front
one_row width row front spells wide = record {
  row = row;
  later = [];
  front = front;
  after = [];
  rows_are = refl;
  spells = spells;
  wide = wide;
  each = refl;
  split = sym (append-nil front);
}

-- a row after bits that it may follow
pub row_follows : (width : ℕ) (before front : List Bool) (rows : List (List Color)) (row : List Color) → MayBeginRow width before rows
    → SpellsRow row front → length row ≡ width → AreRows width (before ++ front) (rows ++ row ∷ [])
row_follows width before front rows row (inl none) spells wide =
    rw (none.0, none.1) ([], front, inl refl, one_row width row front spells wide, refl)
row_follows width before front rows row (inr (inl lead)) spells wide =
    rw lead.2 (before, front, inr (lead.0, lead.1, lead.3), one_row width row front spells wide, refl)
row_follows width before front rows row (inr (inr line)) spells wide =
    let are : AreRows width line.0 rows = line.2 in
    let end : List Bool = eol_word line.1 ++ front in (
      are.0,
      are.1 ++ end,
      are.2,
      rows_more width rows are.1 row front line.1 are.3 line.3 spells wide,
      ap (λ l. l ++ front) line.4 ∙ (append_assoc line.0 (eol_word line.1) front ∙ (ap (λ l. l ++ end) are.4 ∙
          append_assoc are.0 are.1 end)),
    )

-- items lead to the state
abbrev StatePart : ℕ → List Bool → PageState → Type 0
StatePart width front first = front ≡ []
StatePart width front (row_start rows) = IsLineBegin width front rows × (length rows ≤ max_rows)
StatePart width front (row_state rows pixels color makeup) = (before : List Bool) × (codes : List RunItem)
    × MayBeginRow width before rows × (length rows < max_rows) × Walk (RowStep width) row_begin codes (inside pixels color makeup)
    × (0 < length (spell code_bits codes)) × (front ≡ before ++ spell code_bits codes)
StatePart width front (row_end rows) = AreRows width front rows × (length rows ≤ max_rows)

-- codes of a row lead to its state
codes_part : (width : ℕ) (before : List Bool) (rows : List (List Color)) (codes : List RunItem) (s : RowState) → IsWidth width
    → MayBeginRow width before rows → length rows < max_rows → Walk (RowStep width) row_begin codes s → 0 < length (spell code_bits codes)
    → StatePart width (before ++ spell code_bits codes) (put rows s)
codes_part width before rows codes (inside pixels color makeup) wide may room walk some = (before, codes, may, room, walk, some, refl)
codes_part width before rows codes (whole row) wide may room walk some =
    let spelled = row_spelled width row (spell code_bits codes) wide (walk_left width codes row_begin row walk) in
    (row_follows width before (spell code_bits codes) rows row may spelled.0 spelled.1, omega (arith, room, length_push rows row))

-- a code more
code_part : (width : ℕ) (before : List Bool) (rows : List (List Color)) (codes : List RunItem) (pixels : List Color) (color : Color)
    (makeup : _) (code : RunItem) (t : PageState) → IsWidth width → MayBeginRow width before rows → length rows < max_rows
    → Walk (RowStep width) row_begin codes (inside pixels color makeup) → CodeThere width rows pixels color makeup code t
    → StatePart width ((before ++ spell code_bits codes) ++ code_bits code) t
code_part width before rows codes pixels color makeup code t wide may room walk step =
    let there = step_from_put (put rows) width pixels color makeup code t step in
    let all : List RunItem = codes ++ code ∷ [] in
    let words : spell code_bits all ≡ spell code_bits codes ++ code_bits code = spell-append code_bits (RowStep width) codes (code ∷ []) ∙
    ap (λ l. spell code_bits codes ++ l) (append-nil (code_bits code)) in
    let more : 0 < length (code_bits code) = code_positive color makeup code step.stands in
    let walks : Walk (RowStep width) row_begin all there.0 = walk_on code_bits (RowStep width) codes (code ∷ []) row_begin (inside pixels
    color makeup) there.0 walk (there.0, there.1, refl) in
    let part = codes_part width before rows all there.0 wide may room walks (omega (
      arith,
      ap length words,
      length-append (spell code_bits
          codes) (code_bits code),
      more,
    )) in
    rw (there.2, words, ← append_assoc before (spell code_bits codes) (code_bits code)) at part

first_part : (width : ℕ) (before : List Bool) (rows : List (List Color)) (code : RunItem) (t : PageState) → IsWidth width
    → MayBeginRow width before rows → length rows < max_rows → CodeThere width rows [] White None code t
    → StatePart width (before ++ code_bits code) t
first_part width before rows code t wide may room step =
    rw append-nil at (code_part width before rows [] [] White None code t wide may room refl step)

item_part : (width : ℕ) (front : List Bool) (s : PageState) (i : PageItem) (t : PageState) → IsWidth width → StatePart width front s
    → Step width s i t → StatePart width (front ++ item_word i) t
item_part width front first (eol n) t wide part step = rw (part, ← step.1) (inl (n, step.0, refl, refl), omega arith)
item_part width front first (coded code) t wide part step = first_part width front [] code t wide (inl (part, refl)) (omega arith) step
item_part width front (row_start rows) (eol n) t wide part step = absurd step
item_part width front (row_start rows) (coded code) t wide part step = first_part width front rows code t wide (inr part.0) step.0 step.1
item_part width front (row_state rows pixels color makeup) (eol n) t wide part step = absurd step
item_part width front (row_state rows pixels color makeup) (coded code) t wide part step =
    rw part.6 (code_part width part.0 rows part.1 pixels color makeup code t wide part.2 part.3 part.4 step)
item_part width front (row_end rows) (eol n) t wide part step = rw (← step.1) (inr (front, n, part.0, step.0, refl), part.1)
item_part width front (row_end rows) (coded code) t wide part step = absurd step

items_part : (width : ℕ) (items : List PageItem) (front : List Bool) (s t : PageState) → IsWidth width → StatePart width front s
    → Walk (Step width) s items t → StatePart width (front ++ spell item_word items) t
items_part width [] front s t wide part walk = rw (append-nil, ← walk) part
items_part width (i ∷ is) front s t wide part walk =
    let later = items_part width is (front ++ item_word i) walk.0 t wide (item_part width front s i walk.0 wide part walk.1) walk.2 in
    rw append_assoc at later

page_part : (width : ℕ) (front : List Bool) (s : PageState) → IsWidth width → StatePart width front s → IsPagePart width front (place_of s)
page_part width front first wide part = part
page_part width front (row_start rows) wide part = (rows, part.0, part.1, refl)
page_part width front (row_state rows pixels color makeup) wide part = (
  rows,
  part.0,
  spell code_bits part.1,
  part.2,
  part.3,
  part_from width part.1 pixels color makeup (omega (arith, wide.0)) part.4,
  λ none. omega (arith, part.5, ap length none),
  part.6,
)
page_part width front (row_end rows) wide part = (rows, part.0, part.1)

-- items that lead to a state are a part of a page
pub page_part_from : (width : ℕ) (items : List PageItem) (s : PageState) → IsWidth width → Walk (Step width) first items s
    → IsPagePart width (spell item_word items) (place_of s)
page_part_from width items s wide walk = page_part width (spell item_word items) s wide (items_part width items [] first s wide refl walk)
