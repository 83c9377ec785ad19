-- Whole items of a page go on to a page, and what is refused after them doesn't.
use Rattle.std.proofs.Common.{ℕ, ◌≡◌, ◌+◌, ◌<◌, ◌≤◌, ◌⊎◌, inl, inr, Bool, List, [], ◌∷◌, ◌++◌, length, refl, ap, sym, ◌∙◌, arith}
use Rattle.std.proofs.Common.{append_assoc}
use Rattle.std.specs.Prelude.{Contains}
use Rattle.std.proofs.lemmas.List.{length_push, append-nil}
use Rattle.raster.specs.declared.row.Color.{Color}
use Rattle.raster.specs.declared.row.Color.TheVariants.{White}
use Rattle.raster.specs.Pages.{max_rows}
use Rattle.raster.specs.Pixels.{IsWidth}
use Rattle.run_tables.specs.declared.fault.CodeFaultKind.{CodeFaultKind}
use Rattle.run_tables.specs.declared.fault.CodeFaultKind.TheVariants.{NoRows, BadCode, RunTooLong, TooManyCodedRows}
use Rattle.run_tables.specs.declared.reader.Among.{Among}
use Rattle.run_tables.specs.declared.reader.Among.TheVariants.{AllCodes}
use Rattle.run_tables.specs.Codes.{code_word}
use Rattle.run_tables.specs.Kinds.{MayCome, AreRuns}
use Rattle.run_tables.specs.RowFronts.{run_items}
use Rattle.run_tables.specs.RowFronts.RunItem.{run_item}
use Rattle.run_tables.proofs.CodeKinds.{may_listed}
use Rattle.run_tables.proofs.CodeLooks.{run_item_at}
use Rattle.run_tables.proofs.RowsGoOn.{Completed, part_goes_on, none_more}
use Rattle.page_code.specs.OneDimension.Fronts.{CodeBegins}
use Rattle.page_code.specs.OneDimension.KindLaws.{FrontsGoOn}
use Rattle.page_code.specs.OneDimension.Kinds.{PagePlace, AreRows, IsLineBegin, MayBeginRow, IsPagePart, IsBeforeCode, GoesOnInLine}
use Rattle.page_code.specs.OneDimension.Kinds.{PageKind, IsRefusedPage}
use Rattle.page_code.specs.OneDimension.Kinds.PagePlace.{page_begin, line_begin, in_row, line_end}
use Rattle.page_code.specs.OneDimension.Pages.{eol_word, AreZeros, ReadsAs}
use Rattle.page_code.proofs.OneDimension.Look.{code_stands}
use Rattle.page_code.proofs.OneDimension.PageKinds.{begins_line, line_begins}
use Rattle.page_code.proofs.OneDimension.PageParts.{row_follows}
use Rattle.page_code.proofs.OneDimension.PageRefusals.{not_both}
use Rattle.page_code.proofs.OneDimension.ZerosBefore.{zeros_front}

-- ---- a page is completed

-- bits that complete a page
abbrev Completes : ℕ → List Bool → Type 0
Completes width front = (page : List (List Color)) × (more : List Bool) × (used : ℕ) × ReadsAs width (front ++ more) page used

no_bits : AreZeros []
no_bits k d h = absurd (omega arith)

-- whole rows are a page
rows_page : (width : ℕ) (x : List Bool) (rows : List (List Color)) → length rows ≤ max_rows → AreRows width x rows
    → (used : ℕ) × ReadsAs width x rows used
rows_page width x rows few are = (
  length are.0 + length are.1 + 0,
  record {
    lead = are.0;
    bits = are.1;
    rest = [];
    last = 0;
    few = few;
    leads = are.2;
    rows = are.3;
    ends = inl (no_bits, refl);
    split = are.4 ∙ ap (λ l. are.0 ++ l) (sym (append-nil are.1));
    used_is = refl;
  },
)

rows_complete : (width : ℕ) (front more : List Bool) (rows : List (List Color)) → length rows ≤ max_rows
    → AreRows width (front ++ more) rows → Completes width front
rows_complete width front more rows few are =
    let page = rows_page width (front ++ more) rows few are in
    (rows, more, page.0, page.1)

-- a row that was begun
row_completes : (width : ℕ) (before codes : List Bool) (rows : List (List Color)) → length rows < max_rows → MayBeginRow width before rows
    → Completed width codes → Completes width (before ++ codes)
row_completes width before codes rows room may row =
    let whole = row_follows width before (codes ++ row.1) rows row.0 may row.2 row.3 in
    let regroup : before ++ (codes ++ row.1) ≡ (before ++ codes) ++ row.1 = sym (append_assoc before codes row.1) in
    rows_complete width (before ++ codes) row.1 (rows ++ row.0 ∷ []) (omega (arith, room, length_push rows row.0)) (rw regroup at whole)

-- a row that wasn't
next_completes : (width : ℕ) (before : List Bool) (rows : List (List Color)) → IsWidth width → length rows < max_rows
    → MayBeginRow width before rows → Completes width before
next_completes width before rows wide room may =
    let some : 0 < width = omega (arith, wide.0) in
    let none : AreRuns width [] 0 White = record { runs = []; words = refl; sum_is = refl; color_is = refl; short = some } in
    rw append-nil at (row_completes width before [] rows room may (part_goes_on width [] 0 White AllCodes wide none))

-- rows and an EOL are a page
eol_completes : (width : ℕ) (front before : List Bool) (rows : List (List Color)) (count : ℕ) → length rows ≤ max_rows
    → AreRows width before rows → 11 ≤ count → front ≡ before ++ eol_word count → Completes width front
eol_completes width front before rows count few are long split = (
  rows,
  [],
  length are.0 + length are.1 + length (eol_word count),
  record {
    lead = are.0;
    bits = are.1;
    rest = eol_word count;
    last = length (eol_word count);
    few = few;
    leads = are.2;
    rows = are.3;
    ends = inr (inl (count, [], long, sym (append-nil (eol_word count)), no_bits, refl));
    split = append-nil front ∙ (split ∙ (ap (λ l. l ++ eol_word count) are.4 ∙ append_assoc are.0 are.1 (eol_word count)));
    used_is = refl;
  },
)

line_completes : (width : ℕ) (front : List Bool) (rows : List (List Color)) → IsWidth width → length rows ≤ max_rows
    → IsLineBegin width front rows → Completes width front
line_completes width front rows wide few (inl lead) =
    next_completes width front rows wide (omega (arith, ap length lead.2)) (inr (inl lead))
line_completes width front rows wide few (inr after) = eol_completes width front after.0 rows after.1 few after.2 after.3 after.4

page_completes : (width : ℕ) (front : List Bool) (at : PagePlace) → IsWidth width → IsPagePart width front at → Completes width front
page_completes width front page_begin wide part = next_completes width front [] wide (omega arith) (inl (part, refl))
page_completes width front (line_begin count) wide part = line_completes width front part.0 wide part.2 part.1
page_completes width front (in_row so_far color among) wide part =
    rw part.7 (row_completes width part.1 part.2 part.0 part.4 part.3 (part_goes_on width part.2 so_far color among wide part.5))
page_completes width front line_end wide part =
    rows_complete width front [] part.0 part.2 (rw (← append-nil front) at part.1)

-- ---- what is refused doesn't go on

-- a code in place of an EOL
code_in_line : (run : ℕ) (word more : List Bool) → MayCome White AllCodes run word → GoesOnInLine (word ++ more)
code_in_line run word more may =
    let there = may_listed White AllCodes run word may in
    let listed : Contains (run_items White 104) (run_item White run) = run_item_at White 104 run there.0 in
    let begins : CodeBegins (code_word White run ++ more) = code_stands White (run_item White run) more listed in
    rw there.1 (begins_line (code_word White run ++ more) begins)

long_kind : (width : ℕ) (at : PagePlace) (so_far : ℕ) (color : Color) (among : Among) (run : ℕ) (word more : List Bool)
    → IsBeforeCode at so_far color among → MayCome color among run word → width < so_far + run
    → PageKind width at (word ++ more) RunTooLong
long_kind width page_begin so_far color among run word more here may long =
    let first : MayCome White AllCodes run word = rw (here.1, here.2) at may in
    (code_in_line run word more first, (run, (word, more, first, refl), rw here.0 at long))
long_kind width (line_begin rows) so_far color among run word more here may long =
    let first : MayCome White AllCodes run word = rw (here.2, here.3) at may in
    (here.0, code_in_line run word more first, (run, (word, more, first, refl), rw here.1 at long))
long_kind width (in_row pixels next these) so_far color among run word more here may long =
    (run, (word, more, rw (here.1, here.2) at may, refl), rw here.0 at long)
long_kind width line_end so_far color among run word more here may long = absurd here

too_long : (width : ℕ) (front : List Bool) (at : PagePlace) (so_far : ℕ) (color : Color) (among : Among) (run : ℕ) (word : List Bool)
    → IsWidth width → IsPagePart width front at → IsBeforeCode at so_far color among → MayCome color among run word
    → width < so_far + run → (more : List Bool) (page : List (List Color)) (used : ℕ) → ¬ ReadsAs width (front ++ (word ++ more)) page used
too_long width front at so_far color among run word wide part here may long more page used reads = not_both width (front ++ (word ++ more))
    page used (length front) RunTooLong wide reads (record {
      front = front;
      rest = word ++ more;
      at = at;
      split = refl;
      part = part;
      place_is = refl;
      kind_is = long_kind width at so_far color among run word more here may long;
    })

second_eol : (width : ℕ) (front : List Bool) (count : ℕ) → IsWidth width → IsPagePart width front (line_begin 0) → 11 ≤ count
    → (more : List Bool) (page : List (List Color)) (used : ℕ) → ¬ ReadsAs width (front ++ (eol_word count ++ more)) page used
second_eol width front count wide part long more page used reads = not_both width (front ++ (eol_word count ++ more)) page used (length
    front) NoRows wide reads (record {
      front = front;
      rest = eol_word count ++ more;
      at = line_begin 0;
      split = refl;
      part = part;
      place_is = refl;
      kind_is = (refl, inr (count, more, long, refl));
    })

line_more : (rest more : List Bool) → GoesOnInLine rest → GoesOnInLine (rest ++ more)
line_more rest more on =
    let code = line_begins rest on in
    begins_line (rest ++ more) (code.0, zeros_front rest more code.0 code.1, code.2)

bad_more : (width : ℕ) (at : PagePlace) (rest more : List Bool) → PageKind width at rest BadCode → PageKind width at (rest ++ more) BadCode
bad_more width page_begin rest more is = (line_more rest more is.0, none_more White AllCodes rest more is.1)
bad_more width (line_begin rows) rest more is = (is.0, line_more rest more is.1, none_more White AllCodes rest more is.2)
bad_more width (in_row so_far color among) rest more is = none_more color among rest more is
bad_more width line_end rest more is = line_more rest more is

full_more : (width : ℕ) (at : PagePlace) (rest more : List Bool) → PageKind width at rest TooManyCodedRows
    → PageKind width at (rest ++ more) TooManyCodedRows
full_more width page_begin rest more is = absurd is.1
full_more width (line_begin rows) rest more is = (is.0, line_more rest more is.1)
full_more width (in_row so_far color among) rest more is = absurd is
full_more width line_end rest more is = absurd is

kind_more : (width : ℕ) (at : PagePlace) (rest more : List Bool) (kind : CodeFaultKind) → (kind ≡ BadCode) ⊎ (kind ≡ TooManyCodedRows)
    → PageKind width at rest kind → PageKind width at (rest ++ more) kind
kind_more width at rest more kind (inl bad) is = rw bad (bad_more width at rest more (rw bad at is))
kind_more width at rest more kind (inr full) is = rw full (full_more width at rest more (rw full at is))

no_item : (width : ℕ) (x : List Bool) (place : ℕ) (kind : CodeFaultKind) → IsWidth width → (kind ≡ BadCode) ⊎ (kind ≡ TooManyCodedRows)
    → IsRefusedPage width x place kind → (more : List Bool) (page : List (List Color)) (used : ℕ) → ¬ ReadsAs width (x ++ more) page used
no_item width x place kind wide which refused more page used reads = not_both width (x ++ more) page used place kind wide reads (record {
  front = refused.front;
  rest = refused.rest ++ more;
  at = refused.at;
  split = ap (λ l. l ++ more) refused.split ∙ append_assoc refused.front refused.rest more;
  part = refused.part;
  place_is = refused.place_is;
  kind_is = kind_more width refused.at refused.rest more kind which refused.kind_is;
})

pub fronts_go_on : FrontsGoOn
fronts_go_on = record {
  goes_on = λ width front at wide part. page_completes width front at wide part;
  too_long = λ width front at so_far color among run word wide part here may long more page used reads. too_long width front at so_far color
      among run word wide part here may long more page used reads;
  second_eol = λ width front count wide part long more page used reads. second_eol width front count wide part long more page used reads;
  no_item = λ width x place kind wide which refused more page used reads. no_item width x place kind wide which refused more page used
      reads;
}
