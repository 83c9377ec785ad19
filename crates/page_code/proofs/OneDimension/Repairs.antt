-- The lines of a page, and what is given for them.
use Rattle.std.proofs.Common.{ℕ, suc, ◌≡◌, ◌+◌, ◌-◌, ◌<◌, ◌≤◌, Bool, List, [], ◌∷◌, ◌++◌, length, drop, inl, inr, refl, ap, sym, ◌∙◌}
use Rattle.std.proofs.Common.{subst, arith, append_assoc, false, None, Some}
use Rattle.std.specs.Prelude.{slice_get, slice_index_or, ◌↔◌, ◌≢◌, IsTrue}
use Rattle.std.proofs.lemmas.Option.{get_or_from_slice_get, slice_get_within}
use Rattle.std.proofs.lemmas.Bool.{false≢true}
use Rattle.std.proofs.lemmas.List.{append-nil, drop-drop, length_push}
use Rattle.raster.specs.declared.row.Color.{Color}
use Rattle.raster.specs.Pages.{IsPage, PagePixels, PushesAgain}
use Rattle.run_tables.specs.declared.fault.CodeFault.{CodeFault}
use Rattle.run_tables.specs.declared.fault.CodeFaultKind.{CodeFaultKind}
use Rattle.run_tables.specs.declared.fault.CodeFaultKind.TheVariants.{NoMemory, TooManyCodedRows}
use Rattle.run_tables.specs.Reading.{Reading}
use Rattle.run_tables.specs.RowLaws.{ReadsAsRow}
use Rattle.run_tables.specs.RowReading.{ReadsRow, RefusesRow}
use Rattle.run_tables.proofs.FrontWalks.{walk_on}
use Rattle.page_code.specs.declared.one_dim.repair.Found.{Found}
use Rattle.page_code.specs.declared.one_dim.repair.Found.TheVariants.{Read, Broken}
use Rattle.page_code.specs.declared.one_dim.repair.Lines.{Lines}
use Rattle.page_code.specs.declared.one_dim.repair.RepairedRow.{RepairedRow}
use Rattle.page_code.specs.OneDimension.Repairs.{AreGivenTo, EndsPage, EndsRow, HasMoreLines, IsLine}
use Rattle.page_code.specs.OneDimension.Repairs.{IsReadFor, IsRepair, IsSkipped, Line}
use Rattle.page_code.specs.OneDimension.Repairs.{given, last_of, last_row, listed, repaired_in, rows_given, white_row}
use Rattle.page_code.specs.OneDimension.Repairs.Line.{spelled, broken}
use Rattle.page_code.specs.OneDimension.Repairing.{FindsLine, FindsRowEnd, GivesLast, GivesLine}

-- One line more

pub length-given : (before : List Color) (lines : List Line) → length (rows_given before lines) ≡ length lines
length-given before [] = refl
length-given before (line ∷ lines) = ap suc (length-given (given before line) lines)

given_push : (before : List Color) (lines : List Line) (line : Line)
    → rows_given before (lines ++ line ∷ []) ≡ rows_given before lines ++ given (last_of before (rows_given before lines)) line ∷ []
given_push before [] line = refl
given_push before (one ∷ lines) line = ap (λ (rows : List (List Color)). given before one ∷ rows) (given_push (given before one) lines line)

repaired_push : (number : ℕ) (lines : List Line) (line : Line)
    → repaired_in number (lines ++ line ∷ []) ≡ repaired_in number lines ++ listed (number + length lines) line
repaired_push number [] line =
    let same : number ≡ number + 0 = omega arith in
    append-nil (listed number line) ∙ ap (λ (n : ℕ). listed n line) same
repaired_push number (one ∷ lines) line =
    let same : number + 1 + length lines ≡ number + suc (length lines) = omega arith in
    ap (λ (rows : List RepairedRow). listed number one ++ rows) (repaired_push (number + 1) lines line) ∙
    (sym (append_assoc (listed number one) (repaired_in (number + 1) lines) (listed (number + 1 + length lines) line)) ∙
    ap (λ (n : ℕ). (listed number one ++ repaired_in (number + 1) lines) ++ listed n line) same)

given_next : (width : ℕ) (bits : List Bool) (rows : List (List Color)) (repaired : List RepairedRow) (place next : ℕ) (line : Line)
    → AreGivenTo width bits rows repaired place → IsLine width bits place line next
    → AreGivenTo width bits (rows ++ given (last_row width rows) line ∷ []) (repaired ++ listed (length rows + 1) line) next
given_next width bits rows repaired place next line are there =
    let white : List Color = white_row width in
    let count : 1 + length are.lines ≡ length rows + 1 = omega (arith, ap length are.rows_are, length-given white are.lines) in
    record {
      start = are.start;
      lines = are.lines ++ line ∷ [];
      first = are.first;
      walk = walk_on (λ (i : Line). []) (IsLine width bits) are.lines (line ∷ []) are.start place next are.walk (next, there, refl);
      rows_are = ap (λ (r : List (List Color)). r ++ given (last_of white r) line ∷ []) are.rows_are ∙
          sym (given_push white are.lines line);
      repaired_are = ap (λ (r : List RepairedRow). r ++ listed (length rows + 1) line) are.repaired_are ∙
          (ap (λ (n : ℕ). repaired_in 1 are.lines ++ listed n line) (sym count) ∙ sym (repaired_push 1 are.lines line));
    }

-- the rows and the repaired ones after one line more
pub given_on : (width : ℕ) (bits : List Bool) (old new : Lines) → old.page.width ≡ width
    → AreGivenTo width bits old.page.rows old.repaired.items old.place → GivesLine bits old new
    → AreGivenTo width bits new.page.rows new.repaired.items new.place
given_on width bits old new is are gives =
    let here : IsLine width bits old.place gives.line new.place = subst (λ (w : ℕ). IsLine w bits old.place gives.line new.place) is
    gives.there in
    let next = given_next width bits old.page.rows old.repaired.items old.place new.place gives.line are here in
    let last : given (last_row width old.page.rows) gives.line ≡ given (last_row old.page.width old.page.rows) gives.line = ap (λ (w : ℕ).
    given (last_row w old.page.rows) gives.line) (sym is) in
    let rows : old.page.rows ++ given (last_row width old.page.rows) gives.line ∷ [] ≡ new.page.rows = ap (λ (row : List Color).
    old.page.rows ++ row ∷ []) last ∙ sym (ap (λ (p : _). p.rows) gives.page_is) in
    subst (λ (r : List (List Color)). AreGivenTo width bits r new.repaired.items new.place) rows (subst (λ (r : List RepairedRow).
    AreGivenTo width bits (old.page.rows ++ given (last_row width old.page.rows) gives.line ∷ []) r new.place) (sym gives.repaired_is) next)

-- the last row
pub last_there : (before : List Color) (rows : List (List Color)) (default : List Color) → 0 < length rows
    → slice_index_or rows (length rows - 1) default ≡ last_of before rows
last_there before [] default some = absurd (omega arith)
last_there before (row ∷ []) default some = refl
last_there before (row ∷ next ∷ rows) default some =
    let same : length (row ∷ next ∷ rows) - 1 ≡ suc (length (next ∷ rows) - 1) = omega arith in
    ap (λ (k : ℕ). slice_index_or (row ∷ next ∷ rows) k default) same ∙ last_there row (next ∷ rows) default (omega arith)

-- What a line has

module _ (bits : List Bool) (place width : ℕ) (old : Reading) (is : old ≡ record { bits = bits; place = place }) where
  row_there : (new : Reading) (row : List Color) → ReadsRow width old new row
      → (used : ℕ) × ReadsAsRow width (drop place bits) row used × (new.place ≡ place + used) × (new.bits ≡ bits)
  row_there new row reads =
      let here : ReadsRow width (record { bits = bits; place = place }) new row = subst (λ (r : Reading). ReadsRow width r new row) is reads
      in (
        here.used,
        here.reads,
        ap (λ (r : Reading). r.place) here.after,
        ap (λ (r : Reading). r.bits) here.after,
      )

  -- a place after a row is within the bits
  pub end_within : (new : Reading) (row : List Color) (end : ℕ) → ReadsRow width old new row → end ≤ length new.bits → end ≤ length bits
  end_within new row end reads within = subst (λ (l : List Bool). end ≤ length l) (row_there new row reads).3 within

  pub finds_row : (new : Reading) (row : List Color) (end next : ℕ) → ReadsRow width old new row → end ≡ new.place
      → FindsRowEnd row bits end (Some next) → IsLine width bits place (spelled row) next × (next ≤ length bits)
  finds_row new row end next reads end_is ends =
      let there = row_there new row reads in
      let same : end ≡ place + there.0 = end_is ∙ there.2 in (
        (
          there.0,
          ends.0,
          there.1,
          subst (λ (n : ℕ). EndsRow row (drop n bits) ends.0) same ends.1,
          omega (arith, ends.2, same),
        ),
        ends.3,
      )

  pub finds_no_end : (new : Reading) (row : List Color) (end : ℕ) → ReadsRow width old new row → end ≡ new.place
      → FindsRowEnd row bits end None → (count : ℕ) × IsReadFor width (drop place bits) count × (end ≡ place + count)
  finds_no_end new row end reads end_is none =
      let there = row_there new row reads in
      let same : end ≡ place + there.0 = end_is ∙ there.2 in
      let rest : drop there.0 (drop place bits) ≡ drop end bits = drop-drop there.0 place bits ∙
      ap (λ (n : ℕ). drop n bits) (sym same) in (
        there.0,
        inr (row, there.1, λ used ends. none used (subst (λ (l : List Bool). EndsRow row l used) rest ends)),
        same,
      )

  pub finds_refused : (fault : CodeFault) → RefusesRow width old fault
      → (count : ℕ) × IsReadFor width (drop place bits) count × (fault.place ≡ place + count)
  finds_refused fault refuses =
      let here : RefusesRow width (record { bits = bits; place = place }) fault = subst (λ (r : Reading). RefusesRow width r fault) is
      refuses in
      (here.front, inl (fault.kind, here.longest, here.none), here.place)

-- a refused memory
pub not_memory : (result : Bool) (kind : CodeFaultKind) → IsTrue result ↔ (kind ≡ NoMemory) → result ≡ false → kind ≢ NoMemory
not_memory result kind tells is e = false≢true (sym is ∙ tells.1 e)

-- the last row of a page, which has one
pub last_got : (page : PagePixels) (row : List Color) → IsPage page → slice_get page.rows (length page.rows - 1) ≡ Some row
    → (row ≡ last_row page.width page.rows) × (length row ≡ page.width)
last_got page row is got =
    let white : List Color = white_row page.width in
    let within : length page.rows - 1 < length page.rows = slice_get_within page.rows (length page.rows - 1) row got in
    let at : slice_index_or page.rows (length page.rows - 1) white ≡ row = get_or_from_slice_get page.rows (length page.rows - 1) row white
    got in (
      sym at ∙ last_there white page.rows white (omega (arith, within)),
      ap length (sym at) ∙ is.wide (length page.rows - 1) white within,
    )

-- A line more

pub gives_read : (width : ℕ) (bits : List Bool) (old new : Lines) (found : Found) (row : List Color) (next : ℕ) → width ≡ old.page.width
    → FindsLine width bits old.place found → found ≡ Read row next
    → new.page ≡ record old.page { rows = old.page.rows ++ row ∷ [] } → new.repaired.items ≡ old.repaired.items → new.place ≡ next
    → GivesLine bits old new
gives_read width bits old new found row next wide finds is page same place =
    let here : FindsLine old.page.width bits old.place (Read row next) = subst (λ (w : ℕ). FindsLine w bits old.place (Read row next)) wide
    (subst (λ (f : Found). FindsLine width bits old.place f) is finds) in
    record {
      line = spelled row;
      there = subst (λ (n : ℕ). IsLine old.page.width bits old.place (spelled row) n) (sym place) here.0;
      within = omega (arith, place, here.1);
      page_is = page;
      repaired_is = same ∙ sym (append-nil old.repaired.items);
    }

pub gives_broken : (width : ℕ) (bits : List Bool) (old new : Lines) (found : Found) (bit number : ℕ)
    → width ≡ old.page.width → FindsLine width bits old.place found → found ≡ Broken bit → ¬ EndsPage (drop old.place bits)
    → GivesLast old.page new.page → number ≡ length new.page.rows
    → new.repaired.items ≡ old.repaired.items ++ record { row = number; bit = bit } ∷ []
    → (more : ℕ) × IsSkipped (drop old.place bits) more × (new.place ≡ old.place + more) → new.place ≤ length bits
    → GivesLine bits old new
gives_broken width bits old new found bit number wide finds is begins page count repaired skipped within =
    let here : FindsLine old.page.width bits old.place (Broken bit) = subst (λ (w : ℕ). FindsLine w bits old.place (Broken bit)) wide
    (subst (λ (f : Found). FindsLine width bits old.place f) is finds) in
    let last : List Color = last_row old.page.width old.page.rows in
    let rows : length new.page.rows ≡ length (old.page.rows ++ last ∷ []) = ap (λ (p : PagePixels). length p.rows) page in
    let same : number ≡ length old.page.rows + 1 = omega (arith, count, rows, length_push old.page.rows last) in
    record {
      line = broken bit;
      there = (here.0, skipped.0, begins, here.1, skipped.1, here.2, skipped.2);
      within = within;
      page_is = page;
      repaired_is = repaired ∙ ap (λ (n : ℕ). old.repaired.items ++ record { row = n; bit = bit } ∷ []) same;
    }

-- the last row stands once more
pub gives_again : (old new : PagePixels) (count : ℕ) → count ≡ length old.rows → IsPage old → PushesAgain old (count - 1) new
    → GivesLast old new
gives_again old new count is page again =
    let got : slice_get old.rows (length old.rows - 1) ≡ Some again.0 =
    subst (λ (n : ℕ). slice_get old.rows (n - 1) ≡ Some again.0) is again.1 in
    again.2 ∙ ap (λ (r : List Color). record old { rows = old.rows ++ r ∷ [] }) (last_got old again.0 page got).0

-- a page with a line more
pub lines_on : (width : ℕ) (fine : Bool) (bits : List Bool) (old new : Lines) → old.page.width ≡ width → old.page.fine ≡ fine
    → AreGivenTo width bits old.page.rows old.repaired.items old.place → GivesLine bits old new
    → (new.page.width ≡ width) × (new.page.fine ≡ fine) × (length new.page.rows ≡ length old.page.rows + 1)
    × AreGivenTo width bits new.page.rows new.repaired.items new.place
lines_on width fine bits old new wide lines are gives = (
  ap (λ (p : PagePixels). p.width) gives.page_is ∙ wide,
  ap (λ (p : PagePixels). p.fine) gives.page_is ∙ lines,
  ap (λ (p : PagePixels). length p.rows) gives.page_is ∙ length_push old.page.rows (given (last_row old.page.width old.page.rows)
      gives.line),
  given_on width bits old new wide are gives,
)

-- a line too many
pub more_lines : (width : ℕ) (bits : List Bool) (rows : List (List Color)) (repaired : List RepairedRow) (place : ℕ) (fault : CodeFault)
    → AreGivenTo width bits rows repaired place → ¬ EndsPage (drop place bits) → length rows ≡ 20000
    → fault ≡ record { place = place; kind = TooManyCodedRows } → HasMoreLines width bits fault
more_lines width bits rows repaired place fault are begins full is =
    let place_is : place ≡ fault.place = sym (ap (λ (f : CodeFault). f.place) is) in
    record {
      rows = rows;
      repaired = repaired;
      given_to = subst (λ (n : ℕ). AreGivenTo width bits rows repaired n) place_is are;
      begins = subst (λ (n : ℕ). ¬ EndsPage (drop n bits)) place_is begins;
      full = full;
      kind_is = ap (λ (f : CodeFault). f.kind) is;
    }

-- no more rows are repaired than there are
few_repaired : (number : ℕ) (lines : List Line) → length (repaired_in number lines) ≤ length lines
few_repaired number [] = omega arith
few_repaired number (spelled row ∷ lines) = omega (arith, few_repaired (number + 1) lines)
few_repaired number (broken bit ∷ lines) = omega (arith, few_repaired (number + 1) lines)

pub all_repaired : (width : ℕ) (bits : List Bool) (rows : List (List Color)) (repaired : List RepairedRow)
    → IsRepair width bits rows repaired → ¬ (length repaired < length rows) → length repaired ≡ length rows
all_repaired width bits rows repaired is more =
    let lines : List Line = is.given_to.lines in
    let few : length repaired ≤ length rows = omega (
      arith,
      few_repaired 1 lines,
      ap length is.given_to.repaired_are,
      ap length is.given_to.rows_are,
      length-given (white_row width) lines,
    ) in
    omega (arith, few, more)
