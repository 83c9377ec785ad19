-- When `decode --repair` gives no page with a row and without a copied one.
use Rattle.std.proofs.Common.{ℕ, ◌≡◌, ◌+◌, ◌<◌, ◌≤◌, Bool, List, [], ◌∷◌, length, drop, inl, inr, refl, ap, sym, ◌∙◌, subst, arith}
use Rattle.std.specs.Prelude.{◌⊎◌, Result, Ok}
use Rattle.std.proofs.lemmas.List.{drop-drop}
use Rattle.raster.specs.declared.row.Color.{Color}
use Rattle.raster.specs.Pixels.{IsWidth}
use Rattle.run_tables.specs.Fronts.{Walk}
use Rattle.run_tables.specs.RowLaws.{ReadsAsRow}
use Rattle.run_tables.specs.declared.fault.CodeFault.{CodeFault}
use Rattle.run_tables.specs.declared.fault.CodeFaultKind.{CodeFaultKind}
use Rattle.run_tables.proofs.RowReadings.{reads_rows_exactly}
use Rattle.page_code.specs.declared.one_dim.repair.RepairedRow.{RepairedRow}
use Rattle.page_code.specs.OneDimension.Repairs.{EndsPage, EndsRow, HasMoreLines, HasNoRow, IsFirstLine, IsLine, IsReadFor, IsRepair, Line}
use Rattle.page_code.specs.OneDimension.Repairs.{repaired_in, rows_given, white_row}
use Rattle.page_code.specs.OneDimension.Repairs.Line.{spelled, broken}
use Rattle.page_code.proofs.OneDimension.LineEnds.{code_no_end, one_end, one_row_end}
use Rattle.page_code.proofs.OneDimension.RepairLaws.{one_repair, read_begins}
use Rattle.page_code.proofs.OneDimension.Repairs.{length-given}
use Rattle.page_files.specs.Identified.{HasFirstRow}

-- a list of no elements
none_left : {A : Type 0} (xs : List A) → length xs ≡ 0 → xs ≡ []
none_left [] is = refl
none_left (x ∷ xs) is = absurd (omega (arith, is))

-- The first line

-- bits have one first line
one_first : (bits : List Bool) (a b : ℕ) → IsFirstLine bits a → IsFirstLine bits b → a ≡ b
one_first bits a b (inl one) (inl two) = one_end bits a b (inr (inl one)) (inr (inl two))
one_first bits a b (inl one) (inr two) = absurd (two.0 (one.0, one.1, one.2, one.3))
one_first bits a b (inr one) (inl two) = absurd (one.0 (two.0, two.1, two.2, two.3))
one_first bits a b (inr one) (inr two) = one.1 ∙ sym two.1

-- no row is read there
pub no_first_row : (width : ℕ) (bits : List Bool) (start : ℕ) → IsFirstLine bits start
    → ((row : List Color) (used : ℕ) → ¬ ReadsAsRow width (drop start bits) row used) → ¬ HasFirstRow width bits
no_first_row width bits start first none has = none has.2 has.1
    (subst (λ (n : ℕ). ReadsAsRow width (drop n bits) has.2 has.1) (one_first bits has.0 start has.3 first) has.4)

-- the first line of a page without a copied row is a row
pub no_page : (width : ℕ) (bits : List Bool) (page : List (List Color)) → ¬ HasFirstRow width bits → IsRepair width bits page []
    → page ≡ []
no_page width bits page none is =
    is.given_to.rows_are ∙ ap (rows_given (white_row width)) (by_lines is.given_to.lines is.given_to.walk is.given_to.repaired_are)
  where
    by_lines : (lines : List Line) → Walk (IsLine width bits) is.given_to.start lines is.place
        → ◌≡◌ {A = List RepairedRow} [] (repaired_in 1 lines) → lines ≡ []
    by_lines [] walk no_copy = refl
    by_lines (spelled row ∷ lines) walk no_copy = absurd (none (is.given_to.start, walk.1.0, row, is.given_to.first, walk.1.2))
    by_lines (broken bit ∷ lines) walk no_copy = absurd (omega (arith, ap length no_copy))

-- Another page, with a copied row or without a row that is read

pub copied : (width : ℕ) (bits : List Bool) (given page : List (List Color)) (repaired : List RepairedRow) → IsWidth width
    → IsRepair width bits given repaired → 0 < length repaired → IsRepair width bits page [] → page ≡ []
copied width bits given page repaired wide gives some is =
    absurd (omega (arith, some, ap length (one_repair width bits given page repaired [] wide gives is).1))

pub none_read : (width : ℕ) (bits : List Bool) (fault : CodeFault) (page : List (List Color)) → IsWidth width → HasNoRow width bits fault
    → IsRepair width bits page [] → page ≡ []
none_read width bits fault page wide none is =
    let same = one_repair width bits none.rows page none.repaired [] wide none.gives is in
    none_left page (omega (arith, none.all, ap length same.0, ap length same.1))

-- More lines than a page has

pair_left : {A B : Type 0} (a c : A) (b d : B) → ◌≡◌ {A = A × B} (a, b) (c, d) → a ≡ c
pair_left a c b d e = ap (λ (p : _ × _). p.0) e

pair_right : {A B : Type 0} (a c : A) (b d : B) → ◌≡◌ {A = A × B} (a, b) (c, d) → b ≡ d
pair_right a c b d e = ap (λ (p : _ × _). p.1) e

one_row : (width : ℕ) (x : List Bool) (row other : List Color) (used more : ℕ) → IsWidth width → ReadsAsRow width x row used
    → ReadsAsRow width x other more → (row ≡ other) × (used ≡ more)
one_row width x row other used more wide one two =
    let both : ◌≡◌ {A = Result (List Color × ℕ) (ℕ × CodeFaultKind)} (Ok (row, used)) (Ok (other, more)) =
    sym ((reads_rows_exactly width x row used wide).1 one) ∙ (reads_rows_exactly width x other more wide).1 two in
    let pair : ◌≡◌ {A = List Color × ℕ} (row, used) (other, more) = cc in
    (pair_left row other used more pair, pair_right row other used more pair)

-- a line with a row has one end
one_next : (width : ℕ) (bits : List Bool) (place next other : ℕ) (row row_too : List Color) → IsWidth width
    → IsLine width bits place (spelled row) next → IsLine width bits place (spelled row_too) other → next ≡ other
one_next width bits place next other row row_too wide one two =
    let same = one_row width (drop place bits) row row_too one.0 two.0 wide one.2 two.2 in
    let there : EndsRow row_too (drop (place + one.0) bits) two.1 =
    subst (λ (n : ℕ). EndsRow row_too (drop (place + n) bits) two.1) (sym same.1) two.3 in
    let ends : EndsRow row (drop (place + one.0) bits) two.1 =
    subst (λ (r : List Color). EndsRow r (drop (place + one.0) bits) two.1) (sym same.0) there in
    let more = one_row_end row (drop (place + one.0) bits) one.1 two.1 one.3 ends in
    omega (arith, same.1, more, one.4, two.4)

-- and can't be one without
read_unbroken : (width : ℕ) (bits : List Bool) (place next other bit : ℕ) (row : List Color) → IsWidth width
    → IsLine width bits place (spelled row) next → IsLine width bits place (broken bit) other → ⊥
read_unbroken width bits place next other bit row wide one two = seen two.3
  where
    seen : IsReadFor width (drop place bits) two.0 → ⊥
    seen (inl none) = none.2 row one.0 one.2
    seen (inr no_end) =
        let same = one_row width (drop place bits) row no_end.0 one.0 two.0 wide one.2 no_end.1 in
        let count : drop (place + one.0) bits ≡ drop two.0 (drop place bits) =
        ap (λ (n : ℕ). drop (place + n) bits) same.1 ∙ sym (drop-drop two.0 place bits) in
        no_end.2 one.1 (subst (λ (r : List Color). EndsRow r (drop two.0 (drop place bits)) one.1) same.0
        (subst (λ (l : List Bool). EndsRow row l one.1) count one.3))

line_begins : (width : ℕ) (bits : List Bool) (place next : ℕ) (line : Line) → IsWidth width → IsLine width bits place line next
    → ¬ EndsPage (drop place bits)
line_begins width bits place next (spelled row) wide there =
    code_no_end (drop place bits) (read_begins width (drop place bits) row there.0 wide there.2)
line_begins width bits place next (broken bit) wide there = there.2

-- rows that end the page are as many as any lines from the same place on
no_further : (width : ℕ) (bits : List Bool) (lines others : List Line) (place end end_too number : ℕ) → IsWidth width
    → ◌≡◌ {A = List RepairedRow} [] (repaired_in number lines) → Walk (IsLine width bits) place lines end
    → Walk (IsLine width bits) place others end_too → EndsPage (drop end bits) → ¬ EndsPage (drop end_too bits)
    → length lines ≤ length others → ⊥
no_further width bits [] [] place end end_too number wide no_copy one two ends begins few =
    begins (subst (λ (n : ℕ). EndsPage (drop n bits)) (sym one ∙ two) ends)
no_further width bits [] (line ∷ others) place end end_too number wide no_copy one two ends begins few =
    line_begins width bits place two.0 line wide two.1 (subst (λ (n : ℕ). EndsPage (drop n bits)) (sym one) ends)
no_further width bits (broken bit ∷ lines) others place end end_too number wide no_copy one two ends begins few =
    omega (arith, ap length no_copy)
no_further width bits (spelled row ∷ lines) [] place end end_too number wide no_copy one two ends begins few = omega (arith, few)
no_further width bits (spelled row ∷ lines) (broken bit ∷ others) place end end_too number wide no_copy one two ends begins few =
    read_unbroken width bits place one.0 two.0 bit row wide one.1 two.1
no_further width bits (spelled row ∷ lines) (spelled row_too ∷ others) place end end_too number wide no_copy one two ends begins few =
    let same = one_next width bits place one.0 two.0 row row_too wide one.1 two.1 in
    let later : Walk (IsLine width bits) one.0 others end_too =
    subst (λ (n : ℕ). Walk (IsLine width bits) n others end_too) (sym same) two.2 in
    no_further width bits lines others one.0 end end_too (number + 1) wide no_copy one.2 later ends begins (omega (arith, few))

pub no_more : (width : ℕ) (bits : List Bool) (fault : CodeFault) (page : List (List Color)) → IsWidth width → HasMoreLines width bits fault
    → IsRepair width bits page [] → page ≡ []
no_more width bits fault page wide more is =
    let first = one_first bits is.given_to.start more.given_to.start is.given_to.first more.given_to.first in
    let walk : Walk (IsLine width bits) is.given_to.start more.given_to.lines fault.place =
    subst (λ (n : ℕ). Walk (IsLine width bits) n more.given_to.lines fault.place) (sym first) more.given_to.walk in
    absurd (no_further width bits is.given_to.lines more.given_to.lines is.given_to.start is.place fault.place 1 wide
    is.given_to.repaired_are is.given_to.walk walk is.ends more.begins (omega (
      arith,
      is.few,
      more.full,
      ap length is.given_to.rows_are,
      ap length more.given_to.rows_are,
      length-given (white_row width) is.given_to.lines,
      length-given (white_row width) more.given_to.lines,
    )))

-- the refusal of `decode --repair`
pub refused : (width : ℕ) (bits : List Bool) (fault : CodeFault) (page : List (List Color)) → IsWidth width
    → HasNoRow width bits fault ⊎ HasMoreLines width bits fault → IsRepair width bits page [] → page ≡ []
refused width bits fault page wide (inl none) is = none_read width bits fault page wide none is
refused width bits fault page wide (inr more) is = no_more width bits fault page wide more is
