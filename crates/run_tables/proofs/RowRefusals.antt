-- A row is refused exactly where it goes no further after whole codes, and for that reason.
use Rattle.std.proofs.Common.{ℕ, ◌≡◌, ◌+◌, ◌<◌, ◌≤◌, ◌⊎◌, inl, inr, Bool, List, ◌++◌, length, refl, ap, sym, ◌∙◌}
use Rattle.std.proofs.Common.{arith}
use Rattle.std.specs.Prelude.{Option, Result, Ok, Err}
use Rattle.raster.specs.declared.row.Color.{Color}
use Rattle.raster.specs.Pixels.{IsWidth}
use Rattle.run_tables.specs.declared.fault.CodeFaultKind.{CodeFaultKind}
use Rattle.run_tables.specs.declared.reader.Among.{Among}
use Rattle.run_tables.specs.Fronts.{Walk, IsFront, spell}
use Rattle.run_tables.specs.Fronts.Look.{refuse}
use Rattle.run_tables.specs.KindLaws.{OneKind, RefusesCodesExactly, RefusesRowsExactly}
use Rattle.run_tables.specs.Kinds.{RowKind, IsRowPart, IsRefusedRow}
use Rattle.run_tables.specs.RowFronts.{RunItem, item_word, amount, RowState, row_begin, Step, look, reading, read_row}
use Rattle.run_tables.specs.RowFronts.RowState.{inside, whole}
use Rattle.run_tables.specs.RowLaws.{ReadsAsRow}
use Rattle.run_tables.proofs.CodeKinds.{one_code_kind, codes_refused, run_codes_refused, runs_refused_exactly}
use Rattle.run_tables.proofs.RowKinds.{among_after, kind_seen, kind_sees, one_row_kind}
use Rattle.run_tables.proofs.RowParts.{part_way, part_from}
use Rattle.run_tables.proofs.RowReadings.{reading_walk, reading_refuse, refuses_at_longest, reads_rows_exactly}

-- what is refused after codes
refused_after : (width : ℕ) (x : List Bool) (kind : CodeFaultKind) (codes : List RunItem) (rest : List Bool) (end : RowState) → 0 < width
    → Walk (Step width) row_begin codes end → x ≡ spell item_word codes ++ rest → look width end rest ≡ refuse kind
    → IsRefusedRow width x (length (spell item_word codes)) kind
refused_after width x kind codes rest (whole row) some walk split e = cc
refused_after width x kind codes rest (inside pixels color makeup) some walk split e = record {
  front = spell item_word codes;
  rest = rest;
  so_far = length pixels + amount makeup;
  color = color;
  among = among_after makeup;
  split = split;
  part = part_from width codes pixels color makeup some walk;
  place_is = refl;
  kind_is = kind_seen (λ code. code) whole inside width pixels color makeup rest kind e;
}

pub refused_row : (width : ℕ) (x : List Bool) (place : ℕ) (kind : CodeFaultKind) → IsWidth width → read_row width x ≡ Err (place, kind)
    → IsRefusedRow width x place kind
refused_row width x place kind wide e =
    let longest = refuses_at_longest width x place kind e in
    rw longest.place_is (refused_after width x kind longest.items longest.front.rest longest.front.end (omega (arith, wide.0))
    longest.front.walk longest.front.spelled longest.kind_is)

-- what is refused is seen at the state that codes lead to
kind_at : (width so_far : ℕ) (color : Color) (among : Among) (rest : List Bool) (kind : CodeFaultKind) (pixels : List Color) (makeup :
    Option ℕ) → so_far ≡ length pixels + amount makeup → among ≡ among_after makeup → RowKind width so_far color among rest kind
    → look width (inside pixels color makeup) rest ≡ refuse kind
kind_at width so_far color among rest kind pixels makeup sum_is among_is is =
    let at : RowKind width (length pixels + amount makeup) color (among_after makeup) rest kind = rw (sum_is, among_is) at is in
    kind_sees (λ code. code) whole inside width pixels color makeup rest kind at

pub row_refused : (width : ℕ) (x : List Bool) (place : ℕ) (kind : CodeFaultKind) → IsWidth width → IsRefusedRow width x place kind
    → read_row width x ≡ Err (place, kind)
row_refused width x place kind wide refused =
    let way = part_way width refused.front refused.so_far refused.color refused.among wide.1 refused.part in
    let codes : List RunItem = way.2.items in
    let front_is : spell item_word codes ≡ refused.front = way.2.spelled in
    let sees : look width (inside way.0 refused.color way.1) refused.rest ≡ refuse kind = kind_at width refused.so_far refused.color
    refused.among refused.rest kind way.0 way.1 way.3 way.4 refused.kind_is in
    let end : 0 + length (spell item_word codes) ≡ place = omega (arith, ap length front_is, refused.place_is) in
    ap (reading width row_begin 0) (refused.split ∙ ap (λ l. l ++ refused.rest) (sym front_is)) ∙
    (reading_walk width codes row_begin (inside way.0 refused.color way.1) 0 refused.rest way.2.walk ∙
    (reading_refuse width (inside way.0 refused.color way.1) (0 + length (spell item_word codes)) refused.rest kind sees ∙
    ap (λ (p : ℕ). Err (p, kind)) end))

row_or_refused : (width : ℕ) (x : List Bool) → IsWidth width → (r : Result (List Color × ℕ) (ℕ × CodeFaultKind)) → read_row width x ≡ r
    → ((row : List Color) × (used : ℕ) × ReadsAsRow width x row used) ⊎ ((place : ℕ) × (kind : CodeFaultKind)
    × IsRefusedRow width x place kind)
row_or_refused width x wide (Ok read) e = inl (read.0, read.1, (reads_rows_exactly width x read.0 read.1 wide).0 e)
row_or_refused width x wide (Err refused) e = inr (refused.0, refused.1, refused_row width x refused.0 refused.1 wide e)

pub not_both : (width : ℕ) (x : List Bool) (row : List Color) (used place : ℕ) (kind : CodeFaultKind) → IsWidth width
    → ReadsAsRow width x row used → ¬ IsRefusedRow width x place kind
not_both width x row used place kind wide reads refused =
    let read : read_row width x ≡ Ok (row, used) = (reads_rows_exactly width x row used wide).1 reads in
    let is : read_row width x ≡ Err (place, kind) = row_refused width x place kind wide refused in
    let same : ◌≡◌ {A = Result (List Color × ℕ) (ℕ × CodeFaultKind)} (Ok (row, used)) (Err (place, kind)) = sym read ∙ is in
    cc

one_refused : (width : ℕ) (x : List Bool) (p q : ℕ) (a b : CodeFaultKind) → IsWidth width → IsRefusedRow width x p a
    → IsRefusedRow width x q b → (p ≡ q) × (a ≡ b)
one_refused width x p q a b wide one two =
    let same : ◌≡◌ {A = Result (List Color × ℕ) (ℕ × CodeFaultKind)} (Err (p, a)) (Err (q, b)) = sym (row_refused width x p a wide one) ∙
    row_refused width x q b wide two in
    let pair : ◌≡◌ {A = ℕ × CodeFaultKind} (p, a) (q, b) = cc in
    (ap (λ (r : ℕ × CodeFaultKind). r.0) pair, ap (λ (r : ℕ × CodeFaultKind). r.1) pair)

no_longer : (width : ℕ) (x : List Bool) (place : ℕ) (kind : CodeFaultKind) (front rest : List Bool) (so_far : ℕ) (color : Color) (among :
    Among) → IsWidth width → IsRefusedRow width x place kind → IsRowPart width front so_far color among → x ≡ front ++ rest
    → length front ≤ place
no_longer width x place kind front rest so_far color among wide refused part split =
    let way = part_way width front so_far color among wide.1 part in
    let there : IsFront item_word (Step width) row_begin x way.2.items = record {
      end = inside way.0 color way.1;
      rest = rest;
      walk = way.2.walk;
      spelled = split ∙ ap (λ l. l ++ rest) (sym way.2.spelled);
    } in
    omega (
      arith,
      (refuses_at_longest width x place kind (row_refused width x place kind wide refused)).longest way.2.items there,
      ap length way.2.spelled,
    )

pub refuses_rows_exactly : RefusesRowsExactly
refuses_rows_exactly = record {
  named = λ width x place kind wide. (refused_row width x place kind wide, row_refused width x place kind wide);
  some = λ width x wide. row_or_refused width x wide (read_row width x) refl;
  none = λ width x row used place kind wide reads refused. not_both width x row used place kind wide reads refused;
  one = λ width x p q a b wide one two. one_refused width x p q a b wide one two;
  longest = λ width x place kind front rest so_far color among wide refused part split. no_longer width x place kind front rest so_far color
      among wide refused part split;
}

pub refuses_codes_exactly : RefusesCodesExactly
refuses_codes_exactly = record {
  codes = λ color among old new result fault reads. codes_refused color among old new result fault reads;
  run_codes = λ color old new result fault reads. run_codes_refused color old new result fault reads;
  runs = λ color old new result fault reads. runs_refused_exactly color old new result fault reads;
}

pub one_kind : OneKind
one_kind = record {
  codes = λ color among x a b one two. one_code_kind color among x a b one two;
  rows = λ width so_far color among x a b one two. one_row_kind width so_far color among x a b one two;
}
