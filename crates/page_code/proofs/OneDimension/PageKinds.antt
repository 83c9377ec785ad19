-- What is seen of a page is refused exactly as the bits there say.
use Rattle.std.proofs.Common.{ltb, ℕ, ◌≡◌, ◌+◌, ◌<◌, ◌≤◌, ◌⊎◌, inl, inr, Bool, List, [], ◌∷◌, length, Some, None, refl, ap}
use Rattle.std.proofs.Common.{sym, ◌∙◌, arith, cond}
use Rattle.std.specs.Prelude.{Option}
use Rattle.std.proofs.lemmas.Bool.{lt-ltb, le-ltb, cases_lt}
use Rattle.raster.specs.declared.row.Color.{Color}
use Rattle.raster.specs.declared.row.Color.TheVariants.{White}
use Rattle.raster.specs.Pages.{max_rows}
use Rattle.run_tables.specs.declared.fault.CodeFaultKind.{CodeFaultKind}
use Rattle.run_tables.specs.declared.fault.CodeFaultKind.TheVariants.{NoRows, BadCode, TooManyCodedRows}
use Rattle.run_tables.specs.declared.reader.Among.TheVariants.{AllCodes}
use Rattle.run_tables.specs.Fronts.Look.{go, stop, refuse}
use Rattle.run_tables.specs.Kinds.{RowKind}
use Rattle.run_tables.specs.RowFronts.{amount}
use Rattle.run_tables.specs.RowFronts.RowState.{inside, whole}
use Rattle.run_tables.proofs.RowKinds.{among_after, kind_seen, kind_sees}
use Rattle.page_code.specs.OneDimension.Fronts.{PageState, PageLook, put, zeros_before, by_eol, bits_of_five, ends_with, look_in_row, look}
use Rattle.page_code.specs.OneDimension.Fronts.{CodeBegins}
use Rattle.page_code.specs.OneDimension.Fronts.PageItem.{eol, coded}
use Rattle.page_code.specs.OneDimension.Fronts.PageState.{first, row_start, row_end}
use Rattle.page_code.specs.OneDimension.Fronts.PageState.{in_row as row_state}
use Rattle.page_code.specs.OneDimension.Kinds.{PagePlace, GoesOnInLine, PageKind}
use Rattle.page_code.specs.OneDimension.Kinds.PagePlace.{page_begin, line_begin, in_row, line_end}
use Rattle.page_code.specs.OneDimension.Pages.{EolBegins, AreZeros}
use Rattle.page_code.proofs.OneDimension.Look.{by_eol_other, by_eol_there}
use Rattle.page_code.proofs.OneDimension.ZerosBefore.{zeros_eol, zeros_split, none_zeros, zeros_none}

-- the place of a state
abbrev pub place_of : PageState → PagePlace
place_of first = page_begin
place_of (row_start rows) = line_begin (length rows)
place_of (row_state rows pixels color makeup) = in_row (length pixels + amount makeup) color (among_after makeup)
place_of (row_end rows) = line_end

-- ---- where an EOL may come

-- only 0 bits, an EOL, or a 1 after fewer than 11 of them
pub by_zeros : (x : List Bool) → AreZeros x ⊎ (((n : ℕ) × (zeros_before x ≡ Some n) × (11 ≤ n)) ⊎ CodeBegins x)
by_zeros x = seen (zeros_before x) refl
  where
    seen : (o : Option ℕ) → zeros_before x ≡ o → AreZeros x ⊎ (((n : ℕ) × (zeros_before x ≡ Some n) × (11 ≤ n)) ⊎ CodeBegins x)
    seen None is = inl (none_zeros x is)
    seen (Some n) is = elim (cases_lt n 11) [
      | inl few ↦ inr (inr (n, is, few))
      | inr long ↦ inr (inl (n, is, long))
    ]

-- an EOL is there
pub eol_begins : (x : List Bool) (n : ℕ) → zeros_before x ≡ Some n → 11 ≤ n → EolBegins x
eol_begins x n is long = let there = zeros_split x n is in (n, there.0, long, there.1)

pub begins_line : (x : List Bool) → CodeBegins x → GoesOnInLine x
begins_line x code = (
  λ begins.
      let there : zeros_before x ≡ Some begins.0 = ap zeros_before begins.3 ∙ zeros_eol begins.0 begins.1 in
      let same : Some code.0 ≡ Some begins.0 = sym code.1 ∙ there in
      let count : code.0 ≡ begins.0 = cc in
      omega (arith, code.2, begins.2),
  λ zeros.
      let same : None ≡ Some code.0 = sym (zeros_none x zeros) ∙ code.1 in
      cc,
)

pub line_begins : (x : List Bool) → GoesOnInLine x → CodeBegins x
line_begins x on = elim (by_zeros x) [
  | inl zeros ↦ absurd (on.1 zeros)
  | inr (inl there) ↦ absurd (on.0 (eol_begins x there.0 there.1 there.2))
  | inr (inr code) ↦ code
]

-- ---- the clauses of a kind

begin_kind : (width : ℕ) (x : List Bool) (kind : CodeFaultKind) → GoesOnInLine x → RowKind width 0 White AllCodes x kind
    → PageKind width page_begin x kind
begin_kind width x NoRows on is = absurd is
begin_kind width x kind on is = (on, is)

kind_begin : (width : ℕ) (x : List Bool) (kind : CodeFaultKind) → PageKind width page_begin x kind
    → ((kind ≡ NoRows) × AreZeros x) ⊎ (GoesOnInLine x × RowKind width 0 White AllCodes x kind)
kind_begin width x NoRows is = inl (refl, is)
kind_begin width x kind is = inr is

line_kind : (width rows : ℕ) (x : List Bool) (kind : CodeFaultKind) → rows < max_rows → GoesOnInLine x
    → RowKind width 0 White AllCodes x kind → PageKind width (line_begin rows) x kind
line_kind width rows x NoRows room on is = absurd is
line_kind width rows x TooManyCodedRows room on is = absurd is
line_kind width rows x kind room on is = (room, on, is)

kind_line : (width rows : ℕ) (x : List Bool) (kind : CodeFaultKind) → PageKind width (line_begin rows) x kind
    → ((kind ≡ NoRows) × (rows ≡ 0) × (AreZeros x ⊎ EolBegins x)) ⊎ (((kind ≡ TooManyCodedRows) × (max_rows ≤ rows) × GoesOnInLine x)
    ⊎ ((rows < max_rows) × GoesOnInLine x × RowKind width 0 White AllCodes x kind))
kind_line width rows x NoRows is = inl (refl, is.0, is.1)
kind_line width rows x TooManyCodedRows is = inr (inl (refl, is.0, is.1))
kind_line width rows x kind is = inr (inr is)

kind_end : (width : ℕ) (x : List Bool) (kind : CodeFaultKind) → PageKind width line_end x kind → (kind ≡ BadCode) × GoesOnInLine x
kind_end width x BadCode is = (refl, is)
kind_end width x kind is = absurd is

-- ---- from what is seen to the kind

pub same_kind : (a b : CodeFaultKind) → ◌≡◌ {A = PageLook} (refuse a) (refuse b) → a ≡ b
same_kind a b e = cc

row_kind_seen : (width : ℕ) (rows : List (List Color)) (pixels : List Color) (color : Color) (makeup : Option ℕ) (x : List Bool)
    (kind : CodeFaultKind) → look_in_row width rows pixels color makeup x ≡ refuse kind
    → RowKind width (length pixels + amount makeup) color (among_after makeup) x kind
row_kind_seen width rows pixels color makeup x kind e = kind_seen coded (λ row. put rows (whole row)) (λ more next high. put rows (inside
    more next high)) width pixels color makeup x kind e

row_kind_sees : (width : ℕ) (rows : List (List Color)) (pixels : List Color) (color : Color) (makeup : Option ℕ) (x : List Bool)
    (kind : CodeFaultKind) → RowKind width (length pixels + amount makeup) color (among_after makeup) x kind
    → look_in_row width rows pixels color makeup x ≡ refuse kind
row_kind_sees width rows pixels color makeup x kind is = kind_sees coded (λ row. put rows (whole row)) (λ more next high. put rows (inside
    more next high)) width pixels color makeup x kind is

first_other : (width : ℕ) (x : List Bool) → CodeBegins x → look width first x ≡ look_in_row width [] [] White None x
first_other width x code = by_eol_other x (refuse NoRows) (λ n. go (eol n) (row_start [])) (look_in_row width [] [] White None x) code

-- what is seen after an EOL where no EOL is and not only 0 bits
abbrev in_line : ℕ → List (List Color) → List Bool → PageLook
in_line width rows x = cond (ltb (length rows) 20000) (look_in_row width rows [] White None x) (refuse TooManyCodedRows)

line_other : (width : ℕ) (rows : List (List Color)) (x : List Bool) → CodeBegins x → look width (row_start rows) x ≡ in_line width rows x
line_other width rows x code = by_eol_other x (ends_with rows 0) (λ n. ends_with rows (bits_of_five x)) (in_line width rows x) code

line_eol : (width : ℕ) (rows : List (List Color)) (x : List Bool) (n : ℕ) → zeros_before x ≡ Some n → 11 ≤ n
    → look width (row_start rows) x ≡ ends_with rows (bits_of_five x)
line_eol width rows x n is long = by_eol_there x n (ends_with rows 0) (λ n. ends_with rows (bits_of_five x)) (in_line width rows x) is long

line_zeros : (width : ℕ) (rows : List (List Color)) (x : List Bool) → AreZeros x → look width (row_start rows) x ≡ ends_with rows 0
line_zeros width rows x zeros =
    ap (λ (o : Option ℕ). by_eol o (ends_with rows 0) (λ n. ends_with rows (bits_of_five x)) (in_line width rows x)) (zeros_none x zeros)

-- an end is refused where no row is
no_rows : (rows : List (List Color)) (more : ℕ) (kind : CodeFaultKind) → ends_with rows more ≡ refuse kind
    → (kind ≡ NoRows) × (length rows ≡ 0)
no_rows [] more kind e = (sym (same_kind NoRows kind e), refl)
no_rows (row ∷ rows) more kind e = cc

no_rows_end : (rows : List (List Color)) (more : ℕ) → length rows ≡ 0 → ends_with rows more ≡ refuse NoRows
no_rows_end [] more e = refl
no_rows_end (row ∷ rows) more e = absurd (omega (arith, e))

end_other : (width : ℕ) (rows : List (List Color)) (x : List Bool) → CodeBegins x → look width (row_end rows) x ≡ refuse BadCode
end_other width rows x code = by_eol_other x (stop rows 0) (λ n. go (eol n) (row_start rows)) (refuse BadCode) code

-- what is refused has the kind of its place
pub page_kind_seen : (width : ℕ) (s : PageState) (x : List Bool) (kind : CodeFaultKind) → look width s x ≡ refuse kind
    → PageKind width (place_of s) x kind
page_kind_seen width first x kind e = elim (by_zeros x) [
  | inl zeros ↦
      let none : look width first x ≡ refuse NoRows = ap (λ (o : Option ℕ). by_eol o (refuse NoRows) (λ n. go (eol n) (row_start []))
      (look_in_row width [] [] White None x)) (zeros_none x zeros) in
      rw (← same_kind NoRows kind (sym none ∙ e)) zeros
  | inr (inl there) ↦
      let goes : look width first x ≡ go (eol there.0) (row_start []) = by_eol_there x there.0 (refuse NoRows) (λ n. go (eol n) (row_start
      [])) (look_in_row width [] [] White None x) there.1 there.2 in
      let both : ◌≡◌ {A = PageLook} (go (eol there.0) (row_start [])) (refuse kind) = sym goes ∙ e in
      cc
  | inr (inr code) ↦ begin_kind width x kind (begins_line x code) (row_kind_seen width [] [] White None x kind (sym (first_other width x
      code) ∙ e))
]
page_kind_seen width (row_start rows) x kind e = elim (by_zeros x) [
  | inl zeros ↦
      let end = no_rows rows 0 kind (sym (line_zeros width rows x zeros) ∙ e) in
      rw end.0 (end.1, inl zeros)
  | inr (inl there) ↦
      let end = no_rows rows (bits_of_five x) kind (sym (line_eol width rows x there.0 there.1 there.2) ∙ e) in
      rw end.0 (end.1, inr (eol_begins x there.0 there.1 there.2))
  | inr (inr code) ↦ in_room code (cases_lt (length rows) 20000) (sym (line_other width rows x code) ∙ e)
]
  where
    in_room : CodeBegins x → (length rows < 20000) ⊎ (20000 ≤ length rows) → in_line width rows x ≡ refuse kind
        → PageKind width (line_begin (length rows)) x kind
    in_room code (inl room) e =
        let seen : look_in_row width rows [] White None x ≡ refuse kind = ap (λ b. cond b (look_in_row width rows [] White None x) (refuse
        TooManyCodedRows)) (sym (lt-ltb (length rows) 20000 room)) ∙ e in
        line_kind width (length rows) x kind room (begins_line x code) (row_kind_seen width rows [] White None x kind seen)
    in_room code (inr full) e =
        let seen : refuse TooManyCodedRows ≡ refuse kind = ap (λ b. cond b (look_in_row width rows [] White None x) (refuse
        TooManyCodedRows)) (sym (le-ltb (length rows) 20000 full)) ∙ e in
        rw (← same_kind TooManyCodedRows kind seen) (full, begins_line x code)
page_kind_seen width (row_state rows pixels color makeup) x kind e = row_kind_seen width rows pixels color makeup x kind e
page_kind_seen width (row_end rows) x kind e = elim (by_zeros x) [
  | inl zeros ↦
      let ends : look width (row_end rows) x ≡ stop rows 0 = ap (λ (o : Option ℕ). by_eol o (stop rows 0) (λ n. go (eol n) (row_start
      rows)) (refuse BadCode)) (zeros_none x zeros) in
      let both : ◌≡◌ {A = PageLook} (stop rows 0) (refuse kind) = sym ends ∙ e in
      cc
  | inr (inl there) ↦
      let goes : look width (row_end rows) x ≡ go (eol there.0) (row_start rows) = by_eol_there x there.0 (stop rows 0) (λ n. go (eol n)
      (row_start rows)) (refuse BadCode) there.1 there.2 in
      let both : ◌≡◌ {A = PageLook} (go (eol there.0) (row_start rows)) (refuse kind) = sym goes ∙ e in
      cc
  | inr (inr code) ↦ rw (← same_kind BadCode kind (sym (end_other width rows x code) ∙ e)) (begins_line x code)
]

-- where a place has a kind, that is seen
pub page_kind_sees : (width : ℕ) (s : PageState) (x : List Bool) (kind : CodeFaultKind) → PageKind width (place_of s) x kind
    → look width s x ≡ refuse kind
page_kind_sees width first x kind is = elim (kind_begin width x kind is) [
  | inl none ↦
      ap (λ (o : Option ℕ). by_eol o (refuse NoRows) (λ n. go (eol n) (row_start [])) (look_in_row width [] [] White None x)) (zeros_none x
      none.1) ∙ ap (λ (k : CodeFaultKind). refuse k) (sym none.0)
  | inr row ↦ first_other width x (line_begins x row.0) ∙ row_kind_sees width [] [] White None x kind row.1
]
page_kind_sees width (row_start rows) x kind is = elim (kind_line width (length rows) x kind is) [
  | inl none ↦ ended none.2 none.1 ∙ ap (λ (k : CodeFaultKind). refuse k) (sym none.0)
  | inr (inl full) ↦
      line_other width rows x (line_begins x full.2) ∙
      (ap (λ b. cond b (look_in_row width rows [] White None x) (refuse TooManyCodedRows)) (le-ltb (length rows) 20000 full.1) ∙
      ap (λ (k : CodeFaultKind). refuse k) (sym full.0))
  | inr (inr row) ↦
      line_other width rows x (line_begins x row.1) ∙
      (ap (λ b. cond b (look_in_row width rows [] White None x) (refuse TooManyCodedRows)) (lt-ltb (length rows) 20000 row.0) ∙
      row_kind_sees width rows [] White None x kind row.2)
]
  where
    ended : AreZeros x ⊎ EolBegins x → length rows ≡ 0 → look width (row_start rows) x ≡ refuse NoRows
    ended (inl zeros) none = line_zeros width rows x zeros ∙ no_rows_end rows 0 none
    ended (inr begins) none =
        line_eol width rows x begins.0 (ap zeros_before begins.3 ∙ zeros_eol begins.0 begins.1) begins.2 ∙
        no_rows_end rows (bits_of_five x) none
page_kind_sees width (row_state rows pixels color makeup) x kind is = row_kind_sees width rows pixels color makeup x kind is
page_kind_sees width (row_end rows) x kind is =
    let there = kind_end width x kind is in
    end_other width rows x (line_begins x there.1) ∙ ap (λ (k : CodeFaultKind). refuse k) (sym there.0)
