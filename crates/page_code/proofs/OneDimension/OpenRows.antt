-- The row after the whole rows of a one-dimensional page, as far as its bits have come.
use Rattle.std.proofs.Common.{ℕ, zero, suc, ◌≡◌, ◌≢◌, ◌+◌, ◌-◌, ◌*◌, ◌<◌, ◌≤◌, Bool, true, false, List, [], ◌∷◌, ◌++◌, length, drop}
use Rattle.std.proofs.Common.{replicate}
use Rattle.std.proofs.Common.{ltb, Some, None, inl, inr, refl, ap, sym, ◌∙◌, subst, arith, length-append, append_assoc}
use Rattle.std.specs.Prelude.{Option, unwrap_or, Ok, Err, slice_index_or, ◌↔◌}
use Rattle.std.specs.Option.{option_map}
use Rattle.std.proofs.lemmas.Bool.{le-ltb, lt-ltb, ltb-false, ltb-true, ne_eqb, true≢false}
use Rattle.std.proofs.lemmas.List.{append-nil, drop-append-le, drop-drop, length-drop, length-replicate}
use Rattle.raster.specs.declared.packed.Order.{Order}
use Rattle.raster.specs.declared.row.Color.{Color}
use Rattle.raster.specs.declared.row.Color.TheVariants.{White}
use Rattle.raster.specs.Packed.{bits_of}
use Rattle.raster.specs.Pixels.{IsWidth, other}
use Rattle.raster.specs.Words.{IsFirstInWord}
use Rattle.raster.specs.declared.coding.Coding.TheVariants.{OneDim}
use Rattle.raster.proofs.PackedLemmas.{length-bits_in}
use Rattle.run_tables.specs.declared.fault.CodeFault.{CodeFault}
use Rattle.run_tables.specs.declared.fault.CodeFaultKind.TheVariants.{RunTooLong}
use Rattle.run_tables.specs.CodeReading.{first_runs, BeginsRun, RefusesCodeWithin, ReadsRunWithin}
use Rattle.run_tables.specs.Codes.{code_word}
use Rattle.run_tables.specs.Fronts.{spell}
use Rattle.run_tables.specs.Fronts.Look.{go, refuse}
use Rattle.run_tables.specs.Numbers.{AreFirst}
use Rattle.run_tables.specs.Reading.{Reading, rest_of}
use Rattle.run_tables.specs.RowFronts.{allowed, amount, after_code, codes_after, row_begin, RowState}
use Rattle.run_tables.specs.RowFronts.{item_word as code_bits, Step as RowStep, look as row_look}
use Rattle.run_tables.specs.RowFronts.RunItem.{run_item}
use Rattle.run_tables.specs.RowFronts.RowState.{inside, whole}
use Rattle.run_tables.specs.Texts.{pick}
use Rattle.run_tables.proofs.BeginsLemmas.{pick_sound}
use Rattle.run_tables.proofs.CodeLooks.{pick_items}
use Rattle.run_tables.proofs.RowKinds.{among_after}
use Rattle.run_tables.proofs.RowReads.{code_long, code_refused, within_row}
use Rattle.page_code.specs.RowsSoFar.{AreRowsSoFar, IsReadTo, LeadsTo}
use Rattle.page_code.specs.declared.one_dim.Start.TheVariants.{Row}
use Rattle.page_code.specs.declared.one_dim.eol.Eol.TheVariants.{Present}
use Rattle.page_code.specs.declared.one_dim.open_row.OpenRow.{OpenRow}
use Rattle.page_code.specs.declared.one_dim.open_row.OpenRow.TheVariants.{Zeros, Runs}
use Rattle.page_code.specs.declared.one_dim.open_row.RunsBefore.{RunsBefore}
use Rattle.page_code.specs.OneDimension.Fronts.{PageItem, item_word, PageState, Step, zeros_before, look, CodeBegins}
use Rattle.page_code.specs.OneDimension.Fronts.PageItem.{eol, coded}
use Rattle.page_code.specs.OneDimension.Fronts.PageState.{row_start}
use Rattle.page_code.specs.OneDimension.OpenRows.{AreRunsBefore, AreZerosBefore, IsOpenRow}
use Rattle.page_code.specs.OneDimension.Reading.{FindsRow, Passes, SeesEol}
use Rattle.page_code.proofs.FrontEnds.{drop_on, leads_more, leads_on, leads_rest, leads_within}
use Rattle.page_code.proofs.OneDimension.Look.{code_stands, finds}
use Rattle.page_code.proofs.OneDimension.RowsOn.{counted, end_off, finds_bad, finds_end, finds_none, passes_eol, passes_on}
use Rattle.page_code.proofs.OneDimension.RowsOn.{refused_off, row_stops}
use Rattle.page_code.proofs.OneDimension.SeesEol.{more_zeros, zeros_seen}
use Rattle.page_code.proofs.OneDimension.ZerosBefore.{zeros_front, zeros_split}

-- 0 bits that are known

zeros_first : (n : ℕ) (y : List Bool) → zeros_before (replicate n false ++ y) ≡ more_zeros n (zeros_before y)
zeros_first zero y = same (zeros_before y)
  where
    same : (o : Option ℕ) → o ≡ more_zeros 0 o
    same None = refl
    same (Some n) = let is : n ≡ 0 + n = omega arith in ap (λ (m : ℕ). Some m) is
zeros_first (suc n) y = ap (option_map suc) (zeros_first n y) ∙ one (zeros_before y)
  where
    one : (o : Option ℕ) → option_map suc (more_zeros n o) ≡ more_zeros (suc n) o
    one None = refl
    one (Some m) = let is : suc (n + m) ≡ suc n + m = omega arith in ap (λ (k : ℕ). Some k) is

pub zeros_known : (bits : List Bool) (place known : ℕ) → AreZerosBefore bits place known
    → zeros_before (drop place bits) ≡ more_zeros known (zeros_before (drop (place + known) bits))
zeros_known bits place known zeros =
    let far : place + known ≡ place + length (replicate known false) = omega (arith, length-replicate known false) in
    let rest = drop_on bits (replicate known false) zeros.0 place (place + known) zeros.1 far in
    ap (λ (x : List Bool). zeros_before x) zeros.1 ∙ (zeros_first known zeros.0 ∙
    ap (λ (x : List Bool). more_zeros known (zeros_before x)) (sym rest))

known_within : (bits : List Bool) (place known : ℕ) → place ≤ length bits → AreZerosBefore bits place known
    → place + known ≤ length bits
known_within bits place known within zeros = omega (
  arith,
  length-drop place bits,
  ap length zeros.1,
  length-append (replicate known false) zeros.0,
  length-replicate known false,
)

pub known_in : (order : Order) (octets : List ℕ) (place known : ℕ) → place ≤ 8 * length octets
    → AreZerosBefore (bits_of order octets) place known → place + known ≤ 8 * length octets
known_in order octets place known within zeros =
    let size : length (bits_of order octets) ≡ 8 * length octets = length-bits_in order octets (8 * length octets) in
    omega (arith, size, known_within (bits_of order octets) place known (omega (arith, size, within)) zeros)

pub zeros_within : (order : Order) (octets : List ℕ) (place : ℕ) → place < 8 * length octets → place < length (bits_of order octets)
zeros_within order octets place within = omega (arith, within, length-bits_in order octets (8 * length octets))

-- 0 bits before a 1
pub zeros_there : (bits : List Bool) (place zeros : ℕ) → zeros_before (drop place bits) ≡ Some zeros → AreZerosBefore bits place zeros
zeros_there bits place zeros is =
    let there = zeros_split (drop place bits) zeros is in
    (true ∷ there.0, there.1 ∙ append_assoc (replicate zeros false) (true ∷ []) there.0)

pub only_zeros : (x : List Bool) → zeros_before x ≡ None → x ≡ replicate (length x) false ++ []
only_zeros [] is = refl
only_zeros (true ∷ x) is = cc
only_zeros (false ∷ x) is = ap (λ (l : List Bool). false ∷ l) (only_zeros x (after (zeros_before x) refl is))
  where
    after : (o : Option ℕ) → zeros_before x ≡ o → option_map suc o ≡ None → zeros_before x ≡ None
    after None is e = is
    after (Some m) is e = cc

-- the 0 bits that were passed: those before a 1, or all bits
pub zeros_passed : (order : Order) (octets : List ℕ) (place : ℕ) (zeros : Option ℕ) → zeros ≡ zeros_before (drop place (bits_of order
    octets))
    → AreZerosBefore (bits_of order octets) place (unwrap_or zeros (8 * length octets - place))
zeros_passed order octets place None is =
    let left : List Bool = drop place (bits_of order octets) in
    let all : 8 * length octets - place ≡ length left = omega (
      arith,
      length-drop place (bits_of order octets),
      length-bits_in order octets (8 * length octets),
    ) in
    ([], rw all (only_zeros left (sym is)))
zeros_passed order octets place (Some zeros) is = zeros_there (bits_of order octets) place zeros (sym is)

-- A row's first code

one_there : (x : List Bool) (n : ℕ) → zeros_before x ≡ Some n → slice_index_or x n false ≡ true
one_there [] n is = cc
one_there (true ∷ x) n is = let none : 0 ≡ n = cc in rw (← none) refl
one_there (false ∷ x) n is = seen (zeros_before x) refl is (λ m e. one_there x m e)
  where
    seen : (o : Option ℕ) → zeros_before x ≡ o → option_map suc o ≡ Some n
        → ((m : ℕ) → zeros_before x ≡ Some m → slice_index_or x m false ≡ true) → slice_index_or (false ∷ x) n false ≡ true
    seen None e is later = cc
    seen (Some m) e is later = let next : suc m ≡ n = cc in rw (← next) (later m e)

code_there : (x : List Bool) (word count : ℕ) → AreFirst 57 x word → IsFirstInWord word 0 false count → count < 11 → CodeBegins x
code_there x word count is first_one few = (count, zeros_seen 57 x word count is (omega arith) first_one (omega arith), few)

no_code_there : (x : List Bool) (word count : ℕ) → AreFirst 57 x word → IsFirstInWord word 0 false count → 11 ≤ count
    → CodeBegins x → ⊥
no_code_there x word count is first_one many begins =
    let zero_bit = sym (is begins.0 (omega (arith, begins.2))) ∙ first_one.before begins.0 (omega arith) (omega (arith, begins.2, many)) in
    true≢false (sym (one_there x begins.0 begins.1) ∙ zero_bit)

-- a row's code by the 0 bits that begin a number
pub begins_code : (x : List Bool) (word count : ℕ) → AreFirst 57 x word → IsFirstInWord word 0 false count
    → (ltb count 11 ≡ true) ↔ CodeBegins x
begins_code x word count is first_one = (
  λ e. code_there x word count is first_one (ltb-true count 11 e),
  λ begins. by_test (ltb count 11) refl begins,
)
  where
    by_test : (b : Bool) → ltb count 11 ≡ b → CodeBegins x → ltb count 11 ≡ true
    by_test true e begins = e
    by_test false e begins = absurd (no_code_there x word count is first_one (ltb-false count 11 e) begins)

-- after an EOL only a run code goes on
no_row_goes : (width : ℕ) (rows : List (List Color)) (x : List Bool) (i : PageItem) (t : PageState)
    → (length rows < 20000 → CodeBegins x → ⊥) → look width (row_start rows) x ≡ go i t → ⊥
no_row_goes width rows x i t none seen = by_item i ((finds width).sound (row_start rows) x i t seen)
  where
    by_item : (i : PageItem) → Step width (row_start rows) i t × ((rest : List Bool) × (x ≡ item_word i ++ rest)) → ⊥
    by_item (eol n) there = there.0
    by_item (coded code) there = none there.0.0 (subst CodeBegins (sym there.1.1) (code_stands White code there.1.0 there.0.1.stands))

module _ (width : ℕ) (bits : List Bool) (rows : List (List Color)) (place : ℕ) (wide : IsWidth width) (few : length rows ≤ 20000)
    (kept : IsReadTo OneDim width bits rows place) where
  -- only 0 bits come
  pub no_one : place ≤ length bits → zeros_before (drop place bits) ≡ None → AreRowsSoFar OneDim width bits (length rows)
  unfolding IsReadTo
  no_one within is = by_rows rows few kept
    where
      by_rows : (r : List (List Color)) → length r ≤ 20000 → IsReadTo OneDim width bits r place → AreRowsSoFar OneDim width bits (length r)
      by_rows [] few kept = (refused_off width bits [] place _ wide few kept (finds_none bits width [] place within refl is)).1
      by_rows (row ∷ r) few kept = (end_off width bits (row ∷ r) place place wide few kept (finds_end bits width (row ∷ r) place within
          (omega arith) is)).1

  -- no EOL comes after rows
  pub no_eol : place ≤ length bits → 0 < length rows → CodeBegins (drop place bits) → AreRowsSoFar OneDim width bits (length rows)
  unfolding IsReadTo
  no_eol within some begins = (refused_off width bits rows place _ wide few kept (finds_bad bits width rows place within some begins)).1

  module _ (zeros start : ℕ) (is : zeros_before (drop place bits) ≡ Some zeros) (long : 11 ≤ zeros) (there : place + zeros < length bits)
      (start_is : start ≡ place + zeros + 1) where
    sees : SeesEol (drop place bits) (Present (zeros + 1))
    sees = (zeros, is, long, refl, omega (arith, there, length-drop place bits))

    same : place + (zeros + 1) ≡ start
    same = omega (arith, start_is)

    -- no row begins after the EOL
    pub no_row : (length rows < 20000 → CodeBegins (drop start bits) → ⊥) → AreRowsSoFar OneDim width bits (length rows)
    unfolding IsReadTo
    no_row none =
        let passes = subst (λ (n : ℕ). Passes bits width rows place (row_start rows) n) same (passes_eol bits width rows place (zeros + 1)
        (omega arith) sees) in
        let leads = passes_on width bits rows place (row_start rows) start kept passes in
        counted width bits rows place start (row_start rows) wide few kept leads refl (λ i t e. no_row_goes width rows (drop start bits) i t
        none e)

    -- a row begins after the EOL
    pub row_there : length rows < 20000 → CodeBegins (drop start bits) → FindsRow bits width rows place (Row start)
    row_there room begins = (
      row_start rows,
      (room, refl),
      begins,
      subst (λ (n : ℕ). Passes bits width rows place (row_start rows) n) same (passes_eol bits width rows place (zeros + 1) (omega arith)
          sees),
    )

-- The runs of a row

-- a row that begins has no runs yet
pub none_before : (width : ℕ) (bits : List Bool) (rows : List (List Color)) (place start : ℕ) → FindsRow bits width rows place (Row start)
    → AreRunsBefore width bits rows place (record { at = start; color = White; left = width })
none_before width bits rows place start found = record {
  start = start;
  pixels = [];
  used = 0;
  begins = found;
  leads = record { items = []; rest = drop start bits; walk = refl; spelled = refl; place_is = refl };
  at_is = omega arith;
  left_is = omega arith;
}

module _ (width : ℕ) (bits : List Bool) (start : ℕ) where
  -- what codes of the row lead to
  abbrev After : RowState → ℕ → Type 0
  After there used = LeadsTo code_bits (RowStep width) row_begin there (drop start bits) used

  code_more : (pixels : List Color) (color : Color) (makeup : Option ℕ) (used at run : ℕ) (t : RowState)
      → After (inside pixels color makeup) used → at ≡ start + used
      → pick (code_word color) (first_runs (codes_after makeup)) (drop at bits) ≡ Some run
      → after_code whole inside width pixels color makeup run ≡ Ok t → After t (used + length (code_word color run))
  code_more pixels color makeup used at run t leads at_is found ok =
      let there = pick_sound code_bits (allowed color makeup) (run_item color run) (drop at bits) (pick_items color (codes_after makeup)
      (drop at bits) ∙ ap (option_map (run_item color)) found) in
      let left : List Bool = drop (length (code_word color run)) (drop at bits) in
      let here : drop used (drop start bits) ≡ drop at bits = drop-drop used start bits ∙ ap (λ (n : ℕ). drop n bits) (sym at_is) in
      leads_on code_bits (RowStep width) row_begin (inside pixels color makeup) (drop start bits) used leads t (run_item color run ∷ [])
      left (used + length (code_word color run)) (t, record { stands = there.0; leads = ok }, refl)
      (here ∙ (there.1 ∙ ap (λ (l : List Bool). l ++ left) (sym (append-nil (code_word color run)))))
      (omega (arith, ap length (append-nil (code_word color run))))

  low_ok : (pixels : List Color) (color : Color) (makeup : Option ℕ) (run : ℕ) → length pixels + (amount makeup + run) < width → run < 64
      → after_code whole inside width pixels color makeup run ≡ Ok (inside (pixels ++ replicate (amount makeup + run) color) (other color)
      None)
  unfolding after_code
  low_ok pixels color makeup run fits low =
      let size : length (pixels ++ replicate (amount makeup + run) color) < width = omega (
        arith,
        fits,
        length-append pixels (replicate (amount makeup + run) color),
        length-replicate (amount makeup + run) color,
      ) in
      rw (
        le-ltb width (length pixels + (amount makeup + run)) (omega (arith, fits)),
        lt-ltb run 64 low,
        ne_eqb (length (pixels ++ replicate (amount makeup + run) color)) width (λ e. omega (arith, size)),
      ) refl

  high_ok : (pixels : List Color) (color : Color) (run : ℕ) → length pixels + run ≤ width → 64 ≤ run
      → after_code whole inside width pixels color None run ≡ Ok (inside pixels color (Some run))
  unfolding after_code
  high_ok pixels color run fits high = rw (le-ltb width (length pixels + (0 + run)) (omega (arith, fits)), le-ltb run 64 high) refl

  -- a terminating code that doesn't end the row
  low_more : (pixels : List Color) (color : Color) (makeup : Option ℕ) (used at run : ℕ) → After (inside pixels color makeup) used
      → at ≡ start + used → pick (code_word color) (first_runs (codes_after makeup)) (drop at bits) ≡ Some run
      → length pixels + (amount makeup + run) < width → run < 64
      → After (inside (pixels ++ replicate (amount makeup + run) color) (other color) None) (used + length (code_word color run))
  low_more pixels color makeup used at run leads at_is found fits low =
      code_more pixels color makeup used at run (inside (pixels ++ replicate (amount makeup + run) color) (other color) None) leads at_is
      found (low_ok pixels color makeup run fits low)

  -- a make-up code
  high_more : (pixels : List Color) (color : Color) (used at run : ℕ) → After (inside pixels color None) used → at ≡ start + used
      → pick (code_word color) (first_runs 104) (drop at bits) ≡ Some run → length pixels + run ≤ width → 64 ≤ run
      → After (inside pixels color (Some run)) (used + length (code_word color run))
  high_more pixels color used at run leads at_is found fits high =
      code_more pixels color None used at run (inside pixels color (Some run)) leads at_is found (high_ok pixels color run fits high)

  -- a run that doesn't end the row
  pub run_more : (pixels : List Color) (color : Color) (used at left run : ℕ) (old new : Reading) → old ≡ record { bits = bits; place = at }
      → After (inside pixels color None) used → at ≡ start + used → length pixels + left ≡ width → run ≢ left
      → ReadsRunWithin color left RunTooLong old new (Ok run)
      → (more : ℕ) × (drawn : List Color) × After (inside drawn (other color) None) more × (new.place ≡ start + more)
      × (length drawn + (left - run) ≡ width)
  run_more pixels color used at left run old new is leads at_is left_is other_run reads = by_kind (subst (λ (r : Reading).
      ReadsRunWithin color left RunTooLong r new (Ok run)) is reads)
    where
      by_kind : ReadsRunWithin color left RunTooLong (record { bits = bits; place = at }) new (Ok run)
          → (more : ℕ) × (drawn : List Color) × After (inside drawn (other color) None) more × (new.place ≡ start + more)
          × (length drawn + (left - run) ≡ width)
      by_kind (inl ends) = (
        used + length (code_word color run),
        pixels ++ replicate (0 + run) color,
        low_more pixels color None used at run leads at_is ends.0.0 (omega (arith, left_is, other_run, ends.2)) ends.1,
        omega (arith, at_is, ap (λ (r : Reading). r.place) ends.0.1),
        omega (arith, left_is, ends.2, length-append pixels (replicate (0 + run) color), length-replicate (0 + run) color),
      )
      by_kind (inr both) =
          let high : ℕ = both.0 in
          let low : ℕ = both.1 in
          let next : ℕ = at + length (code_word color high) in
          let found : pick (code_word color) (first_runs 64) (drop next bits) ≡ Some low = subst (λ (r : Reading). pick (code_word color)
          (first_runs 64) (rest_of r) ≡ Some low) both.3.0.1 both.4.0.0 in
          let between : both.2.place ≡ next = ap (λ (r : Reading). r.place) both.3.0.1 in
          let there = high_more pixels color used at high leads at_is both.3.0.0 (omega (arith, left_is, both.3.2)) both.3.1 in (
            used + length (code_word color high) + length (code_word color low),
            pixels ++ replicate (high + low) color,
            low_more pixels color (Some high) (used + length (code_word color high)) next low there (omega (arith, at_is)) found (omega (
              arith,
              left_is,
              other_run,
              both.3.2,
              both.4.2,
              both.5,
            )) both.4.1,
            omega (arith, at_is, between, ap (λ (r : Reading). r.place) both.4.0.1),
            omega (
              arith,
              left_is,
              both.3.2,
              both.4.2,
              both.5,
              length-append pixels (replicate (high + low) color),
              length-replicate (high + low) color,
            ),
          )

  -- no code goes on
  code_stops : (pixels : List Color) (color : Color) (makeup : Option ℕ) (at room : ℕ) (fault : CodeFault) (reader : Reading)
      → reader ≡ record { bits = bits; place = at } → length pixels + (amount makeup + room) ≡ width
      → RefusesCodeWithin color (among_after makeup) room RunTooLong reader fault
      → (row_look width (inside pixels color makeup) (drop at bits) ≡ refuse fault.kind) × (fault.place ≡ at)
  code_stops pixels color makeup at room fault reader is left_is refuses = by_kind makeup left_is (rw is at refuses)
    where
      by_kind : (m : Option ℕ) → length pixels + (amount m + room) ≡ width
          → RefusesCodeWithin color (among_after m) room RunTooLong (record { bits = bits; place = at }) fault
          → (row_look width (inside pixels color m) (drop at bits) ≡ refuse fault.kind) × (fault.place ≡ at)
      by_kind None left (inl none) = (
        code_refused width pixels color None (drop at bits) none.1.0 ∙ ap (λ (f : CodeFault). refuse f.kind) (sym none.1.1),
        ap (λ (f : CodeFault). f.place) none.1.1,
      )
      by_kind None left (inr long) = (
        code_long width pixels color None (drop at bits) long.0 long.2.0 (omega (arith, left, long.3)) ∙
            ap (λ (f : CodeFault). refuse f.kind) (sym long.4),
        ap (λ (f : CodeFault). f.place) long.4,
      )
      by_kind (Some m) left (inl none) = (
        code_refused width pixels color (Some m) (drop at bits) none.1.0 ∙ ap (λ (f : CodeFault). refuse f.kind) (sym none.1.1),
        ap (λ (f : CodeFault). f.place) none.1.1,
      )
      by_kind (Some m) left (inr long) = (
        code_long width pixels color (Some m) (drop at bits) long.0 long.2.0 (omega (arith, left, long.3)) ∙
            ap (λ (f : CodeFault). refuse f.kind) (sym long.4),
        ap (λ (f : CodeFault). f.place) long.4,
      )

  -- the bits after codes
  rest_there : (there : RowState) (used at : ℕ) (way : After there used) → at ≡ start + used → drop at bits ≡ way.rest
  rest_there there used at way at_is = ap (λ (n : ℕ). drop n bits) at_is ∙ (sym (drop-drop used start bits) ∙
      leads_rest code_bits (RowStep width) row_begin there (drop start bits) used way)

  -- where a run is refused, codes lead to a state in which none goes on
  pub run_stops : (pixels : List Color) (color : Color) (used at left : ℕ) (old new : Reading) (fault : CodeFault)
      → old ≡ record { bits = bits; place = at } → After (inside pixels color None) used → at ≡ start + used → length pixels + left ≡ width
      → ReadsRunWithin color left RunTooLong old new (Err fault)
      → (there : RowState) × (more : ℕ) × (way : After there more) × (row_look width there way.rest ≡ refuse fault.kind)
      × (fault.place ≡ start + more)
  run_stops pixels color used at left old new fault is leads at_is left_is reads = by_kind reads
    where
      by_kind : ReadsRunWithin color left RunTooLong old new (Err fault)
          → (there : RowState) × (more : ℕ) × (way : After there more) × (row_look width there way.rest ≡ refuse fault.kind)
          × (fault.place ≡ start + more)
      by_kind (inl first_code) =
          let seen = code_stops pixels color None at left fault old is (omega (arith, left_is)) first_code in (
            inside pixels color None,
            used,
            leads,
            ap (row_look width (inside pixels color None)) (sym (rest_there (inside pixels color None) used at leads at_is)) ∙ seen.0,
            seen.1 ∙ at_is,
          )
      by_kind (inr second) =
          let high : ℕ = second.0 in
          let begins : BeginsRun color left (record { bits = bits; place = at }) second.1 high = subst (λ (r : Reading). BeginsRun color
          left r second.1 high) is second.2 in
          let next : ℕ = at + length (code_word color high) in
          let there = high_more pixels color used at high leads at_is begins.0.0 (omega (arith, left_is, begins.2)) begins.1 in
          let seen = code_stops pixels color (Some high) next (left - high) fault second.1 begins.0.1 (omega (arith, left_is, begins.2))
          second.3 in (
            inside pixels color (Some high),
            used + length (code_word color high),
            there,
            ap (row_look width (inside pixels color (Some high))) (sym (rest_there (inside pixels color (Some high))
                (used + length (code_word color high)) next there (omega (arith, at_is)))) ∙ seen.0,
            omega (arith, seen.1, at_is),
          )

module _ (width : ℕ) (bits : List Bool) (rows : List (List Color)) (place : ℕ) (passed : RunsBefore) (runs : AreRunsBefore width bits rows
    place passed) (old new : Reading) (is : old ≡ record { bits = bits; place = passed.at }) where
  -- one run more
  pub runs_more : (run : ℕ) → run ≢ passed.left → ReadsRunWithin passed.color passed.left RunTooLong old new (Ok run)
      → AreRunsBefore width bits rows place (record { at = new.place; color = other passed.color; left = passed.left - run })
      × (new ≡ record { bits = bits; place = new.place }) × (passed.at < new.place) × (new.place ≤ length bits)
  runs_more run other_run reads =
      let more = run_more width bits runs.start runs.pixels passed.color runs.used passed.at passed.left run old new is runs.leads
      runs.at_is runs.left_is other_run reads in
      let within = within_row passed.color passed.left old new (Ok run) reads in
      let same_bits : new.bits ≡ bits = within.1 ∙ ap (λ (r : Reading). r.bits) is in
      let with_bits : List Bool → Reading = λ b. record { bits = b; place = new.place } in (
        record {
          start = runs.start;
          pixels = more.1;
          used = more.0;
          begins = runs.begins;
          leads = more.2;
          at_is = more.3;
          left_is = more.4;
        },
        ap with_bits same_bits,
        omega (arith, within.2, ap (λ (r : Reading). r.place) is),
        omega (arith, within.3, ap length same_bits),
      )

  -- no run goes on
  pub runs_stop : (fault : CodeFault) → IsWidth width → length rows ≤ 20000 → IsReadTo OneDim width bits rows place
      → ReadsRunWithin passed.color passed.left RunTooLong old new (Err fault) → AreRowsSoFar OneDim width bits (length rows)
  unfolding IsReadTo
  runs_stop fault wide few kept reads =
      let stop = run_stops width bits runs.start runs.pixels passed.color runs.used passed.at passed.left old new fault is runs.leads
      runs.at_is runs.left_is reads in
      (row_stops width bits rows place runs.start stop.1 fault.kind stop.0 wide few kept runs.begins stop.2 stop.3).1

pub runs_within : (width : ℕ) (bits : List Bool) (rows : List (List Color)) (place : ℕ) (passed : RunsBefore)
    → AreRunsBefore width bits rows place passed → passed.at ≤ length bits
runs_within width bits rows place passed runs = omega (
  arith,
  runs.at_is,
  runs.begins.3.5,
  leads_within code_bits (RowStep width) row_begin (inside runs.pixels passed.color None) (drop runs.start bits) runs.used runs.leads,
  length-drop runs.start bits,
)

pub runs_in : (order : Order) (octets : List ℕ) (width : ℕ) (rows : List (List Color)) (place : ℕ) (passed : RunsBefore)
    → AreRunsBefore width (bits_of order octets) rows place passed → passed.at ≤ 8 * length octets
runs_in order octets width rows place passed runs = omega (
  arith,
  runs_within width (bits_of order octets) rows place passed runs,
  length-bits_in order octets (8 * length octets),
)

-- What was passed when bits follow

pub begins_on : (width : ℕ) (bits more : List Bool) (rows : List (List Color)) (place start : ℕ) → place ≤ length bits
    → FindsRow bits width rows place (Row start) → FindsRow (bits ++ more) width rows place (Row start)
begins_on width bits more rows place start within found = (
  found.0,
  found.1,
  (
    found.2.0,
    ap (λ (x : List Bool). zeros_before x) (drop-append-le start bits more found.3.5) ∙
        zeros_front (drop start bits) more found.2.0 found.2.1,
    found.2.2,
  ),
  (
    found.3.0,
    found.3.1 ++ more,
    found.3.2,
    drop-append-le place bits more within ∙ (ap (λ (l : List Bool). l ++ more) found.3.3 ∙
        append_assoc (spell item_word found.3.0) found.3.1 more),
    found.3.4,
    omega (arith, found.3.5, length-append bits more),
  ),
)

pub open_on : (width : ℕ) (bits more : List Bool) (rows : List (List Color)) (place : ℕ) (row : OpenRow) → place ≤ length bits
    → IsOpenRow width bits rows place row → IsOpenRow width (bits ++ more) rows place row
open_on width bits more rows place (Zeros count) within zeros = (
  zeros.0 ++ more,
  drop-append-le place bits more within ∙ (ap (λ (l : List Bool). l ++ more) zeros.1 ∙
      append_assoc (replicate count false) zeros.0 more),
)
open_on width bits more rows place (Runs passed) within runs = record {
  start = runs.start;
  pixels = runs.pixels;
  used = runs.used;
  begins = begins_on width bits more rows place runs.start within runs.begins;
  leads = subst (λ (x : List Bool). LeadsTo code_bits (RowStep width) row_begin (inside runs.pixels passed.color None) x runs.used)
      (sym (drop-append-le runs.start bits more runs.begins.3.5)) (leads_more code_bits (RowStep width) row_begin (inside runs.pixels
      passed.color None) (drop runs.start bits) more runs.used runs.leads);
  at_is = runs.at_is;
  left_is = runs.left_is;
}

-- nothing was passed
pub nothing_passed : (width : ℕ) (bits : List Bool) (rows : List (List Color)) (place : ℕ) → IsOpenRow width bits rows place (Zeros 0)
nothing_passed width bits rows place = (drop place bits, refl)
