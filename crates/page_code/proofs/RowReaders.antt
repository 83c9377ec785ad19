-- A reader of pages row by row: what is found in the bits at hand is found in all bits of the page.
use Rattle.std.proofs.Common.{ltb, ℕ, suc, ◌≡◌, ◌≢◌, ◌+◌, ◌*◌, ◌<◌, ◌≤◌, Bool, true, false, List, [], ◌∷◌, ◌++◌, length, drop, replicate}
use Rattle.std.proofs.Common.{◌-◌}
use Rattle.std.proofs.Common.{Some, None, inl, inr, refl, ap, sym, ◌∙◌, subst, arith, cond, append_assoc, drop-drop, length-append, take}
use Rattle.std.proofs.Common.{take-append-drop}
use Rattle.std.specs.Prelude.{Option, Result, Ok, Err, ◌⊎◌}
use Rattle.std.proofs.lemmas.List.{length-drop, length-replicate, drop_at, length-take, length_push}
use Rattle.raster.specs.declared.packed.Order.{Order}
use Rattle.raster.specs.declared.row.Color.{Color}
use Rattle.raster.specs.declared.row.Color.TheVariants.{White}
use Rattle.raster.specs.Packed.{bits_of}
use Rattle.raster.specs.Pixels.{IsWidth}
use Rattle.raster.proofs.OctetBits.{bits_of-join}
use Rattle.raster.proofs.PackedLemmas.{length-bits_in}
use Rattle.run_tables.specs.Reading.{Reading, rest_of}
use Rattle.run_tables.specs.declared.fault.CodeFault.{CodeFault}
use Rattle.run_tables.specs.declared.fault.CodeFaultKind.{CodeFaultKind}
use Rattle.run_tables.specs.declared.fault.CodeFaultKind.TheVariants.{BadCode, NoMemory, NoRows, TooManyCodedRows}
use Rattle.run_tables.specs.Fronts.{spell}
use Rattle.run_tables.specs.Fronts.Look.{stop, refuse}
use Rattle.run_tables.specs.RowFronts.{moved}
use Rattle.run_tables.specs.Texts.{begins}
use Rattle.run_tables.proofs.BeginsLemmas.{begins_split}
use Rattle.page_code.specs.TwoDimensions.Modes.{eofb}
use Rattle.page_code.proofs.FrontEnds.{leads_within}
use Rattle.page_code.specs.OneDimension.Fronts.{item_word, Step}
use Rattle.page_code.specs.OneDimension.Fronts.PageState.{first}
use Rattle.page_code.specs.RowsSoFar.{after_rows}
use Rattle.run_tables.specs.RowLaws.{ReadsAsRow}
use Rattle.run_tables.specs.RowLaws.{IsLongestFront as IsLongestRow}
use Rattle.run_tables.proofs.FrontLaws.{halts}
use Rattle.run_tables.proofs.FrontWalks.{read_moved, refuses}
use Rattle.raster.specs.declared.coding.Coding.{Coding}
use Rattle.raster.specs.declared.coding.Coding.TheVariants.{OneDim, T6}
use Rattle.page_code.specs.declared.one_dim.eol.Eol.TheVariants.{Present}
use Rattle.page_code.specs.declared.one_dim.Start.{Start}
use Rattle.page_code.specs.declared.one_dim.Start.TheVariants.{Row, End, Refused}
use Rattle.page_code.specs.declared.page_rows.NextRow.{NextRow}
use Rattle.page_code.specs.declared.page_rows.NextRow.TheVariants as next
use Rattle.page_code.specs.declared.page_rows.RowPlace.{RowPlace}
use Rattle.page_code.specs.declared.t6.read.Start.{Start as Start6}
use Rattle.page_code.specs.declared.t6.read.Start.TheVariants as t6_start
use Rattle.run_tables.specs.RowFronts.{item_word as code_bits}
use Rattle.page_code.specs.Codings.{read_rows}
use Rattle.page_code.specs.OneDimension.Fronts.{zeros_before, by_eol, ends_with, bits_of_five, CodeBegins, look, look_in_row}
use Rattle.page_code.specs.OneDimension.Fronts.PageState.{row_start}
use Rattle.page_code.specs.OneDimension.Pages.{eol_words}
use Rattle.page_code.specs.OneDimension.Reading.{FindsRow, SeesEol, SeesStart}
use Rattle.page_code.specs.RowReaders.{FindsNext, FindsStart, GoesOnIn, IsBefore, IsRefusal, IsStartWithin, ReadsNext}
use Rattle.page_code.specs.RowReaders.{ReadsRowThere, ReadsRows, RowReading, TakesOctets, moved_start}
use Rattle.page_code.specs.RowsSoFar.{IsReadTo}
use Rattle.page_code.specs.TwoDimensions.Positions.{line_begin, white_line}
use Rattle.page_code.specs.TwoDimensions.Fronts.{page_item_word, PageSoFar, PageState}
use Rattle.page_code.specs.TwoDimensions.Fronts.PageState.{inside}
use Rattle.page_code.specs.TwoDimensions.Reading.{ReadsRow, RowStep, row_look, row_reading}
use Rattle.page_code.specs.TwoDimensions.Reading.{SeesStart as SeesRow}
use Rattle.page_code.specs.TwoDimensions.Writing.{reference_at}
use Rattle.page_code.proofs.OneDimension.ReadsOnly.{never_stops}
use Rattle.page_code.proofs.OneDimension.RowsOn as one_dim
use Rattle.page_code.proofs.OneDimension.ZerosBefore.{eols_counted, eols_found}
use Rattle.page_code.proofs.PageReaders.{read_more, read_none}
use Rattle.page_code.proofs.TwoDimensions.RowsOn as t6
use Rattle.page_code.proofs.TwoDimensions.RowReading.{row_finds}
use Rattle.page_code.proofs.TwoDimensions.StepsOn.{last_added}

-- ---- places in the bits at hand and in all bits

-- what is left at a place further on is the same too
pub left_on : (bits held : List Bool) (far at n : ℕ) → drop (far + at) bits ≡ drop at held → drop (far + at + n) bits ≡ drop (at + n) held
left_on bits held far at n same = sym (drop-drop n (far + at) bits) ∙ (ap (drop n) same ∙ drop-drop n at held)

-- ---- one dimension: where a row begins

-- what is seen after an EOL is seen in all bits
sees_far : (held bits : List Bool) (far place count : ℕ) (start : Start) → drop (far + place) bits ≡ drop place held
    → SeesStart held place count start → SeesStart bits (far + place) count (moved_start far start)
sees_far held bits far place count (Row at) same sees = (
  ap (λ n. far + n) sees.0,
  subst CodeBegins (sym same) sees.1,
  sees.2,
)
sees_far held bits far place count (End used) same sees = (
  sees.0,
  omega (arith, sees.1),
  λ width rows is. ap (look width (row_start rows)) same ∙ sees.2 width rows is,
)
sees_far held bits far place count (Refused fault) same sees = (
  ap (λ n. far + n) sees.0,
  λ width rows is. ap (look width (row_start rows)) same ∙ sees.1 width rows is,
)

pub start_after_eol : (held : List Bool) (place eol_bits count : ℕ) (start : Start) → SeesEol (drop place held) (Present eol_bits)
    → SeesStart held (place + eol_bits) count start → FindsStart held place count start
start_after_eol held place eol_bits count start eol_there sees width rows bits far is same within =
    let there : SeesEol (drop (far + place) bits) (Present eol_bits) = subst (λ x. SeesEol x (Present eol_bits)) (sym same) eol_there in
    let far_on : far + place + eol_bits ≡ far + (place + eol_bits) = omega arith in
    let same_on : drop (far + (place + eol_bits)) bits ≡ drop (place + eol_bits) held = ap (λ n. drop n bits) (sym far_on) ∙
    left_on bits held far place eol_bits same in
    let seen : SeesStart bits (far + (place + eol_bits)) count (moved_start far start) = sees_far held bits far (place + eol_bits) count
    start same_on sees in
    one_dim.finds_after_eol bits width rows (far + place) eol_bits (moved_start far start) within there (subst (λ n. SeesStart bits n
    (length rows) (moved_start far start)) (sym far_on) (subst (λ n. SeesStart bits (far + (place + eol_bits)) n (moved_start far start))
    is seen))

pub start_first : (held : List Bool) (place count : ℕ) → count ≡ 0 → CodeBegins (drop place held) → FindsStart held place count (Row place)
start_first held place count none begins width rows bits far is same within =
    one_dim.finds_first bits width rows (far + place) within (sym is ∙ none) (subst CodeBegins (sym same) begins)

pub start_bad : (held : List Bool) (place count : ℕ) → 0 < count → CodeBegins (drop place held)
    → FindsStart held place count (Refused (record { place = place; kind = BadCode }))
start_bad held place count some begins width rows bits far is same within =
    one_dim.finds_bad bits width rows (far + place) within (omega (arith, is)) (subst CodeBegins (sym same) begins)

pub start_none : (held : List Bool) (place count : ℕ) → count ≡ 0 → zeros_before (drop place held) ≡ None
    → FindsStart held place count (Refused (record { place = place; kind = NoRows }))
start_none held place count none zeros width rows bits far is same within =
    one_dim.finds_none bits width rows (far + place) within (sym is ∙ none) (ap zeros_before same ∙ zeros)

pub start_end : (held : List Bool) (place count : ℕ) → 0 < count → zeros_before (drop place held) ≡ None
    → FindsStart held place count (End place)
start_end held place count some zeros width rows bits far is same within =
    one_dim.finds_end bits width rows (far + place) within (omega (arith, is)) (ap zeros_before same ∙ zeros)

-- five EOLs are no more than the bits that are left
five_within : (x : List Bool) → bits_of_five x ≤ length x
unfolding bits_of_five
five_within x =
    let found = eols_found 5 x in
    omega (
      arith,
      eols_counted 5 x found.0 found.1 found.2,
      ap length found.2.split,
      length-append (eol_words found.0) found.1,
    )

-- what is found after an EOL is within the bits
pub start_within : (held : List Bool) (place after count : ℕ) (start : Start) → place ≤ after → after ≤ length held
    → SeesStart held after count start → IsStartWithin place (length held) count start
start_within held place after count (Row at) past within sees = (omega (arith, sees.0), omega (arith, sees.0), sees.2)
start_within held place after count (Refused fault) past within sees = omega (arith, sees.0)
start_within held place after count (End used) past within sees =
    let x : List Bool = drop after held in
    let rows : List (List Color) = replicate count [] in
    let left : length x ≡ length held - after = length-drop after held in
    let more : sees.0 ≤ length x = most x rows sees.0 (sees.2 8 rows (length-replicate count [])) in
    omega (arith, sees.1, left, more)
  where
    ended : (x : List Bool) (rows : List (List Color)) (most more : ℕ) → most ≤ length x → ends_with rows most ≡ stop rows more
        → more ≤ length x
    ended x [] most more few e = absurd (cc)
    ended x (row ∷ rows) most more few e = let same : most ≡ more = cc in omega (arith, same)

    coded : (x : List Bool) (rows : List (List Color)) (more : ℕ) (b : Bool) → cond b (look_in_row 8 rows [] White None x) (refuse
        TooManyCodedRows) ≡ stop rows more → more ≤ length x
    coded x rows more true e = absurd (never_stops 8 rows [] White None x rows more e)
    coded x rows more false e = absurd (cc)

    most : (x : List Bool) (rows : List (List Color)) (more : ℕ) → look 8 (row_start rows) x ≡ stop rows more → more ≤ length x
    most x rows more e = seen (zeros_before x) e
      where
        next : (n : ℕ) (b : Bool) → cond b (cond (ltb (length rows) 20000) (look_in_row 8 rows [] White None x) (refuse
            TooManyCodedRows)) (ends_with rows (bits_of_five x)) ≡ stop rows more → more ≤ length x
        next n true e = coded x rows more (ltb (length rows) 20000) e
        next n false e = ended x rows (bits_of_five x) more (five_within x) e

        seen : (o : Option ℕ) → by_eol o (ends_with rows 0) (λ n. ends_with rows (bits_of_five x)) (cond (ltb (length rows) 20000)
            (look_in_row 8 rows [] White None x) (refuse TooManyCodedRows)) ≡ stop rows more → more ≤ length x
        seen None e = ended x rows 0 more (omega arith) e
        seen (Some n) e = next n (ltb n 11) e

-- ---- one dimension: a row

module _ (held : List Bool) (to : RowPlace) (before : List Color) (start : Start) (wide : IsWidth to.width) (few : to.rows ≤ 20000)
    (finds : FindsStart held to.at to.rows start) (rows : List (List Color)) (bits : List Bool) (far : ℕ)
    (on : GoesOnIn OneDim to before held rows bits far) where
  kept : one_dim.Kept to.width bits rows (far + to.at)
  unfolding IsReadTo
  kept = on.read

  few_rows : length rows ≤ 20000
  few_rows = omega (arith, few, on.counted)

  found : FindsRow bits to.width rows (far + to.at) (moved_start far start)
  found = finds to.width rows bits far on.counted on.left (leads_within item_word (Step to.width) first (after_rows rows) bits (far + to.at)
      kept)

module _ (held : List Bool) (to : RowPlace) (before : List Color) (wide : IsWidth to.width) (few : to.rows ≤ 20000) (rows : List (List
    Color)) (bits : List Bool) (far : ℕ) (on : GoesOnIn OneDim to before held rows bits far) where
  pub end_found : (used : ℕ) → FindsStart held to.at to.rows (End used) → read_rows OneDim to.width bits ≡ Ok (rows, far + used)
  end_found used finds =
      (one_dim.end_off to.width bits rows (far + to.at) (far + used) wide
      (few_rows held to before (End used) wide few finds rows bits far on) (kept held to before (End used) wide few finds rows bits far on)
      (found held to before (End used) wide few finds rows bits far on)).0

  pub start_refused : (fault : CodeFault) → FindsStart held to.at to.rows (Refused fault)
      → read_rows OneDim to.width bits ≡ Err (far + fault.place, fault.kind)
  start_refused fault finds =
      (one_dim.refused_off to.width bits rows (far + to.at) (record { place = far + fault.place; kind = fault.kind }) wide
      (few_rows held to before (Refused fault) wide few finds rows bits far on)
      (kept held to before (Refused fault) wide few finds rows bits far on)
      (found held to before (Refused fault) wide few finds rows bits far on)).0

  module _ (at : ℕ) (finds : FindsStart held to.at to.rows (Row at)) (past : to.at ≤ at) where
    there : FindsRow bits to.width rows (far + to.at) (Row (far + at))
    there = found held to before (Row at) wide few finds rows bits far on

    -- what is left at the row's first code
    same_there : drop (far + at) bits ≡ drop at held
    same_there =
        let one : far + to.at + (at - to.at) ≡ far + at = omega (arith, past) in
        let two : to.at + (at - to.at) ≡ at = omega (arith, past) in
        ap (λ n. drop n bits) (sym one) ∙ (left_on bits held far to.at (at - to.at) on.left ∙ ap (λ n. drop n held) two)

    pub row_there : (row : List Color) (used : ℕ) → ReadsAsRow to.width (drop at held) row used
        → IsReadTo OneDim to.width bits (rows ++ row ∷ []) (far + (at + used))
    unfolding IsReadTo
    row_there row used reads =
        let place : far + at + used ≡ far + (at + used) = omega arith in
        subst (λ n. one_dim.Kept to.width bits (rows ++ row ∷ []) n) place
        (one_dim.row_on to.width bits rows row (far + to.at) (far + at) used wide (kept held to before (Row at) wide few finds rows bits far
        on) there (subst (λ x. ReadsAsRow to.width x row used) (sym same_there) reads))

    pub row_refused : (front : ℕ) (fault : CodeFault) → fault.place ≡ at + front → IsLongestRow to.width (drop at held) front fault.kind
        → read_rows OneDim to.width bits ≡ Err (far + fault.place, fault.kind)
    row_refused front fault is longest =
        let place : far + at + front ≡ far + fault.place = omega (arith, is) in
        (one_dim.row_off to.width bits rows (far + to.at) (far + at) front fault.kind wide
        (few_rows held to before (Row at) wide few finds rows bits far on) (kept held to before (Row at) wide few finds rows bits far on)
        there (subst (λ x. IsLongestRow to.width x front fault.kind) (sym same_there) longest)).0 ∙
        ap (λ (n : ℕ). Err (n, fault.kind)) place

-- a refusal that was found, or memory is refused
pub row_off_there : {E : Type 0} (held : List Bool) (place : ℕ) (to : RowPlace) (fault : CodeFault) (result : Result NextRow E)
    → IsRefusal fault result → (fault.kind ≢ NoMemory → (front : ℕ) × (fault.place ≡ place + front)
    × IsLongestRow to.width (drop place held) front fault.kind) → ReadsRowThere held place to to result
row_off_there held place to fault (Ok (next.Row row)) is refuses = absurd is
row_off_there held place to fault (Ok (next.End used)) is refuses = absurd is
row_off_there held place to fault (Ok (next.Refused same)) is refuses = (
  refl,
  subst (λ (f : CodeFault). (front : ℕ) × (f.place ≡ place + front) × IsLongestRow to.width (drop place held) front f.kind) (sym is.0)
      (refuses is.1),
)
row_off_there held place to fault (Err error) is refuses = refl

-- a row's refusal is within the bits
pub longest_within : (held : List Bool) (width at front : ℕ) (kind : CodeFaultKind) → at ≤ length held
    → IsLongestRow width (drop at held) front kind → at + front ≤ length held
longest_within held width at front kind within longest = omega (
  arith,
  longest.place_is,
  ap length longest.front.spelled,
  length-append (spell code_bits longest.items) longest.front.rest,
  length-drop at held,
)

-- a row that was read is within the bits
pub row_within : (held : List Bool) (width at used : ℕ) (row : List Color) → at ≤ length held → ReadsAsRow width (drop at held) row used
    → at + used ≤ length held
row_within held width at used row within reads = omega (
  arith,
  reads.used_is,
  ap length reads.split,
  length-append reads.front reads.rest,
  length-drop at held,
)

-- the next row in one dimension, where its first code was found
pub next_there : {E : Type 0} (held : List Bool) (old new : RowPlace) (at : ℕ) (result : Result NextRow E) → IsWidth old.width
    → old.rows ≤ 20000 → FindsStart held old.at old.rows (Row at) → IsStartWithin old.at (length held) old.rows (Row at)
    → ReadsRowThere held at old new result → (before : List Color) → FindsNext OneDim held old new before before result
next_there held old new at (Ok (next.Row row)) wide few finds within reads before = (
  within.2,
  ap (λ (p : RowPlace). p.width) reads.2,
  ap (λ (p : RowPlace). p.rows) reads.2,
  omega (
    arith,
    ap (λ (p : RowPlace). p.at) reads.2,
    row_within held old.width at reads.0 row within.1 reads.1,
  ),
  λ rows bits far on.
      let place : far + (at + reads.0) ≡ far + new.at = ap (λ (p : RowPlace). far + p.at) (sym reads.2) in (
        subst (λ n. IsReadTo OneDim old.width bits (rows ++ row ∷ []) n) place (row_there held old before wide few rows bits far on at finds
            within.0 row reads.0 reads.1),
        tt,
      ),
)
next_there held old new at (Ok (next.End used)) wide few finds within reads before = absurd reads
next_there held old new at (Ok (next.Refused fault)) wide few finds within reads before = (
  reads.0,
  refl,
  omega (arith, reads.1.1, longest_within held old.width at reads.1.0 fault.kind within.1 reads.1.2),
  λ rows bits far on. row_refused held old before wide few rows bits far on at finds within.0 reads.1.0 fault reads.1.1 reads.1.2,
)
next_there held old new at (Err error) wide few finds within reads before = (reads, refl)

-- ---- T.6: a row

row_moved : (width : ℕ) (s : PageState) (far place : ℕ) (x : List Bool)
    → row_reading width s (far + place) x ≡ moved far (row_reading width s place x)
unfolding row_reading
row_moved width s far place x = read_moved page_item_word (row_look width) BadCode (suc (length x)) s far place x

module _ (held : List Bool) (to : RowPlace) (before : List Color) (wide : IsWidth to.width) (few : to.rows ≤ 20000) (rows : List (List
    Color)) (bits : List Bool) (far : ℕ) (on : GoesOnIn T6 to before held rows bits far) where
  few_t6 : length rows ≤ 20000
  few_t6 = omega (arith, few, on.counted)

  kept_t6 : t6.Kept to.width bits rows (far + to.at)
  unfolding IsReadTo
  kept_t6 = on.read

  sees_t6 : (start : Start6) → SeesRow (drop to.at held) to.rows start → SeesRow (drop (far + to.at) bits) (length rows) start
  sees_t6 start sees = subst (λ n. SeesRow (drop (far + to.at) bits) n start) on.counted (subst (λ x. SeesRow x to.rows start) (sym on.left)
      sees)

  pub end_t6 : SeesRow (drop to.at held) to.rows t6_start.End → read_rows T6 to.width bits ≡ Ok (rows, far + (to.at + 24))
  end_t6 sees = (t6.page_off to.width bits rows (far + to.at) (far + (to.at + 24)) wide few_t6 kept_t6 (sees_t6 t6_start.End sees) (omega
      arith)).0

  pub refused_t6 : (kind : CodeFaultKind) → SeesRow (drop to.at held) to.rows (t6_start.Refused kind)
      → read_rows T6 to.width bits ≡ Err (far + to.at, kind)
  refused_t6 kind sees = (t6.start_off to.width bits rows (far + to.at) kind wide few_t6 kept_t6 (sees_t6 (t6_start.Refused kind) sees)).0

  here : PageSoFar
  here = record { rows = rows; reference = reference_at (white_line to.width) rows (length rows) }

  -- reading a row in all bits is reading it in those at hand
  read_there : (outcome : Result (List (List Color) × ℕ) (ℕ × CodeFaultKind)) → ((page : PageSoFar) → page.reference ≡ before
      → row_reading (length before) (inside page line_begin) to.at (drop to.at held) ≡ outcome)
      → row_reading to.width (inside here line_begin) (far + to.at) (drop (far + to.at) bits) ≡ moved far outcome
  unfolding here
  read_there outcome reads =
      ap (row_reading to.width (inside here line_begin) (far + to.at)) on.left ∙
      (row_moved to.width (inside here line_begin) far to.at (drop to.at held) ∙
      ap (moved far) (subst (λ w. row_reading w (inside here line_begin) to.at (drop to.at held) ≡ outcome) on.before_is.0
      (reads here (sym on.before_is.1))))

  module _ (sees : SeesRow (drop to.at held) to.rows t6_start.Row) where
    pub row_t6 : (row : List Color) (at : ℕ) → length row ≡ length before → ((page : PageSoFar) → page.reference ≡ before
        → row_reading (length before) (inside page line_begin) to.at (drop to.at held) ≡ Ok (page.rows ++ row ∷ [], at))
        → IsReadTo T6 to.width bits (rows ++ row ∷ []) (far + at) × IsBefore T6 to.width (rows ++ row ∷ []) row
    unfolding IsReadTo here
    row_t6 row at even reads =
        let there : row_reading to.width (inside here line_begin) (far + to.at) (drop (far + to.at) bits) ≡ Ok (rows ++ row ∷ [], far + at)
        =
        ap (row_reading to.width (inside here line_begin) (far + to.at)) on.left ∙
        (row_moved to.width (inside here line_begin) far to.at (drop to.at held) ∙
        ap (moved far) (subst (λ w. row_reading w (inside here line_begin) to.at (drop to.at held) ≡ Ok (rows ++ row ∷ [], at))
        on.before_is.0 (reads here (sym on.before_is.1)))) in (
          t6.row_on to.width bits rows row (far + to.at) (far + at) (omega (arith, on.counted, sees.3)) kept_t6 there,
          (even ∙ on.before_is.0, sym (last_added (white_line to.width) row rows)),
        )

    pub row_refused_t6 : (place : ℕ) (kind : CodeFaultKind) → ((page : PageSoFar) → page.reference ≡ before
        → row_reading (length before) (inside page line_begin) to.at (drop to.at held) ≡ Err (place, kind))
        → read_rows T6 to.width bits ≡ Err (far + place, kind)
    unfolding here
    row_refused_t6 place kind reads =
        (t6.row_off to.width bits rows (far + to.at) (far + place) kind wide kept_t6 (sees_t6 t6_start.Row sees) (read_there (Err (
          place,
          kind,
        )) reads)).0

-- a refusal inside a row is within the bits
pub refused_within : (held : List Bool) (before : List Color) (at place : ℕ) (kind : CodeFaultKind) → at ≤ length held
    → ((page : PageSoFar) → page.reference ≡ before
    → row_reading (length before) (inside page line_begin) at (drop at held) ≡ Err (place, kind)) → place ≤ length held
unfolding row_reading
refused_within held before at place kind within reads =
    let page : PageSoFar = record { rows = []; reference = before } in
    let s : PageState = inside page line_begin in
    let x : List Bool = drop at held in
    let h = halts page_item_word (RowStep (length before)) (row_look (length before)) BadCode (row_finds (length before)) (suc (length x)) s
    at x (omega arith) in
    let answer = refuses (row_look (length before) h.end h.rest) (at + length (spell page_item_word h.items)) place kind (rw (reads page
    refl) at h.answers) in
    omega (
      arith,
      answer.1,
      ap length h.spelled,
      length-append (spell page_item_word h.items) h.rest,
      length-drop at held,
    )

-- a row of T.6 is refused, or memory is
pub row_off_t6 : {E : Type 0} (held : List Bool) (to : RowPlace) (before : List Color) (fault : CodeFault) (result : Result NextRow E)
    → IsWidth to.width → to.rows ≤ 20000 → to.at ≤ length held → SeesRow (drop to.at held) to.rows t6_start.Row → IsRefusal fault result
    → (fault.kind ≡ NoMemory) ⊎ ((page : PageSoFar) → page.reference ≡ before
    → row_reading (length before) (inside page line_begin) to.at (drop to.at held) ≡ Err (fault.place, fault.kind))
    → FindsNext T6 held to to before before result
row_off_t6 held to before fault (Ok (next.Row row)) wide few within sees is reads = absurd is
row_off_t6 held to before fault (Ok (next.End used)) wide few within sees is reads = absurd is
row_off_t6 held to before fault (Ok (next.Refused same)) wide few within sees is (inl memory) = absurd (is.1 memory)
row_off_t6 held to before fault (Ok (next.Refused same)) wide few within sees is (inr reads) = (
  refl,
  refl,
  subst (λ (f : CodeFault). f.place ≤ length held) (sym is.0) (refused_within held before to.at fault.place fault.kind within reads),
  λ rows bits far on. subst (λ (f : CodeFault). read_rows T6 to.width bits ≡ Err (far + f.place, f.kind)) (sym is.0) (row_refused_t6 held
      to before wide few rows bits far on sees fault.place fault.kind reads),
)
row_off_t6 held to before fault (Err error) wide few within sees is reads = (refl, refl)

-- EOFB has 24 bits
eofb_within : (x : List Bool) → begins eofb x ≡ true → 24 ≤ length x
eofb_within x e = omega (arith, ap length (begins_split eofb x e), length-append eofb (drop (length eofb) x))

-- what is found by a reader of the bits at hand
module _ (held : List Bool) (to : RowPlace) (before : List Color) (wide : IsWidth to.width) (few : to.rows ≤ 20000) where
  pub end_next : (E : Type 0) → to.at ≤ length held → (reader : Reading) → reader ≡ record { bits = held; place = to.at }
      → SeesRow (rest_of reader) to.rows t6_start.End → FindsNext {E = E} T6 held to to before before (Ok (next.End (to.at + 24)))
  end_next E within reader reader_is sees =
      let there : SeesRow (drop to.at held) to.rows t6_start.End = subst (λ (r : Reading). SeesRow (rest_of r) to.rows t6_start.End)
      reader_is sees in (
        refl,
        refl,
        omega (arith, eofb_within (drop to.at held) there.0, length-drop to.at held, within),
        λ rows bits far on. end_t6 held to before wide few rows bits far on there,
      )

  pub refused_next : (E : Type 0) → to.at ≤ length held → (reader : Reading) → reader ≡ record { bits = held; place = to.at }
      → (kind : CodeFaultKind) → SeesRow (rest_of reader) to.rows (t6_start.Refused kind)
      → FindsNext {E = E} T6 held to to before before (Ok (next.Refused (record { place = to.at; kind = kind })))
  refused_next E within reader reader_is kind sees =
      let there : SeesRow (drop to.at held) to.rows (t6_start.Refused kind) = subst (λ (r : Reading). SeesRow (rest_of r) to.rows
      (t6_start.Refused kind)) reader_is sees in
      (refl, refl, within, λ rows bits far on. refused_t6 held to before wide few rows bits far on kind there)

  module _ (reader : Reading) (reader_is : reader ≡ record { bits = held; place = to.at })
      (sees : SeesRow (rest_of reader) to.rows t6_start.Row) where
    sees_there : SeesRow (drop to.at held) to.rows t6_start.Row
    sees_there = subst (λ (r : Reading). SeesRow (rest_of r) to.rows t6_start.Row) reader_is sees

    pub row_next : (E : Type 0) → (after : Reading) (following row : List Color) → ReadsRow before reader after (Ok row)
        → following ≡ row → FindsNext {E = E} T6 held to (record { width = to.width; rows = to.rows + 1; at = after.place }) before
        following
        (Ok (next.Row row))
    row_next E after following row reads is =
        let there : ReadsRow before (record { bits = held; place = to.at }) after (Ok row) = subst (λ (r : Reading). ReadsRow before r after
        (Ok row)) reader_is reads in (
          sees_there.3,
          refl,
          refl,
          omega (arith, there.2, ap length there.1),
          λ rows bits far on.
              subst (λ (l : List Color). IsReadTo T6 to.width bits (rows ++ row ∷ []) (far + after.place) × IsBefore T6 to.width (rows ++
              row ∷ []) l) (sym is) (row_t6 held to before wide few rows bits far on sees_there row after.place there.0 there.3),
        )

    pub row_off_next : {E : Type 0} → to.at ≤ length held → (after : Reading) (fault : CodeFault) (result : Result NextRow E)
        → IsRefusal fault result → ReadsRow before reader after (Err fault) → FindsNext T6 held to to before before result
    row_off_next within after fault result is reads =
        let there : ReadsRow before (record { bits = held; place = to.at }) after (Err fault) = subst (λ (r : Reading). ReadsRow before r
        after (Err fault)) reader_is reads in
        row_off_t6 held to before fault result wide few within sees_there is there

-- ---- the reader's calls

-- what is held is what is left of all octets
pub goes_on_in : (reader : RowReading) (to : RowPlace) (rows : List (List Color)) (octets : List ℕ) → reader.count ≡ to.rows
    → reader.width ≡ to.width → reader.at ≡ to.at → reader.at ≤ 8 * length reader.held → ReadsRows reader rows octets
    → GoesOnIn reader.coding to reader.before (bits_of reader.order reader.held) rows (bits_of reader.order octets) reader.start
goes_on_in reader to rows octets count width at within reads = record {
  counted = sym count ∙ reads.counted;
  left =
      let split : bits_of reader.order octets ≡ bits_of reader.order reads.up ++ bits_of reader.order reader.held =
      ap (bits_of reader.order) reads.joined ∙ bits_of-join reader.order reads.up reader.held in
      let size : length (bits_of reader.order reads.up) ≡ reader.start = length-bits_in reader.order reads.up (8 * length reads.up) ∙ sym
      reads.start_is in
      sym (drop-drop to.at reader.start (bits_of reader.order octets)) ∙ ap (drop to.at) (ap (drop reader.start) split ∙
      drop_at (bits_of reader.order reads.up) (bits_of reader.order reader.held) reader.start size);
  read = subst (λ n. IsReadTo reader.coding to.width (bits_of reader.order octets) rows (reader.start + n)) at (subst (λ w. IsReadTo
      reader.coding w (bits_of reader.order octets) rows (reader.start + reader.at)) width reads.read);
  before_is = subst (λ w. IsBefore reader.coding w rows reader.before) width reads.before;
}

-- the reader after one row more
pub gives_row : (old new : RowReading) (rows : List (List Color)) (row : List Color) (octets : List ℕ) → ReadsRows old rows octets
    → new.coding ≡ old.coding → new.order ≡ old.order → new.width ≡ old.width → new.count ≡ old.count + 1 → new.start ≡ old.start
    → new.held ≡ old.held → IsReadTo old.coding old.width (bits_of old.order octets) (rows ++ row ∷ []) (old.start + new.at)
    → IsBefore old.coding old.width (rows ++ row ∷ []) new.before → ReadsRows new (rows ++ row ∷ []) octets
gives_row old new rows row octets reads coding order width count start held read before = record {
  counted = count ∙ (ap (λ n. n + 1) reads.counted ∙ sym (length_push rows row));
  up = reads.up;
  joined = reads.joined ∙ ap (λ l. reads.up ++ l) (sym held);
  start_is = start ∙ reads.start_is;
  read = rw (coding, width, order, start) read;
  before = rw (coding, width) before;
}

-- the reader after octets more
pub takes_more : (old new : RowReading) (up : ℕ) (more : List ℕ) → new.coding ≡ old.coding → new.order ≡ old.order
    → new.width ≡ old.width → new.count ≡ old.count → new.before ≡ old.before → new.start ≡ old.start + 8 * up
    → new.start + new.at ≡ old.start + old.at → up ≤ length old.held → new.held ≡ drop up old.held ++ more → (rows : List (List
    Color)) (octets : List ℕ) → ReadsRows old rows octets → ReadsRows new rows (octets ++ more)
takes_more old new up more coding order width count before start place within held rows octets reads = record {
  counted = count ∙ reads.counted;
  up = reads.up ++ take up old.held;
  joined = ap (λ l. l ++ more) reads.joined ∙ (append_assoc reads.up old.held more ∙
      (ap (λ l. reads.up ++ (l ++ more)) (sym (take-append-drop up old.held)) ∙
      (ap (λ l. reads.up ++ l) (append_assoc (take up old.held) (drop up old.held) more ∙ ap (λ l. take up old.held ++ l) (sym held)) ∙
      sym (append_assoc reads.up (take up old.held) new.held))));
  start_is = omega (
    arith,
    start,
    reads.start_is,
    length-append reads.up (take up old.held),
    length-take up old.held,
    within,
  );
  read = rw (coding, width, order, place) (subst (λ b. IsReadTo old.coding old.width b rows (old.start + old.at)) (sym (bits_of-join
      old.order octets more)) (read_more old.coding old.width (bits_of old.order octets) (bits_of old.order more) rows (old.start + old.at)
      reads.read));
  before = rw (coding, width, before) reads.before;
}

-- a new reader
pub none_read : (reader : RowReading) → reader.count ≡ 0 → reader.start ≡ 0 → reader.at ≡ 0 → reader.held ≡ []
    → reader.before ≡ white_line reader.width → ReadsRows reader [] []
none_read reader count start at held before = record {
  counted = count;
  up = [];
  joined = sym held;
  start_is = start;
  read = rw (start, at) (read_none reader.coding reader.width (bits_of reader.order []));
  before = white reader.coding;
}
  where
    white : (coding : Coding) → IsBefore coding reader.width [] reader.before
    white OneDim = tt
    white T6 = (ap length before ∙ length-replicate reader.width White, before)

-- the reader as clauses see it
abbrev pub reading_of : Coding → Order → RowPlace → List Color → ℕ → List ℕ → RowReading
reading_of coding order to before start held = record {
  coding = coding;
  order = order;
  width = to.width;
  count = to.rows;
  before = before;
  start = start;
  held = held;
  at = to.at;
}

module _ (coding : Coding) (order : Order) (to : RowPlace) (before : List Color) (start : ℕ) (held : List ℕ) where
  -- octets are taken
  pub takes : (octets : List ℕ) (count up at : ℕ) (now : List ℕ) → up ≤ length held → 8 * up + at ≡ to.at
      → now ≡ drop up held ++ take count octets → count ≤ length octets → (count < length octets → length now ≡ 65536)
      → length now ≤ 65536 → TakesOctets (reading_of coding order to before start held) octets count
      (reading_of coding order (record { width = to.width; rows = to.rows; at = at }) before (start + 8 * up) now)
  takes octets count up at now within place joined few most room =
      let old : RowReading = reading_of coding order to before start held in
      let new : RowReading = reading_of coding order (record { width = to.width; rows = to.rows; at = at }) before (start + 8 * up) now in
      record {
        same = record { coding = refl; order = refl; width = refl };
        within = few;
        most = most;
        few = room;
        stands = λ rows first reads. takes_more old new up (take count octets) refl refl refl refl refl refl (omega (arith, place)) within
            joined rows first reads;
      }

  -- what is found in the bits at hand is given
  module _ (within : to.at ≤ 8 * length held) (new : RowPlace) (next_before : List Color) where
    on_in : (rows : List (List Color)) (octets : List ℕ) → ReadsRows (reading_of coding order to before start held) rows octets
        → GoesOnIn coding to before (bits_of order held) rows (bits_of order octets) start
    on_in rows octets reads = goes_on_in (reading_of coding order to before start held) to rows octets refl refl refl within reads

    pub gives_row_next : (row : List Color)
        → FindsNext {E = Unit {0}} coding (bits_of order held) to new before next_before (Ok (next.Row row))
        → ReadsNext {E = Unit {0}} (reading_of coding order to before start held) (reading_of coding order new next_before start held)
        (Ok (next.Row row))
    gives_row_next row finds = (
      record { coding = refl; order = refl; width = finds.1 },
      λ rows octets reads.
          let on = finds.4 rows (bits_of order octets) start (on_in rows octets reads) in
          gives_row (reading_of coding order to before start held) (reading_of coding order new next_before start held) rows row octets
          reads refl refl finds.1 finds.2 refl refl on.0 on.1,
    )

    same_reader : next_before ≡ before
        → reading_of coding order to next_before start held ≡ reading_of coding order to before start held
    same_reader before_is = ap (λ (b : List Color). reading_of coding order to b start held) before_is

    pub gives_end : (used : ℕ) → FindsNext {E = Unit {0}} coding (bits_of order held) to new before next_before (Ok (next.End used))
        → ReadsNext {E = Unit {0}} (reading_of coding order to before start held) (reading_of coding order to next_before start held)
        (Ok (next.End (start + used)))
    gives_end used finds = (
      same_reader finds.1,
      λ rows octets reads. finds.3 rows (bits_of order octets) start (on_in rows octets reads),
    )

    pub gives_refusal : (fault : CodeFault)
        → FindsNext {E = Unit {0}} coding (bits_of order held) to new before next_before (Ok (next.Refused fault))
        → ReadsNext {E = Unit {0}} (reading_of coding order to before start held) (reading_of coding order to next_before start held)
        (Ok (next.Refused (record { place = start + fault.place; kind = fault.kind })))
    gives_refusal fault finds = (
      same_reader finds.1,
      λ rows octets reads. finds.3 rows (bits_of order octets) start (on_in rows octets reads),
    )

-- what was found is this
pub found_as : (E : Type 0) (coding : Coding) (order : Order) (to new : RowPlace) (before following : List Color) (held octets : List
    ℕ) (found one : NextRow) → octets ≡ held → found ≡ one
    → FindsNext {E = E} coding (bits_of order octets) to new before following (Ok found)
    → FindsNext {E = E} coding (bits_of order held) to new before following (Ok one)
found_as E coding order to new before following held octets found one same is finds =
    subst (λ (f : NextRow). FindsNext {E = E} coding (bits_of order held) to new before following (Ok f)) is
    (subst (λ (l : List ℕ). FindsNext {E = E} coding (bits_of order l) to new before following (Ok found)) same finds)

-- the bits that are held
pub held_bits : (order : Order) (held : List ℕ) → length (bits_of order held) ≡ 8 * length held
held_bits order held = length-bits_in order held (8 * length held)
