-- What a reader of rows passed of its next row: it comes in more bits too, and where no run goes on, the page is refused.
use Rattle.std.proofs.Common.{ℕ, zero, suc, ◌≡◌, ◌≢◌, ◌+◌, ◌*◌, ◌-◌, ◌<◌, ◌≤◌, Bool, true, false, List, [], ◌∷◌, ◌++◌, length, drop, take}
use Rattle.std.proofs.Common.{inl, inr, replicate}
use Rattle.std.proofs.Common.{Some, None, refl, ap, sym, ◌∙◌, subst, arith, length-append, append_assoc, drop-drop, take-append-drop}
use Rattle.std.specs.Prelude.{Option, IfSome, Ok, Err, is_none, is_some, not}
use Rattle.std.specs.Option.{option_map}
use Rattle.std.proofs.lemmas.Bool.{cases_lt}
use Rattle.std.proofs.lemmas.List.{drop-append-le, drop_all, drop_at, length-drop, length-replicate, length-take, take_all}
use Rattle.raster.specs.declared.coding.Coding.TheVariants.{OneDim}
use Rattle.raster.specs.declared.packed.Order.{Order}
use Rattle.raster.specs.declared.row.Color.{Color}
use Rattle.raster.specs.declared.row.Color.TheVariants.{White}
use Rattle.raster.specs.Packed.{bits_of}
use Rattle.raster.specs.Pixels.{IsWidth, other}
use Rattle.raster.proofs.OctetBits.{bits_of-join}
use Rattle.raster.proofs.PackedLemmas.{length-bits_in}
use Rattle.run_tables.specs.declared.fault.CodeFault.{CodeFault}
use Rattle.run_tables.specs.declared.fault.CodeFaultKind.TheVariants.{RunTooLong}
use Rattle.run_tables.specs.CodeReading.{ReadsRunWithin}
use Rattle.run_tables.specs.Reading.{Reading}
use Rattle.run_tables.specs.Fronts.Look.{refuse}
use Rattle.run_tables.specs.RowFronts.{row_begin, RowState}
use Rattle.run_tables.specs.RowFronts.{item_word as code_bits, Step as RowStep, look as row_look}
use Rattle.run_tables.specs.RowFronts.RowState.{inside}
use Rattle.run_tables.specs.Texts.{all_zero}
use Rattle.run_tables.proofs.RowReads.{within_row}
use Rattle.page_code.specs.declared.one_dim.Start.TheVariants.{Row}
use Rattle.page_code.specs.declared.one_dim.eol.Eol.TheVariants.{Present}
use Rattle.page_code.specs.declared.one_dim.open_row.RunsBefore.{RunsBefore}
use Rattle.page_code.specs.declared.page_rows.RowPlace.{RowPlace}
use Rattle.page_code.specs.declared.passed_row.EolsBefore.{EolsBefore}
use Rattle.page_code.specs.declared.passed_row.PassedRow.{PassedRow}
use Rattle.page_code.specs.Codings.{read_rows}
use Rattle.page_code.specs.OneDimension.Fronts.{item_word, CodeBegins, Step, zeros_before}
use Rattle.page_code.specs.OneDimension.Fronts.PageState.{first}
use Rattle.page_code.specs.OneDimension.OpenRows.{AreZerosBefore}
use Rattle.page_code.specs.OneDimension.Reading.{FindsRow, SeesEol}
use Rattle.page_code.specs.PassedRows.{AreEolsPassed, AreRunsPassed, IsPassedRow}
use Rattle.page_code.specs.RowReaders.{FindsStart, IsFoundRefused, IsStartWithin}
use Rattle.page_code.specs.RowsSoFar.{IsReadTo, LeadsTo, after_rows}
use Rattle.page_code.proofs.FrontEnds.{leads_more, leads_within}
use Rattle.page_code.proofs.OneDimension.OpenRows.{begins_on, only_zeros, run_more, run_stops, zeros_there}
use Rattle.page_code.proofs.OneDimension.RowsOn.{row_stops}
use Rattle.page_code.proofs.PassedEols.{eols_same, no_eols, passed_anywhere}
use Rattle.page_code.proofs.RowReaders.{left_on}

-- ---- 0 bits

-- so many 0 bits after a row's place
pub zeros_far : (held : List Bool) (at n count : ℕ) → AreZerosBefore (drop at held) n count → AreZerosBefore held (at + n) count
zeros_far held at n count zeros = (zeros.0, sym (drop-drop n at held) ∙ zeros.1)

pub zeros_near : (held : List Bool) (at n count : ℕ) → AreZerosBefore held (at + n) count → AreZerosBefore (drop at held) n count
zeros_near held at n count zeros = (zeros.0, drop-drop n at held ∙ zeros.1)

zeros_more : (bits more : List Bool) (place count : ℕ) → AreZerosBefore bits place count → AreZerosBefore (bits ++ more) place count
zeros_more bits more place zero zeros = (drop place (bits ++ more), refl)
zeros_more bits more place (suc n) zeros =
    let within : place ≤ length bits = omega (arith, length-drop place bits, ap length zeros.1) in (
      zeros.0 ++ more,
      drop-append-le place bits more within ∙ (ap (λ (l : List Bool). l ++ more) zeros.1 ∙
          append_assoc (replicate (suc n) false) zeros.0 more),
    )

-- the 0 bits of what is found where an EOL may come
pub eol_zeros : (bits : List Bool) (place count : ℕ) → SeesEol (drop place bits) (Present count)
    → AreZerosBefore bits place (count - 1)
eol_zeros bits place count sees =
    let is : count - 1 ≡ sees.0 = omega (arith, sees.3) in
    subst (λ (n : ℕ). AreZerosBefore bits place n) (sym is) (zeros_there bits place sees.0 sees.1)

pub all_zeros : (order : Order) (octets : List ℕ) (place : ℕ) → zeros_before (drop place (bits_of order octets)) ≡ None
    → AreZerosBefore (bits_of order octets) place (8 * length octets - place)
all_zeros order octets place none =
    let left : List Bool = drop place (bits_of order octets) in
    let all : 8 * length octets - place ≡ length left = omega (
      arith,
      length-drop place (bits_of order octets),
      length-bits_in order octets (8 * length octets),
    ) in
    ([], rw all (only_zeros left none))

-- ---- a row's first code, by the bits from its place on

dropped : (pad bits : List Bool) (n : ℕ) → drop (length pad + n) (pad ++ bits) ≡ drop n bits
dropped pad bits n = sym (drop-drop n (length pad) (pad ++ bits)) ∙ ap (drop n) (drop_at pad bits (length pad) refl)

-- a row that begins after more bits begins without them
near_row : (pad bits : List Bool) (width : ℕ) (rows : List (List Color)) (place start : ℕ)
    → FindsRow (pad ++ bits) width rows (length pad + place) (Row (length pad + start)) → FindsRow bits width rows place (Row start)
near_row pad bits width rows place start found = (
  found.0,
  found.1,
  subst CodeBegins (dropped pad bits start) found.2,
  (
    found.3.0,
    found.3.1,
    found.3.2,
    sym (dropped pad bits place) ∙ found.3.3,
    omega (arith, found.3.4),
    omega (arith, found.3.5, length-append pad bits),
  ),
)

near_start : (held : List Bool) (at count place : ℕ) → at ≤ place → FindsStart held at count (Row place)
    → FindsStart (drop at held) 0 count (Row (place - at))
near_start held at count place past finds width rows bits far is same within =
    let pad : List Bool = replicate at false in
    let size : length pad ≡ at = length-replicate at false in
    let here : length pad + (far + 0) ≡ far + at = omega (arith, size) in
    let there : length pad + (far + (place - at)) ≡ far + place = omega (arith, size, past) in
    let left : drop (far + at) (pad ++ bits) ≡ drop at held = ap (λ (n : ℕ). drop n (pad ++ bits)) (sym here) ∙
    (dropped pad bits (far + 0) ∙ same) in
    let found : FindsRow (pad ++ bits) width rows (far + at) (Row (far + place)) = finds width rows (pad ++ bits) far is left (omega (
      arith,
      within,
      size,
      length-append pad bits,
    )) in
    near_row pad bits width rows (far + 0) (far + (place - at)) (subst (λ (n : ℕ). FindsRow (pad ++ bits) width rows n (Row (length pad +
    (far + (place - at))))) (sym here) (subst (λ (n : ℕ). FindsRow (pad ++ bits) width rows (far + at) (Row n)) (sym there) found))

-- a row that begins in bits begins in more
start_more : (bits more : List Bool) (count start : ℕ) → FindsStart bits 0 count (Row start)
    → FindsStart (bits ++ more) 0 count (Row start)
start_more x more count start finds width rows bits far is same within =
    let none : far + 0 ≡ far = omega arith in
    let front : List Bool = take far bits in
    let size : length front ≡ far = omega (arith, length-take far bits, within) in
    let left : drop far bits ≡ x ++ more = ap (λ (n : ℕ). drop n bits) (sym none) ∙ same in
    let whole : (front ++ x) ++ more ≡ bits = append_assoc front x more ∙ (ap (λ (l : List Bool). front ++ l) (sym left) ∙
    take-append-drop far bits) in
    let there : drop (far + 0) (front ++ x) ≡ x = ap (λ (n : ℕ). drop n (front ++ x)) none ∙ drop_at front x far size in
    let fits : far + 0 ≤ length (front ++ x) = omega (arith, size, length-append front x) in
    subst (λ (b : List Bool). FindsRow b width rows (far + 0) (Row (far + start))) whole (begins_on width (front ++ x) more rows (far + 0)
    (far + start) fits (finds width rows (front ++ x) far is there fits))

-- ---- runs

-- a row that begins has no runs yet
pub no_runs : (order : Order) (octets : List ℕ) (to : RowPlace) (place : ℕ) → FindsStart (bits_of order octets) to.at to.rows (Row place)
    → IsStartWithin to.at (8 * length octets) to.rows (Row place)
    → AreRunsPassed to.width to.rows (drop to.at (bits_of order octets)) (record { at = place - to.at; color = White; left = to.width })
no_runs order octets to place finds within = record {
  start = place - to.at;
  pixels = [];
  used = 0;
  begins = near_start (bits_of order octets) to.at to.rows place within.0 finds;
  within = (
    omega arith,
    omega (
      arith,
      within.0,
      within.1,
      length-drop to.at (bits_of order octets),
      length-bits_in order octets (8 * length octets),
    ),
    within.2,
  );
  leads = record {
    items = [];
    rest = drop (place - to.at) (drop to.at (bits_of order octets));
    walk = refl;
    spelled = refl;
    place_is = refl;
  };
  at_is = omega arith;
  left_is = omega arith;
}

runs_on : (width count : ℕ) (bits more : List Bool) (passed : RunsBefore) → AreRunsPassed width count bits passed
    → AreRunsPassed width count (bits ++ more) passed
runs_on width count bits more passed runs = record {
  start = runs.start;
  pixels = runs.pixels;
  used = runs.used;
  begins = start_more bits more count runs.start runs.begins;
  within = (runs.within.0, omega (arith, runs.within.1, length-append bits more), runs.within.2);
  leads = subst (λ (x : List Bool). LeadsTo code_bits (RowStep width) row_begin (inside runs.pixels passed.color None) x runs.used)
      (sym (drop-append-le runs.start bits more runs.within.1)) (leads_more code_bits (RowStep width) row_begin (inside runs.pixels
      passed.color None) (drop runs.start bits) more runs.used runs.leads);
  at_is = runs.at_is;
  left_is = runs.left_is;
}

-- the runs that were passed are within the bits
pub runs_within : (order : Order) (octets : List ℕ) (to : RowPlace) (passed : RunsBefore) → to.at ≤ 8 * length octets
    → AreRunsPassed to.width to.rows (drop to.at (bits_of order octets)) passed → to.at + passed.at ≤ 8 * length octets
runs_within order octets to passed within runs = omega (
  arith,
  within,
  runs.at_is,
  runs.within.1,
  leads_within code_bits (RowStep to.width) row_begin (inside runs.pixels passed.color None) (drop runs.start (drop to.at (bits_of order
      octets))) runs.used runs.leads,
  length-drop runs.start (drop to.at (bits_of order octets)),
  length-drop to.at (bits_of order octets),
  length-bits_in order octets (8 * length octets),
)

module _ (held : List Bool) (to : RowPlace) (passed : RunsBefore) (runs : AreRunsPassed to.width to.rows (drop to.at held) passed) (old
    new : Reading) (is : old ≡ record { bits = held; place = to.at + passed.at }) where
  leads_far : LeadsTo code_bits (RowStep to.width) row_begin (inside runs.pixels passed.color None) (drop (to.at + runs.start) held)
      runs.used
  leads_far = subst (λ (x : List Bool). LeadsTo code_bits (RowStep to.width) row_begin (inside runs.pixels passed.color None) x runs.used)
      (drop-drop runs.start to.at held) runs.leads

  with_bits : (r : Reading) (b : List Bool) → r.bits ≡ b → (n : ℕ) → r.place ≡ n → r ≡ record { bits = b; place = n }
  with_bits r b bits_is n place_is = rw (← bits_is, ← place_is) refl

  -- one run more
  pub passes_more : (run : ℕ) → run ≢ passed.left → ReadsRunWithin passed.color passed.left RunTooLong old new (Ok run)
      → AreRunsPassed to.width to.rows (drop to.at held) (record {
        at = new.place - to.at;
        color = other passed.color;
        left = passed.left - run;
      }) × (new ≡ record { bits = held; place = to.at + (new.place - to.at) }) × (to.at + passed.at < new.place) × (new.place ≤ length held)
  passes_more run other_run reads =
      let more = run_more to.width held (to.at + runs.start) runs.pixels passed.color runs.used (to.at + passed.at) passed.left run old new
      is leads_far (omega (arith, runs.at_is)) runs.left_is other_run reads in
      let within = within_row passed.color passed.left old new (Ok run) reads in
      let same_bits : new.bits ≡ held = within.1 ∙ ap (λ (r : Reading). r.bits) is in
      let place_is : new.place ≡ to.at + (new.place - to.at) = omega (arith, more.3) in (
        record {
          start = runs.start;
          pixels = more.1;
          used = more.0;
          begins = runs.begins;
          within = runs.within;
          leads = subst (λ (x : List Bool). LeadsTo code_bits (RowStep to.width) row_begin (inside more.1 (other passed.color) None) x
              more.0) (sym (drop-drop runs.start to.at held)) more.2;
          at_is = omega (arith, more.3);
          left_is = more.4;
        },
        with_bits new held same_bits (to.at + (new.place - to.at)) place_is,
        omega (arith, within.2, ap (λ (r : Reading). r.place) is),
        omega (arith, within.3, ap length same_bits),
      )

  -- no run goes on
  module _ (fault : CodeFault) (reads : ReadsRunWithin passed.color passed.left RunTooLong old new (Err fault)) where
    stop : (there : RowState) × (more : ℕ) × (way : LeadsTo code_bits (RowStep to.width) row_begin there (drop (to.at + runs.start)
        held) more) × (row_look to.width there way.rest ≡ refuse fault.kind) × (fault.place ≡ to.at + runs.start + more)
    stop = run_stops to.width held (to.at + runs.start) runs.pixels passed.color runs.used (to.at + passed.at) passed.left old new fault is
        leads_far (omega (arith, runs.at_is)) runs.left_is reads

    stop_refused : IsWidth to.width → to.rows ≤ 20000 → (rows : List (List Color)) (bits : List Bool) (far : ℕ) → to.rows ≡ length rows
        → drop (far + to.at) bits ≡ drop to.at held → IsReadTo OneDim to.width bits rows (far + to.at)
        → read_rows OneDim to.width bits ≡ Err (far + fault.place, fault.kind)
    unfolding IsReadTo read_rows
    stop_refused wide few rows bits far counted left kept =
        let none : far + to.at + 0 ≡ far + to.at = omega arith in
        let within : far + to.at ≤ length bits = leads_within item_word (Step to.width) first (after_rows rows) bits (far + to.at) kept in
        let found : FindsRow bits to.width rows (far + to.at + 0) (Row (far + to.at + runs.start)) = runs.begins to.width rows bits
        (far + to.at) counted (ap (λ (n : ℕ). drop n bits) none ∙ left) (omega (arith, within)) in
        let place : far + to.at + runs.start + stop.1 ≡ far + fault.place = omega (arith, stop.4) in
        (row_stops to.width bits rows (far + to.at) (far + to.at + runs.start) stop.1 fault.kind stop.0 wide (omega (
          arith,
          counted,
          few,
        )) kept (subst (λ (n : ℕ). FindsRow bits to.width rows n (Row (far + to.at + runs.start))) none found) (record {
          items = stop.2.items;
          rest = stop.2.rest;
          walk = stop.2.walk;
          spelled = left_on bits held far to.at runs.start left ∙ stop.2.spelled;
          place_is = stop.2.place_is;
        }) stop.3).0 ∙ ap (λ (n : ℕ). Err (n, fault.kind)) place

    -- the page is refused there
    pub passes_none : IsWidth to.width → to.rows ≤ 20000 → to.at ≤ length held → IsFoundRefused held to fault
    passes_none wide few in_held = (
      omega (
        arith,
        stop.4,
        in_held,
        runs.within.1,
        leads_within code_bits (RowStep to.width) row_begin stop.0 (drop (to.at + runs.start) held) stop.1 stop.2,
        length-drop (to.at + runs.start) held,
        length-drop to.at held,
      ),
      λ before rows bits far on. stop_refused wide few rows bits far on.counted on.left on.read,
    )

-- ---- what was passed of a row

pub passed_none : (width count : ℕ) (bits : List Bool) (passed : PassedRow) → passed.zeros ≡ 0
    → AreEolsPassed (drop (passed.zeros + 1) bits) passed.eols → passed.runs ≡ None → IsPassedRow width count bits passed
passed_none width count bits passed zeros eols runs = record {
  zeros = rw zeros (bits, refl);
  eols = eols;
  runs = rw runs tt;
}

-- EOLs that were passed in the bits from a place on come in more bits too
eols_on : (bits more : List Bool) (place : ℕ) (passed : EolsBefore) → AreEolsPassed (drop place bits) passed
    → AreEolsPassed (drop place (bits ++ more)) passed
eols_on bits more place passed is = elim (cases_lt (length bits) place) [
  | inl far ↦ passed_anywhere (drop place (bits ++ more)) passed
      (subst (λ (x : List Bool). AreEolsPassed x passed) (drop_all place bits (omega (arith, far))) is)
  | inr near ↦
      let there : drop place bits ++ more ≡ drop place (bits ++ more) = sym (drop-append-le place bits more near) in
      subst (λ (x : List Bool). AreEolsPassed x passed) there (record {
        few = is.few;
        eols = eols_same passed.count (drop place bits) more 0 passed.at (omega arith) is.eols;
        zeros = zeros_more (drop place bits) more passed.at passed.zeros is.zeros;
      })
]

pub passed_on : (width count : ℕ) (bits more : List Bool) (passed : PassedRow) → IsPassedRow width count bits passed
    → IsPassedRow width count (bits ++ more) passed
passed_on width count bits more passed is = record {
  zeros = zeros_more bits more 0 passed.zeros is.zeros;
  eols = eols_on bits more (passed.zeros + 1) passed.eols is.eols;
  runs = some passed.runs is.runs;
}
  where
    some : (o : Option RunsBefore) → IfSome o (AreRunsPassed width count bits) → IfSome o (AreRunsPassed width count (bits ++ more))
    some None runs = tt
    some (Some passed) runs = runs_on width count bits more passed runs

-- these runs were passed
pub passed_runs : (width count : ℕ) (bits : List Bool) (runs : RunsBefore) (passed : PassedRow) → AreRunsPassed width count bits runs
    → IsPassedRow width count bits passed → IsPassedRow width count bits (record {
      zeros = passed.zeros;
      eols = passed.eols;
      runs = Some runs;
      tried = passed.tried;
    })
passed_runs width count bits runs passed come is = record { zeros = is.zeros; eols = is.eols; runs = come }

-- a row was found
pub passed_tried : (width count : ℕ) (bits : List Bool) (passed : PassedRow) → IsPassedRow width count bits passed
    → IsPassedRow width count bits (record {
      zeros = passed.zeros;
      eols = passed.eols;
      runs = passed.runs;
      tried = true;
    })
passed_tried width count bits passed is = record { zeros = is.zeros; eols = is.eols; runs = is.runs }

-- the 0 bits of an EOL were passed, and the EOLs after it
pub passed_eol : (held : List Bool) (to : RowPlace) (count : ℕ) (eols : EolsBefore) (passed : PassedRow)
    → SeesEol (drop to.at held) (Present count) → AreEolsPassed (drop (to.at + count) held) eols
    → IsPassedRow to.width to.rows (drop to.at held) passed
    → IsPassedRow to.width to.rows (drop to.at held) (record {
      zeros = count - 1;
      eols = eols;
      runs = passed.runs;
      tried = passed.tried;
    })
passed_eol held to count eols passed sees come is =
    let place : to.at + count ≡ to.at + (count - 1 + 1) = omega (arith, sees.3) in
    let there : drop (to.at + count) held ≡ drop (count - 1 + 1) (drop to.at held) =
    ap (λ (n : ℕ). drop n held) place ∙ sym (drop-drop (count - 1 + 1) to.at held) in record {
      zeros = eol_zeros held to.at count sees;
      eols = subst (λ (x : List Bool). AreEolsPassed x eols) there come;
      runs = is.runs;
    }

-- so many 0 bits were passed
pub passed_zeros : (held : List Bool) (to : RowPlace) (count : ℕ) (passed : PassedRow) → AreZerosBefore held to.at count
    → IsPassedRow to.width to.rows (drop to.at held) passed
    → IsPassedRow to.width to.rows (drop to.at held) (record {
      zeros = count;
      eols = record { at = 0; count = 0; zeros = 0 };
      runs = passed.runs;
      tried = passed.tried;
    })
passed_zeros held to count passed zeros is = record {
  zeros = zeros;
  eols = no_eols (drop (count + 1) (drop to.at held)) (record { at = 0; count = 0; zeros = 0 }) refl refl refl;
  runs = is.runs;
}

-- the bits from the row's place on, after octets were given up and others were taken
pub held_on : (order : Order) (held now more : List ℕ) (up place at : ℕ) → now ≡ drop up held ++ more → up ≤ length held
    → 8 * up + at ≡ place → place ≤ 8 * length held
    → drop at (bits_of order now) ≡ drop place (bits_of order held) ++ bits_of order more
held_on order held now more up place at joined within is fits =
    let gone : List Bool = bits_of order (take up held) in
    let left : List Bool = bits_of order (drop up held) in
    let size : length gone ≡ 8 * up = omega (
      arith,
      length-bits_in order (take up held) (8 * length (take up held)),
      length-take up held,
      within,
    ) in
    let room : at ≤ length left = omega (
      arith,
      length-bits_in order (drop up held) (8 * length (drop up held)),
      length-drop up held,
      within,
      is,
      fits,
    ) in
    let split : bits_of order held ≡ gone ++ left = ap (bits_of order) (sym (take-append-drop up held)) ∙ bits_of-join order (take up held)
    (drop up held) in
    let near : drop place (bits_of order held) ≡ drop at left = ap (λ (n : ℕ). drop n (bits_of order held)) (sym is) ∙
    (sym (drop-drop at (8 * up) (bits_of order held)) ∙ ap (drop at) (ap (drop (8 * up)) split ∙ drop_at gone left (8 * up) size)) in
    ap (λ (l : List ℕ). drop at (bits_of order l)) joined ∙ (ap (drop at) (bits_of-join order (drop up held) more) ∙
    (drop-append-le at left (bits_of order more) room ∙ ap (λ (l : List Bool). l ++ bits_of order more) (sym near)))

pub passed_taken : (order : Order) (to : RowPlace) (held now more : List ℕ) (up at : ℕ) (passed : PassedRow)
    → now ≡ drop up held ++ more → up ≤ length held → 8 * up + at ≡ to.at → to.at ≤ 8 * length held
    → IsPassedRow to.width to.rows (drop to.at (bits_of order held)) passed
    → IsPassedRow to.width to.rows (drop at (bits_of order now)) passed
passed_taken order to held now more up at passed joined within is fits come = subst (λ (x : List Bool). IsPassedRow to.width to.rows x
    passed) (sym (held_on order held now more up to.at at joined within is fits)) (passed_on to.width to.rows (drop to.at (bits_of order
    held)) (bits_of order more) passed come)

-- octets that are appended come after those that are left
pub joined_after : (items : List ℕ) (gone up : ℕ) (now more : List ℕ) → now ≡ drop (gone + up) items ++ more
    → now ≡ drop up (drop gone items) ++ more
joined_after items gone up now more is = is ∙ ap (λ (l : List ℕ). l ++ more) (sym (drop-drop up gone items))

pub joined_size : (held : List ℕ) (up : ℕ) (now more : List ℕ) → now ≡ drop up held ++ more
    → length now ≡ length held - up + length more
joined_size held up now more joined = omega (arith, ap length joined, length-append (drop up held) more, length-drop up held)

-- what is left of octets after the first ones
pub slice_left : (octets items : List ℕ) (gone : ℕ) → octets ≡ items
    → take (length octets - gone) (drop gone octets) ≡ drop gone items
slice_left octets items gone is =
    take_all (length octets - gone) (drop gone octets) (omega (arith, length-drop gone octets)) ∙ ap (drop gone) is

-- ---- only 0 bits

pub zero_all : (x : List Bool) (zeros : Option ℕ) → zeros ≡ zeros_before x → (b : Bool) → is_some zeros ≡ not b → b ≡ all_zero x
zero_all x zeros is b none = other b (is_some zeros) none ∙ (ap (λ (o : Option ℕ). is_none o) is ∙ seen x)
  where
    other : (b c : Bool) → c ≡ not b → b ≡ not c
    other true c e = ap not (sym e)
    other false c e = ap not (sym e)

    seen : (x : List Bool) → is_none (zeros_before x) ≡ all_zero x
    seen [] = refl
    seen (true ∷ x) = refl
    seen (false ∷ x) = more (zeros_before x) ∙ seen x
      where
        more : (o : Option ℕ) → is_none (option_map suc o) ≡ is_none o
        more None = refl
        more (Some n) = refl
