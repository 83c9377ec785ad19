-- Reading a one-dimensional page row by row: which items lead over a row, where they end, and the whole rows before that.
use Rattle.std.proofs.Common.{ℕ, ◌≡◌, ◌+◌, ◌*◌, ◌<◌, ◌≤◌, Bool, false, List, [], ◌∷◌, ◌++◌, length, drop, map, None, Some, inl, inr}
use Rattle.std.proofs.Common.{refl, ap, sym, ◌∙◌, subst, arith, cond, ltb, append_assoc}
use Rattle.std.specs.Prelude.{Ok, Err}
use Rattle.std.proofs.lemmas.Bool.{le-ltb}
use Rattle.std.proofs.lemmas.List.{length_push, append-nil, length-drop}
use Rattle.raster.specs.declared.packed.Order.{Order}
use Rattle.raster.specs.declared.row.Color.{Color}
use Rattle.raster.specs.declared.row.Color.TheVariants.{White}
use Rattle.raster.specs.Packed.{bits_of}
use Rattle.raster.specs.Pixels.{IsWidth}
use Rattle.raster.proofs.PackedLemmas.{length-bits_in}
use Rattle.run_tables.specs.declared.fault.CodeFault.{CodeFault}
use Rattle.run_tables.specs.declared.fault.CodeFaultKind.{CodeFaultKind}
use Rattle.run_tables.specs.declared.fault.CodeFaultKind.TheVariants.{NoRows, BadCode, TooManyCodedRows}
use Rattle.run_tables.specs.Fronts.{Walk, spell}
use Rattle.run_tables.specs.Fronts.Look.{go, stop, refuse}
use Rattle.run_tables.specs.RowFronts.{RunItem, RowState, row_begin}
use Rattle.run_tables.specs.RowFronts.{item_word as code_bits, Step as RowStep, look as row_look}
use Rattle.run_tables.specs.RowFronts.RowState.{inside, whole}
use Rattle.run_tables.specs.Reading.{Reading}
use Rattle.run_tables.specs.RowReading.{RefusesRow}
use Rattle.run_tables.specs.RowLaws.{ReadsAsRow}
use Rattle.run_tables.specs.RowLaws.{IsLongestFront as IsLongestRow}
use Rattle.run_tables.proofs.CodeLooks.{step_from_put}
use Rattle.run_tables.proofs.FrontWalks.{way_on}
use Rattle.page_code.specs.Codings.{read_rows}
use Rattle.page_code.specs.RowsSoFar.{AreRowsSoFar, BeginWith, IsFurther, IsReadTo, LeadsTo, ReadsOn, after_rows}
use Rattle.raster.specs.declared.coding.Coding.TheVariants.{OneDim}
use Rattle.page_code.specs.declared.one_dim.Start.{Start}
use Rattle.page_code.specs.declared.one_dim.Start.TheVariants.{Row, End, Refused}
use Rattle.page_code.specs.declared.one_dim.eol.Eol.TheVariants.{Present}
use Rattle.page_code.specs.declared.page.Progress.{Progress}
use Rattle.page_code.specs.OneDimension.Pages.{eol_word, IsLead, SpellsRows}
use Rattle.page_code.specs.OneDimension.Fronts.{PageItem, item_word, PageState, PageLook, put, CodeThere, Step, zeros_before, bits_of_five}
use Rattle.page_code.specs.OneDimension.Fronts.{ends_with, look_in_row, look, reading, read_page, MayBegin, CodeBegins}
use Rattle.page_code.specs.OneDimension.Fronts.PageItem.{eol, coded}
use Rattle.page_code.specs.OneDimension.Fronts.PageState.{first, row_start, in_row, row_end}
use Rattle.page_code.specs.OneDimension.Reading.{FindsRow, Passes, ReadsRowOfPage, SeesEol, SeesStart, rows_of}
use Rattle.page_code.proofs.FrontEnds.{drop_on, goes_on, leads_on, leads_rest, leads_within}
use Rattle.page_code.proofs.OneDimension.ZerosBefore.{zeros_split, length-eol}
use Rattle.page_code.proofs.OneDimension.Look.{finds, by_eol_other, by_eol_there}
use Rattle.page_code.proofs.OneDimension.RowInPage.{begin_walk, begin_refused, put_refused, put_row, reading_walk, reading_stop}
use Rattle.page_code.proofs.OneDimension.RowInPage.{reading_refuse, spell-coded}
use Rattle.page_code.proofs.OneDimension.ReadsAll.{PageWay, ends_some, later_way, lead_way}
use Rattle.page_code.proofs.OneDimension.ReadsOnly.{reads_only}

-- what is refused or ends doesn't go on
pub refused_goes : (l : PageLook) (kind : CodeFaultKind) (i : PageItem) (t : PageState) → l ≡ refuse kind → l ≡ go i t → ⊥
refused_goes l kind i t is e = let both : ◌≡◌ {A = PageLook} (refuse kind) (go i t) = sym is ∙ e in cc

pub stopped_goes : (l : PageLook) (rows : List (List Color)) (n : ℕ) (i : PageItem) (t : PageState) → l ≡ stop rows n → l ≡ go i t → ⊥
stopped_goes l rows n i t is e = let both : ◌≡◌ {A = PageLook} (stop rows n) (go i t) = sym is ∙ e in cc

-- Rows stay

code_grows : (width : ℕ) (rows : List (List Color)) (pixels : List Color) (color : Color) (makeup : _) (code : RunItem) (t : PageState)
    → CodeThere width rows pixels color makeup code t → length rows ≤ length (rows_of t)
code_grows width rows pixels color makeup code t step =
    let there = step_from_put (put rows) width pixels color makeup code t step in
    subst (λ (u : PageState). length rows ≤ length (rows_of u)) there.2 (seen there.0)
  where
    seen : (s : RowState) → length rows ≤ length (rows_of (put rows s))
    seen (inside p c m) = omega arith
    seen (whole row) = omega (arith, length_push rows row)

step_grows : (width : ℕ) (s : PageState) (i : PageItem) (t : PageState) → Step width s i t → length (rows_of s) ≤ length (rows_of t)
step_grows width first i t step = omega arith
step_grows width (row_start rows) (eol n) t step = absurd step
step_grows width (row_start rows) (coded code) t step = code_grows width rows [] White None code t step.1
step_grows width (in_row rows pixels c high) (eol n) t step = absurd step
step_grows width (in_row rows pixels c high) (coded code) t step = code_grows width rows pixels c high code t step
step_grows width (row_end rows) (eol n) t step = omega (arith, ap (λ (u : PageState). length (rows_of u)) step.1)
step_grows width (row_end rows) (coded code) t step = absurd step

walk_grows : (width : ℕ) (items : List PageItem) (s t : PageState) → Walk (Step width) s items t
    → length (rows_of s) ≤ length (rows_of t)
walk_grows width [] s t walk = omega (arith, ap (λ (u : PageState). length (rows_of u)) walk)
walk_grows width (i ∷ is) s t walk = omega (arith, step_grows width s i walk.0 walk.1, walk_grows width is walk.0 t walk.2)

-- Whole rows

abbrev pub Kept : ℕ → List Bool → List (List Color) → ℕ → Type 0
Kept width bits rows place = LeadsTo item_word (Step width) first (after_rows rows) bits place

pub after_some : (rows : List (List Color)) → 0 < length rows → after_rows rows ≡ row_end rows
after_some [] some = absurd (omega arith)
after_some (row ∷ rows) some = refl

after_push : (rows : List (List Color)) (row : List Color) → row_end (rows ++ row ∷ []) ≡ after_rows (rows ++ row ∷ [])
after_push [] row = refl
after_push (r ∷ rows) row = refl

-- rows that were read are spelled
pub spelled_rows : (width : ℕ) (bits : List Bool) (rows : List (List Color)) (place : ℕ) → IsWidth width → 0 < length rows
    → Kept width bits rows place → BeginWith OneDim width bits rows
unfolding BeginWith
spelled_rows width bits rows place wide some kept =
    let front : List Bool = spell item_word kept.items in
    let walk : Walk (Step width) first kept.items (row_end rows) = subst (λ (t : PageState). Walk (Step width) first kept.items t)
    (after_some rows some) kept.walk in
    let read : read_page width (front ++ []) ≡ Ok (rows, 0 + length front + 0) = reading_walk width kept.items first (row_end rows) 0 []
    walk ∙ reading_stop width (row_end rows) (0 + length front) [] rows 0 refl in
    let spelled = reads_only width (front ++ []) rows (0 + length front + 0) wide read in
    let split : front ≡ spelled.lead ++ (spelled.bits ++ spelled.rest) = sym (append-nil front) ∙ spelled.split in (
      spelled.lead,
      spelled.bits,
      spelled.rest ++ kept.rest,
      spelled.leads,
      spelled.rows,
      kept.spelled ∙ (ap (λ l. l ++ kept.rest) split ∙ (append_assoc spelled.lead (spelled.bits ++ spelled.rest) kept.rest ∙
          ap (λ l. spelled.lead ++ l) (append_assoc spelled.bits spelled.rest kept.rest))),
    )

-- rows that are spelled are read
rows_way : (width : ℕ) (rows : List (List Color)) (lead bits : List Bool) → 0 < width → width ≤ 2432 → length rows ≤ 20000
    → IsLead lead → SpellsRows width rows bits → PageWay width first (row_end rows) (lead ++ bits)
rows_way width rows lead bits some wide few leads spells =
    let all : List (List Color) = spells.row ∷ spells.later in
    let same : rows ≡ all = spells.rows_are in
    let begun = lead_way width spells.row lead spells.front some wide leads spells.wide spells.spells in
    let way : PageWay width first (row_end all) ((lead ++ spells.front) ++ spells.after) = way_on item_word (Step width) first (row_end
    (spells.row ∷ [])) (row_end all) (lead ++ spells.front) spells.after begun (later_way width spells.later (spells.row ∷ []) spells.after
    some wide (omega (arith, few, ap length same)) spells.each) in
    let words : (lead ++ spells.front) ++ spells.after ≡ lead ++ bits = append_assoc lead spells.front spells.after ∙
    ap (λ l. lead ++ l) (sym spells.split) in
    subst (λ l. PageWay width first (row_end rows) l) words (subst (λ (r : List (List Color)). PageWay width first (row_end r) ((lead ++
    spells.front) ++ spells.after)) (sym same) way)

-- where nothing goes on, the rows before it are those that the bits spell
pub counted : (width : ℕ) (bits : List Bool) (rows : List (List Color)) (place at : ℕ) (end : PageState) → IsWidth width
    → length rows ≤ 20000 → Kept width bits rows place → LeadsTo item_word (Step width) first end bits at → rows_of end ≡ rows
    → ((i : PageItem) (t : PageState) → look width end (drop at bits) ≡ go i t → ⊥) → AreRowsSoFar OneDim width bits (length rows)
unfolding BeginWith
counted width bits rows place at end wide few kept leads same stuck =
    let rest = leads_rest item_word (Step width) first end bits at leads in
    record {
      few = few;
      there = λ some. (rows, refl, spelled_rows width bits rows place wide some kept);
      no_more = λ others less begins.
          let way = rows_way width others begins.0 begins.1 wide.0 wide.1 less begins.3 begins.4 in
          let same_bits : spell item_word leads.items ++ leads.rest ≡ spell item_word way.items ++ begins.2 = sym leads.spelled ∙
          (begins.5 ∙ (sym (append_assoc begins.0 begins.1 begins.2) ∙ ap (λ l. l ++ begins.2) (sym way.spelled))) in
          let on = goes_on item_word (Step width) (look width) BadCode (finds width) leads.items way.items first end (row_end others)
          leads.rest begins.2 leads.walk (λ i t e. stuck i t (ap (look width end) rest ∙ e)) way.walk same_bits in
          omega (arith, walk_grows width on.0 (row_end others) end on.1, ap length same);
    }

-- Reading on

-- reading the page is reading on there
leads_read : (width : ℕ) (bits : List Bool) (at : ℕ) (end : PageState) → LeadsTo item_word (Step width) first end bits at
    → read_page width bits ≡ reading width end at (drop at bits)
leads_read width bits at end leads =
    let place : 0 + length (spell item_word leads.items) ≡ at = omega (arith, leads.place_is) in
    ap (reading width first 0) leads.spelled ∙ (reading_walk width leads.items first end 0 leads.rest leads.walk ∙
    (ap (λ n. reading width end n leads.rest) place ∙ ap (reading width end at) (sym (leads_rest item_word (Step width) first end bits at
    leads))))

pub passes_on : (width : ℕ) (bits : List Bool) (rows : List (List Color)) (place : ℕ) (state : PageState) (at : ℕ)
    → Kept width bits rows place → Passes bits width rows place state at → LeadsTo item_word (Step width) first state bits at
passes_on width bits rows place state at kept passes = leads_on item_word (Step width) first (after_rows rows) bits place kept state
    passes.0
    passes.1 at passes.2 passes.3 passes.4

-- the page ends
pub end_off : (width : ℕ) (bits : List Bool) (rows : List (List Color)) (place used : ℕ) → IsWidth width → length rows ≤ 20000
    → Kept width bits rows place → FindsRow bits width rows place (End used)
    → (read_rows OneDim width bits ≡ Ok (rows, used)) × AreRowsSoFar OneDim width bits (length rows)
unfolding read_rows
end_off width bits rows place used wide few kept found =
    let leads = passes_on width bits rows place found.0 found.1 kept found.3 in (
      leads_read width bits found.1 found.0 leads ∙ (reading_stop width found.0 found.1 (drop found.1 bits) rows found.2 found.5 ∙
          ap (λ (n : ℕ). Ok (rows, n)) (sym found.6)),
      counted width bits rows place found.1 found.0 wide few kept leads found.4 (λ i t e. stopped_goes _ rows found.2 i t found.5 e),
    )

-- nothing that may be there follows
pub refused_off : (width : ℕ) (bits : List Bool) (rows : List (List Color)) (place : ℕ) (fault : CodeFault) → IsWidth width
    → length rows ≤ 20000 → Kept width bits rows place → FindsRow bits width rows place (Refused fault)
    → (read_rows OneDim width bits ≡ Err (fault.place, fault.kind)) × AreRowsSoFar OneDim width bits (length rows)
unfolding read_rows
refused_off width bits rows place fault wide few kept found =
    let leads = passes_on width bits rows place found.0 fault.place kept found.1 in (
      leads_read width bits fault.place found.0 leads ∙ reading_refuse width found.0 fault.place (drop fault.place bits) fault.kind found.3,
      counted width bits rows place fault.place found.0 wide few kept leads found.2 (λ i t e. refused_goes _ fault.kind i t found.3 e),
    )

-- a row is read
pub row_on : (width : ℕ) (bits : List Bool) (rows : List (List Color)) (row : List Color) (place at used : ℕ) → IsWidth width
    → Kept width bits rows place → FindsRow bits width rows place (Row at) → ReadsAsRow width (drop at bits) row used
    → Kept width bits (rows ++ row ∷ []) (at + used)
row_on width bits rows row place at used wide kept found reads =
    let leads = passes_on width bits rows place found.0 at kept found.3 in
    let way = put_row width found.0 rows row reads.front wide.0 wide.1 found.1 reads.wide reads.spells in
    subst (λ (t : PageState). LeadsTo item_word (Step width) first t bits (at + used)) (after_push rows row)
    (leads_on item_word (Step width) first found.0 bits at leads (row_end (rows ++ row ∷ [])) way.items reads.rest (at + used) way.walk
    (reads.split ∙ ap (λ l. l ++ reads.rest) (sym way.spelled)) (omega (arith, reads.used_is, ap length way.spelled)))

-- where whole codes of a row lead, none goes on
pub row_stops : (width : ℕ) (bits : List Bool) (rows : List (List Color)) (place at within : ℕ) (kind : CodeFaultKind) (there : RowState)
    → IsWidth width → length rows ≤ 20000 → Kept width bits rows place → FindsRow bits width rows place (Row at)
    → (codes : LeadsTo code_bits (RowStep width) row_begin there (drop at bits) within) → row_look width there codes.rest ≡ refuse kind
    → (read_page width bits ≡ Err (at + within, kind)) × AreRowsSoFar OneDim width bits (length rows)
row_stops width bits rows place at within kind there wide few kept found way none = from way.items way.walk way.spelled way.place_is
  where
    leads : LeadsTo item_word (Step width) first found.0 bits at
    leads = passes_on width bits rows place found.0 at kept found.3

    begun_rows : (s : PageState) → MayBegin s rows → rows_of s ≡ rows
    begun_rows first may = may
    begun_rows (row_start before) may = may.1
    begun_rows (in_row before pixels color makeup) may = absurd may
    begun_rows (row_end before) may = absurd may

    put_rows : (s : RowState) (x : List Bool) → row_look width s x ≡ refuse kind → rows_of (put rows s) ≡ rows
    put_rows (inside pixels color makeup) x e = refl
    put_rows (whole row) x e = cc

    ended : (end : PageState) → LeadsTo item_word (Step width) first end bits (at + within) → rows_of end ≡ rows
        → look width end (drop (at + within) bits) ≡ refuse kind
        → (read_page width bits ≡ Err (at + within, kind)) × AreRowsSoFar OneDim width bits (length rows)
    ended end there same seen = (
      leads_read width bits (at + within) end there ∙ reading_refuse width end (at + within) (drop (at + within) bits) kind seen,
      counted width bits rows place (at + within) end wide few kept there same (λ i t e. refused_goes _ kind i t seen e),
    )

    from : (codes : List RunItem) → Walk (RowStep width) row_begin codes there
        → drop at bits ≡ spell code_bits codes ++ way.rest → within ≡ length (spell code_bits codes)
        → (read_page width bits ≡ Err (at + within, kind)) × AreRowsSoFar OneDim width bits (length rows)
    from [] walk spelled is =
        let seen : row_look width row_begin way.rest ≡ refuse kind = rw (← walk) at none in
        let same : at ≡ at + within = omega (arith, is) in
        let here : look width found.0 (drop at bits) ≡ refuse kind = begin_refused width found.0 rows (drop at bits) kind found.1 found.2
        (ap
        (row_look width row_begin) spelled ∙ seen) in
        ended found.0 (subst (λ n. LeadsTo item_word (Step width) first found.0 bits n) same leads) (begun_rows found.0 found.1) (subst
        (λ n.
        look width found.0 (drop n bits) ≡ refuse kind) same here)
    from (code ∷ codes) walk spelled is =
        let words : spell item_word (map coded (code ∷ codes)) ≡ spell code_bits (code ∷ codes) = spell-coded (code ∷ codes) in
        let split : drop at bits ≡ spell item_word (map coded (code ∷ codes)) ++ way.rest = spelled ∙
        ap (λ l. l ++ way.rest) (sym words) in
        let far : at + within ≡ at + length (spell item_word (map coded (code ∷ codes))) = omega (arith, is, ap length words) in
        let end : PageState = put rows there in
        let rest = drop_on bits (spell item_word (map coded (code ∷ codes))) way.rest at (at + within) split far in
        ended end (leads_on item_word (Step width) first found.0 bits at leads end (map coded (code ∷ codes)) way.rest (at +
        within) (begin_walk width found.0 rows code codes there found.1 walk) split far) (put_rows there way.rest none) (ap (look width
        end) rest ∙ put_refused width rows there way.rest kind none)

-- a row is refused
pub row_off : (width : ℕ) (bits : List Bool) (rows : List (List Color)) (place at within : ℕ) (kind : CodeFaultKind) → IsWidth width
    → length rows ≤ 20000 → Kept width bits rows place → FindsRow bits width rows place (Row at)
    → IsLongestRow width (drop at bits) within kind
    → (read_rows OneDim width bits ≡ Err (at + within, kind)) × AreRowsSoFar OneDim width bits (length rows)
unfolding read_rows
row_off width bits rows place at within kind wide few kept found longest = row_stops width bits rows place at within kind longest.front.end
    wide few kept found (record {
      items = longest.items;
      rest = longest.front.rest;
      walk = longest.front.walk;
      spelled = longest.front.spelled;
      place_is = longest.place_is;
    }) longest.kind_is

-- What is found after rows

-- nothing was passed
pub stays : (bits : List Bool) (width : ℕ) (rows : List (List Color)) (place : ℕ) (state : PageState) → place ≤ length bits
    → after_rows rows ≡ state → Passes bits width rows place state place
stays bits width rows place state within is = ([], drop place bits, is, refl, omega arith, within)

-- an EOL was passed
pub passes_eol : (bits : List Bool) (width : ℕ) (rows : List (List Color)) (place eol_bits : ℕ) → place ≤ length bits
    → SeesEol (drop place bits) (Present eol_bits) → Passes bits width rows place (row_start rows) (place + eol_bits)
passes_eol bits width rows place eol_bits within sees =
    let split = zeros_split (drop place bits) sees.0 sees.1 in (
      eol sees.0 ∷ [],
      split.0,
      (row_start rows, step rows, refl),
      split.1 ∙ ap (λ l. l ++ split.0) (sym (append-nil (eol_word sees.0))),
      omega (arith, sees.3, ap length (append-nil (eol_word sees.0)), length-eol sees.0),
      omega (arith, sees.4, length-drop place bits),
    )
  where
    step : (r : List (List Color)) → Step width (after_rows r) (eol sees.0) (row_start r)
    step [] = (sees.2, refl)
    step (row ∷ r) = (sees.2, refl)

pub finds_after_eol : (bits : List Bool) (width : ℕ) (rows : List (List Color)) (place eol_bits : ℕ) (start : Start) → place ≤ length bits
    → SeesEol (drop place bits) (Present eol_bits) → SeesStart bits (place + eol_bits) (length rows) start
    → FindsRow bits width rows place start
finds_after_eol bits width rows place eol_bits (Row at) within eol_there sees =
    subst (λ n. FindsRow bits width rows place (Row n)) (sym sees.0) (
      row_start rows,
      (sees.2, refl),
      sees.1,
      passes_eol bits width rows place eol_bits within eol_there,
    )
finds_after_eol bits width rows place eol_bits (End used) within eol_there sees = (
  row_start rows,
  place + eol_bits,
  sees.0,
  passes_eol bits width rows place eol_bits within eol_there,
  refl,
  sees.2 width rows refl,
  sees.1,
)
finds_after_eol bits width rows place eol_bits (Refused fault) within eol_there sees = (
  row_start rows,
  subst (λ n. Passes bits width rows place (row_start rows) n) (sym sees.0) (passes_eol bits width rows place eol_bits within eol_there),
  refl,
  subst (λ n. look width (row_start rows) (drop n bits) ≡ refuse fault.kind) (sym sees.0) (sees.1 width rows refl),
)

pub finds_first : (bits : List Bool) (width : ℕ) (rows : List (List Color)) (place : ℕ) → place ≤ length bits → length rows ≡ 0
    → CodeBegins (drop place bits) → FindsRow bits width rows place (Row place)
finds_first bits width [] place within none stands = (first, refl, stands, stays bits width [] place first within refl)
finds_first bits width (row ∷ rows) place within none stands = absurd (omega arith)

pub finds_bad : (bits : List Bool) (width : ℕ) (rows : List (List Color)) (place : ℕ) → place ≤ length bits → 0 < length rows
    → CodeBegins (drop place bits) → FindsRow bits width rows place (Refused (record { place = place; kind = BadCode }))
finds_bad bits width rows place within some stands = (
  row_end rows,
  stays bits width rows place (row_end rows) within (after_some rows some),
  refl,
  by_eol_other (drop place bits) (stop rows 0) (λ n. go (eol n) (row_start rows)) (refuse BadCode) stands,
)

pub finds_none : (bits : List Bool) (width : ℕ) (rows : List (List Color)) (place : ℕ) → place ≤ length bits → length rows ≡ 0
    → zeros_before (drop place bits) ≡ None → FindsRow bits width rows place (Refused (record { place = place; kind = NoRows }))
finds_none bits width [] place within none is = (first, stays bits width [] place first within refl, refl, rw is refl)
finds_none bits width (row ∷ rows) place within none is = absurd (omega arith)

pub finds_end : (bits : List Bool) (width : ℕ) (rows : List (List Color)) (place : ℕ) → place ≤ length bits → 0 < length rows
    → zeros_before (drop place bits) ≡ None → FindsRow bits width rows place (End place)
finds_end bits width rows place within some is = (
  row_end rows,
  place,
  0,
  stays bits width rows place (row_end rows) within (after_some rows some),
  refl,
  rw is refl,
  omega arith,
)

-- What is seen after an EOL

pub sees_full : (bits : List Bool) (place count : ℕ) → 20000 ≤ count → CodeBegins (drop place bits)
    → SeesStart bits place count (Refused (record { place = place; kind = TooManyCodedRows }))
sees_full bits place count full stands = (
  refl,
  λ width rows is. by_eol_other (drop place bits) (ends_with rows 0) (λ n. ends_with rows (bits_of_five (drop place bits))) (cond (ltb
      (length rows) 20000) (look_in_row width rows [] White None (drop place bits)) (refuse TooManyCodedRows)) stands ∙
      over width rows (ltb (length rows) 20000) (le-ltb (length rows) 20000 (omega (arith, is))),
)
  where
    over : (width : ℕ) (rows : List (List Color)) (b : Bool) → b ≡ false
        → cond b (look_in_row width rows [] White None (drop place bits)) (refuse TooManyCodedRows) ≡ refuse TooManyCodedRows
    over width rows b is = rw is refl

pub none_ends : (rows : List (List Color)) (more : ℕ) → length rows ≡ 0 → ends_with rows more ≡ refuse NoRows
none_ends [] more h = refl
none_ends (row ∷ rows) more h = absurd (omega arith)

pub sees_none : (bits : List Bool) (place count : ℕ) → count ≡ 0 → zeros_before (drop place bits) ≡ None
    → SeesStart bits place count (Refused (record { place = place; kind = NoRows }))
sees_none bits place count none is = (refl, λ width rows same. rw is (none_ends rows 0 (omega (arith, same))))

pub sees_end : (bits : List Bool) (place count : ℕ) → 0 < count → zeros_before (drop place bits) ≡ None
    → SeesStart bits place count (End place)
sees_end bits place count some is = (0, omega arith, λ width rows same. rw is (ends_some rows 0 (omega (arith, same))))

module _ (bits : List Bool) (place count n : ℕ) (is : zeros_before (drop place bits) ≡ Some n) (long : 11 ≤ n) where
  there : (width : ℕ) (rows : List (List Color)) → look width (row_start rows) (drop place bits) ≡ ends_with rows (bits_of_five (drop place
      bits))
  there width rows = by_eol_there (drop place bits) n (ends_with rows 0) (λ n. ends_with rows (bits_of_five (drop place bits))) (cond (ltb
      (length rows) 20000) (look_in_row width rows [] White None (drop place bits)) (refuse TooManyCodedRows)) is long

  pub sees_no_rows : count ≡ 0 → SeesStart bits place count (Refused (record { place = place; kind = NoRows }))
  sees_no_rows none = (refl, λ width rows same. there width rows ∙ none_ends rows (bits_of_five (drop place bits)) (omega (arith, same)))

  pub sees_eols : (used : ℕ) → 0 < count → used ≡ place + bits_of_five (drop place bits) → SeesStart bits place count (End used)
  sees_eols used some used_is = (
    bits_of_five (drop place bits),
    used_is,
    λ width rows same. there width rows ∙ ends_some rows (bits_of_five (drop place bits)) (omega (arith, same)),
  )

-- The same of a page that is read

pub read_within : (width : ℕ) (order : Order) (octets : List ℕ) (rows : List (List Color)) (place : ℕ)
    → IsReadTo OneDim width (bits_of order octets) rows place → place ≤ 8 * length octets
unfolding IsReadTo
read_within width order octets rows place read = omega (
  arith,
  leads_within item_word (Step width) first (after_rows rows) (bits_of order octets) place read,
  length-bits_in order octets (8 * length octets),
)

pub read_none : (width : ℕ) (bits : List Bool) → IsReadTo OneDim width bits [] 0
unfolding IsReadTo
read_none width bits = record { items = []; rest = bits; walk = refl; spelled = refl; place_is = refl }

pub found_within : (order : Order) (octets : List ℕ) (width : ℕ) (rows : List (List Color)) (place at : ℕ)
    → FindsRow (bits_of order octets) width rows place (Row at) → at ≤ 8 * length octets
found_within order octets width rows place at found = omega (
  arith,
  found.3.5,
  length-bits_in order octets (8 * length octets),
)

module _ (bits : List Bool) (old to : Progress) (width : to.page.width ≡ old.page.width) (fine : to.page.fine ≡ old.page.fine)
    (read : IsReadTo OneDim to.page.width bits to.page.rows to.place) (wide : IsWidth to.page.width)
    (few : length to.page.rows ≤ 20000) where
  further : IsFurther OneDim bits old to
  further = record { width = width; fine = fine; read = read }

  pub ends_on : (used : ℕ) → FindsRow bits to.page.width to.page.rows to.place (End used) → ReadsOn OneDim bits old to (Ok used)
  unfolding IsReadTo
  ends_on used found =
      let off = end_off to.page.width bits to.page.rows to.place used wide few read found in
      (further, off.0, off.1)

  pub refuses_on : (fault : CodeFault) → FindsRow bits to.page.width to.page.rows to.place (Refused fault)
      → ReadsOn OneDim bits old to (Err fault)
  unfolding IsReadTo
  refuses_on fault found =
      let off = refused_off to.page.width bits to.page.rows to.place fault wide few read found in
      inr (further, off.0, off.1)

  pub row_read : (at : ℕ) (next : Progress) (reader : Reading) → FindsRow bits to.page.width to.page.rows to.place (Row at)
      → reader ≡ record { bits = bits; place = at } → ReadsRowOfPage reader.bits reader.place to next (Ok tt)
      → (next.page.width ≡ old.page.width) × (next.page.fine ≡ old.page.fine) × (length next.page.rows ≡ length to.page.rows + 1)
      × IsReadTo OneDim next.page.width bits next.page.rows next.place
  unfolding IsReadTo
  row_read at next reader found is got =
      let reads : ReadsRowOfPage bits at to next (Ok tt) =
      subst (λ (r : Reading). ReadsRowOfPage r.bits r.place to next (Ok tt)) is got in
      subst (λ (p : Progress). (p.page.width ≡ old.page.width) × (p.page.fine ≡ old.page.fine)
      × (length p.page.rows ≡ length to.page.rows + 1)
      × LeadsTo item_word (Step p.page.width) first (after_rows p.page.rows) bits p.place) (sym reads.3) (
        width,
        fine,
        omega (arith, length_push to.page.rows reads.0),
        row_on to.page.width bits to.page.rows reads.0 to.place at reads.1 wide read found reads.2,
      )

  pub row_refused : (at : ℕ) (next : Progress) (reader : Reading) (fault : CodeFault)
      → FindsRow bits to.page.width to.page.rows to.place (Row at) → reader ≡ record { bits = bits; place = at }
      → ReadsRowOfPage reader.bits reader.place to next (Err fault) → ReadsOn OneDim bits old next (Err fault)
  unfolding IsReadTo
  row_refused at next reader fault found is got =
      refused (subst (λ (r : Reading). ReadsRowOfPage r.bits r.place to next (Err fault)) is got)
    where
      refused : ReadsRowOfPage bits at to next (Err fault) → ReadsOn OneDim bits old next (Err fault)
      refused (inl memory) = inl memory
      refused (inr reads) = subst (λ (p : Progress). ReadsOn OneDim bits old p (Err fault)) (sym reads.0) (inr (same_off
          reads.1 reads.2 reads.3))
        where
          same_off : (front : ℕ) → fault.place ≡ at + front → IsLongestRow to.page.width (drop at bits) front fault.kind
              → IsFurther OneDim bits old to × (read_rows OneDim to.page.width bits ≡ Err (fault.place, fault.kind))
              × AreRowsSoFar OneDim to.page.width bits (length to.page.rows)
          same_off front is longest =
              let off = row_off to.page.width bits to.page.rows to.place at front fault.kind wide few read found longest in
              (further, off.0 ∙ ap (λ (n : ℕ). Err (n, fault.kind)) (sym is), off.1)

pub found_room : (bits : List Bool) (width : ℕ) (rows : List (List Color)) (place at : ℕ) → FindsRow bits width rows place (Row at)
    → length rows < 20000
found_room bits width rows place at found = room found.0 found.1
  where
    room : (s : PageState) → MayBegin s rows → length rows < 20000
    room first may = omega (arith, ap (λ (r : List (List Color)). length r) may)
    room (row_start before) may = omega (arith, may.0, ap (λ (r : List (List Color)). length r) may.1)
    room (in_row before pixels color makeup) may = absurd may
    room (row_end before) may = absurd may

pub within_bits : (order : Order) (octets : List ℕ) (place : ℕ) → place ≤ 8 * length octets → place ≤ length (bits_of order octets)
within_bits order octets place within = omega (arith, length-bits_in order octets (8 * length octets))

pub eol_fits : (order : Order) (octets : List ℕ) (place eol_bits : ℕ) → place ≤ 8 * length octets
    → SeesEol (drop place (bits_of order octets)) (Present eol_bits) → place + eol_bits ≤ 8 * length octets
eol_fits order octets place eol_bits within sees = omega (
  arith,
  sees.4,
  length-drop place (bits_of order octets),
  length-bits_in order octets (8 * length octets),
)

pub row_refusal : (bits : List Bool) (place width : ℕ) (old : Reading) (fault : CodeFault) → old ≡ record { bits = bits; place = place }
    → RefusesRow width old fault → (front : ℕ) × (fault.place ≡ place + front) × IsLongestRow width (drop place bits) front fault.kind
row_refusal bits place width old fault is refuses =
    let here : RefusesRow width (record { bits = bits; place = place }) fault = subst (λ (r : Reading). RefusesRow width r fault) is refuses
    in
    (here.front, here.place, here.longest)

-- no bits spell no rows
pub rows_none : (width : ℕ) → IsWidth width → AreRowsSoFar OneDim width [] 0
rows_none width wide =
    let none : LeadsTo item_word (Step width) first first [] 0 = record {
      items = [];
      rest = [];
      walk = refl;
      spelled = refl;
      place_is = refl;
    } in
    counted width [] [] 0 0 first wide (omega arith) none none refl (λ i t e. refused_goes _ NoRows i t refl e)
