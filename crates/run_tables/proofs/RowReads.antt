-- Reading a row run by run.
use Rattle.std.proofs.Common.{◌≢◌, subst, length-append, ℕ, ◌≡◌, ◌+◌, ◌-◌, ◌<◌, ◌≤◌, Bool, List, ◌++◌}
use Rattle.std.proofs.Common.{length, drop, replicate, Some, None, refl, ap, sym, ◌∙◌, arith, inl, inr}
use Rattle.std.specs.Prelude.{Option, Result, Ok, Err}
use Rattle.std.specs.Option.{option_map}
use Rattle.std.proofs.lemmas.Bool.{lt-ltb, le-ltb, ne_eqb, eq-eqb}
use Rattle.std.proofs.lemmas.List.{drop-drop, length-drop}
use Rattle.raster.specs.declared.row.Color.{Color}
use Rattle.raster.specs.declared.row.Color.TheVariants.{White}
use Rattle.raster.specs.Runs.{colored}
use Rattle.raster.specs.Pixels.{other}
use Rattle.run_tables.specs.declared.fault.CodeFaultKind.{CodeFaultKind}
use Rattle.run_tables.specs.declared.fault.CodeFaultKind.TheVariants.{RunTooLong, NoMemory}
use Rattle.run_tables.specs.Codes.{code_word}
use Rattle.run_tables.specs.CodeReading.{first_runs, PicksCode, BeginsRun, RefusesCodeWithin, ReadsRunWithin}
use Rattle.run_tables.specs.Reading.{Reading, rest_of}
use Rattle.run_tables.specs.RowReading.{ReadsRow, RefusesRow, RowRuns, RunWithin}
use Rattle.run_tables.specs.declared.fault.CodeFault.{CodeFault}
use Rattle.run_tables.specs.declared.reader.Among.TheVariants.{AllCodes, TerminatingCodes}
use Rattle.run_tables.specs.Texts.{begins, pick}
use Rattle.run_tables.specs.Faults.{BegunAt}
use Rattle.run_tables.specs.Fronts.Look.{refuse}
use Rattle.run_tables.specs.RowFronts.{item_word, codes_after, allowed, amount, run_ended, after_code}
use Rattle.run_tables.specs.RowFronts.{look_code, found_code, look, reading, read_row, row_begin, moved, RowState}
use Rattle.run_tables.specs.RowFronts.RunItem.{run_item}
use Rattle.run_tables.specs.RowFronts.RowState.{inside, whole}
use Rattle.run_tables.proofs.BeginsLemmas.{pick_sound}
use Rattle.run_tables.proofs.CodeLooks.{code_positive, pick_items, kind_by_cut, sees_none}
use Rattle.run_tables.proofs.RowReadings.{reading_go, reading_stop, reading_refuse, reading_moved, refuses_at_longest, refuses_no_row}
use Rattle.run_tables.proofs.RowReadings.{reads_rows_exactly}
use Rattle.run_tables.proofs.RowRefusals.{refused_row}
use Rattle.run_tables.specs.RowLaws.{ReadsAsRow}
use Rattle.raster.specs.Pixels.{IsWidth}

-- no code that may come begins the bits
pub code_refused : (width : ℕ) (pixels : List Color) (color : Color) (makeup : Option ℕ) (x : List Bool)
    → pick (code_word color) (first_runs (codes_after makeup)) x ≡ None
    → look width (inside pixels color makeup) x ≡ refuse (kind_by_cut color (codes_after makeup) x)
code_refused width pixels color makeup x none = sees_none (λ code. code) whole inside width pixels color makeup x none

-- a code that is there takes the row past its width
pub code_long : (width : ℕ) (pixels : List Color) (color : Color) (makeup : Option ℕ) (x : List Bool) (run : ℕ)
    → pick (code_word color) (first_runs (codes_after makeup)) x ≡ Some run → width < length pixels + (amount makeup + run)
    → look width (inside pixels color makeup) x ≡ refuse RunTooLong
unfolding look_code after_code
code_long width pixels color makeup x run found long =
    ap (found_code (λ code. code) whole inside width pixels color makeup x) (pick_items color (codes_after makeup) x ∙
    ap (option_map (run_item color)) found) ∙
    rw (lt-ltb width (length pixels + (amount makeup + run)) long) refl

-- a code that is there is read
code_read : (width : ℕ) (pixels : List Color) (color : Color) (makeup : Option ℕ) (place : ℕ) (bits : List Bool) (run : ℕ) (t : RowState) →
    pick (code_word color) (first_runs (codes_after makeup)) (drop place bits) ≡ Some run
    → after_code whole inside width pixels color makeup run ≡ Ok t
    → reading width (inside pixels color makeup) place (drop place bits) ≡ reading width t (place + length (code_word color run)) (drop
    (place + length (code_word color run)) bits)
code_read width pixels color makeup place bits run t found leads =
    let there = pick_sound item_word (allowed color makeup) (run_item color run) (drop place bits) (pick_items color (codes_after makeup)
    (drop place bits) ∙ ap (option_map (run_item color)) found) in
    let after : drop (length (code_word color run)) (drop place bits) ≡ drop (place + length (code_word color run)) bits = drop-drop (length
    (code_word color run)) place bits in
    ap (reading width (inside pixels color makeup) place) there.1 ∙
    (reading_go width (inside pixels color makeup) t (run_item color run) place (drop (length (code_word color run)) (drop place bits))
    (record { stands = there.0; leads = leads }) ∙
    ap (reading width t (place + length (code_word color run))) after)

low_leads : (width : ℕ) (pixels : List Color) (color : Color) (makeup : Option ℕ) (run : ℕ)
    → length pixels + (amount makeup + run) ≤ width → run < 64
    → after_code whole inside width pixels color makeup run ≡ Ok (run_ended whole inside width (pixels ++ replicate (amount makeup + run)
    color) (other color))
unfolding after_code
low_leads width pixels color makeup run fits low = rw (le-ltb width (length pixels + (amount makeup + run)) fits, lt-ltb run 64 low) refl

high_leads : (width : ℕ) (pixels : List Color) (color : Color) (run : ℕ) → length pixels + (0 + run) ≤ width → 64 ≤ run
    → after_code whole inside width pixels color None run ≡ Ok (inside pixels color (Some run))
unfolding after_code
high_leads width pixels color run fits high = rw (le-ltb width (length pixels + (0 + run)) fits, le-ltb run 64 high) refl

-- a terminating code ends the run
pub low_read : (width : ℕ) (pixels : List Color) (color : Color) (makeup : Option ℕ) (place : ℕ) (bits : List Bool) (run : ℕ)
    → pick (code_word color) (first_runs (codes_after makeup)) (drop place bits) ≡ Some run
    → length pixels + (amount makeup + run) ≤ width → run < 64
    → reading width (inside pixels color makeup) place (drop place bits) ≡ reading width (run_ended whole inside width (pixels ++ replicate
    (amount makeup + run) color) (other color)) (place + length (code_word color run)) (drop (place + length (code_word color run)) bits)
low_read width pixels color makeup place bits run found fits low =
    code_read width pixels color makeup place bits run (run_ended whole inside width (pixels ++ replicate (amount makeup + run) color)
    (other color)) found (low_leads width pixels color makeup run fits low)

-- a make-up code waits for one
pub high_read : (width : ℕ) (pixels : List Color) (color : Color) (place : ℕ) (bits : List Bool) (run : ℕ)
    → pick (code_word color) (first_runs 104) (drop place bits) ≡ Some run → length pixels + run ≤ width → 64 ≤ run
    → reading width (inside pixels color None) place (drop place bits) ≡ reading width (inside pixels color (Some run)) (place + length
    (code_word color run)) (drop (place + length (code_word color run)) bits)
high_read width pixels color place bits run found fits high =
    code_read width pixels color None place bits run (inside pixels color (Some run)) found (high_leads width pixels color run (omega arith)
    high)

-- after a code that is there
went_on : (color : Color) (makeup : Option ℕ) (old : Reading) (run : ℕ)
    → pick (code_word color) (first_runs (codes_after makeup)) (rest_of old) ≡ Some run
    → (0 < length (code_word color run)) × (old.place + length (code_word color run) ≤ length old.bits)
went_on color makeup old run found =
    let there = pick_sound item_word (allowed color makeup) (run_item color run) (rest_of old) (pick_items color (codes_after makeup)
    (rest_of old) ∙ ap (option_map (run_item color)) found) in
    let some : 0 < length (code_word color run) = code_positive color makeup (run_item color run) there.0 in (
      some,
      omega (
        arith,
        some,
        ap length there.1,
        length-append (code_word color run) (drop (length (code_word color run)) (rest_of old)),
        length-drop old.place old.bits,
      ),
    )

none_before : (pixels : List Color) (color : Color) (run : ℕ) → pixels ++ replicate (0 + run) color ≡ pixels ++ replicate run color
none_before pixels color run = let same : 0 + run ≡ run = omega arith in ap (λ (n : ℕ). pixels ++ replicate n color) same

-- a run of one code
low_within : (color : Color) (room : ℕ) (old new : Reading) (run : ℕ) → PicksCode color AllCodes old new (Ok run) → run ≤ room
    → run < 64 → RunWithin color room old new (Ok run)
low_within color room old new run picks fits low =
    let on = went_on color None old run picks.0 in
    subst (λ (n : Reading). RunWithin color room old n (Ok run)) (sym picks.1) (
      fits,
      refl,
      omega (arith, on.0),
      on.1,
      λ pixels. low_read (length pixels + room) pixels color None old.place old.bits run picks.0 (omega arith) low ∙
          ap (λ (p : List Color). reading (length pixels + room) (run_ended whole inside (length pixels + room) p (other color)) (old.place
          + length (code_word color run)) (drop (old.place + length (code_word color run)) old.bits)) (none_before pixels color run),
    )

-- after a make-up code that fits
pub high_within : (color : Color) (room : ℕ) (old mid : Reading) (high : ℕ) → PicksCode color AllCodes old mid (Ok high) → high ≤ room
    → 64 ≤ high → (mid.bits ≡ old.bits) × (old.place < mid.place) × ((pixels : List Color)
    → reading (length pixels + room) (inside pixels color None) old.place (rest_of old) ≡ reading (length pixels + room) (inside pixels
    color (Some high)) mid.place (rest_of mid))
high_within color room old mid high picks fits up =
    let on = went_on color None old high picks.0 in
    subst (λ (m : Reading). (m.bits ≡ old.bits) × (old.place < m.place) × ((pixels : List Color)
    → reading (length pixels + room) (inside pixels color None) old.place (rest_of old) ≡ reading (length pixels + room) (inside pixels
    color (Some high)) m.place (rest_of m))) (sym picks.1) (
      refl,
      omega (arith, on.0),
      λ pixels. high_read (length pixels + room) pixels color old.place old.bits high picks.0 (omega arith) up,
    )

-- a run of two codes
both_within : (color : Color) (room : ℕ) (old mid new : Reading) (high low : ℕ) → PicksCode color AllCodes old mid (Ok high) → 64 ≤ high
    → PicksCode color TerminatingCodes mid new (Ok low) → low < 64 → high + low ≤ room → RunWithin color room old new (Ok (high + low))
both_within color room old mid new high low picks up picks' down fits =
    let front = high_within color room old mid high picks (omega arith) up in
    let on = went_on color (Some high) mid low picks'.0 in
    subst (λ (n : Reading). RunWithin color room old n (Ok (high + low))) (sym picks'.1) (
      fits,
      front.0,
      omega (arith, on.0, front.1),
      on.1,
      λ pixels. front.2 pixels ∙ low_read (length pixels + room) pixels color (Some high) mid.place mid.bits low picks'.0 (omega arith)
          down,
    )

-- the run's first code is refused
first_refused : (color : Color) (room : ℕ) (old new : Reading) (fault : CodeFault) → PicksCode color AllCodes old new (Err fault)
    → RunWithin color room old new (Err fault)
first_refused color room old new fault picks pixels =
    rw picks.1 (reading_refuse (length pixels + room) (inside pixels color None) old.place (rest_of old) _ (code_refused (length pixels +
    room) pixels color None (rest_of old) picks.0))

-- the run's first code is too long
first_long : (color : Color) (room : ℕ) (old mid new : Reading) (run : ℕ) → PicksCode color AllCodes old mid (Ok run) → room < run
    → RunWithin color room old new (Err (record { place = old.place; kind = RunTooLong }))
first_long color room old mid new run picks long pixels =
    reading_refuse (length pixels + room) (inside pixels color None) old.place (rest_of old) RunTooLong (code_long (length pixels + room)
    pixels color None (rest_of old) run picks.0 (omega arith))

-- after a make-up code no terminating code is
second_refused : (color : Color) (room : ℕ) (old mid new : Reading) (high : ℕ) (fault : CodeFault)
    → PicksCode color AllCodes old mid (Ok high) → high ≤ room → 64 ≤ high → PicksCode color TerminatingCodes mid new (Err fault)
    → RunWithin color room old new (Err fault)
second_refused color room old mid new high fault picks fits up picks' pixels =
    (high_within color room old mid high picks fits up).2 pixels ∙
    rw picks'.1 (reading_refuse (length pixels + room) (inside pixels color (Some high)) mid.place (rest_of mid) _ (code_refused (length
    pixels + room) pixels color (Some high) (rest_of mid) picks'.0))

-- a terminating code after a make-up code is too long
second_long : (color : Color) (room : ℕ) (old mid new last : Reading) (high low : ℕ) → PicksCode color AllCodes old mid (Ok high)
    → high ≤ room → 64 ≤ high → PicksCode color TerminatingCodes mid new (Ok low) → room < high + low
    → RunWithin color room old last (Err (record { place = mid.place; kind = RunTooLong }))
second_long color room old mid new last high low picks fits up picks' long pixels =
    (high_within color room old mid high picks fits up).2 pixels ∙
    reading_refuse (length pixels + room) (inside pixels color (Some high)) mid.place (rest_of mid) RunTooLong (code_long (length pixels +
    room) pixels color (Some high) (rest_of mid) low picks'.0 (omega arith))

-- a code that is refused
first_refuses : (color : Color) (room : ℕ) (old new : Reading) (fault : CodeFault)
    → RefusesCodeWithin color AllCodes room RunTooLong old fault → RunWithin color room old new (Err fault)
first_refuses color room old new fault (inl none) = first_refused color room old none.0 fault none.1
first_refuses color room old new fault (inr long) = subst (λ (f : CodeFault). RunWithin color room old new (Err f)) (sym long.4) (first_long
    color room old long.1 new long.0 long.2 long.3)

second_refuses : (color : Color) (room : ℕ) (old mid new : Reading) (high : ℕ) (fault : CodeFault) → BeginsRun color room old mid high
    → RefusesCodeWithin color TerminatingCodes (room - high) RunTooLong mid fault → RunWithin color room old new (Err fault)
second_refuses color room old mid new high fault begins (inl none) = second_refused color room old mid none.0 high fault begins.0 begins.2
    begins.1 none.1
second_refuses color room old mid new high fault begins (inr long) = subst (λ (f : CodeFault). RunWithin color room old new (Err f)) (sym
    long.4) (second_long color room old mid long.1 new high long.0 begins.0 begins.2 begins.1 long.2 (omega (arith, long.3, begins.2)))

-- a run, in the words of reading the row
pub within_row : (color : Color) (room : ℕ) (old new : Reading) (result : Result ℕ CodeFault)
    → ReadsRunWithin color room RunTooLong old new result → RunWithin color room old new result
within_row color room old new (Ok run) (inl ends) = low_within color room old new run ends.0 ends.2 ends.1
within_row color room old new (Ok run) (inr both) =
    subst (λ (n : ℕ). RunWithin color room old new (Ok n)) (sym both.5) (both_within color room old both.2 new both.0 both.1 both.3.0
    both.3.1 both.4.0 both.4.1 (omega (arith, both.3.2, both.4.2)))
within_row color room old new (Err fault) (inl first) = first_refuses color room old new fault first
within_row color room old new (Err fault) (inr second) = second_refuses color room old second.1 new second.0 fault second.2 second.3

short_row : (width : ℕ) (pixels : List Color) (color : Color) → length pixels < width
    → run_ended whole inside width pixels color ≡ inside pixels color None
short_row width pixels color h = rw (ne_eqb (length pixels) width (λ e. omega arith)) refl

full_row : (width : ℕ) (pixels : List Color) (color : Color) → length pixels ≡ width
    → run_ended whole inside width pixels color ≡ whole pixels
full_row width pixels color h = rw (eq-eqb (length pixels) width h) refl

-- one run more of a row
pub run_on : (width : ℕ) (pixels : List Color) (room : ℕ) (color : Color) (old new : Reading) (run : ℕ) → length pixels + room ≡ width
    → 0 < room → RunWithin color room old new (Ok run)
    → reading width (run_ended whole inside width pixels color) old.place (rest_of old) ≡ reading width (run_ended whole inside width
    (pixels ++ replicate run color) (other color)) new.place (rest_of new)
run_on width pixels room color old new run whole_is some within =
    ap (λ (s : RowState). reading width s old.place (rest_of old)) (short_row width pixels color (omega arith)) ∙
    rw whole_is at (within.4 pixels)

-- a run is refused
pub run_refused : (width : ℕ) (pixels : List Color) (room : ℕ) (color : Color) (old new : Reading) (fault : CodeFault)
    → length pixels + room ≡ width → 0 < room → RunWithin color room old new (Err fault)
    → reading width (run_ended whole inside width pixels color) old.place (rest_of old) ≡ Err (fault.place, fault.kind)
run_refused width pixels room color old new fault whole_is some within =
    ap (λ (s : RowState). reading width s old.place (rest_of old)) (short_row width pixels color (omega arith)) ∙
    rw whole_is at (within pixels)

-- the row is whole
pub row_read : (width : ℕ) (pixels : List Color) (color : Color) (reader : Reading) → length pixels ≡ width
    → reading width (run_ended whole inside width pixels color) reader.place (rest_of reader) ≡ Ok (pixels, reader.place)
row_read width pixels color reader full =
    ap (λ (s : RowState). reading width s reader.place (rest_of reader)) (full_row width pixels color full) ∙
    reading_stop width pixels reader.place (rest_of reader)

-- what reading refuses from a place on is refused after the longest front there
pub refuses_there : (width : ℕ) (old : Reading) (fault : CodeFault) → IsWidth width
    → reading width row_begin old.place (rest_of old) ≡ Err (fault.place, fault.kind) → RefusesRow width old fault
refuses_there width old fault wide e = seen (read_row width (rest_of old)) refl (sym start ∙ e)
  where
    none : old.place + 0 ≡ old.place
    none = omega arith

    start : reading width row_begin old.place (rest_of old) ≡ moved old.place (read_row width (rest_of old))
    start = ap (λ (p : ℕ). reading width row_begin p (rest_of old)) (sym none) ∙ reading_moved width row_begin old.place 0 (rest_of old)

    seen : (r : Result (List Color × ℕ) (ℕ × CodeFaultKind)) → read_row width (rest_of old) ≡ r
        → moved old.place r ≡ Err (fault.place, fault.kind) → RefusesRow width old fault
    seen (Ok read) is e = cc
    seen (Err refused) is e =
        let pair : ◌≡◌ {A = ℕ × CodeFaultKind} (old.place + refused.0, refused.1) (fault.place, fault.kind) = cc in
        let kind : refused.1 ≡ fault.kind = ap (λ (p : ℕ × CodeFaultKind). p.1) pair in
        let refuses : read_row width (rest_of old) ≡ Err (refused.0, fault.kind) = is ∙
        ap (λ (k : CodeFaultKind). Err (refused.0, k)) kind in
        let longest = refuses_at_longest width (rest_of old) refused.0 fault.kind refuses in
        record {
          front = refused.0;
          place = sym (ap (λ (p : ℕ
              × CodeFaultKind). p.0) pair);
          longest = longest;
          refused = refused_row width (rest_of old) refused.0 fault.kind wide refuses;
          none = λ row used reads. refuses_no_row width (rest_of old) refused.0
              fault.kind row used wide refuses reads;
        }

-- what reading answers from a place on is the row that is there
pub reads_there : (width : ℕ) (old : Reading) (row : List Color) (end : ℕ) → IsWidth width
    → reading width row_begin old.place (rest_of old) ≡ Ok (row, end)
    → (used : ℕ) × ReadsAsRow width (rest_of old) row used × (end ≡ old.place + used)
reads_there width old row end wide e = seen (read_row width (rest_of old)) refl (sym start ∙ e)
  where
    none : old.place + 0 ≡ old.place
    none = omega arith

    start : reading width row_begin old.place (rest_of old) ≡ moved old.place (read_row width (rest_of old))
    start = ap (λ (p : ℕ). reading width row_begin p (rest_of old)) (sym none) ∙ reading_moved width row_begin old.place 0 (rest_of old)

    seen : (r : Result (List Color × ℕ) (ℕ × CodeFaultKind)) → read_row width (rest_of old) ≡ r → moved old.place r ≡ Ok (row, end)
        → (used : ℕ) × ReadsAsRow width (rest_of old) row used × (end ≡ old.place + used)
    seen (Err refused) is e = cc
    seen (Ok read) is e =
        let pair : ◌≡◌ {A = List Color × ℕ} (read.0, old.place + read.1) (row, end) = cc in
        let same : read.0 ≡ row = ap (λ (p : List Color × ℕ). p.0) pair in
        let reads : read_row width (rest_of old) ≡ Ok (row, read.1) = is ∙ ap (λ (r : List Color). Ok (r, read.1)) same in
        (read.1, (reads_rows_exactly width (rest_of old) row read.1 wide).0 reads, sym (ap (λ (p : List Color × ℕ). p.1) pair))

-- a refusal of the runs is one of memory, or one of the row
pub runs_refused : (width : ℕ) (old new : Reading) (runs : List ℕ) (fault : CodeFault) → IsWidth width
    → RowRuns width old new runs (Err fault) → fault.kind ≢ NoMemory → RefusesRow width old fault
runs_refused width old new runs fault wide (inl memory) other = absurd (other memory)
runs_refused width old new runs fault wide (inr e) other = refuses_there width old fault wide e

-- the row of the runs is the one that is there
pub runs_read : (width : ℕ) (old new : Reading) (runs : List ℕ) (row : List Color) → IsWidth width
    → RowRuns width old new runs (Ok tt) → row ≡ colored White runs → ReadsRow width old new row
runs_read width old new runs row wide read is =
    let there = reads_there width old (colored White runs) new.place wide read.3 in
    record { used = there.0; reads = rw is there.1; after = same new old.bits read.0 there.2 }
  where
    same : (reader : Reading) (bits : List Bool) → reader.bits ≡ bits → {place : ℕ} → reader.place ≡ place
        → reader ≡ record { bits = bits; place = place }
    same reader bits e f =
        let with_bits : List Bool → Reading = λ b. record { bits = b; place = reader.place } in
        let with_place : ℕ → Reading = λ p. record { bits = bits; place = p } in
        ap with_bits e ∙ ap with_place f

-- a refusal as the whole call answers it
pub begun_refuses : (width : ℕ) (old : Reading) (start : ℕ) (fault answer : CodeFault) → BegunAt start fault answer
    → (fault.kind ≢ NoMemory → RefusesRow width old fault) → answer.kind ≢ NoMemory → RefusesRow width old answer
begun_refuses width old start fault answer (inl memory) refuses other = absurd (other (ap (λ (f : CodeFault). f.kind) memory.1))
begun_refuses width old start fault answer (inr same) refuses other = subst (λ (f : CodeFault). RefusesRow width old f) (sym same.1)
    (refuses same.0)

pub begun_memory : (start : ℕ) (fault answer : CodeFault) → BegunAt start fault answer → answer.kind ≡ NoMemory → answer.place ≡ start
begun_memory start fault answer (inl memory) is = ap (λ (f : CodeFault). f.place) memory.1
begun_memory start fault answer (inr same) is = absurd (same.0 (sym (ap (λ (f : CodeFault). f.kind) same.1) ∙ is))
