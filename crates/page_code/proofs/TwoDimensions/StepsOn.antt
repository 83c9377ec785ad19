-- Reading a T.6 page by its parts: mode codes, runs, modes and rows.
use Rattle.std.proofs.Common.{ℕ, ◌≡◌, ◌+◌, ◌-◌, ◌<◌, ◌≤◌, ◌⊎◌, inl, inr, Bool, true, false, List, [], ◌∷◌, ◌++◌, length}
use Rattle.std.proofs.Common.{drop, replicate, Some, None, refl, ap, subst, sym, ◌∙◌, arith, cond, length-append}
use Rattle.std.specs.Prelude.{Option, Contains, Result, Ok, Err, slice_index_or}
use Rattle.std.specs.Option.{option_map}
use Rattle.std.proofs.lemmas.Bool.{lt-ltb, le-ltb, ne_eqb, cases_eq}
use Rattle.std.proofs.lemmas.List.{drop-drop, length-drop, length-replicate, append-nil}
use Rattle.raster.specs.declared.row.Color.{Color}
use Rattle.raster.specs.Pixels.{other}
use Rattle.raster.specs.Changes.{IsNextChange}
use Rattle.run_tables.specs.declared.fault.CodeFault.{CodeFault}
use Rattle.run_tables.specs.declared.fault.CodeFaultKind.{CodeFaultKind}
use Rattle.run_tables.specs.declared.fault.CodeFaultKind.TheVariants.{NoMemory, BadCode, Truncated, Backwards, PastEnd, EmptyHorizontal}
use Rattle.run_tables.specs.declared.reader.Among.TheVariants.{AllCodes, TerminatingCodes}
use Rattle.run_tables.specs.Codes.{code_word}
use Rattle.run_tables.specs.CodeReading.{first_runs, PicksCode, BeginsRun, RefusesCodeWithin, ReadsRunWithin}
use Rattle.run_tables.specs.Reading.{Reading, rest_of}
use Rattle.run_tables.specs.Texts.{begins, pick, is_cut}
use Rattle.run_tables.specs.Fronts.Look.{refuse}
use Rattle.run_tables.specs.RowFronts.{codes_after, allowed, amount, judged}
use Rattle.run_tables.specs.RowFronts.{item_word as run_item_word}
use Rattle.run_tables.specs.RowFronts.RunItem.{run_item as run_code}
use Rattle.run_tables.proofs.BeginsLemmas.{pick_sound, begins_split}
use Rattle.run_tables.proofs.CodeLooks.{code_positive, pick_items, cut_items}
use Rattle.page_code.specs.declared.t6.a0.A0.{A0}
use Rattle.page_code.specs.declared.t6.mode.Shift.{Shift}
use Rattle.page_code.specs.declared.t6.mode.Shift.TheVariants.{V0, VR1, VR2, VR3, VL1, VL2, VL3}
use Rattle.page_code.specs.declared.t6.mode.ModeCode.{ModeCode}
use Rattle.page_code.specs.declared.t6.mode.ModeCode.TheVariants.{Pass, Horizontal, Vertical}
use Rattle.page_code.specs.TwoDimensions.Positions.{a0_of, right_of, CodingLine, line_begin, right_of_a0, filled_to, IsFirstTo}
use Rattle.page_code.specs.TwoDimensions.Positions.{IsB1, b1_of, b2_of}
use Rattle.page_code.specs.TwoDimensions.Modes.{to_right, to_left, runs_added}
use Rattle.page_code.specs.TwoDimensions.Fronts.{mode_word, mode_codes, PageSoFar, PageState, row_added, mode_ended, after_mode}
use Rattle.page_code.specs.TwoDimensions.Fronts.{run_color, run_ended, after_run, found_run, look_run}
use Rattle.page_code.specs.TwoDimensions.Fronts.PageItem.{run_item}
use Rattle.page_code.specs.TwoDimensions.Fronts.PageState.{inside, running}
use Rattle.page_code.specs.TwoDimensions.Reading.{row_reading, GoesTo, ReadsMode, HasRoom, ReadsRun, LeadsOn, MovesTo, ReadsHorizontal}
use Rattle.page_code.specs.TwoDimensions.Reading.{StepsOn}
use Rattle.page_code.specs.TwoDimensions.Reading.{FindsA1, missing_mode}
use Rattle.page_code.specs.TwoDimensions.Writing.{reference_at}
use Rattle.page_code.proofs.TwoDimensions.Positions.{b1_is, b2_is}
use Rattle.page_code.proofs.TwoDimensions.Prescribed.{other_twice}
use Rattle.page_code.proofs.TwoDimensions.ReadsAll.{vertical_stands}
use Rattle.page_code.proofs.TwoDimensions.Reading.{mode_ended_short, mode_ended_whole}
use Rattle.page_code.proofs.TwoDimensions.RowReading.{goes_item, goes_reads, goes_twice, row_refuse, row_whole, mode_read, mode_refused}
use Rattle.page_code.proofs.TwoDimensions.RowReading.{mode_missing}

-- Mode codes

pub mode_stands : (code : ModeCode) → Contains mode_codes code
mode_stands Pass = (0, omega arith, refl)
mode_stands Horizontal = (1, omega arith, refl)
mode_stands (Vertical shift) = vertical_stands shift

-- no mode code is cut off there
pub none_cut : (x : List Bool) (at : ℕ) → 9 ≤ at → ((k : ℕ) → k < at → begins x (mode_word (slice_index_or mode_codes k Pass)) ≡ false)
    → is_cut mode_word mode_codes x ≡ false
none_cut x at whole h = rw (
  h 0 (omega arith),
  h 1 (omega arith),
  h 2 (omega arith),
  h 3 (omega arith),
  h 4 (omega arith),
  h 5 (omega
      arith),
  h 6 (omega arith),
  h 7 (omega arith),
  h 8 (omega arith),
) refl

-- Runs

module _ (width : ℕ) (page : PageSoFar) (line : CodingLine) (first makeup : Option ℕ) where
  code_is : (x : List Bool) (run : ℕ) → pick (code_word (run_color line first)) (first_runs (codes_after makeup)) x ≡ Some run
      → pick run_item_word (allowed (run_color line first) makeup) x ≡ Some (run_code (run_color line first) run)
  code_is x run found = pick_items (run_color line first) (codes_after makeup) x ∙ ap (option_map (run_code (run_color line first))) found

  -- a code that is there is read
  code_read : (color : Color) → run_color line first ≡ color → (place : ℕ) (bits : List Bool) (run : ℕ) (t : PageState)
      → pick (code_word color) (first_runs (codes_after makeup)) (drop place bits) ≡ Some run
      → after_run width page line first makeup run ≡ Ok t
      → GoesTo width (running page line first makeup) place (drop place bits) t (place + length (code_word color run))
      (drop (place + length (code_word color run)) bits)
  code_read color is place bits run t found leads = subst (λ (c : Color). pick (code_word c) (first_runs (codes_after makeup)) (drop place
      bits) ≡ Some run → GoesTo width (running page line first makeup) place (drop place bits) t (place + length (code_word c run))
      (drop (place + length (code_word c run)) bits)) is here found
    where
      here : pick (code_word (run_color line first)) (first_runs (codes_after makeup)) (drop place bits) ≡ Some run
          → GoesTo width (running page line first makeup) place (drop place bits) t (place + length (code_word (run_color line first) run))
          (drop (place + length (code_word (run_color line first) run)) bits)
      here found =
          let there = pick_sound run_item_word (allowed (run_color line first) makeup) (run_code (run_color line first) run) (drop place
          bits) (code_is (drop place bits) run found) in
          let on : drop (length (code_word (run_color line first) run)) (drop place bits) ≡ drop (place + length (code_word (run_color line
          first) run)) bits = drop-drop (length (code_word (run_color line first) run)) place bits in
          goes_item width (running page line first makeup) t (run_item (run_code (run_color line first) run)) place (place + length
          (code_word (run_color line first) run)) (drop place bits) (drop (place + length (code_word (run_color line first) run)) bits)
          (record { stands = there.0; leads = leads })
          (there.1 ∙ ap (λ (l : List Bool). code_word (run_color line first) run ++ l) on) refl

  -- a code that is there is refused
  code_refused : (color : Color) → run_color line first ≡ color → (place : ℕ) (x : List Bool) (run : ℕ) (kind : CodeFaultKind)
      → pick (code_word color) (first_runs (codes_after makeup)) x ≡ Some run → after_run width page line first makeup run ≡ Err kind
      → row_reading width (running page line first makeup) place x ≡ Err (place, kind)
  unfolding look_run
  code_refused color is place x run kind found leads =
      let here : pick (code_word (run_color line first)) (first_runs (codes_after makeup)) x ≡ Some run = subst (λ (c : Color). pick
      (code_word c) (first_runs (codes_after makeup)) x ≡ Some run) (sym is) found in
      row_refuse width (running page line first makeup) place x kind (ap (found_run width page line first makeup x) (code_is x run here)
      ∙ ap (judged (run_item (run_code (run_color line first) run))) leads)

  -- no code is there
  code_missing : (color : Color) → run_color line first ≡ color → (place : ℕ) (x : List Bool)
      → pick (code_word color) (first_runs (codes_after makeup)) x ≡ None
      → row_reading width (running page line first makeup) place x ≡ Err (
        place,
        cond (is_cut (code_word color) (first_runs (codes_after
            makeup)) x) Truncated BadCode,
      )
  unfolding look_run
  code_missing color is place x none = subst (λ (c : Color). pick (code_word c) (first_runs (codes_after makeup)) x ≡ None
      → row_reading width (running page line first makeup) place x ≡ Err (
        place,
        cond (is_cut (code_word c) (first_runs (codes_after makeup)) x)
            Truncated BadCode,
      )) is (λ absent.
      row_refuse width (running page line first makeup) place x _ (ap (found_run width page line first makeup x) (pick_items (run_color
      line first) (codes_after makeup) x ∙ ap (option_map (run_code (run_color line first))) absent) ∙
      ap (λ (b : Bool). refuse (cond b Truncated BadCode)) (cut_items (run_color line first) (codes_after makeup) x))) none

  -- what a code leads to
  low_leads : (run : ℕ) → run < 64 → length line.pixels + amount first + (amount makeup + run) ≤ width
      → after_run width page line first makeup run ≡ run_ended width page line first (amount makeup + run)
  unfolding after_run
  low_leads run low fits = rw (le-ltb width (length line.pixels + amount first + (amount makeup + run)) fits, lt-ltb run 64 low) refl

  high_leads : (run : ℕ) → 64 ≤ run → length line.pixels + amount first + (amount makeup + run) ≤ width
      → after_run width page line first makeup run ≡ Ok (running page line first (Some run))
  unfolding after_run
  high_leads run high fits = rw (le-ltb width (length line.pixels + amount first + (amount makeup + run)) fits, le-ltb run 64 high) refl

  long_leads : (run : ℕ) → width < length line.pixels + amount first + (amount makeup + run)
      → after_run width page line first makeup run ≡ Err PastEnd
  unfolding after_run
  long_leads run long = rw (lt-ltb width (length line.pixels + amount first + (amount makeup + run)) long) refl

-- after a code that is there
went_on : (color : Color) (makeup : Option ℕ) (old : Reading) (run : ℕ)
    → pick (code_word color) (first_runs (codes_after makeup)) (rest_of old) ≡ Some run
    → (0 < length (code_word color run)) × (old.place + length (code_word color run) ≤ length old.bits)
went_on color makeup old run found =
    let there = pick_sound run_item_word (allowed color makeup) (run_code color run) (rest_of old) (pick_items color (codes_after makeup)
    (rest_of old) ∙ ap (option_map (run_code color)) found) in
    let some : 0 < length (code_word color run) = code_positive color makeup (run_code color run) there.0 in (
      some,
      omega (
        arith,
        some,
        ap length there.1,
        length-append (code_word color run) (drop (length (code_word color run)) (rest_of old)),
        length-drop old.place old.bits,
      ),
    )

-- a run of one code
low_run_read : (color : Color) (room : ℕ) (old new : Reading) (run : ℕ) → PicksCode color AllCodes old new (Ok run) → run ≤ room
    → run < 64 → ReadsRun color room old new (Ok run)
low_run_read color room old new run picks fits low =
    let on = went_on color None old run picks.0 in
    let none_before : 0 + run ≡ run = omega arith in
    subst (λ (n : Reading). ReadsRun color room old n (Ok run)) (sym picks.1) (
      fits,
      refl,
      omega (arith, on.0),
      on.1,
      λ width page line first state has led. code_read width page line first None color has.0 old.place old.bits run state picks.0
          (low_leads width page line first None run low (omega (arith, has.1)) ∙ (ap (run_ended width page line first) none_before ∙ led)),
      λ width page line has none. code_refused width page line (Some 0) None color has.0 old.place (rest_of old) run EmptyHorizontal picks.0
          (low_leads width page line (Some 0) None run low (omega (arith, has.1)) ∙
          (ap (run_ended width page line (Some 0)) (none_before ∙ none))),
    )

-- after a make-up code that fits
high_run_read : (color : Color) (room : ℕ) (old mid : Reading) (high : ℕ) → PicksCode color AllCodes old mid (Ok high) → high ≤ room
    → 64 ≤ high → (mid.bits ≡ old.bits) × (old.place < mid.place)
    × ((width : ℕ) (page : PageSoFar) (line : CodingLine) (first : Option ℕ) → HasRoom width line first color room
    → GoesTo width (running page line first None) old.place (rest_of old) (running page line first (Some high)) mid.place (rest_of mid))
high_run_read color room old mid high picks fits up =
    let on = went_on color None old high picks.0 in
    subst (λ (m : Reading). (m.bits ≡ old.bits) × (old.place < m.place)
    × ((width : ℕ) (page : PageSoFar) (line : CodingLine) (first : Option ℕ) → HasRoom width line first color room
    → GoesTo width (running page line first None) old.place (rest_of old) (running page line first (Some high)) m.place (rest_of m)))
    (sym picks.1) (
      refl,
      omega (arith, on.0),
      λ width page line first has. code_read width page line first None color has.0 old.place old.bits high (running page line first (Some
          high)) picks.0 (high_leads width page line first None high up (omega (arith, has.1))),
    )

-- a run of two codes
both_run_read : (color : Color) (room : ℕ) (old mid new : Reading) (high low : ℕ) → PicksCode color AllCodes old mid (Ok high)
    → 64 ≤ high → PicksCode color TerminatingCodes mid new (Ok low) → low < 64 → high + low ≤ room
    → ReadsRun color room old new (Ok (high + low))
both_run_read color room old mid new high low picks up picks' down fits =
    let front = high_run_read color room old mid high picks (omega arith) up in
    let on = went_on color (Some high) mid low picks'.0 in
    subst (λ (n : Reading). ReadsRun color room old n (Ok (high + low))) (sym picks'.1) (
      fits,
      front.0,
      omega (arith, on.0, front.1),
      on.1,
      λ width page line first state has led. goes_twice width (running page line first None) (running page line first (Some high)) state
          old.place mid.place _ (rest_of old) (rest_of mid) _ (front.2 width page line first has) (code_read width page line first
          (Some high) color has.0 mid.place mid.bits low state picks'.0 (low_leads width page line first (Some high) low down
          (omega (arith, has.1)) ∙ led)),
      λ width page line has none. absurd (omega arith),
    )

-- the run's first code is refused
first_run_refused : (color : Color) (room : ℕ) (old new : Reading) (fault : CodeFault) → PicksCode color AllCodes old new (Err fault)
    → ReadsRun color room old new (Err fault)
first_run_refused color room old new fault picks width page line first has =
    rw picks.1 (code_missing width page line first None color has.0 old.place (rest_of old) picks.0)

-- the run's first code passes the width
first_run_long : (color : Color) (room : ℕ) (old mid new : Reading) (run : ℕ) → PicksCode color AllCodes old mid (Ok run) → room < run
    → ReadsRun color room old new (Err (record { place = old.place; kind = PastEnd }))
first_run_long color room old mid new run picks long width page line first has =
    code_refused width page line first None color has.0 old.place (rest_of old) run PastEnd picks.0 (long_leads width page line first None
    run (omega (arith, has.1)))

-- after a make-up code no terminating code is
second_run_refused : (color : Color) (room : ℕ) (old mid new : Reading) (high : ℕ) (fault : CodeFault)
    → PicksCode color AllCodes old mid (Ok high) → high ≤ room → 64 ≤ high → PicksCode color TerminatingCodes mid new (Err fault)
    → ReadsRun color room old new (Err fault)
second_run_refused color room old mid new high fault picks fits up picks' width page line first has =
    goes_reads width (running page line first None) (running page line first (Some high)) old.place mid.place (rest_of old) (rest_of mid)
    ((high_run_read color room old mid high picks fits up).2 width page line first has) ∙
    rw picks'.1 (code_missing width page line first (Some high) color has.0 mid.place (rest_of mid) picks'.0)

-- a terminating code after a make-up code passes the width
second_run_long : (color : Color) (room : ℕ) (old mid new last : Reading) (high low : ℕ) → PicksCode color AllCodes old mid (Ok high)
    → high ≤ room → 64 ≤ high → PicksCode color TerminatingCodes mid new (Ok low) → room < high + low
    → ReadsRun color room old last (Err (record { place = mid.place; kind = PastEnd }))
second_run_long color room old mid new last high low picks fits up picks' long width page line first has =
    goes_reads width (running page line first None) (running page line first (Some high)) old.place mid.place (rest_of old) (rest_of mid)
    ((high_run_read color room old mid high picks fits up).2 width page line first has) ∙
    code_refused width page line first (Some high) color has.0 mid.place (rest_of mid) low PastEnd picks'.0 (long_leads width page line
    first (Some high) low (omega (arith, has.1)))

-- a code that is refused
first_refuses : (color : Color) (room : ℕ) (old new : Reading) (fault : CodeFault)
    → RefusesCodeWithin color AllCodes room PastEnd old fault → ReadsRun color room old new (Err fault)
first_refuses color room old new fault (inl none) = first_run_refused color room old none.0 fault none.1
first_refuses color room old new fault (inr long) = subst (λ (f : CodeFault). ReadsRun color room old new (Err f)) (sym long.4)
    (first_run_long color room old long.1 new long.0 long.2 long.3)

second_refuses : (color : Color) (room : ℕ) (old mid new : Reading) (high : ℕ) (fault : CodeFault) → BeginsRun color room old mid high
    → RefusesCodeWithin color TerminatingCodes (room - high) PastEnd mid fault → ReadsRun color room old new (Err fault)
second_refuses color room old mid new high fault begins (inl none) = second_run_refused color room old mid none.0 high fault begins.0
    begins.2 begins.1 none.1
second_refuses color room old mid new high fault begins (inr long) = subst (λ (f : CodeFault). ReadsRun color room old new (Err f)) (sym
    long.4) (second_run_long color room old mid long.1 new high long.0 begins.0 begins.2 begins.1 long.2 (omega (arith, long.3, begins.2)))

-- a run, in the words of reading the page
pub within_page : (color : Color) (room : ℕ) (old new : Reading) (result : Result ℕ CodeFault)
    → ReadsRunWithin color room PastEnd old new result → ReadsRun color room old new result
within_page color room old new (Ok run) (inl ends) = low_run_read color room old new run ends.0 ends.2 ends.1
within_page color room old new (Ok run) (inr both) =
    subst (λ (n : ℕ). ReadsRun color room old new (Ok n)) (sym both.5) (both_run_read color room old both.2 new both.0 both.1 both.3.0
    both.3.1 both.4.0 both.4.1 (omega (arith, both.3.2, both.4.2)))
within_page color room old new (Err fault) (inl first) = first_refuses color room old new fault first
within_page color room old new (Err fault) (inr second) = second_refuses color room old second.1 new second.0 fault second.2 second.3

-- Pass mode and the vertical modes

count_filled : (line : CodingLine) (place : ℕ) → length line.pixels ≤ place → length (filled_to line place) ≡ place
count_filled line place h = omega (
  arith,
  length-append line.pixels (replicate (place - length line.pixels) line.color),
  length-replicate
      (place - length line.pixels) line.color,
)

right_bounds : (line : CodingLine) → length line.pixels ≤ right_of_a0 line × (right_of_a0 line ≤ length line.pixels + 1)
right_bounds line = seen line.begun
  where
    seen : (b : Bool) → length line.pixels ≤ length line.pixels + cond b 1 0 × (length line.pixels + cond b 1 0 ≤ length line.pixels + 1)
    seen true = (omega arith, omega arith)
    seen false = (omega arith, omega arith)

module _ (reference : List Color) (line : CodingLine) (short : length line.pixels < length reference) (a0 : A0) (a0_is : a0 ≡ a0_of line)
    (b1 : ℕ) (first : IsFirstTo reference (other a0.color) (right_of a0) b1) where
  is_b1 : IsB1 reference line b1
  is_b1 = subst (λ (a : A0). IsFirstTo reference (other a.color) (right_of a) b1) a0_is first

  b1_right : right_of_a0 line ≤ b1
  b1_right = elim (cases_eq b1 (length reference)) [
    | inl e ↦ omega (arith, (right_bounds line).1)
    | inr ne ↦ (is_b1.changing (omega (
      arith,
      is_b1.bound,
    ))).0
  ]

  pub pass_leads : (b2 place : ℕ) (mid next : CodingLine) → IsNextChange reference (b1 + 1) b2 → place ≡ length line.pixels
      → mid ≡ record { pixels = line.pixels ++ replicate (b2 - place) line.color; begun = true; color = other line.color }
      → next ≡ record { pixels = mid.pixels ++ replicate 0 mid.color; begun = true; color = other mid.color }
      → LeadsOn reference line next Pass
  unfolding after_mode
  pass_leads b2 place mid next is_b2 place_is is_mid is_next =
      let up : b1 ≤ b2 = elim (cases_eq b2 (length reference)) [
        | inl e ↦ omega (arith, is_b1.bound)
        | inr ne ↦ omega (
          arith,
          (is_b2.changing
              (omega (arith, is_b2.bound))).0,
        )
      ] in
      let low : length line.pixels ≤ b2 = omega (arith, (right_bounds line).0, b1_right) in
      let after : CodingLine = record { pixels = filled_to line b2; begun = true; color = line.color } in
      let filled : mid ≡ record { pixels = filled_to line b2; begun = true; color = other line.color } = is_mid ∙
      ap (λ n. record { pixels = line.pixels ++ replicate (b2 - n) line.color; begun = true; color = other line.color }) place_is in
      let turned : next ≡ after = is_next ∙
      (ap (λ (m : CodingLine). record { pixels = m.pixels ++ []; begun = true; color = other m.color }) filled ∙
      (ap (λ l. record { pixels = l; begun = true; color = other (other line.color) }) (append-nil (filled_to line b2)) ∙
      ap (λ (c : Color). record { pixels = filled_to line b2; begun = true; color = c }) (other_twice line.color))) in
      let b2_there : b2 ≡ b2_of reference line = b2_is reference line b1 b2 is_b1 is_b2 in
      subst (λ (n : CodingLine). LeadsOn reference line n Pass) (sym turned) (
        omega (arith, count_filled line b2 low, is_b2.bound),
        λ page is. rw (is, ← b2_there, le-ltb b2 (right_of_a0 line) (omega (arith, b1_right)), le-ltb (length reference) b2 is_b2.bound)
            refl,
      )

  module _ (shift : Shift) where
    b1_there : b1 ≡ b1_of reference line
    b1_there = b1_is reference line b1 is_b1

    pub backwards_leads : b1 + to_right shift < right_of_a0 line + to_left shift → FindsA1 reference line shift (Err Backwards)
    unfolding after_mode
    backwards_leads back page is = rw (
      is,
      ← b1_there,
      lt-ltb (b1 + to_right shift) (right_of_a0 line + to_left
          shift) back,
    ) refl

    pub past_leads : right_of_a0 line + to_left shift ≤ b1 + to_right shift → length reference + to_left shift < b1 + to_right shift
        → FindsA1 reference line shift (Err PastEnd)
    unfolding after_mode
    past_leads right past page is = rw (
      is,
      ← b1_there,
      le-ltb (b1 + to_right shift) (right_of_a0 line + to_left
          shift) right,
      lt-ltb (length reference + to_left shift) (b1 + to_right shift) past,
    ) refl

    pub vertical_leads : (a1 : ℕ) → a1 ≡ b1 + to_right shift - to_left shift → right_of_a0 line + to_left shift ≤ b1 + to_right shift
        → a1 ≤ length reference → FindsA1 reference line shift (Ok a1)
    unfolding after_mode
    vertical_leads a1 a1_is right within =
        let low : length line.pixels ≤ a1 = omega (arith, (right_bounds line).0) in (
          low,
          within,
          λ next is_next. subst (λ (n : CodingLine). LeadsOn reference line n (Vertical shift)) (sym is_next) (
            omega (arith, count_filled line a1 low),
            λ page is. rw (
              is,
              ← b1_there,
              le-ltb (b1 + to_right shift) (right_of_a0 line + to_left shift) right,
              le-ltb (length reference +
                  to_left shift) (b1 + to_right shift) (omega arith),
              ← a1_is,
            ) refl,
          ),
        )

-- Horizontal mode

pub horizontal_read : (width place : ℕ) (line next : CodingLine) (old between_runs new : Reading) (color : Color) (a0a1 a1a2 : ℕ)
    → place ≡ length line.pixels → place ≤ width → color ≡ other line.color
    → ReadsRun line.color (width - place) old between_runs (Ok a0a1) → ReadsRun color (width - place - a0a1) between_runs new (Ok a1a2)
    → 0 < a0a1 + a1a2 → next ≡ runs_added line a0a1 a1a2 → ReadsHorizontal width old new line next (Ok tt)
horizontal_read width place line next old between_runs new color a0a1 a1a2 place_is within color_is one two some turned =
    subst (λ (n : CodingLine). ReadsHorizontal width old new line n (Ok tt)) (sym turned) (
      two.1 ∙ one.1,
      omega (arith, one.2, two.2),
      two.3,
      omega (
        arith,
        one.0,
        two.0,
        length-append (line.pixels ++ replicate a0a1 line.color) (replicate a1a2 (other line.color)),
        length-append line.pixels (replicate a0a1 line.color),
        length-replicate a0a1 line.color,
        length-replicate a1a2 (other
            line.color),
      ),
      λ page. goes_twice width (running page line None None) (running page line (Some a0a1) None) (mode_ended width page (runs_added line
          a0a1 a1a2)) old.place between_runs.place new.place (rest_of old) (rest_of between_runs) (rest_of new)
          (one.4 width page line None (running page line (Some a0a1) None) (refl, omega arith) refl)
          (two.4 width page line (Some a0a1) (mode_ended width page (runs_added line a0a1 a1a2)) (sym color_is, omega (arith, one.0)) (rw
          (ne_eqb (a0a1 + a1a2) 0 (λ e. omega arith)) refl)),
    )

pub horizontal_first_refused : (width place : ℕ) (line next : CodingLine) (old new : Reading) (fault : CodeFault)
    → place ≡ length line.pixels → place ≤ width → ReadsRun line.color (width - place) old new (Err fault)
    → ReadsHorizontal width old new line next (Err fault)
horizontal_first_refused width place line next old new fault place_is within one = inr (λ page. one width page line None (
  refl,
  omega
      arith,
))

pub horizontal_second_refused : (width place : ℕ) (line next : CodingLine) (old between_runs new : Reading) (color : Color) (a0a1 : ℕ)
    (fault : CodeFault) → place ≡ length line.pixels → place ≤ width → color ≡ other line.color
    → ReadsRun line.color (width - place) old between_runs (Ok a0a1)
    → ReadsRun color (width - place - a0a1) between_runs new (Err fault) → ReadsHorizontal width old new line next (Err fault)
horizontal_second_refused width place line next old between_runs new color a0a1 fault place_is within color_is one two =
    inr (λ page. goes_reads width (running page line None None) (running page line (Some a0a1) None) old.place between_runs.place
    (rest_of old) (rest_of between_runs) (one.4 width page line None (running page line (Some a0a1) None) (refl, omega arith) refl) ∙
    two width page line (Some a0a1) (sym color_is, omega (arith, one.0)))

pub horizontal_empty : (width place : ℕ) (line next : CodingLine) (old between_runs new : Reading) (color : Color) (a0a1 a1a2 : ℕ)
    → place ≡ length line.pixels → place ≤ width → color ≡ other line.color
    → ReadsRun line.color (width - place) old between_runs (Ok a0a1) → ReadsRun color (width - place - a0a1) between_runs new (Ok a1a2)
    → a0a1 ≡ 0 → a1a2 ≡ 0 → ReadsHorizontal width old new line next (Err (record { place = between_runs.place; kind = EmptyHorizontal }))
horizontal_empty width place line next old between_runs new color a0a1 a1a2 place_is within color_is one two none none' =
    let seen : Option ℕ = Some a0a1 in
    inr (λ page. goes_reads width (running page line None None) (running page line (Some a0a1) None) old.place between_runs.place
    (rest_of old) (rest_of between_runs) (one.4 width page line None (running page line (Some a0a1) None) (refl, omega arith) refl) ∙
    (ap (λ (n : ℕ). row_reading width (running page line (Some n) None) between_runs.place (rest_of between_runs)) none ∙
    two.5 width page line (sym color_is, omega (arith, one.0)) none'))

-- Whole modes

mode_split : (code : ModeCode) (old mid : Reading) → ReadsMode old mid (Ok code)
    → (mid.bits ≡ old.bits) × (mid.place ≡ old.place + length (mode_word code)) × (rest_of old ≡ mode_word code ++ rest_of mid)
mode_split code old mid reads = subst (λ (m : Reading). (m.bits ≡ old.bits) × (m.place ≡ old.place + length (mode_word code))
    × (rest_of old ≡ mode_word code ++ rest_of m)) (sym reads.1) (
      refl,
      refl,
      begins_split (mode_word code) (rest_of old) reads.0 ∙
          ap (λ l. mode_word code ++ l) (drop-drop (length (mode_word code)) old.place old.bits),
    )

word_some : (code : ModeCode) → 0 < length (mode_word code)
word_some Pass = omega arith
word_some Horizontal = omega arith
word_some (Vertical V0) = omega arith
word_some (Vertical VR1) = omega arith
word_some (Vertical VR2) = omega arith
word_some (Vertical VR3) = omega arith
word_some (Vertical VL1) = omega arith
word_some (Vertical VL2) = omega arith
word_some (Vertical VL3) = omega arith

-- after a mode code that was read
mode_after : (code : ModeCode) (old mid : Reading) → old.place ≤ length old.bits → ReadsMode old mid (Ok code)
    → (old.place < mid.place) × (mid.place ≤ length mid.bits)
mode_after code old mid within reads =
    let split = mode_split code old mid reads in (
      omega (arith, split.1, word_some code),
      omega (
        arith,
        split.1,
        ap length split.0,
        ap length split.2,
        length-append (mode_word code) (rest_of mid),
        length-drop old.place
            old.bits,
        word_some code,
      ),
    )

pub mode_steps : (reference : List Color) (old mid : Reading) (line next : CodingLine) (code : ModeCode) → old.place ≤ length old.bits
    → ReadsMode old mid (Ok code) → LeadsOn reference line next code → StepsOn reference old mid line next (Ok tt)
mode_steps reference old mid line next code within reads leads =
    let split = mode_split code old mid reads in
    let on = mode_after code old mid within reads in (
      split.0,
      on.0,
      on.1,
      leads.0,
      λ page is. mode_read (length reference) page line code (mode_ended (length reference) page next)
          old.place mid.place (rest_of old) (rest_of mid) (mode_stands code) split.2 split.1 (leads.1 page is),
    )

mode_stays : (reference : List Color) (old mid : Reading) (line next : CodingLine) (code : ModeCode) (fault : CodeFault)
    → ReadsMode old mid (Ok code) → MovesTo reference old.place line next code (Err fault) → StepsOn reference old mid line next (Err fault)
mode_stays reference old mid line next code fault reads (inl memory) = inl memory
mode_stays reference old mid line next code fault reads (inr leads) =
    let split = mode_split code old mid reads in
    inr (λ page is. mode_refused (length reference) page line code fault.kind old.place (rest_of old) (rest_of mid) (mode_stands code)
    split.2 (leads.1 page is) ∙ ap (λ (n : ℕ). Err (n, fault.kind)) (sym leads.0))

pub vertical_steps : (reference : List Color) (place : ℕ) (old mid : Reading) (line next : CodingLine) (code : ModeCode) (result : Result
    (Unit {0}) CodeFault) → place ≡ old.place → old.place ≤ length old.bits → ReadsMode old mid (Ok code)
    → MovesTo reference place line next code result → StepsOn reference old mid line next result
vertical_steps reference place old mid line next code (Ok done) is within reads moves = mode_steps reference old mid line next code within
    reads moves
vertical_steps reference place old mid line next code (Err fault) is within reads moves = mode_stays reference old mid line next code fault
    reads (subst (λ (n : ℕ). MovesTo reference n line next code (Err fault)) is moves)

pub mode_absent : (reference : List Color) (old mid : Reading) (line next : CodingLine) (fault : CodeFault)
    → ReadsMode old mid (Err fault) → StepsOn reference old mid line next (Err fault)
mode_absent reference old mid line next fault reads = rw reads.0 (inr (λ page is. mode_missing (length reference) page line old.place
    (rest_of old) (missing_mode (rest_of old)) reads.1 refl))

-- the flag of horizontal mode
flag_read : (width : ℕ) (page : PageSoFar) (line : CodingLine) (old mid : Reading) → ReadsMode old mid (Ok Horizontal)
    → GoesTo width (inside page line) old.place (rest_of old) (running page line None None) mid.place (rest_of mid)
unfolding after_mode
flag_read width page line old mid reads =
    let split = mode_split Horizontal old mid reads in
    mode_read width page line Horizontal (running page line None None) old.place mid.place (rest_of old) (rest_of mid)
    (mode_stands Horizontal) split.2 split.1 refl

pub horizontal_steps : (reference : List Color) (old mid new : Reading) (line next : CodingLine) (result : Result (Unit {0}) CodeFault)
    → old.place ≤ length old.bits → ReadsMode old mid (Ok Horizontal) → ReadsHorizontal (length reference) mid new line next result
    → StepsOn reference old new line next result
horizontal_steps reference old mid new line next (Ok done) within reads runs =
    let split = mode_split Horizontal old mid reads in
    let on = mode_after Horizontal old mid within reads in (
      runs.0 ∙ split.0,
      omega (arith, on.0, runs.1),
      runs.2,
      runs.3,
      λ page is. goes_twice (length reference) (inside page line) (running page line None None) (mode_ended (length reference) page next)
          old.place mid.place new.place (rest_of old) (rest_of mid) (rest_of new) (flag_read (length reference) page line old mid reads)
          (runs.4 page),
    )
horizontal_steps reference old mid new line next (Err fault) within reads (inl memory) = inl memory
horizontal_steps reference old mid new line next (Err fault) within reads (inr runs) = inr (λ page is. goes_reads
    (length reference) (inside page line) (running page line None None) old.place mid.place (rest_of old) (rest_of mid) (flag_read
    (length reference) page line old mid reads) ∙ runs page)

-- Modes that are read quickly

-- the mode code that was found is gone over
pub quick_steps : (reference : List Color) (old mid : Reading) (line next : CodingLine) (code : ModeCode) (count : ℕ)
    → begins (mode_word code) (rest_of old) ≡ true → count ≡ length (mode_word code) → old.place + count ≤ length old.bits
    → mid ≡ record { bits = old.bits; place = old.place + count } → LeadsOn reference line next code
    → StepsOn reference old mid line next (Ok tt)
quick_steps reference old mid line next code count begun is within on leads = mode_steps reference old mid line next code (omega (
  arith,
  within,
)) (begun, on ∙ ap (λ (n : ℕ). record { bits = old.bits; place = old.place + n }) is) leads

-- Rows

pub row_stays : (reference : List Color) (start old new : Reading) (line next : CodingLine) (fault : CodeFault)
    → length line.pixels < length reference → ((page : PageSoFar) → page.reference ≡ reference
    → row_reading (length reference) (inside page line_begin) start.place (rest_of start) ≡ row_reading (length reference) (mode_ended
    (length
    reference) page line) old.place (rest_of old)) → StepsOn reference old new line next (Err fault)
    → (fault.kind ≡ NoMemory) ⊎ ((page : PageSoFar) → page.reference ≡ reference
    → row_reading (length reference) (inside page line_begin) start.place (rest_of start) ≡ Err (fault.place, fault.kind))
row_stays reference start old new line next fault short before (inl memory) = inl memory
row_stays reference start old new line next fault short before (inr step) =
    inr (λ page is. before page is ∙ (ap (λ (s : PageState). row_reading (length reference) s old.place (rest_of old)) (mode_ended_short
    (length
    reference) page line short) ∙ step page is))

-- a whole row
pub row_ends : (reference : List Color) (start now : Reading) (line : CodingLine) (row : List Color) → row ≡ line.pixels
    → length line.pixels ≡ length reference → ((page : PageSoFar) → page.reference ≡ reference
    → row_reading (length reference) (inside page line_begin) start.place (rest_of start) ≡ row_reading (length reference) (mode_ended
    (length reference) page line) now.place (rest_of now)) → (page : PageSoFar) → page.reference ≡ reference
    → row_reading (length reference) (inside page line_begin) start.place (rest_of start) ≡ Ok (page.rows ++ row ∷ [], now.place)
row_ends reference start now line row same full reads page is =
    let here : now.place + 0 ≡ now.place = omega arith in
    reads page is ∙ (ap (λ (s : PageState). row_reading (length reference) s now.place (rest_of now)) (mode_ended_whole (length reference)
    page line full) ∙ (row_whole (length reference) (row_added page line.pixels) now.place (rest_of now) ∙
    (ap (λ (n : ℕ). Ok (page.rows ++ line.pixels ∷ [], n)) here ∙ ap (λ (r : List Color). Ok (page.rows ++ r ∷ [], now.place)) (sym same))))

-- Pages

-- the row that was added last is the next one's reference line
pub last_added : (white row : List Color) (rows : List (List Color))
    → reference_at white (rows ++ row ∷ []) (length (rows ++ row ∷ [])) ≡ row
last_added white row [] = refl
last_added white row (r ∷ rows) = last_added r row rows
