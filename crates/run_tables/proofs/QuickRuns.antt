-- Runs that are told from the next bits as a number.
use Rattle.std.proofs.Common.{ℕ, ◌≡◌, ◌+◌, ◌-◌, ◌*◌, ◌/◌, ◌%◌, ◌^◌, ◌<◌, ◌≤◌, Bool, List, length, drop, Some, None}
use Rattle.std.proofs.Common.{refl, ap, sym, ◌∙◌, inl, inr, arith}
use Rattle.std.specs.Prelude.{Option, Ok}
use Rattle.std.proofs.lemmas.List.{drop-drop, length-drop}
use Rattle.raster.specs.declared.row.Color.{Color}
use Rattle.run_tables.specs.declared.fault.CodeFaultKind.{CodeFaultKind}
use Rattle.run_tables.specs.declared.reader.Among.TheVariants.{AllCodes}
use Rattle.run_tables.specs.Codes.{code_word}
use Rattle.run_tables.specs.CodeReading.{first_runs, runs_among, ReadsRunWithin}
use Rattle.run_tables.specs.Numbers.{AreFirst, number_text}
use Rattle.run_tables.specs.ReadTables.{entry_picked, entry_for}
use Rattle.run_tables.specs.Reading.{Reading, rest_of, after}
use Rattle.run_tables.specs.Texts.{pick}
use Rattle.run_tables.specs.Windows.{IsWindow, passed}
use Rattle.run_tables.proofs.CodePicks.{entry_found, entry_low, run_small, word_lengths}
use Rattle.run_tables.proofs.CodeReads.{stands_pick}
use Rattle.run_tables.proofs.NumberLemmas.{front_first, front_moved}
use Rattle.run_tables.proofs.RunReads.{rest_after}

-- no code word of the tables is longer than 13 bits
pub entry_short : (color : Color) (x : List Bool) (entry : ℕ × ℕ) → entry ≡ entry_for color x → entry.1 ≤ 13
entry_short color x entry is = at (pick (code_word color) (first_runs 104) x) refl is
  where
    at : (picked : Option ℕ) → pick (code_word color) (first_runs 104) x ≡ picked → entry ≡ entry_picked color picked → entry.1 ≤ 13
    at None e same = omega (arith, ap (λ (p : ℕ × ℕ). p.1) same)
    at (Some run) e same =
        let found = stands_pick color AllCodes x run e in
        omega (arith, ap (λ (p : ℕ × ℕ). p.1) same, (word_lengths color run found.0).1)

-- nor is any code for more than 2,623 pixels
pub entry_small : (color : Color) (x : List Bool) (entry : ℕ × ℕ) → entry ≡ entry_for color x → entry.0 < 2624
entry_small color x entry is = at (pick (code_word color) (first_runs 104) x) refl is
  where
    at : (picked : Option ℕ) → pick (code_word color) (first_runs 104) x ≡ picked → entry ≡ entry_picked color picked → entry.0 < 2624
    at None e same = omega (arith, ap (λ (p : ℕ × ℕ). p.0) same)
    at (Some run) e same =
        let found = stands_pick color AllCodes x run e in
        omega (arith, ap (λ (p : ℕ × ℕ). p.0) same, run_small run found.0)

-- the code that begins a number's first bits is the one that is picked
pub code_seen : (color : Color) (count : ℕ) (x : List Bool) (word run bits : ℕ) → (run, bits) ≡ entry_for color (number_text 13 (word / 2 ^
    51)) → AreFirst count x word → 13 ≤ count → 0 < bits → bits ≤ length x
    → (pick (code_word color) (runs_among AllCodes) x ≡ Some run) × (bits ≡ length (code_word color run))
code_seen color count x word run bits is first enough some fits =
    entry_found color x run bits (is ∙ ap (entry_for color) (front_first 13 51 count x word refl enough first)) some fits

-- a terminating code is a run
pub quick_low : (color : Color) (room : ℕ) (past : CodeFaultKind) (old new : Reading) (count word run bits : ℕ) → (run, bits) ≡ entry_for
    color (number_text 13 (word / 2 ^ 51)) → AreFirst count (rest_of old) word → 13 ≤ count → count ≤ length (rest_of old) → bits ≤ 13
    → 0 < bits → run < 64 → run ≤ room → new ≡ passed old bits → ReadsRunWithin color room past old new (Ok run)
quick_low color room past old new count word run bits is first enough left short some low fits moved =
    let seen = code_seen color count (rest_of old) word run bits is first enough some (omega arith) in
    inl ((seen.0, moved ∙ ap (λ (n : ℕ). record old { place = old.place + n }) seen.1), low, fits)

-- a make-up code and a terminating code are one
pub quick_high : (color : Color) (room : ℕ) (past : CodeFaultKind) (old new : Reading) (count word high bits wide next low more : ℕ)
    → (high, bits) ≡ entry_for color (number_text 13 (word / 2 ^ 51)) → AreFirst count (rest_of old) word → 13 ≤ count
    → count ≤ length (rest_of old) → bits ≤ 13 → 0 < bits → 64 ≤ high
    → (low, more) ≡ entry_for color (number_text 13 (next * 2 ^ bits % 2 ^ 64 / 2 ^ 51)) → AreFirst wide (rest_of old) next → 26 ≤ wide
    → wide ≤ 64 → wide ≤ length (rest_of old) → more ≤ 13 → 0 < more → low < 64 → high + low ≤ room → new ≡ passed old (bits + more)
    → ReadsRunWithin color room past old new (Ok (high + low))
quick_high color room past old new count word high bits wide next low more is first enough left short some far more_is ahead both most
    longer more_short more_some near fits moved =
    let seen = code_seen color count (rest_of old) word high bits is first enough some (omega arith) in
    let between : Reading = after (code_word color high) old in
    let rest : rest_of between ≡ drop bits (rest_of old) =
    rest_after (code_word color high) old ∙ ap (λ (n : ℕ). drop n (rest_of old)) (sym seen.1) in
    let long : more ≤ length (drop bits (rest_of old)) = rw length-drop (omega arith) in
    let seen_next = code_seen color (wide - bits) (drop bits (rest_of old)) (next * 2 ^ bits % 2 ^ 64) low more more_is (front_moved bits
    wide (rest_of old) next (omega arith) most ahead) (omega arith) more_some long in
    let there : new ≡ after (code_word color low) between =
    moved ∙ ap (λ (n : ℕ). record old { place = n }) (omega (arith, seen.1, seen_next.1)) in
    inr (
      high,
      low,
      between,
      ((seen.0, refl), far, omega arith),
      ((rw rest (entry_low color (drop bits (rest_of old)) low seen_next.0 near), there), near, omega arith),
      refl,
    )

-- ---- a window

-- the bits after some that are used
pub passed_on : (reader : Reading) (used count : ℕ) → rest_of (passed reader (used + count)) ≡ drop count (rest_of (passed reader used))
passed_on reader used count =
    let there : reader.place + (used + count) ≡ reader.place + used + count = omega arith in
    rw there (sym (drop-drop count (reader.place + used) reader.bits))

-- how many bits are left in a window
pub window_left : (reader : Reading) (used word : ℕ) → IsWindow reader used word → 57 - used ≤ length (rest_of (passed reader used))
window_left reader used word window =
    omega (arith, window.enough, length-drop reader.place reader.bits, length-drop (reader.place + used) reader.bits)

-- a window where more are used
pub window_on : (reader : Reading) (used word count : ℕ) → IsWindow reader used word → used + count ≤ 57
    → IsWindow reader (used + count) (word * 2 ^ count % 2 ^ 64)
window_on reader used word count window within =
    let fewer : 57 - (used + count) ≡ 57 - used - count = omega arith in
    record {
      enough = window.enough;
      few = within;
      held = rw (passed_on reader used count, fewer) (front_moved count (57 - used) (rest_of (passed reader used)) word
          (omega arith) (omega arith) window.held);
    }

-- a number of bits, and then more
pub passed_twice : (reader : Reading) (used count : ℕ) → passed reader (used + count) ≡ passed (passed reader used) count
passed_twice reader used count = ap (λ (n : ℕ). record reader { place = n }) (omega arith)
