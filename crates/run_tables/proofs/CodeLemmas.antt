use Rattle.std.proofs.Common.{◌≡◌, ℕ, zero, suc, ◌+◌, ◌*◌, ◌/◌, ◌%◌, ◌<◌, ◌≤◌, List, [], ◌∷◌, ◌++◌, length, refl, ap, get_or, arith}
use Rattle.std.specs.Prelude.{sum}
use Rattle.std.proofs.lemmas.Bool.{le-ltb, lt-ltb}
use Rattle.std.proofs.lemmas.Grind.{common_steps}
use Rattle.raster.specs.declared.row.Color.{Color}
use Rattle.raster.specs.declared.row.Color.TheVariants.{White}
use Rattle.raster.specs.Runs.{colored}
use Rattle.raster.proofs.RowLemmas.{length-colored}
use Rattle.run_tables.specs.Codes.{code_word, run_words, run_at}

pub run_at_low : (n : ℕ) → n < 64 → run_at n ≡ n
run_at_low n h = rw (lt-ltb n 64 h) refl

pub run_at_high : (q : ℕ) → 1 ≤ q → run_at (63 + q) ≡ 64 * q
run_at_high q h = rw (le-ltb (63 + q) 64 (omega arith)) (omega arith)

pub run_words_low : (color : Color) (run : ℕ) → run < 64 → run_words color run ≡ code_word color run
run_words_low color run h = rw (lt-ltb run 64 h) refl

pub run_words_high : (color : Color) (run : ℕ) → 64 ≤ run
    → run_words color run ≡ code_word color (64 * (run / 64)) ++ code_word color (run % 64)
run_words_high color run h = rw (le-ltb run 64 h) refl

at_most_sum : (runs : List ℕ) (k d : ℕ) → k < length runs → get_or runs k d ≤ sum runs
at_most_sum [] k d h = absurd (omega arith)
at_most_sum (x ∷ xs) zero d h = grind (arith, common_steps)
at_most_sum (x ∷ xs) (suc k) d h =
    let within : k < length xs = omega arith in
    let later : get_or xs k d ≤ sum xs = at_most_sum xs k d within in
    grind (arith, common_steps, later)

-- the runs of a row are no longer than the row
pub runs_fit : (row : List Color) (runs : List ℕ) → length row ≤ 2432 → row ≡ colored White runs → (k d : ℕ) → k < length runs
    → get_or runs k d ≤ 2623
runs_fit row runs fits spelled k d h = omega (arith, at_most_sum runs k d h, length-colored White runs, ap length spelled)
