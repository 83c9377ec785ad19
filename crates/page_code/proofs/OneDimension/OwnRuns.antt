-- The own runs of a row are its own runs, and no other runs are.
use Rattle.std.proofs.Common.{ℕ, zero, suc, ◌≡◌, ◌<◌, List, [], ◌∷◌, length, drop, replicate, refl, ap, sym, ◌∙◌, arith, length-append}
use Rattle.std.specs.Prelude.{All, slice_index_or}
use Rattle.std.proofs.lemmas.List.{length-replicate}
use Rattle.raster.specs.declared.row.Color.{Color}
use Rattle.raster.specs.declared.row.Color.TheVariants.{White, Black}
use Rattle.raster.specs.Pixels.{other}
use Rattle.raster.specs.Runs.{colored}
use Rattle.page_code.specs.OneDimension.OwnRuns.{longer, runs_from, own_runs, OwnRunsOwn, OwnRunsOnly}

abbrev AreAbove : List ℕ → Type 0
AreAbove runs = All (λ run. 0 < run) runs

colored_longer : (color : Color) (runs : List ℕ) → colored color (longer runs) ≡ color ∷ colored color runs
colored_longer color [] = refl
colored_longer color (run ∷ runs) = refl

spells_from : (color : Color) (row : List Color) → colored color (runs_from color row) ≡ row
spells_from color [] = refl
spells_from White (White ∷ row) = colored_longer White (runs_from White row) ∙ ap (λ l. White ∷ l) (spells_from White row)
spells_from White (Black ∷ row) = colored_longer Black (runs_from Black row) ∙ ap (λ l. Black ∷ l) (spells_from Black row)
spells_from Black (White ∷ row) = colored_longer White (runs_from White row) ∙ ap (λ l. White ∷ l) (spells_from White row)
spells_from Black (Black ∷ row) = colored_longer Black (runs_from Black row) ∙ ap (λ l. Black ∷ l) (spells_from Black row)

above_longer : (runs : List ℕ) → AreAbove (drop 1 runs) → AreAbove (longer runs)
above_longer [] all = λ k d h. one k d h
  where
    one : (k d : ℕ) → k < 1 → 0 < slice_index_or (1 ∷ []) k d
    one zero d h = omega arith
    one (suc k) d h = absurd (omega (arith, h))
above_longer (run ∷ runs) all = λ k d h. at k d h
  where
    at : (k d : ℕ) → k < length (suc run ∷ runs) → 0 < slice_index_or (suc run ∷ runs) k d
    at zero d h = omega arith
    at (suc k) d h = all k d (omega (arith, h))

later_longer : (runs : List ℕ) → AreAbove (drop 1 runs) → AreAbove (drop 1 (longer runs))
later_longer [] all = λ k d h. absurd (omega (arith, h))
later_longer (run ∷ runs) all = all

later_from : (color : Color) (row : List Color) → AreAbove (drop 1 (runs_from color row))
later_from color [] = λ k d h. absurd (omega (arith, h))
later_from White (White ∷ row) = later_longer (runs_from White row) (later_from White row)
later_from White (Black ∷ row) = above_longer (runs_from Black row) (later_from Black row)
later_from Black (White ∷ row) = above_longer (runs_from White row) (later_from White row)
later_from Black (Black ∷ row) = later_longer (runs_from Black row) (later_from Black row)

pub own_runs_own : OwnRunsOwn
unfolding own_runs
own_runs_own row = record { spelled = sym (spells_from White row); later = later_from White row }

-- runs above 0 of no pixel are no runs
no_runs : (color : Color) (runs : List ℕ) → AreAbove runs → colored color runs ≡ [] → runs ≡ []
no_runs color [] all e = refl
no_runs color (run ∷ runs) all e = absurd (omega (
  arith,
  all 0 0 (omega arith),
  ap length e,
  length-append (replicate run color) (colored
      (other color) runs),
  length-replicate run color,
))

same_from : (color : Color) (row : List Color) → runs_from color (color ∷ row) ≡ longer (runs_from color row)
same_from White row = refl
same_from Black row = refl

other_from : (color : Color) (row : List Color) → runs_from color (other color ∷ row) ≡ 0 ∷ longer (runs_from (other color) row)
other_from White row = refl
other_from Black row = refl

-- a run that is longer by a pixel
grown : (color : Color) (row : List Color) (run : ℕ) (runs : List ℕ) → (0 < length row → run ∷ runs ≡ runs_from color row)
    → AreAbove runs → row ≡ colored color (run ∷ runs) → suc run ∷ runs ≡ longer (runs_from color row)
grown color [] zero runs before all e = ap (λ l. 1 ∷ l) (no_runs (other color) runs all (sym e))
grown color [] (suc run) runs before all e = absurd (omega (arith, ap length e))
grown color (pixel ∷ row) run runs before all e = ap longer (before (omega arith))

only : (row : List Color) (color : Color) (runs : List ℕ) → 0 < length row → row ≡ colored color runs → AreAbove (drop 1 runs)
    → runs ≡ runs_from color row
only [] color runs some e all = absurd (omega (arith, some))
only (pixel ∷ row) color [] some e all = absurd (omega (arith, ap length e))
only (pixel ∷ row) color (suc run ∷ runs) some e all =
    let whole : pixel ∷ row ≡ color ∷ colored color (run ∷ runs) = e in
    let head : pixel ≡ color = cc in
    let tail : row ≡ colored color (run ∷ runs) = cc in
    rw head (grown color row run runs (λ h. only row color (run ∷ runs) h tail all) all tail ∙ sym (same_from color row))
only (pixel ∷ row) color (zero ∷ []) some e all = absurd (omega (arith, ap length e))
only (pixel ∷ row) color (zero ∷ zero ∷ runs) some e all = absurd (omega (arith, all 0 0 (omega arith)))
only (pixel ∷ row) color (zero ∷ suc run ∷ runs) some e all =
    let whole : pixel ∷ row ≡ other color ∷ colored (other color) (run ∷ runs) = e in
    let head : pixel ≡ other color = cc in
    let tail : row ≡ colored (other color) (run ∷ runs) = cc in
    let later : AreAbove runs = λ k d h. all (suc k) d (omega (arith, h)) in
    rw head (ap (λ l. 0 ∷ l) (grown (other color) row run runs (λ h. only row (other color) (run ∷ runs) h tail later) later tail) ∙
    sym (other_from color row))

pub own_runs_only : OwnRunsOnly
unfolding own_runs
own_runs_only row runs some own = only row White runs some own.spelled own.later
