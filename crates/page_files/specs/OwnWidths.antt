-- The width that a page of T.4 says of itself: EOLs are before and after its first row (ITU-T T.4, 4.1.2), which is as wide as its run
-- codes say.
use Rattle.std.specs.Prelude.{ℕ, ◌≡◌, ◌≢◌, ◌+◌, ◌≤◌, ◌⊎◌, Bool, true, false, List, [], ◌∷◌, ◌++◌, Option, Some, None, All, drop}
use Rattle.std.specs.Prelude.{slice_get, sum}
use Rattle.raster.specs.declared.row.Color.{Color}
use Rattle.raster.specs.declared.row.Color.TheVariants.{White}
use Rattle.raster.specs.Pixels.{IsWidth, other}
use Rattle.run_tables.specs.Codes.{run_words}
use Rattle.run_tables.specs.RunWords.{runs_words}
use Rattle.run_tables.specs.Texts.{begins}
use Rattle.page_code.specs.OneDimension.Pages.{EolBegins, ReadsAs}
use Rattle.page_code.specs.OneDimension.Repairs.{EndsPage, EolOf}

-- the color of the run that comes after some runs, the first of them in this color
abbrev pub color_after : Color → List ℕ → Color
color_after color [] = color
color_after color (run ∷ runs) = color_after (other color) runs

-- no run of the color, of 2,623 pixels at most, begins the bits
abbrev pub NoRunBegins : Color → List Bool → Type 0
NoRunBegins color x = (run : ℕ) → run ≤ 2623 → begins (run_words color run) x ≡ false

-- From a bit on: the code words of runs, white first and alternating, as many as there are; and the bits after them.
pub record HasRuns (bits : List Bool) (start : ℕ) (runs : List ℕ) (rest : List Bool) : Type 0 where
  pub most : All (λ run. run ≤ 2623) runs
  pub split : drop start bits ≡ runs_words White runs ++ rest
  pub no_more : NoRunBegins (color_after White runs) rest

-- what a row that begins at a bit, after an EOL, says of its width: the pixels of its runs, if an EOL comes after them, or only 0 bits are
-- left; else nothing
abbrev pub RowSays : List Bool → ℕ → Option ℕ → Type 0
RowSays bits start (Some width) = (runs : List ℕ) × (rest : List Bool) × HasRuns bits start runs rest × EndsPage rest × (width ≡ sum runs)
RowSays bits start None = (runs : List ℕ) × (rest : List Bool) × HasRuns bits start runs rest × (¬ EndsPage rest)

-- no EOL begins the bits, and nothing is said
abbrev pub SaysNothing : List Bool → Option ℕ → Type 0
SaysNothing bits said = (¬ EolBegins bits) × (said ≡ None)

-- what bits say of their width as a page of T.4: what the row says that comes after the EOL that they begin with
abbrev pub SaysWidth : List Bool → Option ℕ → Type 0
SaysWidth bits said = ((start : ℕ) × EolOf bits start × RowSays bits start said) ⊎ SaysNothing bits said

-- What bits say of their width as a page of T.4 in two dimensions: what the row says that comes after the EOL that they begin with, and a
-- 1, which says that this row is coded in one dimension (T.4, 4.2.2).
abbrev pub SaysTwoDim : List Bool → Option ℕ → Type 0
SaysTwoDim bits said =
    ((start : ℕ) × EolOf bits start × (slice_get bits start ≡ Some true) × RowSays bits (start + 1) said)
    ⊎ (((start : ℕ) × EolOf bits start × (slice_get bits start ≢ Some true) × (said ≡ None)) ⊎ SaysNothing bits said)

-- law: bits that begin with an EOL and read as a page of T.4 say its width, so that it is missed in no other one
abbrev pub PagesSayWidths : Type 0
PagesSayWidths = (width : ℕ) (bits : List Bool) (rows : List (List Color)) (used : ℕ) → IsWidth width → ReadsAs width bits rows used
    → EolBegins bits → SaysWidth bits (Some width)
