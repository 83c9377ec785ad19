-- The own runs of a row: white first and alternating, and above 0 but for the first (ITU-T T.4, 4.1.1).
use Rattle.std.specs.Prelude.{ℕ, suc, ◌≡◌, ◌<◌, List, [], ◌∷◌, length}
use Rattle.raster.specs.declared.row.Color.{Color}
use Rattle.raster.specs.declared.row.Color.TheVariants.{White, Black}
use Rattle.raster.specs.Runs.{AreOwnRuns}

-- runs whose first run is longer by a pixel
abbrev pub longer : List ℕ → List ℕ
longer [] = 1 ∷ []
longer (run ∷ runs) = suc run ∷ runs

-- the runs of pixels, the first of them, perhaps of 0 pixels, in this color
abbrev pub runs_from : Color → List Color → List ℕ
runs_from color [] = []
runs_from White (White ∷ row) = longer (runs_from White row)
runs_from White (Black ∷ row) = 0 ∷ longer (runs_from Black row)
runs_from Black (White ∷ row) = 0 ∷ longer (runs_from White row)
runs_from Black (Black ∷ row) = longer (runs_from Black row)

-- the own runs of a row as a function: white first (perhaps 0 pixels), each later run above 0
unfoldable pub own_runs : List Color → List ℕ
own_runs row = runs_from White row

-- law: the own runs that the function gives are the row's own runs
abbrev pub OwnRunsOwn : Type 0
OwnRunsOwn = (row : List Color) → AreOwnRuns row (own_runs row)

-- law: no other runs are the row's own runs
abbrev pub OwnRunsOnly : Type 0
OwnRunsOnly = (row : List Color) (runs : List ℕ) → 0 < length row → AreOwnRuns row runs → runs ≡ own_runs row
