-- Rows in one dimension: alternating runs, white first, each by its code words (ITU-T T.4, 4.1.1).
use Rattle.std.specs.Prelude.{ℕ, ◌≡◌, ◌<◌, ◌≤◌, Bool, List, [], ◌∷◌, ◌++◌, All}
use Rattle.raster.specs.declared.row.Color.{Color}
use Rattle.raster.specs.declared.row.Color.TheVariants.{White}
use Rattle.raster.specs.Pixels.{other}
use Rattle.raster.specs.Runs.{colored}
use Rattle.run_tables.specs.Codes.{run_words}

-- the code words of alternating runs in order, the first in this color
abbrev pub runs_words : Color → List ℕ → List Bool
runs_words color [] = []
runs_words color (run ∷ runs) = run_words color run ++ runs_words (other color) runs

-- Bits spell a row: runs of at most 2,623 pixels (as far as the code words go), white first and alternating, the last of them above 0,
-- are the row's pixels, and their code words in order are the bits.
pub record SpellsRow (row : List Color) (bits : List Bool) : Type 0 where
  pub before : List ℕ
  pub last : ℕ
  pub above : 0 < last
  pub most : All (λ run. run ≤ 2623) (before ++ last ∷ [])
  pub covers : row ≡ colored White (before ++ last ∷ [])
  pub words : bits ≡ runs_words White (before ++ last ∷ [])
