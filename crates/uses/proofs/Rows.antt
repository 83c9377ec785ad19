-- A page that bits of the one-dimensional code read as has a row.
use Rattle.std.proofs.Common.{◌<◌, ℕ, Bool, List, length, subst, sym, arith}
use Rattle.raster.specs.declared.row.Color.{Color}
use Rattle.page_code.specs.Codings.{ReadsIn}
use Rattle.raster.specs.declared.coding.Coding.TheVariants.{OneDim}

pub has_row : (width : ℕ) (bits : List Bool) (rows : List (List Color)) (used : ℕ) → ReadsIn OneDim width bits rows used → 0 < length rows
unfolding ReadsIn
has_row width bits rows used reads = subst (λ (l : List (List Color)). 0 < length l) (sym reads.rows.rows_are) (omega arith)
