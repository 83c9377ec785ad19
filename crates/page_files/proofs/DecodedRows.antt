-- A page that bits read as has a row.
use Rattle.std.proofs.Common.{◌<◌, ℕ, zero, suc, Bool, List, [], ◌∷◌, length, slice_index_or, subst, sym, arith}
use Rattle.raster.specs.declared.row.Color.{Color}
use Rattle.page_code.specs.Codings.{ReadsIn}
use Rattle.raster.specs.declared.coding.Coding.{Coding}
use Rattle.raster.specs.declared.coding.Coding.TheVariants.{OneDim, T6}

-- what holds of one holds of each of a list of it alone
pub only_one : {A : Type 0} (Holds : A → Type 0) (one : A) → Holds one → (k : ℕ) (d : A) → k < 1 → Holds (slice_index_or (one ∷ []) k d)
only_one Holds one is zero d within = is
only_one Holds one is (suc k) d within = absurd (omega (arith, within))

-- of either code
pub has_row : (coding : Coding) (width : ℕ) (bits : List Bool) (rows : List (List Color)) (used : ℕ) → ReadsIn coding width bits rows used
    → 0 < length rows
unfolding ReadsIn
has_row OneDim width bits rows used reads = subst (λ (l : List (List Color)). 0 < length l) (sym reads.rows.rows_are) (omega arith)
has_row T6 width bits rows used reads = reads.some
