-- The row in which a page is refused that was read up to a refusal, and the rows before it.
use Rattle.std.proofs.Common.{◌≡◌, ◌+◌, length, ℕ, zero, suc, Bool, List, [], refl, ap, sym, subst, arith}
use Rattle.page_code.specs.PageReaders.{IsPageRefused}
use Rattle.raster.specs.declared.row.Color.{Color}
use Rattle.page_code.specs.RowsSoFar.{AreRowsSoFar, AreWholeRows}
use Rattle.raster.specs.declared.coding.Coding.{Coding}
use Rattle.page_code.specs.declared.page_reader.RefusedCode.{RefusedCode}
use Rattle.page_files.specs.Refusals.{IsRefusedRow}

-- so many whole rows are rows that are there
pub whole_rows : (coding : Coding) (width : ℕ) (bits : List Bool) (count : ℕ) → AreRowsSoFar coding width bits count
    → (rows : List (List Color)) × AreWholeRows coding width bits rows × (count ≡ length rows)
whole_rows coding width bits zero so = ([], record { all = so; begins = λ less. absurd (omega (arith, less)) }, refl)
whole_rows coding width bits (suc n) so =
    let there = so.there (omega arith) in (
      there.0,
      record { all = subst (λ (k : ℕ). AreRowsSoFar coding width bits k) (sym there.1) so; begins = λ less. there.2 },
      sym there.1,
    )

next_row : (coding : Coding) (width : ℕ) (bits : List Bool) (count : ℕ) → AreRowsSoFar coding width bits count
    → IsRefusedRow coding width bits (count + 1)
next_row coding width bits count so =
    let whole = whole_rows coding width bits count so in (whole.0, whole.1, ap (λ (k : ℕ). k + 1) whole.2)

pub refused_row : (coding : Coding) (width : ℕ) (bits : List Bool) (refused : RefusedCode) → IsPageRefused coding width bits refused
    → IsRefusedRow coding width bits (refused.rows + 1)
refused_row coding width bits refused is = next_row coding width bits refused.rows is.counted
