-- Pages of T.4 without EOLs, as a TIFF of compression 2 has them (TIFF 6.0, section 10): each row begins with an octet.
use Rattle.std.specs.Prelude.{ℕ, zero, suc, ◌≡◌, ◌+◌, ◌*◌, ◌<◌, ◌≤◌, ◌⊎◌, Bool, List, [], ◌∷◌, Option, Some, None, drop, length}
use Rattle.std.specs.Int.{div_ceil}
use Rattle.raster.specs.declared.row.Color.{Color}
use Rattle.raster.specs.Pages.{max_rows}
use Rattle.run_tables.specs.RowLaws.{ReadsAsRow}

-- After so many rows of the width the next one would begin at this bit: the first one begins at bit 0, and each other one with the octet
-- after the one before.
abbrev pub AreRowsTo : ℕ → List Bool → ℕ → ℕ → Type 0
AreRowsTo width bits zero place = place ≡ 0
AreRowsTo width bits (suc rows) place = (before used : ℕ) × (row : List Color) × AreRowsTo width bits rows before
    × ReadsAsRow width (drop before bits) row used × (place ≡ 8 * div_ceil (before + used) 8)

-- no row of the width begins the bits
abbrev pub NoRow : ℕ → List Bool → Type 0
NoRow width x = (row : List Color) (used : ℕ) → ¬ ReadsAsRow width x row used

-- How many rows of the width the bits are, with nothing else; or they are none such: after some rows no other one reads, or there are
-- 20,000, and bits are left.
abbrev pub AreRowsAlone : ℕ → List Bool → Option ℕ → Type 0
AreRowsAlone width bits (Some rows) = (place : ℕ) × AreRowsTo width bits rows place × (length bits ≤ place)
AreRowsAlone width bits None = (rows place : ℕ) × AreRowsTo width bits rows place × (place < length bits)
    × (NoRow width (drop place bits) ⊎ (max_rows ≤ rows))

-- the first of these widths in which the bits are rows and nothing else, and how many
abbrev pub FirstAlone : List Bool → List ℕ → Option (ℕ × ℕ) → Type 0
FirstAlone bits [] first = first ≡ None
FirstAlone bits (width ∷ widths) first = ((rows : ℕ) × AreRowsAlone width bits (Some rows) × (first ≡ Some (width, rows)))
    ⊎ (AreRowsAlone width bits None × FirstAlone bits widths first)
