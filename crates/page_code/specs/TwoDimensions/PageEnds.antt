-- Pages in the two-dimensional code whose end is missing or broken (ITU-T T.6, 2.4): where their rows end, and whether another row may
-- be there.
use Rattle.std.specs.Prelude.{ℕ, ◌≡◌, ◌⊎◌, Bool, false, List, ◌++◌, codes, length, replicate}
use Rattle.raster.specs.declared.row.Color.{Color}
use Rattle.run_tables.specs.Codes.{text}
use Rattle.page_code.specs.OneDimension.Pages.{AreZeros}
use Rattle.page_code.specs.TwoDimensions.Modes.{SpellsRow, SpellsRows, eofb}
use Rattle.page_code.specs.TwoDimensions.Positions.{white_line}

-- the bits begin with the codes of these rows, the first after an imaginary white line, and the codes have `place` bits
abbrev pub HoldsRowsTo : ℕ → List Bool → List (List Color) → ℕ → Type 0
HoldsRowsTo width bits rows place =
    (front : List Bool) × (rest : List Bool) × SpellsRows width (white_line width) rows front × (bits ≡ front ++ rest)
    × (place ≡ length front)

-- no row begins: nothing is left, or only 0 bits; or seven 0 bits come, with which EOFB begins and no mode code does
abbrev pub NoRowBegins : List Bool → Type 0
NoRowBegins x = AreZeros x ⊎ ((rest : List Bool) × (x ≡ replicate 7 false ++ rest))

-- law: what it means that no row begins, by bits
pub record PageEndsMean : Type 0 where
  -- no row is there, whatever its reference line
  pub no_row : (width : ℕ) (reference row : List Color) (front rest : List Bool) → NoRowBegins (front ++ rest)
      → SpellsRow width reference row front → length row ≡ 0
  -- EOFB is such an end, and so are one EOL, an EOL that is cut off, nothing, and six 0 bits and nothing after them
  pub whole : (rest : List Bool) → NoRowBegins (eofb ++ rest)
  pub one_eol : (rest : List Bool) → NoRowBegins (text (codes "000000000001") ++ rest)
  pub cut : NoRowBegins (text (codes "00000000"))
  pub nothing : NoRowBegins (text (codes ""))
  pub six : NoRowBegins (text (codes "000000"))
  -- six 0 bits and a 1 are no such end: an extension begins so
  pub extension : NoRowBegins (text (codes "0000001111")) → ⊥
