-- When a line of a page ends, where reading goes on after a line that can't be read, and where the first line begins, said by bits
-- (ITU-T T.4, 4.1.2).
use Rattle.std.specs.Prelude.{ℕ, ◌≡◌, ◌+◌, ◌<◌, ◌≤◌, ◌++◌, Bool, true, List, [], ◌∷◌, codes, slice_set}
use Rattle.raster.specs.declared.row.Color.{Color}
use Rattle.raster.specs.declared.row.Color.TheVariants.{White, Black}
use Rattle.run_tables.specs.Codes.{text}
use Rattle.page_code.specs.OneDimension.Pages.{eol_word}
use Rattle.page_code.specs.OneDimension.Repairs.{EndsLine, EndsRow, IsFirstLine, IsSkipped, TornEolOf}

-- law: when a line ends, by bits
pub record LineEndsMean : Type 0 where
  -- an EOL ends it, also one with more than eleven 0 bits, and one whose first eleven bits have a single 1 among them
  pub whole : (count : ℕ) (rest : List Bool) → 11 ≤ count → EndsLine (eol_word count ++ rest) (count + 1)
  pub torn : (count place : ℕ) (rest : List Bool) → 11 ≤ count → place < 11
      → TornEolOf (slice_set (eol_word count ++ rest) place true) (count + 1)
  -- ten 0 bits and two 1s are such an EOL; nine 0 bits and two 1s aren't
  pub last_wrong : TornEolOf (text (codes "000000000011" ++ codes "10011")) 12
  pub short : (used : ℕ) → EndsLine (text (codes "0000000001" ++ codes "10011")) used → ⊥
  -- it ends also before nothing and before 0 bits alone, of which no bit belongs to it
  pub nothing : EndsLine (text (codes "")) 0
  pub zeros : EndsLine (text (codes "000")) 0
  -- its end has only one number of bits
  pub one_way : (x : List Bool) (a b : ℕ) → EndsLine x a → EndsLine x b → a ≡ b

-- law: when the line of a row ends, by bits: a white run of 0 pixels may come before the EOL, once, if the row ends in black
pub record RowLinesEndMean : Type 0 where
  -- it may end at once, after any row
  pub at_once : (row : List Color) (x : List Bool) (used : ℕ) → EndsLine x used → EndsRow row x used
  -- it may end after the code of a white run of 0 pixels and an EOL if the row ends in black, and not if it ends in white
  pub after_white : EndsRow (White ∷ Black ∷ []) (text (codes "00110101" ++ codes "000000000001" ++ codes "1011")) 20
  pub ends_white : (used : ℕ) → EndsRow (Black ∷ White ∷ []) (text (codes "00110101" ++ codes "000000000001" ++ codes "1011")) used → ⊥
  -- it doesn't end after two of these codes, nor if no EOL follows
  pub twice : (used : ℕ) → EndsRow (White ∷ Black ∷ []) (text (codes "00110101" ++ codes "00110101" ++ codes "000000000001")) used → ⊥
  pub no_eol : (used : ℕ) → EndsRow (White ∷ Black ∷ []) (text (codes "00110101" ++ codes "1011")) used → ⊥
  -- its end has only one number of bits
  pub one_way : (row : List Color) (x : List Bool) (a b : ℕ) → EndsRow row x a → EndsRow row x b → a ≡ b

-- law: where reading goes on after a line that can't be read, by bits
pub record SkippingMeans : Type 0 where
  -- it goes on after the first EOL, also if that has fill
  pub after_eol : IsSkipped (text (codes "110" ++ codes "000000000001" ++ codes "01")) 15
  pub after_long : IsSkipped (text (codes "1" ++ codes "00000000000001" ++ codes "1")) 15
  pub after_first : IsSkipped (text (codes "000000000001" ++ codes "000000000001")) 12
  -- ten 0 bits and a 1 are no EOL, and without one it goes on after all bits
  pub after_all : IsSkipped (text (codes "1" ++ codes "00000000001")) 12
  -- it goes on nowhere else
  pub nowhere_else : (x : List Bool) (a b : ℕ) → IsSkipped x a → IsSkipped x b → a ≡ b

-- law: the first line begins after an EOL at the beginning, or at once
pub record FirstLineMeans : Type 0 where
  pub after_eol : (count : ℕ) (rest : List Bool) → 11 ≤ count → IsFirstLine (eol_word count ++ rest) (count + 1)
  pub at_once : IsFirstLine (text (codes "10011")) 0
  pub with_short_eol : IsFirstLine (text (codes "00000000001")) 0
