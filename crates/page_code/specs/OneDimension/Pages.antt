-- A page in the one-dimensional code (ITU-T T.4, 4.1): which bits read as it, and which are written for it.
use Rattle.std.specs.Prelude.{ℕ, ◌≡◌, ◌+◌, ◌<◌, ◌≤◌, ◌⊎◌, Bool, true, false, List, [], ◌∷◌, ◌++◌, length, replicate, All}
use Rattle.std.specs.List.{AllByRecursion}
use Rattle.raster.specs.declared.row.Color.{Color}
use Rattle.raster.specs.declared.row.Color.TheVariants.{White}
use Rattle.raster.specs.Pages.{max_rows}
use Rattle.run_tables.specs.RunWords.{runs_words, SpellsRow}
use Rattle.page_code.specs.OneDimension.OwnRuns.{own_runs}

-- an EOL: `count` 0 bits, 11 or more, of which all but 11 are fill, and a 1 (T.4, 4.1.2 and 4.1.3)
abbrev pub eol_word : ℕ → List Bool
eol_word count = replicate count false ++ true ∷ []

-- the bits begin with an EOL
abbrev pub EolBegins : List Bool → Type 0
EolBegins x = (count : ℕ) × (rest : List Bool) × (11 ≤ count) × (x ≡ eol_word count ++ rest)

-- EOLs, each with its number of 0 bits, one after the other
abbrev pub eol_words : List ℕ → List Bool
eol_words [] = []
eol_words (count ∷ more) = eol_word count ++ eol_words more

-- all EOLs that begin the bits, or the first `most` of them
pub record AreEols (most : ℕ) (x : List Bool) (eols : List ℕ) (rest : List Bool) : Type 0 where
  pub long : AllByRecursion (λ count. 11 ≤ count) eols
  pub few : length eols ≤ most
  pub split : x ≡ eol_words eols ++ rest
  pub no_more : length eols < most → ¬ EolBegins rest

-- the bits are only 0 bits, or there are no bits
abbrev pub AreZeros : List Bool → Type 0
AreZeros x = All (λ bit. bit ≡ false) x

-- no EOL, or one, comes before the first row
abbrev pub IsLead : List Bool → Type 0
IsLead lead = (lead ≡ []) ⊎ ((count : ℕ) × (11 ≤ count) × (lead ≡ eol_word count))

-- rows of the width by their code words, each after one EOL
abbrev pub SpellsLater : ℕ → List (List Color) → List Bool → Type 0
SpellsLater width [] bits = bits ≡ []
SpellsLater width (row ∷ rows) bits =
    (count : ℕ) × (front : List Bool) × (after : List Bool) × (11 ≤ count) × SpellsRow row front × (length row ≡ width)
    × SpellsLater width rows after × (bits ≡ eol_word count ++ (front ++ after))

-- rows of the width by their code words, with one EOL between two
pub record SpellsRows (width : ℕ) (rows : List (List Color)) (bits : List Bool) : Type 0 where
  pub row : List Color
  pub later : List (List Color)
  pub front : List Bool
  pub after : List Bool
  pub rows_are : rows ≡ row ∷ later
  pub spells : SpellsRow row front
  pub wide : length row ≡ width
  pub each : SpellsLater width later after
  pub split : bits ≡ front ++ after

-- the page ends without an EOL, if only 0 bits follow
abbrev pub EndsBare : List Bool → ℕ → Type 0
EndsBare x used = AreZeros x × (used ≡ 0)

-- the page ends with one EOL, if only 0 bits follow it
abbrev pub EndsByOne : List Bool → ℕ → Type 0
EndsByOne x used = (count : ℕ) × (rest : List Bool) × (11 ≤ count) × (x ≡ eol_word count ++ rest) × AreZeros rest
    × (used ≡ length (eol_word count))

-- the page ends with as many EOLs as come, two at least and six at most: RTC, perhaps cut short (T.4, 4.1.4)
abbrev pub EndsByEols : List Bool → ℕ → Type 0
EndsByEols x used = (eols : List ℕ) × (rest : List Bool) × AreEols 6 x eols rest × (2 ≤ length eols) × (used ≡ length (eol_words eols))

-- the end of a page after its last row, with the number of bits that belong to it: two to six EOLs, as many as come; or one EOL, or none,
-- if only 0 bits follow
abbrev pub IsEnd : List Bool → ℕ → Type 0
IsEnd x used = EndsBare x used ⊎ (EndsByOne x used ⊎ EndsByEols x used)

-- The bits read as a T.4 page, with `used` of them used: no EOL or one, the rows with one EOL between two, an end. What follows is
-- ignored.
pub record ReadsAs (width : ℕ) (x : List Bool) (page : List (List Color)) (used : ℕ) : Type 0 where
  pub lead : List Bool
  pub bits : List Bool
  pub rest : List Bool
  pub last : ℕ
  pub few : length page ≤ max_rows
  pub leads : IsLead lead
  pub rows : SpellsRows width page bits
  pub ends : IsEnd rest last
  pub split : x ≡ lead ++ (bits ++ rest)
  pub used_is : used ≡ length lead + length bits + last

-- The code of a page

-- the code of a row: the code words of its own runs
abbrev pub row_words : List Color → List Bool
row_words row = runs_words White (own_runs row)

-- rows, each after an EOL without fill
abbrev pub rows_words : List (List Color) → List Bool
rows_words [] = []
rows_words (row ∷ rows) = eol_word 11 ++ (row_words row ++ rows_words rows)

-- RTC: six EOLs
abbrev pub rtc : List ℕ
rtc = replicate 6 11

-- the prescribed code of a page: EOL, the rows by their own runs with one EOL between two, six EOLs (RTC, T.4, 4.1.4)
abbrev pub page_words : List (List Color) → List Bool
page_words rows = rows_words rows ++ eol_words rtc
