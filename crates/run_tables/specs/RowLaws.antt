-- Laws of one-dimensional rows and their codes (ITU-T T.4, 4.1.1).
use Rattle.std.specs.Prelude.{ℕ, ◌≡◌, ◌<◌, ◌↔◌, Bool, List, ◌++◌, length, Ok, Err}
use Rattle.raster.specs.declared.row.Color.{Color}
use Rattle.raster.specs.declared.row.Color.TheVariants.{White}
use Rattle.raster.specs.Pixels.{IsWidth}
use Rattle.raster.specs.Runs.{AreOwnRuns}
use Rattle.run_tables.specs.declared.fault.CodeFaultKind.{CodeFaultKind}
use Rattle.run_tables.specs.Codes.{InTable, run_at, code_word}
use Rattle.run_tables.specs.RunWords.{runs_words, SpellsRow}
use Rattle.run_tables.specs.Fronts.{IsFront, Nested}
use Rattle.run_tables.specs.Longest.{IsLongest}
use Rattle.run_tables.specs.RowFronts.{RunItem, item_word, Step, look, row_begin, read_row}

-- the first `used` bits spell the row, which has the width; whatever follows them is ignored
pub record ReadsAsRow (width : ℕ) (x : List Bool) (row : List Color) (used : ℕ) : Type 0 where
  pub front : List Bool
  pub rest : List Bool
  pub spells : SpellsRow row front
  pub wide : length row ≡ width
  pub split : x ≡ front ++ rest
  pub used_is : used ≡ length front

-- a front of the bits: a beginning that is whole run codes of a row, each of which may come after the ones before it
abbrev pub IsRowFront : ℕ → List Bool → List RunItem → Type 0
IsRowFront width x codes = IsFront item_word (Step width) row_begin x codes

-- no front of the bits is longer, and this kind of refusal is seen after it
abbrev pub IsLongestFront : ℕ → List Bool → ℕ → CodeFaultKind → Type 0
IsLongestFront width x place kind = IsLongest item_word (Step width) (look width) row_begin x place kind

-- law: a row is read exactly if the bits begin with code words that spell it
abbrev pub ReadsExactly : Type 0
ReadsExactly = (width : ℕ) (x : List Bool) (row : List Color) (used : ℕ) → IsWidth width
    → (read_row width x ≡ Ok (row, used)) ↔ ReadsAsRow width x row used

-- law: bits that are refused begin with no row's code words
abbrev pub RefusesNoRow : Type 0
RefusesNoRow = (width : ℕ) (x : List Bool) (place : ℕ) (kind : CodeFaultKind) (row : List Color) (used : ℕ) → IsWidth width
    → read_row width x ≡ Err (place, kind) → ¬ ReadsAsRow width x row used

-- law: the place of a refusal is the length of the longest front, and its kind is what is seen in the bits after it
abbrev pub RefusesAtLongest : Type 0
RefusesAtLongest = (width : ℕ) (x : List Bool) (place : ℕ) (kind : CodeFaultKind) → read_row width x ≡ Err (place, kind)
    → IsLongestFront width x place kind

-- law: of two fronts of the same bits, one begins the other
abbrev pub OneFront : Type 0
OneFront = (width : ℕ) (x : List Bool) (codes others : List RunItem) → IsRowFront width x codes → IsRowFront width x others
    → Nested codes others

-- law: the code words of a row's own runs, followed by any bits, read as the row
abbrev pub RoundTrip : Type 0
RoundTrip = (row : List Color) (runs : List ℕ) (rest : List Bool) → IsWidth (length row) → AreOwnRuns row runs
    → read_row (length row) (runs_words White runs ++ rest) ≡ Ok (row, length (runs_words White runs))

-- law of the tables: a run and a code word are in the table exactly if they are at one of the 104 places of their color
abbrev pub TableWords : Type 0
TableWords = (color : Color) (run : ℕ) (bits : List Bool)
    → InTable color run bits ↔ ((place : ℕ) × (place < 104) × (run ≡ run_at place) × (bits ≡ code_word color (run_at place)))
