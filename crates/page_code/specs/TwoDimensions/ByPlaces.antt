-- The prescribed modes once more, by the places of a0, a1, a2, b1 and b2; and the mode codes by length and value (ITU-T T.6, 2.2).
use Rattle.std.specs.Prelude.{ℕ, ◌≡◌, ◌+◌, ◌-◌, ◌<◌, ◌≤◌, ◌⊎◌, List, length}
use Rattle.raster.specs.declared.row.Color.{Color}
use Rattle.run_tables.specs.Numbers.{number_text}
use Rattle.page_code.specs.declared.t6.mode.Shift.{Shift}
use Rattle.page_code.specs.declared.t6.mode.Shift.TheVariants.{V0, VR1, VR2, VR3, VL1, VL2, VL3}
use Rattle.page_code.specs.TwoDimensions.Code.{a1_of, a2_of, prescribed}
use Rattle.page_code.specs.TwoDimensions.Modes.{Mode, vertical_word, pass_word, horizontal_word, extension_word}
use Rattle.page_code.specs.TwoDimensions.Modes.Mode.{pass, vertical, horizontal}
use Rattle.page_code.specs.TwoDimensions.Positions.{CodingLine, b1_of, b2_of}

-- the changing elements that decide a mode: a0, a1, a2, b1 and b2, each by its place
pub record Elements : Type 0 where
  pub a0 : ℕ
  pub a1 : ℕ
  pub a2 : ℕ
  pub b1 : ℕ
  pub b2 : ℕ

-- how far a1 is from b1 in each vertical mode, to the right or to the left
abbrev pub IsShift : Shift → ℕ → ℕ → Type 0
IsShift V0 b1 a1 = a1 ≡ b1
IsShift VR1 b1 a1 = a1 ≡ b1 + 1
IsShift VR2 b1 a1 = a1 ≡ b1 + 2
IsShift VR3 b1 a1 = a1 ≡ b1 + 3
IsShift VL1 b1 a1 = a1 + 1 ≡ b1
IsShift VL2 b1 a1 = a1 + 2 ≡ b1
IsShift VL3 b1 a1 = a1 + 3 ≡ b1

-- The mode for the elements: pass mode if b2 is to the left of a1; else the vertical mode of a1's distance from b1, if that is at most
-- three; else horizontal mode with the runs from a0 to a1 and from a1 to a2.
abbrev pub IsModeFor : Elements → Mode → Type 0
IsModeFor e pass = e.b2 < e.a1
IsModeFor e (vertical shift) = (e.a1 ≤ e.b2) × IsShift shift e.b1 e.a1
IsModeFor e (horizontal a0a1 a1a2) =
    (e.a1 ≤ e.b2) × ((e.b1 + 3 < e.a1) ⊎ (e.a1 + 3 < e.b1)) × (a0a1 ≡ e.a1 - e.a0) × (a1a2 ≡ e.a2 - e.a1)

-- the elements of a row after its reference line, with a0 at the end of the line
abbrev pub elements_of : List Color → List Color → CodingLine → Elements
elements_of reference row line = record {
  a0 = length line.pixels;
  a1 = a1_of row line;
  a2 = a2_of row line;
  b1 = b1_of reference line;
  b2 = b2_of reference line;
}

-- law: each prescribed mode is the one for its changing elements
abbrev pub PrescribesByPlaces : Type 0
PrescribesByPlaces =
    (reference row : List Color) (line : CodingLine) → IsModeFor (elements_of reference row line) (prescribed reference row line)

-- law: each mode code by the number of its bits and by its value
pub record ModesByValue : Type 0 where
  pub v0 : vertical_word V0 ≡ number_text 1 1
  pub horizontal_flag : horizontal_word ≡ number_text 3 1
  pub pass_code : pass_word ≡ number_text 4 1
  -- to the right 3, to the left 2
  pub right_1 : vertical_word VR1 ≡ number_text 3 3
  pub left_1 : vertical_word VL1 ≡ number_text 3 2
  pub right_2 : vertical_word VR2 ≡ number_text 6 3
  pub left_2 : vertical_word VL2 ≡ number_text 6 2
  pub right_3 : vertical_word VR3 ≡ number_text 7 3
  pub left_3 : vertical_word VL3 ≡ number_text 7 2
  pub extension : extension_word ≡ number_text 7 1
