-- The prescribed modes of a row, and the code of a page by them (ITU-T T.6, 2.2.3).
use Rattle.std.specs.Prelude.{ℕ, zero, suc, ◌+◌, ◌-◌, Bool, true, List, [], ◌∷◌, ◌++◌, length, take, if◌then◌else◌, nat_eq, nat_lt, Option}
use Rattle.std.specs.Prelude.{Some, None}
use Rattle.raster.specs.declared.row.Color.{Color}
use Rattle.raster.specs.Pixels.{other}
use Rattle.page_code.specs.TwoDimensions.Positions.{CodingLine, line_begin, white_line, right_of_a0, change_from, b1_of, b2_of}
use Rattle.page_code.specs.declared.t6.mode.Shift.{Shift}
use Rattle.page_code.specs.TwoDimensions.Modes.{to_right, to_left, Mode, mode_words, eofb}
use Rattle.page_code.specs.declared.t6.mode.Shift.TheVariants.{V0, VR1, VR2, VR3, VL1, VL2, VL3}
use Rattle.page_code.specs.TwoDimensions.Modes.Mode.{pass, vertical, horizontal}

-- the vertical modes
abbrev pub verticals : List Shift
verticals = V0 ∷ VR1 ∷ VR2 ∷ VR3 ∷ VL1 ∷ VL2 ∷ VL3 ∷ []

-- the vertical mode of the list that leads from b1 to a1, if there is one
abbrev pub vertical_to : ℕ → ℕ → List Shift → Option Shift
vertical_to b1 a1 [] = None
vertical_to b1 a1 (shift ∷ others) = if nat_eq (a1 + to_left shift) (b1 + to_right shift) then Some shift else vertical_to b1 a1 others

-- a vertical mode if there is one, else horizontal mode
abbrev pub vertical_or : Option Shift → ℕ → ℕ → Mode
vertical_or (Some shift) a0a1 a1a2 = vertical shift
vertical_or None a0a1 a1a2 = horizontal a0a1 a1a2

-- a1: the next changing element of the row to the right of a0
abbrev pub a1_of : List Color → CodingLine → ℕ
a1_of row line = change_from row (right_of_a0 line)

-- a2: the next changing element of the row to the right of a1
abbrev pub a2_of : List Color → CodingLine → ℕ
a2_of row line = change_from row (a1_of row line + 1)

-- the prescribed mode (T.6, 2.2.3): pass mode if b2 is to the left of a1; else a vertical mode if a1 is at most 3 pixels from b1; else
-- horizontal mode
abbrev pub prescribed : List Color → List Color → CodingLine → Mode
prescribed reference row line =
    if nat_lt (b2_of reference line) (a1_of row line) then pass else
    vertical_or (vertical_to (b1_of reference line) (a1_of row line) verticals) (a1_of row line - length line.pixels) (a2_of row line -
    a1_of row line)

-- where the mode puts a0 in the row: under b2, on a1, or on a2
abbrev pub moved : List Color → List Color → CodingLine → Mode → CodingLine
moved reference row line pass = record { pixels = take (b2_of reference line) row; begun = true; color = line.color }
moved reference row line (vertical shift) = record { pixels = take (a1_of row line) row; begun = true; color = other line.color }
moved reference row line (horizontal a0a1 a1a2) = record { pixels = take (a2_of row line) row; begun = true; color = line.color }

-- the prescribed modes of a row from a0 on to its end, at most `most` of them
abbrev pub line_code : ℕ → List Color → List Color → CodingLine → List Bool
line_code zero reference row line = []
line_code (suc most) reference row line =
    if nat_eq (length line.pixels) (length row) then [] else
    (mode_words line.color (prescribed reference row line) ++ line_code most reference row (moved reference row line (prescribed reference
    row line)))

-- the code of a row after its reference line
abbrev pub row_code : List Color → List Color → List Bool
row_code reference row = line_code (length row + 1) reference row line_begin

-- the codes of rows, each after the one before
abbrev pub rows_code : List Color → List (List Color) → List Bool
rows_code reference [] = []
rows_code reference (row ∷ rows) = row_code reference row ++ rows_code row rows

-- the prescribed code of a page: its rows by their prescribed modes, the first after an imaginary white line, and EOFB
unfoldable pub page_code : ℕ → List (List Color) → List Bool
page_code width rows = rows_code (white_line width) rows ++ eofb
