-- The modes of the two-dimensional code, and the pages that bits spell by them (ITU-T T.6, 2.2.2 and 2.4).
use Rattle.std.specs.Prelude.{ℕ, ◌≡◌, ◌+◌, ◌<◌, ◌≤◌, Bool, true, List, [], ◌∷◌, ◌++◌, length, replicate, codes}
use Rattle.raster.specs.declared.row.Color.{Color}
use Rattle.raster.specs.Pixels.{other}
use Rattle.raster.specs.Pages.{max_rows}
use Rattle.run_tables.specs.Codes.{text, run_words}
use Rattle.page_code.specs.declared.t6.mode.Shift.{Shift}
use Rattle.page_code.specs.declared.t6.mode.Shift.TheVariants.{V0, VR1, VR2, VR3, VL1, VL2, VL3}
use Rattle.page_code.specs.TwoDimensions.Positions.{CodingLine, line_begin, white_line, right_of_a0, filled_to, IsB1, IsB2}

-- how far a1 is to the right of b1 in a vertical mode, in pixels
abbrev pub to_right : Shift → ℕ
to_right V0 = 0
to_right VR1 = 1
to_right VR2 = 2
to_right VR3 = 3
to_right VL1 = 0
to_right VL2 = 0
to_right VL3 = 0

-- how far a1 is to the left of b1 in a vertical mode, in pixels
abbrev pub to_left : Shift → ℕ
to_left V0 = 0
to_left VR1 = 0
to_left VR2 = 0
to_left VR3 = 0
to_left VL1 = 1
to_left VL2 = 2
to_left VL3 = 3

-- the code word of a vertical mode (T.6, table 1)
abbrev pub vertical_word : Shift → List Bool
vertical_word V0 = text (codes "1")
vertical_word VR1 = text (codes "011")
vertical_word VR2 = text (codes "000011")
vertical_word VR3 = text (codes "0000011")
vertical_word VL1 = text (codes "010")
vertical_word VL2 = text (codes "000010")
vertical_word VL3 = text (codes "0000010")

-- the code word of pass mode, 0001
abbrev pub pass_word : List Bool
pass_word = text (codes "0001")

-- the flag of horizontal mode, 001, followed by the code words of its two runs
abbrev pub horizontal_word : List Bool
horizontal_word = text (codes "001")

-- the beginning of an extension, 0000001
abbrev pub extension_word : List Bool
extension_word = text (codes "0000001")

-- EOFB, the end of the facsimile block: two codes 000000000001 (T.6, 2.4)
abbrev pub eofb : List Bool
eofb = text (codes "000000000001000000000001")

-- the modes, pass, vertical and horizontal; horizontal mode has the lengths of the runs a0a1 and a1a2 (T.6, 2.2.2)
pub data Mode : Type 0 where
  pass : Mode
  vertical : Shift → Mode
  horizontal : ℕ → ℕ → Mode

-- the code words of a mode, when a0 has this color
abbrev pub mode_words : Color → Mode → List Bool
mode_words color pass = pass_word
mode_words color (vertical shift) = vertical_word shift
mode_words color (horizontal a0a1 a1a2) = horizontal_word ++ (run_words color a0a1 ++ run_words (other color) a1a2)

-- the line after two runs, the first in a0's color
abbrev pub runs_added : CodingLine → ℕ → ℕ → CodingLine
runs_added line a0a1 a1a2 = record {
  pixels = line.pixels ++ replicate a0a1 line.color ++ replicate a1a2 (other line.color);
  begun = true;
  color = line.color;
}

-- The step of a mode, which moves a0 to the right and not past the width (T.6, 2.2.2): pass mode puts a0 under b2, a vertical mode puts
-- it on a1, and horizontal mode on a2.
abbrev pub IsStep : ℕ → List Color → CodingLine → Mode → CodingLine → Type 0
IsStep width reference line pass next =
    (b1 : ℕ) × (b2 : ℕ) × IsB1 reference line b1 × IsB2 reference b1 b2 × (right_of_a0 line ≤ b2) × (b2 ≤ width) ×
    (next ≡ record { pixels = filled_to line b2; begun = true; color = line.color })
IsStep width reference line (vertical shift) next =
    (b1 : ℕ) × (a1 : ℕ) × IsB1 reference line b1 × (a1 + to_left shift ≡ b1 + to_right shift) × (right_of_a0 line ≤ a1) × (a1 ≤ width) ×
    (next ≡ record { pixels = filled_to line a1; begun = true; color = other line.color })
IsStep width reference line (horizontal a0a1 a1a2) next =
    (0 < a0a1 + a1a2) × (length line.pixels + a0a1 + a1a2 ≤ width) × (next ≡ runs_added line a0a1 a1a2)

-- the bits are the code words of modes that lead from the line to the whole row
abbrev pub SpellsLine : ℕ → List Color → CodingLine → List Mode → List Color → List Bool → Type 0
SpellsLine width reference line [] row bits = (line.pixels ≡ row) × (length row ≡ width) × (bits ≡ [])
SpellsLine width reference line (mode ∷ modes) row bits =
    (next : CodingLine) × (rest : List Bool) × IsStep width reference line mode next × (bits ≡ mode_words line.color mode ++ rest)
    × SpellsLine width reference next modes row rest

-- bits spell a row after its reference line: steps of modes lead from the row's beginning to its end and give its pixels
abbrev pub SpellsRow : ℕ → List Color → List Color → List Bool → Type 0
SpellsRow width reference row bits = (modes : List Mode) × SpellsLine width reference line_begin modes row bits

-- the bits spell the rows, each after the one before as its reference line
abbrev pub SpellsRows : ℕ → List Color → List (List Color) → List Bool → Type 0
SpellsRows width reference [] bits = bits ≡ []
SpellsRows width reference (row ∷ rows) bits =
    (front : List Bool) × (rest : List Bool) × SpellsRow width reference row front × SpellsRows width row rows rest × (bits ≡ front ++ rest)

-- The bits read as a T.6 page of 1 to 20,000 rows, with `used` bits used: they spell the rows, the first after an imaginary white line,
-- and end with EOFB. What follows is ignored.
pub record ReadsAsPage (width : ℕ) (x : List Bool) (rows : List (List Color)) (used : ℕ) : Type 0 where
  pub some : 0 < length rows
  pub few : length rows ≤ max_rows
  pub front : List Bool
  pub rest : List Bool
  pub spells : SpellsRows width (white_line width) rows front
  pub split : x ≡ front ++ (eofb ++ rest)
  pub used_is : used ≡ length front + length eofb
