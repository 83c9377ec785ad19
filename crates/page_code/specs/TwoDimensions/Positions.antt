-- The changing elements a0, b1 and b2 (ITU-T T.6, 2.2.1).
use Rattle.std.specs.Prelude.{ℕ, zero, suc, ◌≡◌, ◌+◌, ◌-◌, ◌<◌, ◌≤◌, min, Bool, true, false, ◌&&◌, not, List, [], ◌++◌, length, replicate}
use Rattle.std.specs.Prelude.{if◌then◌else◌}
use Rattle.raster.specs.declared.row.Color.{Color}
use Rattle.raster.specs.declared.row.Color.TheVariants.{White, Black}
use Rattle.raster.specs.Pixels.{other}
use Rattle.page_code.specs.declared.t6.a0.A0.{A0}
use Rattle.raster.specs.Changes.{color_at, color_before, IsChanging, IsNextChange}

-- the reference line of a page's first row: an imaginary white line
abbrev pub white_line : ℕ → List Color
white_line width = replicate width White

-- a coding line up to a0: its pixels before a0, whether a0 is on the line yet, and a0's color (T.6, 2.2.1)
pub record CodingLine : Type 0 where
  pub pixels : List Color
  pub begun : Bool
  pub color : Color

-- a line begins with a0 on an imaginary white changing element just before its first pixel
abbrev pub line_begin : CodingLine
line_begin = record { pixels = []; begun = false; color = White }

-- the least place to the right of a0
abbrev pub right_of_a0 : CodingLine → ℕ
right_of_a0 line = length line.pixels + (if line.begun then 1 else 0)

-- a0 of a coding line
abbrev pub a0_of : CodingLine → A0
a0_of line = record { place = length line.pixels; begun = line.begun; color = line.color }

-- the least place to the right of an a0
abbrev pub right_of : A0 → ℕ
right_of a0 = a0.place + (if a0.begun then 1 else 0)

-- the line up to a place, with a0's color from a0 on
abbrev pub filled_to : CodingLine → ℕ → List Color
filled_to line place = line.pixels ++ replicate (place - length line.pixels) line.color

-- a changing element of this color
abbrev pub IsChangingTo : List Color → Color → ℕ → Type 0
IsChangingTo row color place = IsChanging row place × (color_at row place ≡ color)

-- the first changing element of this color at or after a place, or the row's end if there is none
pub record IsFirstTo (row : List Color) (color : Color) (from place : ℕ) : Type 0 where
  pub bound : place ≤ length row
  pub changing : place < length row → (from ≤ place) × IsChangingTo row color place
  pub least : (k : ℕ) → from ≤ k → k < place → ¬ IsChangingTo row color k

-- b1: the first changing element of the reference line to the right of a0 and of the other color than a0's, or the line's end if there is
-- none (T.6, 2.2.1)
abbrev pub IsB1 : List Color → CodingLine → ℕ → Type 0
IsB1 reference line b1 = IsFirstTo reference (other line.color) (right_of_a0 line) b1

-- b2: the next changing element of the reference line to the right of b1, or the line's end if there is none (T.6, 2.2.1)
abbrev pub IsB2 : List Color → ℕ → ℕ → Type 0
IsB2 reference b1 b2 = IsNextChange reference (b1 + 1) b2

-- Their search

-- the first place at or after `at` that passes the test, among a number of places
abbrev pub first_place : (ℕ → Bool) → ℕ → ℕ → ℕ
first_place test zero at = at
first_place test (suc count) at = if test at then at else first_place test count (at + 1)

-- whether two colors are the same
abbrev pub same_color : Color → Color → Bool
same_color White White = true
same_color White Black = false
same_color Black White = false
same_color Black Black = true

-- whether the pixel differs from the one before it
abbrev pub changes : List Color → ℕ → Bool
changes row place = not (same_color (color_at row place) (color_before row place))

-- whether the pixel differs from the one before it and has this color
abbrev pub changes_to : List Color → Color → ℕ → Bool
changes_to row color place = same_color (color_at row place) color && changes row place

-- the next changing element of a row at or after a place, or the row's end
unfoldable pub change_from : List Color → ℕ → ℕ
change_from row from = min (length row) (first_place (changes row) (length row - from) from)

-- b1 of a coding line, by search
unfoldable pub b1_of : List Color → CodingLine → ℕ
b1_of reference line = min (length reference) (first_place (changes_to reference (other line.color)) (length reference - right_of_a0 line)
    (right_of_a0 line))

-- b2 of a coding line, by search
abbrev pub b2_of : List Color → CodingLine → ℕ
b2_of reference line = change_from reference (b1_of reference line + 1)
