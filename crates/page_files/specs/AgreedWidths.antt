-- The width on which lines of a page of T.4 agree. The first line may be damaged, so that it says no width or a wrong one; so may any other
-- one. But a bit that is wrong by chance doesn't make two lines that follow one another say the same width, of the few that pages have.
use Rattle.std.specs.Prelude.{ℕ, ◌≡◌, ◌+◌, Bool, List, [], ◌∷◌, Option, Some, None, cond, drop, find, nat_eq, nat_le, take}
use Rattle.std.specs.Prelude.{if◌then◌else◌}
use Rattle.raster.specs.declared.packed.Order.{Order}
use Rattle.raster.specs.Packed.{bits_of}
use Rattle.page_files.specs.OwnWidths.{RowSays}
use Rattle.page_files.specs.PageEnds.{gaps}

-- The bit at which the next line begins, if these gaps are the 0 bits before each 1 from a bit on: after the first EOL, which has eleven or
-- more (ITU-T T.4, 4.1.2).
abbrev pub line_after : ℕ → List ℕ → Option ℕ
line_after from [] = None
line_after from (gap ∷ later) = if nat_le 11 gap then Some (from + (gap + 1)) else line_after (from + (gap + 1)) later

-- the width that a line says, if it is one of these
abbrev pub usual_of : Option ℕ → List ℕ → Option ℕ
usual_of None widths = None
usual_of (Some width) widths = find (nat_eq width) widths

-- the width on which two lines agree, if both say it
abbrev pub agree : Option ℕ → Option ℕ → Option ℕ
agree (Some one) (Some other) = cond (nat_eq one other) (Some other) None
agree before said = None

-- What the lines say up to the one that begins at a bit, the last of them first. A line begins after each EOL. What a line says counts only
-- if it is one of these widths.
abbrev pub AreLinesTo : List ℕ → List Bool → List (Option ℕ) → ℕ → Type 0
AreLinesTo widths bits [] place = place ≡ 0
AreLinesTo widths bits (said ∷ before) place = (last : ℕ) × (own : Option ℕ) × AreLinesTo widths bits before last
    × (line_after last (gaps 0 (drop last bits)) ≡ Some place) × RowSays bits place own × (said ≡ usual_of own widths)

-- what the last of these lines says
abbrev pub last_said : List (Option ℕ) → Option ℕ
last_said [] = None
last_said (said ∷ before) = said

-- no two of these lines agree that follow one another
abbrev pub NoneAgree : List (Option ℕ) → Type 0
NoneAgree [] = Unit {0}
NoneAgree (said ∷ before) = (agree (last_said before) said ≡ None) × NoneAgree before

-- The first of these widths on which two lines agree that follow one another: no two before them do. None if no two lines do, up to the
-- last one.
abbrev pub LinesAgree : List ℕ → List Bool → Option ℕ → Type 0
LinesAgree widths bits (Some width) = (said : Option ℕ) × (lines : List (Option ℕ)) × (place : ℕ) × AreLinesTo widths bits (said ∷ lines) place
    × NoneAgree lines × (agree (last_said lines) said ≡ Some width)
LinesAgree widths bits None = (lines : List (Option ℕ)) × (place : ℕ) × AreLinesTo widths bits lines place × NoneAgree lines
    × (line_after place (gaps 0 (drop place bits)) ≡ None)

-- how many octets lines are looked for in: many rows of any page, but few of what is no page
abbrev pub looked_at : ℕ
looked_at = 16384

-- what lines of T.4 at the beginning of octets agree on, in this order of bits and of these widths
abbrev pub AgreesOn : List ℕ → Order → List ℕ → Option ℕ → Type 0
AgreesOn widths order octets agreed = LinesAgree widths (bits_of order (take looked_at octets)) agreed
