-- The row after the whole rows of a T.6 page, as far as it was read (ITU-T T.6, 2.2).
use Rattle.std.specs.Prelude.{ℕ, ◌≡◌, ◌<◌, ◌≤◌, Bool, List, length}
use Rattle.page_code.specs.declared.t6.read.one_row.OpenLines.{OpenLines}
use Rattle.page_code.specs.RowsSoFar.{LeadsTo}
use Rattle.page_code.specs.TwoDimensions.Fronts.{PageSoFar, mode_ended, page_item_word}
use Rattle.page_code.specs.TwoDimensions.Positions.{line_begin}
use Rattle.page_code.specs.TwoDimensions.Reading.{RowStep}

-- the first ones of the bits after the whole rows, as many as were used, are whole modes of the next row, and lead to its coding line
pub record AreModesRead (bits : List Bool) (begun : OpenLines) : Type 0 where
  pub fits : length begun.lines.line.pixels ≤ length begun.lines.reference
  pub leads : (page : PageSoFar) → page.reference ≡ begun.lines.reference
      → LeadsTo page_item_word (RowStep (length begun.lines.reference)) (mode_ended (length begun.lines.reference) page line_begin)
      (mode_ended (length begun.lines.reference) page begun.lines.line) bits begun.used

-- if bits were used, they are modes that were read
abbrev pub AreOpenLines : List Bool → OpenLines → Type 0
AreOpenLines bits begun = 0 < begun.used → AreModesRead bits begun
