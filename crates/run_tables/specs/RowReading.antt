-- The results of reading a one-dimensional row, and the reader after it (ITU-T T.4, 4.1.1).
use Rattle.std.specs.Prelude.{ℕ, ◌≡◌, ◌≢◌, ◌+◌, ◌<◌, ◌≤◌, ◌++◌, ◌∷◌, [], List, length, replicate, None, Some, Option, Result, Ok, Err, sum, ◌⊎◌}
use Rattle.raster.specs.declared.row.Color.{Color}
use Rattle.raster.specs.declared.row.Color.TheVariants.{White}
use Rattle.raster.specs.declared.painting.Painter.{Painter}
use Rattle.raster.specs.Pages.{PagePixels}
use Rattle.raster.specs.Painting.{Paints}
use Rattle.raster.specs.Runs.{colored}
use Rattle.raster.specs.Pixels.{other}
use Rattle.run_tables.specs.declared.fault.CodeFault.{CodeFault}
use Rattle.run_tables.specs.declared.fault.CodeFaultKind.TheVariants.{NoMemory}
use Rattle.run_tables.specs.Kinds.{IsRefusedRow}
use Rattle.run_tables.specs.Reading.{Reading, rest_of}
use Rattle.run_tables.specs.RowFronts.{run_ended, reading, row_begin}
use Rattle.run_tables.specs.RowFronts.RowState.{inside, whole}
use Rattle.run_tables.specs.RowLaws.{ReadsAsRow, IsLongestFront}

-- a row was read: the bits that were left begin with its code words, and the reader went past them
pub record ReadsRow (width : ℕ) (old new : Reading) (row : List Color) : Type 0 where
  pub used : ℕ
  pub reads : ReadsAsRow width (rest_of old) row used
  pub after : new ≡ record old { place = old.place + used }

-- A refusal other than NoMemory: the bits that are left begin with no row's code words, the place is after their longest front, and the
-- row goes no further after these whole codes, for the reason that the bits from there give.
pub record RefusesRow (width : ℕ) (old : Reading) (fault : CodeFault) : Type 0 where
  pub front : ℕ
  pub place : fault.place ≡ old.place + front
  pub longest : IsLongestFront width (rest_of old) front fault.kind
  pub refused : IsRefusedRow width (rest_of old) front fault.kind
  pub none : (row : List Color) (used : ℕ) → ¬ ReadsAsRow width (rest_of old) row used

-- one run of a row was read, at most `room` pixels, and reading the row from before it is reading on after it; or the row is refused
-- there
abbrev pub RunWithin : Color → ℕ → Reading → Reading → Result ℕ CodeFault → Type 0
RunWithin color room old new (Ok run) =
    (run ≤ room) × (new.bits ≡ old.bits) × (old.place < new.place) × (new.place ≤ length new.bits) × ((pixels : List Color)
    → reading (length pixels + room) (inside pixels color None) old.place (rest_of old) ≡ reading (length pixels + room) (run_ended
    whole inside (length pixels + room) (pixels ++ replicate run color) (other color)) new.place (rest_of new))
RunWithin color room old new (Err fault) =
    (pixels : List Color) → reading (length pixels + room) (inside pixels color None) old.place (rest_of old) ≡ Err (
      fault.place,
      fault.kind,
    )

-- some runs of a row were read, `room` pixels are left, and a run of this color is next: reading the row is reading on after them
pub record IsInRow (width : ℕ) (old new : Reading) (runs : List ℕ) (color : Color) (room : ℕ) : Type 0 where
  pub bits : new.bits ≡ old.bits
  pub within : new.place ≤ length new.bits
  pub left : length (colored White runs) + room ≡ width
  pub follows : (tail : List ℕ) → colored White (runs ++ tail) ≡ colored White runs ++ colored color tail
  pub reads : reading width row_begin old.place (rest_of old) ≡ reading width (run_ended whole inside width (colored White runs) color)
      new.place (rest_of new)

-- the runs of a row were read; or NoMemory; or the refusal of reading the row
abbrev pub RowRuns : ℕ → Reading → Reading → List ℕ → Result (Unit {0}) CodeFault → Type 0
RowRuns width old new runs (Ok done) = (new.bits ≡ old.bits) × (new.place ≤ length new.bits) × (sum runs ≡ width)
    × (reading width row_begin old.place (rest_of old) ≡ Ok (colored White runs, new.place))
RowRuns width old new runs (Err fault) = (fault.kind ≡ NoMemory) ⊎ (reading width row_begin old.place (rest_of old) ≡ Err (
  fault.place,
  fault.kind,
))

-- a whole row was read, or the row is refused; NoMemory says nothing of the row
abbrev pub WholeRow : ℕ → Reading → Reading → Result (List Color) CodeFault → Type 0
WholeRow width old new (Ok row) = ReadsRow width old new row
WholeRow width old new (Err fault) = fault.kind ≢ NoMemory → RefusesRow width old fault

-- some runs of a row were read and painted, `room` pixels are left, and a run of this color is next
abbrev pub PaintsRuns : ℕ → Reading → Reading → Painter → Color → ℕ → Type 0
PaintsRuns width old new painter color room = (runs : List ℕ) × Paints runs painter × IsInRow width old new runs color room

-- the runs of a whole row were read and painted
abbrev pub PaintsRow : ℕ → Reading → Reading → Painter → Type 0
PaintsRow width old new painter = (runs : List ℕ) × Paints runs painter × RowRuns width old new runs (Ok tt)

-- a row was read by its runs, or nothing changed
abbrev pub IsQuickRow : ℕ → Reading → Reading → Option (List Color) → Type 0
IsQuickRow width old new None = new ≡ old
IsQuickRow width old new (Some row) = (runs : List ℕ) × RowRuns width old new runs (Ok tt) × (row ≡ colored White runs)

-- a row as wide as a page was read and appended to the page
abbrev pub ReadsRowOnto : PagePixels → PagePixels → Reading → Reading → Type 0
ReadsRowOnto page next old new = (row : List Color) × ReadsRow page.width old new row × (next ≡ record page { rows = page.rows ++ row ∷ [] })

-- a row was read and appended so, and this reader is after it; or the page is as it was
abbrev pub IsQuickRowOnto : PagePixels → PagePixels → Reading → Option Reading → Type 0
IsQuickRowOnto page next old None = next ≡ page
IsQuickRowOnto page next old (Some new) = ReadsRowOnto page next old new
