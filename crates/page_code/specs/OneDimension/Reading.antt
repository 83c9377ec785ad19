-- The results of the parts of a one-dimensional page's reader and writer (ITU-T T.4, 4.1).
use Rattle.std.specs.Prelude.{ℕ, ◌≡◌, ◌+◌, ◌<◌, ◌≤◌, Bool, List, length, drop, None, Some, Result, Ok, Err, [], ◌∷◌, ◌++◌, ◌⊎◌}
use Rattle.raster.specs.declared.row.Color.{Color}
use Rattle.raster.specs.Pages.{max_rows}
use Rattle.run_tables.specs.declared.fault.CodeFault.{CodeFault}
use Rattle.run_tables.specs.declared.fault.CodeFaultKind.TheVariants.{NoMemory}
use Rattle.run_tables.specs.Fronts.{Walk, spell}
use Rattle.run_tables.specs.Fronts.Look.{stop, refuse}
use Rattle.run_tables.specs.RowLaws.{ReadsAsRow}
use Rattle.run_tables.specs.RowLaws.{IsLongestFront as IsLongestRow}
use Rattle.page_code.specs.declared.one_dim.eol.Eol.{Eol}
use Rattle.page_code.specs.declared.one_dim.eol.Eol.TheVariants.{Present, Absent, OnlyZeros}
use Rattle.page_code.specs.declared.one_dim.Start.{Start}
use Rattle.page_code.specs.declared.one_dim.Start.TheVariants.{Row, End, Refused}
use Rattle.page_code.specs.declared.page.Progress.{Progress}
use Rattle.page_code.specs.OneDimension.Fronts.{zeros_before, CodeBegins, MayBegin, PageItem, PageState, Step, item_word, look}
use Rattle.page_code.specs.OneDimension.Fronts.PageState.{first, row_start, in_row, row_end}
use Rattle.page_code.specs.RowsSoFar.{after_rows}

-- what is found at a place where an EOL may come
abbrev pub SeesEol : List Bool → Eol → Type 0
SeesEol x (Present bits) = (count : ℕ) × (zeros_before x ≡ Some count) × (11 ≤ count) × (bits ≡ count + 1) × (bits ≤ length x)
SeesEol x Absent = CodeBegins x
SeesEol x OnlyZeros = zeros_before x ≡ None

-- what is found after an EOL, after `count` rows: a row's first code, the page's end or a refusal, whatever the rows are
abbrev pub SeesStart : List Bool → ℕ → ℕ → Start → Type 0
SeesStart bits place count (Row at) = (at ≡ place) × CodeBegins (drop place bits) × (count < max_rows)
SeesStart bits place count (End used) =
    (more : ℕ) × (used ≡ place + more) × ((width : ℕ) (rows : List (List Color)) → length rows ≡ count
    → look width (row_start rows) (drop place bits) ≡ stop rows more)
SeesStart bits place count (Refused fault) =
    (fault.place ≡ place) × ((width : ℕ) (rows : List (List Color)) → length rows ≡ count
    → look width (row_start rows) (drop place bits) ≡ refuse fault.kind)

-- the whole rows before a state
abbrev pub rows_of : PageState → List (List Color)
rows_of first = []
rows_of (row_start rows) = rows
rows_of (in_row rows pixels color makeup) = rows
rows_of (row_end rows) = rows

-- whole items lead from a place after these rows to the state at another place
abbrev pub Passes : List Bool → ℕ → List (List Color) → ℕ → PageState → ℕ → Type 0
Passes bits width rows place state at =
    (items : List PageItem) × (rest : List Bool) × Walk (Step width) (after_rows rows) items state
    × (drop place bits ≡ spell item_word items ++ rest) × (at ≡ place + length (spell item_word items)) × (at ≤ length bits)

-- what is found after these rows: the next row's first code, the page's end or a refusal
abbrev pub FindsRow : List Bool → ℕ → List (List Color) → ℕ → Start → Type 0
FindsRow bits width rows place (Row at) = (state : PageState) × MayBegin state rows × CodeBegins (drop at bits)
    × Passes bits width rows place state at
FindsRow bits width rows place (End used) =
    (state : PageState) × (at : ℕ) × (more : ℕ) × Passes bits width rows place state at × (rows_of state ≡ rows)
    × (look width state (drop at bits) ≡ stop rows more) × (used ≡ at + more)
FindsRow bits width rows place (Refused fault) =
    (state : PageState) × Passes bits width rows place state fault.place × (rows_of state ≡ rows)
    × (look width state (drop fault.place bits) ≡ refuse fault.kind)

-- a row was read, or it is refused, or memory was refused
abbrev pub ReadsRowOfPage : List Bool → ℕ → Progress → Progress → Result (Unit {0}) CodeFault → Type 0
ReadsRowOfPage bits place old new (Ok done) =
    (row : List Color) × (used : ℕ) × ReadsAsRow old.page.width (drop place bits) row used
    × (new ≡ record { page = record old.page { rows = old.page.rows ++ row ∷ [] }; place = place + used })
ReadsRowOfPage bits place old new (Err fault) =
    (fault.kind ≡ NoMemory) ⊎ ((new ≡ old) × (front : ℕ) × (fault.place ≡ place + front)
    × IsLongestRow old.page.width (drop place bits) front fault.kind)
