-- The whole rows that bits spell so far, one after the other from the beginning, and how far a reader of a page is.
use Rattle.std.specs.Prelude.{ℕ, ◌≡◌, ◌<◌, ◌≤◌, Bool, List, [], ◌∷◌, ◌++◌, length, Result, Ok, Err, ◌⊎◌}
use Rattle.raster.specs.declared.row.Color.{Color}
use Rattle.raster.specs.Pages.{max_rows}
use Rattle.run_tables.specs.declared.fault.CodeFault.{CodeFault}
use Rattle.run_tables.specs.declared.fault.CodeFaultKind.TheVariants.{NoMemory}
use Rattle.run_tables.specs.Fronts.{Walk, spell}
use Rattle.raster.specs.declared.coding.Coding.{Coding}
use Rattle.raster.specs.declared.coding.Coding.TheVariants.{OneDim, T6}
use Rattle.page_code.specs.declared.page.Progress.{Progress}
use Rattle.page_code.specs.Codings.{read_rows}
use Rattle.page_code.specs.OneDimension.Pages.{IsLead}
use Rattle.page_code.specs.OneDimension.Pages.{SpellsRows as SpellsOneDim}
use Rattle.page_code.specs.OneDimension.Fronts.{PageState as OneDimState, item_word as one_dim_word, Step as OneDimStep}
use Rattle.page_code.specs.OneDimension.Fronts.PageState.{first, row_end}
use Rattle.page_code.specs.TwoDimensions.Positions.{white_line}
use Rattle.page_code.specs.TwoDimensions.Modes.{SpellsRows as SpellsT6}
use Rattle.page_code.specs.TwoDimensions.Fronts.{PageState as T6State, page_begin, page_item_word, PageStep}
use Rattle.page_code.specs.TwoDimensions.Fronts.PageState.{between}
use Rattle.page_code.specs.TwoDimensions.Writing.{reference_at}

-- the bits begin with the code words of these rows of the width: in one dimension after no EOL or one, with one EOL between two; in T.6
-- each after the one before, the first after an imaginary white line
unfoldable pub BeginWith : Coding → ℕ → List Bool → List (List Color) → Type 0
BeginWith OneDim width bits rows = (lead : List Bool) × (front : List Bool) × (rest : List Bool) × IsLead lead
    × SpellsOneDim width rows front × (bits ≡ lead ++ (front ++ rest))
BeginWith T6 width bits rows = (front : List Bool) × (rest : List Bool) × SpellsT6 width (white_line width) rows front
    × (bits ≡ front ++ rest)

-- The number of whole rows that the bits spell from the beginning, one after the other: so many rows begin them, and no more than these,
-- of at most 20,000.
pub record AreRowsSoFar (coding : Coding) (width : ℕ) (bits : List Bool) (count : ℕ) : Type 0 where
  pub few : count ≤ max_rows
  pub there : 0 < count → (rows : List (List Color)) × (length rows ≡ count) × BeginWith coding width bits rows
  pub no_more : (rows : List (List Color)) → length rows ≤ max_rows → BeginWith coding width bits rows → length rows ≤ count

-- all whole rows that the bits spell from the beginning, one after the other: the rows that there are of a page that can't be read
pub record AreWholeRows (coding : Coding) (width : ℕ) (bits : List Bool) (rows : List (List Color)) : Type 0 where
  pub all : AreRowsSoFar coding width bits (length rows)
  pub begins : 0 < length rows → BeginWith coding width bits rows

-- law: rows that are whole stay whole when bits follow
abbrev pub RowsStay : Type 0
RowsStay =
    (coding : Coding) (width : ℕ) (bits more : List Bool) (count later : ℕ) → AreRowsSoFar coding width bits count
    → AreRowsSoFar coding width (bits ++ more) later → count ≤ later

-- whole items at the beginning of bits, `place` bits, lead from a state to another
pub record LeadsTo {State Item : Type 0} (word : Item → List Bool) (Step : State → Item → State
    → Type 0) (from to : State) (bits : List Bool) (place : ℕ) : Type 0 where
  pub items : List Item
  pub rest : List Bool
  pub walk : Walk Step from items to
  pub spelled : bits ≡ spell word items ++ rest
  pub place_is : place ≡ length (spell word items)

-- the state of a page after whole rows
abbrev pub after_rows : List (List Color) → OneDimState
after_rows [] = first
after_rows (row ∷ rows) = row_end (row ∷ rows)

-- the state after these rows, at which the next one may begin
abbrev pub between_rows : ℕ → List (List Color) → T6State
between_rows width rows = between (record { rows = rows; reference = reference_at (white_line width) rows (length rows) })

-- these rows were read from the beginning of the bits, with `place` of them used
unfoldable pub IsReadTo : Coding → ℕ → List Bool → List (List Color) → ℕ → Type 0
IsReadTo OneDim width bits rows place = LeadsTo one_dim_word (OneDimStep width) first (after_rows rows) bits place
IsReadTo T6 width bits rows place = LeadsTo page_item_word (PageStep width) (page_begin width) (between_rows width rows) bits place

-- a page of the same width and lines, read further
pub record IsFurther (coding : Coding) (bits : List Bool) (old new : Progress) : Type 0 where
  pub width : new.page.width ≡ old.page.width
  pub fine : new.page.fine ≡ old.page.fine
  pub read : IsReadTo coding new.page.width bits new.page.rows new.place

-- The whole rows that the bits spell were read, up to the page's end or the place and kind of a refusal; or memory was refused.
abbrev pub ReadsOn : Coding → List Bool → Progress → Progress → Result ℕ CodeFault → Type 0
ReadsOn coding bits old new (Ok used) =
    IsFurther coding bits old new × (read_rows coding new.page.width bits ≡ Ok (new.page.rows, used))
    × AreRowsSoFar coding new.page.width bits (length new.page.rows)
ReadsOn coding bits old new (Err fault) =
    (fault.kind ≡ NoMemory) ⊎
    (IsFurther coding bits old new × (read_rows coding new.page.width bits ≡ Err (fault.place, fault.kind))
    × AreRowsSoFar coding new.page.width bits (length new.page.rows))
