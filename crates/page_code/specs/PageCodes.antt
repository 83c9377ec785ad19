-- The results of writing and reading a page, in any code.
use Rattle.std.specs.Prelude.{ℕ, ◌≡◌, ◌≤◌, ◌<◌, ◌++◌, Bool, List, length, All, Result, Ok, Err, MatchResult, ◌≢◌, ◌⊎◌}
use Rattle.raster.specs.declared.packed.Order.{Order}
use Rattle.raster.specs.declared.row.Color.{Color}
use Rattle.raster.specs.Packed.{FillsOctets}
use Rattle.raster.specs.Pages.{PagePixels, max_rows}
use Rattle.raster.specs.Pixels.{IsWidth}
use Rattle.run_tables.specs.declared.fault.CodeFault.{CodeFault}
use Rattle.run_tables.specs.declared.fault.CodeFaultKind.{CodeFaultKind}
use Rattle.run_tables.specs.declared.fault.CodeFaultKind.TheVariants.{NoMemory}

-- `encode` appends the octets of a code, filled with 0 bits, to the end of a list
abbrev pub AppendsCode : Order → List Bool → List ℕ → List ℕ → Type 0
AppendsCode order code old new = (octets : List ℕ) × (new ≡ old ++ octets) × FillsOctets order code octets

-- `decode` read a page of this width, with `used` bits used: the bits read as it
pub record ReadsPage (Reads : ℕ → List Bool → List (List Color) → ℕ
    → Type 0) (width : ℕ) (fine : Bool) (bits : List Bool) (page : PagePixels) (used : ℕ) : Type 0 where
  pub width_is : page.width ≡ width
  pub fine_is : page.fine ≡ fine
  pub reads : Reads width bits page.rows used

-- `decode` refused the bits, not for memory: they read as no page, the place is the length of their longest front, and the kind is that
-- of the bits from there
pub record RefusesPage (Reads : ℕ → List Bool → List (List Color) → ℕ → Type 0) (Longest : ℕ → List Bool → ℕ → CodeFaultKind
    → Type 0) (width : ℕ) (bits : List Bool) (fault : CodeFault) : Type 0 where
  pub longest : Longest width bits fault.place fault.kind
  pub none : (rows : List (List Color)) (used : ℕ) → ¬ Reads width bits rows used

-- if the bits read as this page, it is the result, unless memory was refused
abbrev pub IsOnlyAnswer : (ℕ → List Bool → List (List Color) → ℕ → Type 0) → ℕ → List Bool → Result (PagePixels × ℕ) CodeFault → Type 0
IsOnlyAnswer Reads width bits result =
    (rows : List (List Color)) (used : ℕ) → Reads width bits rows used
    → MatchResult result (λ read. (read.0.rows ≡ rows) × (read.1 ≡ used)) (λ fault. fault.kind ≡ NoMemory)

-- the result is the one that reading gives, rows with the bits used or a refusal, unless memory was refused
abbrev pub GivesRows : Result (List (List Color) × ℕ) (ℕ × CodeFaultKind) → Result (PagePixels × ℕ) CodeFault → Type 0
GivesRows outcome (Ok read) = outcome ≡ Ok (read.0.rows, read.1)
GivesRows outcome (Err fault) = fault.kind ≢ NoMemory → outcome ≡ Err (fault.place, fault.kind)

-- the result is the page that reading gives, with the bits used, or its refusal, unless memory was refused
abbrev pub GivesPage : Result (List (List Color) × ℕ) (ℕ × CodeFaultKind) → ℕ → Bool → Result (PagePixels × ℕ) CodeFault → Type 0
GivesPage outcome width fine (Ok read) = (read.0.width ≡ width) × (read.0.fine ≡ fine) × (outcome ≡ Ok (read.0.rows, read.1))
GivesPage outcome width fine (Err fault) = (fault.kind ≡ NoMemory) ⊎ (outcome ≡ Err (fault.place, fault.kind))

-- the law of a page code: the code of a page, followed by any bits, reads as the page with the code's length
abbrev pub ReadsItsCode : (ℕ → List (List Color) → List Bool) → (ℕ → List Bool → List (List Color) → ℕ → Type 0) → Type 0
ReadsItsCode code Reads =
    (width : ℕ) (rows : List (List Color)) (rest : List Bool) → IsWidth width → 0 < length rows → length rows ≤ max_rows
    → All (λ row. length row ≡ width) rows → Reads width (code width rows ++ rest) rows (length (code width rows))
