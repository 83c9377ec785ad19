-- What a call answers that repairs a page of the one-dimensional code.
use Rattle.std.specs.Prelude.{ℕ, ◌≡◌, ◌≢◌, ◌⊎◌, Bool, List, IfSome, length}
use Rattle.std.specs.declared.option.Option.{Option}
use Rattle.std.specs.declared.option.Option.TheVariants.{None}
use Rattle.raster.specs.Packed.{bits_of}
use Rattle.raster.specs.Pages.{PagePixels}
use Rattle.raster.specs.Pixels.{IsWidth}
use Rattle.run_tables.specs.Faults.{number_of}
use Rattle.run_tables.specs.declared.fault.CodeFault.{CodeFault}
use Rattle.page_code.specs.OneDimension.Repairs.{HasMoreLines, HasNoRow, IsRepair}
use Rattle.page_code.specs.declared.one_dim.repair.RepairedRow.{RepairedRow}
use Rattle.g3fax.specs.Codes.{order_of}
use Rattle.g3fax.specs.Handles.{Fills, HasPage}
use Rattle.g3fax.specs.Pages.{bad_width, is_set}
use Rattle.g3fax.specs.Statuses.{ok, no_memory, bad_choice}
use Rattle.g3fax.specs.declared.codes.G3Code.{G3Code}
use Rattle.g3fax.specs.declared.handle.Kept.{Kept}

-- the page of the lines that bits give, of which this number of rows is repaired
pub record HasRepaired (code : G3Code) (octets : List ℕ) (count : ℕ) (page : PagePixels) : Type 0 where
  pub width : page.width ≡ code.width
  pub fine : page.fine ≡ is_set code.fine
  pub repaired : List RepairedRow
  pub is : IfSome (order_of code.order) (λ order. IsRepair code.width (bits_of order octets) page.rows repaired)
  pub counted : count ≡ length repaired

-- the number of a refusal: no row can be read, or a 20,001st line begins
pub record RefusesRepair (width : ℕ) (bits : List Bool) (status : ℕ) : Type 0 where
  pub fault : CodeFault
  pub refuses : HasNoRow width bits fault ⊎ HasMoreLines width bits fault
  pub number : status ≡ number_of fault.kind

-- An empty handle is filled with the page that the lines of T.4 in one dimension give, and its repaired rows are counted. 104 for any other
-- code.
pub record RepairsForm (code : G3Code) (octets : List ℕ) (old : Option Kept) (status count : ℕ) (new : Option Kept) : Type 0 where
  pub fills : Fills (HasPage (HasRepaired code octets count)) old status new
  pub one_dim : old ≡ None → code.coding ≢ 1 → status ≡ bad_choice
  pub no_order : old ≡ None → order_of code.order ≡ None → status ≡ bad_choice
  pub no_width : old ≡ None → code.coding ≡ 1 → order_of code.order ≢ None → ¬ IsWidth code.width → status ≡ bad_width
  pub refused : old ≡ None → code.coding ≡ 1 → IsWidth code.width → status ≢ ok → status ≢ no_memory
      → IfSome (order_of code.order) (λ order. RefusesRepair code.width (bits_of order octets) status)
