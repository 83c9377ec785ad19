-- What `decode --repair` gives of a page in the two-dimensional code (ITU-T T.6): the page, its whole rows where its EOFB alone is missing
-- or broken, or those before a row that can't be read.
use Rattle.std.specs.Prelude.{ℕ, ◌≡◌, ◌<◌, ◌⊎◌, Bool, List, [], ◌∷◌, ◌++◌, Option, Some, codes, drop, length}
use Rattle.std.specs.Fmt.{decimal}
use Rattle.raster.specs.declared.packed.Order.{Order}
use Rattle.raster.specs.Packed.{bits_of}
use Rattle.raster.specs.Pages.{PagePixels}
use Rattle.raster.specs.PbmText.{AppendsSome, ArePagesText}
use Rattle.page_code.specs.declared.Coding.TheVariants.{T6}
use Rattle.page_code.specs.RowsSoFar.{AreWholeRows}
use Rattle.page_code.specs.TwoDimensions.PageEnds.{HoldsRowsTo, NoRowBegins}
use Rattle.page_files.specs.CodedPages.{DecodesPage, RefusesCode, SalvagesRows}
use Rattle.page_files.specs.declared.decoding.ReadTo.{ReadTo}
use Rattle.page_files.specs.declared.decoding.ReadTo.TheVariants.{End, Fault, Lines, NoEnd}
use Rattle.faults.specs.declared.fault.ToolFault.{ToolFault}
use Rattle.page_files.specs.declared.options.PageForm.{PageForm}

-- the line of a page without its EOFB, of this number of rows, which end at this bit
abbrev pub no_eofb_line : ℕ → ℕ → List ℕ
no_eofb_line rows bit =
    codes "the page ends without its EOFB after " ++ (decimal rows ++ (codes " rows, at bit " ++ (decimal bit ++ codes "\n")))

-- the octets begin with no page's code; but after whole rows no row begins at this bit, and the image of these rows is written
pub record EndsWithoutEofb (order : Order) (width : ℕ) (fine : Bool) (before after : Option (List ℕ)) (rows bit : ℕ) (octets : List ℕ)
    : Type 0 where
  pub fault : ToolFault
  pub refused : RefusesCode T6 order width octets fault
  pub page : PagePixels
  pub width_is : page.width ≡ width
  pub fine_is : page.fine ≡ fine
  pub whole : AreWholeRows T6 width (bits_of order octets) page.rows
  pub there : HoldsRowsTo width (bits_of order octets) page.rows bit
  pub ends : NoRowBegins (drop bit (bits_of order octets))
  pub some : 0 < rows
  pub rows_are : rows ≡ length page.rows
  pub written : AppendsSome (ArePagesText (page ∷ [])) before after

-- The octets begin with no page's code, and the whole rows are written as `decode --salvage` writes them. There is no whole row, or another
-- row begins after them.
pub record BreaksOff (order : Order) (width : ℕ) (fine : Bool) (before after : Option (List ℕ)) (rows : ℕ) (fault : ToolFault)
    (octets : List ℕ) : Type 0 where
  pub salvaged : SalvagesRows T6 order width fine before after rows fault octets
  pub lost : (rows ≡ 0) ⊎ ((bit : ℕ) × HoldsRowsTo width (bits_of order octets) salvaged.page.rows bit
      × (¬ NoRowBegins (drop bit (bits_of order octets))))

-- the image that is written into no octets, and the lines that are
abbrev pub RepairsT6 : PageForm → List ℕ → ReadTo → ℕ → List ℕ → List ℕ → Type 0
RepairsT6 form octets (End bits) rows image lines =
    DecodesPage T6 form.order form.width form.fine (Some []) (Some image) rows bits octets × (lines ≡ [])
RepairsT6 form octets (NoEnd bit) rows image lines =
    EndsWithoutEofb form.order form.width form.fine (Some []) (Some image) rows bit octets × (lines ≡ no_eofb_line rows bit)
RepairsT6 form octets (Fault fault) rows image lines =
    BreaksOff form.order form.width form.fine (Some []) (Some image) rows fault octets × (lines ≡ [])
RepairsT6 form octets (Lines count) rows image lines = ⊥
