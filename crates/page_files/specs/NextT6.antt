-- Where the next page of a file may begin after one of T.6 without EOFB, of which nothing marks the end.
use Rattle.std.specs.Prelude.{ℕ, ◌≡◌, ◌≤◌, ◌<◌, ◌+◌, ◌-◌, ◌*◌, ◌++◌, ◌⊎◌, Bool, true, false, List, Some, None, drop, length, replicate}
use Rattle.std.specs.Int.{div_ceil}
use Rattle.page_code.specs.OneDimension.Fronts.{zeros_before}
use Rattle.page_code.specs.PageReaders.{IsPageRead, IsPageRefused}
use Rattle.page_code.specs.declared.page_reader.RefusedCode.{RefusedCode}
use Rattle.page_files.specs.declared.options.PageForm.{PageForm}
use Rattle.page_files.specs.PageEnds.{FindsEol}
use Rattle.raster.specs.declared.packed.Order.{Order}
use Rattle.raster.specs.Packed.{bits_in, bits_of}
use Rattle.raster.specs.Pages.{PagePixels}

-- the octets begin with a row or more: with a page's code, or they are refused after a row
abbrev pub BeginsWithRow : PageForm → List Bool → Type 0
BeginsWithRow form bits =
    ((page : PagePixels) × (used : ℕ) × IsPageRead form.coding form.width form.fine bits page used)
    ⊎ ((refused : RefusedCode) × IsPageRefused form.coding form.width bits refused × (0 < refused.rows))

-- Rows end at a bit, and only 0 bits come up to an octet, or none; from this octet on the octets begin with a row again, the first of a page.
pub record MayFollow (form : PageForm) (octets : List ℕ) (rows_end octet : ℕ) : Type 0 where
  pub octet_is : octet ≡ div_ceil rows_end 8
  pub zeros : ℕ
  pub are_zeros : zeros_before (drop rows_end (bits_of form.order octets)) ≡ Some zeros
  pub fill : 8 * octet ≤ rows_end + zeros
  pub row : BeginsWithRow form (bits_of form.order (drop octet octets))

-- without the 0 bits at their end, the bits of the octets are the first ones up to this place
abbrev pub IsCode : Order → List ℕ → ℕ → Type 0
IsCode order octets code =
    bits_in order octets (8 * length octets) ≡ bits_in order octets code ++ replicate (8 * length octets - code) false

-- whether the octets end with two EOLs (EOFB, T.6, 2.4.1.1), but for 0 bits
abbrev pub EndsByEofb : Order → List ℕ → Bool → Type 0
EndsByEofb order octets true = (code start first : ℕ) × IsCode order octets code × FindsEol order octets code (Some start)
    × FindsEol order octets start (Some first)
EndsByEofb order octets false = (code : ℕ) × IsCode order octets code × (FindsEol order octets code None
    ⊎ ((start : ℕ) × FindsEol order octets code (Some start) × FindsEol order octets start None))
