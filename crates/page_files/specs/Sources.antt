-- Octets in one order of bits, as they are read in many ways, and the page that is kept of them.
use Rattle.std.specs.Prelude.{ℕ, ◌≢◌, Bool, true, List, [], Option, Some, None, ◌&&◌, length, nat_eq, not}
use Rattle.raster.specs.Pages.{PagePixels}
use Rattle.raster.specs.declared.packed.Order.{Order}
use Rattle.raster.specs.Packed.{bits_of}
use Rattle.page_code.specs.PageReaders.{IsPageRead}
use Rattle.page_files.specs.Answers.{octets_after}
use Rattle.page_files.specs.CodedPages.{WritesPage}
use Rattle.page_files.specs.Decodings.{GivesPage}
use Rattle.page_files.specs.declared.decoding.Broken.{Broken}
use Rattle.page_files.specs.declared.decoding.Broken.TheVariants.{AllRows}
use Rattle.page_files.specs.declared.decoding.ReadTo.{ReadTo}
use Rattle.page_files.specs.declared.identify.Tried.{Tried}
use Rattle.page_files.specs.declared.source.FoundPage.{FoundPage}

-- octets, and an order of their bits
pub record SourceBits : Type 0 where
  pub octets : List ℕ
  pub order : Order

-- the octets begin with the page, which was read so; its code has so many bits
abbrev pub IsPageIn : List ℕ → FoundPage → Type 0
IsPageIn octets found =
    IsPageRead found.form.coding found.form.width found.form.fine (bits_of found.form.order octets) found.page found.bits

-- What decoding gives of octets that begin with this page: the page, no lines, and the end of its code; unless all rows are asked for.
abbrev pub GivesFound : FoundPage → PagePixels → List ℕ → ReadTo → Type 0
GivesFound found page lines read_to = (broken : Broken) (octets image : List ℕ) → broken ≢ AllRows → IsPageIn octets found
    → WritesPage page (Some []) (Some image) → GivesPage broken found.form octets read_to (length page.rows) image lines

-- the same result of octets in this order of bits
abbrev pub in_order : Order → Tried → Tried
in_order order tried = record tried { form = record tried.form { order = order } }

-- the same page, of octets in this order of bits
abbrev pub page_in_order : Order → FoundPage → FoundPage
page_in_order order found = record found { form = record found.form { order = order } }

-- no octet comes after a page's code of so many bits
abbrev pub ends_with : List ℕ → ℕ → Bool
ends_with octets bits = nat_eq (octets_after octets bits) 0

-- a page whose code has so many bits is better than none, and than the one that was found before if it alone ends with the octets
abbrev pub is_better : List ℕ → ℕ → Option ℕ → Bool
is_better octets bits (Some before) = ends_with octets bits && not (ends_with octets before)
is_better octets bits None = true
