-- The octets of a file of pages, which are turned once so that the first bit of each is its most significant one.
use Rattle.std.specs.Prelude.{ℕ, List, map}
use Rattle.raster.specs.declared.packed.Order.{Order}
use Rattle.raster.specs.declared.packed.Order.TheVariants.{LsbFirst, MsbFirst}
use Rattle.raster.specs.Words.{turned_octet}
use Rattle.page_files.specs.declared.options.PageForm.{PageForm}

-- the octets with the first bit of each as its most significant one; done once more, the octets as they were
abbrev pub in_msb : Order → List ℕ → List ℕ
in_msb MsbFirst octets = octets
in_msb LsbFirst octets = map turned_octet octets

-- how a page is read whose octets are turned so
abbrev pub msb_form : PageForm → PageForm
msb_form form = record form { order = MsbFirst }

-- the pages of a file that are left: how all are read, and the octets from the first of them on, as the file has them
pub record PagesLeft : Type 0 where
  pub form : PageForm
  pub octets : List ℕ
