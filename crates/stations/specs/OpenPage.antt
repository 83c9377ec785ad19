-- The page that an answerer has open, and the reader that reads it as its blocks come.
use Rattle.std.specs.Prelude.{ℕ, ◌≡◌, ◌++◌, Bool, true, false, List, Result, Ok, Err, map}
use Rattle.raster.specs.Words.{turned_octet}
use Rattle.raster.specs.declared.packed.Order.TheVariants.{MsbFirst}
use Rattle.page_code.specs.PageReaders.{PageReading, GoesOnTo}
use Rattle.signals.specs.Agreement.{pixels_of}
use Rattle.signals.specs.declared.params.Params.{Params}
use Rattle.stations.specs.Layers.{within_page_limit}

-- the open page: how it is sent, and its octets so far
pub record OpenOctets : Type 0 where
  pub params : Params
  pub octets : List ℕ

-- the reader reads the code, the width and the lines that were agreed, the most significant bit of turned octets first, and has read a
-- beginning of these
pub record IsReaderOf (params : Params) (turned : List ℕ) (reader : PageReading) : Type 0 where
  pub coding : reader.coding ≡ params.coding
  pub order : reader.order ≡ MsbFirst
  pub width : reader.page.width ≡ pixels_of params.width
  pub fine : reader.page.fine ≡ params.fine
  pub goes_on : GoesOnTo reader turned

-- octets were appended to others, each with its bits in the other order; turned once more they are these octets
pub record AppendsTurned (old new octets : List ℕ) : Type 0 where
  pub turned : new ≡ old ++ map turned_octet octets
  pub back : map turned_octet (map turned_octet octets) ≡ octets

-- pages are of the same code, width and lines
pub record AreReadAlike (params other : Params) : Type 0 where
  pub coding : params.coding ≡ other.coding
  pub width : pixels_of params.width ≡ pixels_of other.width
  pub fine : params.fine ≡ other.fine

-- all octets are those of the open page from now on, if a call carries this number of octets for a page; if not, or if memory is refused,
-- nothing changes
abbrev pub TakesOctets : {E : Type 0} → OpenOctets → OpenOctets → Result Bool E → List ℕ → Type 0
TakesOctets old new (Ok true) all = (within_page_limit all ≡ true) × (new ≡ record old { octets = all })
TakesOctets old new (Ok false) all = (within_page_limit all ≡ false) × (new ≡ old)
TakesOctets old new (Err refused) all = new ≡ old
