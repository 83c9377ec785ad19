-- What octets say of themselves as a page of T.4 in two dimensions (MR), which isn't read.
use Rattle.std.specs.Prelude.{ℕ, ◌≡◌, List, Option, Some, None, cond, nat_lt}
use Rattle.raster.specs.declared.packed.Order.{Order}
use Rattle.raster.specs.declared.packed.Order.TheVariants.{LsbFirst, MsbFirst}
use Rattle.page_files.specs.Identified.{AreTwoDim, two_dim_text}
use Rattle.page_files.specs.declared.two_dim.TwoDim.{TwoDim}

-- octets that say this width in this order of bits, if it isn't 0
abbrev pub two_dim_in : Order → Option ℕ → Option TwoDim
two_dim_in order None = None
two_dim_in order (Some width) = cond (nat_lt 0 width) (Some (record { order = order; width = width })) None

-- what they say, or the other if that is nothing
abbrev pub or_two_dim : Option TwoDim → Option TwoDim → Option TwoDim
or_two_dim None other = other
or_two_dim (Some said) other = Some said

-- What octets say of themselves in T.4 in two dimensions: with the most significant bit first, or else with the least.
abbrev pub SaysTwoDims : List ℕ → Option TwoDim → Type 0
SaysTwoDims octets said = (msb lsb : Option ℕ) × AreTwoDim octets msb lsb × (said ≡ or_two_dim (two_dim_in MsbFirst msb) (two_dim_in LsbFirst lsb))

-- the line of it, as `identify` writes it
abbrev pub said_line : TwoDim → List ℕ
said_line said = two_dim_text said.order said.width
