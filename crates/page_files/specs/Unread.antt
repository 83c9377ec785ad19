-- What octets that are nothing known are that isn't read.
use Rattle.std.specs.Prelude.{ℕ, ◌≡◌, List, Option, Some, None, cond, nat_lt}
use Rattle.raster.specs.declared.packed.Order.{Order}
use Rattle.raster.specs.declared.packed.Order.TheVariants.{LsbFirst, MsbFirst}
use Rattle.page_files.specs.Identified.{AreAlone, AreOneDimTried, UnreadBy, no_eols_text, tried_widths}
use Rattle.page_files.specs.declared.identify.Said.{Said}
use Rattle.page_files.specs.declared.identify.Tried.{Tried}
use Rattle.page_files.specs.declared.no_eols.NoEols.{NoEols}

-- the lines of it, by the ways of T.4
abbrev pub UnreadLines : List ℕ → List ℕ → Type 0
UnreadLines octets lines =
    (tried : List Tried) × (own : Said) × AreOneDimTried tried_widths octets tried own × UnreadBy octets tried own lines

-- rows of T.4 without EOLs in this order of bits, by their width and their number, if there are any
abbrev pub no_eols_in : Order → Option (ℕ × ℕ) → Option NoEols
no_eols_in order None = None
no_eols_in order (Some first) =
    cond (nat_lt 0 first.1) (Some (record { order = order; width = first.0; rows = first.1 })) None

-- those rows, or the others if there are none
abbrev pub or_no_eols : Option NoEols → Option NoEols → Option NoEols
or_no_eols None other = other
or_no_eols (Some said) other = Some said

-- which rows of T.4 without EOLs octets are: with the most significant bit first, or else with the least
abbrev pub AreNoEols : List ℕ → Option NoEols → Type 0
AreNoEols octets said = (msb lsb : Option (ℕ × ℕ)) × AreAlone octets msb lsb
    × (said ≡ or_no_eols (no_eols_in MsbFirst msb) (no_eols_in LsbFirst lsb))

-- the line of them, as `identify` writes it
abbrev pub rows_line : NoEols → List ℕ
rows_line said = no_eols_text said.order said.width said.rows
