-- What holds in the loop of `first_alone`.
use Rattle.std.proofs.Common.{ℕ, Option, drop}
use Rattle.page_files.specs.NoEols.{FirstAlone}
use Rattle.raster.specs.Packed.{bits_of}
use Rattle.page_files.proofs.no_eols.first_alone.Given as goal

abbrev pub invariant-loop-width : goal.invariant-loop-width
invariant-loop-width l = (first : Option (ℕ × ℕ)) → FirstAlone (bits_of l.order l.octets) (drop l.width-index l.widths) first
    → FirstAlone (bits_of l.order l.octets) l.widths first
