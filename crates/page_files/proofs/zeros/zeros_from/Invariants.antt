-- What holds in the loop of `zeros_from`.
use Rattle.std.proofs.Common.{◌≡◌, ◌≤◌, ◌-◌, drop}
use Rattle.raster.specs.Packed.{bits_of}
use Rattle.page_code.specs.OneDimension.Fronts.{zeros_before}
use Rattle.page_code.proofs.OneDimension.SeesEol.{more_zeros}
use Rattle.page_files.proofs.zeros.zeros_from.Given as goal

abbrev pub invariant-loop-at : goal.invariant-loop-at
invariant-loop-at l = record {
  past : l.place ≤ l.at;
  zeros : zeros_before (drop l.place (bits_of l.order l.octets)) ≡ more_zeros (l.at - l.place) (zeros_before (drop l.at (bits_of
      l.order l.octets)));
}

abbrev pub decreases-loop-at : goal.decreases-loop-at
decreases-loop-at l = l.end - l.at
