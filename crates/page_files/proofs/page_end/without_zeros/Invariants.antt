use Rattle.std.proofs.Common.{◌≡◌, ◌≤◌, ◌-◌, ◌++◌, false, replicate}
use Rattle.raster.specs.Packed.{bits_in}
use Rattle.page_files.proofs.page_end.without_zeros.Given as goal

abbrev pub invariant-loop-place : goal.invariant-loop-place
invariant-loop-place l = record {
  within : l.place ≤ l.end;
  zeros : bits_in l.order l.octets l.end ≡ bits_in l.order l.octets l.place ++ replicate (l.end - l.place) false;
}

abbrev pub decreases-loop-place : goal.decreases-loop-place
decreases-loop-place l = l.place
