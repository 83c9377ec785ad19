use Rattle.std.proofs.Common.{◌≤◌, ◌-◌, ◌*◌, length}
use Rattle.raster.specs.Packed.{bits_of}
use Rattle.page_code.proofs.OneDimension.LineEnds.{SkipsOn}
use Rattle.page_code.proofs.one_dim.repair.after_eol.Given as goal

abbrev pub invariant-loop-zeros : goal.invariant-loop-zeros
invariant-loop-zeros l = record {
  within : l.at ≤ 8 * length l.octets;
  past : l.place ≤ l.at;
  skips : SkipsOn (bits_of l.order l.octets) l.place l.at;
}

abbrev pub decreases-loop-zeros : goal.decreases-loop-zeros
decreases-loop-zeros l = 8 * length l.octets - l.at
