-- What holds in the loop of `width_in`.
use Rattle.std.proofs.Common.{◌≤◌, ◌-◌, ◌*◌, length}
use Rattle.raster.specs.Packed.{bits_of}
use Rattle.page_files.proofs.AgreedWidths.{AreRead}
use Rattle.page_files.proofs.agreed_widths.width_in.Given as goal

abbrev pub invariant-loop-start : goal.invariant-loop-start
invariant-loop-start l = record {
  within : l.place ≤ 8 * length l.octets;
  read : AreRead l.widths (bits_of l.order l.octets) l.place l.before;
}

abbrev pub decreases-loop-start : goal.decreases-loop-start
decreases-loop-start l = 8 * length l.octets - l.place
