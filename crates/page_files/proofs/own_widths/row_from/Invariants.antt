-- What holds in the loop of `row_from`.
use Rattle.std.proofs.Common.{◌≡◌, ◌≤◌, ◌-◌, ◌*◌, length}
use Rattle.raster.specs.Packed.{bits_of}
use Rattle.page_files.proofs.OwnWidths.{AreRead}
use Rattle.page_files.proofs.own_widths.row_from.Given as goal

abbrev pub invariant-loop-run : goal.invariant-loop-run
invariant-loop-run l = record {
  bits : l.reader.bits ≡ bits_of l.order l.octets;
  within : l.reader.place ≤ 8 * length l.octets;
  read : AreRead (bits_of l.order l.octets) l.start l.reader.place l.color l.pixels;
}

abbrev pub decreases-loop-run : goal.decreases-loop-run
decreases-loop-run l = 8 * length l.octets - l.reader.place
