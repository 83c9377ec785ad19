use Rattle.std.proofs.Common.{◌≤◌, ◌*◌, ◌-◌, length}
use Rattle.raster.specs.Packed.{bits_of}
use Rattle.page_files.proofs.LaterPages.{Standing}
use Rattle.page_files.proofs.later_pages.later_one_dim.Given as goal

abbrev pub invariant-loop-place : goal.invariant-loop-place
invariant-loop-place l = record {
  within : l.place ≤ 8 * length l.octets;
  begun : l.start ≤ 8 * length l.octets;
  stands : Standing l.used (bits_of l.order l.octets) l.place l.start;
}

abbrev pub decreases-loop-place : goal.decreases-loop-place
decreases-loop-place l = l.end - l.place
