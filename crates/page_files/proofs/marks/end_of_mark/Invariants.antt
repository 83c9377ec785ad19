-- What holds in the loop of `end_of_mark`: no EOLs show a mark before the place reached.
use Rattle.std.proofs.Common.{◌≡◌, ◌≤◌, ◌-◌, ◌*◌, drop, length}
use Rattle.raster.specs.Packed.{bits_of}
use Rattle.page_files.specs.Marks.{end_of_mark, mark_end}
use Rattle.page_files.specs.PageEnds.{gaps}
use Rattle.page_files.proofs.marks.end_of_mark.Given as goal

abbrev pub invariant-loop-place : goal.invariant-loop-place
invariant-loop-place l = record {
  within : l.place ≤ 8 * length l.octets;
  same : end_of_mark l.form l.octets ≡ mark_end l.form.coding l.place (gaps 0 (drop l.place (bits_of l.form.order l.octets)));
}

abbrev pub decreases-loop-place : goal.decreases-loop-place
decreases-loop-place l = l.end - l.place
