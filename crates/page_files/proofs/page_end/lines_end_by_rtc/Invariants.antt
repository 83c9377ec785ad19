-- What holds in the loop of `lines_end_by_rtc`: no two EOLs follow one another before the place reached.
use Rattle.std.proofs.Common.{◌≡◌, ◌≤◌, ◌-◌, ◌*◌, drop, length}
use Rattle.raster.specs.Packed.{bits_of}
use Rattle.page_files.specs.PageEnds.{first_eols_are_rtc, gaps, lines_end_by_rtc}
use Rattle.page_files.proofs.page_end.lines_end_by_rtc.Given as goal

abbrev pub invariant-loop-place : goal.invariant-loop-place
invariant-loop-place l = record {
  within : l.place ≤ 8 * length l.octets;
  same : lines_end_by_rtc l.order l.octets ≡ first_eols_are_rtc (gaps 0 (drop l.place (bits_of l.order l.octets)));
}

abbrev pub decreases-loop-place : goal.decreases-loop-place
decreases-loop-place l = l.end - l.place
