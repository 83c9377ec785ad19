-- What holds in the loop of `line_after`: the next line follows from the place reached on.
use Rattle.std.proofs.Common.{◌≡◌, ◌≤◌, ◌-◌, ◌*◌, drop, length}
use Rattle.raster.specs.Packed.{bits_of}
use Rattle.page_files.specs.AgreedWidths.{line_after}
use Rattle.page_files.specs.PageEnds.{gaps}
use Rattle.page_files.proofs.agreed_widths.line_after.Given as goal

abbrev pub invariant-loop-zeros : goal.invariant-loop-zeros
invariant-loop-zeros l = record {
  from : l.place ≤ l.at;
  within : l.at ≤ 8 * length l.octets;
  same : line_after l.place (gaps 0 (drop l.place (bits_of l.order l.octets)))
      ≡ line_after l.at (gaps 0 (drop l.at (bits_of l.order l.octets)));
}

abbrev pub decreases-loop-zeros : goal.decreases-loop-zeros
decreases-loop-zeros l = 8 * length l.octets - l.at
