-- What holds in the loop of `eols_end`: the EOLs that are left follow from the place reached on.
use Rattle.std.proofs.Common.{◌≡◌, ◌≤◌, ◌-◌, ◌*◌, drop, length}
use Rattle.raster.specs.Packed.{bits_of}
use Rattle.page_files.specs.Marks.{eols_end}
use Rattle.page_files.specs.PageEnds.{gaps}
use Rattle.page_files.proofs.marks.eols_end.Given as goal

abbrev pub invariant-loop-read : goal.invariant-loop-read
invariant-loop-read l = record {
  within : l.at ≤ 8 * length l.octets;
  same : eols_end l.eols l.place (gaps 0 (drop l.place (bits_of l.order l.octets)))
      ≡ eols_end (l.eols - l.read) l.at (gaps 0 (drop l.at (bits_of l.order l.octets)));
}
