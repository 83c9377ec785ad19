-- What holds in the loop of `begin_eols`: the EOLs that are left follow from the place reached on.
use Rattle.std.proofs.Common.{◌≡◌, ◌≤◌, ◌-◌, ◌*◌, drop, length}
use Rattle.raster.specs.Packed.{bits_of}
use Rattle.page_files.specs.PageEnds.{begin_eols, gaps}
use Rattle.page_files.proofs.page_end.begin_eols.Given as goal

abbrev pub invariant-loop-read : goal.invariant-loop-read
invariant-loop-read l = record {
  within : l.at ≤ 8 * length l.octets;
  same : begin_eols l.eols (gaps 0 (drop l.place (bits_of l.order l.octets)))
      ≡ begin_eols (l.eols - l.read) (gaps 0 (drop l.at (bits_of l.order l.octets)));
}
