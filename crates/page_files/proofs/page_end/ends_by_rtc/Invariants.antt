use Rattle.std.proofs.Common.{◌≤◌, ◌<◌, ◌-◌, ◌≡◌, ◌*◌, length, true}
use Rattle.raster.specs.Packed.{bit_in, bits_in}
use Rattle.page_files.proofs.PageEnds.{EndsByEols}
use Rattle.page_files.proofs.page_end.ends_by_rtc.Given as goal

abbrev pub invariant-loop-eols : goal.invariant-loop-eols
invariant-loop-eols l = record {
  within : l.place ≤ 8 * length l.octets;
  one : 0 < l.place → bit_in l.order l.octets (l.place - 1) ≡ true;
  only : EndsByEols 6 (bits_in l.order l.octets l.code) → EndsByEols (6 - l.eols) (bits_in l.order l.octets l.place);
  enough : EndsByEols (6 - l.eols) (bits_in l.order l.octets l.place) → EndsByEols 6 (bits_in l.order l.octets l.code);
}
