use Rattle.std.proofs.Common.{◌+◌, ◌-◌, ◌*◌, ◌≤◌, drop, length}
use Rattle.raster.specs.Packed.{bits_of}
use Rattle.page_code.specs.PassedRows.{AreEolsPassed}
use Rattle.page_code.proofs.one_dim.one_row.pass_eols.Given as goal

abbrev pub invariant-loop-eols : goal.invariant-loop-eols
invariant-loop-eols l = record {
  eols : AreEolsPassed (drop l.place (bits_of l.order l.octets)) l.eols;
  within : l.place + l.eols.at ≤ 8 * length l.octets;
}

abbrev pub decreases-loop-eols : goal.decreases-loop-eols
decreases-loop-eols l = 5 - l.eols.count
