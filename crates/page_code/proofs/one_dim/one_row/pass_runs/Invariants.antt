use Rattle.std.proofs.Common.{◌≡◌, ◌+◌, ◌-◌, ◌≤◌, drop, length}
use Rattle.raster.specs.Packed.{bits_of}
use Rattle.page_code.specs.PassedRows.{AreRunsPassed}
use Rattle.page_code.proofs.one_dim.one_row.pass_runs.Given as goal

abbrev pub invariant-loop-run : goal.invariant-loop-run
invariant-loop-run l = record {
  reader : l.reader ≡ record { bits = bits_of l.fn.order l.fn.octets; place = l.fn.to.at + l.passed.at };
  runs : AreRunsPassed l.fn.to.width l.fn.to.rows (drop l.fn.to.at (bits_of l.fn.order l.fn.octets)) l.passed;
  within : l.fn.to.at + l.passed.at ≤ length (bits_of l.fn.order l.fn.octets);
}

abbrev pub decreases-loop-run : goal.decreases-loop-run
decreases-loop-run l = length (bits_of l.fn.order l.fn.octets) - (l.fn.to.at + l.passed.at)
