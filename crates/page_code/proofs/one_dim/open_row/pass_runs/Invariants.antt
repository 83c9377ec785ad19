use Rattle.std.proofs.Common.{◌≡◌, ◌-◌, ◌≤◌, length}
use Rattle.raster.specs.Packed.{bits_of}
use Rattle.page_code.specs.OneDimension.OpenRows.{AreRunsBefore}
use Rattle.page_code.proofs.one_dim.open_row.pass_runs.Given as goal

abbrev pub invariant-loop-run : goal.invariant-loop-run
invariant-loop-run l = record {
  reader : l.reader ≡ record { bits = bits_of l.fn.order l.fn.octets; place = l.passed.at };
  runs : AreRunsBefore l.fn.to.page.width (bits_of l.fn.order l.fn.octets) l.fn.to.page.rows l.fn.to.place l.passed;
  within : l.passed.at ≤ length (bits_of l.fn.order l.fn.octets);
}

abbrev pub decreases-loop-run : goal.decreases-loop-run
decreases-loop-run l = length (bits_of l.fn.order l.fn.octets) - l.passed.at
