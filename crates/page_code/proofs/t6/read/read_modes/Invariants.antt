use Rattle.std.proofs.Common.{◌≡◌, ◌-◌, length}
use Rattle.page_code.specs.TwoDimensions.Reading.{StepsAlong}
use Rattle.page_code.proofs.t6.read.read_modes.Given as goal

abbrev pub invariant-loop-reader : goal.invariant-loop-reader
invariant-loop-reader l = record {
  same : l.lines.reference ≡ l.fn.lines.reference;
  along : StepsAlong l.fn.lines.reference l.fn.reader l.reader l.fn.lines.line l.lines.line;
}

abbrev pub decreases-loop-reader : goal.decreases-loop-reader
decreases-loop-reader l = length l.reader.bits - l.reader.place
