use Rattle.std.proofs.Common.{◌≡◌, ◌-◌, length}
use Rattle.run_tables.specs.Reading.{rest_of}
use Rattle.run_tables.specs.Texts.{all_zero}
use Rattle.page_code.proofs.t6.read.only_zeros.Given as goal

abbrev pub invariant-loop-ahead : goal.invariant-loop-ahead
invariant-loop-ahead l = all_zero (rest_of l.ahead) ≡ all_zero (rest_of l.reader)

abbrev pub decreases-loop-ahead : goal.decreases-loop-ahead
decreases-loop-ahead l = length l.ahead.bits - l.ahead.place
