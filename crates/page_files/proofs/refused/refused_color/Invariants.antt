-- What holds in the loop of `refused_color`.
use Rattle.std.proofs.Common.{◌≡◌}
use Rattle.page_files.proofs.refused.refused_color.Given as goal

abbrev pub invariant-loop-number : goal.invariant-loop-number
invariant-loop-number l = l.reader.bits ≡ l.fn.reader.bits
