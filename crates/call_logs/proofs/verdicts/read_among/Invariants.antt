-- What holds in the loop of `read_among`.
use Rattle.std.proofs.Common.{◌≡◌, ◌≤◌, ◌+◌, drop}
use Rattle.call_logs.specs.Told.{read_among}
use Rattle.call_logs.proofs.verdicts.read_among.Given as goal

abbrev pub invariant-loop-at : goal.invariant-loop-at
invariant-loop-at l = record {
  left : l.count + read_among (drop l.at l.found) ≡ read_among l.fn.found;
  few : l.count ≤ l.at;
}
