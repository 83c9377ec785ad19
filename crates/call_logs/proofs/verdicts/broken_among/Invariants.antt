-- What holds in the loop of `broken_among`.
use Rattle.std.proofs.Common.{◌≡◌, ◌≤◌, ◌+◌, drop}
use Rattle.call_logs.specs.Told.{broken_among}
use Rattle.call_logs.proofs.verdicts.broken_among.Given as goal

abbrev pub invariant-loop-at : goal.invariant-loop-at
invariant-loop-at l = record {
  left : l.count + broken_among (drop l.at l.found) ≡ broken_among l.fn.found;
  few : l.count ≤ l.at;
}
