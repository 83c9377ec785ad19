use Rattle.std.proofs.Common.{◌≡◌, ◌≤◌, ◌+◌, drop}
use Rattle.stations.specs.HowFar.{open_count}
use Rattle.stations.proofs.answerer.count_frames.Given as goal

abbrev pub invariant-loop-number : goal.invariant-loop-number
invariant-loop-number l = record {
  counted : l.count + open_count (drop l.number l.store.frames) ≡ open_count l.fn.store.frames;
  few : l.count ≤ l.number;
}
