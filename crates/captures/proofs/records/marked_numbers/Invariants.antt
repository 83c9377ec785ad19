-- What holds in the loop of `marked_numbers`.
use Rattle.std.proofs.Common.{◌≡◌, map}
use Rattle.serde_json.specs.View.{view}
use Rattle.faults.specs.RecordLines.{count}
use Rattle.captures.specs.Records.{marked_below}
use Rattle.captures.proofs.records.marked_numbers.Given as goal

abbrev pub invariant-loop-number : goal.invariant-loop-number
invariant-loop-number l = map view l.numbers.items ≡ map count (marked_below l.marks l.number)
