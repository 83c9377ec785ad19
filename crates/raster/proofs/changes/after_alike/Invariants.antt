use Rattle.std.proofs.Common.{ℕ, ◌≡◌, ◌≤◌, ◌+◌, ◌-◌, ◌*◌, ◌%◌}
use Rattle.raster.specs.Changes.{NextTurns, bit_before}
use Rattle.raster.proofs.changes.after_alike.Given as goal

abbrev pub invariant-loop-at : goal.invariant-loop-at
invariant-loop-at l = record {
  aligned : l.at % 8 ≡ 0;
  high : 8 * l.at ≤ l.end + 64;
  further : l.from ≤ l.at;
  before : bit_before l.octets (8 * l.at) ≡ l.bit;
  goes_on : (next turned : ℕ) → NextTurns l.octets l.end l.at next turned → NextTurns l.octets l.end l.from next turned;
}

abbrev pub decreases-loop-at : goal.decreases-loop-at
decreases-loop-at l = l.end + 64 - 8 * l.at
