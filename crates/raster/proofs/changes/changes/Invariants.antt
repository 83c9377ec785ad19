use Rattle.std.proofs.Common.{ℕ, ◌≡◌, ◌≤◌, ◌<◌, ◌+◌, ◌-◌, ◌*◌, ◌%◌, length, take}
use Rattle.raster.specs.Changes.{Lists, turns_below}
use Rattle.raster.specs.Words.{bit_of_word}
use Rattle.raster.proofs.changes.changes.Given as goal

abbrev pub invariant-loop-at : goal.invariant-loop-at
invariant-loop-at l = record {
  within : l.next ≤ length l.out.items;
  aligned : l.at % 8 ≡ 0;
  high : 8 * l.at ≤ l.width + 128;
  word : (k : ℕ) → k < 64 → bit_of_word l.turned k ≡ turns_below l.octets l.width (8 * l.at + k);
  listed : Lists (turns_below l.octets l.width) l.fn.out.items (take l.next l.out.items) 0 (8 * l.at);
}

abbrev pub decreases-loop-at : goal.decreases-loop-at
decreases-loop-at l = l.width - l.at
