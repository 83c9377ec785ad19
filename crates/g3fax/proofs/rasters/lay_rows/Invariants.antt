use Rattle.std.proofs.Common.{◌≡◌, ◌≤◌, ◌*◌, drop, length, take}
use Rattle.g3fax.specs.Rasters.{LaysRows}
use Rattle.g3fax.proofs.rasters.lay_rows.Given as goal

abbrev pub invariant-loop-number : goal.invariant-loop-number
invariant-loop-number l = record {
  below : l.number ≤ length l.rows;
  long : length l.buffer ≡ length l.fn.buffer;
  front : take (l.apart * l.number) l.buffer ≡ take (l.apart * l.number) l.fn.buffer;
  laid : LaysRows l.apart (drop l.number l.rows) (drop (l.apart * l.number) l.fn.buffer) (drop (l.apart * l.number) l.buffer);
}

abbrev pub decreases-loop-number : goal.decreases-loop-number
decreases-loop-number l = l.number
