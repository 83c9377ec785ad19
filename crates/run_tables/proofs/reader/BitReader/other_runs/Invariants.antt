use Rattle.std.proofs.Common.{ℕ, ◌-◌, length}
use Rattle.run_tables.specs.Reading.{Reading}
use Rattle.run_tables.specs.RowReading.{IsInRow}
use Rattle.run_tables.proofs.reader.BitReader.other_runs.Given as goal

abbrev pub invariant-loop-room : goal.invariant-loop-room
invariant-loop-room l = (width : ℕ) (start : Reading) → IsInRow width start l.fn.self l.fn.runs.items l.fn.next l.fn.left
    → IsInRow width start l.self l.runs.items l.color l.room

abbrev pub decreases-loop-room : goal.decreases-loop-room
decreases-loop-room l = length l.self.bits - l.self.place
