use Rattle.std.proofs.Common.{List, ◌≡◌, ◌≤◌, ◌+◌, ◌-◌, drop}
use Rattle.raster.specs.declared.row.Color.{Color}
use Rattle.run_tables.specs.Numbers.{AreFirst}
use Rattle.run_tables.specs.Reading.{rest_of}
use Rattle.page_code.specs.TwoDimensions.Changes.{AreHeld}
use Rattle.page_code.specs.TwoDimensions.Lines.{FitsLists, line_of}
use Rattle.page_code.specs.TwoDimensions.Reading.{StepsAlong}
use Rattle.page_code.proofs.t6.read.quick_modes.Given as goal

abbrev pub invariant-loop-used : goal.invariant-loop-used
invariant-loop-used l = record {
  fits : FitsLists l.held l.list.items l.width l.front;
  few : l.used ≤ 57;
  same : l.reader ≡ l.fn.reader;
  word : AreFirst (57 - l.used) (drop l.used (rest_of l.reader)) l.word;
  along : (reference : List Color) → AreHeld reference l.held
      → StepsAlong reference l.reader (record { bits = l.reader.bits; place = l.reader.place + l.used })
      (line_of l.fn.list.items l.fn.start)
      (line_of l.list.items l.front);
  still : l.used ≡ 0 → (l.front ≡ l.fn.start) × (l.list.items ≡ l.fn.list.items);
}

abbrev pub decreases-loop-used : goal.decreases-loop-used
decreases-loop-used l = 57 - l.used
