use Rattle.std.proofs.Common.{◌+◌, ◌-◌, ◌≡◌, length}
use Rattle.raster.specs.declared.row.Color.TheVariants.{White}
use Rattle.run_tables.specs.RowReading.{IsInRow}
use Rattle.run_tables.specs.Windows.{IsWindow, passed}
use Rattle.run_tables.proofs.reader.BitReader.quick_runs.Given as goal

abbrev pub invariant-loop-room : goal.invariant-loop-room
invariant-loop-room l = record {
  window : IsWindow l.window.reader l.window.used l.window.word;
  row : IsInRow l.width l.fn.self (passed l.window.reader l.window.used) l.runs.items l.color l.room;
  white : l.color ≡ White;
}

abbrev pub decreases-loop-room : goal.decreases-loop-room
decreases-loop-room l = length l.window.reader.bits - (l.window.reader.place + l.window.used)
