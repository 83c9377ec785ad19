use Rattle.std.proofs.Common.{◌+◌, ◌-◌, ◌≡◌, length}
use Rattle.raster.specs.declared.row.Color.TheVariants.{White}
use Rattle.raster.specs.Painting.{FitsPainter}
use Rattle.run_tables.specs.RowReading.{PaintsRuns}
use Rattle.run_tables.specs.Windows.{IsWindow, passed}
use Rattle.run_tables.proofs.reader.BitReader.paint_rest.Given as goal

abbrev pub invariant-loop-room : goal.invariant-loop-room
invariant-loop-room l = record {
  window : IsWindow l.window.reader l.window.used l.window.word;
  fits : FitsPainter l.painter;
  wide : l.painter.width ≡ l.fn.painter.width;
  left : l.painter.place + l.room ≡ l.fn.painter.width;
  row : PaintsRuns l.fn.painter.width l.self (passed l.window.reader l.window.used) l.painter White l.room;
}

abbrev pub decreases-loop-room : goal.decreases-loop-room
decreases-loop-room l = length l.window.reader.bits - (l.window.reader.place + l.window.used)
