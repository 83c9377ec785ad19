use Rattle.std.proofs.Common.{◌≡◌, ◌+◌, ◌-◌, ◌≤◌, drop, length}
use Rattle.raster.specs.declared.coding.Coding.TheVariants.{T6}
use Rattle.run_tables.specs.Numbers.{AreFirst}
use Rattle.run_tables.specs.Reading.{rest_of}
use Rattle.page_code.specs.RowsSoFar.{IsReadTo}
use Rattle.page_code.specs.TwoDimensions.Positions.{white_line}
use Rattle.page_code.specs.TwoDimensions.Writing.{reference_at}
use Rattle.page_code.proofs.t6.read.white_rows.Given as goal

abbrev pub invariant-loop-word : goal.invariant-loop-word
invariant-loop-word l = record {
  width : l.to.page.width ≡ l.fn.to.page.width;
  fine : l.to.page.fine ≡ l.fn.to.page.fine;
  few : l.used ≤ 57;
  same : l.reader ≡ l.fn.reader;
  word : AreFirst (57 - l.used) (drop l.used (rest_of l.reader)) l.word;
  rows : length l.to.page.rows ≡ length l.fn.to.page.rows + l.used;
  read : IsReadTo T6 l.to.page.width l.reader.bits l.to.page.rows (l.reader.place + l.used);
  white : reference_at (white_line l.to.page.width) l.to.page.rows (length l.to.page.rows) ≡ white_line l.to.page.width;
}

abbrev pub decreases-loop-word : goal.decreases-loop-word
decreases-loop-word l = 57 - l.used
