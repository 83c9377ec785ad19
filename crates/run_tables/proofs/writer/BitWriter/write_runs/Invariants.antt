use Rattle.std.proofs.Common.{length, ◌-◌, List, ◌≡◌, ◌<◌}
use Rattle.std.specs.Prelude.{slice_index_or}
use Rattle.raster.specs.Changes.{AreChanges}
use Rattle.raster.specs.declared.row.Color.{Color}
use Rattle.raster.specs.declared.row.Color.TheVariants.{Black}
use Rattle.run_tables.specs.Written.{KeepsBits}
use Rattle.run_tables.proofs.RowWriting.{WritesTo}
use Rattle.run_tables.proofs.writer.BitWriter.write_runs.Given as goal

-- the runs up to a place are written, which is the changing position before an index
abbrev pub invariant-loop-index : goal.invariant-loop-index
invariant-loop-index l = record {
  written : (row : List Color) → AreChanges row l.places → length row ≡ l.width → WritesTo row l.fn.self l.self l.at Black;
  keeps : KeepsBits l.fn.self l.self;
  some : 0 < l.index;
  place : l.at ≡ slice_index_or l.places (l.index - 1) l.width;
}

abbrev pub decreases-loop-index : goal.decreases-loop-index
decreases-loop-index l = length l.places - l.index
