-- What holds in the loop of `write_repaired`.
use Rattle.std.proofs.Common.{take}
use Rattle.std.specs.Prelude.{flat_map}
use Rattle.std.specs.Io.KnownBytes.{Appends}
use Rattle.page_files.specs.Repairs.{repaired_line}
use Rattle.page_files.proofs.repair.write_repaired.Given as goal

abbrev pub invariant-loop-row : goal.invariant-loop-row
invariant-loop-row g l =
    Appends (g.L.Write.contents l.fn.lines) (g.L.Write.contents l.lines) (flat_map repaired_line (take l.row-index l.rows))
