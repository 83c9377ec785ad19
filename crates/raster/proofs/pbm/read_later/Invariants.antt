use Rattle.std.proofs.Common.{◌≡◌, ◌≤◌, ◌+◌, length}
use Rattle.raster.specs.Pbm.{with_kept, images_of}
use Rattle.raster.proofs.pbm.read_later.Given as goal

abbrev pub invariant-loop-rest : goal.invariant-loop-rest
invariant-loop-rest l = record {
  read : with_kept l.all l.document l.count (images_of l.fine l.rest) ≡ with_kept l.all l.fn.document l.fn.count (images_of l.fine l.octets);
  few : l.count + length l.rest ≤ l.fn.count + length l.octets;
}

abbrev pub decreases-loop-rest : goal.decreases-loop-rest
decreases-loop-rest l = length l.rest
