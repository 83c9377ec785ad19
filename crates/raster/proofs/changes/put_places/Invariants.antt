use Rattle.std.proofs.Common.{◌≡◌, length, take}
use Rattle.raster.proofs.ChangeLemmas.{Put}
use Rattle.raster.proofs.changes.put_places.Given as goal

abbrev pub invariant-loop-rest : goal.invariant-loop-rest
invariant-loop-rest l = record {
  length : length l.out.items ≡ length l.fn.out.items;
  put : Put l.word l.base l.rest (take l.index l.fn.out.items) (take l.next l.out.items) l.index l.next;
}

abbrev pub decreases-loop-rest : goal.decreases-loop-rest
decreases-loop-rest l = l.rest
