use Rattle.std.proofs.Common.{◌≤◌, ◌-◌, ◌++◌, ℕ, List, Bool, take, length}
use Rattle.raster.specs.Packed.{bits_of}
use Rattle.raster.specs.declared.packed.Order.TheVariants.{LsbFirst}
use Rattle.hdlc.specs.Contents.{contents_of}
use Rattle.hdlc.specs.DeframerState.{IsAfter}
use Rattle.hdlc.specs.DeframerParts.{PartsAfter, Grows}
use Rattle.hdlc.proofs.deframer.Deframer.take_all.Given as goal

abbrev pub invariant-loop-at : goal.invariant-loop-at
invariant-loop-at l = record {
  within : l.at ≤ length l.piece;
  taken : (bits : List Bool) (handed : ℕ) → IsAfter l.fn.self bits handed
      → PartsAfter l.self-inside.finder l.self-inside.counts (contents_of l.self-inside.queue.items) (bits ++ bits_of LsbFirst (take l.at l.piece)) handed;
  keeps : Grows l.initial.self-inside.queue.items l.self-inside.queue.items;
}

abbrev pub decreases-loop-at : goal.decreases-loop-at
decreases-loop-at l = length l.piece - l.at
