use Rattle.std.proofs.Common.{◌++◌, ◌∷◌, [], ℕ, List, Bool}
use Rattle.raster.specs.Packed.{bits_in}
use Rattle.raster.specs.declared.packed.Order.TheVariants.{LsbFirst}
use Rattle.hdlc.specs.Contents.{contents_of}
use Rattle.hdlc.specs.DeframerParts.{PartsAfter, Grows}
use Rattle.hdlc.proofs.flag_finder.take_each.Given as goal

abbrev pub invariant-loop-place : goal.invariant-loop-place
invariant-loop-place l = record {
  taken : (bits : List Bool) (handed : ℕ) → PartsAfter l.fn.finder l.fn.counts (contents_of l.fn.queue.items) bits handed
      → PartsAfter l.finder l.counts (contents_of l.queue.items) (bits ++ bits_in LsbFirst (l.octet ∷ []) l.place) handed;
  keeps : Grows l.fn.queue.items l.queue.items;
}
