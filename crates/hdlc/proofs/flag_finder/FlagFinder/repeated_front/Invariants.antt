use Rattle.std.proofs.Common.{◌≤◌, ◌++◌, ℕ, List, Bool, take, length, ◌-◌}
use Rattle.raster.specs.Packed.{bits_of}
use Rattle.raster.specs.declared.packed.Order.TheVariants.{LsbFirst}
use Rattle.hdlc.specs.declared.counts.Counts.{Counts}
use Rattle.hdlc.specs.DeframerParts.{PartsAfter}
use Rattle.hdlc.proofs.flag_finder.FlagFinder.repeated_front.Given as goal

abbrev pub invariant-loop-count : goal.invariant-loop-count
invariant-loop-count l = record {
  within : l.count ≤ length l.octets;
  same : (counts : Counts) (queue : List (List ℕ)) (bits : List Bool) (handed : ℕ) → PartsAfter l.self counts queue bits handed
      → PartsAfter l.self counts queue (bits ++ bits_of LsbFirst (take l.count l.octets)) handed;
}

abbrev pub decreases-loop-count : goal.decreases-loop-count
decreases-loop-count l = length l.octets - l.count
