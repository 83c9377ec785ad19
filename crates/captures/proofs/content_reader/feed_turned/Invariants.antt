-- What holds in the loop of `feed_turned`.
use Rattle.std.proofs.Common.{ℕ, Bool, List, ◌++◌, take}
use Rattle.hdlc.specs.DeframerState.{IsAfter}
use Rattle.raster.specs.Packed.{bits_of}
use Rattle.raster.specs.declared.packed.Order.TheVariants.{MsbFirst}
use Rattle.captures.proofs.content_reader.feed_turned.Given as goal

abbrev pub invariant-loop-octet : goal.invariant-loop-octet
invariant-loop-octet l =
    (bits : List Bool) (handed : ℕ) → IsAfter l.initial.deframer bits handed
    → IsAfter l.deframer (bits ++ bits_of MsbFirst (take l.octet-index l.piece)) handed
