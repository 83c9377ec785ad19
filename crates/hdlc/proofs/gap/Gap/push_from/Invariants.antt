use Rattle.std.proofs.Common.{◌++◌, ◌∷◌, [], List, Bool, drop}
use Rattle.raster.specs.Packed.{bits_in}
use Rattle.raster.specs.declared.packed.Order.TheVariants.{LsbFirst}
use Rattle.hdlc.specs.Collects.{Collects}
use Rattle.hdlc.proofs.gap.Gap.push_from.Given as goal

abbrev pub invariant-loop-place : goal.invariant-loop-place
invariant-loop-place l = (gap : List Bool) → Collects l.fn.self gap
    → Collects l.self (gap ++ drop l.start (bits_in LsbFirst (l.octet ∷ []) l.place))
