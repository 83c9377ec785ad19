use Rattle.std.proofs.Common.{◌++◌, ◌∷◌, [], List, Bool, take}
use Rattle.raster.specs.Packed.{bits_of}
use Rattle.raster.specs.declared.packed.Order.TheVariants.{LsbFirst}
use Rattle.hdlc.specs.Collects.{Collects}
use Rattle.hdlc.proofs.gap.Gap.push_each.Given as goal

abbrev pub invariant-loop-octet : goal.invariant-loop-octet
invariant-loop-octet l = (gap : List Bool) → Collects l.fn.self gap
    → Collects l.self ((gap ++ bits_of LsbFirst (l.first ∷ [])) ++ bits_of LsbFirst (take l.octet-index l.octets))
