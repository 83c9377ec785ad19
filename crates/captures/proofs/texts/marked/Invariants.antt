-- What holds in the loop of `marked`.
use Rattle.std.proofs.Common.{◌≡◌, ◌≤◌}
use Rattle.std.specs.List.{fold}
use Rattle.raster.specs.Packed.{bits_in}
use Rattle.raster.specs.declared.packed.Order.TheVariants.{LsbFirst}
use Rattle.captures.specs.Texts.{and_bit}
use Rattle.captures.proofs.texts.marked.Given as goal

abbrev pub invariant-loop-number : goal.invariant-loop-number
invariant-loop-number l = (l.count ≡ fold and_bit 0 (bits_in LsbFirst l.map l.number)) × (l.count ≤ l.number)
