use Rattle.std.proofs.Common.{ℕ, ◌≡◌, ◌≤◌, ◌<◌, ◌-◌, ◌*◌}
use Rattle.raster.specs.Packed.{bit_in}
use Rattle.raster.specs.declared.packed.Order.TheVariants.{MsbFirst}
use Rattle.raster.proofs.words.are_bits.Given as goal

abbrev pub invariant-loop-at : goal.invariant-loop-at
invariant-loop-at l = record {
  within : l.at ≤ l.whole;
  same : (k : ℕ) → k < 8 * l.at → bit_in MsbFirst l.octets k ≡ l.bit;
}

abbrev pub decreases-loop-at : goal.decreases-loop-at
decreases-loop-at l = l.whole - l.at
