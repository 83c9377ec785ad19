use Rattle.std.proofs.Common.{ℕ, ◌≡◌, ◌≤◌, ◌<◌, ◌+◌, ◌-◌, ◌*◌, ◌%◌}
use Rattle.std.specs.Prelude.{IsTrue}
use Rattle.raster.specs.Packed.{bit_in}
use Rattle.raster.specs.declared.packed.Order.TheVariants.{MsbFirst}
use Rattle.raster.proofs.words.block_is.Given as goal

abbrev pub invariant-loop-next : goal.invariant-loop-next
invariant-loop-next l = record {
  high : l.next ≤ 64;
  aligned : l.next % 8 ≡ 0;
  all : IsTrue l.all → (k : ℕ) → 8 * l.at ≤ k → k < 8 * (l.at + l.next) → bit_in MsbFirst l.octets k ≡ l.bit;
}

abbrev pub decreases-loop-next : goal.decreases-loop-next
decreases-loop-next l = 64 - l.next
