use Rattle.std.proofs.Common.{length, ◌-◌, ℕ, ◌≡◌, ◌≤◌, ◌<◌, ◌*◌, slice_index}
use Rattle.raster.specs.Packed.{bit_in}
use Rattle.raster.specs.Text.{bit_text}
use Rattle.raster.specs.declared.packed.Order.TheVariants.{MsbFirst}
use Rattle.raster.proofs.text.put_pixels.Given as goal

abbrev pub invariant-loop-at : goal.invariant-loop-at
invariant-loop-at l = record {
  within : l.at ≤ length l.octets;
  long : length l.text ≡ length l.fn.text;
  written : (k : ℕ) → k < 8 * l.at → slice_index l.text k ≡ bit_text (bit_in MsbFirst l.octets k);
}

abbrev pub decreases-loop-at : goal.decreases-loop-at
decreases-loop-at l = length l.octets - l.at
