use Rattle.std.proofs.Common.{ℕ, ◌≡◌, ◌≤◌, ◌+◌, ◌-◌, ◌*◌, ◌%◌, drop, sum, length, false}
use Rattle.raster.specs.Packed.{bit_in}
use Rattle.raster.specs.Painting.{ends_of}
use Rattle.raster.specs.declared.packed.Order.TheVariants.{MsbFirst}
use Rattle.raster.proofs.PaintingLemmas.{IsDrawn}
use Rattle.raster.proofs.painting.paint.Given as goal

abbrev pub invariant-loop-at : goal.invariant-loop-at
invariant-loop-at l = record {
  within : l.at ≤ length l.runs;
  room : l.width + 64 ≤ 8 * length l.octets;
  left : l.place + sum (drop l.at l.runs) ≡ l.width;
  begun : 64 ≤ l.brush.end;
  aligned : l.brush.end % 64 ≡ 0;
  low : l.brush.end ≤ l.place + 64;
  clear : (k : ℕ) → l.brush.end ≤ k + 64 → bit_in MsbFirst l.octets k ≡ false;
  drawn : IsDrawn l.octets (l.brush.end - 64) l.brush.word (ends_of l.place (drop l.at l.runs)) (ends_of 0 l.runs);
}

abbrev pub decreases-loop-at : goal.decreases-loop-at
decreases-loop-at l = length l.runs - l.at
