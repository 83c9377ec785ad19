use Rattle.std.proofs.Common.{ℕ, ◌≡◌, ◌≤◌, ◌<◌, ◌+◌, ◌-◌, ◌*◌, ◌%◌, drop, get_or, length, false}
use Rattle.raster.specs.Packed.{bit_in}
use Rattle.raster.specs.declared.packed.Order.TheVariants.{MsbFirst}
use Rattle.raster.proofs.PaintingLemmas.{IsDrawn}
use Rattle.raster.proofs.painting.paint_turns.Given as goal

abbrev pub invariant-loop-at : goal.invariant-loop-at
invariant-loop-at l = record {
  within : l.at ≤ length l.places;
  room : l.width + 64 ≤ 8 * length l.octets;
  begun : 64 ≤ l.brush.end;
  aligned : l.brush.end % 64 ≡ 0;
  low : l.at < length l.places → l.brush.end ≤ get_or l.places l.at 0 + 64;
  below : l.brush.end ≤ l.width + 64;
  clear : (k : ℕ) → l.brush.end ≤ k + 64 → bit_in MsbFirst l.octets k ≡ false;
  drawn : IsDrawn l.octets (l.brush.end - 64) l.brush.word (drop l.at l.places) l.places;
}

abbrev pub decreases-loop-at : goal.decreases-loop-at
decreases-loop-at l = length l.places - l.at
