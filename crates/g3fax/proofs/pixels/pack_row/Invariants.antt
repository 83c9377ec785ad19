use Rattle.std.proofs.Common.{ℕ, ◌≡◌, ◌≢◌, ◌≤◌, ◌<◌, ◌+◌, ◌-◌, ◌*◌, ◌/◌, ◌%◌, ◌⊎◌, length, slice_index}
use Rattle.raster.specs.Pbm.{stride}
use Rattle.g3fax.specs.PixelRows.{pixel_before}
use Rattle.std.specs.Int.{bit_at}
use Rattle.g3fax.proofs.pixels.pack_row.Given as goal

abbrev pub invariant-loop-octet : goal.invariant-loop-octet
invariant-loop-octet l = record {
  row : (at k : ℕ) → at < l.octet → k < 8 →
      bit_at (slice_index l.buffer (l.fn.start + at)) (7 - k) ≡ pixel_before (l.fn.from + l.fn.width) l.fn.pixels (l.fn.from + (8 * at + k));
  others : (k : ℕ) → (k < l.fn.start) ⊎ (l.fn.start + stride l.fn.width ≤ k) →
      slice_index l.buffer k ≡ slice_index l.fn.buffer k;
  room : length l.buffer ≡ length l.fn.buffer;
}
