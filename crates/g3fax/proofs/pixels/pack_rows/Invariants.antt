use Rattle.std.proofs.Common.{ℕ, ◌≡◌, ◌≤◌, ◌*◌, length, slice_index}
use Rattle.raster.specs.Pbm.{stride}
use Rattle.g3fax.specs.PixelRows.{AreFilled, SamePixels}
use Rattle.g3fax.proofs.pixels.pack_rows.Given as goal

abbrev pub invariant-loop-row : goal.invariant-loop-row
invariant-loop-row l = record {
  same : SamePixels l.fn.width l.row l.fn.pixels l.buffer;
  filled : AreFilled l.fn.width l.row l.buffer;
  rest : (k : ℕ) → l.row * stride l.fn.width ≤ k → slice_index l.buffer k ≡ slice_index l.fn.buffer k;
  room : length l.buffer ≡ length l.fn.buffer;
}
