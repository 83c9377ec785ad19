use Rattle.std.proofs.Common.{ℕ, ◌≡◌, ◌≤◌, ◌*◌, length, slice_index}
use Rattle.g3fax.specs.PixelRows.{SamePixels}
use Rattle.g3fax.proofs.pixels.unpack_rows.Given as goal

abbrev pub invariant-loop-row : goal.invariant-loop-row
invariant-loop-row l = record {
  same : SamePixels l.fn.width l.row l.buffer l.fn.packed;
  rest : (k : ℕ) → l.row * l.fn.width ≤ k → slice_index l.buffer k ≡ slice_index l.fn.buffer k;
  room : length l.buffer ≡ length l.fn.buffer;
}
