use Rattle.std.proofs.Common.{ℕ, ◌≡◌, ◌≢◌, ◌≤◌, ◌<◌, ◌+◌, ◌-◌, ◌*◌, ◌/◌, ◌%◌, ◌⊎◌, length, slice_index}
use Rattle.std.specs.Int.{bit_at}
use Rattle.g3fax.proofs.pixels.unpack_row.Given as goal

abbrev pub invariant-loop-octet : goal.invariant-loop-octet
invariant-loop-octet l = record {
  row : (at k : ℕ) → at < l.octet → k < 8 → slice_index l.buffer (l.fn.start + (8 * at + k)) ≡ bit_at (slice_index l.fn.packed (l.fn.from + at)) (7 - k);
  others : (k : ℕ) → (k < l.fn.start) ⊎ (l.fn.start + l.fn.width ≤ k) → slice_index l.buffer k ≡ slice_index l.fn.buffer k;
  room : length l.buffer ≡ length l.fn.buffer;
}

abbrev pub invariant-loop-at : goal.invariant-loop-at
invariant-loop-at l = record {
  row : (at : ℕ) → at < l.at → slice_index l.buffer (l.fn.start + at) ≡ bit_at (slice_index l.fn.packed (l.fn.from + at / 8)) (7 - at % 8);
  others : (k : ℕ) → (k < l.fn.start) ⊎ (l.fn.start + l.fn.width ≤ k) → slice_index l.buffer k ≡ slice_index l.fn.buffer k;
  room : length l.buffer ≡ length l.fn.buffer;
}
