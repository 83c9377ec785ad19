use Rattle.std.proofs.Common.{◌≡◌, ◌≤◌, ◌<◌, ℕ, length, false}
use Rattle.partial_page.specs.Store.{is_marked, bit_of}
use Rattle.partial_page.proofs.store.BlockStore.missing.Given as goal

abbrev pub invariant-loop-number : goal.invariant-loop-number
invariant-loop-number l = record {
  size : length l.octets ≡ 32;
  marked : (k : ℕ) → k < l.number → bit_of l.octets k ≡ is_marked l.self.frames l.last k;
  later : (k : ℕ) → l.number ≤ k → k < 256 → bit_of l.octets k ≡ false;
}
