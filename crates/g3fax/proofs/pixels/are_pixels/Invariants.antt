use Rattle.std.proofs.Common.{ℕ, ◌<◌, ◌↔◌, IsTrue, slice_index}
use Rattle.g3fax.proofs.pixels.are_pixels.Given as goal

abbrev pub invariant-loop-octet : goal.invariant-loop-octet
invariant-loop-octet l = IsTrue l.all ↔ ((k : ℕ) → k < l.octet-index → slice_index l.fn.octets k < 2)
