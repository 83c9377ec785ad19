-- What holds in the loop of `plain_count`.
use Rattle.std.proofs.Common.{◌<◌, ◌≢◌, ℕ, slice_index}
use Rattle.conversations.proofs.reading.plain_count.Given as goal

abbrev pub invariant-loop-place : goal.invariant-loop-place
invariant-loop-place l = (k : ℕ) → k < l.place → slice_index l.octets k ≢ 10
