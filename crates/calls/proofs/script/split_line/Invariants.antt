-- What holds in the loop of `split_line`.
use Rattle.std.proofs.Common.{◌<◌, ◌≢◌, ℕ, slice_index}
use Rattle.calls.proofs.script.split_line.Given as goal

abbrev pub invariant-loop-place : goal.invariant-loop-place
invariant-loop-place l = (k : ℕ) → k < l.place → slice_index l.text k ≢ 10
