-- What holds in the loop of `split_at_first`.
use Rattle.std.proofs.Common.{take}
use Rattle.call_logs.proofs.Splitting.{HasNone}
use Rattle.call_logs.proofs.pieces.split_at_first.Given as goal

abbrev pub invariant-loop-place : goal.invariant-loop-place
invariant-loop-place l = HasNone l.separator (take l.place l.octets)
