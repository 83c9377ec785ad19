-- What holds in the loop of `told_in`.
use Rattle.std.proofs.Common.{◌≡◌, ◌+◌, ◌++◌, drop, map}
use Rattle.call_logs.specs.Logs.{plain_frame}
use Rattle.call_logs.specs.Told.{plain_told, told_in}
use Rattle.call_logs.proofs.verdicts.told_in.Given as goal

abbrev pub invariant-loop-at : goal.invariant-loop-at
invariant-loop-at l =
    map plain_told l.told.items ++ told_in (l.at + 1) (map plain_frame (drop l.at l.frames)) ≡ told_in 1 (map plain_frame l.fn.frames)
