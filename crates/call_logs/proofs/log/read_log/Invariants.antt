-- What holds in the loop of `read_log`.
use Rattle.std.proofs.Common.{◌≡◌, ◌≤◌, ◌+◌, length, map}
use Rattle.std.specs.Prelude.{Some}
use Rattle.call_logs.specs.Logs.{log_in, pieces, plain_frame, with_lines}
use Rattle.call_logs.proofs.log.read_log.Given as goal

abbrev pub invariant-loop-line : goal.invariant-loop-line
invariant-loop-line l = record {
  left : with_lines (Some (map plain_frame l.frames.items)) l.before (pieces 10 l.rest) ≡ log_in l.octets;
  few : l.before + length l.rest ≤ length l.octets;
}

abbrev pub decreases-loop-line : goal.decreases-loop-line
decreases-loop-line l = length l.rest
