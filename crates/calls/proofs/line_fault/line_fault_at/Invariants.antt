-- What holds in the loop of `line_fault_at`.
use Rattle.std.proofs.Common.{length}
use Rattle.calls.proofs.ScriptLines.{LinesBefore}
use Rattle.calls.proofs.line_fault.line_fault_at.Given as goal

abbrev pub invariant-loop-line : goal.invariant-loop-line
invariant-loop-line l = LinesBefore l.text l.rest l.at

abbrev pub decreases-loop-line : goal.decreases-loop-line
decreases-loop-line l = length l.rest
