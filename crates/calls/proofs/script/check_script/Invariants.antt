-- What holds in the loop of `check_script`.
use Rattle.std.proofs.Common.{length}
use Rattle.calls.proofs.FollowedScripts.{IsReadSoFar}
use Rattle.calls.proofs.script.check_script.Given as goal

abbrev pub invariant-loop-line : goal.invariant-loop-line
invariant-loop-line l = IsReadSoFar l.text l.rest l.at

abbrev pub decreases-loop-line : goal.decreases-loop-line
decreases-loop-line l = length l.rest
