-- What holds in the loop of `follow_script`.
use Rattle.std.proofs.Common.{length}
use Rattle.calls.proofs.FollowedScripts.{FollowedSoFar}
use Rattle.calls.proofs.call.follow_script.Given as goal

abbrev pub invariant-loop-line : goal.invariant-loop-line
invariant-loop-line g l =
    FollowedSoFar l.script l.rest l.at l.fn.live l.live l.fn.number l.number (g.T.CallWriter.written l.fn.writer)
    (g.T.CallWriter.written l.writer)

abbrev pub decreases-loop-line : goal.decreases-loop-line
decreases-loop-line g l = length l.rest
