-- What holds in the loop of `ladder_of`.
use Rattle.std.proofs.Common.{◌≡◌, ◌+◌, None, length}
use Rattle.call_pictures.proofs.CapturedCalls.{DrawnSo}
use Rattle.call_pictures.proofs.captured_call.ladder_of.Given as goal

abbrev pub invariant-loop-frame : goal.invariant-loop-frame
invariant-loop-frame l =
    DrawnSo l.initial.caller l.initial.answerer l.caller l.answerer l.before l.ladder.entries × (l.ladder.feet ≡ None)

abbrev pub decreases-loop-frame : goal.decreases-loop-frame
decreases-loop-frame l = length l.caller + length l.answerer
