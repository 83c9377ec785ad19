-- What holds in the loop of `write_contents`.
use Rattle.std.proofs.Common.{length}
use Rattle.conversations.proofs.Written.{HasWritten}
use Rattle.conversations.proofs.writing.write_contents.Given as goal
use Rattle.conversations.specs.FrameLines.{contents_text}

abbrev pub invariant-loop-content : goal.invariant-loop-content
invariant-loop-content g l =
    HasWritten (contents_text l.initial.ear.queue) (contents_text l.ear.queue) (g.W.Write.contents l.initial.writer)
    (g.W.Write.contents l.writer)

abbrev pub decreases-loop-content : goal.decreases-loop-content
decreases-loop-content g l = length l.ear.queue
