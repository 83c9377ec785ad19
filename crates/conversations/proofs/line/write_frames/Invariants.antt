-- What holds in the loop of `write_frames`.
use Rattle.std.proofs.Common.{length}
use Rattle.conversations.proofs.FrameWords.{FramesLeft}
use Rattle.conversations.proofs.line.write_frames.Given as goal

abbrev pub invariant-loop-rest : goal.invariant-loop-rest
invariant-loop-rest l = FramesLeft l.text l.rest l.initial.writer l.writer

abbrev pub decreases-loop-rest : goal.decreases-loop-rest
decreases-loop-rest l = length l.rest
