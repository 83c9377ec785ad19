use Rattle.std.proofs.Common.{length}
use Rattle.uses.proofs.frames.list_frames.Given as goal

abbrev pub decreases-loop-content : goal.decreases-loop-content
decreases-loop-content l = length l.deframer.queue
