use Rattle.captures.proofs.CapturesMean.{blocks_end, captures_mean, frames_are_kept, others_change_nothing, resends_are_the_same}
use Rattle.captures.proofs.laws.captures_mean.Goals as goal

pub returns-clause-sequences : goal.returns-clause-sequences
returns-clause-sequences c = captures_mean

pub returns-clause-others : goal.returns-clause-others
returns-clause-others c = others_change_nothing

pub returns-clause-frames : goal.returns-clause-frames
returns-clause-frames c = frames_are_kept

pub returns-clause-ends : goal.returns-clause-ends
returns-clause-ends c = blocks_end

pub returns-clause-resends : goal.returns-clause-resends
returns-clause-resends c = resends_are_the_same
