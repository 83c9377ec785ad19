use Rattle.judged_calls.proofs.FrameSizes.{frames_have_lengths}
use Rattle.judged_calls.proofs.laws.frames_have_lengths.Goals as goal

pub returns : goal.returns
returns c = frames_have_lengths c.headline.ensures.facts
