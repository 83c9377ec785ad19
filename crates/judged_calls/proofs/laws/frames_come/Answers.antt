use Rattle.judged_calls.proofs.FramesCome.{told_have_come}
use Rattle.judged_calls.proofs.laws.frames_come.Goals as goal

pub returns : goal.returns
returns c = told_have_come c.headline.ensures.facts
