use Rattle.judged_calls.proofs.AskedFrames.{sends_what_is_asked}
use Rattle.judged_calls.proofs.laws.frames_are_asked_for.Goals as goal

pub returns : goal.returns
returns c = sends_what_is_asked c.headline.ensures.facts
