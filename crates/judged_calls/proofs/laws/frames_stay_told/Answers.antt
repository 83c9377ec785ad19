use Rattle.judged_calls.proofs.AsksAgain.{tells_stay}
use Rattle.judged_calls.proofs.laws.frames_stay_told.Goals as goal

pub returns : goal.returns
returns c = tells_stay c.answerers_keep.ensures.keep c.headline.ensures.facts
