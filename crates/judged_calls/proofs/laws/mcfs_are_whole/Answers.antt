use Rattle.judged_calls.proofs.BlocksWhole.{confirmed_are_whole}
use Rattle.judged_calls.proofs.laws.mcfs_are_whole.Goals as goal

pub returns : goal.returns
returns c = confirmed_are_whole c.answerers_keep.ensures.keep c.headline.ensures.facts
