use Rattle.judged_calls.proofs.CountsSaid.{counts_go_on}
use Rattle.judged_calls.proofs.laws.counts_go_on.Goals as goal

pub returns : goal.returns
returns c = counts_go_on c.answerers_keep.ensures.keep c.marks.ensures.neighbours c.headline.ensures.facts
