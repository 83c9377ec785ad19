use Rattle.raster.proofs.WordLemmas.{kept_in_order}
use Rattle.raster.proofs.words.in_order.Goals as goal

pub returns-in-LsbFirst : goal.returns-in-LsbFirst
returns-in-LsbFirst c k h = rw c.in-LsbFirst.is (c.turned_word.ensures k h)

pub returns-in-MsbFirst : goal.returns-in-MsbFirst
returns-in-MsbFirst c k h = rw c.in-MsbFirst.is (kept_in_order c.args.word k h)
